-- The codes of the leaves stand in the document, in order.
use Rattle.std.proofs.Common.{◌≡◌, inl, inr, ℕ, zero, suc, ◌+◌, refl, sym, ap, subst, ◌∙◌, List, [], ◌∷◌, ◌++◌, length, drop, Bool, true, false, ◌&&◌, ◌||◌, not, ◌==◌, nat_lt, nat_le, Option, Some, None, if◌then◌else◌, flat_map, map}
use Rattle.std.proofs.lemmas.List.{append_assoc, append-nil}
use Rattle.std.specs.Str.{byte}
use Rattle.std.specs.List.{list_all}
use Rattle.markdown_content.specs.Codes.{Code, codes_of, is_blank, is_line_ending}
use Rattle.markdown_content.specs.Tree.{Forest, leaf_codes}
use Rattle.markdown_model.specs.CodeTests.{is_value, is_between, is_empty, next_is}
use Rattle.markdown_model.specs.Grammar.{Reading, ◌>>=◌, ◌>>◌, gives, either, provided, span, one, any_number, before, optional_tree}
use Rattle.markdown_model.specs.Whitespace.{space_or_tab_eol}
use Rattle.markdown_model.specs.Resource.{label, reference_names, destination, resource_names, begins_title, title, title_names}
use Rattle.markdown_model.proofs.GivenByReadings.{IfGiven, given-map, given-gives, given-bind, given-either}
use Rattle.markdown_model.proofs.ReadingsCover.{Splits, Covers, itself, seen_before, takes_one, takes_any_number, covers_label, covers_title, covers_spacing, covers_destination, covers_optional_tree}
use Rattle.markdown_block_model.specs.ByteOrderMark.{mark_len, document_codes}
use Rattle.markdown_block_model.specs.LineRests.{onto_line, lines_of, indent, trimmed, is_blank_line, past_blank, skip, is_gap, first_value, count_first, onto_end, without_end, trimmed_end, only_if}
use Rattle.markdown_block_model.specs.BlockTree.{Extensions, Alignment, Marker, Container, quote, item, footnote, Fence, Leaf, blank, thematic_break, heading, underlined, paragraph, indented_code, fenced_code, html, table, front_matter, Tree, nothing, and_leaf, and_container}
use Rattle.markdown_block_model.specs.LeafStarts.{fence_least, is_break, ends_blank, heading_text, heading_at, may_be_info, fence_at, is_closing}
use Rattle.markdown_block_model.specs.HtmlStarts.{html_kind, ends_html, html_at}
use Rattle.markdown_block_model.specs.ContainerStarts.{onto_label, ends_label, label_from, is_closed_label, footnote_at, behind_quote, in_quote, quote_at, marker_at, padding, may_begin, item_by, item_at}
use Rattle.markdown_block_model.specs.Tables.{onto_part, parts_of, after_one, without_blank_end, cell_text, cells_of, is_delimiter, alignment_of, table_of, table_at, fitted, with_cells}
use Rattle.markdown_block_model.specs.FrontMatter.{is_matter_fence, onto_matter, matter_before, begins_matter, matter_at}
use Rattle.markdown_block_model.specs.BlockStarts.{Begun, leaf_begins, container_begins, leaf_begun, container_begun, first_of, begun, with_found, with_rest, with_begun, with_line}
use Rattle.markdown_block_model.specs.DocumentBlocks.{with_table_line, split_last, with_table, with_text_table, read_behind, with_fenced_line, with_indented_line, with_next, with_next_or_line, with_text_begun, with_text_level, heading_level, with_text_line, with_leaf_line, is_further_blank, rest_in_item, rest_inside, with_lazy_line, is_lazy, with_rest_inside, read_line, read_lines, blocks_of}
use Rattle.markdown_block_model.specs.LinkDefinitions.{Definition, between, destination_text, line_end, title_of_definition, definition, taken_by, taken, definitions_of, has_text, text_of_leaf, resolved}
use Rattle.markdown_block_model.specs.BlockLaws.{leaf_text, tree_text, IsPart, LeavesInOrder}

-- Parts of lists.

none : (ys : List Code) → IsPart [] ys
none [] = refl
none (y ∷ ys) = inl (none ys)

same : (xs : List Code) → IsPart xs xs
same [] = refl
same (x ∷ xs) = inr (xs, refl, same xs)

both : (us bs cs ds : List Code) → IsPart us bs → IsPart cs ds → IsPart (us ++ cs) (bs ++ ds)
both us [] cs ds h k = subst (λ x. IsPart (x ++ cs) ds) (sym h) k
both us (b ∷ bs) cs ds (inl h) k = inl (both us bs cs ds h k)
both us (b ∷ bs) cs ds (inr h) k = inr (h.0 ++ cs, ap (λ x. x ++ cs) h.1, both h.0 bs cs ds h.2 k)

later-first : (us r cs : List Code) (c : Code) → ((x : List Code) → IsPart x r → IsPart x cs) → IsPart us (c ∷ r) → IsPart us (c ∷ cs)
later-first us r cs c f (inl h) = inl (f us h)
later-first us r cs c f (inr h) = inr (h.0, h.1, f h.0 h.2)

later : (us bs cs : List Code) → IsPart us bs → IsPart bs cs → IsPart us cs
later us bs [] h k = subst (λ x. IsPart us x) k h
later us bs (c ∷ cs) h (inl k) = inl (later us bs cs h k)
later us bs (c ∷ cs) h (inr k) = later-first us k.0 cs c (λ x i. later x k.0 cs i k.2) (subst (λ x. IsPart us x) k.1 h)

front : (xs ys : List Code) → IsPart xs (xs ++ ys)
front xs ys = subst (λ x. IsPart x (xs ++ ys)) (append-nil xs) (both xs xs [] ys (same xs) (none ys))

after : (s xs ys : List Code) → IsPart xs ys → IsPart (s ++ xs) (s ++ ys)
after s xs ys h = both s s xs ys (same s) h

-- of three lists the first two stand together
after-two : (a b xs ys : List Code) → IsPart xs (b ++ ys) → IsPart (a ++ xs) ((a ++ b) ++ ys)
after-two a b xs ys h = subst (λ x. IsPart (a ++ xs) x) (sym (append_assoc a b ys)) (after a xs (b ++ ys) h)

-- Words on a line.

past : (cs : List Code) → IsPart (past_blank cs) cs
past [] = refl
past (c ∷ cs) = by_test (is_blank c)
  where
    by_test : (b : Bool) → IsPart (if b then cs else c ∷ cs) (c ∷ cs)
    by_test true = inl (same cs)
    by_test false = same (c ∷ cs)

skipped : (n : ℕ) (cs : List Code) → IsPart (skip n cs) cs
skipped zero cs = same cs
skipped (suc n) cs = later (skip n (past_blank cs)) (past_blank cs) cs (skipped n (past_blank cs)) (past cs)

dropped : (n : ℕ) (cs : List Code) → IsPart (drop n cs) cs
dropped zero cs = same cs
dropped (suc n) [] = refl
dropped (suc n) (c ∷ cs) = inl (dropped n cs)

behind-span : (p : Code → Bool) (cs : List Code) → IsPart (span p cs).1 cs
behind-span p [] = refl
behind-span p (c ∷ cs) = by_test (p c) (behind-span p cs)
  where
    by_test : (b : Bool) → IsPart (span p cs).1 cs
        → IsPart (elim b as (λ _. List Code × List Code) [ true ↦ (c ∷ (span p cs).0, (span p cs).1) | false ↦ ([], c ∷ cs) ]).1 (c ∷ cs)
    by_test true h = inl h
    by_test false h = same (c ∷ cs)

trims : (cs : List Code) → IsPart (trimmed cs) cs
trims cs = behind-span is_blank cs

on-end : (p : Code → Bool) (c : Code) (rest cs : List Code) → IsPart rest cs → IsPart (onto_end p c rest) (c ∷ cs)
on-end p c [] cs h = by_test (p c)
  where
    by_test : (b : Bool) → IsPart (if b then [] else c ∷ []) (c ∷ cs)
    by_test true = none (c ∷ cs)
    by_test false = inr ([], refl, h)
on-end p c (d ∷ ds) cs h = inr (d ∷ ds, refl, h)

ends : (p : Code → Bool) (cs : List Code) → IsPart (without_end p cs) cs
ends p [] = refl
ends p (c ∷ cs) = on-end p c (without_end p cs) cs (ends p cs)

-- What begins.

abbrev HasLeaf : List Code → Option Leaf → Type 0
HasLeaf cs None = Unit {0}
HasLeaf cs (Some l) = IsPart (leaf_text l) cs

abbrev HasRest : List Code → Option (List Code) → Type 0
HasRest cs None = Unit {0}
HasRest cs (Some rest) = IsPart rest cs

abbrev HasInside : List Code → Option (Container × List Code) → Type 0
HasInside cs None = Unit {0}
HasInside cs (Some r) = IsPart r.1 cs

abbrev HasBegun : List Code → Option Begun → Type 0
HasBegun cs None = Unit {0}
HasBegun cs (Some (leaf_begins l)) = IsPart (leaf_text l) cs
HasBegun cs (Some (container_begins c rest)) = IsPart rest cs

leaf-if : (cs : List Code) (b : Bool) (l : Leaf) → IsPart (leaf_text l) cs → HasLeaf cs (only_if b l)
leaf-if cs true l h = h
leaf-if cs false l h = tt

rest-if : (cs : List Code) (b : Bool) (rest : List Code) → IsPart rest cs → HasRest cs (only_if b rest)
rest-if cs true rest h = h
rest-if cs false rest h = tt

inside-if : (cs : List Code) (b : Bool) (r : Container × List Code) → IsPart r.1 cs → HasInside cs (only_if b r)
inside-if cs true r h = h
inside-if cs false r h = tt

closes : (cs : List Code) → IsPart (heading_text cs) cs
closes cs = by_test (ends_blank open_part)
  where
    open_part : List Code
    open_part = without_end (is_value (byte "#")) cs

    by_test : (b : Bool) → IsPart (if b then trimmed_end open_part else cs) cs
    by_test true = later (trimmed_end open_part) open_part cs (ends _ open_part) (ends _ cs)
    by_test false = same cs

-- a text behind so many codes, trimmed on both sides
between-ends : (n : ℕ) (cs : List Code) → IsPart (trimmed_end (trimmed (drop n cs))) cs
between-ends n cs =
    later (trimmed_end (trimmed (drop n cs))) (drop n cs) cs
    (later (trimmed_end (trimmed (drop n cs))) (trimmed (drop n cs)) (drop n cs) (ends _ (trimmed (drop n cs))) (trims (drop n cs)))
    (dropped n cs)

heading-part : (cs : List Code) → HasLeaf cs (heading_at cs)
heading-part cs =
    let n = count_first (byte "#") cs in
    let t = trimmed_end (trimmed (drop n cs)) in
    leaf-if cs (is_between 1 6 n && is_gap (drop n cs)) (heading n (heading_text t)) (later (heading_text t) t cs (closes t) (between-ends n cs))

fence-part : (e : Extensions) → (columns : ℕ) (cs : List Code) → HasLeaf cs (fence_at e columns cs)
fence-part e columns cs =
    let v = first_value cs in
    let n = count_first v cs in
    let info = trimmed_end (trimmed (drop n cs)) in
    leaf-if cs (nat_le (fence_least v) n && may_be_info e v (drop n cs)) (fenced_code (record { value = v; count = n; columns = columns }) info [] false)
    (subst (λ x. IsPart x cs) (sym (append-nil info)) (between-ends n cs))

html-part : (after_text : Bool) (cs : List Code) → HasLeaf cs (html_at after_text cs)
html-part after_text cs =
    let k = html_kind (trimmed cs) in
    leaf-if cs (not (k == 0 || (k == 7 && after_text))) (html k cs (ends_html k cs)) (same cs)

behind-quote-part : (cs : List Code) → HasRest cs (behind_quote cs)
behind-quote-part cs =
    let t = trimmed cs in
    rest-if cs (nat_lt (indent cs) 4 && next_is (is_value (byte ">")) t) (skip 1 (drop 1 t))
    (later (skip 1 (drop 1 t)) t cs (later (skip 1 (drop 1 t)) (drop 1 t) t (skipped 1 (drop 1 t)) (dropped 1 t)) (trims cs))

quote-part : (cs : List Code) (o : Option (List Code)) → HasRest cs o → HasInside cs (in_quote o)
quote-part cs None h = tt
quote-part cs (Some rest) h = h

item-part : (in_paragraph : Bool) (columns : ℕ) (cs : List Code) (o : Option (Marker × ℕ)) → HasInside cs (item_by in_paragraph columns cs o)
item-part in_paragraph columns cs None = tt
item-part in_paragraph columns cs (Some m) =
    let behind = drop m.1 cs in
    inside-if cs (may_begin in_paragraph m.0 behind) (item m.0 (columns + m.1 + padding behind), skip (padding behind) behind)
    (later (skip (padding behind) behind) behind cs (skipped (padding behind) behind) (dropped m.1 cs))

-- Footnote definitions.

behind-label : (taken : Bool) (cs : List Code) → IsPart (label_from taken cs).1 cs
behind-label taken [] = refl
behind-label taken (c ∷ cs) = by_test (ends_label taken c) (behind-label next cs)
  where
    next : Bool
    next = not taken && is_value (byte "\\") c

    by_test : (b : Bool) → IsPart (label_from next cs).1 cs → IsPart (if b then ([], c ∷ cs) else onto_label c (label_from next cs)).1 (c ∷ cs)
    by_test true h = same (c ∷ cs)
    by_test false h = inl h

footnote-part : (b : Bool) (cs : List Code) → HasInside cs (if b then footnote_at cs else None)
footnote-part false cs = tt
footnote-part true cs =
    inside-if cs ((next_is (is_value (byte "[")) cs && next_is (is_value (byte "^")) (drop 1 cs)) && is_closed_label found) (footnote found.0, trimmed (drop 2 found.1))
    (later (trimmed (drop 2 found.1)) (drop 2 found.1) cs (trims (drop 2 found.1))
    (later (drop 2 found.1) found.1 cs (dropped 2 found.1) (later found.1 (drop 2 cs) cs (behind-label false (drop 2 cs)) (dropped 2 cs))))
  where
    found : List Code × List Code
    found = label_from false (drop 2 cs)

of-container : (cs : List Code) (o : Option (Container × List Code)) → HasInside cs o → HasBegun cs (container_begun o)
of-container cs None h = tt
of-container cs (Some r) h = h

-- what begins in a part
of-container-in : (t cs : List Code) (o : Option (Container × List Code)) → IsPart t cs → HasInside t o → HasBegun cs (container_begun o)
of-container-in t cs None p h = tt
of-container-in t cs (Some r) p h = later r.1 t cs h p

of-leaf-in : (t cs : List Code) (o : Option Leaf) → IsPart t cs → HasLeaf t o → HasBegun cs (leaf_begun o)
of-leaf-in t cs None p h = tt
of-leaf-in t cs (Some l) p h = later (leaf_text l) t cs h p

of-first : (cs : List Code) (o : Option Begun) (os : List (Option Begun)) → HasBegun cs o → HasBegun cs (first_of os) → HasBegun cs (first_of (o ∷ os))
of-first cs None os h k = k
of-first cs (Some b) os h k = h

of-either : (cs : List Code) (b : Bool) (o p : Option Begun) → HasBegun cs o → HasBegun cs p → HasBegun cs (if b then o else p)
of-either cs true o p h k = h
of-either cs false o p h k = k

begun-part : (e : Extensions) → (in_paragraph after_text : Bool) (cs : List Code) → HasBegun cs (begun e in_paragraph after_text cs)
begun-part e in_paragraph after_text cs =
    let t = trimmed cs in
    let p = trims cs in
    of-either cs (nat_lt (indent cs) 4) _ _
    (of-first cs _ _ (of-container cs (quote_at cs) (quote-part cs (behind_quote cs) (behind-quote-part cs)))
    (of-first cs _ _ (of-leaf-in t cs (heading_at t) p (heading-part t))
    (of-first cs _ _ (of-leaf-in t cs (fence_at e (indent cs) t) p (fence-part e (indent cs) t))
    (of-first cs _ _ (of-leaf-in cs cs (html_at after_text cs) (same cs) (html-part after_text cs))
    (of-first cs _ _ (of-leaf-in cs cs (only_if (is_break t) thematic_break) (same cs) (leaf-if cs (is_break t) thematic_break (none cs)))
    (of-first cs _ _ (of-container-in t cs (if e.footnotes then footnote_at t else None) p (footnote-part e.footnotes t))
    (of-first cs _ [] (of-container-in t cs (item_at in_paragraph (indent cs) t) p (item-part in_paragraph (indent cs) t (marker_at t))) tt)))))))
    (of-either cs (after_text || is_blank_line cs) None (Some (leaf_begins (indented_code (skip 4 cs ∷ [])))) tt
    (subst (λ x. IsPart x cs) (sym (append-nil (skip 4 cs))) (skipped 4 cs)))

-- Siblings with a line behind them.

found-part : (inner : List Code → Tree) → ((rest : List Code) → IsPart (tree_text (inner rest)) rest) → (cs : List Code) (s : Tree) (o : Option Begun) → HasBegun cs o
    → IsPart (tree_text (with_found inner cs s o)) (tree_text s ++ cs)
found-part inner i cs s None h = by_test (is_blank_line cs)
  where
    by_test : (b : Bool) → IsPart (tree_text (if b then s else and_leaf s (paragraph (trimmed cs)))) (tree_text s ++ cs)
    by_test true = front (tree_text s) cs
    by_test false = after (tree_text s) (trimmed cs) cs (trims cs)
found-part inner i cs s (Some (leaf_begins l)) h = after (tree_text s) (leaf_text l) cs h
found-part inner i cs s (Some (container_begins c rest)) h = after (tree_text s) (tree_text (inner rest)) cs (later (tree_text (inner rest)) rest cs (i rest) h)

rest-part : (e : Extensions) → (n : ℕ) (cs : List Code) (s : Tree) → IsPart (tree_text (with_rest e n cs s)) (tree_text s ++ cs)
rest-part e zero cs s = front (tree_text s) cs
rest-part e (suc n) cs s = found-part (λ rest. with_rest e n rest nothing) (λ rest. rest-part e n rest nothing) cs s (begun e false false cs) (begun-part e false false cs)

with-begun-part : (e : Extensions) → (cs : List Code) (b : Begun) (s : Tree) → HasBegun cs (Some b) → IsPart (tree_text (with_begun e b s)) (tree_text s ++ cs)
with-begun-part e cs (leaf_begins l) s h = after (tree_text s) (leaf_text l) cs h
with-begun-part e cs (container_begins c rest) s h =
    let inside = tree_text (with_rest e (suc (length rest)) rest nothing) in
    after (tree_text s) inside cs (later inside rest cs (rest-part e (suc (length rest)) rest nothing) h)

line-part : (e : Extensions) → (cs : List Code) (s : Tree) → IsPart (tree_text (with_line e cs s)) (tree_text s ++ cs)
line-part e cs s = by_test (is_blank_line cs)
  where
    by_test : (b : Bool) → IsPart (tree_text (if b then and_leaf s blank else with_rest e (suc (length cs)) cs s)) (tree_text s ++ cs)
    by_test true = after (tree_text s) [] cs (none cs)
    by_test false = rest-part e (suc (length cs)) cs s

-- Leaves that a line goes on with.

one-more : (ls : List (List Code)) (l : List Code) → flat_map (λ x. x) (ls ++ (l ∷ [])) ≡ flat_map (λ x. x) ls ++ l
one-more [] l = append-nil l
one-more (k ∷ ls) l = ap (λ x. k ++ x) (one-more ls l) ∙ sym (append_assoc k (flat_map (λ x. x) ls) l)

-- lines with a part of a line behind them
lines-part : (ls : List (List Code)) (l cs : List Code) → IsPart l cs → IsPart (flat_map (λ x. x) (ls ++ (l ∷ []))) (flat_map (λ x. x) ls ++ cs)
lines-part ls l cs h = subst (λ x. IsPart x (flat_map (λ x. x) ls ++ cs)) (sym (one-more ls l)) (after (flat_map (λ x. x) ls) l cs h)

fenced-part : (b : Bool) (f : Fence) (info : List Code) (ls : List (List Code)) (cs : List Code)
    → IsPart (leaf_text (with_fenced_line b f info ls cs)) ((info ++ flat_map (λ x. x) ls) ++ cs)
fenced-part true f info ls cs = front (info ++ flat_map (λ x. x) ls) cs
fenced-part false f info ls cs = after-two info (flat_map (λ x. x) ls) (flat_map (λ x. x) (ls ++ (skip f.columns cs ∷ []))) cs (lines-part ls (skip f.columns cs) cs (skipped f.columns cs))

indented-part : (b : Bool) (ls : List (List Code)) (cs : List Code) → HasLeaf (flat_map (λ x. x) ls ++ cs) (with_indented_line b ls cs)
indented-part true ls cs = lines-part ls (skip 4 cs) cs (skipped 4 cs)
indented-part false ls cs = leaf-if (flat_map (λ x. x) ls ++ cs) (is_blank_line cs) (indented_code (ls ++ (trimmed cs ∷ []))) (lines-part ls (trimmed cs) cs (trims cs))

-- Lines of a text.

onto-line : (c : Code) (ls : List (List Code)) → flat_map (λ x. x) (onto_line c ls) ≡ c ∷ flat_map (λ x. x) ls
onto-line c [] = refl
onto-line c (l ∷ ls) = by_test (is_line_ending c)
  where
    by_test : (b : Bool) → flat_map (λ x. x) (if b then (c ∷ []) ∷ l ∷ ls else (c ∷ l) ∷ ls) ≡ c ∷ (l ++ flat_map (λ x. x) ls)
    by_test true = refl
    by_test false = refl

pub lines-cover : (cs : List Code) → flat_map (λ x. x) (lines_of cs) ≡ cs
lines-cover [] = refl
lines-cover (c ∷ cs) = onto-line c (lines_of cs) ∙ ap (λ x. c ∷ x) (lines-cover cs)

-- Rows of tables.

-- a part of the codes of each
abbrev texts : List (List Code) → List Code
texts cells = flat_map (λ cell. cell) cells

onto-part : (c : Code) (ps : List (List Code)) → texts (onto_part c ps) ≡ c ∷ texts ps
onto-part c [] = refl
onto-part c (p ∷ ps) = refl

parts-part : (escaped : Bool) (cs : List Code) → IsPart (texts (parts_of escaped cs)) cs
parts-part escaped [] = refl
parts-part escaped (c ∷ cs) = by_test (is_value (byte "|") c && not escaped) (parts-part false cs) (parts-part (is_value (byte "\\") c) cs)
  where
    more : List (List Code)
    more = parts_of (is_value (byte "\\") c) cs

    by_test : (b : Bool) → IsPart (texts (parts_of false cs)) cs → IsPart (texts more) cs
        → IsPart (texts (if b then [] ∷ parts_of false cs else onto_part c more)) (c ∷ cs)
    by_test true h k = inl h
    by_test false h k = subst (λ x. IsPart x (c ∷ cs)) (sym (onto-part c more)) (inr (texts more, refl, k))

blank-end-part : (ps : List (List Code)) → IsPart (texts (without_blank_end ps)) (texts ps)
blank-end-part [] = refl
blank-end-part (p ∷ []) = by_test (is_blank_line p)
  where
    by_test : (b : Bool) → IsPart (texts (if b then [] else p ∷ [])) (p ++ [])
    by_test true = none (p ++ [])
    by_test false = same (p ++ [])
blank-end-part (p ∷ q ∷ ps) = after p (texts (without_blank_end (q ∷ ps))) (texts (q ∷ ps)) (blank-end-part (q ∷ ps))

cell-part : (p : List Code) → IsPart (cell_text p) p
cell-part p = later (cell_text p) (trimmed p) p (ends _ (trimmed p)) (trims p)

each-part : (ps : List (List Code)) → IsPart (texts (map cell_text ps)) (texts ps)
each-part [] = refl
each-part (p ∷ ps) = both (cell_text p) p (texts (map cell_text ps)) (texts ps) (cell-part p) (each-part ps)

cells-part : (cs : List Code) → IsPart (texts (cells_of cs)) cs
cells-part cs =
    later (texts (cells_of cs)) (texts (without_blank_end ps)) cs (each-part (without_blank_end ps))
    (later (texts (without_blank_end ps)) (texts ps) cs (blank-end-part ps)
    (later (texts ps) behind cs (parts-part false behind) (later behind (trimmed cs) cs (dropped _ (trimmed cs)) (trims cs))))
  where
    behind : List Code
    behind = after_one (byte "|") (trimmed cs)

    ps : List (List Code)
    ps = parts_of false behind

fitted-part : (columns : List Alignment) (cells : List (List Code)) → IsPart (texts (fitted columns cells)) (texts cells)
fitted-part [] cells = none (texts cells)
fitted-part (a ∷ columns) [] = fitted-part columns []
fitted-part (a ∷ columns) (c ∷ cells) = after c (texts (fitted columns cells)) (texts cells) (fitted-part columns cells)

more-rows : (rows : List (List (List Code))) (row : List (List Code)) → flat_map texts (rows ++ (row ∷ [])) ≡ flat_map texts rows ++ texts row
more-rows [] row = append-nil (texts row)
more-rows (r ∷ rows) row = ap (λ x. texts r ++ x) (more-rows rows row) ∙ sym (append_assoc (texts r) (flat_map texts rows) (texts row))

with-cells-part : (columns : List Alignment) (rows : List (List (List Code))) (cells : List (List Code)) (cs : List Code) → IsPart (texts cells) cs
    → HasLeaf (leaf_text (table columns rows) ++ cs) (with_cells columns rows cells)
with-cells-part columns rows [] cs h = tt
with-cells-part columns rows (c ∷ cells) cs h =
    let row = fitted columns (c ∷ cells) in
    subst (λ x. IsPart x (flat_map texts rows ++ cs)) (sym (more-rows rows row))
    (after (flat_map texts rows) (texts row) cs (later (texts row) (texts (c ∷ cells)) cs (fitted-part columns (c ∷ cells)) h))

row-part : (columns : List Alignment) (rows : List (List (List Code))) (cs : List Code) (o : Option Begun)
    → HasLeaf (leaf_text (table columns rows) ++ cs) (with_table_line columns rows cs o)
row-part columns rows cs (Some b) = tt
row-part columns rows cs None = with-cells-part columns rows (cells_of cs) cs (cells-part cs)

-- the table that a line makes of the line before it
table-part : (line cs : List Code) → HasLeaf line (table_at line cs)
table-part line cs = by_test (nat_lt (indent cs) 4)
  where
    by_test : (b : Bool) → HasLeaf line (if b then table_of (cells_of line) (cells_of cs) else None)
    by_test true =
        leaf-if line
        (nat_le 1 (length (cells_of line)) && (list_all is_delimiter (cells_of cs) && length (cells_of line) == length (cells_of cs)))
        (table (map alignment_of (cells_of cs)) (cells_of line ∷ [])) (subst (λ x. IsPart x line) (sym (append-nil (texts (cells_of line)))) (cells-part line))
    by_test false = tt

table-if : (b : Bool) (line cs : List Code) → HasLeaf line (if b then table_at line cs else None)
table-if true line cs = table-part line cs
table-if false line cs = tt

pub split-is : (ls : List (List Code)) → (split_last ls).0 ++ (split_last ls).1 ≡ flat_map (λ x. x) ls
split-is [] = refl
split-is (l ∷ []) = sym (append-nil l)
split-is (l ∷ k ∷ ls) =
    append_assoc l (split_last (k ∷ ls)).0 (split_last (k ∷ ls)).1 ∙ ap (λ x. l ++ x) (split-is (k ∷ ls))

with-table-part : (before : Tree) (lines line cs : List Code) (t : Leaf) → IsPart (leaf_text t) line
    → IsPart (tree_text (with_table before lines t)) ((tree_text before ++ (lines ++ line)) ++ cs)
with-table-part before [] line cs t h =
    later (tree_text before ++ leaf_text t) (tree_text before ++ line) ((tree_text before ++ line) ++ cs) (after (tree_text before) (leaf_text t) line h)
    (front (tree_text before ++ line) cs)
with-table-part before (c ∷ lines) line cs t h =
    later ((tree_text before ++ (c ∷ lines)) ++ leaf_text t) (tree_text before ++ ((c ∷ lines) ++ line)) ((tree_text before ++ ((c ∷ lines) ++ line)) ++ cs)
    (subst (λ x. IsPart ((tree_text before ++ (c ∷ lines)) ++ leaf_text t) x) (append_assoc (tree_text before) (c ∷ lines) line)
    (after (tree_text before ++ (c ∷ lines)) (leaf_text t) line h))
    (front (tree_text before ++ ((c ∷ lines) ++ line)) cs)

text-table-part : (cs : List Code) (before : Tree) (text : List Code) (o : Option Leaf) → HasLeaf (split_last (lines_of text)).1 o
    → IsPart (tree_text (with_text_table cs before text o)) ((tree_text before ++ text) ++ cs)
text-table-part cs before text (Some t) h =
    subst (λ x. IsPart (tree_text (with_table before (split_last (lines_of text)).0 t)) ((tree_text before ++ x) ++ cs)) (split-is (lines_of text) ∙ lines-cover text)
    (with-table-part before (split_last (lines_of text)).0 (split_last (lines_of text)).1 cs t h)
text-table-part cs before text None h = after-two (tree_text before) text (text ++ trimmed cs) cs (after text (trimmed cs) cs (trims cs))

next-part : (e : Extensions) → (l : Leaf) (cs : List Code) → HasLeaf (leaf_text l ++ cs) (with_next e l cs)
next-part e (fenced_code f info ls ended) cs =
    leaf-if ((info ++ flat_map (λ x. x) ls) ++ cs) (not ended) (with_fenced_line (is_closing f cs) f info ls cs) (fenced-part (is_closing f cs) f info ls cs)
next-part e (indented_code ls) cs = indented-part (nat_le 4 (indent cs)) ls cs
next-part e (html k text ended) cs = leaf-if (text ++ cs) (not (ended || (nat_le 6 k && is_blank_line cs))) (html k (text ++ cs) (ends_html k cs)) (same (text ++ cs))
next-part e blank cs = tt
next-part e thematic_break cs = tt
next-part e (heading n text) cs = tt
next-part e (underlined n text) cs = tt
next-part e (paragraph text) cs = tt
next-part e (table columns rows) cs = row-part columns rows cs (begun e false false cs)
next-part e (front_matter ls) cs = tt

next-or-line-part : (e : Extensions) → (cs : List Code) (before : Tree) (l : Leaf) (o : Option Leaf) → HasLeaf (leaf_text l ++ cs) o
    → IsPart (tree_text (with_next_or_line e cs before l o)) ((tree_text before ++ leaf_text l) ++ cs)
next-or-line-part e cs before l (Some next) h = after-two (tree_text before) (leaf_text l) (leaf_text next) cs h
next-or-line-part e cs before l None h = line-part e cs (and_leaf before l)

-- Paragraphs.

text-begun-part : (e : Extensions) → (cs : List Code) (before : Tree) (text : List Code) (o : Option Begun) → HasBegun cs o
    → IsPart (tree_text (with_text_begun e cs before text o)) ((tree_text before ++ text) ++ cs)
text-begun-part e cs before text (Some b) h = with-begun-part e cs b (and_leaf before (paragraph text)) h
text-begun-part e cs before text None h =
    text-table-part cs before text (if e.tables then table_at (split_last (lines_of text)).1 cs else None) (table-if e.tables (split_last (lines_of text)).1 cs)

text-level-part : (e : Extensions) → (cs : List Code) (before : Tree) (text : List Code) (o : Option ℕ) → IsPart (tree_text (with_text_level e cs before text o)) ((tree_text before ++ text) ++ cs)
text-level-part e cs before text (Some level) =
    later (tree_text before ++ trimmed_end text) (tree_text before ++ text) ((tree_text before ++ text) ++ cs)
    (after (tree_text before) (trimmed_end text) text (ends _ text)) (front (tree_text before ++ text) cs)
text-level-part e cs before text None = text-begun-part e cs before text (begun e true true cs) (begun-part e true true cs)

text-line-part : (e : Extensions) → (has_text : List Code → Bool) (cs : List Code) (before : Tree) (text : List Code)
    → IsPart (tree_text (with_text_line e has_text cs before text)) ((tree_text before ++ text) ++ cs)
text-line-part e has_text cs before text = by_test (is_blank_line cs)
  where
    by_test : (b : Bool) → IsPart (tree_text (if b then and_leaf (and_leaf before (paragraph text)) blank else with_text_level e cs before text (heading_level has_text cs text))) ((tree_text before ++ text) ++ cs)
    by_test true = after (tree_text before ++ text) [] cs (none cs)
    by_test false = text-level-part e cs before text (heading_level has_text cs text)

leaf-line-part : (e : Extensions) → (has_text : List Code → Bool) (cs : List Code) (before : Tree) (l : Leaf)
    → IsPart (tree_text (with_leaf_line e has_text cs before l)) ((tree_text before ++ leaf_text l) ++ cs)
leaf-line-part e has_text cs before (paragraph text) = text-line-part e has_text cs before text
leaf-line-part e has_text cs before blank = next-or-line-part e cs before blank (with_next e blank cs) (next-part e blank cs)
leaf-line-part e has_text cs before thematic_break = next-or-line-part e cs before thematic_break (with_next e thematic_break cs) (next-part e thematic_break cs)
leaf-line-part e has_text cs before (heading n text) = next-or-line-part e cs before (heading n text) (with_next e (heading n text) cs) (next-part e (heading n text) cs)
leaf-line-part e has_text cs before (underlined n text) = next-or-line-part e cs before (underlined n text) (with_next e (underlined n text) cs) (next-part e (underlined n text) cs)
leaf-line-part e has_text cs before (indented_code ls) = next-or-line-part e cs before (indented_code ls) (with_next e (indented_code ls) cs) (next-part e (indented_code ls) cs)
leaf-line-part e has_text cs before (fenced_code f info ls ended) =
    next-or-line-part e cs before (fenced_code f info ls ended) (with_next e (fenced_code f info ls ended) cs) (next-part e (fenced_code f info ls ended) cs)
leaf-line-part e has_text cs before (table columns rows) =
    next-or-line-part e cs before (table columns rows) (with_next e (table columns rows) cs) (next-part e (table columns rows) cs)
leaf-line-part e has_text cs before (front_matter ls) = next-or-line-part e cs before (front_matter ls) (with_next e (front_matter ls) cs) (next-part e (front_matter ls) cs)
leaf-line-part e has_text cs before (html k text ended) = next-or-line-part e cs before (html k text ended) (with_next e (html k text ended) cs) (next-part e (html k text ended) cs)

-- Containers.

in-item-part : (b : Bool) (columns : ℕ) (cs : List Code) → HasRest cs (rest_in_item b columns cs)
in-item-part true columns cs = skipped columns cs
in-item-part false columns cs = rest-if cs (is_blank_line cs) (trimmed cs) (trims cs)

unless-part : (b : Bool) (cs : List Code) (o : Option (List Code)) → HasRest cs o → HasRest cs (if b then None else o)
unless-part true cs o h = tt
unless-part false cs o h = h

inside-part : (c : Container) (inside : Tree) (cs : List Code) → HasRest cs (rest_inside c inside cs)
inside-part quote inside cs = behind-quote-part cs
inside-part (footnote label) inside cs = in-item-part (nat_le 4 (indent cs)) 4 cs
inside-part (item m columns) inside cs =
    unless-part (is_further_blank inside cs) cs (rest_in_item (nat_le columns (indent cs)) columns cs) (in-item-part (nat_le columns (indent cs)) columns cs)

lazy-part : (cs : List Code) (t : Tree) → IsPart (tree_text (with_lazy_line cs t)) (tree_text t ++ cs)
lazy-part cs nothing = none cs
lazy-part cs (and_leaf before (paragraph text)) = after-two (tree_text before) text (text ++ trimmed cs) cs (after text (trimmed cs) cs (trims cs))
lazy-part cs (and_leaf before blank) = front (tree_text before ++ []) cs
lazy-part cs (and_leaf before thematic_break) = front (tree_text before ++ []) cs
lazy-part cs (and_leaf before (heading n text)) = front (tree_text before ++ text) cs
lazy-part cs (and_leaf before (underlined n text)) = front (tree_text before ++ text) cs
lazy-part cs (and_leaf before (indented_code ls)) = front (tree_text before ++ flat_map (λ x. x) ls) cs
lazy-part cs (and_leaf before (fenced_code f info ls ended)) = front (tree_text before ++ (info ++ flat_map (λ x. x) ls)) cs
lazy-part cs (and_leaf before (html k text ended)) = front (tree_text before ++ text) cs
lazy-part cs (and_leaf before (table columns rows)) = front (tree_text before ++ leaf_text (table columns rows)) cs
lazy-part cs (and_leaf before (front_matter ls)) = front (tree_text before ++ flat_map (λ x. x) ls) cs
lazy-part cs (and_container before c inside) = after-two (tree_text before) (tree_text inside) (tree_text (with_lazy_line cs inside)) cs (lazy-part cs inside)

rest-inside-part : (e : Extensions) → (inner : List Code → Tree) (cs : List Code) (before : Tree) (c : Container) (inside : Tree)
    → ((rest : List Code) → IsPart (tree_text (inner rest)) (tree_text inside ++ rest)) → (o : Option (List Code)) → HasRest cs o
    → IsPart (tree_text (with_rest_inside e inner cs before c inside o)) ((tree_text before ++ tree_text inside) ++ cs)
rest-inside-part e inner cs before c inside i (Some rest) h =
    after-two (tree_text before) (tree_text inside) (tree_text (inner rest)) cs
    (later (tree_text (inner rest)) (tree_text inside ++ rest) (tree_text inside ++ cs) (i rest) (after (tree_text inside) rest cs h))
rest-inside-part e inner cs before c inside i None h = by_test (is_lazy e cs inside)
  where
    by_test : (b : Bool) → IsPart (tree_text (if b then and_container before c (with_lazy_line cs inside) else with_line e cs (and_container before c inside))) ((tree_text before ++ tree_text inside) ++ cs)
    by_test true = lazy-part cs (and_container before c inside)
    by_test false = line-part e cs (and_container before c inside)

-- Lines.

read-part : (e : Extensions) → (has_text : List Code → Bool) (cs : List Code) (t : Tree) → IsPart (tree_text (read_line e has_text cs t)) (tree_text t ++ cs)
read-part e has_text cs nothing = line-part e cs nothing
read-part e has_text cs (and_leaf before l) = leaf-line-part e has_text cs before l
read-part e has_text cs (and_container before c inside) =
    rest-inside-part e (λ rest. read_line e has_text rest inside) cs before c inside (λ rest. read-part e has_text rest inside) (rest_inside c inside cs) (inside-part c inside cs)

all-read : (e : Extensions) → (has_text : List Code → Bool) (ls : List (List Code)) (t : Tree) → IsPart (tree_text (read_lines e has_text ls t)) (tree_text t ++ flat_map (λ x. x) ls)
all-read e has_text [] t = front (tree_text t) []
all-read e has_text (l ∷ ls) t =
    let next = read_line e has_text l t in
    let more = flat_map (λ x. x) ls in
    later (tree_text (read_lines e has_text ls next)) (tree_text next ++ more) (tree_text t ++ (l ++ more)) (all-read e has_text ls next)
    (subst (λ x. IsPart (tree_text next ++ more) x) (append_assoc (tree_text t) l more)
    (both (tree_text next) (tree_text t ++ l) more more (read-part e has_text l t) (same more)))

-- Front matter.

abbrev HasMatter : List (List Code) → Option (List (List Code) × List (List Code)) → Type 0
HasMatter ls None = Unit {0}
HasMatter ls (Some r) = IsPart (flat_map (λ x. x) r.0 ++ flat_map (λ x. x) r.1) (flat_map (λ x. x) ls)

onto-matter : (l : List Code) (ls : List (List Code)) (o : Option (List (List Code) × List (List Code))) → HasMatter ls o → HasMatter (l ∷ ls) (onto_matter l o)
onto-matter l ls None h = tt
onto-matter l ls (Some r) h =
    subst (λ x. IsPart x (l ++ flat_map (λ x. x) ls)) (sym (append_assoc l (flat_map (λ x. x) r.0) (flat_map (λ x. x) r.1)))
    (after l (flat_map (λ x. x) r.0 ++ flat_map (λ x. x) r.1) (flat_map (λ x. x) ls) h)

behind-all : (xs a ys : List Code) → IsPart a ys → IsPart a (xs ++ ys)
behind-all [] a ys k = k
behind-all (x ∷ xs) a ys k = inl (behind-all xs a ys k)

before-fence : (n : ℕ) (ls : List (List Code)) → HasMatter ls (matter_before n ls)
before-fence n [] = tt
before-fence n (l ∷ ls) = by_test (is_matter_fence n l) (before-fence n ls)
  where
    by_test : (b : Bool) → HasMatter ls (matter_before n ls) → HasMatter (l ∷ ls) (if b then Some ([], ls) else onto_matter l (matter_before n ls))
    by_test true h = behind-all l (flat_map (λ x. x) ls) (flat_map (λ x. x) ls) (same (flat_map (λ x. x) ls))
    by_test false h = onto-matter l ls (matter_before n ls) h

matter-part : (b : Bool) (ls : List (List Code)) → HasMatter ls (if b then matter_at ls else None)
matter-part false ls = tt
matter-part true [] = tt
matter-part true (l ∷ ls) = by_test (begins_matter (first_value l) l)
  where
    drop-line : (o : Option (List (List Code) × List (List Code))) → HasMatter ls o → HasMatter (l ∷ ls) o
    drop-line None h = tt
    drop-line (Some r) h = behind-all l (flat_map (λ x. x) r.0 ++ flat_map (λ x. x) r.1) (flat_map (λ x. x) ls) h

    by_test : (b : Bool) → HasMatter (l ∷ ls) (if b then matter_before (first_value l) ls else None)
    by_test true = drop-line (matter_before (first_value l) ls) (before-fence (first_value l) ls)
    by_test false = tt

behind-part : (e : Extensions) (has_text : List Code → Bool) (ls : List (List Code)) (o : Option (List (List Code) × List (List Code))) → HasMatter ls o
    → IsPart (tree_text (read_behind e has_text ls o)) (flat_map (λ x. x) ls)
behind-part e has_text ls None h = all-read e has_text ls nothing
behind-part e has_text ls (Some r) h =
    later (tree_text (read_lines e has_text r.1 (and_leaf nothing (front_matter r.0)))) (flat_map (λ x. x) r.0 ++ flat_map (λ x. x) r.1) (flat_map (λ x. x) ls)
    (all-read e has_text r.1 (and_leaf nothing (front_matter r.0))) h

read-in-order : (e : Extensions) (has_text : List Code → Bool) (bytes : List ℕ) → IsPart (tree_text (blocks_of e has_text bytes)) (codes_of bytes)
read-in-order e has_text bytes =
    let cs = document_codes bytes in
    let t = tree_text (blocks_of e has_text bytes) in
    let read : IsPart t cs =
    subst (λ x. IsPart t x) (lines-cover cs)
    (behind-part e has_text (lines_of cs) (if e.front_matter then matter_at (lines_of cs) else None) (matter-part e.front_matter (lines_of cs))) in
    later t cs (codes_of bytes) read (dropped (mark_len bytes) (codes_of bytes))

-- What definitions take.

-- what a reading leaves is a part
abbrev Stays : {A : Type 0} → Reading A → Type 0
Stays a = (cs : List Code) → IfGiven (λ x rest. IsPart rest cs) (a cs)

back : (xs ys : List Code) → IsPart ys (xs ++ ys)
back [] ys = same ys
back (x ∷ xs) ys = inl (back xs ys)

covered : {A : Type 0} (f : A → List Code) (a : Reading A) → Covers f [] a → Stays a
covered f a h cs = given-map (Splits f cs) (λ x rest. IsPart rest cs) (a cs) (λ x rest e. subst (λ z. IsPart rest z) e (back (f x) rest)) (h.at cs)

given-stays : {A : Type 0} (x : A) → Stays (gives x)
given-stays x cs = given-gives (λ y rest. IsPart rest cs) x cs (same cs)

either-stays : {A : Type 0} (a b : Reading A) → Stays a → Stays b → Stays (either a b)
either-stays a b h k cs = given-either (λ x rest. IsPart rest cs) a b cs (h cs) (k cs)

bind-stays : {A B : Type 0} (a : Reading A) (b : A → Reading B) → Stays a → ((x : A) → Stays (b x)) → Stays (a >>= b)
bind-stays a b h k cs =
    given-bind (λ x rest. IsPart rest cs) (λ y rest. IsPart rest cs) a b cs (h cs)
    (λ x rest e. given-map (λ y left. IsPart left rest) (λ y left. IsPart left cs) (b x rest) (λ y left i. later left rest cs i e) (k x rest))

next-stays : {A B : Type 0} (a : Reading A) (b : Reading B) → Stays a → Stays b → Stays (a >> b)
unfolding ◌>>◌
next-stays {A} {B} a b h k cs = by_case (a cs) (h cs)
  where
    by_case : (o : Option (A × List Code)) → IfGiven (λ x rest. IsPart rest cs) o → IfGiven (λ y rest. IsPart rest cs) (elim o [ None ↦ None | Some r ↦ b r.1 ])
    by_case None e = tt
    by_case (Some r) e = given-map (λ y left. IsPart left r.1) (λ y left. IsPart left cs) (b r.1) (λ y left i. later left r.1 cs i e) (k r.1)

end-stays : Stays (λ cs. provided (is_empty cs) cs)
unfolding provided
end-stays cs = by_test (is_empty cs)
  where
    by_test : (b : Bool) → IfGiven (λ x rest. IsPart rest cs) (elim b as (λ _. Option (List Code × List Code)) [ true ↦ Some ([], cs) | false ↦ None ])
    by_test true = same cs
    by_test false = tt

line_end-stays : Stays line_end
unfolding line_end
line_end-stays =
    next-stays (any_number is_blank) (either (one is_line_ending) (λ cs. provided (is_empty cs) cs)) (covered itself (any_number is_blank) (takes_any_number is_blank))
    (either-stays (one is_line_ending) (λ cs. provided (is_empty cs) cs) (covered itself (one is_line_ending) (takes_one is_line_ending)) end-stays)

title-stays : Stays title_of_definition
unfolding title_of_definition
title-stays =
    next-stays (before (space_or_tab_eol None) begins_title) (title true title_names >>= λ text. line_end >> gives (Some (between (leaf_codes text))))
    (covered leaf_codes (before (space_or_tab_eol None) begins_title) (seen_before leaf_codes [] (space_or_tab_eol None) begins_title (covers_spacing None)))
    (bind-stays (title true title_names) (λ text. line_end >> gives (Some (between (leaf_codes text)))) (covered leaf_codes (title true title_names) (covers_title true title_names))
    (λ text. next-stays line_end (gives (Some (between (leaf_codes text)))) line_end-stays (given-stays (Some (between (leaf_codes text))))))

-- what stands behind the colon of a definition with this label
abbrev behind-colon : Forest → Reading Definition
behind-colon name =
    optional_tree (space_or_tab_eol None) >> (destination 32 resource_names >>= λ target. either title_of_definition (line_end >> gives None) >>= λ text.
    gives (record { label = between (leaf_codes name); destination = destination_text (leaf_codes target); title = text }))

behind-colon-stays : (name : Forest) → Stays (behind-colon name)
behind-colon-stays name =
    next-stays (optional_tree (space_or_tab_eol None)) _ (covered leaf_codes (optional_tree (space_or_tab_eol None)) (covers_optional_tree (space_or_tab_eol None) (covers_spacing None)))
    (bind-stays (destination 32 resource_names) _ (covered leaf_codes (destination 32 resource_names) (covers_destination 32 resource_names))
    (λ target. bind-stays (either title_of_definition (line_end >> gives None)) _
    (either-stays title_of_definition (line_end >> gives None) title-stays (next-stays line_end (gives None) line_end-stays (given-stays None)))
    (λ text. given-stays (record { label = between (leaf_codes name); destination = destination_text (leaf_codes target); title = text }))))

definition-stays : Stays definition
unfolding definition
definition-stays =
    bind-stays (label true reference_names) (λ name. one (is_value (byte ":")) >> behind-colon name) (covered leaf_codes (label true reference_names) (covers_label true reference_names))
    (λ name. next-stays (one (is_value (byte ":"))) (behind-colon name) (covered itself (one (is_value (byte ":"))) (takes_one (is_value (byte ":")))) (behind-colon-stays name))

taken-part : (n : ℕ) (cs : List Code) → IsPart (taken n cs).1 cs
taken-part zero cs = same cs
taken-part (suc n) cs = by_case (definition cs) (definition-stays cs) (taken-part n)
  where
    by_case : (o : Option (Definition × List Code)) → IfGiven (λ x rest. IsPart rest cs) o → ((rest : List Code) → IsPart (taken n rest).1 rest) → IsPart (taken_by (taken n) cs o).1 cs
    by_case None e more = same cs
    by_case (Some r) e more = later (taken n r.1).1 r.1 cs (more r.1) e

text-of-leaf-part : (l : Leaf) → IsPart (leaf_text (text_of_leaf l)) (leaf_text l)
text-of-leaf-part (paragraph text) =
    later (trimmed_end (definitions_of text).1) (definitions_of text).1 text (ends _ (definitions_of text).1) (taken-part (length text) text)
text-of-leaf-part (underlined n text) = taken-part (length text) text
text-of-leaf-part blank = refl
text-of-leaf-part thematic_break = refl
text-of-leaf-part (heading n text) = same text
text-of-leaf-part (indented_code ls) = same (flat_map (λ x. x) ls)
text-of-leaf-part (fenced_code f info ls ended) = same (info ++ flat_map (λ x. x) ls)
text-of-leaf-part (html k text ended) = same text
text-of-leaf-part (table columns rows) = same (leaf_text (table columns rows))
text-of-leaf-part (front_matter ls) = same (flat_map (λ x. x) ls)

resolved-part : (t : Tree) → IsPart (tree_text (resolved t)) (tree_text t)
resolved-part nothing = refl
resolved-part (and_leaf before l) = both (tree_text (resolved before)) (tree_text before) (leaf_text (text_of_leaf l)) (leaf_text l) (resolved-part before) (text-of-leaf-part l)
resolved-part (and_container before c inside) =
    both (tree_text (resolved before)) (tree_text before) (tree_text (resolved inside)) (tree_text inside) (resolved-part before) (resolved-part inside)

pub leaves_in_order : LeavesInOrder
leaves_in_order e bytes =
    let t = blocks_of e has_text bytes in
    later (tree_text (resolved t)) (tree_text t) (codes_of bytes) (resolved-part t) (read-in-order e has_text bytes)
