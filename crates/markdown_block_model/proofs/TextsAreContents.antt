-- The text of each paragraph and of each heading is a text content.
use Rattle.std.proofs.Common.{◌≡◌, ℕ, zero, suc, ◌+◌, refl, sym, ap, subst, ◌∙◌, List, [], ◌∷◌, ◌++◌, length, map, drop, Bool, true, false, ◌&&◌, ◌||◌, not, ◌==◌, nat_lt, nat_le, Option, Some, None, if◌then◌else◌, arith}
use Rattle.std.specs.Prelude.{is_some}
use Rattle.std.specs.Str.{byte}
use Rattle.std.specs.List.{list_all, list_any}
use Rattle.markdown_content.specs.Codes.{Code, is_blank, is_line_ending}
use Rattle.markdown_content.specs.Content.{has_no_blank_line, is_text_codes, ends_line}
use Rattle.markdown_content.specs.Tree.{Forest, leaf_codes}
use Rattle.markdown_model.specs.CodeTests.{is_value, is_between, is_empty, next_is, is_whitespace_code}
use Rattle.markdown_model.specs.Grammar.{Reading, ◌>>=◌, ◌>>◌, gives, either, provided, span, one, any_number, before, optional_tree}
use Rattle.markdown_model.specs.Whitespace.{space_or_tab_eol}
use Rattle.markdown_model.specs.Resource.{label, reference_names, destination, resource_names, begins_title, title, title_names}
use Rattle.markdown_model.proofs.GivenByReadings.{IfGiven, given-map, given-gives, given-bind, given-either}
use Rattle.markdown_model.proofs.ReadingsCover.{Splits, Covers, itself, seen_before, takes_one, takes_any_number, covers_label, covers_title, covers_spacing, covers_destination, covers_optional_tree}
use Rattle.markdown_block_model.specs.ByteOrderMark.{document_codes}
use Rattle.markdown_block_model.specs.LineRests.{onto_line, lines_of, indent, trimmed, is_blank_line, past_blank, skip, is_gap, first_value, count_first, onto_end, without_end, trimmed_end, only_if}
use Rattle.markdown_block_model.specs.BlockTree.{Extensions, Alignment, footnote, table, front_matter, Marker, Container, quote, item, Fence, Leaf, blank, thematic_break, heading, underlined, paragraph, indented_code, fenced_code, html, Tree, nothing, and_leaf, and_container}
use Rattle.markdown_block_model.specs.LeafStarts.{fence_least, is_break, ends_blank, heading_text, heading_at, may_be_info, fence_at, is_closing}
use Rattle.markdown_block_model.specs.HtmlStarts.{html_kind, ends_html, html_at}
use Rattle.markdown_block_model.specs.ContainerStarts.{onto_label, ends_label, label_from, is_closed_label, footnote_at, behind_quote, in_quote, quote_at, marker_at, padding, may_begin, item_by, item_at}
use Rattle.markdown_block_model.specs.Tables.{onto_part, parts_of, after_one, without_blank_end, cell_text, cells_of, is_delimiter, alignment_of, table_of, table_at, fitted, with_cells}
use Rattle.markdown_block_model.specs.FrontMatter.{is_matter_fence, onto_matter, matter_before, begins_matter, matter_at}
use Rattle.markdown_block_model.proofs.LeavesInOrder.{lines-cover, split-is}
use Rattle.markdown_block_model.specs.BlockStarts.{Begun, leaf_begins, container_begins, leaf_begun, container_begun, first_of, begun, with_found, with_rest, with_begun, with_line}
use Rattle.markdown_block_model.specs.DocumentBlocks.{with_table_line, split_last, with_table, with_text_table, read_behind, with_fenced_line, with_indented_line, with_next, with_next_or_line, with_text_begun, with_text_level, heading_level}
use Rattle.markdown_block_model.specs.DocumentBlocks.{with_text_line, with_leaf_line, is_further_blank, rest_in_item, rest_inside, with_lazy_line, is_lazy, ends_in_text, with_rest_inside, read_line, read_lines, blocks_of}
use Rattle.markdown_block_model.specs.LinkDefinitions.{Definition, between, destination_text, line_end, title_of_definition, definition, taken_by, taken, definitions_of, has_text, text_of_leaf, resolved}
use Rattle.markdown_block_model.specs.TextStarts.{lines_begin, is_line}
use Rattle.markdown_block_model.specs.BlockLaws.{AreCells, AreRows, IsText, IsTextLeaf, HaveTexts, TextsAreContents}

-- Tests.

false-true : {P : Type 0} → false ≡ true → P
false-true e = absurd (cc)

and-first : (a b : Bool) → (a && b) ≡ true → a ≡ true
and-first true b h = refl
and-first false b h = h

and-second : (a b : Bool) → (a && b) ≡ true → b ≡ true
and-second true b h = h
and-second false b h = false-true h

both-true : (a b : Bool) → a ≡ true → b ≡ true → (a && b) ≡ true
both-true a b h k = ap (λ v. v && b) h ∙ k

not-true : (a : Bool) → not a ≡ true → a ≡ false
not-true true h = sym h
not-true false h = refl

second-false : (a b : Bool) → (a || b) ≡ false → b ≡ false
second-false true b h = false-true (sym h)
second-false false b h = h

neither : (a b : Bool) → a ≡ false → b ≡ false → (a || b) ≡ false
neither a b h k = ap (λ v. v || b) h ∙ k

-- Lines.

tail-line : (c : Code) (cs : List Code) → is_line (c ∷ cs) ≡ true → is_line cs ≡ true
tail-line c [] h = refl
tail-line c (d ∷ ds) h = by_test (is_line_ending c) h
  where
    by_test : (b : Bool) → (if b then false else is_line (d ∷ ds)) ≡ true → is_line (d ∷ ds) ≡ true
    by_test true e = false-true e
    by_test false e = e

-- nothing stands behind a line ending
last-ending : (c : Code) (cs : List Code) → is_line_ending c ≡ true → is_line (c ∷ cs) ≡ true → cs ≡ []
last-ending c [] e h = refl
last-ending c (d ∷ ds) e h = false-true (sym (ap (λ v. if v then false else is_line (d ∷ ds)) e) ∙ h)

past-line : (cs : List Code) → is_line cs ≡ true → is_line (past_blank cs) ≡ true
past-line [] h = refl
past-line (c ∷ cs) h = by_test (is_blank c)
  where
    by_test : (b : Bool) → is_line (if b then cs else c ∷ cs) ≡ true
    by_test true = tail-line c cs h
    by_test false = h

skip-line : (n : ℕ) (cs : List Code) → is_line cs ≡ true → is_line (skip n cs) ≡ true
skip-line zero cs h = h
skip-line (suc n) cs h = skip-line n (past_blank cs) (past-line cs h)

pub drop-line : (n : ℕ) (cs : List Code) → is_line cs ≡ true → is_line (drop n cs) ≡ true
drop-line zero cs h = h
drop-line (suc n) [] h = refl
drop-line (suc n) (c ∷ cs) h = drop-line n cs (tail-line c cs h)

trimmed-line : (cs : List Code) → is_line cs ≡ true → is_line (trimmed cs) ≡ true
trimmed-line [] h = refl
trimmed-line (c ∷ cs) h = by_test (is_blank c) (trimmed-line cs (tail-line c cs h))
  where
    by_test : (b : Bool) → is_line (trimmed cs) ≡ true
        → is_line (elim b as (λ _. List Code × List Code) [ true ↦ (c ∷ (span is_blank cs).0, (span is_blank cs).1) | false ↦ ([], c ∷ cs) ]).1 ≡ true
    by_test true k = k
    by_test false k = h

abbrev pub AreTextLines : List (List Code) → Type 0
AreTextLines [] = Unit {0}
AreTextLines (l ∷ ls) = (is_line l ≡ true) × AreTextLines ls

onto-lines : (c : Code) (ls : List (List Code)) → AreTextLines ls → AreTextLines (onto_line c ls)
onto-lines c [] h = (by_test (is_line_ending c), tt)
  where
    by_test : (b : Bool) → (if b then true else true) ≡ true
    by_test true = refl
    by_test false = refl
onto-lines c (l ∷ ls) h = by_case (is_line_ending c) refl
  where
    by_case : (b : Bool) → is_line_ending c ≡ b → AreTextLines (if b then (c ∷ []) ∷ l ∷ ls else (c ∷ l) ∷ ls)
    by_case true e = (ap (λ v. if v then true else true) e, h)
    by_case false e = (ap (λ v. if v then is_empty l else is_line l) e ∙ h.0, h.1)

pub are-lines : (cs : List Code) → AreTextLines (lines_of cs)
are-lines [] = tt
are-lines (c ∷ cs) = onto-lines c (lines_of cs) (are-lines cs)

-- Where lines begin.

-- a line that goes on may begin with anything
pub going-on : (cs : List Code) → lines_begin true cs ≡ true → lines_begin false cs ≡ true
going-on [] h = refl
going-on (c ∷ cs) h =
    let e : is_line_ending c ≡ false = second-false (is_blank c) (is_line_ending c) (not-true (is_whitespace_code c) (and-first (not (is_whitespace_code c)) (lines_begin false cs) h)) in
    ap (λ v. lines_begin v cs) e ∙ and-second (not (is_whitespace_code c)) (lines_begin false cs) h

tail-starts : (b : Bool) (c : Code) (cs : List Code) → lines_begin b (c ∷ cs) ≡ true → lines_begin false cs ≡ true
tail-starts true c cs h = and-second (not (is_whitespace_code c)) (lines_begin false cs) h
tail-starts false c cs h = by_test (is_line_ending c) h
  where
    by_test : (b : Bool) → lines_begin b cs ≡ true → lines_begin false cs ≡ true
    by_test true k = going-on cs k
    by_test false k = k

line-starts : (cs : List Code) → is_line cs ≡ true → lines_begin false cs ≡ true
line-starts [] h = refl
line-starts (c ∷ cs) h = by_case (is_line_ending c) refl (line-starts cs (tail-line c cs h))
  where
    by_case : (b : Bool) → is_line_ending c ≡ b → lines_begin false cs ≡ true → lines_begin b cs ≡ true
    by_case true e k = ap (λ l. lines_begin true l) (last-ending c cs e h)
    by_case false e k = k

-- a line that begins with no blank, but for one that is a line ending alone
first-starts : (c : Code) (cs : List Code) → is_line (c ∷ cs) ≡ true → is_whitespace_code c ≡ false → lines_begin true (c ∷ cs) ≡ true
first-starts c cs h e = both-true (not (is_whitespace_code c)) (lines_begin false cs) (ap not e) (line-starts cs (tail-line c cs h))

pub filled-starts : (cs : List Code) → is_line cs ≡ true → is_blank_line cs ≡ false → lines_begin true (trimmed cs) ≡ true
filled-starts [] h k = false-true (sym k)
filled-starts (c ∷ cs) h k = by_case (is_blank c) refl (filled-starts cs (tail-line c cs h))
  where
    not-ending : (v : Bool) → is_line_ending c ≡ v → is_blank c ≡ false → is_line_ending c ≡ false
    not-ending true e b = false-true (sym k ∙ ap (λ l. is_whitespace_code c && is_blank_line l) (last-ending c cs e h) ∙ ap (λ v. (v || is_line_ending c) && true) b ∙ ap (λ v. v && true) e)
    not-ending false e b = e

    by_case : (b : Bool) → is_blank c ≡ b → (is_blank_line cs ≡ false → lines_begin true (trimmed cs) ≡ true)
        → lines_begin true (elim b as (λ _. List Code × List Code) [ true ↦ (c ∷ (span is_blank cs).0, (span is_blank cs).1) | false ↦ ([], c ∷ cs) ]).1 ≡ true
    by_case true e more = more (sym (ap (λ v. (v || is_line_ending c) && is_blank_line cs) e) ∙ k)
    by_case false e more = first-starts c cs h (neither (is_blank c) (is_line_ending c) e (not-ending (is_line_ending c) refl e))

pub joined-starts : (b : Bool) (xs ys : List Code) → lines_begin b xs ≡ true → lines_begin true ys ≡ true → lines_begin b (xs ++ ys) ≡ true
joined-starts true [] ys h k = k
joined-starts false [] ys h k = going-on ys k
joined-starts true (x ∷ xs) ys h k =
    both-true (not (is_whitespace_code x)) (lines_begin false (xs ++ ys)) (and-first (not (is_whitespace_code x)) (lines_begin false xs) h)
    (joined-starts false xs ys (and-second (not (is_whitespace_code x)) (lines_begin false xs) h) k)
joined-starts false (x ∷ xs) ys h k = joined-starts (is_line_ending x) xs ys h k

-- the text before some codes of it
pub front-starts : (b : Bool) (xs ys : List Code) → lines_begin b (xs ++ ys) ≡ true → lines_begin b xs ≡ true
front-starts b [] ys h = refl
front-starts true (x ∷ xs) ys h =
    both-true (not (is_whitespace_code x)) (lines_begin false xs) (and-first (not (is_whitespace_code x)) (lines_begin false (xs ++ ys)) h)
    (front-starts false xs ys (and-second (not (is_whitespace_code x)) (lines_begin false (xs ++ ys)) h))
front-starts false (x ∷ xs) ys h = front-starts (is_line_ending x) xs ys h

-- the text behind a line
pub behind-line : (b : Bool) (xs ys : List Code) → ends_line xs ≡ true → lines_begin b (xs ++ ys) ≡ true → lines_begin true ys ≡ true
behind-line b [] ys e h = false-true e
behind-line b (x ∷ []) ys e h = by_test b h
  where
    by_test : (b : Bool) → lines_begin b (x ∷ ys) ≡ true → lines_begin true ys ≡ true
    by_test true k =
        let w : is_whitespace_code x ≡ false = not-true (is_whitespace_code x) (and-first (not (is_whitespace_code x)) (lines_begin false ys) k) in
        false-true (sym (second-false (is_blank x) (is_line_ending x) w) ∙ e)
    by_test false k = sym (ap (λ v. lines_begin v ys) e) ∙ k
behind-line b (x ∷ y ∷ xs) ys e h = behind-line false (y ∷ xs) ys e (tail-starts b x (y ∷ xs ++ ys) h)

-- The end.

on-end-starts : (p : Code → Bool) (b : Bool) (c : Code) (r cs : List Code) → ((v : Bool) → lines_begin v cs ≡ true → lines_begin v r ≡ true) → lines_begin b (c ∷ cs) ≡ true → lines_begin b (onto_end p c r) ≡ true
on-end-starts p b c [] cs f h = by_test (p c) b h
  where
    by_test : (t b : Bool) → lines_begin b (c ∷ cs) ≡ true → lines_begin b (if t then [] else c ∷ []) ≡ true
    by_test true b h = refl
    by_test false true h = both-true (not (is_whitespace_code c)) true (and-first (not (is_whitespace_code c)) (lines_begin false cs) h) refl
    by_test false false h = refl
on-end-starts p true c (d ∷ ds) cs f h =
    both-true (not (is_whitespace_code c)) (lines_begin false (d ∷ ds)) (and-first (not (is_whitespace_code c)) (lines_begin false cs) h) (f false (and-second (not (is_whitespace_code c)) (lines_begin false cs) h))
on-end-starts p false c (d ∷ ds) cs f h = f (is_line_ending c) h

pub end-starts : (p : Code → Bool) (b : Bool) (cs : List Code) → lines_begin b cs ≡ true → lines_begin b (without_end p cs) ≡ true
end-starts p b [] h = refl
end-starts p b (c ∷ cs) h = on-end-starts p b c (without_end p cs) cs (λ v k. end-starts p v cs k) h

on-end-twice : (p : Code → Bool) (c : Code) (r : List Code) → without_end p r ≡ r → without_end p (onto_end p c r) ≡ onto_end p c r
on-end-twice p c [] h = by_case (p c) refl
  where
    by_case : (b : Bool) → p c ≡ b → without_end p (if b then [] else c ∷ []) ≡ (if b then [] else c ∷ [])
    by_case true e = refl
    by_case false e = ap (λ v. if v then [] else c ∷ []) e
on-end-twice p c (d ∷ ds) h = ap (onto_end p c) h

pub end-twice : (p : Code → Bool) (cs : List Code) → without_end p (without_end p cs) ≡ without_end p cs
end-twice p [] = refl
end-twice p (c ∷ cs) = on-end-twice p c (without_end p cs) (end-twice p cs)

rest_of : List Code → List Code
rest_of [] = []
rest_of (c ∷ cs) = cs

-- what stands behind the first code of a text that ends with no whitespace does so too
tail-ends : (c : Code) (cs : List Code) → trimmed_end (c ∷ cs) ≡ c ∷ cs → trimmed_end cs ≡ cs
unfolding rest_of
tail-ends c cs h = by_rest (trimmed_end cs) h
  where
    by_test : (b : Bool) → (if b then [] else c ∷ []) ≡ c ∷ cs → [] ≡ cs
    by_test true e = absurd (cc)
    by_test false e = ap rest_of e

    by_rest : (r : List Code) → onto_end is_whitespace_code c r ≡ c ∷ cs → r ≡ cs
    by_rest [] e = by_test (is_whitespace_code c) e
    by_rest (d ∷ ds) e = ap rest_of e

-- No line is blank.

abbrev IsFilled : Bool → List Code → Type 0
IsFilled true cs = is_text_codes cs ≡ true
IsFilled false cs = has_no_blank_line true cs ≡ true

-- the code of a line, which has one that is not blank, and the text behind it
on-filled : (c : Code) (r : List Code) → IsFilled (is_line_ending c) r → IsFilled false (onto_end is_whitespace_code c r)
on-filled c [] h = by_case (is_blank c) (is_line_ending c) refl
  where
    by_case : (a b : Bool) → is_line_ending c ≡ b → has_no_blank_line true (if a || b then [] else c ∷ []) ≡ true
    by_case true b e = refl
    by_case false true e = refl
    by_case false false e = ap (λ v. elim v as (λ _. Bool) [ true ↦ false | false ↦ true ]) e
on-filled c (d ∷ ds) h = by_case (is_line_ending c) h
  where
    by_case : (b : Bool) → IsFilled b (d ∷ ds)
        → elim b as (λ _. Bool) [ true ↦ has_no_blank_line false (d ∷ ds) | false ↦ has_no_blank_line true (d ∷ ds) ] ≡ true
    by_case true k = k
    by_case false k = k

-- a line begins with this code
first-filled : (c : Code) (r : List Code) → is_whitespace_code c ≡ false → IsFilled false r → IsFilled true (onto_end is_whitespace_code c r)
first-filled c r w h = subst (λ (l : List Code). is_text_codes l ≡ true) (sym (kept r)) (whole (is_blank c) (is_line_ending c) w)
  where
    kept : (l : List Code) → onto_end is_whitespace_code c l ≡ c ∷ l
    kept [] = ap (λ v. if v then [] else c ∷ []) w
    kept (d ∷ ds) = refl

    whole : (a b : Bool) → (a || b) ≡ false → elim b as (λ _. Bool) [ true ↦ false && has_no_blank_line false r | false ↦ has_no_blank_line (false || not a) r ] ≡ true
    whole true b e = false-true (sym e)
    whole false true e = false-true (sym e)
    whole false false e = h

filled : (b : Bool) (cs : List Code) → lines_begin b cs ≡ true → IsFilled b (trimmed_end cs)
filled true [] h = refl
filled false [] h = refl
filled true (c ∷ cs) h =
    first-filled c (trimmed_end cs) (not-true (is_whitespace_code c) (and-first (not (is_whitespace_code c)) (lines_begin false cs) h))
    (filled false cs (and-second (not (is_whitespace_code c)) (lines_begin false cs) h))
filled false (c ∷ cs) h = on-filled c (trimmed_end cs) (filled (is_line_ending c) cs h)

no-space-first : (cs : List Code) → lines_begin true cs ≡ true → next_is is_whitespace_code cs ≡ false
no-space-first [] h = refl
no-space-first (c ∷ cs) h = not-true (is_whitespace_code c) (and-first (not (is_whitespace_code c)) (lines_begin false cs) h)

pub trimmed-text : (cs : List Code) → lines_begin true cs ≡ true → IsText (trimmed_end cs)
trimmed-text cs h = record {
  filled = filled true cs h;
  begins = no-space-first (trimmed_end cs) (end-starts is_whitespace_code true cs h);
  ends = end-twice is_whitespace_code cs;
}

pub is-text : (cs : List Code) → lines_begin true cs ≡ true → trimmed_end cs ≡ cs → IsText cs
is-text cs h e = subst IsText e (trimmed-text cs h)

-- What definitions take ends with a line: what holds behind some codes, and where a line begins.
module _ (Within Begin : List Code → Type 0)
    (behind : (xs ys : List Code) → Within (xs ++ ys) → Within ys)
    (next : (c : Code) (cs : List Code) → is_line_ending c ≡ true → Within (c ∷ cs) → Begin cs)
    (none : Begin [])
    (weaker : (cs : List Code) → Begin cs → Within cs) where
  abbrev Stays : {A : Type 0} → Reading A → Type 0
  Stays a = (cs : List Code) → Within cs → IfGiven (λ x rest. Within rest) (a cs)

  abbrev Ends : {A : Type 0} → Reading A → Type 0
  Ends a = (cs : List Code) → Within cs → IfGiven (λ x rest. Begin rest) (a cs)

  covered : {A : Type 0} (f : A → List Code) (a : Reading A) → Covers f [] a → Stays a
  covered f a h cs w = given-map (Splits f cs) (λ x rest. Within rest) (a cs) (λ x rest e. behind (f x) rest (subst Within (sym e) w)) (h.at cs)

  next-ends : {A B : Type 0} (a : Reading A) (b : Reading B) → Stays a → Ends b → Ends (a >> b)
  unfolding ◌>>◌
  next-ends {A} {B} a b h k cs w = by_case (a cs) (h cs w)
    where
      by_case : (o : Option (A × List Code)) → IfGiven (λ x rest. Within rest) o → IfGiven (λ y rest. Begin rest) (elim o [ None ↦ None | Some r ↦ b r.1 ])
      by_case None e = tt
      by_case (Some r) e = k r.1 e

  bind-ends : {A B : Type 0} (a : Reading A) (b : A → Reading B) → Stays a → ((x : A) → Ends (b x)) → Ends (a >>= b)
  bind-ends a b h k cs w = given-bind (λ x rest. Within rest) (λ y rest. Begin rest) a b cs (h cs w) (λ x rest e. k x rest e)

  -- what is given behind the end
  given-behind : {A B : Type 0} (a : Reading A) (f : A → B) → Ends a → Ends (a >>= λ x. gives (f x))
  given-behind a f h cs w = given-bind (λ x rest. Begin rest) (λ y rest. Begin rest) a (λ x. gives (f x)) cs (h cs w) (λ x rest e. given-gives (λ y left. Begin left) (f x) rest e)

  end-then-gives : {A B : Type 0} (a : Reading A) (y : B) → Ends a → Ends (a >> gives y)
  unfolding ◌>>◌ gives
  end-then-gives {A} {B} a y h cs w = by_case (a cs) (h cs w)
    where
      by_case : (o : Option (A × List Code)) → IfGiven (λ x rest. Begin rest) o → IfGiven (λ y rest. Begin rest) (elim o [ None ↦ None | Some r ↦ gives y r.1 ])
      by_case None e = tt
      by_case (Some r) e = e

  either-ends : {A : Type 0} (a b : Reading A) → Ends a → Ends b → Ends (either a b)
  either-ends a b h k cs w = given-either (λ x rest. Begin rest) a b cs (h cs w) (k cs w)

  one-ends : Ends (one is_line_ending)
  unfolding one
  one-ends [] w = tt
  one-ends (c ∷ cs) w = by_case (is_line_ending c) refl
    where
      by_case : (b : Bool) → is_line_ending c ≡ b → IfGiven (λ x rest. Begin rest) (elim b as (λ _. Option (List Code × List Code)) [ true ↦ Some (c ∷ [], cs) | false ↦ None ])
      by_case true e = next c cs e w
      by_case false e = tt

  at-end : Ends (λ cs. provided (is_empty cs) cs)
  unfolding provided
  at-end [] w = none
  at-end (c ∷ cs) w = tt

  line_end-ends : Ends line_end
  unfolding line_end
  line_end-ends =
      next-ends (any_number is_blank) (either (one is_line_ending) (λ cs. provided (is_empty cs) cs)) (covered itself (any_number is_blank) (takes_any_number is_blank))
      (either-ends (one is_line_ending) (λ cs. provided (is_empty cs) cs) one-ends at-end)

  title-ends : Ends title_of_definition
  unfolding title_of_definition
  title-ends =
      next-ends (before (space_or_tab_eol None) begins_title) (title true title_names >>= λ text. line_end >> gives (Some (between (leaf_codes text))))
      (covered leaf_codes (before (space_or_tab_eol None) begins_title) (seen_before leaf_codes [] (space_or_tab_eol None) begins_title (covers_spacing None)))
      (bind-ends (title true title_names) (λ text. line_end >> gives (Some (between (leaf_codes text)))) (covered leaf_codes (title true title_names) (covers_title true title_names))
      (λ text. end-then-gives line_end (Some (between (leaf_codes text))) line_end-ends))

  -- what stands behind the colon of a definition with this label
  abbrev behind-colon : Forest → Reading Definition
  behind-colon name =
      optional_tree (space_or_tab_eol None) >> (destination 32 resource_names >>= λ target. either title_of_definition (line_end >> gives None) >>= λ text.
      gives (record { label = between (leaf_codes name); destination = destination_text (leaf_codes target); title = text }))

  behind-colon-ends : (name : Forest) → Ends (behind-colon name)
  behind-colon-ends name =
      next-ends (optional_tree (space_or_tab_eol None)) _ (covered leaf_codes (optional_tree (space_or_tab_eol None)) (covers_optional_tree (space_or_tab_eol None) (covers_spacing None)))
      (bind-ends (destination 32 resource_names) _ (covered leaf_codes (destination 32 resource_names) (covers_destination 32 resource_names))
      (λ target. given-behind (either title_of_definition (line_end >> gives None)) (λ text. record { label = between (leaf_codes name); destination = destination_text (leaf_codes target); title = text })
      (either-ends title_of_definition (line_end >> gives None) title-ends (end-then-gives line_end None line_end-ends))))

  definition-ends : Ends definition
  unfolding definition
  definition-ends =
      bind-ends (label true reference_names) (λ name. one (is_value (byte ":")) >> behind-colon name) (covered leaf_codes (label true reference_names) (covers_label true reference_names))
      (λ name. next-ends (one (is_value (byte ":"))) (behind-colon name) (covered itself (one (is_value (byte ":"))) (takes_one (is_value (byte ":")))) (behind-colon-ends name))

  pub left-begins : (n : ℕ) (cs : List Code) → Begin cs → Begin (taken n cs).1
  left-begins zero cs h = h
  left-begins (suc n) cs h = by_case (definition cs) (definition-ends cs (weaker cs h)) (left-begins n)
    where
      by_case : (o : Option (Definition × List Code)) → IfGiven (λ x rest. Begin rest) o → ((rest : List Code) → Begin rest → Begin (taken n rest).1) → Begin (taken_by (taken n) cs o).1
      by_case None e more = h
      by_case (Some r) e more = more r.1 e

-- The text behind the definitions begins with a line.

abbrev BeginsLines : Bool → List Code → Type 0
BeginsLines b cs = lines_begin b cs ≡ true

abbrev pub EndsText : List Code → Type 0
EndsText cs = trimmed_end cs ≡ cs

behind-starts : (xs ys : List Code) → BeginsLines false (xs ++ ys) → BeginsLines false ys
behind-starts [] ys h = h
behind-starts (x ∷ xs) ys h = behind-starts xs ys (tail-starts false x (xs ++ ys) h)

next-starts : (c : Code) (cs : List Code) → is_line_ending c ≡ true → BeginsLines false (c ∷ cs) → BeginsLines true cs
next-starts c cs e h = sym (ap (λ v. lines_begin v cs) e) ∙ h

pub behind-ends : (xs ys : List Code) → EndsText (xs ++ ys) → EndsText ys
behind-ends [] ys h = h
behind-ends (x ∷ xs) ys h = behind-ends xs ys (tail-ends x (xs ++ ys) h)

pub left-starts : (text : List Code) → lines_begin true text ≡ true → lines_begin true (definitions_of text).1 ≡ true
left-starts text h = left-begins (BeginsLines false) (BeginsLines true) behind-starts next-starts refl going-on (length text) text h

pub left-ends : (text : List Code) → trimmed_end text ≡ text → trimmed_end (definitions_of text).1 ≡ (definitions_of text).1
left-ends text h = left-begins EndsText EndsText behind-ends (λ c cs e k. tail-ends c cs k) refl (λ cs k. k) (length text) text h

-- The tree of the lines.

abbrev GoodLeaf : Leaf → Type 0
GoodLeaf blank = Unit {0}
GoodLeaf thematic_break = Unit {0}
GoodLeaf (heading n text) = (lines_begin true text ≡ true) × EndsText text
GoodLeaf (underlined n text) = (lines_begin true text ≡ true) × EndsText text
GoodLeaf (paragraph text) = lines_begin true text ≡ true
GoodLeaf (indented_code ls) = Unit {0}
GoodLeaf (fenced_code f info ls ended) = Unit {0}
GoodLeaf (html k text ended) = Unit {0}
GoodLeaf (table columns rows) = AreRows (length columns) rows
GoodLeaf (front_matter ls) = Unit {0}

abbrev GoodTree : Tree → Type 0
GoodTree nothing = Unit {0}
GoodTree (and_leaf before leaf) = GoodTree before × GoodLeaf leaf
GoodTree (and_container before c inside) = GoodTree before × GoodTree inside

abbrev LeafGood : Option Leaf → Type 0
LeafGood None = Unit {0}
LeafGood (Some l) = GoodLeaf l

abbrev RestGood : Option (List Code) → Type 0
RestGood None = Unit {0}
RestGood (Some rest) = is_line rest ≡ true

abbrev InsideGood : Option (Container × List Code) → Type 0
InsideGood None = Unit {0}
InsideGood (Some r) = is_line r.1 ≡ true

abbrev BegunGood : Option Begun → Type 0
BegunGood None = Unit {0}
BegunGood (Some (leaf_begins l)) = GoodLeaf l
BegunGood (Some (container_begins c rest)) = is_line rest ≡ true

leaf-if : (b : Bool) (l : Leaf) → GoodLeaf l → LeafGood (only_if b l)
leaf-if true l h = h
leaf-if false l h = tt

rest-if : (b : Bool) (rest : List Code) → is_line rest ≡ true → RestGood (only_if b rest)
rest-if true rest h = h
rest-if false rest h = tt

inside-if : (b : Bool) (r : Container × List Code) → is_line r.1 ≡ true → InsideGood (only_if b r)
inside-if true r h = h
inside-if false r h = tt

-- a heading

-- a line without whitespace at its ends
trimmed-starts : (cs : List Code) → is_line cs ≡ true → lines_begin true (trimmed_end (trimmed cs)) ≡ true
trimmed-starts [] h = refl
trimmed-starts (c ∷ cs) h = by_case (is_blank c) refl (trimmed-starts cs (tail-line c cs h))
  where
    alone : (b : Bool) → is_line_ending c ≡ b → is_blank c ≡ false → lines_begin true (trimmed_end (c ∷ cs)) ≡ true
    alone true e k = ap (λ l. lines_begin true (trimmed_end (c ∷ l))) (last-ending c cs e h) ∙ ap (λ v. lines_begin true (if v || is_line_ending c then [] else c ∷ [])) k ∙ ap (λ v. lines_begin true (if v then [] else c ∷ [])) e
    alone false e k = end-starts is_whitespace_code true (c ∷ cs) (first-starts c cs h (neither (is_blank c) (is_line_ending c) k e))

    by_case : (b : Bool) → is_blank c ≡ b → lines_begin true (trimmed_end (trimmed cs)) ≡ true
        → lines_begin true (trimmed_end (elim b as (λ _. List Code × List Code) [ true ↦ (c ∷ (span is_blank cs).0, (span is_blank cs).1) | false ↦ ([], c ∷ cs) ]).1) ≡ true
    by_case true e k = k
    by_case false e k = alone (is_line_ending c) refl e

closed-good : (cs : List Code) → lines_begin true cs ≡ true → EndsText cs → (lines_begin true (heading_text cs) ≡ true) × EndsText (heading_text cs)
closed-good cs h e = by_test (ends_blank open_part)
  where
    open_part : List Code
    open_part = without_end (is_value (byte "#")) cs

    by_test : (b : Bool) → (lines_begin true (if b then trimmed_end open_part else cs) ≡ true) × EndsText (if b then trimmed_end open_part else cs)
    by_test true = (end-starts is_whitespace_code true open_part (end-starts (is_value (byte "#")) true cs h), end-twice is_whitespace_code open_part)
    by_test false = (h, e)

heading-good : (cs : List Code) → is_line cs ≡ true → LeafGood (heading_at cs)
heading-good cs h =
    let n = count_first (byte "#") cs in
    let t = trimmed_end (trimmed (drop n cs)) in
    leaf-if (is_between 1 6 n && is_gap (drop n cs)) (heading n (heading_text t))
    (closed-good t (trimmed-starts (drop n cs) (drop-line n cs h)) (end-twice is_whitespace_code (trimmed (drop n cs))))

fence-good : (x : Extensions) → (columns : ℕ) (cs : List Code) → LeafGood (fence_at x columns cs)
fence-good x columns cs =
    let v = first_value cs in
    let n = count_first v cs in
    leaf-if (nat_le (fence_least v) n && may_be_info x v (drop n cs)) (fenced_code (record { value = v; count = n; columns = columns }) (trimmed_end (trimmed (drop n cs))) [] false) tt

html-good : (after_text : Bool) (cs : List Code) → LeafGood (html_at after_text cs)
html-good after_text cs =
    let k = html_kind (trimmed cs) in
    leaf-if (not (k == 0 || (k == 7 && after_text))) (html k cs (ends_html k cs)) tt

behind-quote-line : (cs : List Code) → is_line cs ≡ true → RestGood (behind_quote cs)
behind-quote-line cs h =
    let t = trimmed cs in
    rest-if (nat_lt (indent cs) 4 && next_is (is_value (byte ">")) t) (skip 1 (drop 1 t)) (skip-line 1 (drop 1 t) (drop-line 1 t (trimmed-line cs h)))

quote-line : (o : Option (List Code)) → RestGood o → InsideGood (in_quote o)
quote-line None h = tt
quote-line (Some rest) h = h

item-line : (in_paragraph : Bool) (columns : ℕ) (cs : List Code) (o : Option (Marker × ℕ)) → is_line cs ≡ true → InsideGood (item_by in_paragraph columns cs o)
item-line in_paragraph columns cs None h = tt
item-line in_paragraph columns cs (Some m) h =
    let behind = drop m.1 cs in
    inside-if (may_begin in_paragraph m.0 behind) (item m.0 (columns + m.1 + padding behind), skip (padding behind) behind) (skip-line (padding behind) behind (drop-line m.1 cs h))

label-line : (taken : Bool) (cs : List Code) → is_line cs ≡ true → is_line (label_from taken cs).1 ≡ true
label-line taken [] h = refl
label-line taken (c ∷ cs) h = by_test (ends_label taken c) (label-line next cs (tail-line c cs h))
  where
    next : Bool
    next = not taken && is_value (byte "\\") c

    by_test : (b : Bool) → is_line (label_from next cs).1 ≡ true → is_line (if b then ([], c ∷ cs) else onto_label c (label_from next cs)).1 ≡ true
    by_test true k = h
    by_test false k = k

footnote-line : (b : Bool) (cs : List Code) → is_line cs ≡ true → InsideGood (if b then footnote_at cs else None)
footnote-line false cs h = tt
footnote-line true cs h =
    let found = label_from false (drop 2 cs) in
    inside-if ((next_is (is_value (byte "[")) cs && next_is (is_value (byte "^")) (drop 1 cs)) && is_closed_label found) (footnote found.0, trimmed (drop 2 found.1))
    (trimmed-line (drop 2 found.1) (drop-line 2 found.1 (label-line false (drop 2 cs) (drop-line 2 cs h))))

of-container : (o : Option (Container × List Code)) → InsideGood o → BegunGood (container_begun o)
of-container None h = tt
of-container (Some r) h = h

of-leaf : (o : Option Leaf) → LeafGood o → BegunGood (leaf_begun o)
of-leaf None h = tt
of-leaf (Some l) h = h

of-first : (o : Option Begun) (os : List (Option Begun)) → BegunGood o → BegunGood (first_of os) → BegunGood (first_of (o ∷ os))
of-first None os h k = k
of-first (Some b) os h k = h

of-either : (b : Bool) (o p : Option Begun) → BegunGood o → BegunGood p → BegunGood (if b then o else p)
of-either true o p h k = h
of-either false o p h k = k

begun-good : (x : Extensions) → (in_paragraph after_text : Bool) (cs : List Code) → is_line cs ≡ true → BegunGood (begun x in_paragraph after_text cs)
begun-good x in_paragraph after_text cs h =
    let t = trimmed cs in
    let l = trimmed-line cs h in
    of-either (nat_lt (indent cs) 4) _ _
    (of-first _ _ (of-container (quote_at cs) (quote-line (behind_quote cs) (behind-quote-line cs h)))
    (of-first _ _ (of-leaf (heading_at t) (heading-good t l))
    (of-first _ _ (of-leaf (fence_at x (indent cs) t) (fence-good x (indent cs) t))
    (of-first _ _ (of-leaf (html_at after_text cs) (html-good after_text cs))
    (of-first _ _ (of-leaf (only_if (is_break t) thematic_break) (leaf-if (is_break t) thematic_break tt))
    (of-first _ _ (of-container (if x.footnotes then footnote_at t else None) (footnote-line x.footnotes t l))
    (of-first _ [] (of-container (item_at in_paragraph (indent cs) t) (item-line in_paragraph (indent cs) t (marker_at t) l)) tt)))))))
    (of-either (after_text || is_blank_line cs) None (Some (leaf_begins (indented_code (skip 4 cs ∷ [])))) tt tt)

-- the text of a heading that begins
pub heading-begins : (x : Extensions) (in_paragraph after_text : Bool) (cs : List Code) (n : ℕ) (text : List Code) → is_line cs ≡ true → begun x in_paragraph after_text cs ≡ Some (leaf_begins (heading n text))
    → (lines_begin true text ≡ true) × (trimmed_end text ≡ text)
heading-begins x in_paragraph after_text cs n text h e = subst BegunGood e (begun-good x in_paragraph after_text cs h)

-- siblings with a line behind them

found-good : (inner : List Code → Tree) → ((rest : List Code) → is_line rest ≡ true → GoodTree (inner rest)) → (cs : List Code) (s : Tree) (o : Option Begun) → is_line cs ≡ true → GoodTree s → BegunGood o
    → GoodTree (with_found inner cs s o)
found-good inner i cs s None h g k = by_case (is_blank_line cs) refl
  where
    by_case : (b : Bool) → is_blank_line cs ≡ b → GoodTree (if b then s else and_leaf s (paragraph (trimmed cs)))
    by_case true e = g
    by_case false e = (g, filled-starts cs h e)
found-good inner i cs s (Some (leaf_begins l)) h g k = (g, k)
found-good inner i cs s (Some (container_begins c rest)) h g k = (g, i rest k)

rest-good : (x : Extensions) → (n : ℕ) (cs : List Code) (s : Tree) → is_line cs ≡ true → GoodTree s → GoodTree (with_rest x n cs s)
rest-good x zero cs s h g = g
rest-good x (suc n) cs s h g =
    found-good (λ rest. with_rest x n rest nothing) (λ rest k. rest-good x n rest nothing k tt) cs s (begun x false false cs) h g (begun-good x false false cs h)

with-begun-good : (x : Extensions) → (b : Begun) (s : Tree) → GoodTree s → BegunGood (Some b) → GoodTree (with_begun x b s)
with-begun-good x (leaf_begins l) s g h = (g, h)
with-begun-good x (container_begins c rest) s g h = (g, rest-good x (suc (length rest)) rest nothing h tt)

line-good : (x : Extensions) → (cs : List Code) (s : Tree) → is_line cs ≡ true → GoodTree s → GoodTree (with_line x cs s)
line-good x cs s h g = by_test (is_blank_line cs)
  where
    by_test : (b : Bool) → GoodTree (if b then and_leaf s blank else with_rest x (suc (length cs)) cs s)
    by_test true = (g, tt)
    by_test false = rest-good x (suc (length cs)) cs s h g

-- leaves that a line goes on with

fenced-good : (b : Bool) (f : Fence) (info : List Code) (ls : List (List Code)) (cs : List Code) → GoodLeaf (with_fenced_line b f info ls cs)
fenced-good true f info ls cs = tt
fenced-good false f info ls cs = tt

indented-good : (b : Bool) (ls : List (List Code)) (cs : List Code) → LeafGood (with_indented_line b ls cs)
indented-good true ls cs = tt
indented-good false ls cs = leaf-if (is_blank_line cs) (indented_code (ls ++ (trimmed cs ∷ []))) tt

-- the text of a cell

same-length : (n m : ℕ) → (n == m) ≡ true → n ≡ m
same-length n m h = grind (arith, h)

abbrev Unended : List Code → Type 0
Unended cs = list_any is_line_ending cs ≡ false

first-false : (a b : Bool) → (a || b) ≡ false → a ≡ false
first-false true b h = false-true (sym h)
first-false false b h = refl

-- without the whitespace at its end a line has no line ending
end-unended : (cs : List Code) → is_line cs ≡ true → Unended (trimmed_end cs)
end-unended [] h = refl
end-unended (c ∷ cs) h = by_case (is_line_ending c) refl (end-unended cs (tail-line c cs h))
  where
    onto : (r : List Code) → is_line_ending c ≡ false → Unended r → Unended (onto_end is_whitespace_code c r)
    onto [] e k = by_test (is_whitespace_code c)
      where
        by_test : (b : Bool) → Unended (if b then [] else c ∷ [])
        by_test true = refl
        by_test false = ap (λ v. v || false) e
    onto (d ∷ ds) e k = ap (λ v. v || list_any is_line_ending (d ∷ ds)) e ∙ k

    alone : is_line_ending c ≡ true → Unended (onto_end is_whitespace_code c [])
    alone e = by_test (is_blank c)
      where
        by_test : (b : Bool) → Unended (if b || is_line_ending c then [] else c ∷ [])
        by_test true = refl
        by_test false = ap (λ v. list_any is_line_ending (if v then [] else c ∷ [])) e

    by_case : (b : Bool) → is_line_ending c ≡ b → Unended (trimmed_end cs) → Unended (onto_end is_whitespace_code c (trimmed_end cs))
    by_case true e k = subst (λ r. Unended (onto_end is_whitespace_code c (trimmed_end r))) (sym (last-ending c cs e h)) (alone e)
    by_case false e k = onto (trimmed_end cs) e k

unended-starts : (cs : List Code) → Unended cs → lines_begin false cs ≡ true
unended-starts [] h = refl
unended-starts (c ∷ cs) h =
    ap (λ v. lines_begin v cs) (first-false (is_line_ending c) (list_any is_line_ending cs) h) ∙ unended-starts cs (second-false (is_line_ending c) (list_any is_line_ending cs) h)

ink-starts : (cs : List Code) → next_is is_whitespace_code cs ≡ false → Unended cs → lines_begin true cs ≡ true
ink-starts [] h e = refl
ink-starts (c ∷ cs) h e = both-true (not (is_whitespace_code c)) (lines_begin false cs) (ap not h) (unended-starts cs (second-false (is_line_ending c) (list_any is_line_ending cs) e))

cell-good : (part : List Code) → is_line part ≡ true → IsText (cell_text part) × Unended (cell_text part)
cell-good part h =
    let u : Unended (cell_text part) = end-unended (trimmed part) (trimmed-line part h) in
    let f : next_is is_whitespace_code (cell_text part) ≡ false = no-space-first (cell_text part) (trimmed-starts part h) in
    (is-text (cell_text part) (ink-starts (cell_text part) f u) (end-twice is_whitespace_code (trimmed part)), u)

-- the parts of a line are lines

abbrev AreParts : List (List Code) → Type 0
AreParts [] = Unit {0}
AreParts (p ∷ ps) = (is_line p ≡ true) × AreParts ps

onto-part-lines : (c : Code) (ps : List (List Code)) → is_line_ending c ≡ false → AreParts ps → AreParts (onto_part c ps)
onto-part-lines c [] e h = (ap (λ v. if v then true else true) e, tt)
onto-part-lines c (p ∷ ps) e h = (ap (λ v. if v then is_empty p else is_line p) e ∙ h.0, h.1)

-- a line ending stands last, so nothing is parted behind it
ending-lines : (b : Bool) (c : Code) → AreParts (onto_part c (parts_of b []))
ending-lines b c = (by_test (is_line_ending c), tt)
  where
    by_test : (v : Bool) → (if v then true else true) ≡ true
    by_test true = refl
    by_test false = refl

parts-lines : (escaped : Bool) (cs : List Code) → is_line cs ≡ true → AreParts (parts_of escaped cs)
parts-lines escaped [] h = (refl, tt)
parts-lines escaped (c ∷ cs) h =
    by_test (is_value (byte "|") c && not escaped) (parts-lines false cs (tail-line c cs h)) (parts-lines next cs (tail-line c cs h))
  where
    next : Bool
    next = is_value (byte "\\") c

    by_case : (b : Bool) → is_line_ending c ≡ b → AreParts (parts_of next cs) → AreParts (onto_part c (parts_of next cs))
    by_case true e k = subst (λ x. AreParts (onto_part c (parts_of next x))) (sym (last-ending c cs e h)) (ending-lines next c)
    by_case false e k = onto-part-lines c (parts_of next cs) e k

    by_test : (b : Bool) → AreParts (parts_of false cs) → AreParts (parts_of next cs) → AreParts (if b then [] ∷ parts_of false cs else onto_part c (parts_of next cs))
    by_test true k l = (refl, k)
    by_test false k l = by_case (is_line_ending c) refl l

blank-end-lines : (ps : List (List Code)) → AreParts ps → AreParts (without_blank_end ps)
blank-end-lines [] h = tt
blank-end-lines (p ∷ []) h = by_test (is_blank_line p)
  where
    by_test : (b : Bool) → AreParts (if b then [] else p ∷ [])
    by_test true = tt
    by_test false = h
blank-end-lines (p ∷ q ∷ ps) h = (h.0, blank-end-lines (q ∷ ps) h.1)

each-good : (ps : List (List Code)) → AreParts ps → AreCells (map cell_text ps)
each-good [] h = tt
each-good (p ∷ ps) h = let c = cell-good p h.0 in (c.0, c.1, each-good ps h.1)

cells-of-good : (cs : List Code) → is_line cs ≡ true → AreCells (cells_of cs)
cells-of-good cs h =
    let behind = after_one (byte "|") (trimmed cs) in
    each-good (without_blank_end (parts_of false behind))
    (blank-end-lines (parts_of false behind) (parts-lines false behind (drop-line _ (trimmed cs) (trimmed-line cs h))))

empty-text : IsText []
empty-text = record { filled = refl; begins = refl; ends = refl }

fitted-good : (columns : List Alignment) (cells : List (List Code)) → AreCells cells → AreCells (fitted columns cells)
fitted-good [] cells h = tt
fitted-good (a ∷ columns) [] h = (empty-text, refl, fitted-good columns [] h)
fitted-good (a ∷ columns) (c ∷ cells) h = (h.0, h.1, fitted-good columns cells h.2)

fitted-length : (columns : List Alignment) (cells : List (List Code)) → length (fitted columns cells) ≡ length columns
fitted-length [] cells = refl
fitted-length (a ∷ columns) [] = ap suc (fitted-length columns [])
fitted-length (a ∷ columns) (c ∷ cells) = ap suc (fitted-length columns cells)

one-row-more : (n : ℕ) (rows : List (List (List Code))) (row : List (List Code)) → AreRows n rows → (length row ≡ n) × AreCells row → AreRows n (rows ++ (row ∷ []))
one-row-more n [] row h k = (k, tt)
one-row-more n (r ∷ rows) row h k = (h.0, one-row-more n rows row h.1 k)

cells-good : (columns : List Alignment) (rows : List (List (List Code))) (cells : List (List Code)) → AreCells cells → AreRows (length columns) rows → LeafGood (with_cells columns rows cells)
cells-good columns rows [] a h = tt
cells-good columns rows (c ∷ cells) a h =
    one-row-more (length columns) rows (fitted columns (c ∷ cells)) h (fitted-length columns (c ∷ cells), fitted-good columns (c ∷ cells) a)

row-good : (columns : List Alignment) (rows : List (List (List Code))) (cs : List Code) → is_line cs ≡ true → AreRows (length columns) rows → (o : Option Begun) → LeafGood (with_table_line columns rows cs o)
row-good columns rows cs l h (Some b) = tt
row-good columns rows cs l h None = cells-good columns rows (cells_of cs) (cells-of-good cs l) h

map-length : (ds : List (List Code)) → length (map alignment_of ds) ≡ length ds
map-length [] = refl
map-length (d ∷ ds) = ap suc (map-length ds)

header-good : (header delimiters : List (List Code)) (a c b : Bool) → AreCells header → (b ≡ true → length header ≡ length delimiters)
    → LeafGood (only_if (a && (c && b)) (table (map alignment_of delimiters) (header ∷ [])))
header-good header delimiters true true true g h = ((h refl ∙ sym (map-length delimiters), g), tt)
header-good header delimiters true true false g h = tt
header-good header delimiters true false b g h = tt
header-good header delimiters false c b g h = tt

table-good : (line cs : List Code) → is_line line ≡ true → LeafGood (table_at line cs)
table-good line cs l = by_test (nat_lt (indent cs) 4)
  where
    by_test : (b : Bool) → LeafGood (if b then table_of (cells_of line) (cells_of cs) else None)
    by_test true =
        header-good (cells_of line) (cells_of cs) (nat_le 1 (length (cells_of line))) (list_all is_delimiter (cells_of cs)) (length (cells_of line) == length (cells_of cs))
        (cells-of-good line l) (same-length (length (cells_of line)) (length (cells_of cs)))
    by_test false = tt

table-if-good : (b : Bool) (line cs : List Code) → is_line line ≡ true → LeafGood (if b then table_at line cs else None)
table-if-good true line cs l = table-good line cs l
table-if-good false line cs l = tt

last-line : (ls : List (List Code)) → AreTextLines ls → is_line (split_last ls).1 ≡ true
last-line [] h = refl
last-line (l ∷ []) h = h.0
last-line (l ∷ k ∷ ls) h = last-line (k ∷ ls) h.1

next-good : (x : Extensions) → (l : Leaf) (cs : List Code) → is_line cs ≡ true → GoodLeaf l → LeafGood (with_next x l cs)
next-good x (fenced_code f info ls ended) cs h g = leaf-if (not ended) (with_fenced_line (is_closing f cs) f info ls cs) (fenced-good (is_closing f cs) f info ls cs)
next-good x (indented_code ls) cs h g = indented-good (nat_le 4 (indent cs)) ls cs
next-good x (html k text ended) cs h g = leaf-if (not (ended || (nat_le 6 k && is_blank_line cs))) (html k (text ++ cs) (ends_html k cs)) tt
next-good x blank cs h g = tt
next-good x thematic_break cs h g = tt
next-good x (heading n text) cs h g = tt
next-good x (underlined n text) cs h g = tt
next-good x (paragraph text) cs h g = tt
next-good x (table columns rows) cs h g = row-good columns rows cs h g (begun x false false cs)
next-good x (front_matter ls) cs h g = tt

next-or-line-good : (x : Extensions) → (cs : List Code) (before : Tree) (l : Leaf) (o : Option Leaf) → is_line cs ≡ true → GoodTree before → GoodLeaf l → LeafGood o → GoodTree (with_next_or_line x cs before l o)
next-or-line-good x cs before l (Some next) h g k n = (g, n)
next-or-line-good x cs before l None h g k n = line-good x cs (and_leaf before l) h (g, k)

with-table-good : (before : Tree) (lines : List Code) (t : Leaf) → GoodTree before → lines_begin true lines ≡ true → GoodLeaf t → GoodTree (with_table before lines t)
with-table-good before [] t g k n = (g, n)
with-table-good before (c ∷ cs) t g k n = ((g, k), n)

text-table-good : (cs : List Code) (before : Tree) (text : List Code) (o : Option Leaf) → is_line cs ≡ true → is_blank_line cs ≡ false → GoodTree before → lines_begin true text ≡ true → LeafGood o
    → GoodTree (with_text_table cs before text o)
text-table-good cs before text (Some t) h e g k n =
    with-table-good before (split_last (lines_of text)).0 t g
    (front-starts true (split_last (lines_of text)).0 (split_last (lines_of text)).1 (subst (λ z. lines_begin true z ≡ true) (sym (split-is (lines_of text) ∙ lines-cover text)) k)) n
text-table-good cs before text None h e g k n = (g, joined-starts true text (trimmed cs) k (filled-starts cs h e))

text-begun-good : (x : Extensions) → (cs : List Code) (before : Tree) (text : List Code) (o : Option Begun) → is_line cs ≡ true → is_blank_line cs ≡ false → GoodTree before → lines_begin true text ≡ true → BegunGood o
    → GoodTree (with_text_begun x cs before text o)
text-begun-good x cs before text (Some b) h e g k n = with-begun-good x b (and_leaf before (paragraph text)) (g, k) n
text-begun-good x cs before text None h e g k n =
    text-table-good cs before text (if x.tables then table_at (split_last (lines_of text)).1 cs else None) h e g k (table-if-good x.tables (split_last (lines_of text)).1 cs (last-line (lines_of text) (are-lines text)))

text-level-good : (x : Extensions) → (cs : List Code) (before : Tree) (text : List Code) (o : Option ℕ) → is_line cs ≡ true → is_blank_line cs ≡ false → GoodTree before → lines_begin true text ≡ true
    → GoodTree (with_text_level x cs before text o)
text-level-good x cs before text (Some level) h e g k = (g, (end-starts is_whitespace_code true text k, end-twice is_whitespace_code text))
text-level-good x cs before text None h e g k = text-begun-good x cs before text (begun x true true cs) h e g k (begun-good x true true cs h)

text-line-good : (x : Extensions) → (has_text : List Code → Bool) (cs : List Code) (before : Tree) (text : List Code) → is_line cs ≡ true → GoodTree before → lines_begin true text ≡ true
    → GoodTree (with_text_line x has_text cs before text)
text-line-good x has_text cs before text h g k = by_case (is_blank_line cs) refl
  where
    by_case : (b : Bool) → is_blank_line cs ≡ b → GoodTree (if b then and_leaf (and_leaf before (paragraph text)) blank else with_text_level x cs before text (heading_level has_text cs text))
    by_case true e = ((g, k), tt)
    by_case false e = text-level-good x cs before text (heading_level has_text cs text) h e g k

leaf-line-good : (x : Extensions) → (has_text : List Code → Bool) (cs : List Code) (before : Tree) (l : Leaf) → is_line cs ≡ true → GoodTree before → GoodLeaf l → GoodTree (with_leaf_line x has_text cs before l)
leaf-line-good x has_text cs before (paragraph text) h g k = text-line-good x has_text cs before text h g k
leaf-line-good x has_text cs before blank h g k = next-or-line-good x cs before blank (with_next x blank cs) h g k (next-good x blank cs h k)
leaf-line-good x has_text cs before thematic_break h g k = next-or-line-good x cs before thematic_break (with_next x thematic_break cs) h g k (next-good x thematic_break cs h k)
leaf-line-good x has_text cs before (heading n text) h g k = next-or-line-good x cs before (heading n text) (with_next x (heading n text) cs) h g k (next-good x (heading n text) cs h k)
leaf-line-good x has_text cs before (underlined n text) h g k = next-or-line-good x cs before (underlined n text) (with_next x (underlined n text) cs) h g k (next-good x (underlined n text) cs h k)
leaf-line-good x has_text cs before (indented_code ls) h g k = next-or-line-good x cs before (indented_code ls) (with_next x (indented_code ls) cs) h g k (next-good x (indented_code ls) cs h k)
leaf-line-good x has_text cs before (fenced_code f info ls ended) h g k =
    next-or-line-good x cs before (fenced_code f info ls ended) (with_next x (fenced_code f info ls ended) cs) h g k (next-good x (fenced_code f info ls ended) cs h k)
leaf-line-good x has_text cs before (table columns rows) h g k =
    next-or-line-good x cs before (table columns rows) (with_next x (table columns rows) cs) h g k (next-good x (table columns rows) cs h k)
leaf-line-good x has_text cs before (front_matter ls) h g k = next-or-line-good x cs before (front_matter ls) (with_next x (front_matter ls) cs) h g k (next-good x (front_matter ls) cs h k)
leaf-line-good x has_text cs before (html n text ended) h g k = next-or-line-good x cs before (html n text ended) (with_next x (html n text ended) cs) h g k (next-good x (html n text ended) cs h k)

-- containers

in-item-line : (b : Bool) (columns : ℕ) (cs : List Code) → is_line cs ≡ true → RestGood (rest_in_item b columns cs)
in-item-line true columns cs h = skip-line columns cs h
in-item-line false columns cs h = rest-if (is_blank_line cs) (trimmed cs) (trimmed-line cs h)

unless-line : (b : Bool) (o : Option (List Code)) → RestGood o → RestGood (if b then None else o)
unless-line true o h = tt
unless-line false o h = h

inside-line : (c : Container) (inside : Tree) (cs : List Code) → is_line cs ≡ true → RestGood (rest_inside c inside cs)
inside-line quote inside cs h = behind-quote-line cs h
inside-line (footnote label) inside cs h = in-item-line (nat_le 4 (indent cs)) 4 cs h
inside-line (item m columns) inside cs h =
    unless-line (is_further_blank inside cs) (rest_in_item (nat_le columns (indent cs)) columns cs) (in-item-line (nat_le columns (indent cs)) columns cs h)

lazy-good : (cs : List Code) (t : Tree) → is_line cs ≡ true → is_blank_line cs ≡ false → GoodTree t → GoodTree (with_lazy_line cs t)
lazy-good cs nothing h e g = tt
lazy-good cs (and_leaf before (paragraph text)) h e g = (g.0, joined-starts true text (trimmed cs) g.1 (filled-starts cs h e))
lazy-good cs (and_leaf before blank) h e g = g
lazy-good cs (and_leaf before thematic_break) h e g = g
lazy-good cs (and_leaf before (heading n text)) h e g = g
lazy-good cs (and_leaf before (underlined n text)) h e g = g
lazy-good cs (and_leaf before (indented_code ls)) h e g = g
lazy-good cs (and_leaf before (fenced_code f info ls ended)) h e g = g
lazy-good cs (and_leaf before (html k text ended)) h e g = g
lazy-good cs (and_leaf before (table columns rows)) h e g = g
lazy-good cs (and_leaf before (front_matter ls)) h e g = g
lazy-good cs (and_container before c inside) h e g = (g.0, lazy-good cs inside h e g.1)

lazy-filled : (a x y : Bool) → (a && not (x || y)) ≡ true → x ≡ false
lazy-filled a true y h = false-true (and-second a false h)
lazy-filled a false y h = refl

rest-inside-good : (x : Extensions) → (inner : List Code → Tree) (cs : List Code) (before : Tree) (c : Container) (inside : Tree) → ((rest : List Code) → is_line rest ≡ true → GoodTree (inner rest))
    → (o : Option (List Code)) → is_line cs ≡ true → GoodTree before → GoodTree inside → RestGood o → GoodTree (with_rest_inside x inner cs before c inside o)
rest-inside-good x inner cs before c inside i (Some rest) h g k n = (g, i rest n)
rest-inside-good x inner cs before c inside i None h g k n = by_case (is_lazy x cs inside) refl
  where
    by_case : (b : Bool) → is_lazy x cs inside ≡ b → GoodTree (if b then and_container before c (with_lazy_line cs inside) else with_line x cs (and_container before c inside))
    by_case true e = (g, lazy-good cs inside h (lazy-filled (ends_in_text inside) (is_blank_line cs) (is_some (begun x false true cs)) e) k)
    by_case false e = line-good x cs (and_container before c inside) h (g, k)

read-good : (x : Extensions) → (has_text : List Code → Bool) (cs : List Code) (t : Tree) → is_line cs ≡ true → GoodTree t → GoodTree (read_line x has_text cs t)
read-good x has_text cs nothing h g = line-good x cs nothing h g
read-good x has_text cs (and_leaf before l) h g = leaf-line-good x has_text cs before l h g.0 g.1
read-good x has_text cs (and_container before c inside) h g =
    rest-inside-good x (λ rest. read_line x has_text rest inside) cs before c inside (λ rest k. read-good x has_text rest inside k g.1) (rest_inside c inside cs) h g.0 g.1 (inside-line c inside cs h)

all-good : (x : Extensions) → (has_text : List Code → Bool) (ls : List (List Code)) (t : Tree) → AreTextLines ls → GoodTree t → GoodTree (read_lines x has_text ls t)
all-good x has_text [] t h g = g
all-good x has_text (l ∷ ls) t h g = all-good x has_text ls (read_line x has_text l t) h.1 (read-good x has_text l t h.0 g)

-- the lines behind front matter
abbrev MatterLines : Option (List (List Code) × List (List Code)) → Type 0
MatterLines None = Unit {0}
MatterLines (Some r) = AreTextLines r.1

-- Without definitions.

text-of-leaf-good : (l : Leaf) → GoodLeaf l → IsTextLeaf (text_of_leaf l)
text-of-leaf-good (paragraph text) h = trimmed-text (definitions_of text).1 (left-starts text h)
text-of-leaf-good (underlined n text) h = is-text (definitions_of text).1 (left-starts text h.0) (left-ends text h.1)
text-of-leaf-good (heading n text) h = is-text text h.0 h.1
text-of-leaf-good blank h = tt
text-of-leaf-good thematic_break h = tt
text-of-leaf-good (indented_code ls) h = tt
text-of-leaf-good (fenced_code f info ls ended) h = tt
text-of-leaf-good (html k text ended) h = tt
text-of-leaf-good (table columns rows) h = h
text-of-leaf-good (front_matter ls) h = tt

resolved-good : (t : Tree) → GoodTree t → HaveTexts (resolved t)
resolved-good nothing h = tt
resolved-good (and_leaf before l) h = (resolved-good before h.0, text-of-leaf-good l h.1)
resolved-good (and_container before c inside) h = (resolved-good before h.0, resolved-good inside h.1)

before-fence-lines : (n : ℕ) (ls : List (List Code)) → AreTextLines ls → MatterLines (matter_before n ls)
before-fence-lines n [] h = tt
before-fence-lines n (l ∷ ls) h = by_test (is_matter_fence n l) (before-fence-lines n ls h.1)
  where
    onto : (o : Option (List (List Code) × List (List Code))) → MatterLines o → MatterLines (onto_matter l o)
    onto None k = tt
    onto (Some r) k = k

    by_test : (b : Bool) → MatterLines (matter_before n ls) → MatterLines (if b then Some ([], ls) else onto_matter l (matter_before n ls))
    by_test true k = h.1
    by_test false k = onto (matter_before n ls) k

matter-lines : (b : Bool) (ls : List (List Code)) → AreTextLines ls → MatterLines (if b then matter_at ls else None)
matter-lines false ls h = tt
matter-lines true [] h = tt
matter-lines true (l ∷ ls) h = by_test (begins_matter (first_value l) l)
  where
    by_test : (b : Bool) → MatterLines (if b then matter_before (first_value l) ls else None)
    by_test true = before-fence-lines (first_value l) ls h.1
    by_test false = tt

behind-good : (x : Extensions) (has_text : List Code → Bool) (ls : List (List Code)) (o : Option (List (List Code) × List (List Code))) → AreTextLines ls → MatterLines o → GoodTree (read_behind x has_text ls o)
behind-good x has_text ls None h k = all-good x has_text ls nothing h tt
behind-good x has_text ls (Some r) h k = all-good x has_text r.1 (and_leaf nothing (front_matter r.0)) k (tt, tt)

pub texts_are_contents : TextsAreContents
texts_are_contents x bytes =
    let ls = lines_of (document_codes bytes) in
    resolved-good (blocks_of x has_text bytes)
    (behind-good x has_text ls (if x.front_matter then matter_at ls else None) (are-lines (document_codes bytes)) (matter-lines x.front_matter ls (are-lines (document_codes bytes))))
