-- Each block of an extension needs it.
use Rattle.std.proofs.Common.{◌≡◌, ℕ, zero, suc, ◌+◌, refl, subst, Bool, true, false, ◌&&◌, ◌||◌, not, nat_lt, nat_le, ◌==◌, List, [], ◌∷◌, ◌++◌, length, drop, map, Option, Some, None, if◌then◌else◌}
use Rattle.std.specs.Str.{byte}
use Rattle.std.specs.List.{list_any, list_all}
use Rattle.markdown_content.specs.Codes.{Code}
use Rattle.markdown_model.specs.CodeTests.{is_value, is_between, next_is}
use Rattle.markdown_block_model.specs.ByteOrderMark.{document_codes}
use Rattle.markdown_block_model.specs.LineRests.{lines_of, indent, trimmed, is_blank_line, skip, count_first, first_value, trimmed_end, is_gap, only_if}
use Rattle.markdown_block_model.specs.BlockTree.{Extensions, Alignment, Marker, Container, item, footnote, Fence, Leaf, blank, thematic_break, heading, underlined, paragraph, indented_code, fenced_code, html, table, front_matter, Tree, nothing, and_leaf, and_container}
use Rattle.markdown_block_model.specs.LeafStarts.{is_break, heading_text, heading_at, may_be_info, fence_least, fence_at, is_closing}
use Rattle.markdown_block_model.specs.HtmlStarts.{html_kind, ends_html, html_at}
use Rattle.markdown_block_model.specs.ContainerStarts.{label_from, is_closed_label, footnote_at, behind_quote, in_quote, quote_at, marker_at, padding, may_begin, item_by, item_at}
use Rattle.markdown_block_model.specs.Tables.{cells_of, is_delimiter, alignment_of, table_of, table_at, with_cells}
use Rattle.markdown_block_model.specs.FrontMatter.{matter_at}
use Rattle.markdown_block_model.specs.BlockStarts.{Begun, leaf_begins, container_begins, leaf_begun, container_begun, first_of, begun, with_found, with_rest, with_begun, with_line}
use Rattle.markdown_block_model.specs.DocumentBlocks.{with_table_line, split_last, with_table, with_text_table, read_behind, with_fenced_line, with_indented_line, with_next, with_next_or_line, with_text_begun, with_text_level, heading_level, with_text_line, with_leaf_line, rest_inside, with_lazy_line, is_lazy, with_rest_inside, read_line, read_lines, blocks_of}
use Rattle.markdown_block_model.specs.LinkDefinitions.{has_text, text_of_leaf, resolved}
use Rattle.markdown_block_model.specs.BlockLaws.{NeedsExtension, ContainerNeedsExtension, NeedExtensions, BlocksNeedExtensions}

abbrev LeafNeeds : Extensions → Option Leaf → Type 0
LeafNeeds e None = Unit {0}
LeafNeeds e (Some l) = NeedsExtension e l

abbrev InsideNeeds : Extensions → Option (Container × List Code) → Type 0
InsideNeeds e None = Unit {0}
InsideNeeds e (Some r) = ContainerNeedsExtension e r.0

abbrev BegunNeeds : Extensions → Option Begun → Type 0
BegunNeeds e None = Unit {0}
BegunNeeds e (Some (leaf_begins l)) = NeedsExtension e l
BegunNeeds e (Some (container_begins c rest)) = ContainerNeedsExtension e c

leaf-if : (e : Extensions) (b : Bool) (l : Leaf) → (b ≡ true → NeedsExtension e l) → LeafNeeds e (only_if b l)
leaf-if e true l h = h refl
leaf-if e false l h = tt

inside-if : (e : Extensions) (b : Bool) (c : Container) (rest : List Code) → ContainerNeedsExtension e c → InsideNeeds e (only_if b (c, rest))
inside-if e true c rest h = h
inside-if e false c rest h = tt

-- What begins.

math-needs : (e : Extensions) (n : ℕ) (b : Bool) (cs : List Code) → (b && may_be_info e n cs) ≡ true → n ≡ byte "$" → e.math ≡ true
math-needs e n true cs h d =
    by_math e.math (not (list_any (is_value (byte "$")) cs)) (subst (λ v. may_be_info e v cs ≡ true) d h)
  where
    by_math : (m free : Bool) → ((m && true) && free) ≡ true → m ≡ true
    by_math true free k = refl
    by_math false free k = k
math-needs e n false cs h d = absurd (cc)

fence-needs : (e : Extensions) (columns : ℕ) (cs : List Code) → LeafNeeds e (fence_at e columns cs)
fence-needs e columns cs =
    leaf-if e (nat_le (fence_least n) count && may_be_info e n (drop count cs)) (fenced_code (record { value = n; count = count; columns = columns }) (trimmed_end (trimmed (drop count cs))) [] false)
    (math-needs e n (nat_le (fence_least n) count) (drop count cs))
  where
    n : ℕ
    n = first_value cs

    count : ℕ
    count = count_first n cs

quote-needs : (e : Extensions) (o : Option (List Code)) → InsideNeeds e (in_quote o)
quote-needs e None = tt
quote-needs e (Some rest) = tt

footnote-needs : (e : Extensions) (b : Bool) (cs : List Code) → (b ≡ true → e.footnotes ≡ true) → InsideNeeds e (if b then footnote_at cs else None)
footnote-needs e false cs h = tt
footnote-needs e true cs h =
    inside-if e ((next_is (is_value (byte "[")) cs && next_is (is_value (byte "^")) (drop 1 cs)) && is_closed_label found) (footnote found.0) (trimmed (drop 2 found.1)) (h refl)
  where
    found : List Code × List Code
    found = label_from false (drop 2 cs)

item-needs : (e : Extensions) (in_paragraph : Bool) (columns : ℕ) (cs : List Code) (m : Option (Marker × ℕ)) → InsideNeeds e (item_by in_paragraph columns cs m)
item-needs e in_paragraph columns cs None = tt
item-needs e in_paragraph columns cs (Some m) =
    inside-if e (may_begin in_paragraph m.0 (drop m.1 cs)) (item m.0 (columns + m.1 + padding (drop m.1 cs))) (skip (padding (drop m.1 cs)) (drop m.1 cs)) tt

of-leaf : (e : Extensions) (o : Option Leaf) → LeafNeeds e o → BegunNeeds e (leaf_begun o)
of-leaf e None h = tt
of-leaf e (Some l) h = h

of-container : (e : Extensions) (o : Option (Container × List Code)) → InsideNeeds e o → BegunNeeds e (container_begun o)
of-container e None h = tt
of-container e (Some r) h = h

of-first : (e : Extensions) (o : Option Begun) (os : List (Option Begun)) → BegunNeeds e o → BegunNeeds e (first_of os) → BegunNeeds e (first_of (o ∷ os))
of-first e None os h k = k
of-first e (Some b) os h k = h

of-either : (e : Extensions) (b : Bool) (o p : Option Begun) → BegunNeeds e o → BegunNeeds e p → BegunNeeds e (if b then o else p)
of-either e true o p h k = h
of-either e false o p h k = k

begun-needs : (e : Extensions) (in_paragraph after_text : Bool) (cs : List Code) → BegunNeeds e (begun e in_paragraph after_text cs)
begun-needs e in_paragraph after_text cs =
    of-either e (nat_lt (indent cs) 4) _ _
    (of-first e _ _ (of-container e (quote_at cs) (quote-needs e (behind_quote cs)))
    (of-first e _ _ (of-leaf e (heading_at t) (leaf-if e (is_between 1 6 (count_first (byte "#") t) && is_gap inside) (heading (count_first (byte "#") t) (heading_text (trimmed_end (trimmed inside)))) (λ k. tt)))
    (of-first e _ _ (of-leaf e (fence_at e (indent cs) t) (fence-needs e (indent cs) t))
    (of-first e _ _ (of-leaf e (html_at after_text cs) (leaf-if e (not (kind == 0 || (kind == 7 && after_text))) (html kind cs (ends_html kind cs)) (λ k. tt)))
    (of-first e _ _ (of-leaf e (only_if (is_break t) thematic_break) (leaf-if e (is_break t) thematic_break (λ k. tt)))
    (of-first e _ _ (of-container e (if e.footnotes then footnote_at t else None) (footnote-needs e e.footnotes t (λ k. k)))
    (of-first e _ [] (of-container e (item_at in_paragraph (indent cs) t) (item-needs e in_paragraph (indent cs) t (marker_at t))) tt)))))))
    (of-either e (after_text || is_blank_line cs) None (Some (leaf_begins (indented_code (skip 4 cs ∷ [])))) tt tt)
  where
    t : List Code
    t = trimmed cs

    inside : List Code
    inside = drop (count_first (byte "#") t) t

    kind : ℕ
    kind = html_kind t

-- Siblings with a line behind them.

found-needs : (e : Extensions) (inner : List Code → Tree) → ((rest : List Code) → NeedExtensions e (inner rest)) → (cs : List Code) (s : Tree) (o : Option Begun)
    → NeedExtensions e s → BegunNeeds e o → NeedExtensions e (with_found inner cs s o)
found-needs e inner i cs s None h k = by_test (is_blank_line cs)
  where
    by_test : (b : Bool) → NeedExtensions e (if b then s else and_leaf s (paragraph (trimmed cs)))
    by_test true = h
    by_test false = (h, tt)
found-needs e inner i cs s (Some (leaf_begins l)) h k = (h, k)
found-needs e inner i cs s (Some (container_begins c rest)) h k = (h, k, i rest)

rest-needs : (e : Extensions) (n : ℕ) (cs : List Code) (s : Tree) → NeedExtensions e s → NeedExtensions e (with_rest e n cs s)
rest-needs e zero cs s h = h
rest-needs e (suc n) cs s h = found-needs e (λ rest. with_rest e n rest nothing) (λ rest. rest-needs e n rest nothing tt) cs s (begun e false false cs) h (begun-needs e false false cs)

with-begun-needs : (e : Extensions) (b : Begun) (s : Tree) → NeedExtensions e s → BegunNeeds e (Some b) → NeedExtensions e (with_begun e b s)
with-begun-needs e (leaf_begins l) s h k = (h, k)
with-begun-needs e (container_begins c rest) s h k = (h, k, rest-needs e (suc (length rest)) rest nothing tt)

line-needs : (e : Extensions) (cs : List Code) (s : Tree) → NeedExtensions e s → NeedExtensions e (with_line e cs s)
line-needs e cs s h = by_test (is_blank_line cs)
  where
    by_test : (b : Bool) → NeedExtensions e (if b then and_leaf s blank else with_rest e (suc (length cs)) cs s)
    by_test true = (h, tt)
    by_test false = rest-needs e (suc (length cs)) cs s h

-- Leaves that a line goes on with.

row-needs : (e : Extensions) (columns : List Alignment) (rows : List (List (List Code))) (cs : List Code) (o : Option Begun) → e.tables ≡ true → LeafNeeds e (with_table_line columns rows cs o)
row-needs e columns rows cs (Some b) h = tt
row-needs e columns rows cs None h = by_cells (cells_of cs)
  where
    by_cells : (cells : List (List Code)) → LeafNeeds e (with_cells columns rows cells)
    by_cells [] = tt
    by_cells (c ∷ cells) = h

fenced-needs : (e : Extensions) (b : Bool) (f : Fence) (info : List Code) (ls : List (List Code)) (cs : List Code) → (f.value ≡ byte "$" → e.math ≡ true) → NeedsExtension e (with_fenced_line b f info ls cs)
fenced-needs e true f info ls cs h = h
fenced-needs e false f info ls cs h = h

indented-needs : (e : Extensions) (b : Bool) (ls : List (List Code)) (cs : List Code) → LeafNeeds e (with_indented_line b ls cs)
indented-needs e true ls cs = tt
indented-needs e false ls cs = leaf-if e (is_blank_line cs) (indented_code (ls ++ (trimmed cs ∷ []))) (λ k. tt)

next-needs : (e : Extensions) (l : Leaf) (cs : List Code) → NeedsExtension e l → LeafNeeds e (with_next e l cs)
next-needs e (table columns rows) cs h = row-needs e columns rows cs (begun e false false cs) h
next-needs e (front_matter ls) cs h = tt
next-needs e (fenced_code f info ls ended) cs h = leaf-if e (not ended) (with_fenced_line (is_closing f cs) f info ls cs) (λ k. fenced-needs e (is_closing f cs) f info ls cs h)
next-needs e (indented_code ls) cs h = indented-needs e (nat_le 4 (indent cs)) ls cs
next-needs e (html k text ended) cs h = leaf-if e (not (ended || (nat_le 6 k && is_blank_line cs))) (html k (text ++ cs) (ends_html k cs)) (λ j. tt)
next-needs e blank cs h = tt
next-needs e thematic_break cs h = tt
next-needs e (heading n text) cs h = tt
next-needs e (underlined n text) cs h = tt
next-needs e (paragraph text) cs h = tt

next-or-line-needs : (e : Extensions) (cs : List Code) (before : Tree) (l : Leaf) (o : Option Leaf) → NeedExtensions e before → NeedsExtension e l → LeafNeeds e o → NeedExtensions e (with_next_or_line e cs before l o)
next-or-line-needs e cs before l (Some next) h k n = (h, n)
next-or-line-needs e cs before l None h k n = line-needs e cs (and_leaf before l) (h, k)

with-table-needs : (e : Extensions) (before : Tree) (lines : List Code) (t : Leaf) → NeedExtensions e before → NeedsExtension e t → NeedExtensions e (with_table before lines t)
with-table-needs e before [] t h k = (h, k)
with-table-needs e before (c ∷ cs) t h k = ((h, tt), k)

text-table-needs : (e : Extensions) (cs : List Code) (before : Tree) (text : List Code) (o : Option Leaf) → NeedExtensions e before → LeafNeeds e o → NeedExtensions e (with_text_table cs before text o)
text-table-needs e cs before text (Some t) h k = with-table-needs e before (split_last (lines_of text)).0 t h k
text-table-needs e cs before text None h k = (h, tt)

table-needs : (e : Extensions) (b : Bool) (line cs : List Code) → (b ≡ true → e.tables ≡ true) → LeafNeeds e (if b then table_at line cs else None)
table-needs e false line cs h = tt
table-needs e true line cs h = by_test (nat_lt (indent cs) 4)
  where
    by_test : (b : Bool) → LeafNeeds e (if b then table_of (cells_of line) (cells_of cs) else None)
    by_test true =
        leaf-if e (nat_le 1 (length (cells_of line)) && (list_all is_delimiter (cells_of cs) && length (cells_of line) == length (cells_of cs)))
        (table (map alignment_of (cells_of cs)) (cells_of line ∷ [])) (λ k. h refl)
    by_test false = tt

text-begun-needs : (e : Extensions) (cs : List Code) (before : Tree) (text : List Code) (o : Option Begun) → NeedExtensions e before → BegunNeeds e o → NeedExtensions e (with_text_begun e cs before text o)
text-begun-needs e cs before text (Some b) h k = with-begun-needs e b (and_leaf before (paragraph text)) (h, tt) k
text-begun-needs e cs before text None h k =
    text-table-needs e cs before text (if e.tables then table_at (split_last (lines_of text)).1 cs else None) h (table-needs e e.tables (split_last (lines_of text)).1 cs (λ j. j))

text-level-needs : (e : Extensions) (cs : List Code) (before : Tree) (text : List Code) (o : Option ℕ) → NeedExtensions e before → NeedExtensions e (with_text_level e cs before text o)
text-level-needs e cs before text (Some level) h = (h, tt)
text-level-needs e cs before text None h = text-begun-needs e cs before text (begun e true true cs) h (begun-needs e true true cs)

text-line-needs : (e : Extensions) (has_text : List Code → Bool) (cs : List Code) (before : Tree) (text : List Code) → NeedExtensions e before → NeedExtensions e (with_text_line e has_text cs before text)
text-line-needs e has_text cs before text h = by_test (is_blank_line cs)
  where
    by_test : (b : Bool) → NeedExtensions e (if b then and_leaf (and_leaf before (paragraph text)) blank else with_text_level e cs before text (heading_level has_text cs text))
    by_test true = ((h, tt), tt)
    by_test false = text-level-needs e cs before text (heading_level has_text cs text) h

leaf-line-needs : (e : Extensions) (has_text : List Code → Bool) (cs : List Code) (before : Tree) (l : Leaf) → NeedExtensions e before → NeedsExtension e l → NeedExtensions e (with_leaf_line e has_text cs before l)
leaf-line-needs e has_text cs before (paragraph text) h k = text-line-needs e has_text cs before text h
leaf-line-needs e has_text cs before blank h k = next-or-line-needs e cs before blank (with_next e blank cs) h k (next-needs e blank cs k)
leaf-line-needs e has_text cs before thematic_break h k = next-or-line-needs e cs before thematic_break (with_next e thematic_break cs) h k (next-needs e thematic_break cs k)
leaf-line-needs e has_text cs before (heading n text) h k = next-or-line-needs e cs before (heading n text) (with_next e (heading n text) cs) h k (next-needs e (heading n text) cs k)
leaf-line-needs e has_text cs before (underlined n text) h k = next-or-line-needs e cs before (underlined n text) (with_next e (underlined n text) cs) h k (next-needs e (underlined n text) cs k)
leaf-line-needs e has_text cs before (indented_code ls) h k = next-or-line-needs e cs before (indented_code ls) (with_next e (indented_code ls) cs) h k (next-needs e (indented_code ls) cs k)
leaf-line-needs e has_text cs before (fenced_code f info ls ended) h k = next-or-line-needs e cs before (fenced_code f info ls ended) (with_next e (fenced_code f info ls ended) cs) h k (next-needs e (fenced_code f info ls ended) cs k)
leaf-line-needs e has_text cs before (html n text ended) h k = next-or-line-needs e cs before (html n text ended) (with_next e (html n text ended) cs) h k (next-needs e (html n text ended) cs k)
leaf-line-needs e has_text cs before (table columns rows) h k = next-or-line-needs e cs before (table columns rows) (with_next e (table columns rows) cs) h k (next-needs e (table columns rows) cs k)
leaf-line-needs e has_text cs before (front_matter ls) h k = next-or-line-needs e cs before (front_matter ls) (with_next e (front_matter ls) cs) h k (next-needs e (front_matter ls) cs k)

-- Containers that a line goes on with.

lazy-needs : (e : Extensions) (cs : List Code) (t : Tree) → NeedExtensions e t → NeedExtensions e (with_lazy_line cs t)
lazy-needs e cs nothing h = tt
lazy-needs e cs (and_leaf before (paragraph text)) h = (h.0, tt)
lazy-needs e cs (and_leaf before blank) h = h
lazy-needs e cs (and_leaf before thematic_break) h = h
lazy-needs e cs (and_leaf before (heading n text)) h = h
lazy-needs e cs (and_leaf before (underlined n text)) h = h
lazy-needs e cs (and_leaf before (indented_code ls)) h = h
lazy-needs e cs (and_leaf before (fenced_code f info ls ended)) h = h
lazy-needs e cs (and_leaf before (html n text ended)) h = h
lazy-needs e cs (and_leaf before (table columns rows)) h = h
lazy-needs e cs (and_leaf before (front_matter ls)) h = h
lazy-needs e cs (and_container before c inside) h = (h.0, h.1, lazy-needs e cs inside h.2)

inside-needs : (e : Extensions) (inner : List Code → Tree) (cs : List Code) (before : Tree) (c : Container) (inside : Tree) → ((rest : List Code) → NeedExtensions e (inner rest)) → (o : Option (List Code))
    → NeedExtensions e (and_container before c inside) → NeedExtensions e (with_rest_inside e inner cs before c inside o)
inside-needs e inner cs before c inside i (Some rest) h = (h.0, h.1, i rest)
inside-needs e inner cs before c inside i None h = by_test (is_lazy e cs inside)
  where
    by_test : (b : Bool) → NeedExtensions e (if b then and_container before c (with_lazy_line cs inside) else with_line e cs (and_container before c inside))
    by_test true = (h.0, h.1, lazy-needs e cs inside h.2)
    by_test false = line-needs e cs (and_container before c inside) h

read-needs : (e : Extensions) (has_text : List Code → Bool) (cs : List Code) (t : Tree) → NeedExtensions e t → NeedExtensions e (read_line e has_text cs t)
read-needs e has_text cs nothing h = line-needs e cs nothing tt
read-needs e has_text cs (and_leaf before l) h = leaf-line-needs e has_text cs before l h.0 h.1
read-needs e has_text cs (and_container before c inside) h =
    inside-needs e (λ rest. read_line e has_text rest inside) cs before c inside (λ rest. read-needs e has_text rest inside h.2) (rest_inside c inside cs) h

all-needs : (e : Extensions) (has_text : List Code → Bool) (ls : List (List Code)) (t : Tree) → NeedExtensions e t → NeedExtensions e (read_lines e has_text ls t)
all-needs e has_text [] t h = h
all-needs e has_text (l ∷ ls) t h = all-needs e has_text ls (read_line e has_text l t) (read-needs e has_text l t h)

-- A document, without its definitions.

matter-needs : (e : Extensions) (has_text : List Code → Bool) (b : Bool) (ls : List (List Code)) → (b ≡ true → e.front_matter ≡ true)
    → NeedExtensions e (read_behind e has_text ls (if b then matter_at ls else None))
matter-needs e has_text false ls h = all-needs e has_text ls nothing tt
matter-needs e has_text true ls h = by_matter (matter_at ls)
  where
    by_matter : (o : Option (List (List Code) × List (List Code))) → NeedExtensions e (read_behind e has_text ls o)
    by_matter None = all-needs e has_text ls nothing tt
    by_matter (Some r) = all-needs e has_text r.1 (and_leaf nothing (front_matter r.0)) (tt, h refl)

text-of-leaf-needs : (e : Extensions) (l : Leaf) → NeedsExtension e l → NeedsExtension e (text_of_leaf l)
text-of-leaf-needs e (paragraph text) h = tt
text-of-leaf-needs e (underlined n text) h = tt
text-of-leaf-needs e blank h = h
text-of-leaf-needs e thematic_break h = h
text-of-leaf-needs e (heading n text) h = h
text-of-leaf-needs e (indented_code ls) h = h
text-of-leaf-needs e (fenced_code f info ls ended) h = h
text-of-leaf-needs e (html n text ended) h = h
text-of-leaf-needs e (table columns rows) h = h
text-of-leaf-needs e (front_matter ls) h = h

resolved-needs : (e : Extensions) (t : Tree) → NeedExtensions e t → NeedExtensions e (resolved t)
resolved-needs e nothing h = tt
resolved-needs e (and_leaf before l) h = (resolved-needs e before h.0, text-of-leaf-needs e l h.1)
resolved-needs e (and_container before c inside) h = (resolved-needs e before h.0, h.1, resolved-needs e inside h.2)

pub blocks_need_extensions : BlocksNeedExtensions
blocks_need_extensions e bytes = resolved-needs e (blocks_of e has_text bytes) (matter-needs e has_text e.front_matter (lines_of (document_codes bytes)) (λ k. k))
