-- Each heading of a document has a level from 1 to 6 (CommonMark 4.2 and 4.3).
use Rattle.std.proofs.Common.{◌≡◌, refl, ℕ, zero, suc, Bool, true, false, ◌&&◌, ◌||◌, not, ◌==◌, nat_lt, nat_le, List, [], ◌∷◌, ◌++◌, map, length, drop, Option, Some, None, if◌then◌else◌}
use Rattle.std.specs.Str.{byte}
use Rattle.markdown_content.specs.Codes.{Code}
use Rattle.markdown_model.specs.CodeTests.{is_between}
use Rattle.markdown_block_model.specs.ByteOrderMark.{document_codes}
use Rattle.markdown_block_model.specs.LineRests.{lines_of, indent, trimmed, is_blank_line, is_gap, skip, count_first, first_value, only_if, trimmed_end}
use Rattle.markdown_block_model.specs.BlockTree.{Extensions, Alignment, Container, Fence, Leaf, blank, thematic_break, heading, underlined, paragraph, indented_code, fenced_code, html, table, front_matter, Tree, nothing, and_leaf, and_container}
use Rattle.markdown_block_model.specs.LeafStarts.{fence_least, is_break, heading_text, heading_at, may_be_info, fence_at, is_row_of, level_of, underline, is_closing}
use Rattle.markdown_block_model.specs.HtmlStarts.{html_kind, html_at, ends_html}
use Rattle.markdown_block_model.specs.ContainerStarts.{quote_at, footnote_at, item_at}
use Rattle.markdown_block_model.specs.Tables.{cells_of, alignment_of, table_of, table_at, with_cells}
use Rattle.markdown_block_model.specs.FrontMatter.{matter_at}
use Rattle.markdown_block_model.specs.BlockStarts.{Begun, leaf_begins, container_begins, leaf_begun, container_begun, first_of, begun_near, begun_far, begun, with_found, with_rest, with_begun, with_line}
use Rattle.markdown_block_model.specs.DocumentBlocks.{with_table_line, split_last, with_table, with_text_table, read_behind, blocks_of, with_fenced_line, with_indented_line, with_next, with_next_or_line, with_text_begun, with_text_level, heading_level, with_text_line, with_leaf_line, rest_inside, with_lazy_line, is_lazy, with_rest_inside, read_line, read_lines}
use Rattle.markdown_block_model.specs.LinkDefinitions.{has_text, resolved, document_tree}

abbrev pub HasLevel : Leaf → Type 0
HasLevel (heading level text) = is_between 1 6 level ≡ true
HasLevel (underlined level text) = is_between 1 6 level ≡ true
HasLevel leaf = Unit {0}

abbrev pub HaveLevels : Tree → Type 0
HaveLevels nothing = Unit {0}
HaveLevels (and_leaf before leaf) = HaveLevels before × HasLevel leaf
HaveLevels (and_container before c inside) = HaveLevels before × HaveLevels inside

-- What begins.

abbrev pub BeginsLevel : Option Begun → Type 0
BeginsLevel None = Unit {0}
BeginsLevel (Some (leaf_begins leaf)) = HasLevel leaf
BeginsLevel (Some (container_begins c rest)) = Unit {0}

of-container : (o : Option (Container × List Code)) → BeginsLevel (container_begun o)
of-container None = tt
of-container (Some r) = tt

by-level : (a b : Bool) (level : ℕ) (text : List Code) → (a ≡ true → is_between 1 6 level ≡ true) → BeginsLevel (leaf_begun (only_if (a && b) (heading level text)))
by-level true true level text h = h refl
by-level true false level text h = tt
by-level false b level text h = tt

of-heading : (cs : List Code) → BeginsLevel (leaf_begun (heading_at cs))
of-heading cs =
    let level = count_first (byte "#") cs in
    let inside = drop level cs in
    by-level (is_between 1 6 level) (is_gap inside) level (heading_text (trimmed_end (trimmed inside))) (λ e. e)

of-other : (c : Bool) (leaf : Leaf) → HasLevel leaf → BeginsLevel (leaf_begun (only_if c leaf))
of-other true leaf h = h
of-other false leaf h = tt

of-fence : (x : Extensions) (columns : ℕ) (cs : List Code) → BeginsLevel (leaf_begun (fence_at x columns cs))
of-fence x columns cs =
    let n = first_value cs in
    let count = count_first n cs in
    let info = drop count cs in
    of-other (nat_le (fence_least n) count && may_be_info x n info) (fenced_code (record { value = n; count = count; columns = columns }) (trimmed_end (trimmed info)) [] false) tt

of-html : (after_text : Bool) (cs : List Code) → BeginsLevel (leaf_begun (html_at after_text cs))
of-html after_text cs = let k = html_kind (trimmed cs) in of-other (not (k == 0 || (k == 7 && after_text))) (html k cs (ends_html k cs)) tt

of-first : (o : Option Begun) (os : List (Option Begun)) → BeginsLevel o → BeginsLevel (first_of os) → BeginsLevel (first_of (o ∷ os))
of-first None os h k = k
of-first (Some b) os h k = h

of-footnote : (c : Bool) (cs : List Code) → BeginsLevel (container_begun (if c then footnote_at cs else None))
of-footnote true cs = of-container (footnote_at cs)
of-footnote false cs = tt

near : (x : Extensions) (in_paragraph after_text : Bool) (cs : List Code) → BeginsLevel (begun_near x in_paragraph after_text cs)
near x in_paragraph after_text cs =
    of-first _ _ (of-container (quote_at cs))
    (of-first _ _ (of-heading (trimmed cs))
    (of-first _ _ (of-fence x (indent cs) (trimmed cs))
    (of-first _ _ (of-html after_text cs)
    (of-first _ _ (of-other (is_break (trimmed cs)) thematic_break tt)
    (of-first _ _ (of-footnote x.footnotes (trimmed cs))
    (of-first _ [] (of-container (item_at in_paragraph (indent cs) (trimmed cs))) tt))))))

far : (c : Bool) (ls : List (List Code)) → BeginsLevel (if c then None else Some (leaf_begins (indented_code ls)))
far true ls = tt
far false ls = tt

either : (c : Bool) (a b : Option Begun) → BeginsLevel a → BeginsLevel b → BeginsLevel (if c then a else b)
either true x y h g = h
either false x y h g = g

begins : (x : Extensions) (in_paragraph after_text : Bool) (cs : List Code) → BeginsLevel (begun x in_paragraph after_text cs)
begins x in_paragraph after_text cs = either (nat_lt (indent cs) 4) (begun_near x in_paragraph after_text cs) (begun_far after_text cs) (near x in_paragraph after_text cs) (far (after_text || is_blank_line cs) (skip 4 cs ∷ []))

-- Siblings with a line.

one-of : (c : Bool) (x y : Tree) → HaveLevels x → HaveLevels y → HaveLevels (if c then x else y)
one-of true x y h g = h
one-of false x y h g = g

found : (inner : List Code → Tree) (cs : List Code) (t : Tree) (o : Option Begun) → ((rest : List Code) → HaveLevels (inner rest)) → HaveLevels t → BeginsLevel o → HaveLevels (with_found inner cs t o)
found inner cs t None f h g = one-of (is_blank_line cs) t (and_leaf t (paragraph (trimmed cs))) h (h, tt)
found inner cs t (Some (leaf_begins leaf)) f h g = (h, g)
found inner cs t (Some (container_begins c rest)) f h g = (h, f rest)

rest-levels : (x : Extensions) (n : ℕ) (cs : List Code) (t : Tree) → HaveLevels t → HaveLevels (with_rest x n cs t)
rest-levels x zero cs t h = h
rest-levels x (suc n) cs t h = found (λ rest. with_rest x n rest nothing) cs t (begun x false false cs) (λ rest. rest-levels x n rest nothing tt) h (begins x false false cs)

begun-levels : (x : Extensions) (b : Begun) (t : Tree) → HaveLevels t → BeginsLevel (Some b) → HaveLevels (with_begun x b t)
begun-levels x (leaf_begins leaf) t h g = (h, g)
begun-levels x (container_begins c rest) t h g = (h, rest-levels x (suc (length rest)) rest nothing tt)

line-levels : (x : Extensions) (cs : List Code) (t : Tree) → HaveLevels t → HaveLevels (with_line x cs t)
line-levels x cs t h = one-of (is_blank_line cs) (and_leaf t blank) (with_rest x (suc (length cs)) cs t) (h, tt) (rest-levels x (suc (length cs)) cs t h)

-- Leaves with a line.

abbrev pub NextLevel : Option Leaf → Type 0
NextLevel None = Unit {0}
NextLevel (Some leaf) = HasLevel leaf

next-only : (c : Bool) (leaf : Leaf) → HasLevel leaf → NextLevel (only_if c leaf)
next-only true leaf h = h
next-only false leaf h = tt

fenced-level : (c : Bool) (f : Fence) (info : List Code) (ls : List (List Code)) (cs : List Code) → HasLevel (with_fenced_line c f info ls cs)
fenced-level true f info ls cs = tt
fenced-level false f info ls cs = tt

indented-level : (c : Bool) (ls : List (List Code)) (cs : List Code) → NextLevel (with_indented_line c ls cs)
indented-level true ls cs = tt
indented-level false ls cs = next-only (is_blank_line cs) (indented_code (ls ++ (trimmed cs ∷ []))) tt

of-cells : (columns : List Alignment) (rows : List (List (List Code))) (cells : List (List Code)) → NextLevel (with_cells columns rows cells)
of-cells columns rows [] = tt
of-cells columns rows (c ∷ cells) = tt

of-row : (columns : List Alignment) (rows : List (List (List Code))) (cs : List Code) (o : Option Begun) → NextLevel (with_table_line columns rows cs o)
of-row columns rows cs (Some b) = tt
of-row columns rows cs None = of-cells columns rows (cells_of cs)

next-level : (x : Extensions) (leaf : Leaf) (cs : List Code) → NextLevel (with_next x leaf cs)
next-level x (fenced_code f info ls ended) cs = next-only (not ended) (with_fenced_line (is_closing f cs) f info ls cs) (fenced-level (is_closing f cs) f info ls cs)
next-level x (indented_code ls) cs = indented-level (nat_le 4 (indent cs)) ls cs
next-level x (html k text ended) cs = next-only (not (ended || (nat_le 6 k && is_blank_line cs))) (html k (text ++ cs) (ends_html k cs)) tt
next-level x (table columns rows) cs = of-row columns rows cs (begun x false false cs)
next-level x leaf cs = tt

next-or-line : (x : Extensions) (cs : List Code) (before : Tree) (leaf : Leaf) (o : Option Leaf) → HaveLevels before → HasLevel leaf → NextLevel o → HaveLevels (with_next_or_line x cs before leaf o)
next-or-line x cs before leaf (Some next) h g f = (h, f)
next-or-line x cs before leaf None h g f = line-levels x cs (and_leaf before leaf) (h, g)

abbrev pub IsLevel : Option ℕ → Type 0
IsLevel None = Unit {0}
IsLevel (Some level) = is_between 1 6 level ≡ true

level-or-none : (c : Bool) (o : Option ℕ) → IsLevel o → IsLevel (if c then o else None)
level-or-none true o h = h
level-or-none false o h = tt

of-rows : (equals minus : Bool) → IsLevel (level_of equals minus)
of-rows true minus = refl
of-rows false true = refl
of-rows false false = tt

of-table : (c : Bool) (header delimiters : List (List Code)) → NextLevel (only_if c (table (map alignment_of delimiters) (header ∷ [])))
of-table true header delimiters = tt
of-table false header delimiters = tt

table-near : (c : Bool) (line cs : List Code) → NextLevel (if c then table_of (cells_of line) (cells_of cs) else None)
table-near true line cs = of-table _ (cells_of line) (cells_of cs)
table-near false line cs = tt

table-level : (c : Bool) (line cs : List Code) → NextLevel (if c then table_at line cs else None)
table-level true line cs = table-near (nat_lt (indent cs) 4) line cs
table-level false line cs = tt

with-table : (before : Tree) (lines : List Code) (t : Leaf) → HaveLevels before → HasLevel t → HaveLevels (with_table before lines t)
with-table before [] t h g = (h, g)
with-table before (c ∷ cs) t h g = ((h, tt), g)

text-table : (cs : List Code) (before : Tree) (text : List Code) (o : Option Leaf) → HaveLevels before → NextLevel o → HaveLevels (with_text_table cs before text o)
text-table cs before text (Some t) h g = with-table before (split_last (lines_of text)).0 t h g
text-table cs before text None h g = (h, tt)

text-begun : (x : Extensions) (cs : List Code) (before : Tree) (text : List Code) (o : Option Begun) → HaveLevels before → BeginsLevel o → HaveLevels (with_text_begun x cs before text o)
text-begun x cs before text (Some b) h g = begun-levels x b (and_leaf before (paragraph text)) (h, tt) g
text-begun x cs before text None h g =
    text-table cs before text (if x.tables then table_at (split_last (lines_of text)).1 cs else None) h (table-level x.tables (split_last (lines_of text)).1 cs)

text-level : (x : Extensions) (cs : List Code) (before : Tree) (text : List Code) (o : Option ℕ) → HaveLevels before → IsLevel o → HaveLevels (with_text_level x cs before text o)
text-level x cs before text (Some level) h g = (h, g)
text-level x cs before text None h g = text-begun x cs before text (begun x true true cs) h (begins x true true cs)

text-line : (x : Extensions) (test : List Code → Bool) (cs : List Code) (before : Tree) (text : List Code) → HaveLevels before → HaveLevels (with_text_line x test cs before text)
text-line x test cs before text h =
    one-of (is_blank_line cs) (and_leaf (and_leaf before (paragraph text)) blank) (with_text_level x cs before text (heading_level test cs text)) ((h, tt), tt)
    (text-level x cs before text (heading_level test cs text) h
    (level-or-none (test text) (underline cs) (level-or-none (nat_lt (indent cs) 4) (level_of (is_row_of (byte "=") (trimmed cs)) (is_row_of (byte "-") (trimmed cs))) (of-rows (is_row_of (byte "=") (trimmed cs)) (is_row_of (byte "-") (trimmed cs))))))

leaf-line : (x : Extensions) (test : List Code → Bool) (cs : List Code) (before : Tree) (leaf : Leaf) → HaveLevels before → HasLevel leaf → HaveLevels (with_leaf_line x test cs before leaf)
leaf-line x test cs before (paragraph text) h g = text-line x test cs before text h
leaf-line x test cs before leaf h g = next-or-line x cs before leaf (with_next x leaf cs) h g (next-level x leaf cs)

-- Trees with a line.

lazy-levels : (cs : List Code) (t : Tree) → HaveLevels t → HaveLevels (with_lazy_line cs t)
lazy-levels cs nothing h = tt
lazy-levels cs (and_leaf before (paragraph text)) h = h
lazy-levels cs (and_leaf before leaf) h = h
lazy-levels cs (and_container before c inside) h = (h.0, lazy-levels cs inside h.1)

inside-levels : (x : Extensions) (inner : List Code → Tree) (cs : List Code) (before : Tree) (c : Container) (inside : Tree) (o : Option (List Code))
    → ((rest : List Code) → HaveLevels (inner rest)) → HaveLevels before → HaveLevels inside → HaveLevels (with_rest_inside x inner cs before c inside o)
inside-levels x inner cs before c inside (Some rest) f h g = (h, f rest)
inside-levels x inner cs before c inside None f h g =
    one-of (is_lazy x cs inside) (and_container before c (with_lazy_line cs inside)) (with_line x cs (and_container before c inside)) (h, lazy-levels cs inside g) (line-levels x cs (and_container before c inside) (h, g))

read-levels : (x : Extensions) (test : List Code → Bool) (t : Tree) (cs : List Code) → HaveLevels t → HaveLevels (read_line x test cs t)
read-levels x test nothing cs h = line-levels x cs nothing tt
read-levels x test (and_leaf before leaf) cs h = leaf-line x test cs before leaf h.0 h.1
read-levels x test (and_container before c inside) cs h =
    inside-levels x (λ rest. read_line x test rest inside) cs before c inside (rest_inside c inside cs) (λ rest. read-levels x test inside rest h.1) h.0 h.1

lines-levels : (x : Extensions) (test : List Code → Bool) (ls : List (List Code)) (t : Tree) → HaveLevels t → HaveLevels (read_lines x test ls t)
lines-levels x test [] t h = h
lines-levels x test (l ∷ ls) t h = lines-levels x test ls (read_line x test l t) (read-levels x test t l h)

resolved-levels : (t : Tree) → HaveLevels t → HaveLevels (resolved t)
resolved-levels nothing h = tt
resolved-levels (and_leaf before (paragraph text)) h = (resolved-levels before h.0, tt)
resolved-levels (and_leaf before (underlined level text)) h = (resolved-levels before h.0, h.1)
resolved-levels (and_leaf before leaf) h = (resolved-levels before h.0, h.1)
resolved-levels (and_container before c inside) h = (resolved-levels before h.0, resolved-levels inside h.1)

behind-levels : (x : Extensions) (test : List Code → Bool) (ls : List (List Code)) (o : Option (List (List Code) × List (List Code))) → HaveLevels (read_behind x test ls o)
behind-levels x test ls None = lines-levels x test ls nothing tt
behind-levels x test ls (Some r) = lines-levels x test r.1 (and_leaf nothing (front_matter r.0)) (tt, tt)

pub document-levels : (x : Extensions) (bytes : List ℕ) → HaveLevels (document_tree x bytes)
document-levels x bytes =
    let ls = lines_of (document_codes bytes) in
    resolved-levels (blocks_of x has_text bytes) (behind-levels x has_text ls (if x.front_matter then matter_at ls else None))
