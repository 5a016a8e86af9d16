-- Each block that a line brings has its place.
use Rattle.std.proofs.Common.{◌≡◌, ℕ, zero, suc, ◌+◌, Bool, true, false, List, [], ◌∷◌, length, length-append, Option, Some, None, if◌then◌else◌, arith}
use Rattle.markdown_content.specs.Codes.{Code}
use Rattle.markdown_block_model.specs.ByteOrderMark.{document_codes}
use Rattle.markdown_block_model.specs.LineRests.{lines_of, is_blank_line, trimmed}
use Rattle.markdown_block_model.specs.BlockTree.{Extensions, Container, Leaf, blank, thematic_break, heading, underlined, paragraph, indented_code, fenced_code, html, table, front_matter, Tree, nothing, and_leaf, and_container}
use Rattle.markdown_block_model.specs.Tables.{table_at}
use Rattle.markdown_block_model.specs.FrontMatter.{matter_at}
use Rattle.markdown_block_model.specs.BlockStarts.{Begun, leaf_begins, container_begins, begun, with_found, with_rest, with_begun, with_line}
use Rattle.markdown_block_model.specs.DocumentBlocks.{split_last, with_table, with_text_table, read_behind, with_next, with_next_or_line, with_text_begun, with_text_level, heading_level, with_text_line, with_leaf_line, rest_inside, with_lazy_line, is_lazy, with_rest_inside, read_line, read_lines}
use Rattle.markdown_block_model.specs.BlockLines.{block_count}
use Rattle.markdown_block_model.specs.BlockPlaces.{found_brings, rest_brings, begun_brings, line_brings, next_brings, header_brings, text_table_brings, text_begun_brings, text_level_brings, text_line_brings, leaf_brings, inside_brings, read_brings, lines_bring, begins_at_behind, BlocksHavePlaces}
use Rattle.markdown_block_model.proofs.BlocksBeginOnLines.{lazy-same}

found-places : (e : Extensions) (n : ℕ) (cs : List Code) (s : Tree) (o : Option Begun) → ((rest : List Code) → length (rest_brings e n rest) ≡ block_count (with_rest e n rest nothing))
    → block_count s + length (found_brings (λ rest. rest_brings e n rest) cs o) ≡ block_count (with_found (λ rest. with_rest e n rest nothing) cs s o)
found-places e n cs s None h = by_test (is_blank_line cs)
  where
    by_test : (b : Bool) → block_count s + length (if b then [] else trimmed cs ∷ []) ≡ block_count (if b then s else and_leaf s (paragraph (trimmed cs)))
    by_test true = omega arith
    by_test false = omega arith
found-places e n cs s (Some (leaf_begins l)) h = omega arith
found-places e n cs s (Some (container_begins c rest)) h = omega (arith, h rest)

rest-places : (e : Extensions) (n : ℕ) (cs : List Code) (s : Tree) → block_count s + length (rest_brings e n cs) ≡ block_count (with_rest e n cs s)
rest-places e zero cs s = omega arith
rest-places e (suc n) cs s = found-places e n cs s (begun e false false cs) (λ rest. omega (arith, rest-places e n rest nothing))

begun-places : (e : Extensions) (cs : List Code) (b : Begun) (s : Tree) → block_count s + length (begun_brings e cs b) ≡ block_count (with_begun e b s)
begun-places e cs (leaf_begins l) s = omega arith
begun-places e cs (container_begins c rest) s = omega (arith, rest-places e (suc (length rest)) rest nothing)

line-places : (e : Extensions) (cs : List Code) (s : Tree) → block_count s + length (line_brings e cs) ≡ block_count (with_line e cs s)
line-places e cs s = by_test (is_blank_line cs)
  where
    by_test : (b : Bool) → block_count s + length (if b then trimmed cs ∷ [] else rest_brings e (suc (length cs)) cs) ≡ block_count (if b then and_leaf s blank else with_rest e (suc (length cs)) cs s)
    by_test true = omega arith
    by_test false = rest-places e (suc (length cs)) cs s

next-places : (e : Extensions) (cs : List Code) (before : Tree) (leaf : Leaf) (o : Option Leaf) → suc (block_count before) + length (next_brings e cs o) ≡ block_count (with_next_or_line e cs before leaf o)
next-places e cs before leaf (Some next) = omega arith
next-places e cs before leaf None = line-places e cs (and_leaf before leaf)

table-places : (before : Tree) (lines : List Code × List Code) (t : Leaf) → suc (block_count before) + length (header_brings lines) ≡ block_count (with_table before lines.0 t)
table-places before ([], header) t = omega arith
table-places before (c ∷ cs, header) t = omega arith

text-table-places : (cs : List Code) (before : Tree) (text : List Code) (o : Option Leaf)
    → suc (block_count before) + length (text_table_brings text o) ≡ block_count (with_text_table cs before text o)
text-table-places cs before text (Some t) = table-places before (split_last (lines_of text)) t
text-table-places cs before text None = omega arith

text-begun-places : (e : Extensions) (cs : List Code) (before : Tree) (text : List Code) (o : Option Begun)
    → suc (block_count before) + length (text_begun_brings e cs text o) ≡ block_count (with_text_begun e cs before text o)
text-begun-places e cs before text (Some b) = begun-places e cs b (and_leaf before (paragraph text))
text-begun-places e cs before text None = text-table-places cs before text (if e.tables then table_at (split_last (lines_of text)).1 cs else None)

text-level-places : (e : Extensions) (cs : List Code) (before : Tree) (text : List Code) (o : Option ℕ)
    → suc (block_count before) + length (text_level_brings e cs text o) ≡ block_count (with_text_level e cs before text o)
text-level-places e cs before text (Some level) = omega arith
text-level-places e cs before text None = text-begun-places e cs before text (begun e true true cs)

text-line-places : (e : Extensions) (has_text : List Code → Bool) (cs : List Code) (before : Tree) (text : List Code)
    → suc (block_count before) + length (text_line_brings e has_text cs text) ≡ block_count (with_text_line e has_text cs before text)
text-line-places e has_text cs before text = by_test (is_blank_line cs)
  where
    by_test : (b : Bool)
        → suc (block_count before) + length (if b then trimmed cs ∷ [] else text_level_brings e cs text (heading_level has_text cs text))
        ≡ block_count (if b then and_leaf (and_leaf before (paragraph text)) blank else with_text_level e cs before text (heading_level has_text cs text))
    by_test true = omega arith
    by_test false = text-level-places e cs before text (heading_level has_text cs text)

leaf-places : (e : Extensions) (has_text : List Code → Bool) (cs : List Code) (before : Tree) (l : Leaf)
    → suc (block_count before) + length (leaf_brings e has_text cs l) ≡ block_count (with_leaf_line e has_text cs before l)
leaf-places e has_text cs before (paragraph text) = text-line-places e has_text cs before text
leaf-places e has_text cs before blank = next-places e cs before blank (with_next e blank cs)
leaf-places e has_text cs before thematic_break = next-places e cs before thematic_break (with_next e thematic_break cs)
leaf-places e has_text cs before (heading n text) = next-places e cs before (heading n text) (with_next e (heading n text) cs)
leaf-places e has_text cs before (underlined n text) = next-places e cs before (underlined n text) (with_next e (underlined n text) cs)
leaf-places e has_text cs before (indented_code ls) = next-places e cs before (indented_code ls) (with_next e (indented_code ls) cs)
leaf-places e has_text cs before (fenced_code f info ls ended) = next-places e cs before (fenced_code f info ls ended) (with_next e (fenced_code f info ls ended) cs)
leaf-places e has_text cs before (html k text ended) = next-places e cs before (html k text ended) (with_next e (html k text ended) cs)
leaf-places e has_text cs before (table columns rows) = next-places e cs before (table columns rows) (with_next e (table columns rows) cs)
leaf-places e has_text cs before (front_matter ls) = next-places e cs before (front_matter ls) (with_next e (front_matter ls) cs)

inside-places : (e : Extensions) (inner : List Code → Tree) (brings : List Code → List (List Code)) (cs : List Code) (before : Tree) (c : Container) (inside : Tree)
    → ((rest : List Code) → block_count inside + length (brings rest) ≡ block_count (inner rest)) → (o : Option (List Code))
    → block_count (and_container before c inside) + length (inside_brings e brings cs inside o) ≡ block_count (with_rest_inside e inner cs before c inside o)
inside-places e inner brings cs before c inside i (Some rest) = omega (arith, i rest)
inside-places e inner brings cs before c inside i None = by_test (is_lazy e cs inside)
  where
    by_test : (b : Bool)
        → block_count (and_container before c inside) + length (if b then [] else line_brings e cs)
        ≡ block_count (if b then and_container before c (with_lazy_line cs inside) else with_line e cs (and_container before c inside))
    by_test true = omega (arith, lazy-same cs inside)
    by_test false = line-places e cs (and_container before c inside)

read-places : (e : Extensions) (has_text : List Code → Bool) (cs : List Code) (t : Tree) → block_count t + length (read_brings e has_text cs t) ≡ block_count (read_line e has_text cs t)
read-places e has_text cs nothing = omega (arith, line-places e cs nothing)
read-places e has_text cs (and_leaf before l) = leaf-places e has_text cs before l
read-places e has_text cs (and_container before c inside) =
    inside-places e (λ rest. read_line e has_text rest inside) (λ rest. read_brings e has_text rest inside) cs before c inside
    (λ rest. read-places e has_text rest inside) (rest_inside c inside cs)

-- The blocks of a document.

all-places : (e : Extensions) (has_text : List Code → Bool) (ls : List (List Code)) (t : Tree) → block_count t + length (lines_bring e has_text ls t) ≡ block_count (read_lines e has_text ls t)
all-places e has_text [] t = omega arith
all-places e has_text (l ∷ ls) t =
    let next = read_line e has_text l t in
    omega (arith, read-places e has_text l t, all-places e has_text ls next, length-append (read_brings e has_text l t) (lines_bring e has_text ls next))

no-matter : (e : Extensions) (has_text : List Code → Bool) (ls : List (List Code)) → length (lines_bring e has_text ls nothing) ≡ block_count (read_lines e has_text ls nothing)
no-matter e has_text ls = omega (arith, all-places e has_text ls nothing)

-- front matter begins with a line, which is there
matter-places : (e : Extensions) (has_text : List Code → Bool) (l : List Code) (ls : List (List Code)) (o : Option (List (List Code) × List (List Code)))
    → length (begins_at_behind e has_text (l ∷ ls) o) ≡ block_count (read_behind e has_text (l ∷ ls) o)
matter-places e has_text l ls None = no-matter e has_text (l ∷ ls)
matter-places e has_text l ls (Some r) = omega (arith, all-places e has_text r.1 (and_leaf nothing (front_matter r.0)))

document-places : (e : Extensions) (has_text : List Code → Bool) (b : Bool) (ls : List (List Code))
    → length (begins_at_behind e has_text ls (if b then matter_at ls else None)) ≡ block_count (read_behind e has_text ls (if b then matter_at ls else None))
document-places e has_text false ls = no-matter e has_text ls
document-places e has_text true [] = no-matter e has_text []
document-places e has_text true (l ∷ ls) = matter-places e has_text l ls (matter_at (l ∷ ls))

pub blocks_have_places : BlocksHavePlaces
blocks_have_places = record { lines = read-places; document = λ e has_text bytes. document-places e has_text e.front_matter (lines_of (document_codes bytes)) }
