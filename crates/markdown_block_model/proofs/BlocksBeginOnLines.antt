-- No line takes a block away.
use Rattle.std.proofs.Common.{◌≡◌, ℕ, zero, suc, ◌+◌, ◌-◌, ◌≤◌, refl, ap, Bool, true, false, ◌&&◌, List, [], ◌∷◌, length, length-append, replicate, Option, Some, None, if◌then◌else◌, arith}
use Rattle.std.proofs.lemmas.List.{length-replicate}
use Rattle.markdown_content.specs.Codes.{Code}
use Rattle.markdown_block_model.specs.ByteOrderMark.{document_codes}
use Rattle.markdown_block_model.specs.LineRests.{lines_of, is_blank_line, trimmed}
use Rattle.markdown_block_model.specs.BlockTree.{Extensions, Container, Leaf, blank, thematic_break, heading, underlined, paragraph, indented_code, fenced_code, html, table, front_matter, Tree, nothing, and_leaf, and_container}
use Rattle.markdown_block_model.specs.BlockStarts.{Begun, leaf_begins, container_begins, begun, with_found, with_rest, with_begun, with_line}
use Rattle.markdown_block_model.specs.DocumentBlocks.{split_last, with_table, with_text_table, read_behind, with_next, with_next_or_line, with_text_begun, with_text_level, heading_level, with_text_line, with_leaf_line, rest_inside, with_lazy_line, is_lazy, with_rest_inside, read_line, read_lines}
use Rattle.markdown_block_model.specs.BlockLines.{block_count, ends_in_header, begins_from, begins_behind}
use Rattle.markdown_block_model.specs.FrontMatter.{matter_at}
use Rattle.markdown_block_model.specs.Tables.{table_at}
use Rattle.markdown_block_model.specs.BlockLaws.{BlocksBeginOnLines}

found-more : (inner : List Code → Tree) (cs : List Code) (s : Tree) (o : Option Begun) → block_count s ≤ block_count (with_found inner cs s o)
found-more inner cs s None = by_test (is_blank_line cs)
  where
    by_test : (b : Bool) → block_count s ≤ block_count (if b then s else and_leaf s (paragraph (trimmed cs)))
    by_test true = omega arith
    by_test false = omega arith
found-more inner cs s (Some (leaf_begins l)) = omega arith
found-more inner cs s (Some (container_begins c rest)) = omega arith

rest-more : (e : Extensions) → (n : ℕ) (cs : List Code) (s : Tree) → block_count s ≤ block_count (with_rest e n cs s)
rest-more e zero cs s = omega arith
rest-more e (suc n) cs s = found-more (λ rest. with_rest e n rest nothing) cs s (begun e false false cs)

begun-more : (e : Extensions) → (b : Begun) (s : Tree) → block_count s ≤ block_count (with_begun e b s)
begun-more e (leaf_begins l) s = omega arith
begun-more e (container_begins c rest) s = omega arith

line-more : (e : Extensions) → (cs : List Code) (s : Tree) → block_count s ≤ block_count (with_line e cs s)
line-more e cs s = by_test (is_blank_line cs)
  where
    by_test : (b : Bool) → block_count s ≤ block_count (if b then and_leaf s blank else with_rest e (suc (length cs)) cs s)
    by_test true = omega arith
    by_test false = rest-more e (suc (length cs)) cs s

next-more : (e : Extensions) → (cs : List Code) (before : Tree) (leaf : Leaf) (o : Option Leaf) → suc (block_count before) ≤ block_count (with_next_or_line e cs before leaf o)
next-more e cs before leaf (Some next) = omega arith
next-more e cs before leaf None = line-more e cs (and_leaf before leaf)

table-more : (before : Tree) (lines : List Code) (t : Leaf) → suc (block_count before) ≤ block_count (with_table before lines t)
table-more before [] t = omega arith
table-more before (c ∷ cs) t = omega arith

text-table-more : (cs : List Code) (before : Tree) (text : List Code) (o : Option Leaf) → suc (block_count before) ≤ block_count (with_text_table cs before text o)
text-table-more cs before text (Some t) = table-more before (split_last (lines_of text)).0 t
text-table-more cs before text None = omega arith

text-begun-more : (e : Extensions) → (cs : List Code) (before : Tree) (text : List Code) (o : Option Begun) → suc (block_count before) ≤ block_count (with_text_begun e cs before text o)
text-begun-more e cs before text (Some b) = begun-more e b (and_leaf before (paragraph text))
text-begun-more e cs before text None = text-table-more cs before text (if e.tables then table_at (split_last (lines_of text)).1 cs else None)

text-level-more : (e : Extensions) → (cs : List Code) (before : Tree) (text : List Code) (o : Option ℕ) → suc (block_count before) ≤ block_count (with_text_level e cs before text o)
text-level-more e cs before text (Some level) = omega arith
text-level-more e cs before text None = text-begun-more e cs before text (begun e true true cs)

text-line-more : (e : Extensions) → (has_text : List Code → Bool) (cs : List Code) (before : Tree) (text : List Code) → suc (block_count before) ≤ block_count (with_text_line e has_text cs before text)
text-line-more e has_text cs before text = by_test (is_blank_line cs)
  where
    by_test : (b : Bool)
        → suc (block_count before) ≤ block_count (if b then and_leaf (and_leaf before (paragraph text)) blank else with_text_level e cs before text (heading_level has_text cs text))
    by_test true = omega arith
    by_test false = text-level-more e cs before text (heading_level has_text cs text)

leaf-line-more : (e : Extensions) → (has_text : List Code → Bool) (cs : List Code) (before : Tree) (l : Leaf) → suc (block_count before) ≤ block_count (with_leaf_line e has_text cs before l)
leaf-line-more e has_text cs before (paragraph text) = text-line-more e has_text cs before text
leaf-line-more e has_text cs before blank = next-more e cs before blank (with_next e blank cs)
leaf-line-more e has_text cs before thematic_break = next-more e cs before thematic_break (with_next e thematic_break cs)
leaf-line-more e has_text cs before (heading n text) = next-more e cs before (heading n text) (with_next e (heading n text) cs)
leaf-line-more e has_text cs before (underlined n text) = next-more e cs before (underlined n text) (with_next e (underlined n text) cs)
leaf-line-more e has_text cs before (indented_code ls) = next-more e cs before (indented_code ls) (with_next e (indented_code ls) cs)
leaf-line-more e has_text cs before (fenced_code f info ls ended) = next-more e cs before (fenced_code f info ls ended) (with_next e (fenced_code f info ls ended) cs)
leaf-line-more e has_text cs before (html k text ended) = next-more e cs before (html k text ended) (with_next e (html k text ended) cs)
leaf-line-more e has_text cs before (table columns rows) = next-more e cs before (table columns rows) (with_next e (table columns rows) cs)
leaf-line-more e has_text cs before (front_matter ls) = next-more e cs before (front_matter ls) (with_next e (front_matter ls) cs)

-- a lazy line brings no block
pub lazy-same : (cs : List Code) (t : Tree) → block_count (with_lazy_line cs t) ≡ block_count t
lazy-same cs nothing = refl
lazy-same cs (and_leaf before (paragraph text)) = refl
lazy-same cs (and_leaf before blank) = refl
lazy-same cs (and_leaf before thematic_break) = refl
lazy-same cs (and_leaf before (heading n text)) = refl
lazy-same cs (and_leaf before (underlined n text)) = refl
lazy-same cs (and_leaf before (indented_code ls)) = refl
lazy-same cs (and_leaf before (fenced_code f info ls ended)) = refl
lazy-same cs (and_leaf before (html k text ended)) = refl
lazy-same cs (and_leaf before (table columns rows)) = refl
lazy-same cs (and_leaf before (front_matter ls)) = refl
lazy-same cs (and_container before c inside) = ap (λ n. suc (block_count before + n)) (lazy-same cs inside)

inside-more : (e : Extensions) → (inner : List Code → Tree) (cs : List Code) (before : Tree) (c : Container) (inside : Tree)
    → ((rest : List Code) → block_count inside ≤ block_count (inner rest)) → (o : Option (List Code))
    → block_count (and_container before c inside) ≤ block_count (with_rest_inside e inner cs before c inside o)
inside-more e inner cs before c inside i (Some rest) = omega (arith, i rest)
inside-more e inner cs before c inside i None = by_test (is_lazy e cs inside)
  where
    by_test : (b : Bool)
        → block_count (and_container before c inside) ≤ block_count (if b then and_container before c (with_lazy_line cs inside) else with_line e cs (and_container before c inside))
    by_test true = omega (arith, lazy-same cs inside)
    by_test false = line-more e cs (and_container before c inside)

pub read-more : (e : Extensions) → (has_text : List Code → Bool) (cs : List Code) (t : Tree) → block_count t ≤ block_count (read_line e has_text cs t)
read-more e has_text cs nothing = omega arith
read-more e has_text cs (and_leaf before l) = leaf-line-more e has_text cs before l
read-more e has_text cs (and_container before c inside) =
    inside-more e (λ rest. read_line e has_text rest inside) cs before c inside (λ rest. read-more e has_text rest inside) (rest_inside c inside cs)

begins-count : (e : Extensions) → (has_text : List Code → Bool) (number : ℕ) (ls : List (List Code)) (t : Tree)
    → block_count t + length (begins_from e has_text number ls t) ≡ block_count (read_lines e has_text ls t)
begins-count e has_text number [] t = omega arith
begins-count e has_text number (l ∷ ls) t =
    let next = read_line e has_text l t in
    let at = if e.tables && ends_in_header next then number - 1 else number in
    let more = replicate (block_count next - block_count t) at in
    let later = begins_from e has_text (suc number) ls next in
    omega (arith, read-more e has_text l t, begins-count e has_text (suc number) ls next, length-append more later, length-replicate (block_count next - block_count t) at)

behind-matter : (e : Extensions) (has_text : List Code → Bool) (ls : List (List Code)) (o : Option (List (List Code) × List (List Code)))
    → length (begins_behind e has_text ls o) ≡ block_count (read_behind e has_text ls o)
behind-matter e has_text ls None = omega (arith, begins-count e has_text 1 ls nothing)
behind-matter e has_text ls (Some r) = omega (arith, begins-count e has_text (3 + length r.0) r.1 (and_leaf nothing (front_matter r.0)))

pub blocks_begin_on_lines : BlocksBeginOnLines
blocks_begin_on_lines e has_text bytes = behind-matter e has_text (lines_of (document_codes bytes)) (if e.front_matter then matter_at (lines_of (document_codes bytes)) else None)
