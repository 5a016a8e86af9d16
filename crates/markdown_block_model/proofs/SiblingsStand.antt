-- Lines leave the siblings before the newest one as they are.
use Rattle.std.proofs.Common.{◌≡◌, ℕ, zero, suc, refl, Bool, true, false, List, [], ◌∷◌, length, Option, Some, None, if◌then◌else◌}
use Rattle.markdown_content.specs.Codes.{Code}
use Rattle.markdown_block_model.specs.LineRests.{lines_of, is_blank_line, trimmed}
use Rattle.markdown_block_model.specs.BlockTree.{Extensions, Container, Leaf, blank, thematic_break, heading, underlined, paragraph, indented_code, fenced_code, html, table, front_matter, Tree, nothing, and_leaf, and_container}
use Rattle.markdown_block_model.specs.Tables.{table_at}
use Rattle.markdown_block_model.specs.BlockStarts.{Begun, leaf_begins, container_begins, begun, with_found, with_rest, with_begun, with_line}
use Rattle.markdown_block_model.specs.DocumentBlocks.{split_last, with_table, with_text_table, with_next, with_next_or_line, with_text_begun, with_text_level, heading_level, with_text_line, with_leaf_line, is_nothing, rest_inside, with_lazy_line, is_lazy, with_rest_inside, read_line}
use Rattle.markdown_block_model.specs.SiblingTrees.{joined, SiblingsStand}

found-stands : (inner : List Code → Tree) (cs : List Code) (a s : Tree) (o : Option Begun) → with_found inner cs (joined a s) o ≡ joined a (with_found inner cs s o)
found-stands inner cs a s None = by_test (is_blank_line cs)
  where
    by_test : (b : Bool) → (if b then joined a s else and_leaf (joined a s) (paragraph (trimmed cs))) ≡ joined a (if b then s else and_leaf s (paragraph (trimmed cs)))
    by_test true = refl
    by_test false = refl
found-stands inner cs a s (Some (leaf_begins l)) = refl
found-stands inner cs a s (Some (container_begins c rest)) = refl

rest-stands : (e : Extensions) (n : ℕ) (cs : List Code) (a s : Tree) → with_rest e n cs (joined a s) ≡ joined a (with_rest e n cs s)
rest-stands e zero cs a s = refl
rest-stands e (suc n) cs a s = found-stands (λ rest. with_rest e n rest nothing) cs a s (begun e false false cs)

begun-stands : (e : Extensions) (b : Begun) (a s : Tree) → with_begun e b (joined a s) ≡ joined a (with_begun e b s)
begun-stands e (leaf_begins l) a s = refl
begun-stands e (container_begins c rest) a s = refl

pub line-stands : (e : Extensions) (cs : List Code) (a s : Tree) → with_line e cs (joined a s) ≡ joined a (with_line e cs s)
line-stands e cs a s = by_test (is_blank_line cs)
  where
    by_test : (b : Bool) → (if b then and_leaf (joined a s) blank else with_rest e (suc (length cs)) cs (joined a s)) ≡ joined a (if b then and_leaf s blank else with_rest e (suc (length cs)) cs s)
    by_test true = refl
    by_test false = rest-stands e (suc (length cs)) cs a s

next-stands : (e : Extensions) (cs : List Code) (a before : Tree) (leaf : Leaf) (o : Option Leaf)
    → with_next_or_line e cs (joined a before) leaf o ≡ joined a (with_next_or_line e cs before leaf o)
next-stands e cs a before leaf (Some next) = refl
next-stands e cs a before leaf None = line-stands e cs a (and_leaf before leaf)

table-stands : (lines : List Code) (a before : Tree) (t : Leaf) → with_table (joined a before) lines t ≡ joined a (with_table before lines t)
table-stands [] a before t = refl
table-stands (c ∷ cs) a before t = refl

text-table-stands : (cs : List Code) (a before : Tree) (text : List Code) (o : Option Leaf)
    → with_text_table cs (joined a before) text o ≡ joined a (with_text_table cs before text o)
text-table-stands cs a before text (Some t) = table-stands (split_last (lines_of text)).0 a before t
text-table-stands cs a before text None = refl

text-begun-stands : (e : Extensions) (cs : List Code) (a before : Tree) (text : List Code) (o : Option Begun)
    → with_text_begun e cs (joined a before) text o ≡ joined a (with_text_begun e cs before text o)
text-begun-stands e cs a before text (Some b) = begun-stands e b a (and_leaf before (paragraph text))
text-begun-stands e cs a before text None = text-table-stands cs a before text (if e.tables then table_at (split_last (lines_of text)).1 cs else None)

text-level-stands : (e : Extensions) (cs : List Code) (a before : Tree) (text : List Code) (o : Option ℕ)
    → with_text_level e cs (joined a before) text o ≡ joined a (with_text_level e cs before text o)
text-level-stands e cs a before text (Some level) = refl
text-level-stands e cs a before text None = text-begun-stands e cs a before text (begun e true true cs)

text-line-stands : (e : Extensions) (has_text : List Code → Bool) (cs : List Code) (a before : Tree) (text : List Code)
    → with_text_line e has_text cs (joined a before) text ≡ joined a (with_text_line e has_text cs before text)
text-line-stands e has_text cs a before text = by_test (is_blank_line cs)
  where
    by_test : (b : Bool)
        → (if b then and_leaf (and_leaf (joined a before) (paragraph text)) blank else with_text_level e cs (joined a before) text (heading_level has_text cs text))
        ≡ joined a (if b then and_leaf (and_leaf before (paragraph text)) blank else with_text_level e cs before text (heading_level has_text cs text))
    by_test true = refl
    by_test false = text-level-stands e cs a before text (heading_level has_text cs text)

leaf-stands : (e : Extensions) (has_text : List Code → Bool) (cs : List Code) (a before : Tree) (l : Leaf)
    → with_leaf_line e has_text cs (joined a before) l ≡ joined a (with_leaf_line e has_text cs before l)
leaf-stands e has_text cs a before (paragraph text) = text-line-stands e has_text cs a before text
leaf-stands e has_text cs a before blank = next-stands e cs a before blank (with_next e blank cs)
leaf-stands e has_text cs a before thematic_break = next-stands e cs a before thematic_break (with_next e thematic_break cs)
leaf-stands e has_text cs a before (heading n text) = next-stands e cs a before (heading n text) (with_next e (heading n text) cs)
leaf-stands e has_text cs a before (underlined n text) = next-stands e cs a before (underlined n text) (with_next e (underlined n text) cs)
leaf-stands e has_text cs a before (indented_code ls) = next-stands e cs a before (indented_code ls) (with_next e (indented_code ls) cs)
leaf-stands e has_text cs a before (fenced_code f info ls ended) = next-stands e cs a before (fenced_code f info ls ended) (with_next e (fenced_code f info ls ended) cs)
leaf-stands e has_text cs a before (html k text ended) = next-stands e cs a before (html k text ended) (with_next e (html k text ended) cs)
leaf-stands e has_text cs a before (table columns rows) = next-stands e cs a before (table columns rows) (with_next e (table columns rows) cs)
leaf-stands e has_text cs a before (front_matter ls) = next-stands e cs a before (front_matter ls) (with_next e (front_matter ls) cs)

inside-stands : (e : Extensions) (inner : List Code → Tree) (cs : List Code) (a before : Tree) (c : Container) (inside : Tree) (o : Option (List Code))
    → with_rest_inside e inner cs (joined a before) c inside o ≡ joined a (with_rest_inside e inner cs before c inside o)
inside-stands e inner cs a before c inside (Some rest) = refl
inside-stands e inner cs a before c inside None = by_test (is_lazy e cs inside)
  where
    by_test : (b : Bool)
        → (if b then and_container (joined a before) c (with_lazy_line cs inside) else with_line e cs (and_container (joined a before) c inside))
        ≡ joined a (if b then and_container before c (with_lazy_line cs inside) else with_line e cs (and_container before c inside))
    by_test true = refl
    by_test false = line-stands e cs a (and_container before c inside)

pub read-stands : (e : Extensions) (has_text : List Code → Bool) (cs : List Code) (a t : Tree) → is_nothing t ≡ false
    → read_line e has_text cs (joined a t) ≡ joined a (read_line e has_text cs t)
read-stands e has_text cs a nothing h = absurd (cc)
read-stands e has_text cs a (and_leaf before l) h = leaf-stands e has_text cs a before l
read-stands e has_text cs a (and_container before c inside) h =
    inside-stands e (λ rest. read_line e has_text rest inside) cs a before c inside (rest_inside c inside cs)

-- A line on siblings leaves some.

found-some : (inner : List Code → Tree) (cs : List Code) (s : Tree) (o : Option Begun) → is_nothing s ≡ false → is_nothing (with_found inner cs s o) ≡ false
found-some inner cs s None h = by_test (is_blank_line cs)
  where
    by_test : (b : Bool) → is_nothing (if b then s else and_leaf s (paragraph (trimmed cs))) ≡ false
    by_test true = h
    by_test false = refl
found-some inner cs s (Some (leaf_begins l)) h = refl
found-some inner cs s (Some (container_begins c rest)) h = refl

line-some : (e : Extensions) (cs : List Code) (s : Tree) → is_nothing s ≡ false → is_nothing (with_line e cs s) ≡ false
line-some e cs s h = by_test (is_blank_line cs)
  where
    by_test : (b : Bool) → is_nothing (if b then and_leaf s blank else with_rest e (suc (length cs)) cs s) ≡ false
    by_test true = refl
    by_test false = found-some (λ rest. with_rest e (length cs) rest nothing) cs s (begun e false false cs) h

next-some : (e : Extensions) (cs : List Code) (before : Tree) (leaf : Leaf) (o : Option Leaf) → is_nothing (with_next_or_line e cs before leaf o) ≡ false
next-some e cs before leaf (Some next) = refl
next-some e cs before leaf None = line-some e cs (and_leaf before leaf) refl

text-level-some : (e : Extensions) (cs : List Code) (before : Tree) (text : List Code) (o : Option ℕ) → is_nothing (with_text_level e cs before text o) ≡ false
text-level-some e cs before text (Some level) = refl
text-level-some e cs before text None = by_begun (begun e true true cs)
  where
    split : (lines : List Code) (t : Leaf) → is_nothing (with_table before lines t) ≡ false
    split [] t = refl
    split (c ∷ cs) t = refl

    by_table : (o : Option Leaf) → is_nothing (with_text_table cs before text o) ≡ false
    by_table None = refl
    by_table (Some t) = split (split_last (lines_of text)).0 t

    by_begun : (o : Option Begun) → is_nothing (with_text_begun e cs before text o) ≡ false
    by_begun None = by_table (if e.tables then table_at (split_last (lines_of text)).1 cs else None)
    by_begun (Some (leaf_begins l)) = refl
    by_begun (Some (container_begins c rest)) = refl

text-line-some : (e : Extensions) (has_text : List Code → Bool) (cs : List Code) (before : Tree) (text : List Code) → is_nothing (with_text_line e has_text cs before text) ≡ false
text-line-some e has_text cs before text = by_test (is_blank_line cs)
  where
    by_test : (b : Bool) → is_nothing (if b then and_leaf (and_leaf before (paragraph text)) blank else with_text_level e cs before text (heading_level has_text cs text)) ≡ false
    by_test true = refl
    by_test false = text-level-some e cs before text (heading_level has_text cs text)

leaf-some : (e : Extensions) (has_text : List Code → Bool) (cs : List Code) (before : Tree) (l : Leaf) → is_nothing (with_leaf_line e has_text cs before l) ≡ false
leaf-some e has_text cs before (paragraph text) = text-line-some e has_text cs before text
leaf-some e has_text cs before blank = next-some e cs before blank (with_next e blank cs)
leaf-some e has_text cs before thematic_break = next-some e cs before thematic_break (with_next e thematic_break cs)
leaf-some e has_text cs before (heading n text) = next-some e cs before (heading n text) (with_next e (heading n text) cs)
leaf-some e has_text cs before (underlined n text) = next-some e cs before (underlined n text) (with_next e (underlined n text) cs)
leaf-some e has_text cs before (indented_code ls) = next-some e cs before (indented_code ls) (with_next e (indented_code ls) cs)
leaf-some e has_text cs before (fenced_code f info ls ended) = next-some e cs before (fenced_code f info ls ended) (with_next e (fenced_code f info ls ended) cs)
leaf-some e has_text cs before (html k text ended) = next-some e cs before (html k text ended) (with_next e (html k text ended) cs)
leaf-some e has_text cs before (table columns rows) = next-some e cs before (table columns rows) (with_next e (table columns rows) cs)
leaf-some e has_text cs before (front_matter ls) = next-some e cs before (front_matter ls) (with_next e (front_matter ls) cs)

inside-some : (e : Extensions) (inner : List Code → Tree) (cs : List Code) (before : Tree) (c : Container) (inside : Tree) (o : Option (List Code))
    → is_nothing (with_rest_inside e inner cs before c inside o) ≡ false
inside-some e inner cs before c inside (Some rest) = refl
inside-some e inner cs before c inside None = by_test (is_lazy e cs inside)
  where
    by_test : (b : Bool) → is_nothing (if b then and_container before c (with_lazy_line cs inside) else with_line e cs (and_container before c inside)) ≡ false
    by_test true = refl
    by_test false = line-some e cs (and_container before c inside) refl

read-some : (e : Extensions) (has_text : List Code → Bool) (cs : List Code) (t : Tree) → is_nothing t ≡ false → is_nothing (read_line e has_text cs t) ≡ false
read-some e has_text cs nothing h = absurd (cc)
read-some e has_text cs (and_leaf before l) h = leaf-some e has_text cs before l
read-some e has_text cs (and_container before c inside) h = inside-some e (λ rest. read_line e has_text rest inside) cs before c inside (rest_inside c inside cs)

pub siblings_stand : SiblingsStand
siblings_stand e has_text [] a t h = refl
siblings_stand e has_text (l ∷ ls) a t h =
    rw (read-stands e has_text l a t h) (siblings_stand e has_text ls a (read_line e has_text l t) (read-some e has_text l t h))
