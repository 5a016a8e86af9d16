-- A line that begins a block behind siblings begins the same block where nothing stands.
use Rattle.std.proofs.Common.{◌≡◌, ℕ, suc, ◌+◌, refl, sym, ap, subst, ◌∙◌, Bool, true, false, ◌&&◌, ◌||◌, not, nat_lt, nat_le, ◌==◌, List, [], ◌∷◌, ◌++◌, length, drop, map, Option, Some, None, if◌then◌else◌, arith}
use Rattle.std.specs.Str.{byte}
use Rattle.std.specs.List.{list_all}
use Rattle.markdown_content.specs.Codes.{Code}
use Rattle.markdown_model.specs.CodeTests.{is_value, next_is}
use Rattle.markdown_block_model.specs.LineRests.{lines_of, indent, trimmed, is_blank_line, skip, is_gap, only_if}
use Rattle.markdown_block_model.specs.BlockTree.{Extensions, Alignment, Marker, Container, item, Leaf, blank, thematic_break, heading, underlined, paragraph, indented_code, fenced_code, html, table, front_matter, Tree, nothing, and_leaf, and_container}
use Rattle.markdown_block_model.specs.LeafStarts.{is_break, heading_at, fence_at}
use Rattle.markdown_block_model.specs.HtmlStarts.{html_kind, html_of, html_at, ends_html}
use Rattle.markdown_block_model.specs.ContainerStarts.{quote_at, footnote_at, marker_at, padding, may_interrupt, item_by, item_at}
use Rattle.markdown_block_model.specs.Tables.{cells_of, is_delimiter, alignment_of, table_of, table_at}
use Rattle.markdown_block_model.specs.BlockStarts.{Begun, leaf_begins, container_begins, leaf_begun, container_begun, first_of, begun_near, begun, with_found, with_rest, with_begun, with_line}
use Rattle.markdown_block_model.specs.DocumentBlocks.{split_last, with_table, with_text_table, with_next, with_next_or_line, with_text_begun, with_text_level, heading_level, with_text_line, with_leaf_line, is_nothing, rest_inside, with_lazy_line, is_lazy, with_rest_inside, read_line, read_lines}
use Rattle.markdown_block_model.specs.BlockLines.{ends_in_header}
use Rattle.markdown_block_model.specs.SiblingTrees.{joined, sibling_count, BeginsAlone, LinesStandAlone}
use Rattle.markdown_block_model.proofs.ContainersTakeACode.{begun-leaves, LeavesFewer, same-rest}
use Rattle.markdown_block_model.proofs.SiblingsStand.{line-stands, siblings_stand}

-- What interrupts a paragraph begins without one, too.

-- a list of options with two that may be fewer
abbrev IfSome : Option Begun → Option Begun → Type 0
IfSome None j = Unit {0}
IfSome (Some b) j = j ≡ Some b

-- HTML that begins is the same; or no paragraph was needed, and then neither a break nor a footnote definition nor an item begins
abbrev HtmlOrElse : Option Begun → Option Begun → Option Begun → Option Begun → Option Begun → Type 0
HtmlOrElse (Some b) y k n i = y ≡ Some b
HtmlOrElse None None k n i = Unit {0}
HtmlOrElse None (Some b) k n i = (k ≡ None) × (n ≡ None) × (i ≡ None)

last-early : (k n i j : Option Begun) (b : Begun) → IfSome i j → first_of (k ∷ n ∷ i ∷ []) ≡ Some b → first_of (k ∷ n ∷ j ∷ []) ≡ Some b
last-early (Some a) n i j b s e = e
last-early None (Some a) i j b s e = e
last-early None None None j b s e = absurd (cc)
last-early None None (Some a) j b s e = rw s e

html-early : (x y k n i j : Option Begun) (b : Begun) → HtmlOrElse x y k n i → IfSome i j → first_of (x ∷ k ∷ n ∷ i ∷ []) ≡ Some b → first_of (y ∷ k ∷ n ∷ j ∷ []) ≡ Some b
html-early (Some a) y k n i j b h s e = rw h e
html-early None None k n i j b h s e = last-early k n i j b s e
html-early None (Some a) k n i j b h s e = absurd (none h.0 h.1 h.2 e)
  where
    none : k ≡ None → n ≡ None → i ≡ None → first_of (k ∷ n ∷ i ∷ []) ≡ Some b → ⊥
    none p q r e = cc

near-early : (q h f x y k n i j : Option Begun) (b : Begun) → HtmlOrElse x y k n i → IfSome i j
    → first_of (q ∷ h ∷ f ∷ x ∷ k ∷ n ∷ i ∷ []) ≡ Some b → first_of (q ∷ h ∷ f ∷ y ∷ k ∷ n ∷ j ∷ []) ≡ Some b
near-early (Some a) h f x y k n i j b o s e = e
near-early None (Some a) f x y k n i j b o s e = e
near-early None None (Some a) x y k n i j b o s e = e
near-early None None None x y k n i j b o s e = html-early x y k n i j b o s e

-- items

item-early : (columns : ℕ) (cs : List Code) (m : Option (Marker × ℕ)) → IfSome (container_begun (item_by true columns cs m)) (container_begun (item_by false columns cs m))
item-early columns cs None = tt
item-early columns cs (Some m) = by_tests (is_gap after) (is_blank_line after || not (may_interrupt m.0))
  where
    after : List Code
    after = drop m.1 cs

    made : Container × List Code
    made = (item m.0 (columns + m.1 + padding after), skip (padding after) after)

    by_tests : (g w : Bool) → IfSome (container_begun (only_if (g && not (true && w)) made)) (container_begun (only_if (g && not (false && w)) made))
    by_tests true true = tt
    by_tests true false = refl
    by_tests false w = tt

-- HTML: a line that begins with `<` begins no break, no footnote definition and no item

angle-no-item : (in_paragraph : Bool) (columns : ℕ) (c : Code) (cs : List Code) → is_value (byte "<") c ≡ true → item_at in_paragraph columns (c ∷ cs) ≡ None
angle-no-item in_paragraph columns c cs h = grind (arith, h)

angle-no-break : (c : Code) (cs : List Code) → is_value (byte "<") c ≡ true → is_break (c ∷ cs) ≡ false
angle-no-break c cs h = grind (arith, h)

angle-no-footnote : (b : Bool) (c : Code) (cs : List Code) → is_value (byte "<") c ≡ true → (if b then footnote_at (c ∷ cs) else None) ≡ None
angle-no-footnote true c cs h = grind (arith, h)
angle-no-footnote false c cs h = refl

no-angle-no-kind : (cs : List Code) → next_is (is_value (byte "<")) cs ≡ false → html_kind cs ≡ 0
no-angle-no-kind cs h = rw h refl

-- by the kind of the HTML and by whether a `<` stands first
html-or-else : (cs t : List Code) (in_paragraph notes : Bool) (columns : ℕ)
    → HtmlOrElse (leaf_begun (html_of true (html_kind t) cs)) (leaf_begun (html_of false (html_kind t) cs))
    (leaf_begun (only_if (is_break t) thematic_break)) (container_begun (if notes then footnote_at t else None)) (container_begun (item_at in_paragraph columns t))
html-or-else cs [] in_paragraph notes columns = tt
html-or-else cs (c ∷ t) in_paragraph notes columns = by_angle (is_value (byte "<") c) refl
  where
    by_angle : (b : Bool) → is_value (byte "<") c ≡ b
        → HtmlOrElse (leaf_begun (html_of true (html_kind (c ∷ t)) cs)) (leaf_begun (html_of false (html_kind (c ∷ t)) cs))
        (leaf_begun (only_if (is_break (c ∷ t)) thematic_break)) (container_begun (if notes then footnote_at (c ∷ t) else None)) (container_begun (item_at in_paragraph columns (c ∷ t)))
    by_angle false e = rw (no-angle-no-kind (c ∷ t) e) tt
    by_angle true e =
        by_kind (html_kind (c ∷ t) == 0) (html_kind (c ∷ t) == 7) (html (html_kind (c ∷ t)) cs (ends_html (html_kind (c ∷ t)) cs))
      where
        nothing-else : (leaf_begun (only_if (is_break (c ∷ t)) thematic_break) ≡ None) × (container_begun (if notes then footnote_at (c ∷ t) else None) ≡ None)
            × (container_begun (item_at in_paragraph columns (c ∷ t)) ≡ None)
        nothing-else = (rw (angle-no-break c t e) refl, ap container_begun (angle-no-footnote notes c t e), rw (angle-no-item in_paragraph columns c t e) refl)

        by_kind : (z s : Bool) (l : Leaf)
            → HtmlOrElse (leaf_begun (only_if (not (z || (s && true))) l)) (leaf_begun (only_if (not (z || (s && false))) l))
            (leaf_begun (only_if (is_break (c ∷ t)) thematic_break)) (container_begun (if notes then footnote_at (c ∷ t) else None)) (container_begun (item_at in_paragraph columns (c ∷ t)))
        by_kind true s l = tt
        by_kind false true l = nothing-else
        by_kind false false l = refl

begun-early : (x : Extensions) (cs : List Code) (b : Begun) → begun x true true cs ≡ Some b → begun x false false cs ≡ Some b
begun-early x cs b e = by_test (nat_lt (indent cs) 4) e
  where
    by_test : (n : Bool) → (if n then begun_near x true true cs else None) ≡ Some b
        → (if n then begun_near x false false cs else (if false || is_blank_line cs then None else Some (leaf_begins (indented_code (skip 4 cs ∷ []))))) ≡ Some b
    by_test true e =
        near-early (container_begun (quote_at cs)) (leaf_begun (heading_at (trimmed cs))) (leaf_begun (fence_at x (indent cs) (trimmed cs)))
        (leaf_begun (html_at true cs)) (leaf_begun (html_at false cs)) (leaf_begun (only_if (is_break (trimmed cs)) thematic_break))
        (container_begun (if x.footnotes then footnote_at (trimmed cs) else None))
        (container_begun (item_at true (indent cs) (trimmed cs))) (container_begun (item_at false (indent cs) (trimmed cs))) b
        (html-or-else cs (trimmed cs) true x.footnotes (indent cs)) (item-early (indent cs) (trimmed cs) (marker_at (trimmed cs))) e
    by_test false e = absurd (cc)

-- The line.

begun-alone : (x : Extensions) (cs : List Code) (b : Begun) → LeavesFewer (length cs) (Some b)
    → with_begun x b nothing ≡ with_found (λ rest. with_rest x (length cs) rest nothing) cs nothing (Some b)
begun-alone x cs (leaf_begins l) f = refl
begun-alone x cs (container_begins c rest) f = ap (and_container nothing c) (same-rest x (suc (length rest)) (length cs) rest nothing (omega arith) f)

-- what interrupts a paragraph is what the line begins alone
pub interrupts-alone : (x : Extensions) (cs : List Code) (b : Begun) → is_blank_line cs ≡ false → begun x true true cs ≡ Some b → with_begun x b nothing ≡ with_line x cs nothing
interrupts-alone x cs b h e =
    let early : begun x false false cs ≡ Some b = begun-early x cs b e in
    let fewer : LeavesFewer (length cs) (Some b) = subst (LeavesFewer (length cs)) early (begun-leaves x false false cs) in
    let whole : with_found (λ rest. with_rest x (length cs) rest nothing) cs nothing (begun x false false cs) ≡ with_line x cs nothing = rw h refl in
    begun-alone x cs b fewer ∙ (ap (with_found (λ rest. with_rest x (length cs) rest nothing) cs nothing) (sym early) ∙ whole)

-- A line that puts one more behind siblings.

begun-behind : (x : Extensions) (b : Begun) (s : Tree) → with_begun x b s ≡ joined s (with_begun x b nothing)
begun-behind x (leaf_begins l) s = refl
begun-behind x (container_begins c rest) s = refl

-- a table that leaves lines of its paragraph is a header alone
header-ends : (before : Tree) (lines : List Code) (columns : List Alignment) (row : List (List Code))
    → sibling_count (with_table before lines (table columns (row ∷ []))) ≡ suc (suc (sibling_count before))
    → ends_in_header (with_table before lines (table columns (row ∷ []))) ≡ false → ⊥
header-ends before [] columns row n m = omega (arith, n)
header-ends before (c ∷ cs) columns row n m = cc

text-table-ends : (tables : Bool) (cs line : List Code) (before : Tree) (text : List Code)
    → sibling_count (with_text_table cs before text (if tables then table_at line cs else None)) ≡ suc (suc (sibling_count before))
    → (tables && ends_in_header (with_text_table cs before text (if tables then table_at line cs else None))) ≡ false → ⊥
text-table-ends false cs line before text n m = omega (arith, n)
text-table-ends true cs line before text n m = by_indent (nat_lt (indent cs) 4) n m
  where
    columns : List Alignment
    columns = map alignment_of (cells_of cs)

    by_test : (b : Bool) → sibling_count (with_text_table cs before text (only_if b (table columns (cells_of line ∷ [])))) ≡ suc (suc (sibling_count before))
        → ends_in_header (with_text_table cs before text (only_if b (table columns (cells_of line ∷ [])))) ≡ false → ⊥
    by_test true n m = header-ends before (split_last (lines_of text)).0 columns (cells_of line) n m
    by_test false n m = omega (arith, n)

    by_indent : (b : Bool) → sibling_count (with_text_table cs before text (if b then table_of (cells_of line) (cells_of cs) else None)) ≡ suc (suc (sibling_count before))
        → ends_in_header (with_text_table cs before text (if b then table_of (cells_of line) (cells_of cs) else None)) ≡ false → ⊥
    by_indent true n m =
        by_test (nat_le 1 (length (cells_of line)) && (list_all is_delimiter (cells_of cs) && length (cells_of line) == length (cells_of cs))) n m
    by_indent false n m = omega (arith, n)

text-begun-alone : (x : Extensions) (cs : List Code) (before : Tree) (text : List Code) (o : Option Begun) → is_blank_line cs ≡ false → begun x true true cs ≡ o
    → sibling_count (with_text_begun x cs before text o) ≡ suc (suc (sibling_count before))
    → (x.tables && ends_in_header (with_text_begun x cs before text o)) ≡ false
    → with_text_begun x cs before text o ≡ joined (and_leaf before (paragraph text)) (with_line x cs nothing)
text-begun-alone x cs before text (Some b) h e n m =
    begun-behind x b (and_leaf before (paragraph text)) ∙ ap (joined (and_leaf before (paragraph text))) (interrupts-alone x cs b h e)
text-begun-alone x cs before text None h e n m = absurd (text-table-ends x.tables cs (split_last (lines_of text)).1 before text n m)

text-level-alone : (x : Extensions) (cs : List Code) (before : Tree) (text : List Code) (o : Option ℕ) → is_blank_line cs ≡ false
    → sibling_count (with_text_level x cs before text o) ≡ suc (suc (sibling_count before))
    → (x.tables && ends_in_header (with_text_level x cs before text o)) ≡ false
    → with_text_level x cs before text o ≡ joined (and_leaf before (paragraph text)) (with_line x cs nothing)
text-level-alone x cs before text (Some level) h n m = absurd (omega (arith, n))
text-level-alone x cs before text None h n m = text-begun-alone x cs before text (begun x true true cs) h refl n m

text-line-alone : (x : Extensions) (has_text : List Code → Bool) (cs : List Code) (before : Tree) (text : List Code)
    → sibling_count (with_text_line x has_text cs before text) ≡ suc (suc (sibling_count before))
    → (x.tables && ends_in_header (with_text_line x has_text cs before text)) ≡ false
    → with_text_line x has_text cs before text ≡ joined (and_leaf before (paragraph text)) (with_line x cs nothing)
text-line-alone x has_text cs before text n m = by_test (is_blank_line cs) refl n m
  where
    next : Tree
    next = with_text_level x cs before text (heading_level has_text cs text)

    by_test : (b : Bool) → is_blank_line cs ≡ b
        → sibling_count (if b then and_leaf (and_leaf before (paragraph text)) blank else next) ≡ suc (suc (sibling_count before))
        → (x.tables && ends_in_header (if b then and_leaf (and_leaf before (paragraph text)) blank else next)) ≡ false
        → (if b then and_leaf (and_leaf before (paragraph text)) blank else next) ≡ joined (and_leaf before (paragraph text)) (with_line x cs nothing)
    by_test true e n m = rw e refl
    by_test false e n m = text-level-alone x cs before text (heading_level has_text cs text) e n m

next-alone : (x : Extensions) (cs : List Code) (before : Tree) (leaf : Leaf) (o : Option Leaf) → sibling_count (with_next_or_line x cs before leaf o) ≡ suc (suc (sibling_count before))
    → with_next_or_line x cs before leaf o ≡ joined (and_leaf before leaf) (with_line x cs nothing)
next-alone x cs before leaf (Some next) n = absurd (omega (arith, n))
next-alone x cs before leaf None n = line-stands x cs (and_leaf before leaf) nothing

leaf-alone : (x : Extensions) (has_text : List Code → Bool) (cs : List Code) (before : Tree) (l : Leaf) → sibling_count (with_leaf_line x has_text cs before l) ≡ suc (suc (sibling_count before))
    → (x.tables && ends_in_header (with_leaf_line x has_text cs before l)) ≡ false
    → with_leaf_line x has_text cs before l ≡ joined (and_leaf before l) (with_line x cs nothing)
leaf-alone x has_text cs before (paragraph text) n m = text-line-alone x has_text cs before text n m
leaf-alone x has_text cs before blank n m = next-alone x cs before blank (with_next x blank cs) n
leaf-alone x has_text cs before thematic_break n m = next-alone x cs before thematic_break (with_next x thematic_break cs) n
leaf-alone x has_text cs before (heading k text) n m = next-alone x cs before (heading k text) (with_next x (heading k text) cs) n
leaf-alone x has_text cs before (underlined k text) n m = next-alone x cs before (underlined k text) (with_next x (underlined k text) cs) n
leaf-alone x has_text cs before (indented_code ls) n m = next-alone x cs before (indented_code ls) (with_next x (indented_code ls) cs) n
leaf-alone x has_text cs before (fenced_code f info ls ended) n m = next-alone x cs before (fenced_code f info ls ended) (with_next x (fenced_code f info ls ended) cs) n
leaf-alone x has_text cs before (html k text ended) n m = next-alone x cs before (html k text ended) (with_next x (html k text ended) cs) n
leaf-alone x has_text cs before (table columns rows) n m = next-alone x cs before (table columns rows) (with_next x (table columns rows) cs) n
leaf-alone x has_text cs before (front_matter ls) n m = next-alone x cs before (front_matter ls) (with_next x (front_matter ls) cs) n

inside-alone : (x : Extensions) (inner : List Code → Tree) (cs : List Code) (before : Tree) (c : Container) (inside : Tree) (o : Option (List Code))
    → sibling_count (with_rest_inside x inner cs before c inside o) ≡ suc (suc (sibling_count before))
    → with_rest_inside x inner cs before c inside o ≡ joined (and_container before c inside) (with_line x cs nothing)
inside-alone x inner cs before c inside (Some rest) n = absurd (omega (arith, n))
inside-alone x inner cs before c inside None n = by_test (is_lazy x cs inside) n
  where
    by_test : (b : Bool)
        → sibling_count (if b then and_container before c (with_lazy_line cs inside) else with_line x cs (and_container before c inside)) ≡ suc (suc (sibling_count before))
        → (if b then and_container before c (with_lazy_line cs inside) else with_line x cs (and_container before c inside))
        ≡ joined (and_container before c inside) (with_line x cs nothing)
    by_test true n = absurd (omega (arith, n))
    by_test false n = line-stands x cs (and_container before c inside) nothing

joined-nothing : (t : Tree) → joined nothing t ≡ t
joined-nothing nothing = refl
joined-nothing (and_leaf before l) = ap (λ s. and_leaf s l) (joined-nothing before)
joined-nothing (and_container before c inside) = ap (λ s. and_container s c inside) (joined-nothing before)

pub begins_alone : BeginsAlone
begins_alone x has_text l nothing n m = sym (joined-nothing (with_line x l nothing))
begins_alone x has_text l (and_leaf before leaf) n m = leaf-alone x has_text l before leaf n m
begins_alone x has_text l (and_container before c inside) n m =
    inside-alone x (λ rest. read_line x has_text rest inside) l before c inside (rest_inside c inside l) n

read-append : (x : Extensions) (has_text : List Code → Bool) (ks ls : List (List Code)) (t : Tree) → read_lines x has_text (ks ++ ls) t ≡ read_lines x has_text ls (read_lines x has_text ks t)
read-append x has_text [] ls t = refl
read-append x has_text (k ∷ ks) ls t = read-append x has_text ks ls (read_line x has_text k t)

-- a line alone leaves some sibling
found-alone : (inner : List Code → Tree) (cs : List Code) (o : Option Begun) → is_blank_line cs ≡ false → is_nothing (with_found inner cs nothing o) ≡ false
found-alone inner cs None h = rw h refl
found-alone inner cs (Some (leaf_begins l)) h = refl
found-alone inner cs (Some (container_begins c rest)) h = refl

line-alone : (x : Extensions) (cs : List Code) → is_nothing (with_line x cs nothing) ≡ false
line-alone x cs = by_test (is_blank_line cs) refl
  where
    by_test : (b : Bool) → is_blank_line cs ≡ b → is_nothing (if b then and_leaf nothing blank else with_rest x (suc (length cs)) cs nothing) ≡ false
    by_test true e = refl
    by_test false e = found-alone (λ rest. with_rest x (length cs) rest nothing) cs (begun x false false cs) e

pub lines_stand_alone : LinesStandAlone
lines_stand_alone x has_text before ls l n m =
    let first : Tree = read_lines x has_text before nothing in
    read-append x has_text before (l ∷ ls) nothing
    ∙ (ap (read_lines x has_text ls) (begins_alone x has_text l first n m) ∙ siblings_stand x has_text ls first (read_line x has_text l nothing) (line-alone x l))
