-- Laws on the tree of blocks.
use Rattle.std.specs.Prelude.{◌≡◌, ◌⊎◌, ℕ, suc, ◌<◌, List, [], ◌∷◌, ◌++◌, length, flat_map, Some, Bool, true, false, find}
use Rattle.std.specs.Str.{byte}
use Rattle.std.specs.List.{list_any}
use Rattle.markdown_content.specs.Codes.{Code, codes_of, is_blank, is_line_ending}
use Rattle.markdown_content.specs.Content.{is_text_codes}
use Rattle.markdown_model.specs.CodeTests.{is_whitespace_code, next_is}
use Rattle.markdown_block_model.specs.LineRests.{is_blank_line, trimmed_end}
use Rattle.markdown_block_model.specs.BlockTree.{Extensions, bullet, Container, quote, item, footnote, Leaf, blank, thematic_break, heading, underlined, paragraph, indented_code, fenced_code, html, table, front_matter, Tree, nothing, and_leaf, and_container}
use Rattle.markdown_block_model.specs.LeafStarts.{is_break}
use Rattle.markdown_block_model.specs.BlockStarts.{with_rest}
use Rattle.markdown_block_model.specs.DocumentBlocks.{rest_inside, read_line, read_lines, blocks_of}
use Rattle.markdown_block_model.specs.BlockLines.{block_count, begins_of}
use Rattle.markdown_block_model.specs.LinkDefinitions.{Definition, document_tree, identifier}
use Rattle.markdown_block_model.specs.Footnotes.{Footnote}
use Rattle.markdown_block_model.specs.FirstOnes.{has_key, first_ones}

-- Containers (5.1, 5.2).

-- each line goes on with the container, by what the lines before it have made of its inside, and the rest inside it is the other line
abbrev pub GoOn : Extensions → (List Code → Bool) → Container → Tree → List (List Code) → List (List Code) → Type 0
GoOn e has_text c inside [] [] = Unit {0}
GoOn e has_text c inside [] (l ∷ ls) = ⊥
GoOn e has_text c inside (q ∷ qs) [] = ⊥
GoOn e has_text c inside (q ∷ qs) (l ∷ ls) = (rest_inside c inside q ≡ Some l) × GoOn e has_text c (read_line e has_text l inside) qs ls

-- what the lines of a container are inside it, that they are in its contents
abbrev pub ContainersHold : Type 0
ContainersHold =
    (e : Extensions) (has_text : List Code → Bool) (c : Container) (qs ls : List (List Code)) (before inside : Tree) → GoOn e has_text c inside qs ls
    → read_lines e has_text qs (and_container before c inside) ≡ and_container before c (read_lines e has_text ls inside)

-- each line is so to the other line
abbrev pub Each : (List Code → List Code → Type 0) → List (List Code) → List (List Code) → Type 0
Each R [] [] = Unit {0}
Each R [] (l ∷ ls) = ⊥
Each R (q ∷ qs) [] = ⊥
Each R (q ∷ qs) (l ∷ ls) = R q l × Each R qs ls

-- the first line is the other one behind a code of this value and a blank
pub record IsMarked (v : ℕ) (q l : List Code) : Type 0 where
  pub marker : Code
  pub space : Code
  pub marks : marker.value ≡ v
  pub is_space : is_blank space ≡ true
  pub whole : q ≡ marker ∷ space ∷ l

-- it is the other one behind two blanks
pub record IsIndented (q l : List Code) : Type 0 where
  pub first : Code
  pub second : Code
  pub first_blank : is_blank first ≡ true
  pub second_blank : is_blank second ≡ true
  pub whole : q ≡ first ∷ second ∷ l

-- `>` and a blank before each line make one quote of what the lines are (5.1, the first rule)
abbrev pub QuotesHold : Type 0
QuotesHold =
    (e : Extensions) (has_text : List Code → Bool) (q l : List Code) (qs ls : List (List Code)) → IsMarked (byte ">") q l → Each (IsMarked (byte ">")) qs ls → is_blank_line l ≡ false
    → read_lines e has_text (q ∷ qs) nothing ≡ and_container nothing quote (read_lines e has_text (l ∷ ls) nothing)

-- a bullet and a blank before the first line, and two blanks before each further one, make an item of what the lines are (5.2, the first rule). The first
-- line begins with no whitespace, and is no break with the bullet.
abbrev pub ItemsHold : Type 0
ItemsHold =
    (e : Extensions) (has_text : List Code → Bool) (v : ℕ) (c : Code) (q l : List Code) (qs ls : List (List Code))
    → (v ≡ byte "-") ⊎ ((v ≡ byte "+") ⊎ (v ≡ byte "*")) → IsMarked v q (c ∷ l) → is_whitespace_code c ≡ false → is_break q ≡ false → Each IsIndented qs ls
    → read_lines e has_text (q ∷ qs) nothing ≡ and_container nothing (item (bullet v) 2) (read_lines e has_text ((c ∷ l) ∷ ls) nothing)

-- The codes of a leaf, and those of the leaves of a tree, in order.

abbrev pub leaf_text : Leaf → List Code
leaf_text blank = []
leaf_text thematic_break = []
leaf_text (heading n text) = text
leaf_text (underlined n text) = text
leaf_text (paragraph text) = text
leaf_text (indented_code ls) = flat_map (λ l. l) ls
leaf_text (fenced_code f info ls ended) = info ++ flat_map (λ l. l) ls
leaf_text (html k text ended) = text
leaf_text (table columns rows) = flat_map (λ row. flat_map (λ cell. cell) row) rows
leaf_text (front_matter ls) = flat_map (λ l. l) ls

abbrev pub tree_text : Tree → List Code
tree_text nothing = []
tree_text (and_leaf before leaf) = tree_text before ++ leaf_text leaf
tree_text (and_container before c inside) = tree_text before ++ tree_text inside

-- some of the codes, in their order, and each once at most
abbrev pub IsPart : List Code → List Code → Type 0
IsPart xs [] = xs ≡ []
IsPart xs (y ∷ ys) = IsPart xs ys ⊎ ((rest : List Code) × (xs ≡ y ∷ rest) × IsPart rest ys)

-- the leaves hold codes of the document, in order: nothing is moved, doubled or made
abbrev pub LeavesInOrder : Type 0
LeavesInOrder = (e : Extensions) (bytes : List ℕ) → IsPart (tree_text (document_tree e bytes)) (codes_of bytes)

-- Texts.

-- what the inline layer takes: no line is blank, and the last one has no line ending; neither end is whitespace
pub record IsText (text : List Code) : Type 0 where
  pub filled : is_text_codes text ≡ true
  pub begins : next_is is_whitespace_code text ≡ false
  pub ends : trimmed_end text ≡ text

-- Tables (GFM 4.10): each row has one cell per column, and each cell is a text on one line.

abbrev pub AreCells : List (List Code) → Type 0
AreCells [] = Unit {0}
AreCells (cell ∷ cells) = IsText cell × (list_any is_line_ending cell ≡ false) × AreCells cells

abbrev pub AreRows : ℕ → List (List (List Code)) → Type 0
AreRows n [] = Unit {0}
AreRows n (row ∷ rows) = ((length row ≡ n) × AreCells row) × AreRows n rows

-- the text of a paragraph or a heading is one
abbrev pub IsTextLeaf : Leaf → Type 0
IsTextLeaf blank = Unit {0}
IsTextLeaf thematic_break = Unit {0}
IsTextLeaf (heading n text) = IsText text
IsTextLeaf (underlined n text) = IsText text
IsTextLeaf (paragraph text) = IsText text
IsTextLeaf (indented_code ls) = Unit {0}
IsTextLeaf (fenced_code f info ls ended) = Unit {0}
IsTextLeaf (html k text ended) = Unit {0}
IsTextLeaf (table columns rows) = AreRows (length columns) rows
IsTextLeaf (front_matter ls) = Unit {0}

abbrev pub HaveTexts : Tree → Type 0
HaveTexts nothing = Unit {0}
HaveTexts (and_leaf before leaf) = HaveTexts before × IsTextLeaf leaf
HaveTexts (and_container before c inside) = HaveTexts before × HaveTexts inside

-- so that `text_tree` is the inline tree of each
abbrev pub TextsAreContents : Type 0
TextsAreContents = (e : Extensions) (bytes : List ℕ) → HaveTexts (document_tree e bytes)

-- The number of containers that begin with a line, which the definition counts down, is enough: with more steps nothing more begins.
abbrev pub StepsSuffice : Type 0
StepsSuffice = (e : Extensions) (n : ℕ) (cs : List Code) (siblings : Tree) → length cs < n → with_rest e n cs siblings ≡ with_rest e (suc (length cs)) cs siblings

-- No line takes a block away, so each block has the line on which it begins.
abbrev pub BlocksBeginOnLines : Type 0
BlocksBeginOnLines = (e : Extensions) (has_text : List Code → Bool) (bytes : List ℕ) → length (begins_of e has_text bytes) ≡ block_count (blocks_of e has_text bytes)

-- Each block that an extension brings needs it: so with `no_extensions` no table, footnote definition, math or front matter is in a tree.

abbrev pub NeedsExtension : Extensions → Leaf → Type 0
NeedsExtension e blank = Unit {0}
NeedsExtension e thematic_break = Unit {0}
NeedsExtension e (heading n text) = Unit {0}
NeedsExtension e (underlined n text) = Unit {0}
NeedsExtension e (paragraph text) = Unit {0}
NeedsExtension e (indented_code ls) = Unit {0}
NeedsExtension e (fenced_code f info ls ended) = f.value ≡ byte "$" → e.math ≡ true
NeedsExtension e (html k text ended) = Unit {0}
NeedsExtension e (table columns rows) = e.tables ≡ true
NeedsExtension e (front_matter ls) = e.front_matter ≡ true

abbrev pub ContainerNeedsExtension : Extensions → Container → Type 0
ContainerNeedsExtension e quote = Unit {0}
ContainerNeedsExtension e (item m columns) = Unit {0}
ContainerNeedsExtension e (footnote label) = e.footnotes ≡ true

abbrev pub NeedExtensions : Extensions → Tree → Type 0
NeedExtensions e nothing = Unit {0}
NeedExtensions e (and_leaf before leaf) = NeedExtensions e before × NeedsExtension e leaf
NeedExtensions e (and_container before c inside) = NeedExtensions e before × ContainerNeedsExtension e c × NeedExtensions e inside

abbrev pub BlocksNeedExtensions : Type 0
BlocksNeedExtensions = (e : Extensions) (bytes : List ℕ) → NeedExtensions e (document_tree e bytes)

-- Definitions (4.7), and footnote definitions.

abbrev pub AreDifferent : {A : Type 0} → (A → List ℕ) → List A → Type 0
AreDifferent key [] = Unit {0}
AreDifferent key (d ∷ ds) = (list_any (has_key key (key d)) ds ≡ false) × AreDifferent key ds

-- of those that count no two have one identifier, and by each identifier one finds the first of all that have it
pub record OneDefinition : Type 0 where
  pub differ : (ds : List Definition) → AreDifferent identifier (first_ones identifier ds)
  pub first : (name : List ℕ) (ds : List Definition) → find (has_key identifier name) (first_ones identifier ds) ≡ find (has_key identifier name) ds
  pub footnotes_differ : (fs : List Footnote) → AreDifferent (λ (f : Footnote). f.identifier) (first_ones (λ (f : Footnote). f.identifier) fs)
  pub first_footnote : (name : List ℕ) (fs : List Footnote)
      → find (has_key (λ (f : Footnote). f.identifier) name) (first_ones (λ (f : Footnote). f.identifier) fs) ≡ find (has_key (λ (f : Footnote). f.identifier) name) fs
