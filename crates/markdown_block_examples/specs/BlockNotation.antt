-- The words of rows of blocks: a document's blocks in order, each container with an end behind what is inside it, and its definitions.
use Rattle.std.specs.Str.{byte}
use Rattle.std.specs.Prelude.{map, ℕ, ◌+◌, Bool, true, ◌&&◌, ◌==◌, nat_lt, List, [], ◌∷◌, ◌++◌, Option, Some, None, if◌then◌else◌}
use Rattle.markdown_content.specs.Codes.{Code, tab_value}
use Rattle.markdown_block_model.specs.LineRests.{is_blank_line}
use Rattle.markdown_block_model.specs.BlockTree.{Marker, Container, quote, item, footnote, Alignment, Extensions, no_extensions, table, front_matter, Leaf, blank, thematic_break, heading, underlined, paragraph, indented_code, fenced_code, html, Tree, nothing, and_leaf, and_container}
use Rattle.markdown_block_model.specs.LinkDefinitions.{Definition, document_tree, definitions}
use Rattle.markdown_block_model.specs.LooseLists.{is_loose}

pub data Shown : Type 0 where
  break : Shown
  head : ℕ → List ℕ → Shown
  text : List ℕ → Shown
  code : List ℕ → Shown
  fenced : List ℕ → List ℕ → Shown
  markup : List ℕ → Shown
  math : List ℕ → List ℕ → Shown
  grid : List Alignment → List (List (List ℕ)) → Shown
  matter : List ℕ → Shown
  in_note : List ℕ → Shown
  in_quote : Shown
  in_item : Marker → Bool → Shown
  end : Shown
  defined : List ℕ → List ℕ → Option (List ℕ) → Shown

-- the bytes of some codes: of a tab that begins among them the tab alone, of another tab spaces; `index` is that behind the tab that has begun
abbrev pub written : ℕ → List Code → List ℕ
written index [] = []
written index (c ∷ cs) =
    if nat_lt 0 c.start.vs && c.start.index + 1 == index
    then written index cs
    else c.value ∷ written (if c.value == tab_value then c.start.index + 1 else 0) cs

abbrev pub written_lines : List (List Code) → List ℕ
written_lines [] = []
written_lines (l ∷ ls) = written 0 l ++ written_lines ls

-- the lines without the blank ones at the end (4.4)
abbrev pub onto_filled : List Code → List (List Code) → List (List Code)
onto_filled l [] = if is_blank_line l then [] else l ∷ []
onto_filled l (k ∷ ls) = l ∷ k ∷ ls

abbrev pub filled : List (List Code) → List (List Code)
filled [] = []
filled (l ∷ ls) = onto_filled l (filled ls)

abbrev pub shown_leaf : Leaf → List Shown
shown_leaf blank = []
shown_leaf thematic_break = break ∷ []
shown_leaf (heading n cs) = head n (written 0 cs) ∷ []
shown_leaf (underlined n cs) = head n (written 0 cs) ∷ []
shown_leaf (paragraph []) = []
shown_leaf (paragraph (c ∷ cs)) = text (written 0 (c ∷ cs)) ∷ []
shown_leaf (indented_code ls) = code (written_lines (filled ls)) ∷ []
shown_leaf (fenced_code f info ls ended) =
    (if f.value == byte "$" then math (written 0 info) (written_lines ls) else fenced (written 0 info) (written_lines ls)) ∷ []
shown_leaf (table columns rows) = grid columns (map (λ row. map (λ cell. written 0 cell) row) rows) ∷ []
shown_leaf (front_matter ls) = matter (written_lines ls) ∷ []
shown_leaf (html k cs ended) = markup (written 0 cs) ∷ []

abbrev pub shown_container : Container → Bool → Shown
shown_container quote loose = in_quote
shown_container (footnote label) loose = in_note (written 0 label)
shown_container (item m columns) loose = in_item m loose

abbrev pub shown : Tree → List Shown
shown nothing = []
shown (and_leaf before leaf) = shown before ++ shown_leaf leaf
shown (and_container before c inside) = shown before ++ shown_container c (is_loose (and_container before c inside)) ∷ shown inside ++ end ∷ []

abbrev pub shown_title : Option (List Code) → Option (List ℕ)
shown_title None = None
shown_title (Some cs) = Some (written 0 cs)

abbrev pub shown_definitions : List Definition → List Shown
shown_definitions [] = []
shown_definitions (d ∷ ds) = defined (written 0 d.label) (written 0 d.destination) (shown_title d.title) ∷ shown_definitions ds

-- the blocks of a document, and its definitions
abbrev pub blocks_answer : List ℕ → List Shown
blocks_answer bytes = shown (document_tree no_extensions bytes) ++ shown_definitions (definitions no_extensions bytes)

-- with all extensions
abbrev pub all_extensions : Extensions
all_extensions = record { tables = true; footnotes = true; math = true; front_matter = true }

abbrev pub extended_answer : List ℕ → List Shown
extended_answer bytes = shown (document_tree all_extensions bytes) ++ shown_definitions (definitions all_extensions bytes)
