-- Link reference definitions (CommonMark 4.7). Those at the front of a paragraph are no text of it.
use Rattle.std.specs.Prelude.{ℕ, zero, suc, ◌-◌, Bool, true, not, List, [], ◌∷◌, ◌++◌, length, drop, take, Option, Some, None, if◌then◌else◌}
use Rattle.std.specs.Str.{byte}
use Rattle.markdown_content.specs.Codes.{Code, is_blank, is_line_ending}
use Rattle.markdown_content.specs.Tree.{leaf_codes}
use Rattle.markdown_util.specs.Identifier.{identifier_by}
use Rattle.markdown_model.specs.CodeTests.{is_value, is_empty, next_is, values_of}
use Rattle.markdown_model.specs.Grammar.{Reading, ◌>>=◌, ◌>>◌, gives, either, provided, one, any_number, before, optional_tree}
use Rattle.markdown_model.specs.Whitespace.{space_or_tab_eol}
use Rattle.markdown_model.specs.Resource.{label, reference_names, destination, resource_names, begins_title, title, title_names}
use Rattle.markdown_block_model.specs.LineRests.{trimmed_end}
use Rattle.markdown_block_model.specs.BlockTree.{Extensions, Leaf, underlined, paragraph, Tree, nothing, and_leaf, and_container}
use Rattle.markdown_block_model.specs.DocumentBlocks.{blocks_of}

-- the texts of its label, its destination and its title
pub record Definition : Type 0 where
  pub label : List Code
  pub destination : List Code
  pub title : Option (List Code)

-- the text between two markers, each of which is one code
abbrev pub between : List Code → List Code
between cs = drop 1 (take (length cs - 1) cs)

-- a destination may stand in `<` and `>` (6.3)
abbrev pub destination_text : List Code → List Code
destination_text cs = if next_is (is_value (byte "<")) cs then between cs else cs

-- the end of the line, or of the paragraph, behind blanks
unfoldable pub line_end : Reading (List Code)
line_end = any_number is_blank >> either (one is_line_ending) (λ cs. provided (is_empty cs) cs)

-- a title that ends its line, if it stands apart from the destination
unfoldable pub title_of_definition : Reading (Option (List Code))
title_of_definition = do
  before (space_or_tab_eol None) begins_title
  text ← title true title_names
  line_end
  gives (Some (between (leaf_codes text)))

unfoldable pub definition : Reading Definition
definition = do
  name ← label true reference_names
  one (is_value (byte ":"))
  optional_tree (space_or_tab_eol None)
  target ← destination 32 resource_names
  text ← either title_of_definition (line_end >> gives None)
  gives (record { label = between (leaf_codes name); destination = destination_text (leaf_codes target); title = text })

-- The definitions at the front of a paragraph, as many as there are, and the text behind them.

abbrev pub taken_by : (List Code → List Definition × List Code) → List Code → Option (Definition × List Code) → List Definition × List Code
taken_by more cs None = ([], cs)
taken_by more cs (Some r) = (r.0 ∷ (more r.1).0, (more r.1).1)

-- so many at most
abbrev pub taken : ℕ → List Code → List Definition × List Code
taken zero cs = ([], cs)
taken (suc n) cs = taken_by (taken n) cs (definition cs)

-- there are no more definitions than codes
abbrev pub definitions_of : List Code → List Definition × List Code
definitions_of text = taken (length text) text

abbrev pub has_text : List Code → Bool
has_text text = not (is_empty (definitions_of text).1)

-- A tree without the definitions of its paragraphs, and these in order. A paragraph of definitions alone stays, without text.

abbrev pub text_of_leaf : Leaf → Leaf
text_of_leaf (paragraph text) = paragraph (trimmed_end (definitions_of text).1)
text_of_leaf (underlined n text) = underlined n (definitions_of text).1
text_of_leaf leaf = leaf

abbrev pub resolved : Tree → Tree
resolved nothing = nothing
resolved (and_leaf before leaf) = and_leaf (resolved before) (text_of_leaf leaf)
resolved (and_container before c inside) = and_container (resolved before) c (resolved inside)

abbrev pub definitions_in : Leaf → List Definition
definitions_in (paragraph text) = (definitions_of text).0
definitions_in (underlined n text) = (definitions_of text).0
definitions_in leaf = []

abbrev pub definitions_within : Tree → List Definition
definitions_within nothing = []
definitions_within (and_leaf before leaf) = definitions_within before ++ definitions_in leaf
definitions_within (and_container before c inside) = definitions_within before ++ definitions_within inside

-- the tree of a document
abbrev pub document_tree : Extensions → List ℕ → Tree
document_tree e bytes = resolved (blocks_of e has_text bytes)

-- its definitions
abbrev pub definitions : Extensions → List ℕ → List Definition
definitions e bytes = definitions_within (blocks_of e has_text bytes)

-- by which links and images find it; of several with one identifier the first counts
abbrev pub identifier : Definition → List ℕ
identifier d = identifier_by true (values_of d.label)
