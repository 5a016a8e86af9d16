-- Definitions as bytes.
use Rattle.std.specs.Prelude.{◌≡◌, ℕ, ◌≤◌, List, ◌++◌, length, map, drop, Option, Some, None, option_map, IsUtf8, IfSome}
use Rattle.std.specs.Global.{Vec}
use Rattle.markdown_content.specs.Codes.{Code}
use Rattle.markdown_model.specs.CodeTests.{values_of}
use Rattle.markdown_block_model.specs.LineRests.{lines_of}
use Rattle.markdown_block_model.specs.LinkDefinitions as link_definitions
use Rattle.markdown_block_model.specs.LinkDefinitions.{definitions_of}
use Rattle.markdown_page_model.specs.PageTexts.{text_of}
use Rattle.markdown_block_definitions.specs.declared.front.Definition.{Definition}
use Rattle.markdown_block_definitions.specs.declared.front.Front.{Front}

-- a definition's texts: the values of its label; of the others a tab is a tab, and not its columns
pub record Texts : Type 0 where
  pub label : List ℕ
  pub destination : List ℕ
  pub title : Option (List ℕ)

abbrev pub items_of : Option (Vec ℕ) → Option (List ℕ)
items_of None = None
items_of (Some v) = Some v.items

abbrev pub texts_of : Definition → Texts
texts_of d = record { label = d.label.items; destination = d.destination.items; title = items_of d.title }

abbrev pub texts_in : link_definitions.Definition → Texts
texts_in d = record { label = values_of d.label; destination = text_of d.destination; title = option_map text_of d.title }

pub record AreUtf8Texts (t : Texts) : Type 0 where
  pub label : IsUtf8 t.label
  pub destination : IsUtf8 t.destination
  pub title : IfSome t.title IsUtf8

abbrev pub HasUtf8Texts : Definition → Type 0
HasUtf8Texts d = AreUtf8Texts (texts_of d)

-- the definitions at the front of a text, and the lines of the text behind theirs
pub record IsFrontOf (cs : List Code) (f : Front) : Type 0 where
  pub definitions_are : map texts_of f.definitions.items ≡ map texts_in (definitions_of cs).0
  pub rest : lines_of (definitions_of cs).1 ≡ drop f.lines (lines_of cs)
  pub within : f.lines ≤ length (lines_of cs)

-- definitions are put behind others
abbrev pub AreAdded : (before after : List Definition) → List link_definitions.Definition → Type 0
AreAdded before after ds = map texts_of after ≡ map texts_of before ++ map texts_in ds
