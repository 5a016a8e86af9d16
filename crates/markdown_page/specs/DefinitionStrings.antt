-- What definitions of a document say, as strings (CommonMark 4.7).
use Rattle.std.specs.Prelude.{◌≡◌, List, map, true, option_map, IsUtf8, IfSome}
use Rattle.markdown_util.specs.Identifier.{identifier_by}
use Rattle.markdown_util.specs.declared.decoding.Decoding.{Decoding}
use Rattle.markdown_html_model.specs.Html.{Defined}
use Rattle.markdown_html_model.specs.Resolved.{resolved}
use Rattle.markdown_block_model.specs.LinkDefinitions as link_definitions
use Rattle.markdown_block_definitions.specs.DefinitionTexts.{Texts, texts_of, texts_in}
use Rattle.markdown_block_definitions.specs.declared.front.Definition.{Definition}

-- these are the texts of those definitions
abbrev pub AreTextsOf : List Definition → List link_definitions.Definition → Type 0
AreTextsOf xs ds = map texts_of xs ≡ map texts_in ds

-- a label is UTF-8, as in a document of UTF-8
abbrev pub HasTextLabel : link_definitions.Definition → Type 0
HasTextLabel d = IsUtf8 (texts_in d).label

-- and what the page has of the others
abbrev pub IsTextual : Decoding → Texts → Type 0
IsTextual how t = IsUtf8 t.label × (IsUtf8 (resolved how t.destination) × IfSome t.title (λ title. IsUtf8 (resolved how title)))

abbrev pub HasTexts : Decoding → link_definitions.Definition → Type 0
HasTexts how d = IsTextual how (texts_in d)

-- what texts define
abbrev pub defined_in : Decoding → Texts → Defined
defined_in how t = record { identifier = identifier_by true t.label; destination = resolved how t.destination; title = option_map (resolved how) t.title }
