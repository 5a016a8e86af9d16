-- What calls ask of the pieces of a content where they read the texts of labels.
use Rattle.std.specs.Prelude.{◌≡◌, List, true, ℕ}
use Rattle.markdown_content.specs.CommonMark.{rules_of}
use Rattle.markdown_content.specs.Content.{IsContent}
use Rattle.markdown_content.specs.declared.configuration.ParseOptions.{ParseOptions}
use Rattle.markdown_content.specs.declared.parser.Piece.{Piece}

-- the pieces are a content, where labels go by their text in it; where they go by their text in the document, nothing is asked of the pieces
abbrev pub HasLabelTexts : ParseOptions → List ℕ → List Piece → Type 0
HasLabelTexts options bytes pieces = (rules_of options).labels_by_text ≡ true → IsContent bytes pieces
