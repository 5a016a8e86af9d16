-- What the call for the HTML of bytes alone leaves.
use Rattle.std.specs.Prelude.{◌≡◌, ℕ, List, [], ◌∷◌, length}
use Rattle.markdown_inline_c.specs.Answers.{IsAnswer}
use Rattle.markdown_inline_c.specs.FlatHtml.{IsHtmlInput, html_of}
use Rattle.markdown_inline_c.specs.Statuses.{IsHtmlFault}
use Rattle.markdown_inline_c.specs.declared.flat.FlatPiece.{FlatPiece}
use Rattle.markdown_inline_c.specs.declared.flat.Input.{Input}

-- the piece of all bytes of a document that has so many
abbrev pub whole : ℕ → FlatPiece
whole n = record { start = 0; start_vs = 0; end = n; end_vs = 0 }

-- an input of all of these bytes, with these options and no definitions
pub record IsWhole (bytes : List ℕ) (options : ℕ) (i : Input) : Type 0 where
  pub bytes_are : i.bytes.now ≡ bytes
  pub pieces_are : i.pieces.now ≡ whole (length bytes) ∷ []
  pub no_labels : i.labels.now ≡ []
  pub no_definitions : i.definitions.now ≡ []
  pub no_footnotes : i.footnotes.now ≡ []
  pub options_are : i.options ≡ options
  pub reserves_nothing : i.reserved ≡ 0

-- the answer is that for the HTML of such an input, without targets and without a limit
pub record IsAnswerOfWhole (bytes : List ℕ) (options html_options : ℕ) (old new : List ℕ) (count_old count_new status : ℕ) : Type 0 where
  pub input : Input
  pub is_whole : IsWhole bytes options input
  pub is_answer : IsAnswer (html_of input [] html_options) (IsHtmlInput input [] html_options 18446744073709551615) (IsHtmlFault input [] html_options 18446744073709551615) old new count_old count_new status
