-- What a caller in C hands in to read many contents of one document, and what it gets.
use Rattle.std.specs.Prelude.{ℕ, ◌≤◌, Bool, false, not, ◌==◌, IsTrue, List, [], length, slice_range}
use Rattle.std.specs.List.{list_all}
use Rattle.markdown_content.specs.Content.{IsContent, IsTextContent, content_of}
use Rattle.markdown_content.specs.DefaultOptions.{options_of}
use Rattle.markdown_content.specs.declared.configuration.ParseOptions.{ParseOptions}
use Rattle.markdown_content.specs.declared.parser.Piece.{Piece}
use Rattle.markdown_event.specs.declared.event.Event.{Event}
use Rattle.markdown_model.specs.InlineTree.{text_events}
use Rattle.markdown_model.specs.Setting.{Setting, references_of, within}
use Rattle.markdown_inline_c.specs.FlatInput.{AreInputOptions, identifiers, pieces_of, replaces_nul}
use Rattle.markdown_inline_c.specs.declared.flat.FlatContent.{FlatContent}
use Rattle.markdown_inline_c.specs.declared.flat.FlatPiece.{FlatPiece}
use Rattle.markdown_inline_c.specs.declared.flat.Input.{Input}
use Rattle.markdown_inline_c.specs.declared.flat.Range.{Range}

-- Contents, each by the numbers of its pieces among all pieces.

pub record IsAmong (pieces : List FlatPiece) (c : FlatContent) : Type 0 where
  pub in_order : c.pieces.start ≤ c.pieces.end
  pub within : c.pieces.end ≤ length pieces

abbrev pub pieces_at : List FlatPiece → FlatContent → List Piece
pieces_at pieces c = pieces_of (slice_range pieces c.pieces.start c.pieces.end)

abbrev pub IsContentAt : List ℕ → List FlatPiece → FlatContent → Type 0
IsContentAt bytes pieces c = IsAmong pieces c × IsContent bytes (pieces_at pieces c)

abbrev pub IsTextAt : List ℕ → List FlatPiece → FlatContent → Type 0
IsTextAt bytes pieces c = IsAmong pieces c × IsTextContent bytes (pieces_at pieces c)

-- the reserved words of contents are 0
abbrev pub reserve_nothing : List FlatContent → Bool
reserve_nothing contents = list_all (λ c. c.reserved == 0) contents

-- each option is known, and each reserved word of the input and of contents is 0
abbrev pub AreTextsOptions : Input → List FlatContent → Type 0
AreTextsOptions i contents = AreInputOptions i × IsTrue (reserve_nothing contents)

-- Their events.

abbrev pub is_first_of_item : FlatContent → Bool
is_first_of_item c = not (c.first_of_item == 0)

-- the events of a content, read with this setting
abbrev pub text_at : Setting → List FlatPiece → FlatContent → List Event
text_at s pieces c = text_events (record s { first_of_item = is_first_of_item c }) (pieces_at pieces c)

-- the setting with the content that is read
abbrev pub setting_at : Setting → List FlatPiece → FlatContent → Setting
setting_at s pieces c = within (content_of s.bytes (pieces_at pieces c)) s

-- these events, in a form that the setting and the content may change
abbrev pub text_in : {X : Type 0} → (Setting → List Event → List X) → Setting → List FlatPiece → FlatContent → List X
text_in form s pieces c = form (setting_at s pieces c) (text_at s pieces c)

-- The setting of a document and what is defined by labels, which says nothing of the first of an item: each content says it.

abbrev pub setting_by : List ℕ → ParseOptions → (labels : List ℕ) (definitions footnotes : List Range) → Setting
setting_by bytes options labels definitions footnotes = record {
  bytes = bytes;
  options = options;
  references = references_of options;
  definitions = identifiers (replaces_nul options) labels definitions;
  footnotes = identifiers (replaces_nul options) labels footnotes;
  first_of_item = false;
  content = [];
}

abbrev pub many_setting : Input → Setting
many_setting i = setting_by i.bytes.now (options_of i.options) i.labels.now i.definitions.now i.footnotes.now
