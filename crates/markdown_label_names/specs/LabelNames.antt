-- What a label stands for, by the events around it.
use Rattle.std.specs.Prelude.{ℕ, Bool, ◌<◌, ◌&&◌, if◌then◌else◌, List, length, slice_get, Option, Some, None, IsUtf8}
use Rattle.std.specs.Str.{IsCharBoundary}
use Rattle.markdown_content.specs.Codes.{document_start}
use Rattle.markdown_content.specs.PlaceInDocument.{IsPlaceOf}
use Rattle.markdown_content.specs.declared.label_kind.LabelKind.{LabelKind}
use Rattle.markdown_event.specs.declared.event.Event.{Event}
use Rattle.markdown_event.specs.declared.event.Point.{Point}
use Rattle.markdown_engine.specs.declared.tokenizer.Tokenizer.{Tokenizer}
use Rattle.markdown_plan.specs.Characters.{bytes_of}
use Rattle.markdown_model.specs.LabelEnd.{is_footnote, label_name, name_between, names_definition, names_footnote}
use Rattle.markdown_model.specs.Setting.{Setting}
use Rattle.markdown_label_names.specs.LabelSetting.{setting_in, IsListed}

-- whether a label of this kind with this identifier is defined as a link's, and none where it is a footnote call
abbrev pub link_as : Setting → LabelKind → Option (List ℕ) → Option Bool
link_as s kind name = if is_footnote kind && names_footnote s name then None else Some (names_definition s kind name)

-- a label without a caret, whose text this is, names a definition itself
abbrev pub names_itself : Setting → ℕ → ℕ → Bool
names_itself s from to = names_definition s LabelKind.Link (label_name s LabelKind.Link from to)

abbrev pub point_or : Option Event → Point
point_or None = document_start
point_or (Some e) = e.point

-- where an event stands, by its number
abbrev pub place_at : List Event → ℕ → Point
place_at es n = point_or (slice_get es n)

-- the identifier of the text between two events
abbrev pub identifier_between : Tokenizer → ℕ → ℕ → List ℕ
identifier_between T m n = name_between (setting_in T) (place_at T.events m).index (place_at T.events n).index

-- that of a label of this kind itself whose text this is
abbrev pub label_between : Tokenizer → LabelKind → ℕ → ℕ → Option (List ℕ)
label_between T kind m n = label_name (setting_in T) kind (place_at T.events m).index (place_at T.events n).index

-- When the bytes between two events are whole characters.

-- both events are there, and each stands between characters of the text; and what is known of the names that are defined is right
pub record AreAround (T : Tokenizer) (m n : ℕ) : Type 0 where
  pub listed : IsListed T
  pub text : IsUtf8 (bytes_of T)
  pub own : IsPlaceOf (bytes_of T) T.cursor
  pub first : m < length T.events
  pub last : n < length T.events
  pub from : IsCharBoundary (bytes_of T) (place_at T.events m).index
  pub to : IsCharBoundary (bytes_of T) (place_at T.events n).index
