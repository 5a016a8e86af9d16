-- Ends of labels with a plain reference: a full reference whose text stands on one line, or a shortcut. No blank code begins the text of a full
-- reference, and no backslash stands in it.
use Rattle.std.specs.Prelude.{ℕ, ◌-◌, Bool, false, ◌&&◌, not, ◌==◌, if◌then◌else◌, nat_le, codes, List, [], ◌∷◌, Option, Some, None}
use Rattle.std.specs.Str.{byte}
use Rattle.markdown_content.specs.Place.{Place, code_at, exit_point, moved, point_of}
use Rattle.markdown_content.specs.Stretch.{is_free, past_stretch}
use Rattle.markdown_event.specs.declared.event.Name.TheVariants as N
use Rattle.markdown_engine.specs.Operations.{current_of}
use Rattle.markdown_engine.specs.declared.tokenizer.LabelStart as Kept
use Rattle.markdown_engine.specs.declared.tokenizer.Tokenizer.{Tokenizer}
use Rattle.markdown_label.specs.LabelEnd.{is_on}
use Rattle.markdown_label_names.specs.LabelNames.{names_itself, place_at}
use Rattle.markdown_label_names.specs.LabelSetting.{setting_in}
use Rattle.markdown_model.specs.LabelEnd.{name_between}
use Rattle.markdown_model.specs.Setting.{Setting, defines}
use Rattle.markdown_run_text.specs.PlacesPassed.{is_some_value}
use Rattle.markdown_run_text.specs.PlainResource.{between_read, may_make}

-- Where one stands.

-- at these bytes alone, line endings aside, the text of a reference ends, or is not plain
abbrev pub label_stops : List ℕ
label_stops = codes "[\\]"

-- with these bytes, and line endings, no plain text begins
abbrev pub front_stops : List ℕ
front_stops = codes "\t [\\]"

-- past the text at the place
abbrev pub past_text : Place → Place
past_text p = past_stretch label_stops p

-- a plain text of at most 999 codes is at the place, up to a `]`
abbrev pub text_at : Place → Bool
text_at p = is_free front_stops (code_at p) && (is_some_value (byte "]") (code_at (past_text p)) && nat_le ((past_text p).at - p.at) 999)

-- the identifier of the text at the place
abbrev pub name_at : Setting → Place → List ℕ
name_at s p = name_between s (point_of p).index (exit_point (past_text p)).index

-- such a text is at the place, and names a definition
abbrev pub names_at : Setting → Place → Bool
names_at s p = text_at p && defines s (name_at s p)

-- the label from the last of these starts to the place names a definition itself
abbrev pub is_named : List Kept.LabelStart → Tokenizer → Bool
is_named [] T = false
is_named (l ∷ ls) T = names_itself (setting_in T) (place_at T.events l.start.1).index (point_of T.cursor).index

-- by the code behind the `]` at the place: what follows names a definition, or where it cannot, the label does
abbrev pub refers_by : Option ℕ → Tokenizer → Bool
refers_by None T = is_named T.tokenize_state.label_starts T
refers_by (Some v) T =
    if v == byte "[" then names_at (setting_in T) (moved (moved T.cursor))
    else (not (v == byte "(") && is_named T.tokenize_state.label_starts T)

-- ends are on, and the `]` of one is at the place that may make a label
abbrev pub ends_here : Tokenizer → Bool
ends_here T = is_on T && (may_make T.tokenize_state.label_starts && is_some_value (byte "]") (code_at T.cursor))

-- besides, its reference names a definition
abbrev pub reference_here : Tokenizer → Bool
reference_here T = ends_here T && refers_by (code_at (moved T.cursor)) T

-- How it is read.

-- past the full reference at the place, if a `[` is there
abbrev pub reference_read : Tokenizer → Tokenizer
reference_read T =
    if is_some_value (byte "[") (current_of T) then between_read N.Reference N.ReferenceMarker N.ReferenceString label_stops T else T
