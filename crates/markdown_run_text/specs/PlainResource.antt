-- Ends of labels with a plain resource: a destination, and maybe one blank code and a title in quotes. It stands on one line, none of its texts
-- is empty, no backslash stands in them, no parenthesis in a destination without brackets, and no `<` in one with brackets.
use Rattle.std.specs.Prelude.{◌≡◌, ℕ, Bool, true, false, ◌&&◌, ◌||◌, not, ◌==◌, if◌then◌else◌, codes, is_some, List, [], ◌∷◌, ◌++◌, Option, Some, None}
use Rattle.std.specs.Str.{byte}
use Rattle.markdown_content.specs.Place.{Place, code_at, moved, point_of}
use Rattle.markdown_content.specs.Stretch.{is_free, past_stretch}
use Rattle.markdown_event.specs.declared.event.Content.TheVariants as Content
use Rattle.markdown_event.specs.declared.event.Name.{Name}
use Rattle.markdown_event.specs.declared.event.Name.TheVariants as N
use Rattle.markdown_content.specs.declared.label_kind.LabelKind.{LabelKind}
use Rattle.markdown_engine.specs.Operations.{Enter, EnterLink, Exit, applied, current_of, done}
use Rattle.markdown_engine.specs.declared.tokenizer.LabelStart as Kept
use Rattle.markdown_engine.specs.declared.tokenizer.Tokenizer.{Tokenizer}
use Rattle.markdown_label.specs.LabelEnd.{Ends, is_on}
use Rattle.markdown_partial.specs.PartialDestination.{enclosed_stops, raw_stops}
use Rattle.markdown_run_text.specs.PlacesPassed.{is_some_value, marker_ops, with_enter, with_exit}

-- Where one stands.

-- past the text behind the marker at the place, and past the code that ends it
abbrev pub past_between : List ℕ → Place → Place
past_between markers p = moved (past_stretch markers (moved p))

-- text stands behind the marker at the place, up to this code
abbrev pub stands_between : List ℕ → ℕ → Place → Bool
stands_between markers closer p = is_free markers (code_at (moved p)) && is_some_value closer (code_at (past_stretch markers (moved p)))

-- a destination in brackets may be at the place
abbrev pub begins_enclosed : Place → Bool
begins_enclosed p = is_some_value (byte "<") (code_at p)

abbrev pub destination_at : Place → Bool
destination_at p = if begins_enclosed p then stands_between enclosed_stops (byte ">") p else is_free raw_stops (code_at p)

abbrev pub past_destination : Place → Place
past_destination p = if begins_enclosed p then past_between enclosed_stops p else past_stretch raw_stops p

abbrev pub is_quote : ℕ → Bool
is_quote v = v == byte "\"" || v == byte "'"

-- at these bytes alone, line endings aside, a title that begins with this quote ends, or is not plain
abbrev pub title_stops : ℕ → List ℕ
title_stops quote = if quote == byte "\"" then codes "\"\\" else codes "'\\"

abbrev pub is_some_blank : Option ℕ → Bool
is_some_blank None = false
is_some_blank (Some v) = v == byte " " || v == byte "\t"

-- a title that begins with this code is at the place
abbrev pub quoted_at : Option ℕ → Place → Bool
quoted_at None p = false
quoted_at (Some v) p = is_quote v && stands_between (title_stops v) v p

abbrev pub past_quoted : Option ℕ → Place → Place
past_quoted None p = p
past_quoted (Some v) p = past_between (title_stops v) p

-- a space or a tab is at the place, and a title behind it
abbrev pub title_at : Place → Bool
title_at p = is_some_blank (code_at p) && quoted_at (code_at (moved p)) (moved p)

abbrev pub past_title : Place → Place
past_title p = past_quoted (code_at (moved p)) (moved p)

abbrev pub closes_at : Place → Bool
closes_at p = is_some_value (byte ")") (code_at p)

-- a `)` is at the place, or a title before one
abbrev pub tail_at : Place → Bool
tail_at p = closes_at p || (title_at p && closes_at (past_title p))

-- a plain destination is at the place, and behind it maybe a title, and a `)`
abbrev pub closes_behind : Place → Bool
closes_behind p = destination_at p && tail_at (past_destination p)

-- a `]` is at the place, and behind it a plain resource
abbrev pub plain_at : Place → Bool
plain_at p =
    is_some_value (byte "]") (code_at p) && (is_some_value (byte "(") (code_at (moved p)) && closes_behind (moved (moved p)))

-- an end makes a label of a start of this kind where a resource stands behind it, whatever is defined
abbrev pub takes_resource : LabelKind → Bool → Bool
takes_resource LabelKind.Image inactive = true
takes_resource LabelKind.GfmFootnote inactive = false
takes_resource LabelKind.Link inactive = not inactive
takes_resource LabelKind.GfmUndefinedFootnote inactive = not inactive

abbrev pub may_make : List Kept.LabelStart → Bool
may_make [] = false
may_make (l ∷ ls) = takes_resource l.kind l.inactive

-- ends are on, and one with a plain resource is at the place
abbrev pub plain_here : Tokenizer → Bool
plain_here T = is_on T && (may_make T.tokenize_state.label_starts && plain_at T.cursor)

-- How it is read.

-- past the text at the place that these bytes stop, with its events: a string under this name
abbrev pub text_read : Name → List ℕ → Tokenizer → Tokenizer
text_read name markers T =
    let U : Tokenizer = done (Enter name ∷ EnterLink N.Data Content.String ∷ []) T in
    done (Exit N.Data ∷ Exit name ∷ []) (record U { cursor = past_stretch markers U.cursor })

-- a code is at the place, and one behind the text that comes next
abbrev pub has_markers : List ℕ → Place → Bool
has_markers markers p = is_some (code_at p) && is_some (code_at (past_stretch markers (moved p)))

-- past a text and the markers around it, with its events under these names
abbrev pub between_read : Name → Name → Name → List ℕ → Tokenizer → Tokenizer
between_read whole marker text markers T =
    let U : Tokenizer = text_read text markers (done (Enter whole ∷ marker_ops marker) T) in
    done (marker_ops marker ++ Exit whole ∷ []) U

abbrev pub enclosed_read : Tokenizer → Tokenizer
enclosed_read T =
    between_read N.ResourceDestinationLiteral N.ResourceDestinationLiteralMarker N.ResourceDestinationString enclosed_stops T

abbrev pub raw_read : Tokenizer → Tokenizer
raw_read T =
    applied (Exit N.ResourceDestinationRaw) (text_read N.ResourceDestinationString raw_stops (applied (Enter N.ResourceDestinationRaw) T))

-- past the destination, with its events
abbrev pub destination_read : Tokenizer → Tokenizer
destination_read T =
    let U : Tokenizer = applied (Enter N.ResourceDestination) T in
    applied (Exit N.ResourceDestination) (if begins_enclosed T.cursor then enclosed_read U else raw_read U)

-- so past a title that begins with this code
abbrev pub quoted_read : Option ℕ → Tokenizer → Tokenizer
quoted_read None T = T
quoted_read (Some v) T = between_read N.ResourceTitle N.ResourceTitleMarker N.ResourceTitleString (title_stops v) T

-- past a space or a tab and the title behind it
abbrev pub title_read : Tokenizer → Tokenizer
title_read T = let U : Tokenizer = done (marker_ops N.SpaceOrTab) T in quoted_read (current_of U) U

-- past what stands behind the destination
abbrev pub tail_read : Tokenizer → Tokenizer
tail_read T = done (marker_ops N.ResourceMarker) (if closes_at T.cursor then T else title_read T)

-- past the resource
abbrev pub resource_read : Tokenizer → Tokenizer
resource_read T =
    with_exit N.Resource (tail_read (destination_read (done (marker_ops N.ResourceMarker) (with_enter N.Resource None (point_of T.cursor) T))))

-- either the end of a label is read, and U is T past the label that it makes; or U is T
abbrev pub EndsOrStays : Tokenizer → Bool → Tokenizer → Type 0
EndsOrStays T true U = Ends T U
EndsOrStays T false U = U ≡ T
