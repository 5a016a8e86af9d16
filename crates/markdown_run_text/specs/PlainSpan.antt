-- Spans of code and math whose text is a single stretch: on one line, and without the marker.
use Rattle.std.specs.Prelude.{ℕ, Bool, ◌&&◌, ◌||◌, not, ◌==◌, if◌then◌else◌, ◌++◌, ◌∷◌, [], None}
use Rattle.std.specs.Str.{byte}
use Rattle.markdown_content.specs.Codes.{Code, is_line_ending}
use Rattle.markdown_content.specs.Place.{Place, ahead_at, code_at, moved}
use Rattle.markdown_event.specs.declared.event.Kind.TheVariants as Kind
use Rattle.markdown_event.specs.declared.event.Name.{Name}
use Rattle.markdown_event.specs.declared.event.Point.{Point}
use Rattle.markdown_engine.specs.PastTree.{moved_by}
use Rattle.markdown_engine.specs.declared.tokenizer.Tokenizer.{Tokenizer}
use Rattle.markdown_leaf.specs.RawText.{code_is_on, is_barred, math_is_on, single_dollar}
use Rattle.markdown_model.specs.CodeTests.{is_value}
use Rattle.markdown_model.specs.Grammar.{span}
use Rattle.markdown_model.specs.LeafConstructs.{SpanNames, code_names, math_names}
use Rattle.markdown_run_text.specs.PlacesPassed.{is_some_value, with_enter, with_exit}

-- Where one stands.

-- the marker is at hand, spans of it are on, and the opening run is long enough
abbrev pub opens_span : ℕ → Tokenizer → Bool
opens_span marker T =
    if marker == byte "`" then code_is_on T
    else (marker == byte "$" && (math_is_on T && (single_dollar T || is_some_value (byte "$") (code_at (moved T.cursor)))))

-- besides, nothing bars it
abbrev pub begins_span : ℕ → Tokenizer → Bool
begins_span marker T = opens_span marker T && not (is_barred marker T)

-- a code of the text
abbrev pub is_text : ℕ → Code → Bool
is_text marker c = not (is_line_ending c || is_value marker c)

-- past the text at the place
abbrev pub past_span_text : ℕ → Place → Place
past_span_text marker p = moved_by (span (is_text marker) (ahead_at p)).0 p

-- How it is read.

abbrev pub names_for : ℕ → SpanNames
names_for marker = if marker == byte "`" then code_names else math_names

-- with an Exit at this point
abbrev pub with_exit_at : Name → Point → Tokenizer → Tokenizer
with_exit_at n p T = record T { events = T.events ++ record { kind = Kind.Exit; name = n; point = p; link = None } ∷ [] }

-- with the events of a span from the first point to the place, whose text stands between the others
abbrev pub with_span : SpanNames → Point → Point → Point → Tokenizer → Tokenizer
with_span names start from to T =
    let opened : Tokenizer = with_exit_at names.sequence from (with_enter names.sequence None start (with_enter names.whole None start T)) in
    let inside : Tokenizer = with_exit_at names.text to (with_enter names.text None from opened) in
    with_exit names.whole (with_exit names.sequence (with_enter names.sequence None to inside))
