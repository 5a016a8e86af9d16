-- What readers pass, and how they see where it ends.
use Rattle.std.specs.Prelude.{ℕ, ◌+◌, Bool, true, false, ◌&&◌, ◌||◌, not, ◌==◌, if◌then◌else◌, List, [], ◌∷◌, ◌++◌, Option, Some, None, codes, is_none}
use Rattle.std.specs.List.{list_any}
use Rattle.std.specs.Str.{byte}
use Rattle.markdown_content.specs.Codes.{Code}
use Rattle.markdown_content.specs.Place.{Place, ahead_at, code_at, code_before, moved}
use Rattle.markdown_event.specs.declared.event.Content.{Content}
use Rattle.markdown_event.specs.declared.event.Kind.TheVariants as Kind
use Rattle.markdown_event.specs.declared.event.Link.{Link}
use Rattle.markdown_event.specs.declared.event.Name.{Name}
use Rattle.markdown_event.specs.declared.event.Name.TheVariants as N
use Rattle.markdown_event.specs.declared.event.Point.{Point}
use Rattle.markdown_engine.specs.Operations.{Op, Enter, Exit, Consume, current_of, done, exit_event, exited, link_back}
use Rattle.markdown_engine.specs.PastTree.{moved_by}
use Rattle.markdown_engine.specs.declared.tokenizer.Tokenizer.{Tokenizer}
use Rattle.markdown_label.specs.LabelStarts.{footnotes_on, images_on, links_on}
use Rattle.markdown_leaf.specs.CharacterEscape.{is_on, is_punctuation}
use Rattle.markdown_model.specs.CodeTests.{is_between, is_value}
use Rattle.markdown_model.specs.GfmAutolinkLiteral.{letters, literal_words}
use Rattle.markdown_model.specs.Grammar.{span, until}
use Rattle.markdown_partial.specs.PartialData.{ending, opening, ends_stretch, is_some_mark}
use Rattle.markdown_plan.specs.ByteTests.{alphanumeric_value}
use Rattle.markdown_run_text.specs.TextStops.{reader_stops, text_stops}
use Rattle.markdown_run_text.specs.TextContent.{plain_markers}

-- Runs and escapes.

abbrev pub is_some_value : ℕ → Option ℕ → Bool
is_some_value n None = false
is_some_value n (Some v) = v == n

-- past the codes at the place with this value
abbrev pub past_run : ℕ → Place → Place
past_run marker p = moved_by (span (is_value marker) (ahead_at p)).0 p

abbrev pub is_some_punctuation : Option ℕ → Bool
is_some_punctuation None = false
is_some_punctuation (Some c) = is_punctuation c

-- a backslash is at the place, and behind it punctuation
abbrev pub begins_escape : Place → Bool
begins_escape p = is_some_mark (codes "\\") (code_at p) && is_some_punctuation (code_at (moved p))

-- escapes are on, and one is at the place
abbrev pub escapes_here : Tokenizer → Bool
escapes_here T = is_on T && begins_escape T.cursor

-- Starts of links and images.

-- starts of links are on, and one is at the place
abbrev pub link_here : Tokenizer → Bool
link_here T = links_on T && is_some_value (byte "[") (code_at T.cursor)

-- a `![` is at the place
abbrev pub bang_at : Place → Bool
bang_at p = is_some_value (byte "!") (code_at p) && is_some_value (byte "[") (code_at (moved p))

-- footnote calls are on, and behind the two codes at the place a caret stands
abbrev pub calls_here : Tokenizer → Bool
calls_here T = footnotes_on T && is_some_value (byte "^") (code_at (moved (moved T.cursor)))

-- starts of images are on, and one is at the place
abbrev pub image_here : Tokenizer → Bool
image_here T = images_on T && (bang_at T.cursor && not (calls_here T))

-- Data.

-- past data of the line at hand
abbrev pub past_data : Bool → Place → Place
past_data literals p = moved_by (until (ends_stretch (text_stops literals)) (ahead_at p)).0 p

-- a code is at hand, and data does not stop there
abbrev pub goes_on : Bool → List Code → Bool
goes_on literals [] = false
goes_on literals (c ∷ cs) = not (text_stops literals (c ∷ cs))

-- an ASCII letter or digit
abbrev pub is_some_alphanumeric : Option ℕ → Bool
is_some_alphanumeric None = false
is_some_alphanumeric (Some v) = alphanumeric_value v

-- past data of the line at hand, and past inner underscores
abbrev pub past_inner : Bool → Place → Place
past_inner literals p = moved_by (until (ends_stretch (reader_stops p.codes literals)) (ahead_at p)).0 p

-- where these codes of a content are left, one is at hand, and the reader of data does not stop there
abbrev pub goes_past : List Code → Bool → List Code → Bool
goes_past whole literals [] = false
goes_past whole literals (c ∷ cs) = not (reader_stops whole literals (c ∷ cs))

-- a code is at the place that is no line ending, and data does not stop there
abbrev pub goes_in_line : Place → Bool
goes_in_line p = not (is_some_mark (codes "\n") (code_at p)) && goes_on true (ahead_at p)

-- a code of a word of literals: the letter that is given in lower case, in either case, or the other byte that is given
abbrev pub letter_is : ℕ → ℕ → Bool
letter_is letter v = v == letter || ((is_between (byte "A") (byte "Z") v || is_between (byte "a") (byte "z") v) && v + 32 == letter)

abbrev pub is_some_letter : ℕ → Option ℕ → Bool
is_some_letter letter None = false
is_some_letter letter (Some v) = letter_is letter v

-- the word stands at the place, its letters in either case
abbrev pub is_word : List ℕ → Place → Bool
is_word word p = not (is_none (letters word (ahead_at p)))

-- one of these words stands at the place
abbrev pub one_stands : List (List ℕ) → Place → Bool
one_stands [] p = false
one_stands (word ∷ words) p = is_word word p || one_stands words p

-- a word may begin with these two codes
abbrev pub begins_as : List ℕ → Option ℕ → Option ℕ → Bool
begins_as [] first second = true
begins_as (n ∷ []) first second = is_some_letter n first
begins_as (n ∷ m ∷ ns) first second = is_some_letter n first && is_some_letter m second

-- a word of literals may begin with the code at the place and the one behind it
abbrev pub may_begin : Place → Bool
may_begin p = list_any (λ word. begins_as word (code_at p) (code_at (moved p))) literal_words

-- the signs that words of literals hold behind their letters
abbrev pub signs : List ℕ
signs = codes ".:"

-- where data may stop, and signs
abbrev pub markers_and_signs : List ℕ
markers_and_signs = plain_markers ++ signs

-- where data of a line may stop, as far as the code at hand tells; and signs where literals are on
abbrev pub line_stops : Bool → List ℕ
line_stops literals = if literals then markers_and_signs else plain_markers

-- a sign that a word of literals may hold: a `.` behind a `w`, or a `:` before a `/`
abbrev pub holds_sign : Option ℕ → Option ℕ → Option ℕ → Bool
holds_sign before None next = false
holds_sign before (Some v) next =
    if v == byte "." then is_some_mark (codes "Ww") before else (v == byte ":" && is_some_mark (codes "/") next)

abbrev pub sign_at : Place → Bool
sign_at p = holds_sign (code_before p) (code_at p) (code_at (moved p))

-- with an Enter at this point, and with an Exit where the code before the place ends
abbrev pub with_enter : Name → Option Link → Point → Tokenizer → Tokenizer
with_enter n link p T = record T { events = T.events ++ record { kind = Kind.Enter; name = n; point = p; link = link } ∷ [] }

abbrev pub with_exit : Name → Tokenizer → Tokenizer
with_exit n T = record T { events = T.events ++ exit_event n T ∷ [] }

-- with the events of a leaf from this point to where the code before the place ends
abbrev pub with_leaf : Name → Point → Tokenizer → Tokenizer
with_leaf n from T = with_exit n (with_enter n None from T)

-- so with those of data that is linked as a string, the first of its chain
abbrev pub with_string : Point → Tokenizer → Tokenizer
with_string from T = with_exit N.Data (with_enter N.Data (Some (link_back None Content.String)) from T)

-- past a code, a leaf of this name
abbrev pub marker_ops : Name → List Op
marker_ops n = Enter n ∷ Consume ∷ Exit n ∷ []

-- past a code, a node of this name that has a leaf of that name alone
abbrev pub marker_in_ops : Name → Name → List Op
marker_in_ops whole marker = Enter whole ∷ Enter marker ∷ Consume ∷ Exit marker ∷ Exit whole ∷ []

-- past data of one line from the code at hand on, with its events
abbrev pub data_read : Bool → Tokenizer → Tokenizer
data_read literals T = let U : Tokenizer = done opening T in exited N.Data (record U { cursor = past_inner literals U.cursor })

-- past the line ending at hand, or data of one line
abbrev pub line_read : Bool → Tokenizer → Tokenizer
line_read literals T = if is_some_mark (codes "\n") (current_of T) then done ending T else data_read literals T
