-- Short events as a caller in C gets them, with the definitions that they refer to and the characters that they stand for.
use Rattle.std.specs.Prelude.{◌≡◌, ◌≢◌, ◌<◌, ◌≤◌, ℕ, suc, Bool, true, false, List, [], ◌∷◌, ◌++◌, Option, None, Some, drop, map, slice_get, slice_index}
use Rattle.std.specs.Option.{option_and_then, option_or}
use Rattle.std.specs.Str.{byte}
use Rattle.markdown_content.specs.CommonMark.{rules_of}
use Rattle.markdown_html_model.specs.Resolved.{decoding_of}
use Rattle.markdown_util.specs.declared.decoding.Decoding.{Decoding}
use Rattle.markdown_tree.specs.Referred.{Given, met}
use Rattle.markdown_engine_events.specs.EventChains.{changed_at}
use Rattle.markdown_event.specs.declared.event.Event.{Event}
use Rattle.markdown_event.specs.declared.event.Kind.{Kind}
use Rattle.markdown_event.specs.declared.event.Name.{Name}
use Rattle.markdown_model.specs.Setting.{Setting}
use Rattle.markdown_inline_c.specs.FlatEvents.{telling, short_event}
use Rattle.markdown_inline_c.specs.References.{character_ahead}
use Rattle.markdown_inline_c.specs.declared.flat.ShortEvent.{ShortEvent}

-- the document, the content and the definitions, by the setting with which it is read
abbrev pub given_by : Setting → Given
given_by s = record {
  bytes = s.bytes;
  content = s.content;
  rules = rules_of s.options;
  footnotes_on = s.options.constructs.gfm_label_start_footnote;
  definitions = s.definitions;
  footnotes = s.footnotes;
}

-- where a character reference begins, the code point of the character that it stands for; none where it stands for several (CommonMark 2.5)
abbrev pub character_by : Decoding → List ℕ → Kind → Name → ℕ → Option ℕ
character_by how bytes Kind.Enter Name.CharacterReference index = character_ahead how (drop index bytes)
character_by how bytes kind name index = None

abbrev pub character_of : Decoding → List ℕ → Event → Option ℕ
character_of how bytes e = character_by how bytes e.kind e.name e.point.index

-- What the event of a number tells, by its name: links, images and footnote calls the number of the definition that they refer to, and character references
-- the code point of the character that they stand for. No event tells both.
abbrev pub told : Given → Decoding → List Event → ℕ → Option ℕ
told g how es n = option_or (met g es n) (option_and_then (character_of how g.bytes) (slice_get es n))

-- these events, of which the first has this number, with what each tells by its number
abbrev pub short_from : (ℕ → Option ℕ) → ℕ → List Event → List ShortEvent
short_from told n [] = []
short_from told n (e ∷ es) = short_event (told n) e ∷ short_from told (suc n) es

-- the events of a content, read with this setting
abbrev pub short_events : Setting → List Event → List ShortEvent
short_events s es = short_from (told (given_by s) (decoding_of s.options) es) 0 es

-- What functions promise each other.

abbrev pub may_tell_by : Name → Bool
may_tell_by Name.Link = true
may_tell_by Name.Image = true
may_tell_by Name.GfmFootnoteCall = true
may_tell_by Name.CharacterReference = true
may_tell_by name = false

abbrev pub may_tell_where : Kind → Name → Bool
may_tell_where Kind.Enter name = may_tell_by name
may_tell_where Kind.Exit name = false

-- whether an event may tell something: a link, an image, a footnote call or a character reference begins
abbrev pub may_tell : Event → Bool
may_tell e = may_tell_where e.kind e.name

-- no event from a number on, before another, may tell anything
abbrev pub TellNothing : List Event → ℕ → ℕ → Type 0
TellNothing es from to = (n : ℕ) (e : Event) → from ≤ n → n < to → slice_get es n ≡ Some e → may_tell e ≡ false

-- these events, after each of these pairs is noted: the number of an event, and what it tells
abbrev pub noted : List (ℕ × ℕ) → List ShortEvent → List ShortEvent
noted [] events = events
noted (pair ∷ more) events = noted more (changed_at (telling pair.1) pair.0 events)

-- these are the pairs by which short events that tell nothing tell what those of a content do
abbrev pub AreAllTold : (ℕ → Option ℕ) → List Event → List (ℕ × ℕ) → Type 0
AreAllTold told events found = noted found (map (short_event None) events) ≡ short_from told 0 events

-- these pairs, and behind them that of an event, if it tells something
abbrev pub with_told : ℕ → Option ℕ → List (ℕ × ℕ) → List (ℕ × ℕ)
with_told number None found = found
with_told number (Some told) found = found ++ (number, told) ∷ []

-- no reference that stands for one character begins anywhere in these bytes
abbrev pub LacksCharacters : Decoding → List ℕ → Type 0
LacksCharacters how bytes = (i : ℕ) → character_ahead how (drop i bytes) ≡ None

-- no `&` stands in these bytes from an index on, before another
abbrev pub LacksSign : List ℕ → ℕ → ℕ → Type 0
LacksSign bytes from to = (i : ℕ) → from ≤ i → i < to → slice_index bytes i ≢ byte "&"

-- there are no definitions and no footnotes
pub record HasNone (g : Given) : Type 0 where
  pub definitions : g.definitions ≡ []
  pub footnotes : g.footnotes ≡ []
