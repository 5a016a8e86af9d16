-- Events as a caller in C gets them.
use Rattle.std.specs.Prelude.{ℕ, List, map, min, Option, None, Some}
use Rattle.markdown_event.specs.EventNames.{name_number}
use Rattle.markdown_event.specs.declared.event.Content.{Content}
use Rattle.markdown_event.specs.declared.event.Event.{Event}
use Rattle.markdown_event.specs.declared.event.Kind.{Kind}
use Rattle.markdown_event.specs.declared.event.Link.{Link}
use Rattle.markdown_model.specs.InlineTree.{string_events, text_events}
use Rattle.markdown_inline_c.specs.FlatInput.{pieces_of, string_setting, text_setting}
use Rattle.markdown_inline_c.specs.declared.flat.FlatEvent.{FlatEvent}
use Rattle.markdown_inline_c.specs.declared.flat.Input.{Input}
use Rattle.markdown_inline_c.specs.declared.flat.ShortEvent.{ShortEvent}

-- the number of an event, or the highest number where there is none
abbrev pub number_or_max : Option ℕ → ℕ
number_or_max None = 18446744073709551615
number_or_max (Some n) = n

abbrev pub kind_number : Kind → ℕ
kind_number Kind.Enter = 0
kind_number Kind.Exit = 1

abbrev pub link_number : Content → ℕ
link_number Content.String = 1
link_number Content.Text = 2

-- the event with the numbers of a link, if there is one
abbrev pub linked : FlatEvent → Option Link → FlatEvent
linked e None = e
linked e (Some l) = record e { link = link_number l.content; previous = number_or_max l.previous; next = number_or_max l.next }

abbrev pub flat_event : Event → FlatEvent
flat_event e = linked (record {
  kind = kind_number e.kind;
  name = name_number e.name;
  link = 0;
  line = e.point.line;
  column = e.point.column;
  index = e.point.index;
  vs = e.point.vs;
  previous = 18446744073709551615;
  next = 18446744073709551615;
}) e.link

-- The events of the tree of an input's pieces.

-- as a string
abbrev pub string_events_of : Input → List FlatEvent
string_events_of i = map flat_event (string_events (string_setting i) (pieces_of i.pieces.now))

-- as a text
abbrev pub text_events_of : Input → List FlatEvent
text_events_of i = map flat_event (text_events (text_setting i) (pieces_of i.pieces.now))

-- Short events.

abbrev pub linked_as : Option Link → ℕ
linked_as None = 0
linked_as (Some l) = link_number l.content

-- the number that an event tells, or the highest number of 32 bits where it tells none; that stands for those that are higher too
abbrev pub told_number : Option ℕ → ℕ
told_number None = 4294967295
told_number (Some n) = min n 4294967295

-- the event in 16 bytes, where it tells this number: of a definition or a footnote that it refers to, or of the character that it stands for
abbrev pub short_event : Option ℕ → Event → ShortEvent
short_event told e = record {
  kind = kind_number e.kind;
  name = name_number e.name;
  link = linked_as e.link;
  vs = min e.point.vs 255;
  definition = told_number told;
  index = e.point.index;
}

-- the same event, which tells this number
abbrev pub telling : ℕ → ShortEvent → ShortEvent
telling number e = record e { definition = told_number (Some number) }
