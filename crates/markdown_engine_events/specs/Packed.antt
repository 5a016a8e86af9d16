-- Events in fewer bytes, and the events that they stand for.
use Rattle.std.specs.Prelude.{ℕ, suc, map, ◌+◌, ◌-◌, Bool, true, false, List, [], ◌∷◌, Option, Some, None}
use Rattle.markdown_event.specs.declared.event.Event.{Event}
use Rattle.markdown_event.specs.declared.event.Kind.{Kind}
use Rattle.markdown_event.specs.declared.event.Kind.TheVariants.{Enter, Exit}
use Rattle.markdown_event.specs.declared.event.Link.{Link}
use Rattle.markdown_event.specs.declared.event.Content.{Content}
use Rattle.markdown_event.specs.declared.event.Content.TheVariants.{String, Text}
use Rattle.markdown_engine_events.specs.declared.packed.Packed.{Packed}
use Rattle.markdown_engine_events.specs.declared.packed.Shape.{Shape}
use Rattle.markdown_engine_events.specs.declared.packed.Shape.TheVariants.{Exit as ShapeExit, Enter as ShapeEnter, EnterString, EnterText}
use Rattle.markdown_engine_events.specs.declared.packed.Chain.{Chain}
use Rattle.markdown_engine_events.specs.declared.packed.Chain.TheVariants.{Alone, First, Inner, Last}

abbrev pub kind_of : Shape → Kind
kind_of ShapeExit = Exit
kind_of ShapeEnter = Enter
kind_of EnterString = Enter
kind_of EnterText = Enter

-- how the content of what carries a link is to be read
abbrev pub content_of : Shape → Option Content
content_of ShapeExit = None
content_of ShapeEnter = None
content_of EnterString = Some String
content_of EnterText = Some Text

-- the number of the event two places before that of number n, if there is one on its chain
abbrev pub previous_if : Bool → ℕ → Option ℕ
previous_if false n = None
previous_if true n = Some (n - 2)

-- and of the one two places behind
abbrev pub next_if : Bool → ℕ → Option ℕ
next_if false n = None
next_if true n = Some (n + 2)

abbrev pub previous_kept : Chain → ℕ → Option ℕ
previous_kept Alone n = previous_if false n
previous_kept First n = previous_if false n
previous_kept Inner n = previous_if true n
previous_kept Last n = previous_if true n

abbrev pub next_kept : Chain → ℕ → Option ℕ
next_kept Alone n = next_if false n
next_kept First n = next_if true n
next_kept Inner n = next_if true n
next_kept Last n = next_if false n

-- a link to these events, where there is one
abbrev pub link_kept : Option Content → Option ℕ → Option ℕ → Option Link
link_kept None previous next = None
link_kept (Some content) previous next = Some (record { previous = previous; next = next; content = content })

-- the parts of a link
abbrev pub content_in : Option Link → Option Content
content_in None = None
content_in (Some l) = Some l.content

abbrev pub link_next : Option Link → Option ℕ
link_next None = None
link_next (Some l) = l.next

-- the event of number n, which stands packed
abbrev pub unpacked : ℕ → Packed → Event
unpacked n p = record {
  point = record { line = p.line; column = p.column; index = p.index; vs = p.vs };
  kind = kind_of p.shape;
  name = p.name;
  link = link_kept (content_of p.shape) (previous_kept p.chain n) (next_kept p.chain n);
}

-- the events that stand packed; the first of them has number n
abbrev pub unpacked_from : ℕ → List Packed → List Event
unpacked_from n [] = []
unpacked_from n (p ∷ ps) = unpacked n p ∷ unpacked_from (suc n) ps

-- the events that stand packed where none of them is linked to another: each stands for the same whatever its number is
abbrev pub all_unpacked : List Packed → List Event
all_unpacked ps = map (unpacked 0) ps
