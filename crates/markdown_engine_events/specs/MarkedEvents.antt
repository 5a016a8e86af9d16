-- Events whose places are given apart from them.
use Rattle.std.specs.Prelude.{List, None, map, slice_index_or}
use Rattle.markdown_event.specs.declared.event.Event.{Event}
use Rattle.markdown_event.specs.declared.event.Kind.TheVariants as Kind
use Rattle.markdown_event.specs.declared.event.Name.{Name}
use Rattle.markdown_event.specs.declared.event.Point.{Point}
use Rattle.markdown_engine_events.specs.declared.util.edit_map.Mark.{Mark}

-- an event that says nothing but its place
abbrev pub bare_at : Point → Event
bare_at p = record { point = p; kind = Kind.Enter; name = Name.Data; link = None }

-- what stands for a place that is not given
abbrev pub nowhere : Point
nowhere = record { line = 0; column = 0; index = 0; vs = 0 }

-- the event of a mark
abbrev pub marked_at : List Point → Mark → Event
marked_at points m = record { point = slice_index_or points m.place nowhere; kind = m.kind; name = m.name; link = None }

-- the events of marks, in order
abbrev pub marked : List Point → List Mark → List Event
marked points marks = map (marked_at points) marks
