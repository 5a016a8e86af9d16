-- The events of a list, in each of the forms in which they stand.
use Rattle.std.specs.Prelude.{List}
use Rattle.markdown_event.specs.declared.event.Event.{Event}
use Rattle.markdown_engine_events.specs.declared.event_list.Lent.{Lent}
use Rattle.markdown_engine_events.specs.declared.event_list.Lent.TheVariants.{Packed as LentPacked, Whole as LentWhole}
use Rattle.markdown_engine_events.specs.declared.event_list.Stored.{Stored}
use Rattle.markdown_engine_events.specs.declared.event_list.Stored.TheVariants.{Packed, Whole}

abbrev pub stored_events : Stored → List Event
stored_events (Packed events) = events
stored_events (Whole events) = events

abbrev pub lent_events : Lent → List Event
lent_events (LentPacked events) = events
lent_events (LentWhole events) = events.now
