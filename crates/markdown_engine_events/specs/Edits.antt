-- Edits of a list of events, applied at once: each place is counted in the list before any edit.
use Rattle.std.specs.Prelude.{max, sum_by, ◌≡◌, ℕ, zero, suc, ◌+◌, ◌-◌, ◌≤◌, ◌==◌, ◌||◌, ◌&&◌, not, nat_lt, nat_le, Bool, true, false, List, [], ◌∷◌, ◌++◌, length, take, drop, map, if◌then◌else◌}
use Rattle.std.specs.List.{All}
use Rattle.std.specs.List.Sorted.{IsNonDecreasingBy}
use Rattle.std.specs.Option.{option_map}
use Rattle.markdown_event.specs.declared.event.Event.{Event}
use Rattle.markdown_engine_events.specs.declared.util.edit_map.Edit.{Edit}
use Rattle.markdown_engine_events.specs.declared.util.edit_map.Entry.{Entry}
use Rattle.markdown_engine_events.specs.declared.util.edit_map.Kept.{Kept}
use Rattle.markdown_engine_events.specs.EventChains.{with_previous, previous_of, has_link, linked_at, IsUnlinked}

-- What the edits collect at a place.

-- how many events go, from place i on: the counts of the edits there add up
abbrev pub removed_at : ℕ → List Edit → ℕ
removed_at i [] = 0
removed_at i (e ∷ log) = (if e.at == i then e.remove else 0) + removed_at i log

-- the events that edits put before those already there: those of the last edit stand first
abbrev pub front_at : ℕ → List Edit → List Event
front_at i [] = []
front_at i (e ∷ log) = front_at i log ++ (if e.at == i && e.before then e.events else [])

-- the events that edits put behind those already there: those of the last edit stand last
abbrev pub back_at : ℕ → List Edit → List Event
back_at i [] = []
back_at i (e ∷ log) = (if e.at == i && not e.before then e.events else []) ++ back_at i log

-- the events that come at place i
abbrev pub added_at : ℕ → List Edit → List Event
added_at i log = front_at i log ++ back_at i log

-- Where an event stands afterwards.

-- whether a place up to p removes event j
abbrev pub removed_by : List Edit → ℕ → ℕ → Bool
removed_by log j zero = nat_lt j (removed_at 0 log)
removed_by log j (suc p) = nat_lt j (suc p + removed_at (suc p) log) || removed_by log j p

-- whether event j goes: it stands in the range that a place at or before it removes
abbrev pub is_removed : List Edit → ℕ → Bool
is_removed log j = removed_by log j j

-- how many events come at places up to i
abbrev pub added_up_to : List Edit → ℕ → ℕ
added_up_to [] i = 0
added_up_to (e ∷ log) i = (if nat_le e.at i then length e.events else 0) + added_up_to log i

-- how many events before event i go
abbrev pub removed_before : List Edit → ℕ → ℕ
removed_before log zero = 0
removed_before log (suc i) = removed_before log i + (if is_removed log i then 1 else 0)

-- the number of event i afterwards
abbrev pub moved_number : List Edit → ℕ → ℕ
moved_number log i = i + added_up_to log i - removed_before log i

-- The list afterwards.

-- an event that stays: its link follows the event that it names
abbrev pub moved : List Edit → Event → Event
moved log e = with_previous (option_map (moved_number log) (previous_of e)) e

-- the events from place i on: at each place first those that come there, and then the event that
-- stood there, unless it goes
abbrev pub edited_from : List Edit → ℕ → List Event → List Event
edited_from log i [] = added_at i log
edited_from log i (e ∷ es) = added_at i log ++ ((if is_removed log i then [] else moved log e ∷ []) ++ edited_from log (suc i) es)

-- the list after all edits
abbrev pub edited : List Edit → List Event → List Event
edited log es = edited_from log 0 es

-- the events that come carry no link
abbrev pub AddsUnlinked : List Edit → Type 0
AddsUnlinked log = All (λ e. All IsUnlinked e.events) log

-- when edits can be applied to a list: each place is in the list or at its end, and no event that
-- goes carries a link
pub record CanEdit (log : List Edit) (es : List Event) : Type 0 where
  pub places : All (λ e. e.at ≤ length es) log
  pub unlinked : (j : ℕ) → is_removed log j ≡ true → linked_at es j ≡ false

-- How one walk applies them.

-- the edit that an entry keeps: its events stand from a place to a place in the list of all that come
abbrev pub edit_of : List Event → Entry → Edit
edit_of comes e = record { at = e.at; remove = e.remove; events = take (e.to - e.from) (drop e.from comes); before = e.before }

-- the edits that entries keep
abbrev pub kept : List Event → List Entry → List Edit
kept comes entries = map (edit_of comes) entries

abbrev pub edits_of : Kept → List Edit
edits_of k = kept k.comes.now k.entries.now

-- the events that each entry brings stand in the list, and none of the list carries a link
pub record AreBrought (comes : List Event) (entries : List Entry) : Type 0 where
  pub order : All (λ e. e.from ≤ e.to) entries
  pub within : All (λ e. e.to ≤ length comes) entries
  pub unlinked : All IsUnlinked comes

-- what is kept of edits: each brings events that stand behind those of the edits before it
pub record AreKept (comes : List Event) (entries : List Entry) : Type 0 where
  pub brought : AreBrought comes entries
  pub rises : IsNonDecreasingBy (λ e. e.to) entries

-- edits in the order of their places, none below n, each behind what those before it remove, and within a list of so many
-- events
abbrev pub StandApart : ℕ → ℕ → List Edit → Type 0
StandApart n count [] = Unit {0}
StandApart n count (e ∷ log) = (n ≤ e.at) × ((e.at + e.remove ≤ count) × StandApart (e.at + max 1 e.remove) count log)

-- each brings at least as many events as it removes; how many they bring together beyond what they remove
abbrev pub AreGrowing : List Edit → Type 0
AreGrowing log = All (λ e. e.remove ≤ length e.events) log

abbrev pub grown : List Edit → ℕ
grown log = sum_by (λ e. length e.events - e.remove) log

-- edits in the order of their places, none below n, which collect at each place from n on what the log collects there
pub record IsRest (n : ℕ) (log rest : List Edit) : Type 0 where
  pub ahead : All (λ e. n ≤ e.at) rest
  pub rises : IsNonDecreasingBy (λ e. e.at) rest
  pub plain : AddsUnlinked rest
  pub added : (i : ℕ) → n ≤ i → added_at i rest ≡ added_at i log
  pub removed : (i : ℕ) → n ≤ i → removed_at i rest ≡ removed_at i log

-- the number noted for event p, the newest note first; p itself if there is none
abbrev pub number_of : List (ℕ × ℕ) → ℕ → ℕ
number_of [] p = p
number_of (note ∷ notes) p = if note.0 == p then note.1 else number_of notes p

-- an event with the number of the event before on its chain looked up
abbrev pub renumbered : List (ℕ × ℕ) → Event → Event
renumbered notes e = with_previous (option_map (number_of notes) (previous_of e)) e

-- notes, with that of event i, which becomes number n, if it carries a link
abbrev pub noted : Event → ℕ → ℕ → List (ℕ × ℕ) → List (ℕ × ℕ)
noted e i n notes = if has_link e.link then (i, n) ∷ notes else notes
