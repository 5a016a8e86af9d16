-- Edits in the order of their places: events that come, go and stay.
use Rattle.std.specs.Prelude.{◌≡◌, ℕ, suc, ◌+◌, List, [], ◌∷◌, ◌++◌, length, None, false}
use Rattle.markdown_engine_events.specs.Edits.{added_at, back_at, removed_at}
use Rattle.markdown_engine.specs.PastTree.{appended_from}
use Rattle.markdown_content.specs.Tree.{Forest, event_count, event}
use Rattle.markdown_event.specs.declared.event.Event.{Event}
use Rattle.markdown_event.specs.declared.event.Kind.{Kind}
use Rattle.markdown_event.specs.declared.event.Name.{Name}
use Rattle.markdown_event.specs.declared.event.Point.{Point}
use Rattle.markdown_engine_events.specs.declared.util.edit_map.Edit.{Edit}

-- events that come; at least one event, which go; siblings that stay, whose first linked one is linked to none before it; one event that stays
pub data EditPart : Type 0 where
  comes : List Event → EditPart
  goes : Event → List Event → EditPart
  stays : Forest → EditPart
  keeps : Kind → Name → Point → EditPart

-- the events before the edits, of which the first has this number
abbrev pub before_from : ℕ → List EditPart → List Event
before_from n [] = []
before_from n (comes es ∷ parts) = before_from n parts
before_from n (goes e es ∷ parts) = (e ∷ es) ++ before_from (n + suc (length es)) parts
before_from n (stays t ∷ parts) = appended_from n None t ++ before_from (n + event_count t) parts
before_from n (keeps kind name p ∷ parts) = event kind name p ∷ before_from (n + 1) parts

-- the events after the edits
abbrev pub after_from : ℕ → List EditPart → List Event
after_from m [] = []
after_from m (comes es ∷ parts) = es ++ after_from (m + length es) parts
after_from m (goes e es ∷ parts) = after_from m parts
after_from m (stays t ∷ parts) = appended_from m None t ++ after_from (m + event_count t) parts
after_from m (keeps kind name p ∷ parts) = event kind name p ∷ after_from (m + 1) parts

abbrev pub coming : ℕ → List Event → Edit
coming n es = record { at = n; remove = 0; events = es; before = false }

abbrev pub going : ℕ → ℕ → Edit
going n k = record { at = n; remove = k; events = []; before = false }

-- the edits
abbrev pub edits_from : ℕ → List EditPart → List Edit
edits_from n [] = []
edits_from n (comes es ∷ parts) = coming n es ∷ edits_from n parts
edits_from n (goes e es ∷ parts) = going n (suc (length es)) ∷ edits_from (n + suc (length es)) parts
edits_from n (stays t ∷ parts) = edits_from (n + event_count t) parts
edits_from n (keeps kind name p ∷ parts) = edits_from (n + 1) parts

-- these edits, in whatever order they were asked for, do at each place what the parts say
pub record Does (log : List Edit) (parts : List EditPart) : Type 0 where
  pub added : (i : ℕ) → added_at i log ≡ back_at i (edits_from 0 parts)
  pub removed : (i : ℕ) → removed_at i log ≡ removed_at i (edits_from 0 parts)

abbrev pub AreUnlinked : List Event → Type 0
AreUnlinked [] = Unit {0}
AreUnlinked (e ∷ es) = (e.link ≡ None) × AreUnlinked es

-- no event that goes carries a link
abbrev pub GoUnlinked : List EditPart → Type 0
GoUnlinked [] = Unit {0}
GoUnlinked (comes es ∷ parts) = GoUnlinked parts
GoUnlinked (goes e es ∷ parts) = AreUnlinked (e ∷ es) × GoUnlinked parts
GoUnlinked (stays t ∷ parts) = GoUnlinked parts
GoUnlinked (keeps kind name p ∷ parts) = GoUnlinked parts
