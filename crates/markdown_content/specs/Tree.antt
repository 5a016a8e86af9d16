-- Trees of the inline layer, and their events.
use Rattle.std.specs.Prelude.{ℕ, ◌+◌, List, [], ◌∷◌, ◌++◌, Option, Some, None}
use Rattle.markdown_event.specs.declared.event.Point.{Point}
use Rattle.markdown_event.specs.declared.event.Name.{Name}
use Rattle.markdown_event.specs.declared.event.Content.{Content}
use Rattle.markdown_event.specs.declared.event.Event.{Event}
use Rattle.markdown_event.specs.declared.event.Kind.{Kind}
use Rattle.markdown_content.specs.Codes.{Code, stop_of, document_start}

-- Sibling trees. A leaf covers codes, and may be linked with the other linked leaves among its siblings.
-- A group has its two places, the trees inside it and its further siblings.
pub data Forest : Type 0 where
  empty : Forest
  leaf_then : Name → Option Content → List Code → Forest → Forest
  group_then : Name → Point → Point → Forest → Forest → Forest

infixr 60 ◌⊕◌
abbrev pub ◌⊕◌ : Forest → Forest → Forest
empty ⊕ after = after
leaf_then name link codes rest ⊕ after = leaf_then name link codes (rest ⊕ after)
group_then name enter exit inside rest ⊕ after = group_then name enter exit inside (rest ⊕ after)

abbrev pub start_of : List Code → Point
start_of [] = document_start
start_of (c ∷ cs) = c.start

-- where siblings begin and end
abbrev pub enter_of : Forest → Point
enter_of empty = document_start
enter_of (leaf_then name link codes rest) = start_of codes
enter_of (group_then name enter exit inside rest) = enter

abbrev pub exit_after : Point → Forest → Point
exit_after p empty = p
exit_after p (leaf_then name link codes rest) = exit_after (stop_of p codes) rest
exit_after p (group_then name enter exit inside rest) = exit_after exit rest

-- a leaf over these codes; none where there are none
abbrev pub leaf : Name → List Code → Forest
leaf name [] = empty
leaf name (c ∷ cs) = leaf_then name None (c ∷ cs) empty

abbrev pub linked : Name → List Code → Forest
linked name [] = empty
linked name (c ∷ cs) = leaf_then name (Some Content.String) (c ∷ cs) empty

-- a group around siblings, from the first to the last
abbrev pub group : Name → Forest → Forest
group name inside = group_then name (enter_of inside) (exit_after (enter_of inside) inside) inside empty

-- a group between two markers
abbrev pub text_group : Name → Point → Point → Forest → Forest
text_group name enter exit inside = group_then name enter exit inside empty

-- the codes that the leaves cover, in order
abbrev pub leaf_codes : Forest → List Code
leaf_codes empty = []
leaf_codes (leaf_then name link codes rest) = codes ++ leaf_codes rest
leaf_codes (group_then name enter exit inside rest) = leaf_codes inside ++ leaf_codes rest

-- Events.

abbrev pub event_count : Forest → ℕ
event_count empty = 0
event_count (leaf_then name link codes rest) = 2 + event_count rest
event_count (group_then name enter exit inside rest) = 2 + event_count inside + event_count rest

-- the number of the next linked Enter among these siblings, whose first event has number n
abbrev pub next_linked : ℕ → Forest → Option ℕ
next_linked n empty = None
next_linked n (leaf_then name None codes rest) = next_linked (n + 2) rest
next_linked n (leaf_then name (Some content) codes rest) = Some n
next_linked n (group_then name enter exit inside rest) = next_linked (n + 2 + event_count inside) rest

abbrev pub event : Kind → Name → Point → Event
event kind name p = record { kind = kind; name = name; point = p; link = None }

-- the events of siblings that begin with event n, after this linked sibling
abbrev pub events_from : ℕ → Option ℕ → Forest → List Event
events_from n previous empty = []
events_from n previous (leaf_then name None codes rest) =
    event Kind.Enter name (start_of codes)
    ∷ event Kind.Exit name (stop_of document_start codes)
    ∷ events_from (n + 2) previous rest
events_from n previous (leaf_then name (Some content) codes rest) =
    record { kind = Kind.Enter; name = name; point = start_of codes; link = Some (record { previous = previous; next = next_linked (n + 2) rest; content = content }) }
    ∷ event Kind.Exit name (stop_of document_start codes)
    ∷ events_from (n + 2) (Some n) rest
events_from n previous (group_then name enter exit inside rest) =
    event Kind.Enter name enter
    ∷ events_from (n + 1) None inside
    ++ event Kind.Exit name exit
    ∷ events_from (n + 2 + event_count inside) previous rest

abbrev pub events_of : Forest → List Event
events_of tree = events_from 0 None tree
