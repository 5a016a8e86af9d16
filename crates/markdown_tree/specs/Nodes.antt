-- Nodes of a list of events, each by the number of its Enter.
use Rattle.std.specs.Prelude.{ℕ, suc, ◌+◌, List, [], ◌∷◌, Option, None, Some, drop, slice_get, slice_range}
use Rattle.std.specs.Option.{option_and_then, option_map}
use Rattle.markdown_content.specs.Nesting.{outer, own_enter}
use Rattle.markdown_event.specs.declared.event.Event.{Event}
use Rattle.markdown_event.specs.declared.event.Kind.{Kind}
use Rattle.markdown_event.specs.declared.event.Kind.TheVariants.{Enter, Exit}
use Rattle.markdown_tree.specs.declared.node.Node.{Node}

-- Read from the end, an Exit opens, and an Enter ends the innermost Exit that is open.
abbrev pub closed : ℕ → Kind → List ℕ → List ℕ
closed n Enter ahead = outer ahead
closed n Exit ahead = n ∷ ahead

-- the numbers of the Exits among these events that end no Enter among them, the nearest first; the first event has number n
abbrev pub exits_ahead : ℕ → List Event → List ℕ
exits_ahead n [] = []
exits_ahead n (e ∷ es) = closed n e.kind (exits_ahead (suc n) es)

-- the number of the Exit that ends an Enter at i
abbrev pub own_exit : List Event → ℕ → Option ℕ
own_exit es i = slice_get (exits_ahead (i + 1) (drop (i + 1) es)) 0

abbrev pub if_enter : Kind → ℕ → Option ℕ
if_enter Enter i = Some i
if_enter Exit i = None

-- the number itself, where it is that of an Enter
abbrev pub enter_at : List Event → ℕ → Option ℕ
enter_at es i = option_and_then (λ (e : Event). if_enter e.kind i) (slice_get es i)

-- the Exit of a node
abbrev pub exit_at : List Event → ℕ → Option ℕ
exit_at es i = option_and_then (own_exit es) (enter_at es i)

-- the node around a node: the innermost that is open at its Enter
abbrev pub parent_at : List Event → ℕ → Option ℕ
parent_at es i = option_and_then (own_enter es) (enter_at es i)

-- the first node inside a node: an Enter right behind its Enter
abbrev pub first_child_at : List Event → ℕ → Option ℕ
first_child_at es i = option_and_then (λ n. enter_at es (n + 1)) (enter_at es i)

-- the node behind a node, with the same parent: an Enter right behind its Exit
abbrev pub next_sibling_at : List Event → ℕ → Option ℕ
next_sibling_at es i = option_and_then (λ k. enter_at es (k + 1)) (exit_at es i)

abbrev pub node_of : ℕ → ℕ → Event → Event → Node
node_of i k e x = record { enter = i; exit = k; name = e.name; start = e.point; end = x.point }

-- what a node is, and where its two events stand
abbrev pub node_at : List Event → ℕ → Option Node
node_at es i =
    option_and_then
    (λ k. option_and_then (λ (e : Event). option_map (λ (x : Event). node_of i k e x) (slice_get es k)) (slice_get es i))
    (exit_at es i)

-- the events of a node, from its Enter to its Exit
abbrev pub events_at : List Event → ℕ → List Event
events_at es i = elim (exit_at es i) [ None ↦ [] | Some k ↦ slice_range es i (k + 1) ]
