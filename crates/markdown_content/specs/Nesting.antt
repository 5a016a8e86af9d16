-- Which event an Exit ends, and where names stand in a list of events.
use Rattle.std.specs.Prelude.{◌≡◌, ℕ, suc, ◌<◌, ◌≤◌, List, [], ◌∷◌, Option, Some, take, slice_get, Contains}
use Rattle.std.specs.Option.{option_map}
use Rattle.markdown_event.specs.declared.event.Event.{Event}
use Rattle.markdown_event.specs.declared.event.Kind.{Kind}
use Rattle.markdown_event.specs.declared.event.Kind.TheVariants.{Enter, Exit}
use Rattle.markdown_event.specs.declared.event.Name.{Name}
use Rattle.markdown_event.specs.declared.event.Point.{Point}

-- all but the innermost
abbrev pub outer : List ℕ → List ℕ
outer [] = []
outer (x ∷ xs) = xs

-- An Enter opens, an Exit ends the innermost open event.
abbrev pub opened : ℕ → Kind → List ℕ → List ℕ
opened n Enter open_now = n ∷ open_now
opened n Exit open_now = outer open_now

-- the numbers of the open Enters after these events, the innermost first; the first event has
-- number n
abbrev pub open_after : ℕ → List ℕ → List Event → List ℕ
open_after n open_now [] = open_now
open_after n open_now (e ∷ es) = open_after (suc n) (opened n e.kind open_now) es

-- the numbers of the Enters that are open before event i, the innermost first
abbrev pub open_before : List Event → ℕ → List ℕ
open_before es i = open_after 0 [] (take i es)

-- the number of the Enter that an Exit at i ends
abbrev pub own_enter : List Event → ℕ → Option ℕ
own_enter es i = slice_get (open_before es i) 0

-- where event i stands
abbrev pub point_at : List Event → ℕ → Option Point
point_at es i = option_map (λ (e : Event). e.point) (slice_get es i)

-- event i has one of these names
abbrev pub IsNamed : List Name → List Event → ℕ → Type 0
IsNamed names es i = (e : Event) × ((slice_get es i ≡ Some e) × Contains names e.name)

-- some event at or before i has one of these names
abbrev pub IsNamedBack : List Name → List Event → ℕ → Type 0
IsNamedBack names es i = (k : ℕ) × ((k ≤ i) × IsNamed names es k)

-- k is the nearest place at or before i whose event has one of these names
pub record IsNearestBack (names : List Name) (es : List Event) (i k : ℕ) : Type 0 where
  pub back : k ≤ i
  pub named : IsNamed names es k
  pub nearest : (j : ℕ) → k < j → j ≤ i → IsNamed names es j → ⊥
