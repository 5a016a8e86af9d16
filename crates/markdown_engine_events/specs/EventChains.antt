-- Chains of linked events: what each event says of the one before it on its chain, and what follows
-- from that of the one after.
use Rattle.std.specs.Prelude.{◌≡◌, ◌≢◌, ℕ, zero, suc, ◌<◌, ◌==◌, Bool, true, false, List, [], ◌∷◌, Option, Some, None, if◌then◌else◌}
use Rattle.std.specs.List.{All}
use Rattle.markdown_event.specs.declared.event.Event.{Event}
use Rattle.markdown_event.specs.declared.event.Kind.{Kind}
use Rattle.markdown_event.specs.declared.event.Kind.TheVariants.{Enter, Exit}
use Rattle.markdown_event.specs.declared.event.Link.{Link}

-- the event after on the chain, set
abbrev pub next_link : Option ℕ → Option Link → Option Link
next_link k None = None
next_link k (Some l) = Some (record l { next = k })

abbrev pub with_next : Option ℕ → Event → Event
with_next k e = record e { link = next_link k e.link }

-- the event before on the chain, set
abbrev pub previous_link : Option ℕ → Option Link → Option Link
previous_link k None = None
previous_link k (Some l) = Some (record l { previous = k })

abbrev pub with_previous : Option ℕ → Event → Event
with_previous k e = record e { link = previous_link k e.link }

-- an event without the number of the event after: this is what a list of events keeps, since the
-- events after follow from the events before
abbrev pub bare : Event → Event
bare e = with_next None e

abbrev pub bares : List Event → List Event
bares [] = []
bares (e ∷ es) = bare e ∷ bares es

abbrev pub link_previous : Option Link → Option ℕ
link_previous None = None
link_previous (Some l) = l.previous

-- the event before, on the chain of this event
abbrev pub previous_of : Event → Option ℕ
previous_of e = link_previous e.link

-- an event that names none before it
abbrev pub NamesNone : Event → Type 0
NamesNone e = previous_of e ≡ None

abbrev pub has_link : Option Link → Bool
has_link None = false
has_link (Some l) = true

-- whether this is event number p
abbrev pub is_number : ℕ → Option ℕ → Bool
is_number p None = false
is_number p (Some q) = q == p

-- the number of the first of these events that names event p as the one before it; the first of
-- them has number n
abbrev pub follower : ℕ → ℕ → List Event → Option ℕ
follower p n [] = None
follower p n (e ∷ es) = if is_number p (previous_of e) then Some n else follower p (suc n) es

-- these events with the event after filled in: that which names it; the first of them has number n
abbrev pub chained_from : ℕ → List Event → List Event
chained_from n [] = []
chained_from n (e ∷ es) = with_next (follower n (suc n) es) e ∷ chained_from (suc n) es

abbrev pub chained : List Event → List Event
chained es = chained_from 0 es

-- the event at a place, changed
abbrev pub changed_at : {A : Type 0} → (A → A) → ℕ → List A → List A
changed_at f i [] = []
changed_at f zero (x ∷ xs) = f x ∷ xs
changed_at f (suc i) (x ∷ xs) = x ∷ changed_at f i xs

-- of the event with this number: the event before on its chain; whether it carries a link
abbrev pub previous_at : List Event → ℕ → Option ℕ
previous_at [] i = None
previous_at (e ∷ es) zero = previous_of e
previous_at (e ∷ es) (suc i) = previous_at es i

abbrev pub linked_at : List Event → ℕ → Bool
linked_at [] i = false
linked_at (e ∷ es) zero = has_link e.link
linked_at (e ∷ es) (suc i) = linked_at es i

-- only an Enter carries a link
abbrev pub MayLink : Kind → Option Link → Type 0
MayLink k None = Unit {0}
MayLink Enter (Some l) = Unit {0}
MayLink Exit (Some l) = ⊥

abbrev pub OnlyEnters : List Event → Type 0
OnlyEnters [] = Unit {0}
OnlyEnters (e ∷ es) = MayLink e.kind e.link × OnlyEnters es

-- no event names event p as the one before it: p ends its chain
abbrev pub EndsChain : ℕ → List Event → Type 0
EndsChain p es = (j : ℕ) → previous_at es j ≢ Some p

-- a list of events whose links are chains: each event before is an earlier event that carries a
-- link, no event is the one before of two, and only Enters carry links
pub record IsLinked (es : List Event) : Type 0 where
  pub earlier : (j p : ℕ) → previous_at es j ≡ Some p → p < j
  pub linked : (j p : ℕ) → previous_at es j ≡ Some p → linked_at es p ≡ true
  pub single : (j k p : ℕ) → previous_at es j ≡ Some p → previous_at es k ≡ Some p → j ≡ k
  pub enters : OnlyEnters es

-- an event that is linked to no other yet
abbrev pub IsFreshLink : Kind → Option Link → Type 0
IsFreshLink k None = Unit {0}
IsFreshLink Enter (Some l) = (l.previous ≡ None) × (l.next ≡ None)
IsFreshLink Exit (Some l) = ⊥

abbrev pub IsFresh : Event → Type 0
IsFresh e = IsFreshLink e.kind e.link

-- an event that carries no link
abbrev pub IsUnlinked : Event → Type 0
IsUnlinked e = e.link ≡ None

-- the events as a list keeps them: the events after are those that follow from the events before
pub record IsChainedList (items : List Event) : Type 0 where
  pub filled : items ≡ chained (bares items)
  pub linked : IsLinked (bares items)

-- an event that names none before it on its chain, and none after it
abbrev pub IsAlone : Event → Type 0
IsAlone e = (link_previous e.link ≡ None) × (next_link None e.link ≡ e.link)

-- and where no chain is noted, each event is alone
pub record IsNoted (chains : Bool) (items : List Event) : Type 0 where
  pub filled : items ≡ chained (bares items)
  pub linked : IsLinked (bares items)
  pub alone : chains ≡ false → All IsAlone items
