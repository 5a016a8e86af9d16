-- Neighbouring data become one: which events go, and of which trees this is said.
use Rattle.std.specs.Prelude.{◌≡◌, ◌≢◌, ℕ, suc, ◌+◌, ◌-◌, nat_le, drop, Bool, true, false, ◌&&◌, not, List, [], ◌∷◌, ◌++◌, if◌then◌else◌, None}
use Rattle.markdown_engine_events.specs.EventChains.{has_link}
use Rattle.markdown_content.specs.Tree.{Forest, empty, leaf_then, group_then}
use Rattle.markdown_event.specs.declared.event.Event.{Event}
use Rattle.markdown_event.specs.declared.event.Kind.{Kind}
use Rattle.markdown_event.specs.declared.event.Name.{Name}
use Rattle.markdown_event.specs.declared.event.Name.TheVariants as N
use Rattle.markdown_engine_events.specs.declared.util.edit_map.Edit.{Edit}

abbrev pub is_data : Name → Bool
is_data N.Data = true
is_data _ = false

abbrev pub is_enter : Kind → Bool
is_enter Kind.Enter = true
is_enter Kind.Exit = false

-- the Enter of data without a link
abbrev pub opens_data : Event → Bool
opens_data e = is_enter e.kind && (is_data e.name && not (has_link e.link))

-- the Exit of data
abbrev pub closes_data : Event → Bool
closes_data e = not (is_enter e.kind) && (is_data e.name && not (has_link e.link))

-- the first is the Enter of data without a link
abbrev pub opening : List Event → Bool
opening [] = false
opening (e ∷ es) = opens_data e

-- the first is the Exit of data, and other data stands behind it
abbrev pub closing : List Event → Bool
closing [] = false
closing (e ∷ es) = closes_data e && opening es

-- they begin with data without a link, and such data stands behind it
abbrev pub joint : List Event → Bool
joint [] = false
joint (e ∷ es) = opens_data e && closing es

-- data without a link begins two events before that of this number, and such data stands behind it
abbrev pub ends_joint : ℕ → List Event → Bool
ends_joint i es = nat_le 2 i && joint (drop (i - 2) es)

-- an Exit and the Enter behind it go
abbrev pub removal : ℕ → Edit
removal n = record { at = n; remove = 2; events = []; before = false }

abbrev pub marked : Bool → ℕ → List Edit
marked b n = if b then removal n ∷ [] else []

-- one edit for each place where data stands behind data; the first event has this number
abbrev pub joints : ℕ → List Event → List Edit
joints n [] = []
joints n (e ∷ es) = marked (joint (e ∷ es)) (n + 1) ++ joints (suc n) es

-- no data of the tree is empty, and no group has that name
abbrev pub HasData : Forest → Type 0
HasData empty = Unit {0}
HasData (leaf_then name link cs rest) = (is_data name ≡ true → link ≡ None → cs ≢ []) × HasData rest
HasData (group_then name enter exit inside rest) = (is_data name ≡ false) × (HasData inside × HasData rest)
