-- Edits of a list of events: where each event stands afterwards, and that chains stay chains.
use Rattle.std.proofs.Common.{◌≡◌, ℕ, zero, suc, ◌+◌, ◌-◌, ◌<◌, ◌≤◌, ◌==◌, ◌||◌, ◌&&◌, not, nat_lt, nat_le, max, min, ◌^◌, ◌⊎◌, inl, inr, Bool, true, false, cond, Option, Some, None, List, [], ◌∷◌, ◌++◌, length, drop, get_or, refl, sym, ap, subst, ◌∙◌, arith, append_assoc}
use Rattle.std.specs.List.{All, slice_get}
use Rattle.std.specs.Option.{option_map}
use Rattle.std.proofs.lemmas.List.{length-append, append-nil, drop_more}
use Rattle.std.proofs.lemmas.Option.{get_or_from_slice_get, slice_get_within, slice_get-get_or, same_Some}
use Rattle.std.proofs.lemmas.Bool.{false≢true, le-ltb, eq-eqb, cases_Bool}
use Rattle.std.proofs.lemmas.Bool.Decides.{nat_tests, eqb_tells, leb_tells}
use Rattle.markdown_event.specs.declared.event.Event.{Event}
use Rattle.markdown_event.specs.declared.event.Link.{Link}
use Rattle.markdown_engine_events.specs.declared.util.edit_map.Edit.{Edit}
use Rattle.markdown_engine_events.specs.EventChains.{previous_link, with_previous, link_previous, previous_of, has_link, previous_at, linked_at, MayLink, OnlyEnters, EndsChain, IsLinked, IsUnlinked}
use Rattle.markdown_engine_events.specs.Edits.{removed_at, front_at, back_at, added_at, removed_by, is_removed, added_up_to, removed_before, moved_number, moved, edited_from, edited, number_of, renumbered, noted, AddsUnlinked, CanEdit}
use Rattle.markdown_engine_events.proofs.EventChainLemmas.{OnlyEnters-append, has-previous, may-previous, within-linked, IsLinked-prefix}

-- How many events stand before place i afterwards.

abbrev stays : Bool → ℕ
stays b = cond b 0 1

abbrev pub start : List Edit → ℕ → ℕ
start log zero = 0
start log (suc i) = start log i + length (added_at i log) + stays (is_removed log i)

length-parts : (b c : Bool) (xs : List Event) →
    length (cond (b && c) xs []) + length (cond (b && not c) xs []) ≡ cond b (length xs) 0
length-parts true true xs = omega arith
length-parts true false xs = omega arith
length-parts false c xs = refl

-- how many events an edit brings to a place
length-added : (i : ℕ) (e : Edit) (log : List Edit) →
    length (added_at i (e ∷ log)) ≡ cond (e.at == i) (length e.events) 0 + length (added_at i log)
length-added i e log = grind (arith, length-append, length-parts)

at-zero : (a n : ℕ) → cond (nat_le a 0) n 0 ≡ cond (a == 0) n 0
at-zero a n = grind (arith, nat_tests)

at-more : (a i n : ℕ) → cond (nat_le a (suc i)) n 0 ≡ cond (nat_le a i) n 0 + cond (a == suc i) n 0
at-more a i n = grind (arith, nat_tests)

pub added-zero : (log : List Edit) → added_up_to log 0 ≡ length (added_at 0 log)
added-zero [] = refl
added-zero (e ∷ log) = omega (arith, at-zero e.at (length e.events), added-zero log, length-added 0 e log)

pub added-more : (log : List Edit) (i : ℕ) → added_up_to log (suc i) ≡ added_up_to log i + length (added_at (suc i) log)
added-more [] i = refl
added-more (e ∷ log) i = omega (arith, at-more e.at i (length e.events), added-more log i, length-added (suc i) e log)

abbrev gone : Bool → ℕ
gone b = cond b 1 0

stays-gone : (b : Bool) → stays b + gone b ≡ 1
stays-gone true = refl
stays-gone false = refl

start-counts : (log : List Edit) (i : ℕ) →
    start log i + length (added_at i log) + removed_before log i ≡ i + added_up_to log i
start-counts log zero = let a = added-zero log in omega arith
start-counts log (suc i) = omega (arith, start-counts log i, added-more log i, stays-gone (is_removed log i))

-- an event stands behind what comes at its place
pub moved-start : (log : List Edit) (i : ℕ) → moved_number log i ≡ start log i + length (added_at i log)
moved-start log i = let a = start-counts log i in omega arith

start-more : (log : List Edit) (i : ℕ) → start log i + length (added_at i log) ≤ start log (suc i)
start-more log i = omega arith

start-mono : (log : List Edit) (i k : ℕ) → start log i ≤ start log (i + k)
start-mono log i zero = let e : i + zero ≡ i = omega arith in rw e (omega arith)
start-mono log i (suc k) =
    let e : i + suc k ≡ suc (i + k) = omega arith in
    let l = start-mono log i k in
    let m = start-more log (i + k) in
    rw e (omega arith)

pub start-le : (log : List Edit) (i j : ℕ) → i ≤ j → start log i ≤ start log j
start-le log i j h =
    let e : i + (j - i) ≡ j = omega arith in
    subst (λ n. start log i ≤ start log n) e (start-mono log i (j - i))

pub start-kept : (log : List Edit) (i : ℕ) → is_removed log i ≡ false → start log (suc i) ≡ suc (moved_number log i)
start-kept log i h = grind (arith, moved-start)

-- events that stay keep their order
pub moved-below : (log : List Edit) (p q : ℕ) → p < q → is_removed log p ≡ false →
    moved_number log p < moved_number log q
moved-below log p q l h = omega (arith, start-kept log p h, start-le log (suc p) q (omega arith), moved-start log q)

pub moved-same : (log : List Edit) (p q : ℕ) → is_removed log p ≡ false → is_removed log q ≡ false →
    moved_number log p ≡ moved_number log q → p ≡ q
moved-same log p q h k e = grind (arith, eqb_tells, leb_tells, moved-below)

-- The list afterwards, event by event.

pub some-none : {A : Type 0} → (p : A) → None ≡ Some p → ⊥
some-none p h = cc

slice-after : {A : Type 0} → (xs ys : List A) (k j : ℕ) → k ≡ length xs + j → slice_get (xs ++ ys) k ≡ slice_get ys j
slice-after [] ys k j h = ap (slice_get ys) (omega arith)
slice-after (x ∷ xs) ys zero j h = absurd (omega arith)
slice-after (x ∷ xs) ys (suc k) j h = slice-after xs ys k j (omega arith)

slice-before : {A : Type 0} → (xs ys : List A) (k : ℕ) → k < length xs → slice_get (xs ++ ys) k ≡ slice_get xs k
slice-before [] ys k h = absurd (omega arith)
slice-before (x ∷ xs) ys zero h = refl
slice-before (x ∷ xs) ys (suc k) h = slice-before xs ys k (omega arith)

abbrev stay : List Edit → Bool → Event → List Event
stay log b e = cond b [] (moved log e ∷ [])

length-stay : (log : List Edit) (b : Bool) (e : Event) → length (stay log b e) ≡ stays b
length-stay log true e = refl
length-stay log false e = refl

-- from place i on, number k is what number k' is from the next place on
edited-next : (log : List Edit) (i : ℕ) (e : Event) (es : List Event) (k j : ℕ) →
    start log i + k ≡ start log (suc i) + j →
    slice_get (edited_from log i (e ∷ es)) k ≡ slice_get (edited_from log (suc i) es) j
edited-next log i e es k j h =
    let size = length-stay log (is_removed log i) e in
    slice-after (added_at i log) (stay log (is_removed log i) e ++ edited_from log (suc i) es) k (stays (is_removed log i) + j) (omega arith) ∙ slice-after (stay log (is_removed log i) e) (edited_from log (suc i) es) (stays (is_removed log i) + j) j (omega arith)

edited-here : (log : List Edit) (i : ℕ) (e : Event) (es : List Event) (k : ℕ) → start log i + k ≡ moved_number log i →
    is_removed log i ≡ false → slice_get (edited_from log i (e ∷ es)) k ≡ Some (moved log e)
edited-here log i e es k h r =
    let m = moved-start log i in
    slice-after (added_at i log) (stay log (is_removed log i) e ++ edited_from log (suc i) es) k 0 (omega arith) ∙ ap (λ b. slice_get (stay log b e ++ edited_from log (suc i) es) 0) r

-- an event that stays is found at its number
pub edited-at : (log : List Edit) (i q j k : ℕ) (es : List Event) → q ≡ i + j → start log i + k ≡ moved_number log q →
    is_removed log q ≡ false → j < length es →
    slice_get (edited_from log i es) k ≡ option_map (moved log) (slice_get es j)
edited-at log i q j k [] at h r l = absurd (omega arith)
edited-at log i q zero k (e ∷ es) at h r l = grind (arith, edited-here)
edited-at log i q (suc j) k (e ∷ es) at h r l =
    let more : q ≡ suc i + j = omega arith in
    let low : start log (suc i) ≤ start log q = start-le log (suc i) q (omega arith) in
    let m = moved-start log q in
    let there : start log (suc i) + (moved_number log q - start log (suc i)) ≡ moved_number log q = omega arith in
    edited-next log i e es k (moved_number log q - start log (suc i)) (h ∙ sym there) ∙ edited-at log (suc i) q j (moved_number log q - start log (suc i)) es more there r (omega arith)

-- an event afterwards either carries no link, or is one that stayed
pub record Stayed (log : List Edit) (i : ℕ) (es : List Event) (k : ℕ) (x : Event) : Type 0 where
  pub number : ℕ
  pub event : Event
  pub stays_there : is_removed log (i + number) ≡ false
  pub place : start log i + k ≡ moved_number log (i + number)
  pub was : slice_get es number ≡ Some event
  pub is : x ≡ moved log event

-- what holds of each event of a list
abbrev pub EachEvent : (Event → Type 0) → List Event → Type 0
EachEvent P xs = (k : ℕ) (x : Event) → slice_get xs k ≡ Some x → P x

Each-tail : (P : Event → Type 0) (y : Event) (xs : List Event) → EachEvent P (y ∷ xs) → EachEvent P xs
Each-tail P y xs h = λ k. h (suc k)

Each-append : (P : Event → Type 0) (xs ys : List Event) → EachEvent P xs → EachEvent P ys → EachEvent P (xs ++ ys)
Each-append P [] ys h g = g
Each-append P (x ∷ xs) ys h g = λ (k : ℕ) (y : Event). each-step P x xs ys h (Each-append P xs ys (Each-tail P x xs h) g) k y
  where
    each-step : (P : Event → Type 0) (x : Event) (xs ys : List Event) → EachEvent P (x ∷ xs) → EachEvent P (xs ++ ys) →
        (k : ℕ) (y : Event) → slice_get (x ∷ xs ++ ys) k ≡ Some y → P y
    each-step P x xs ys h g zero y e = h zero y e
    each-step P x xs ys h g (suc k) y e = g k y e

Each-nil : (P : Event → Type 0) → EachEvent P []
Each-nil P = λ k x h. absurd (some-none x h)

Each-part : (P : Event → Type 0) (b : Bool) (xs : List Event) → EachEvent P xs → EachEvent P (cond b xs [])
Each-part P true xs h = h
Each-part P false xs h = Each-nil P

Each-all : (P : Event → Type 0) (xs : List Event) → All P xs → EachEvent P xs
Each-all P xs h = λ k x e. subst P (get_or_from_slice_get xs k x x e) (h k x (slice_get_within xs k x e))

adds-head : (e : Edit) (log : List Edit) → AddsUnlinked (e ∷ log) → EachEvent IsUnlinked e.events
adds-head e log u = Each-all IsUnlinked e.events (u 0 e (omega arith))

adds-tail : (e : Edit) (log : List Edit) → AddsUnlinked (e ∷ log) → AddsUnlinked log
adds-tail e log u = λ k d h. u (suc k) d (omega arith)

front-unlinked : (i : ℕ) (log : List Edit) → AddsUnlinked log → EachEvent IsUnlinked (front_at i log)
front-unlinked i [] u = Each-nil IsUnlinked
front-unlinked i (e ∷ log) u =
    Each-append IsUnlinked (front_at i log) (cond (e.at == i && e.before) e.events []) (front-unlinked i log (adds-tail e log u)) (Each-part IsUnlinked (e.at == i && e.before) e.events (adds-head e log u))

back-unlinked : (i : ℕ) (log : List Edit) → AddsUnlinked log → EachEvent IsUnlinked (back_at i log)
back-unlinked i [] u = Each-nil IsUnlinked
back-unlinked i (e ∷ log) u =
    Each-append IsUnlinked (cond (e.at == i && not e.before) e.events []) (back_at i log) (Each-part IsUnlinked (e.at == i && not e.before) e.events (adds-head e log u)) (back-unlinked i log (adds-tail e log u))

pub added-unlinked : (log : List Edit) (i : ℕ) → AddsUnlinked log → EachEvent IsUnlinked (added_at i log)
added-unlinked log i u =
    Each-append IsUnlinked (front_at i log) (back_at i log) (front-unlinked i log u) (back-unlinked i log u)

stays-one : (b : Bool) → stays b ≡ 1 → b ≡ false
stays-one true h = absurd (omega arith)
stays-one false h = refl

Stayed-next : (log : List Edit) (i k j : ℕ) (e : Event) (es : List Event) (x : Event) →
    start log i + k ≡ start log (suc i) + j → Stayed log (suc i) es j x → Stayed log i (e ∷ es) k x
Stayed-next log i k j e es x h s =
    let same : suc i + s.number ≡ i + suc s.number = omega arith in
    record {
      number = suc s.number;
      event = s.event;
      stays_there = ap (is_removed log) (sym same) ∙ s.stays_there;
      place = h ∙ s.place ∙ ap (moved_number log) same;
      was = s.was;
      is = s.is;
    }

Stayed-here : (log : List Edit) (i k : ℕ) (e : Event) (es : List Event) (x : Event) →
    start log i + k ≡ moved_number log i → is_removed log i ≡ false → x ≡ moved log e → Stayed log i (e ∷ es) k x
Stayed-here log i k e es x h r g = grind (arith)

same_value : (x y : Event) → Some x ≡ Some y → x ≡ y
same_value x y h = cc

edited-back : (log : List Edit) (i k : ℕ) (es : List Event) (x : Event) → AddsUnlinked log →
    slice_get (edited_from log i es) k ≡ Some x → IsUnlinked x ⊎ Stayed log i es k x
edited-back log i k [] x u h = inl (added-unlinked log i u k x h)
edited-back log i k (e ∷ es) x u h =
    elim (leb_tells (start log (suc i)) (start log i + k)) [
      | inl next ↦
          let j : start log i + k ≡ start log (suc i) + (start log i + k - start log (suc i)) = omega arith in
          elim (edited-back log (suc i) (start log i + k - start log (suc i)) es x u (sym (edited-next log i e es k (start log i + k - start log (suc i)) j) ∙ h)) [
            | inl a ↦ inl a
            | inr s ↦ inr (Stayed-next log i k (start log i + k - start log (suc i)) e es x j s)
          ]
      | inr here ↦ elim (leb_tells (length (added_at i log)) k) [
        | inl at ↦
            let one : stays (is_removed log i) ≡ 1 = stays-below (is_removed log i) (omega arith) in
            let r : is_removed log i ≡ false = stays-one (is_removed log i) one in
            let p : start log i + k ≡ moved_number log i = omega (arith, moved-start log i) in
            inr (Stayed-here log i k e es x p r (same_value x (moved log e) (sym h ∙ edited-here log i e es k p r)))
        | inr below ↦ inl (added-unlinked log i u k x (sym (slice-before (added_at i log) (stay log (is_removed log i) e ++ edited_from log (suc i) es) k below.1) ∙ h))
      ]
    ]
  where
    stays-below : (b : Bool) → 0 < stays b → stays b ≡ 1
    stays-below true h = absurd (omega arith)
    stays-below false h = refl

-- Chains stay chains.

previous-get : (es : List Event) (j : ℕ) (e : Event) → slice_get es j ≡ Some e → previous_at es j ≡ previous_of e
previous-get [] j e h = absurd (some-none e h)
previous-get (x ∷ es) zero e h = ap (λ y. previous_of y) (same_value x e h)
previous-get (x ∷ es) (suc j) e h = previous-get es j e h

linked-get : (es : List Event) (j : ℕ) (e : Event) → slice_get es j ≡ Some e → linked_at es j ≡ has_link e.link
linked-get [] j e h = absurd (some-none e h)
linked-get (x ∷ es) zero e h = ap (λ (y : Event). has_link y.link) (same_value x e h)
linked-get (x ∷ es) (suc j) e h = linked-get es j e h

get-previous : (es : List Event) (j p : ℕ) → previous_at es j ≡ Some p → (e : Event) × (slice_get es j ≡ Some e)
get-previous [] j p h = absurd (some-none p h)
get-previous (x ∷ es) zero p h = (x, refl)
get-previous (x ∷ es) (suc j) p h = get-previous es j p h

get-linked : (es : List Event) (j : ℕ) → linked_at es j ≡ true → (e : Event) × (slice_get es j ≡ Some e)
get-linked [] j h = absurd (false≢true h)
get-linked (x ∷ es) zero h = (x, refl)
get-linked (x ∷ es) (suc j) h = get-linked es j h

map-back : (f : ℕ → ℕ) (o : Option ℕ) (q : ℕ) → option_map f o ≡ Some q → (p : ℕ) × ((o ≡ Some p) × (q ≡ f p))
map-back f None q h = absurd (some-none q h)
map-back f (Some p) q h = (p, (refl, same_Some q (f p) (sym h)))

linked-previous : (k : Option ℕ) (l : Option Link) (q : ℕ) → link_previous (previous_link k l) ≡ Some q →
    link_previous (previous_link k l) ≡ k
linked-previous k None q h = absurd (some-none q h)
linked-previous k (Some l) q h = refl

moved-previous : (log : List Edit) (e : Event) (q : ℕ) → previous_of (moved log e) ≡ Some q →
    (p : ℕ) × ((previous_of e ≡ Some p) × (q ≡ moved_number log p))
moved-previous log e q h = grind (arith, map-back, linked-previous)

pub moved-linked : (log : List Edit) (e : Event) → has_link (moved log e).link ≡ has_link e.link
moved-linked log e = has-previous (option_map (moved_number log) (previous_of e)) e.link

unlinked-none : (x : Event) (q : ℕ) → IsUnlinked x → previous_of x ≡ Some q → ⊥
unlinked-none x q u h = some-none q (sym (ap link_previous u) ∙ h)

-- what an event afterwards that names another was
record Named (log : List Edit) (es : List Event) (k q : ℕ) : Type 0 where
  by : ℕ
  before : ℕ
  number : k ≡ moved_number log by
  named : previous_at es by ≡ Some before
  was : q ≡ moved_number log before

module _ (log : List Edit) (es : List Event) (u : AddsUnlinked log) (can : CanEdit log es) where
  named-back : (k q : ℕ) → previous_at (edited log es) k ≡ Some q → Named log es k q
  named-back k q h =
      let found = get-previous (edited log es) k q h in
      let names : previous_of found.0 ≡ Some q = sym (previous-get (edited log es) k found.0 found.1) ∙ h in
      elim (edited-back log 0 k es found.0 u found.1) [
        | inl a ↦ absurd (unlinked-none found.0 q a names)
        | inr s ↦
            let m = moved-previous log s.event q (sym (ap (λ y. previous_of y) s.is) ∙ names) in
            let here : k ≡ moved_number log s.number = omega (arith, s.place, ap (moved_number log) (zero-plus s.number)) in
            record { by = s.number; before = m.0; number = here; named = previous-get es s.number s.event s.was ∙ m.1.0; was = m.1.1 }
      ]
    where
      zero-plus : (n : ℕ) → 0 + n ≡ n
      zero-plus n = omega arith

  kept-linked : (p : ℕ) → linked_at es p ≡ true → is_removed log p ≡ false
  kept-linked p h = grind (arith, cases_Bool, false≢true)

  pub linked-moved : (p : ℕ) → linked_at es p ≡ true → linked_at (edited log es) (moved_number log p) ≡ true
  linked-moved p h =
      let found = get-linked es p h in
      let there : slice_get (edited log es) (moved_number log p) ≡ Some (moved log found.0) =
      edited-at log 0 p p (moved_number log p) es (omega arith) (omega arith) (kept-linked p h) (within-linked es p h) ∙ ap (option_map (moved log)) found.1 in
      linked-get (edited log es) (moved_number log p) (moved log found.0) there ∙ moved-linked log found.0 ∙ sym (linked-get es p found.0 found.1) ∙ h

may-unlinked : (x : Event) → IsUnlinked x → MayLink x.kind x.link
may-unlinked x u = let P : Option Link → Type 0 = λ l. MayLink x.kind l in subst P (sym u) tt

enters-each : (xs : List Event) → EachEvent IsUnlinked xs → OnlyEnters xs
enters-each [] h = tt
enters-each (x ∷ xs) h = (may-unlinked x (h 0 x refl), enters-each xs (Each-tail IsUnlinked x xs h))

enters-stay : (log : List Edit) (b : Bool) (e : Event) → MayLink e.kind e.link → OnlyEnters (stay log b e)
enters-stay log true e h = tt
enters-stay log false e h = (may-previous e.kind (option_map (moved_number log) (previous_of e)) e.link h, tt)

enters-edited : (log : List Edit) (i : ℕ) (es : List Event) → AddsUnlinked log → OnlyEnters es →
    OnlyEnters (edited_from log i es)
enters-edited log i [] u h = enters-each (added_at i log) (added-unlinked log i u)
enters-edited log i (e ∷ es) u h = grind (arith, OnlyEnters-append, enters-each, added-unlinked, enters-stay, enters-edited log (suc i) es u h.1)

-- edits keep the chains
pub IsLinked-edited : (log : List Edit) (es : List Event) → AddsUnlinked log → CanEdit log es → IsLinked es →
    IsLinked (edited log es)
IsLinked-edited log es u can w =
    let back = named-back log es u can in
    let stays_there = λ (j p : ℕ) (h : previous_at es j ≡ Some p). kept-linked log es u can p (w.linked j p h) in
    record {
      earlier = λ k q h.
          let n = back k q h in
          let l = moved-below log n.before n.by (w.earlier n.by n.before n.named) (stays_there n.by n.before n.named) in
          omega (arith, n.number, n.was);
      linked = λ k q h.
          let n = back k q h in
          ap (linked_at (edited log es)) n.was ∙ linked-moved log es u can n.before (w.linked n.by n.before n.named);
      single = λ j k q h g.
          let n = back j q h in
          let m = back k q g in
          let same : n.before ≡ m.before = moved-same log n.before m.before (stays_there n.by n.before n.named) (stays_there m.by m.before m.named) (sym n.was ∙ m.was) in
          let by : n.by ≡ m.by = w.single n.by m.by n.before n.named (m.named ∙ ap (λ x. Some x) (sym same)) in
          n.number ∙ ap (moved_number log) by ∙ sym m.number;
      enters = enters-edited log 0 es u w.enters;
    }

-- How the code collects the edits.

-- where the ranges of the places before i end at the furthest
abbrev pub range_end : List Edit → ℕ → ℕ
range_end log zero = 0
range_end log (suc i) = max (range_end log i) (i + removed_at i log)

below-max : (j a b : ℕ) → nat_lt j (max a b) ≡ (nat_lt j b || nat_lt j a)
below-max j a b = grind (arith, nat_tests)

removed-range : (log : List Edit) (j i : ℕ) → removed_by log j i ≡ nat_lt j (range_end log (suc i))
removed-range log j zero = grind (arith, nat_tests)
removed-range log j (suc i) = simp (removed-range log j i, below-max)

-- an event goes if it stands before that end
pub removed-test : (log : List Edit) (i : ℕ) → is_removed log i ≡ nat_lt i (range_end log (suc i))
removed-test log i = removed-range log i i

-- a step of the collection, from the first edit on
pub back_push : (i : ℕ) (log : List Edit) (e : Edit) →
    back_at i (log ++ e ∷ []) ≡ back_at i log ++ cond (e.at == i && not e.before) e.events []
back_push i [] e = append-nil (cond (e.at == i && not e.before) e.events [])
back_push i (x ∷ log) e = simp (back_push i log e, append_assoc)

pub removed_push : (i : ℕ) (log : List Edit) (e : Edit) →
    removed_at i (log ++ e ∷ []) ≡ removed_at i log + cond (e.at == i) e.remove 0
removed_push i [] e = omega arith
removed_push i (x ∷ log) e = let r = removed_push i log e in omega arith

-- a step of the pass over the events

previous-read : (es : List Event) (i : ℕ) (e : Event) → i < length es → e ≡ get_or es i e →
    previous_at es i ≡ previous_of e
previous-read es i e l r = previous-get es i e (slice_get-get_or es i e l ∙ ap (λ x. Some x) (sym r))

pub previous-below : (es : List Event) (i p : ℕ) (e : Event) → i < length es → e ≡ get_or es i e → IsLinked es →
    previous_of e ≡ Some p → p < i
previous-below es i p e l r w h = w.earlier i p (previous-read es i e l r ∙ h)

map-same : (f g : ℕ → ℕ) (o : Option ℕ) → ((p : ℕ) → o ≡ Some p → f p ≡ g p) → option_map f o ≡ option_map g o
map-same f g None h = refl
map-same f g (Some p) h = ap (λ x. Some x) (h p refl)

-- the notes so far name the numbers of the events before that carry a link and that an event names
abbrev pub Notes : List Edit → List Event → ℕ → List (ℕ × ℕ) → Type 0
Notes log es i notes =
    (j by : ℕ) → j < i → linked_at es j ≡ true → previous_at es by ≡ Some j → number_of notes j ≡ moved_number log j

-- the link looked up in them
pub renumbered-moved : (log : List Edit) (es : List Event) (i : ℕ) (notes : List (ℕ × ℕ)) (e : Event) → i < length es →
    e ≡ get_or es i e → IsLinked es → Notes log es i notes → renumbered notes e ≡ moved log e
renumbered-moved log es i notes e l r w n = grind (arith, map-same, previous-below, previous-read)

note-found : (e : Event) (i n j : ℕ) (notes : List (ℕ × ℕ)) → i ≡ j → has_link e.link ≡ true →
    number_of (noted e i n notes) j ≡ n
note-found e i n j notes h g = grind (arith, eq-eqb)

note-other : (e : Event) (i n j : ℕ) (notes : List (ℕ × ℕ)) → (i == j) ≡ false →
    number_of (noted e i n notes) j ≡ number_of notes j
note-other e i n j notes h = grind arith

pub notes-kept : (log : List Edit) (es : List Event) (i n : ℕ) (e : Event) (notes : List (ℕ × ℕ)) → i < length es →
    e ≡ get_or es i e → n ≡ moved_number log i → Notes log es i notes → Notes log es (i + 1) (noted e i n notes)
notes-kept log es i n e notes l r m h = grind (arith, eqb_tells, linked-get, slice_get-get_or, note-found, note-other)

pub notes-gone : (log : List Edit) (es : List Event) (n m : ℕ) (notes : List (ℕ × ℕ)) →
    ((j : ℕ) → n ≤ j → j < m → linked_at es j ≡ false) → Notes log es n notes → Notes log es m notes
notes-gone log es n m notes gone h = grind (arith, leb_tells, false≢true)

-- what the code knows at place i of where the ranges end, once those of the places before j are counted
abbrev pub KnowsRangeEnds : List Edit → ℕ → ℕ → ℕ → Type 0
KnowsRangeEnds log i j d = max d i ≡ max (min (range_end log j) (2 ^ 64 - 1)) i

pub found : (es : List Event) (i : ℕ) → i < length es → (e : Event) × (e ≡ get_or es i e)
found [] i l = absurd (omega arith)
found (x ∷ es) zero l = (x, refl)
found (x ∷ es) (suc i) l = found es i (omega arith)

pub notes-alone : (log : List Edit) (es : List Event) (n m : ℕ) (notes : List (ℕ × ℕ)) →
    ((j : ℕ) → n ≤ j → j < m → EndsChain j es) → Notes log es n notes → Notes log es m notes
notes-alone log es n m notes ends h = grind (arith, leb_tells)

pub range-more : (log : List Edit) (i a b c d : ℕ) → i < 2 ^ 64 - 1 → KnowsRangeEnds log i i a →
    b ≡ min (removed_at i log) (2 ^ 64 - 1) → c ≡ min (i + b) (2 ^ 64 - 1) → d ≡ max a c → KnowsRangeEnds log i (i + 1) d
range-more log i a b c d l h g k m = grind (arith)

pub range-next : (log : List Edit) (i d : ℕ) → KnowsRangeEnds log i (i + 1) d → KnowsRangeEnds log (i + 1) (i + 1) d
range-next log i d h = omega arith

below-range : (log : List Edit) (i d : ℕ) → i < 2 ^ 64 - 1 → KnowsRangeEnds log i (i + 1) d → is_removed log i ≡ nat_lt i d
below-range log i d l h = grind (arith, removed-test, nat_tests)

pub stays-from : (log : List Edit) (i d : ℕ) → i < 2 ^ 64 - 1 → KnowsRangeEnds log i (i + 1) d → d ≤ i →
    is_removed log i ≡ false
stays-from log i d l h k = below-range log i d l h ∙ le-ltb i d k

module _ (log : List Edit) (es : List Event) (i : ℕ) (done put : List Event) (l : i < length es) (h : done ++ edited_from log i (drop i es) ≡ edited log es) (g : put ≡ done ++ added_at i log) where
  step : (e : Event) → e ≡ get_or es i e →
      edited log es ≡ put ++ (stay log (is_removed log i) e ++ edited_from log (i + 1) (drop (i + 1) es))
  step e r = grind (arith, drop_more, append_assoc)

  pub step-kept : (e x : Event) → e ≡ get_or es i e → x ≡ moved log e → is_removed log i ≡ false →
      (put ++ x ∷ []) ++ edited_from log (i + 1) (drop (i + 1) es) ≡ edited log es
  step-kept e x r m s =
      append_assoc put (x ∷ []) (edited_from log (i + 1) (drop (i + 1) es)) ∙ ap (λ y. put ++ (y ∷ edited_from log (i + 1) (drop (i + 1) es))) m ∙ ap (λ b. put ++ (stay log b e ++ edited_from log (i + 1) (drop (i + 1) es))) (sym s) ∙ sym (step e r)

  pub step-gone : is_removed log i ≡ true → put ++ edited_from log (i + 1) (drop (i + 1) es) ≡ edited log es
  step-gone s =
      let e = found es i l in
      ap (λ b. put ++ (stay log b e.0 ++ edited_from log (i + 1) (drop (i + 1) es))) (sym s) ∙ sym (step e.0 e.1)

  pub step-chains : (e x : Event) → e ≡ get_or es i e → x ≡ moved log e → is_removed log i ≡ false →
      IsLinked (edited log es) → IsLinked (put ++ x ∷ [])
  step-chains e x r m s w =
      let P : List Event → Type 0 = λ ys. IsLinked ys in
      IsLinked-prefix (put ++ x ∷ []) (edited_from log (i + 1) (drop (i + 1) es)) (subst P (sym (step-kept e x r m s)) w)

pub placed-put : (log : List Edit) (i : ℕ) (done put : List Event) → length done ≡ start log i →
    put ≡ done ++ added_at i log → length put ≡ moved_number log i
placed-put log i done put s g = omega (arith, ap length g, length-append done (added_at i log), moved-start log i)

pub unlinked-seen : (a log : List Edit) → a ≡ log → AddsUnlinked a → AddsUnlinked log
unlinked-seen a log h u = let P : List Edit → Type 0 = λ x. AddsUnlinked x in subst P h u
