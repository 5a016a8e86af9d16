-- What callers of edits reason with.
use Rattle.std.proofs.Common.{◌≡◌, ◌≢◌, ℕ, zero, suc, ◌+◌, ◌<◌, ◌≤◌, ◌==◌, ◌&&◌, not, nat_lt, nat_le, inl, inr, Bool, true, false, cond, Option, Some, None, List, [], ◌∷◌, ◌++◌, length, drop, get_or, refl, sym, ap, ◌∙◌, arith, append_assoc}
use Rattle.std.specs.List.{All}
use Rattle.std.specs.Option.{option_map}
use Rattle.std.proofs.lemmas.List.{length-append, length-drop, append-nil}
use Rattle.std.proofs.lemmas.Bool.{ne_eqb, false≢true, or_left, or_right, leb-true, lt-ltb, le-ltb}
use Rattle.std.proofs.lemmas.Bool.Decides.{eqb_tells, leb_tells}
use Rattle.markdown_event.specs.declared.event.Event.{Event}
use Rattle.markdown_event.specs.declared.event.Link.{Link}
use Rattle.markdown_engine_events.specs.declared.util.edit_map.Edit.{Edit}
use Rattle.markdown_engine_events.specs.EventChains.{previous_link, link_previous, linked_at}
use Rattle.markdown_engine_events.specs.Edits.{removed_at, front_at, back_at, added_at, removed_by, is_removed, removed_before, moved_number, moved, edited_from, edited, CanEdit}
use Rattle.markdown_engine_events.proofs.EventChainLemmas.{linked_at-past}
use Rattle.markdown_engine_events.proofs.EditLemmas.{start, moved-start}
use Rattle.markdown_event.proofs.AndParts.{and-left, and-right}

-- Which events go.

none-removes : (log : List Edit) (j i : ℕ) → ((p : ℕ) → p ≤ i → p + removed_at p log ≤ j) → removed_by log j i ≡ false
none-removes log j zero h = le-ltb j (removed_at 0 log) (let l = h 0 (omega arith) in omega arith)
none-removes log j (suc i) h =
    rw (le-ltb j (suc i + removed_at (suc i) log) (h (suc i) (omega arith))) (none-removes log j i (λ p l. h p (omega arith)))

-- an event stays if no range of a place up to it reaches past it
pub stays-where : (log : List Edit) (j : ℕ) → ((p : ℕ) → p ≤ j → p + removed_at p log ≤ j) → is_removed log j ≡ false
stays-where log j h = none-removes log j j h

removes-at : (log : List Edit) (j i p : ℕ) → p ≤ i → j < p + removed_at p log → removed_by log j i ≡ true
removes-at log j zero p l h = grind (arith, lt-ltb)
removes-at log j (suc i) p l h =
    elim (eqb_tells p (suc i)) [
      | inl t ↦ or_left (nat_lt j (suc i + removed_at (suc i) log)) (removed_by log j i) (lt-ltb j (suc i + removed_at (suc i) log) (omega (arith, t.1, ap (λ n. removed_at n log) t.1)))
      | inr f ↦ or_right (nat_lt j (suc i + removed_at (suc i) log)) (removed_by log j i) (removes-at log j i p (omega arith) h)
    ]

-- an event goes if the range of a place up to it reaches past it
pub goes-where : (log : List Edit) (j p : ℕ) → p ≤ j → j < p + removed_at p log → is_removed log j ≡ true
goes-where log j p l h = removes-at log j j p l h

-- No edit.

nil-removed : (j : ℕ) → is_removed [] j ≡ false
nil-removed j = stays-where [] j (λ p l. omega arith)

nil-before : (i : ℕ) → removed_before [] i ≡ 0
nil-before zero = refl
nil-before (suc i) = rw (nil-removed i) (omega (arith, nil-before i))

nil-number : (i : ℕ) → moved_number [] i ≡ i
nil-number i = omega (arith, nil-before i)

map-id : (f : ℕ → ℕ) (o : Option ℕ) → ((n : ℕ) → f n ≡ n) → option_map f o ≡ o
map-id f None h = refl
map-id f (Some n) h = ap (λ x. Some x) (h n)

same-link : (f : ℕ → ℕ) (l : Option Link) → ((n : ℕ) → f n ≡ n) → previous_link (option_map f (link_previous l)) l ≡ l
same-link f None h = refl
same-link f (Some l) h = ap (λ (p : Option ℕ). Some (record l { previous = p })) (map-id f l.previous h)

nil-moved : (e : Event) → moved [] e ≡ e
nil-moved e = ap (λ (l : Option Link). record e { link = l }) (same-link (moved_number []) e.link nil-number)

pub nil-from : (i : ℕ) (es : List Event) → edited_from [] i es ≡ es
nil-from i [] = refl
nil-from i (e ∷ es) = simp (nil-removed, nil-moved, nil-from (suc i) es)

-- no edit changes nothing
pub edited-nil : (es : List Event) → edited [] es ≡ es
edited-nil es = nil-from 0 es

-- How many events there are afterwards, and where.

length-stay : (b : Bool) (x : Event) → length (cond b [] (x ∷ [])) ≡ cond b 0 1
length-stay true x = refl
length-stay false x = refl

length-from : (log : List Edit) (i : ℕ) (es : List Event) →
    length (edited_from log i es) + start log i ≡ moved_number log (i + length es)
length-from log i [] = grind (arith, moved-start)
length-from log i (e ∷ es) = grind (arith, length-from log (suc i) es, length-append, length-stay)

-- as many as the number that an event past the end would have
pub length-edited : (log : List Edit) (es : List Event) → length (edited log es) ≡ moved_number log (length es)
length-edited log es = grind (arith, length-from)

-- what is made so far is as long as what comes before the place
pub placed-from : (log : List Edit) (es done : List Event) (i : ℕ) → i ≤ length es →
    done ++ edited_from log i (drop i es) ≡ edited log es → length done ≡ start log i
placed-from log es done i l h =
    let whole = length-append done (edited_from log i (drop i es)) in
    let rest = length-from log i (drop i es) in
    let all = length-edited log es in
    let e : i + length (drop i es) ≡ length es = omega (arith, length-drop i es) in
    omega (arith, ap length h, ap (moved_number log) e)

-- Two lists of edits, one after the other.

pub front-append : (i : ℕ) (a b : List Edit) → front_at i (a ++ b) ≡ front_at i b ++ front_at i a
front-append i [] b = sym (append-nil (front_at i b))
front-append i (e ∷ a) b = simp (front-append i a b, append_assoc)

pub back-append : (i : ℕ) (a b : List Edit) → back_at i (a ++ b) ≡ back_at i a ++ back_at i b
back-append i [] b = refl
back-append i (e ∷ a) b = simp (back-append i a b, append_assoc)

pub removed-append : (i : ℕ) (a b : List Edit) → removed_at i (a ++ b) ≡ removed_at i a + removed_at i b
removed-append i [] b = omega arith
removed-append i (e ∷ a) b = let r = removed-append i a b in omega arith

tail-all : (P : Edit → Type 0) (e : Edit) (log : List Edit) → All P (e ∷ log) → All P log
tail-all P e log h = λ k d l. h (suc k) d (omega arith)

elsewhere : (e : Edit) (i : ℕ) → e.at ≢ i → (e.at == i) ≡ false
elsewhere e i h = ne_eqb e.at i h

-- where no edit is, nothing comes and nothing goes
pub front-none : (i : ℕ) (log : List Edit) → All (λ e. e.at ≢ i) log → front_at i log ≡ []
front-none i [] h = refl
front-none i (e ∷ log) h =
    let no = elsewhere e i (h 0 e (omega arith)) in
    ap (λ x. x ++ cond (e.at == i && e.before) e.events []) (front-none i log (tail-all (λ x. x.at ≢ i) e log h)) ∙ ap (λ b. cond (b && e.before) e.events []) no

pub back-none : (i : ℕ) (log : List Edit) → All (λ e. e.at ≢ i) log → back_at i log ≡ []
back-none i [] h = refl
back-none i (e ∷ log) h =
    let no = elsewhere e i (h 0 e (omega arith)) in
    ap (λ b. cond (b && not e.before) e.events [] ++ back_at i log) no ∙ back-none i log (tail-all (λ x. x.at ≢ i) e log h)

pub added-none : (i : ℕ) (log : List Edit) → All (λ e. e.at ≢ i) log → added_at i log ≡ []
added-none i log h = ap (λ x. x ++ back_at i log) (front-none i log h) ∙ back-none i log h

pub removed-none : (i : ℕ) (log : List Edit) → All (λ e. e.at ≢ i) log → removed_at i log ≡ 0
removed-none i [] h = refl
removed-none i (e ∷ log) h =
    let no = elsewhere e i (h 0 e (omega arith)) in
    let rest = removed-none i log (tail-all (λ x. x.at ≢ i) e log h) in
    rw no (omega arith)

-- Edits split at a place: those of one list lie before it, those of the other from it on.

module _ (a b : List Edit) (n : ℕ) (low : All (λ e. e.at < n) a) (high : All (λ e. n ≤ e.at) b) where
  not-high : (j : ℕ) → j < n → All (λ e. e.at ≢ j) b
  not-high j l = λ k d h e. let m = high k d h in omega arith

  not-low : (j : ℕ) → n ≤ j → All (λ e. e.at ≢ j) a
  not-low j l = λ k d h e. let m = low k d h in omega arith

  pub added-first : (j : ℕ) → j < n → added_at j (a ++ b) ≡ added_at j a
  added-first j l = simp (front-append, front-none, not-high, back-append, back-none, append-nil)

  pub added-second : (j : ℕ) → n ≤ j → added_at j (a ++ b) ≡ added_at j b
  added-second j l = simp (front-append, front-none, not-low, append-nil, back-append, back-none)

  pub removed-first : (j : ℕ) → j < n → removed_at j (a ++ b) ≡ removed_at j a
  removed-first j l = omega (arith, removed-append j a b, removed-none j b (not-high j l))

  pub removed-second : (j : ℕ) → n ≤ j → removed_at j (a ++ b) ≡ removed_at j b
  removed-second j l = omega (arith, removed-append j a b, removed-none j a (not-low j l))

-- The list split at a place.

-- what becomes of some events from place i on, without what comes behind the last
abbrev pub edited_until : List Edit → ℕ → List Event → List Event
edited_until log i [] = []
edited_until log i (e ∷ es) =
    added_at i log ++ (cond (is_removed log i) [] (moved log e ∷ []) ++ edited_until log (suc i) es)

pub edited-split : (log : List Edit) (i n : ℕ) (xs ys : List Event) → n ≡ i + length xs →
    edited_from log i (xs ++ ys) ≡ edited_until log i xs ++ edited_from log n ys
edited-split log i n [] ys h = ap (λ k. edited_from log k ys) (omega arith)
edited-split log i n (x ∷ xs) ys h =
    let e : n ≡ suc i + length xs = omega arith in
    ap (λ r. added_at i log ++ (cond (is_removed log i) [] (moved log x ∷ []) ++ r)) (edited-split log (suc i) n xs ys e) ∙ ap (λ r. added_at i log ++ r) (sym (append_assoc (cond (is_removed log i) [] (moved log x ∷ [])) (edited_until log (suc i) xs) (edited_from log n ys))) ∙ sym (append_assoc (added_at i log) (cond (is_removed log i) [] (moved log x ∷ []) ++ edited_until log (suc i) xs) (edited_from log n ys))

-- Edits and events that are written out.

abbrev pub each_below : (ℕ → Bool) → ℕ → Bool
each_below p zero = true
each_below p (suc n) = p n && each_below p n

abbrev pub places_test : ℕ → List Edit → Bool
places_test n [] = true
places_test n (e ∷ log) = nat_le e.at n && places_test n log

-- a test of whether edits can be applied, which computes
abbrev pub can_edit : List Edit → List Event → Bool
can_edit log es = places_test (length es) log && each_below (λ j. not (is_removed log j && linked_at es j)) (length es)

each-at : (p : ℕ → Bool) (n j : ℕ) → each_below p n ≡ true → j < n → p j ≡ true
each-at p zero j h l = absurd (omega arith)
each-at p (suc n) j h l =
    elim (eqb_tells j n) [
      | inl t ↦ ap p t.1 ∙ and-left (p n) (each_below p n) h
      | inr f ↦ each-at p n j (and-right (p n) (each_below p n) h) (omega arith)
    ]

places-from : (n : ℕ) (log : List Edit) → places_test n log ≡ true → All (λ e. e.at ≤ n) log
places-from n [] h = λ k d l. absurd (omega arith)
places-from n (e ∷ log) h = grind (arith, leb-true, and-left, places-from n log (and-right (nat_le e.at n) (places_test n log) h), and-right)

not-both : (a b : Bool) → not (a && b) ≡ true → a ≡ true → b ≡ false
not-both true true h g = absurd (false≢true h)
not-both true false h g = refl
not-both false b h g = absurd (false≢true g)

pub CanEdit-from_test : (log : List Edit) (es : List Event) → can_edit log es ≡ true → CanEdit log es
CanEdit-from_test log es h =
    let places = and-left (places_test (length es) log) (each_below (λ j. not (is_removed log j && linked_at es j)) (length es)) h in
    let each = and-right (places_test (length es) log) (each_below (λ j. not (is_removed log j && linked_at es j)) (length es)) h in
    record {
      places = places-from (length es) log places;
      unlinked = λ j r. elim (leb_tells (length es) j) [
        | inl past ↦ linked_at-past es j past.1
        | inr below ↦ not-both (is_removed log j) (linked_at es j) (each-at (λ i. not (is_removed log i && linked_at es i)) (length es) j each below.1) r
      ];
    }

pub edited-empty : (log : List Edit) (es : List Event) → (length log == 0) ≡ true → es ≡ edited log es
edited-empty [] es h = sym (edited-nil es)
edited-empty (e ∷ log) es h = grind (arith, eqb_tells, false≢true)
