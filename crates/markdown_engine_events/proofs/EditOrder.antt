-- Edits in the order of their places, passed place by place.
use Rattle.std.proofs.Common.{suc, ◌≡◌, ◌≢◌, ℕ, ◌+◌, ◌-◌, ◌^◌, ◌<◌, ◌≤◌, ◌==◌, ◌&&◌, not, ◌⊎◌, inl, inr, Bool, true, false, cond, min, max, List, [], ◌∷◌, ◌++◌, length, take, drop, map, get_or, refl, sym, ap, subst, ◌∙◌, arith, append_assoc}
use Rattle.std.specs.List.{All, filter}
use Rattle.std.specs.List.Sorted.{IsPermutation, IsNonDecreasingBy, IsStableByKey, ties}
use Rattle.std.specs.Ordering.{is_lt, nat_cmp}
use Rattle.std.proofs.lemmas.List.{get_or-map, get_or-drop, get_or-take, get_or_default, map_more, take-append-drop, append-nil, length-append, length-map, length-take, length-drop, drop-take, take-take, map-append, take_more, take_all, drop-map, take-map, drop-drop}
use Rattle.std.proofs.lemmas.List.Sorted.{All-permutation, IsPermutation-map, IsNonDecreasingBy-drop, IsNonDecreasingBy-push, IsNonDecreasingBy-short, IsNonDecreasingBy-take}
use Rattle.std.proofs.Math.Nat.{eq-or-lt_of_le}
use Rattle.std.proofs.Math.Seq.{take-append_seam, drop-append_seam}
use Rattle.std.proofs.lemmas.List.Elements.{All-append, All-drop, All-map, All-push, All-take}
use Rattle.std.proofs.lemmas.Bool.{ne_eqb, eq-eqb}
use Rattle.std.proofs.lemmas.Bool.Decides.{nat_tests}
use Rattle.markdown_event.specs.declared.event.Event.{Event}
use Rattle.markdown_engine_events.specs.declared.util.edit_map.Edit.{Edit}
use Rattle.markdown_engine_events.specs.declared.util.edit_map.Entry.{Entry}
use Rattle.markdown_engine_events.specs.EventChains.{IsFresh, IsUnlinked}
use Rattle.markdown_engine_events.specs.Edits.{removed_at, front_at, back_at, added_at, edit_of, kept, AddsUnlinked, AreBrought, AreKept, IsRest}
use Rattle.markdown_engine_events.proofs.EventChainLemmas.{unlinked-fresh}
use Rattle.markdown_engine_events.proofs.EditLemmas.{back_push, removed_push, range-more, KnowsRangeEnds}
use Rattle.markdown_engine_events.proofs.EditRules.{added-none, removed-none, added-first, added-second, removed-first, removed-second}

-- What edits collect at a place is what those at the place collect.

abbrev stands_at : ℕ → Edit → Bool
stands_at i e = e.at == i

-- what follows from either value of a test
pub by_bool : {P : Type 0} (b : Bool) → (b ≡ true → P) → (b ≡ false → P) → P
by_bool true p q = p refl
by_bool false p q = q refl

front-there : (i : ℕ) (log : List Edit) → front_at i log ≡ front_at i (filter (stands_at i) log)
front-there i [] = refl
front-there i (e ∷ log) = grind (arith, by_bool, front-there i log, append-nil)

-- A stable sort by place keeps the edits at each place.

found : {X : Type 0} (p : X → Bool) (xs : List X) → ((x : X) × (p x ≡ true)) ⊎ (filter p xs ≡ [])
found p [] = inr refl
found p (x ∷ xs) = grind (arith, by_bool, found p xs)

ties-number : (a b i : ℕ) → (a == i) ≡ true → (not (is_lt (nat_cmp a b)) && not (is_lt (nat_cmp b a))) ≡ (b == i)
ties-number a b i h = grind (arith, nat_tests)

filter-same : {X : Type 0} (p q : X → Bool) → ((x : X) → p x ≡ q x) → (xs : List X) → filter p xs ≡ filter q xs
filter-same p q h xs = ap (λ (r : _ → Bool). filter r xs) (λ j x. h x j)

module _ {X : Type 0} (n : X → ℕ) (xs ys : List X) (stable : IsStableByKey n nat_cmp xs ys) (i : ℕ) where
  at_tie : (x : X) → (n x == i) ≡ true → filter (λ y. n y == i) ys ≡ filter (λ y. n y == i) xs
  at_tie x h =
      let same = λ (y : X). ties-number (n x) (n y) i h in
      let lt = λ (a b : X). is_lt (nat_cmp (n a) (n b)) in
      sym (filter-same (ties lt x) (λ y. n y == i) same ys) ∙ stable x ∙ filter-same (ties lt x) (λ y. n y == i) same xs

  stays_there : filter (λ y. n y == i) ys ≡ filter (λ y. n y == i) xs
  stays_there = grind (arith, found, at_tie)

filter-kept : (cs : List Event) (p : Edit → Bool) (es : List Entry) →
    filter p (kept cs es) ≡ kept cs (filter (λ e. p (edit_of cs e)) es)
filter-kept cs p [] = refl
filter-kept cs p (e ∷ es) = grind (arith, by_bool, filter-kept cs p es)

back-there : (i : ℕ) (log : List Edit) → back_at i log ≡ back_at i (filter (stands_at i) log)
back-there i [] = refl
back-there i (e ∷ log) = grind (arith, by_bool, back-there i log)

removed-there : (i : ℕ) (log : List Edit) → removed_at i log ≡ removed_at i (filter (stands_at i) log)
removed-there i [] = refl
removed-there i (e ∷ log) = grind (arith, by_bool, removed-there i log)

rises-map : {X Y : Type 0} (f : X → Y) (n : Y → ℕ) (xs : List X) → IsNonDecreasingBy (λ x. n (f x)) xs →
    IsNonDecreasingBy n (map f xs)
rises-map f n [] up = λ i j d l h. absurd (omega arith)
rises-map f n (x ∷ xs) up = λ i j d l h.
    let size = length-map (x ∷ xs) f in
    let low : i < length (x ∷ xs) = omega arith in
    let high : j < length (x ∷ xs) = omega arith in
    let le = up i j x l high in
    omega (arith, ap n (get_or-map f (x ∷ xs) i x d low), ap n (get_or-map f (x ∷ xs) j x d high))

-- edits sorted by place collect what the log collects
pub rest-sorted : (cs : List Event) (xs ys : List Entry) → AddsUnlinked (kept cs xs) → IsPermutation xs ys →
    IsNonDecreasingBy (λ e. e.at) ys → IsStableByKey (λ e. e.at) nat_cmp xs ys → IsRest 0 (kept cs xs) (kept cs ys)
rest-sorted cs xs ys plain moved up stable =
    let log = kept cs xs in
    let same = λ (i : ℕ). filter-kept cs (stands_at i) ys ∙ ap (kept cs) (stays_there (λ (e : Entry). e.at) xs ys stable i) ∙ sym (filter-kept cs (stands_at i) xs) in
    record {
      ahead = λ k d l. omega arith;
      rises = rises-map (edit_of cs) (λ (e : Edit). e.at) ys up;
      plain = All-permutation (λ (e : Edit). All IsUnlinked e.events) log (kept cs ys) (IsPermutation-map (edit_of cs) xs ys moved) plain;
      added = λ i l. ap (λ x. x ++ back_at i (kept cs ys)) (front-there i (kept cs ys) ∙ ap (front_at i) (same i) ∙ sym (front-there i log)) ∙ ap (λ x. front_at i log ++ x) (back-there i (kept cs ys) ∙ ap (back_at i) (same i) ∙ sym (back-there i log));
      removed = λ i l. removed-there i (kept cs ys) ∙ ap (removed_at i) (same i) ∙ sym (removed-there i log);
    }

-- edits that are in order as they were added
pub rest-added : (cs : List Event) (xs : List Entry) → AddsUnlinked (kept cs xs) → IsNonDecreasingBy (λ e. e.at) xs →
    IsRest 0 (kept cs xs) (kept cs xs)
rest-added cs xs plain up = record {
  ahead = λ k d l. omega arith;
  rises = rises-map (edit_of cs) (λ (e : Edit). e.at) xs up;
  plain = plain;
  added = λ i l. refl;
  removed = λ i l. refl;
}

-- The edits at one place, passed.

module _ (i k : ℕ) (es : List Edit) (rest : IsRest i es es) (within : k ≤ length es) (here : All (λ e. e.at ≡ i) (take k es)) (next : (e : Edit) → k < length es → (get_or es k e).at ≢ i) where
  low : All (λ e. e.at < i + 1) (take k es)
  low = λ j d l. let at = here j d l in omega arith

  high : All (λ e. i + 1 ≤ e.at) (drop k es)
  high = grind (arith, length-drop, get_or-drop)

  whole : take k es ++ drop k es ≡ es
  whole = take-append-drop k es

  pub added-here : front_at i (take k es) ++ back_at i (take k es) ≡ added_at i es
  added-here = sym (added-first (take k es) (drop k es) (i + 1) low high i (omega arith)) ∙ ap (added_at i) whole

  pub removed-here : removed_at i (take k es) ≡ removed_at i es
  removed-here = sym (removed-first (take k es) (drop k es) (i + 1) low high i (omega arith)) ∙ ap (removed_at i) whole

  pub rest-behind : IsRest (i + 1) es (drop k es)
  rest-behind = record {
    ahead = high;
    rises = IsNonDecreasingBy-drop (λ e. e.at) k es rest.rises;
    plain = All-drop (λ (e : Edit). All IsUnlinked e.events) k es rest.plain;
    added = λ j l. sym (added-second (take k es) (drop k es) (i + 1) low high j l) ∙ ap (added_at j) whole;
    removed = λ j l. sym (removed-second (take k es) (drop k es) (i + 1) low high j l) ∙ ap (removed_at j) whole;
  }

-- what is left of what is left of a log
pub rest-trans : (n m : ℕ) (log a b : List Edit) → n ≤ m → IsRest n log a → IsRest m a b → IsRest m log b
rest-trans n m log a b l r s = grind (arith)

-- Edits that entries keep, read one by one.

abbrev pub none : Entry
none = record { at = 0; remove = 0; from = 0; to = 0; before = false }

abbrev pub entry : List Entry → ℕ → Entry
entry es k = get_or es k none

pub kept-read : (cs : List Event) (es : List Entry) (k : ℕ) → k < length es → (e : Edit) →
    get_or (kept cs es) k e ≡ edit_of cs (entry es k)
kept-read cs es k l e = get_or-map (edit_of cs) es k none e l

kept-more : (cs : List Event) (es : List Entry) (k : ℕ) → k < length es →
    kept cs (take (k + 1) es) ≡ kept cs (take k es) ++ edit_of cs (entry es k) ∷ []
kept-more cs es k l = map_more (edit_of cs) es k none l

plain-read : (cs : List Event) (r : Entry) (xs : List Event) → All IsUnlinked cs → xs ≡ (edit_of cs r).events →
    All IsUnlinked xs
plain-read cs r xs u h =
    let P : List Event → Type 0 = λ ys. All IsUnlinked ys in
    subst P (sym h) (All-take IsUnlinked (r.to - r.from) (drop r.from cs) (All-drop IsUnlinked r.from cs u))

pub fresh-read : (cs : List Event) (r : Entry) (xs : List Event) → All IsUnlinked cs → xs ≡ (edit_of cs r).events →
    All IsFresh xs
fresh-read cs r xs u h = λ k d l. unlinked-fresh (get_or xs k d) (plain-read cs r xs u h k d l)

pub here-more : (i : ℕ) (es : List Entry) (k : ℕ) → k < length es → (entry es k).at ≡ i →
    All (λ e. e.at ≡ i) (take k es) → All (λ e. e.at ≡ i) (take (k + 1) es)
here-more i es k l at all =
    let P : List Entry → Type 0 = λ ys. All (λ e. e.at ≡ i) ys in
    subst P (sym (take_more es k none l)) (All-push (λ (e : Entry). e.at ≡ i) (take k es) (entry es k) all at)

pub at-place : (a i n : ℕ) → a ≡ i → cond (a == i) n 0 ≡ n
at-place a i n h = grind (arith, nat_tests)

pub at-other : (a i n : ℕ) → a ≢ i → cond (a == i) n 0 ≡ 0
at-other a i n h = rw (ne_eqb a i h) refl

pub removed-left : (cs : List Event) (i : ℕ) (es : List Entry) (k : ℕ) (a : ℕ) → k < length es →
    a ≡ min (removed_at i (kept cs (take k es))) (2 ^ 64 - 1) → (entry es k).at ≢ i →
    a ≡ min (removed_at i (kept cs (take (k + 1) es))) (2 ^ 64 - 1)
removed-left cs i es k a l g other =
    omega (arith, ap (removed_at i) (kept-more cs es k l), removed_push i (kept cs (take k es)) (edit_of cs (entry es k)), at-other (entry es k).at i (entry es k).remove other)

pub removed-more : (cs : List Event) (i : ℕ) (es : List Entry) (k : ℕ) (a b : ℕ) → k < length es →
    a ≡ min (removed_at i (kept cs (take k es))) (2 ^ 64 - 1) → b ≡ min (a + (entry es k).remove) (2 ^ 64 - 1) →
    (entry es k).at ≡ i → b ≡ min (removed_at i (kept cs (take (k + 1) es))) (2 ^ 64 - 1)
removed-more cs i es k a b l g m at =
    omega (arith, ap (removed_at i) (kept-more cs es k l), removed_push i (kept cs (take k es)) (edit_of cs (entry es k)), at-place (entry es k).at i (entry es k).remove at)

pub backs-more : (cs : List Event) (i : ℕ) (es : List Entry) (k : ℕ) (xs ys zs : List Event) → k < length es →
    ys ≡ xs ++ back_at i (kept cs (take k es)) →
    zs ≡ ys ++ cond ((entry es k).at == i && not (entry es k).before) (edit_of cs (entry es k)).events [] →
    zs ≡ xs ++ back_at i (kept cs (take (k + 1) es))
backs-more cs i es k xs ys zs l g m = grind (arith, append_assoc, kept-more, back_push)

-- Edits in order, one by one.

pub first-rises : (es : List Entry) → IsNonDecreasingBy (λ e. e.at) (take 1 es)
first-rises es = IsNonDecreasingBy-short (λ (e : Entry). e.at) (take 1 es) (omega (arith, length-take 1 es))

pub rises-more : (es : List Entry) (k : ℕ) → 1 ≤ k → k < length es → (entry es (k - 1)).at ≤ (entry es k).at →
    IsNonDecreasingBy (λ e. e.at) (take k es) → IsNonDecreasingBy (λ e. e.at) (take (k + 1) es)
rises-more es k l h le up =
    let size = length-take k es in
    let last : length (take k es) - 1 ≡ k - 1 = omega arith in
    let below : k - 1 < length es = omega arith in
    let read = λ (d : Entry). ap (λ n. get_or (take k es) n d) last ∙ get_or-take k es (k - 1) d (omega arith) ∙ get_or_default es (k - 1) d none below in
    subst (IsNonDecreasingBy (λ (e : Entry). e.at)) (sym (take_more es k none h)) (IsNonDecreasingBy-push (λ (e : Entry). e.at) (take k es) (entry es k) up (λ d m. omega (arith, ap (λ (e : Entry). e.at) (read d))))

pub all-rise : (es : List Entry) (k : ℕ) → length es ≤ k → IsNonDecreasingBy (λ e. e.at) (take k es) →
    IsNonDecreasingBy (λ e. e.at) es
all-rise es k l up = subst (IsNonDecreasingBy (λ (e : Entry). e.at)) (take_all k es l) up

-- what an edit puts behind others at a place
pub comes-behind : (r : Edit) (i : ℕ) (xs : List Event) → r.at ≡ i → r.before ≡ false → xs ≡ r.events →
    xs ≡ cond (r.at == i && not r.before) r.events []
comes-behind r i xs at b h = grind (arith, eq-eqb)

pub none-behind : (r : Edit) (i : ℕ) (ys : List Event) → r.before ≡ true →
    ys ≡ ys ++ cond (r.at == i && not r.before) r.events []
none-behind r i ys b = grind (arith, append-nil)

pub none-elsewhere : (r : Edit) (i : ℕ) (ys : List Event) → r.at ≢ i →
    ys ≡ ys ++ cond (r.at == i && not r.before) r.events []
none-elsewhere r i ys other = rw (ne_eqb r.at i other) (sym (append-nil ys))

-- One edit that stands at a place by itself.

pub one-comes : (e : Edit) (i : ℕ) (b : Bool) → e.at ≡ i → e.before ≡ b → added_at i (e ∷ []) ≡ e.events
one-comes e i true at b = rw (eq-eqb e.at i at) (rw b (append-nil e.events))
one-comes e i false at b = rw (eq-eqb e.at i at) (rw b (append-nil e.events))

pub one-added : (cs : List Event) (i : ℕ) (es : List Entry) → length es ≡ 1 → All (λ e. e.at ≡ i) es →
    added_at i (kept cs es) ≡ (edit_of cs (entry es 0)).events
one-added cs i [] one here = absurd (omega arith)
one-added cs i (x ∷ []) one here = one-comes (edit_of cs x) i x.before (here 0 x (omega arith)) refl
one-added cs i (x ∷ y ∷ es) one here = absurd (omega arith)

pub one-removed : (cs : List Event) (i : ℕ) (es : List Entry) → length es ≡ 1 → All (λ e. e.at ≡ i) es →
    removed_at i (kept cs es) ≡ (entry es 0).remove
one-removed cs i [] one here = absurd (omega arith)
one-removed cs i (x ∷ []) one here = omega (arith, at-place x.at i x.remove (here 0 x (omega arith)))
one-removed cs i (x ∷ y ∷ es) one here = absurd (omega arith)

-- edits that are kept bring no event with a link
pub adds-unlinked : (cs : List Event) (es : List Entry) → All IsUnlinked cs → AddsUnlinked (kept cs es)
adds-unlinked cs es u =
    All-map (λ (e : Edit). All IsUnlinked e.events) (edit_of cs) es (λ k d l. plain-read cs (get_or es k d) _ u refl)

-- A part of the edits that are kept.

kept-tail : (cs : List Event) (es : List Entry) (p : ℕ) →
    kept cs (take (length es - p) (drop p es)) ≡ drop p (kept cs es)
kept-tail cs es p = grind (arith, take_all, length-drop, drop-map)

kept-at : (cs : List Event) (i : ℕ) (es : List Entry) → All (λ e. e.at ≡ i) es → All (λ e. e.at ≡ i) (kept cs es)
kept-at cs i es h = All-map (λ (e : Edit). e.at ≡ i) (edit_of cs) es h

pub brought-sorted : (cs : List Event) (xs ys : List Entry) → IsPermutation xs ys → AreBrought cs xs → AreBrought cs ys
brought-sorted cs xs ys moved b = record {
  order = All-permutation (λ (e : Entry). e.from ≤ e.to) xs ys moved b.order;
  within = All-permutation (λ (e : Entry). e.to ≤ length cs) xs ys moved b.within;
  unlinked = b.unlinked;
}

-- Edits that are added and taken off.

cut-events : (cs : List Event) (a b e : ℕ) → a ≤ b → b ≤ e →
    take (b - a) (drop a (take e cs)) ≡ take (b - a) (drop a cs)
cut-events cs a b e l h =
    let all : a + (e - a) ≡ e = omega arith in
    ap (λ n. take (b - a) (drop a (take n cs))) (sym all) ∙ ap (take (b - a)) (drop-take a (e - a) cs) ∙ take-take (b - a) (e - a) (drop a cs) (omega arith)

-- the first of the events are enough for edits that bring none of the others
kept-cut : (cs : List Event) (e : ℕ) (es : List Entry) → All (λ x. x.from ≤ x.to) es → All (λ x. x.to ≤ e) es →
    kept (take e cs) es ≡ kept cs es
kept-cut cs e [] o w = refl
kept-cut cs e (x ∷ es) o w =
    let first : edit_of (take e cs) x ≡ edit_of cs x = ap (λ (xs : List Event). record { at = x.at; remove = x.remove; events = xs; before = x.before }) (cut-events cs x.from x.to e (o 0 x (omega arith)) (w 0 x (omega arith))) in
    ap (λ y. y ∷ kept (take e cs) es) first ∙ ap (λ ys. edit_of cs x ∷ ys) (kept-cut cs e es (λ k d l. o (suc k) d (omega arith)) (λ k d l. w (suc k) d (omega arith)))

pub all-below : (es : List Entry) (n : ℕ) → 0 < n → n ≤ length es → IsNonDecreasingBy (λ e. e.to) es →
    All (λ e. e.to ≤ (entry es (n - 1)).to) (take n es)
all-below es n p l up = λ k d h.
    let size = length-take n es in
    let low : k < n = omega arith in
    let read = ap (λ (e : Entry). e.to) (get_or-take n es k d low ∙ get_or_default es k d none (omega arith)) in
    let le = up k (n - 1) none (omega arith) (omega arith) in
    omega (arith, read)

-- the first edits, with the events that they bring
module _ (cs : List Event) (es : List Entry) (n e : ℕ) (k : AreKept cs es) (below : All (λ x. x.to ≤ e) (take n es)) where
  pub kept-first : kept (take e cs) (take n es) ≡ take n (kept cs es)
  kept-first =
      kept-cut cs e (take n es) (All-take (λ (x : Entry). x.from ≤ x.to) n es k.brought.order) below ∙ sym (take-map (edit_of cs) n es)

  pub are-first : AreKept (take e cs) (take n es)
  are-first =
      let size = length-take e cs in
      let all = All-take (λ (x : Entry). x.to ≤ length cs) n es k.brought.within in
      record {
        brought = record {
          order = All-take (λ (x : Entry). x.from ≤ x.to) n es k.brought.order;
          within = λ j d l. let a = all j d l in let b = below j d l in omega arith;
          unlinked = All-take IsUnlinked e cs k.brought.unlinked;
        };
        rises = IsNonDecreasingBy-take (λ (x : Entry). x.to) n es k.rises;
      }

pub first-seen : (cs ds : List Event) (es fs gs : List Entry) (n e : ℕ) → fs ≡ es → gs ≡ take n es → ds ≡ take e cs →
    AreKept cs es → (IsNonDecreasingBy (λ x. x.to) fs → All (λ x. x.to ≤ e) (take n fs)) →
    (kept ds gs ≡ take n (kept cs es)) × AreKept ds gs
first-seen cs ds es fs gs n e seen cut short k low =
    let below = subst (λ (xs : List Entry). IsNonDecreasingBy (λ x. x.to) xs → All (λ x. x.to ≤ e) (take n xs)) seen low k.rises in (
      ap (λ xs. kept xs gs) short ∙ ap (kept (take e cs)) cut ∙ kept-first cs es n e k below,
      subst (λ (xs : List Event). AreKept xs gs) (sym short) (subst (λ (xs : List Entry). AreKept (take e cs) xs) (sym cut) (are-first cs es n e k below)),
    )

-- one edit more, with the events that it brings
module _ (cs xs : List Event) (es : List Entry) (k : AreKept cs es) (x : Entry) (from : x.from ≡ length cs) (to : x.to ≡ length (cs ++ xs)) where
  before-same : kept (cs ++ xs) es ≡ kept cs es
  before-same =
      sym (kept-cut (cs ++ xs) (length cs) es k.brought.order k.brought.within) ∙ ap (λ ys. kept ys es) (take-append_seam cs xs)

  size-both : length (cs ++ xs) ≡ length cs + length xs
  size-both = length-append cs xs

  last-events : take (x.to - x.from) (drop x.from (cs ++ xs)) ≡ xs
  last-events = grind (arith, size-both, drop-append_seam, take_all)

  pub kept-pushed : kept (cs ++ xs) (es ++ x ∷ []) ≡ kept cs es ++ (record { at = x.at; remove = x.remove; events = xs; before = x.before }) ∷ []
  kept-pushed = simp (map-append, before-same, last-events)

  pub are-pushed : All IsUnlinked xs → AreKept (cs ++ xs) (es ++ x ∷ [])
  are-pushed u =
      let size = size-both in
      record {
        brought = record {
          order = All-push (λ (e : Entry). e.from ≤ e.to) es x k.brought.order (omega arith);
          within = All-push (λ (e : Entry). e.to ≤ length (cs ++ xs)) es x (λ j d l. let w = k.brought.within j d l in omega arith) (omega arith);
          unlinked = All-append IsUnlinked cs xs k.brought.unlinked u;
        };
        rises = IsNonDecreasingBy-push (λ (e : Entry). e.to) es x k.rises (λ d p. let w = k.brought.within (length es - 1) d (omega arith) in omega arith);
      }

pub pushed-seen : (cs ds xs : List Event) (es fs : List Entry) (x : Entry) → ds ≡ cs ++ xs → fs ≡ es ++ x ∷ [] →
    x.from ≡ length cs → x.to ≡ length ds → AreKept cs es → All IsUnlinked xs →
    (kept ds fs ≡ kept cs es ++ (record { at = x.at; remove = x.remove; events = xs; before = x.before }) ∷ []) × AreKept ds fs
pushed-seen cs ds xs es fs x more longer from to k u =
    let end = to ∙ ap length more in (
      grind (arith, kept-pushed),
      subst (λ (ys : List Event). AreKept ys fs) (sym more) (subst (λ (ys : List Entry). AreKept (cs ++ xs) ys) (sym longer) (are-pushed cs xs es k x from end u)),
    )

-- events are taken back off
pub taken-back : (cs ds es xs : List Event) (n : ℕ) → ds ≡ take n es → es ≡ cs ++ xs → n ≡ length cs → ds ≡ cs
taken-back cs ds es xs n h more size = grind (arith, take-append_seam)

pub kept-seen : (cs ds : List Event) (es fs : List Entry) → ds ≡ cs → fs ≡ es → AreKept cs es → AreKept ds fs
kept-seen cs ds es fs h g k = grind arith

pub view-seen : (cs ds : List Event) (es fs : List Entry) (log : List Edit) → ds ≡ cs → fs ≡ es → kept cs es ≡ log →
    kept ds fs ≡ log
view-seen cs ds es fs log h g k = ap (λ (xs : List Event). kept xs fs) h ∙ ap (λ (ys : List Entry). kept cs ys) g ∙ k

-- what is read of a map

pub brought-seen : (cs ds : List Event) (es fs : List Entry) → ds ≡ cs → fs ≡ es → AreBrought cs es → AreBrought ds fs
brought-seen cs ds es fs h g b = grind arith

pub rest-seen : (cs ds : List Event) (es fs gs : List Entry) (log : List Edit) → ds ≡ cs → fs ≡ es → kept cs es ≡ log →
    IsRest 0 (kept ds fs) (kept ds gs) → IsRest 0 log (kept ds gs)
rest-seen cs ds es fs gs log h g k r = grind arith

-- edits at a place bring events as all do
pub brought-here : (cs : List Event) (es : List Entry) (p k : ℕ) → AreBrought cs es →
    AreBrought cs (take k (take (length es - p) (drop p es)))
brought-here cs es p k b = record {
  order = All-take (λ (e : Entry). e.from ≤ e.to) k (take (length es - p) (drop p es)) (All-take (λ (e : Entry). e.from ≤ e.to) (length es - p) (drop p es) (All-drop (λ (e : Entry). e.from ≤ e.to) p es b.order));
  within = All-take (λ (e : Entry). e.to ≤ length cs) k (take (length es - p) (drop p es)) (All-take (λ (e : Entry). e.to ≤ length cs) (length es - p) (drop p es) (All-drop (λ (e : Entry). e.to ≤ length cs) p es b.within));
  unlinked = b.unlinked;
}

-- what passing k edits at place i does to what is left from edit p on
pub record Passing (cs : List Event) (i k p : ℕ) (es : List Entry) : Type 0 where
  pub plain : AddsUnlinked (kept cs (take k (take (length es - p) (drop p es))))
  pub added : front_at i (kept cs (take k (take (length es - p) (drop p es)))) ++ back_at i (kept cs (take k (take (length es - p) (drop p es)))) ≡ added_at i (drop p (kept cs es))
  pub removed : removed_at i (kept cs (take k (take (length es - p) (drop p es)))) ≡ removed_at i (drop p (kept cs es))
  pub behind : IsRest (i + 1) (drop p (kept cs es)) (drop (p + k) (kept cs es))

pub passing : (cs : List Event) (i k p : ℕ) (es : List Entry) → IsRest i (drop p (kept cs es)) (drop p (kept cs es)) →
    k ≤ length (take (length es - p) (drop p es)) → All (λ e. e.at ≡ i) (take k (take (length es - p) (drop p es))) →
    ((e : Entry) → k < length (take (length es - p) (drop p es)) → (get_or (take (length es - p) (drop p es)) k e).at ≢ i) →
    Passing cs i k p es
passing cs i k p es rest within here next =
    let tail = take (length es - p) (drop p es) in
    let is : kept cs tail ≡ drop p (kept cs es) = kept-tail cs es p in
    let R : List Edit → Type 0 = λ r. IsRest i r r in
    let B : List Edit → Type 0 = λ r. IsRest (i + 1) r (drop k r) in
    let C : List Edit → Type 0 = λ r. IsRest (i + 1) (drop p (kept cs es)) r in
    let part : kept cs (take k tail) ≡ take k (kept cs tail) = sym (take-map (edit_of cs) k tail) in
    let size = length-map tail (edit_of cs) in
    let self : IsRest i (kept cs tail) (kept cs tail) = subst R (sym is) rest in
    let low : k ≤ length (kept cs tail) = omega arith in
    let there : All (λ e. e.at ≡ i) (take k (kept cs tail)) = subst (λ (r : List Edit). All (λ e. e.at ≡ i) r) part (kept-at cs i (take k tail) here) in
    let other = λ (e : Edit) (l : k < length (kept cs tail)) (h : (get_or (kept cs tail) k e).at ≡ i). next none (omega arith) (sym (ap (λ (x : Edit). x.at) (get_or-map (edit_of cs) tail k none e (omega arith))) ∙ h) in
    let P : List Edit → Type 0 = λ r. AddsUnlinked r in
    record {
      plain = subst P (sym part) (All-take (λ (e : Edit). All IsUnlinked e.events) k (kept cs tail) self.plain);
      added = ap (λ r. front_at i r ++ back_at i r) part ∙ added-here i k (kept cs tail) self low there other ∙ ap (added_at i) is;
      removed = ap (removed_at i) part ∙ removed-here i k (kept cs tail) self low there other ∙ ap (removed_at i) is;
      behind = subst C (drop-drop k p (kept cs es)) (subst B is (rest-behind i k (kept cs tail) self low there other));
    }

-- One place passed, of what the log leaves.

module _ (log : List Edit) (i p : ℕ) (es : List Edit) (left : IsRest i log (drop p es)) where
  pub put-place : (done put : List Event) → put ≡ done ++ added_at i (drop p es) → put ≡ done ++ added_at i log
  put-place done put h = h ∙ ap (λ x. done ++ x) (left.added i (omega arith))

  pub rest-place : (q : ℕ) → IsRest (i + 1) (drop p es) (drop q es) → IsRest (i + 1) log (drop q es)
  rest-place q r = rest-trans i (i + 1) log (drop p es) (drop q es) (omega arith) left r

  pub range-place : (a b : ℕ) → i < 2 ^ 64 - 1 → KnowsRangeEnds log i i a →
      b ≡ max a (min (i + min (removed_at i (drop p es)) (2 ^ 64 - 1)) (2 ^ 64 - 1)) → KnowsRangeEnds log i (i + 1) b
  range-place a b l h g = grind (arith, range-more)

-- Up to the next edit.

first-left : (cs : List Event) (es : List Entry) (p : ℕ) → p < length es → (d : Edit) →
    get_or (drop p (kept cs es)) 0 d ≡ edit_of cs (entry es p)
first-left cs es p l d = grind (arith, get_or-drop, kept-read)

left-size : (cs : List Event) (es : List Entry) (p : ℕ) → length (drop p (kept cs es)) ≡ length es - p
left-size cs es p = length-drop p (kept cs es) ∙ ap (λ n. n - p) (length-map es (edit_of cs))

pub next-from : (cs : List Event) (es : List Entry) (p n : ℕ) → p < length es →
    All (λ e. n ≤ e.at) (drop p (kept cs es)) → n ≤ (entry es p).at
next-from cs es p n l all =
    let size = left-size cs es p in
    let low = all 0 (edit_of cs (entry es p)) (omega arith) in
    omega (arith, ap (λ (e : Edit). e.at) (first-left cs es p l (edit_of cs (entry es p))))

pub next-rest : (cs : List Event) (es : List Entry) (p t : ℕ) → p < length es → t ≤ (entry es p).at →
    IsNonDecreasingBy (λ e. e.at) (drop p (kept cs es)) → All (λ e. t ≤ e.at) (drop p (kept cs es))
next-rest cs es p t l le up = grind (arith, first-left)

-- the edits left lie from a later place on
pub rest-later : (n m : ℕ) (log a : List Edit) → n ≤ m → IsRest n log a → All (λ e. m ≤ e.at) a → IsRest m log a
rest-later n m log a l r h = grind arith

pub rest-self : (n m : ℕ) (log a : List Edit) → m ≤ n → IsRest n log a → IsRest m a a
rest-self n m log a l r = grind (arith, low)

-- A place at which no edit of those left stands.

-- the first of them stands behind it, if there is one, and so do all
pub left-behind : (cs : List Event) (es : List Entry) (p i : ℕ) → IsRest i (drop p (kept cs es)) (drop p (kept cs es)) →
    (length es ≤ p) ⊎ ((p < length es) × ((entry es p).at ≢ i)) → All (λ e. i + 1 ≤ e.at) (drop p (kept cs es))
left-behind cs es p i left (inl past) = λ k d l. let size = left-size cs es p in absurd (omega arith)
left-behind cs es p i left (inr next) =
    let low = next-from cs es p i next.0 left.ahead in
    let above : i + 1 ≤ (entry es p).at = elim (eq-or-lt_of_le low) [ inl same ↦ absurd (next.1 (sym same)) | inr less ↦ omega (arith, less) ] in
    next-rest cs es p (i + 1) next.0 above left.rises

module _ (i : ℕ) (left : List Edit) (ahead : All (λ e. i + 1 ≤ e.at) left) where
  elsewhere_all : All (λ e. e.at ≢ i) left
  elsewhere_all = λ k d l h. let low = ahead k d l in absurd (omega (arith, h))

  pub nothing-added : added_at i left ≡ []
  nothing-added = added-none i left elsewhere_all

  pub nothing-removed : removed_at i left ≡ 0
  nothing-removed = removed-none i left elsewhere_all
