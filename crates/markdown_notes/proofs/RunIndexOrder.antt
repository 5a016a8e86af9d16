-- Entries in order: where a search by halving ends, and what an edit there leaves.
use Rattle.std.proofs.Common.{◌≡◌, ℕ, zero, suc, ◌<◌, ◌≤◌, Some, None, List, [], ◌∷◌, length, get_or, set, cond, Result, Ok, Err, IfOk, IfErr, refl, sym, ap, ◌∙◌, arith}
use Rattle.std.specs.BTreeMap.{insert_entry}
use Rattle.std.specs.Cmp.{IsTotalOrder}
use Rattle.std.specs.List.{AllByRecursion, AllWithin, HoldsAt, insert}
use Rattle.std.specs.List.Sorted.{IsStrictlySortedBy, IsNonDecreasingBy, IsSearchInRange, IsBinarySearchResult}
use Rattle.std.specs.Map.{keys_of}
use Rattle.std.specs.Ordering.{is_eq, match_ordering, ordering_index, ordering_reverse}
use Rattle.std.specs.declared.cmp.Ordering.{Ordering}
use Rattle.std.specs.declared.cmp.Ordering.TheVariants.{Less, Equal, Greater}
use Rattle.std.proofs.lemmas.Cmp.{nat_cmp_total, on_total, then_total}
use Rattle.markdown_notes.specs.RunIndex.{Key, key_cmp, entry_at, AreEntriesInOrder, IsAt, IsGapFor}
use Rattle.markdown_notes.proofs.RunIndexFacts.{equal-key}

key-total : IsTotalOrder key_cmp
key-total = then_total (on_total (λ (k : Key). k.0) nat_cmp_total) (on_total (λ (k : Key). k.1) nat_cmp_total)

-- the answer the other way round
turned : (a b : Key) (o : Ordering) → key_cmp a b ≡ o → key_cmp b a ≡ ordering_reverse o
turned a b o h = key-total.antisymm b a ∙ ap ordering_reverse h

-- The answers rise.

at-most : (o : Ordering) → ordering_index o ≤ ordering_index Greater
at-most Less = omega arith
at-most Equal = omega arith
at-most Greater = omega arith

lower : (a b k : Key) → key_cmp a b ≡ Less → ordering_index (key_cmp a k) ≤ ordering_index (key_cmp b k)
lower a b k h = grind (arith, key-total, turned, at-most)

key-in : (P : Key → Type 0) (es : List (Key × ℕ)) (j : ℕ) (d : Key × ℕ) → AllByRecursion P (keys_of es) → j < length es → P (get_or es j d).0
key-in P [] j d all lt = absurd (omega (arith, lt))
key-in P (e ∷ es) zero d all lt = all.0
key-in P (e ∷ es) (suc j) d all lt = key-in P es j d all.1 (omega (arith, lt))

rises : (k : Key) (es : List (Key × ℕ)) → AreEntriesInOrder es → IsNonDecreasingBy (λ e. ordering_index (key_cmp e.0 k)) es
unfolding IsStrictlySortedBy
rises k [] s i j d le lt = absurd (omega (arith, lt))
rises k (e ∷ es) s zero zero d le lt = omega arith
rises k (e ∷ es) s zero (suc j) d le lt = lower e.0 (get_or es j d).0 k (key-in (λ y. key_cmp e.0 y ≡ Less) es j d s.0 (omega (arith, lt)))
rises k (e ∷ es) s (suc i) zero d le lt = absurd (omega (arith, le))
rises k (e ∷ es) s (suc i) (suc j) d le lt = rises k es s.1 i j d (omega (arith, le)) (omega (arith, lt))

-- Where a search ends.

put-at : (k : Key) (at : ℕ) (e : Key × ℕ) (es : List (Key × ℕ)) (o : Ordering) → key_cmp k e.0 ≡ o →
    insert_entry key_cmp (e ∷ es) k at ≡ match_ordering o ((k, at) ∷ e ∷ es) ((e.0, at) ∷ es) (e ∷ insert_entry key_cmp es k at)
put-at k at e es o h = ap (λ x. match_ordering x ((k, at) ∷ e ∷ es) ((e.0, at) ∷ es) (e ∷ insert_entry key_cmp es k at)) h

entry-of : (k : Key) (e : Key × ℕ) (es : List (Key × ℕ)) (o : Ordering) → key_cmp k e.0 ≡ o →
    entry_at k (e ∷ es) ≡ cond (is_eq o) (Some e.1) (entry_at k es)
entry-of k e es o h = ap (λ x. cond (is_eq x) (Some e.1) (entry_at k es)) h

-- between those below and those above
gap-takes : (k : Key) (at : ℕ) (es : List (Key × ℕ)) (i : ℕ) → i ≤ length es →
    AllWithin (λ e. key_cmp e.0 k ≡ Less) es 0 i → AllWithin (λ e. key_cmp e.0 k ≡ Greater) es i (length es) →
    insert es i (k, at) ≡ insert_entry key_cmp es k at
gap-takes k at [] zero le low high = refl
gap-takes k at [] (suc i) le low high = absurd (omega (arith, le))
gap-takes k at (e ∷ es) zero le low high = sym (put-at k at e es Less (turned e.0 k Greater (high 0 e (omega arith) (omega arith))))
gap-takes k at (e ∷ es) (suc i) le low high =
    ap (λ xs. e ∷ xs) (gap-takes k at es i (omega (arith, le)) (λ j d from to. low (suc j) d (omega arith) (omega (arith, to))) (λ j d from to. high (suc j) d (omega (arith, from)) (omega (arith, to))))
    ∙ sym (put-at k at e es Greater (turned e.0 k Less (low 0 e (omega arith) (omega arith))))

gap-lacks : (k : Key) (es : List (Key × ℕ)) (i : ℕ) →
    AllWithin (λ e. key_cmp e.0 k ≡ Less) es 0 i → AllWithin (λ e. key_cmp e.0 k ≡ Greater) es i (length es) →
    entry_at k es ≡ None
gap-lacks k [] i low high = refl
gap-lacks k (e ∷ es) zero low high =
    entry-of k e es Less (turned e.0 k Greater (high 0 e (omega arith) (omega arith)))
    ∙ gap-lacks k es zero (λ j d from to. absurd (omega (arith, to))) (λ j d from to. high (suc j) d (omega arith) (omega (arith, to)))
gap-lacks k (e ∷ es) (suc i) low high =
    entry-of k e es Greater (turned e.0 k Less (low 0 e (omega arith) (omega arith)))
    ∙ gap-lacks k es i (λ j d from to. low (suc j) d (omega arith) (omega (arith, to))) (λ j d from to. high (suc j) d (omega (arith, from)) (omega (arith, to)))

-- at the entry itself

-- what stands before it is below
before : (k : Key) (e : Key × ℕ) (es : List (Key × ℕ)) (i : ℕ) → AllByRecursion (λ y. key_cmp e.0 y ≡ Less) (keys_of es) → i < length es →
    key_cmp (get_or es i e).0 k ≡ Equal → key_cmp e.0 k ≡ Less
before k e es i all lt here =
    ap (λ y. key_cmp e.0 y) (sym (equal-key (get_or es i e).0 k here)) ∙ key-in (λ y. key_cmp e.0 y ≡ Less) es i e all lt

at-takes : (k : Key) (at : ℕ) (es : List (Key × ℕ)) (i : ℕ) → AreEntriesInOrder es → i < length es →
    HoldsAt (λ e. key_cmp e.0 k ≡ Equal) es i → set es i (k, at) ≡ insert_entry key_cmp es k at
unfolding IsStrictlySortedBy
at-takes k at [] i s lt here = absurd (omega (arith, lt))
at-takes k at (e ∷ es) zero s lt here =
    ap (λ x. (x, at) ∷ es) (sym (equal-key e.0 k (here e))) ∙ sym (put-at k at e es Equal (turned e.0 k Equal (here e)))
at-takes k at (e ∷ es) (suc i) s lt here =
    ap (λ xs. e ∷ xs) (at-takes k at es i s.1 (omega (arith, lt)) here)
    ∙ sym (put-at k at e es Greater (turned e.0 k Less (before k e es i s.0 (omega (arith, lt)) (here e))))

at-holds : (k : Key) (es : List (Key × ℕ)) (i : ℕ) (d : Key × ℕ) → AreEntriesInOrder es → i < length es →
    HoldsAt (λ e. key_cmp e.0 k ≡ Equal) es i → entry_at k es ≡ Some (get_or es i d).1
unfolding IsStrictlySortedBy
at-holds k [] i d s lt here = absurd (omega (arith, lt))
at-holds k (e ∷ es) zero d s lt here = entry-of k e es Equal (turned e.0 k Equal (here e))
at-holds k (e ∷ es) (suc i) d s lt here =
    entry-of k e es Greater (turned e.0 k Less (before k e es i s.0 (omega (arith, lt)) (here e))) ∙ at-holds k es i d s.1 (omega (arith, lt)) here

pub searched : (es : List (Key × ℕ)) (k : Key) (r : Result ℕ ℕ) → AreEntriesInOrder es → IsSearchInRange r (length es) →
    IsBinarySearchResult (λ e. key_cmp e.0 k) es r → (IfOk r (IsAt es k)) × (IfErr r (IsGapFor es k))
searched es k (Ok i) s bound here = (record { in_range = bound; holds = λ d. at-holds k es i d s bound here; takes = λ at. at-takes k at es i s bound here }, tt)
searched es k (Err i) s bound parted =
    let parts = parted (rises k es s) in
    (tt, record { in_range = bound; lacks = gap-lacks k es i parts.0 parts.1; takes = λ at. gap-takes k at es i bound parts.0 parts.1 })

-- The order stays.

pub none-ordered : AreEntriesInOrder []
unfolding IsStrictlySortedBy
none-ordered = tt

all-higher : (a b : Key) (ks : List Key) → key_cmp a b ≡ Less → AllByRecursion (λ y. key_cmp b y ≡ Less) ks → AllByRecursion (λ y. key_cmp a y ≡ Less) ks
all-higher a b [] h all = tt
all-higher a b (y ∷ ys) h all = (key-total.trans a b y h all.0, all-higher a b ys h all.1)

put-higher : (a k : Key) (at : ℕ) (es : List (Key × ℕ)) → key_cmp a k ≡ Less → AllByRecursion (λ y. key_cmp a y ≡ Less) (keys_of es) →
    AllByRecursion (λ y. key_cmp a y ≡ Less) (keys_of (insert_entry key_cmp es k at))
put-higher a k at [] h all = (h, tt)
put-higher a k at (e ∷ es) h all =
    elim (key_cmp k e.0) as (λ o. AllByRecursion (λ y. key_cmp a y ≡ Less) (keys_of (match_ordering o ((k, at) ∷ e ∷ es) ((e.0, at) ∷ es) (e ∷ insert_entry key_cmp es k at)))) [
      | Less ↦ (h, all)
      | Equal ↦ all
      | Greater ↦ (all.0, put-higher a k at es h all.1)
    ]

pub put-ordered : (k : Key) (at : ℕ) (es : List (Key × ℕ)) → AreEntriesInOrder es → AreEntriesInOrder (insert_entry key_cmp es k at)
unfolding IsStrictlySortedBy
put-ordered k at [] s = (tt, tt)
put-ordered k at (e ∷ es) s =
    elim (key_cmp k e.0) as (λ o. key_cmp k e.0 ≡ o → AreEntriesInOrder
    (match_ordering o ((k, at) ∷ e ∷ es) ((e.0, at) ∷ es) (e ∷ insert_entry key_cmp es k at))) [
      | Less ↦ λ h. ((h, all-higher k e.0 (keys_of es) h s.0), s)
      | Equal ↦ λ h. s
      | Greater ↦ λ h. (put-higher e.0 k at es (turned k e.0 Greater h) s.0, put-ordered k at es s.1)
    ] refl
