-- A run that may neither open nor close is in no pair: the pairs are those of the runs without it, by numbers in which it counts.
use Rattle.std.proofs.Common.{◌≡◌, ◌≢◌, ℕ, zero, suc, ◌-◌, ◌<◌, ◌≤◌, min, false, ◌||◌, ◌==◌, nat_lt, if◌then◌else◌, List, [], ◌∷◌, ◌++◌, length, map, refl, sym, ◌∙◌, ap, subst, inl, inr, ◌⊎◌, arith, sum_by}
use Rattle.std.proofs.lemmas.List.Sums.{sum_by-cons}
use Rattle.std.proofs.lemmas.Bool.{cases_eq, cases_lt, both_ways, lt-ltb, le-ltb, eq-eqb, ne_eqb}
use Rattle.std.specs.List.{list_any}
use Rattle.markdown_model.specs.Setting.{Setting}
use Rattle.markdown_model.specs.Runs.{Run}
use Rattle.markdown_model.specs.Pairs.{Pair, run_at, taken_by, remaining, is_strictly_within, ruled_size, is_refused_by_three, is_refused_as_tilde, is_eligible, IsEligible, NoneEligible, IsNextPair, ArePairsFrom, pair_list}
use Rattle.markdown_model.proofs.OnePairList.{eligible-is, is-eligible, same_pair_list, some_pair_list}

-- The number of a run after one more run has come to place k.
abbrev pub raised : ℕ → ℕ → ℕ
raised zero i = suc i
raised (suc k) zero = zero
raised (suc k) (suc i) = suc (raised k i)

pub raised-below : (k i : ℕ) → i < k → raised k i ≡ i
raised-below zero i h = absurd (omega arith)
raised-below (suc k) zero h = refl
raised-below (suc k) (suc i) h = ap suc (raised-below k i (omega arith))

pub raised-from : (k i : ℕ) → k ≤ i → raised k i ≡ suc i
raised-from zero i h = refl
raised-from (suc k) zero h = absurd (omega arith)
raised-from (suc k) (suc i) h = ap suc (raised-from k i (omega arith))

-- a number is that of the new run, or a raised one
new_or_raised : (k i : ℕ) → (i ≡ k) ⊎ ((j : ℕ) × (i ≡ raised k j))
new_or_raised zero zero = inl refl
new_or_raised zero (suc i) = inr (i, refl)
new_or_raised (suc k) zero = inr (zero, refl)
new_or_raised (suc k) (suc i) = elim (new_or_raised k i) [ inl e ↦ inl (ap suc e) | inr x ↦ inr (suc x.0, ap suc x.1) ]

raised-lt : (k a b : ℕ) → a < b → raised k a < raised k b
raised-lt k a b h = grind (arith, raised-below k a, raised-from k a, raised-below k b, raised-from k b)

raised-le : (k a b : ℕ) → a ≤ b → raised k a ≤ raised k b
raised-le k a b h = grind (arith, raised-below k a, raised-from k a, raised-below k b, raised-from k b)

lt-raised : (k a b : ℕ) → raised k a < raised k b → a < b
lt-raised k a b h = grind (arith, raised-below k a, raised-from k a, raised-below k b, raised-from k b)

le-raised : (k a b : ℕ) → raised k a ≤ raised k b → a ≤ b
le-raised k a b h = grind (arith, raised-below k a, raised-from k a, raised-below k b, raised-from k b)

same-raised : (k a b : ℕ) → raised k a ≡ raised k b → a ≡ b
same-raised k a b h = grind (arith, raised-below k a, raised-from k a, raised-below k b, raised-from k b)

pub raised-eqb : (k a b : ℕ) → (raised k a == raised k b) ≡ (a == b)
raised-eqb k a b = grind (arith, cases_eq, eq-eqb, ne_eqb, same-raised)

raised-ltb : (k a b : ℕ) → nat_lt (raised k a) (raised k b) ≡ nat_lt a b
raised-ltb k a b = grind (arith, cases_lt, lt-ltb, raised-lt, le-ltb, raised-le)

pub raised_other : (k a : ℕ) → raised k a ≢ k
raised_other k a e = grind (arith, raised-below k a, raised-from k a)

-- A pair by the raised numbers.
abbrev pub raised_pair : ℕ → Pair → Pair
raised_pair k p = record { opener = raised k p.opener; closer = raised k p.closer; size = p.size }

abbrev pub raised_pairs : ℕ → List Pair → List Pair
raised_pairs k ps = map (raised_pair k) ps

raised_pairs-push : (k : ℕ) (ps : List Pair) (p : Pair) →
    raised_pairs k (ps ++ p ∷ []) ≡ raised_pairs k ps ++ raised_pair k p ∷ []
raised_pairs-push k [] p = refl
raised_pairs-push k (q ∷ ps) p = ap (λ x. raised_pair k q ∷ x) (raised_pairs-push k ps p)

-- What pairs take of a run, and whether it is within one, by either numbers.

raised-taken : (k i : ℕ) (p : Pair) → taken_by (raised k i) (raised_pair k p) ≡ taken_by i p
raised-taken k i p = λ j. if raised-eqb k p.opener i j || raised-eqb k p.closer i j then p.size else 0

raised-sum : (k i : ℕ) (ps : List Pair) →
    sum_by (taken_by (raised k i)) (raised_pairs k ps) ≡ sum_by (taken_by i) ps
raised-sum k i [] = refl
raised-sum k i (p ∷ ps) = grind (arith, sum_by-cons (taken_by (raised k i)) (raised_pair k p) (raised_pairs k ps), sum_by-cons (taken_by i) p ps, raised-taken k i p, raised-sum k i ps)

raised-within : (k i : ℕ) (ps : List Pair) →
    list_any (is_strictly_within (raised k i)) (raised_pairs k ps) ≡ list_any (is_strictly_within i) ps
raised-within k i [] = refl
raised-within k i (p ∷ ps) = grind (arith, raised-ltb, raised-within k i ps)

-- Runs by either numbers.

run-raised : (front : List Run) (r : Run) (back : List Run) (i : ℕ) →
    run_at (front ++ r ∷ back) (raised (length front) i) ≡ run_at (front ++ back) i
run-raised [] r back i = refl
run-raised (f ∷ front) r back zero = refl
run-raised (f ∷ front) r back (suc i) = run-raised front r back i

run-new : (front : List Run) (r : Run) (back : List Run) → run_at (front ++ r ∷ back) (length front) ≡ r
run-new [] r back = refl
run-new (f ∷ front) r back = run-new front r back

length-raised : (front : List Run) (r : Run) (back : List Run) →
    length (front ++ r ∷ back) ≡ raised (length front) (length (front ++ back))
length-raised [] r back = refl
length-raised (f ∷ front) r back = ap suc (length-raised front r back)

module _ (s : Setting) (front : List Run) (r : Run) (back : List Run) (no_open : r.may_open ≡ false) (no_close : r.may_close ≡ false) where
  abbrev k : ℕ
  k = length front

  abbrev more : List Run
  more = front ++ r ∷ back

  abbrev fewer : List Run
  fewer = front ++ back

  module _ (earlier : List Pair) where
    same_run : (i : ℕ) → run_at more (raised k i) ≡ run_at fewer i
    same_run i = run-raised front r back i

    same_remaining : (i : ℕ) → remaining more (raised_pairs k earlier) (raised k i) ≡ remaining fewer earlier i
    same_remaining i = λ j. length (same_run i j).codes - raised-sum k i earlier j

    same_ruled : (i : ℕ) → ruled_size s more (raised_pairs k earlier) (raised k i) ≡ ruled_size s fewer earlier i
    same_ruled i = grind (arith, same_run, same_remaining)

    same_three : (o c : ℕ) →
        is_refused_by_three s more (raised_pairs k earlier) (raised k o) (raised k c) ≡ is_refused_by_three s fewer earlier o c
    same_three o c = grind (arith, same_run, same_ruled)

    same_tilde : (o c : ℕ) →
        is_refused_as_tilde s more (raised_pairs k earlier) (raised k o) (raised k c) ≡ is_refused_as_tilde s fewer earlier o c
    same_tilde o c = grind (arith, same_run, same_remaining)

    same_container : (c : ℕ) → nat_lt (raised k c) (length more) ≡ nat_lt c (length fewer)
    same_container c = ap (nat_lt (raised k c)) (length-raised front r back) ∙ raised-ltb k c (length fewer)

    same_eligible : (o c : ℕ) →
        is_eligible s more (raised_pairs k earlier) (raised k o) (raised k c) ≡ is_eligible s fewer earlier o c
    unfolding is_eligible
    same_eligible o c = grind (arith, raised-ltb, same_container, same_run, same_remaining, raised-within, same_three, same_tilde)

    eligible-raised : (o c : ℕ) → IsEligible s fewer earlier o c →
        IsEligible s more (raised_pairs k earlier) (raised k o) (raised k c)
    eligible-raised o c h = grind (arith, eligible-is, same_eligible o c, is-eligible)

    raised-eligible : (o c : ℕ) → IsEligible s more (raised_pairs k earlier) (raised k o) (raised k c) →
        IsEligible s fewer earlier o c
    raised-eligible o c h = grind (arith, eligible-is, same_eligible, is-eligible)

    not_opened : (o c : ℕ) → o ≡ k → IsEligible s more (raised_pairs k earlier) o c → ⊥
    not_opened o c e h = grind (arith, both_ways, run-new)

    not_closed : (o c : ℕ) → c ≡ k → IsEligible s more (raised_pairs k earlier) o c → ⊥
    not_closed o c e h = grind (arith, both_ways, run-new)

    -- `low` bounds closers as `last` bounds raised ones
    none-raised : (low last high : ℕ) → ((c : ℕ) → last ≤ raised k c → low ≤ c) →
        NoneEligible s fewer earlier low high → NoneEligible s more (raised_pairs k earlier) last (raised k high)
    none-raised low last high bound none o c from to fits =
        elim (new_or_raised k o) [
          | inl e ↦ not_opened o c e fits
          | inr x ↦ elim (new_or_raised k c) [
            | inl e ↦ not_closed o c e fits
            | inr y ↦
                none x.0 y.0 (bound y.0 (subst (λ z. last ≤ z) y.1 from)) (lt-raised k y.0 high (subst (λ z. z < raised k high) y.1 to))
                (raised-eligible x.0 y.0 (subst (λ z. IsEligible s more (raised_pairs k earlier) z (raised k y.0)) x.1 (subst (λ z. IsEligible s more (raised_pairs k earlier) o z) y.1 fits)))
          ]
        ]

    next-raised : (low last : ℕ) (p : Pair) → ((c : ℕ) → low ≤ c → last ≤ raised k c) →
        ((c : ℕ) → last ≤ raised k c → low ≤ c) → IsNextPair s fewer earlier low p →
        IsNextPair s more (raised_pairs k earlier) last (raised_pair k p)
    next-raised low last p to from h = record {
      eligible = eligible-raised p.opener p.closer h.eligible;
      size = h.size ∙ sym (λ j. min 2 (min (same_remaining p.opener j) (same_remaining p.closer j)));
      forward = to p.closer h.forward;
      leftmost = none-raised low last p.closer from h.leftmost;
      nearest = λ o after fits. elim (new_or_raised k o) [
        | inl e ↦ not_opened o (raised k p.closer) e fits
        | inr x ↦
            h.nearest x.0 (lt-raised k p.opener x.0 (subst (λ z. raised k p.opener < z) x.1 after))
            (raised-eligible x.0 p.closer (subst (λ z. IsEligible s more (raised_pairs k earlier) z (raised k p.closer)) x.1 fits))
      ];
    }

  pairs-raised : (earlier : List Pair) (low last : ℕ) (ps : List Pair) → ((c : ℕ) → low ≤ c → last ≤ raised k c) →
      ((c : ℕ) → last ≤ raised k c → low ≤ c) → ArePairsFrom s fewer (length fewer) earlier low ps →
      ArePairsFrom s more (raised k (length fewer)) (raised_pairs k earlier) last (raised_pairs k ps)
  pairs-raised earlier low last [] to from h = none-raised earlier low last (length fewer) from h
  pairs-raised earlier low last (p ∷ ps) to from h = grind (arith, next-raised earlier low last, raised_pairs-push k earlier p, raised-le k p.closer, le-raised k p.closer, pairs-raised (earlier ++ p ∷ []) p.closer (raised k p.closer) ps)

  pub neutral_pair_list : pair_list s (front ++ r ∷ back) ≡ raised_pairs (length front) (pair_list s (front ++ back))
  neutral_pair_list =
      same_pair_list s more (pair_list s more) (raised_pairs k (pair_list s fewer)) (some_pair_list s more)
      (subst (λ x. ArePairsFrom s more x [] 0 (raised_pairs k (pair_list s fewer))) (sym (length-raised front r back))
      (pairs-raised [] 0 0 (pair_list s fewer) (λ c l. omega arith) (λ c l. omega arith) (some_pair_list s fewer)))
