-- A container has exactly one pair list.
use Rattle.std.proofs.Common.{◌≡◌, ℕ, zero, suc, ◌+◌, ◌-◌, ◌≤◌, ◌<◌, Bool, true, false, not, List, [], ◌∷◌, ◌++◌, length, ◌==◌, ◌⊎◌, ⊎_elim, zero-add, refl, sym, ◌∙◌, subst, arith, IsTrue, Option, Some, None, sum_by, nat_lt}
use Rattle.std.proofs.lemmas.Bool.{ltb-true, lt-ltb, eq-eqb, eqb-true, both_ways}
use Rattle.std.proofs.lemmas.List.Sums.{sum_by_push, sum_by-cons}
use Rattle.std.specs.List.{list_any, list_all}
use Rattle.markdown_model.specs.Setting.{Setting}
use Rattle.markdown_model.specs.Runs.{Run, marker_of}
use Rattle.markdown_model.specs.Pairs.{Pair, run_at, taken_by, remaining, is_strictly_within, is_refused_by_three, is_refused_as_tilde, IsEligible, NoneEligible, IsNextPair, ArePairsFrom, IsPairList, pair_size, is_eligible, opener_below, next_pair_from, pairs_after, pair_list}
use Rattle.markdown_model.proofs.PairListFacts.{taken_opener}

-- The test computes what is eligible.

-- a list of tests that all pass, test by test
abbrev EachTrue : List Bool → Type 0
EachTrue [] = Unit {0}
EachTrue (b ∷ bs) = IsTrue b × EachTrue bs

each_true : (bs : List Bool) → list_all (λ b. b) bs ≡ true → EachTrue bs
each_true [] h = tt
each_true (true ∷ bs) h = (refl, each_true bs h)
each_true (false ∷ bs) h = absurd (no h)
  where
    no : false ≡ true → ⊥
    no e = cc

all_true : (bs : List Bool) → EachTrue bs → list_all (λ b. b) bs ≡ true
all_true [] h = refl
all_true (true ∷ bs) h = all_true bs h.1
all_true (false ∷ bs) h = h.0

not_true : (b : Bool) → IsTrue (not b) → b ≡ false
not_true true h = sym h
not_true false h = refl

true_not : (b : Bool) → b ≡ false → IsTrue (not b)
true_not true h = sym h
true_not false h = refl

module _ (s : Setting) (runs : List Run) (earlier : List Pair) (o c : ℕ) where
  abbrev tests : List Bool
  tests =
      nat_lt o c ∷ nat_lt c (length runs) ∷ (marker_of (run_at runs o).codes == marker_of (run_at runs c).codes) ∷ (run_at runs o).may_open ∷ (run_at runs c).may_close
      ∷ nat_lt 0 (remaining runs earlier o) ∷ nat_lt 0 (remaining runs earlier c) ∷ not (list_any (is_strictly_within o) earlier)
      ∷ not (is_refused_by_three s runs earlier o c) ∷ not (is_refused_as_tilde s runs earlier o c) ∷ []

  passed : EachTrue tests → IsEligible s runs earlier o c
  passed p = grind (arith, ltb-true, eqb-true, not_true)

  passes : IsEligible s runs earlier o c → EachTrue tests
  passes h = grind (arith, lt-ltb, eq-eqb, true_not)

  pub eligible-is : IsTrue (is_eligible s runs earlier o c) → IsEligible s runs earlier o c
  unfolding is_eligible
  eligible-is h = passed (each_true tests h)

  pub is-eligible : IsEligible s runs earlier o c → IsTrue (is_eligible s runs earlier o c)
  unfolding is_eligible
  is-eligible h = all_true tests (passes h)

-- Uniqueness.

module _ (s : Setting) (runs : List Run) where
  same_closer : (earlier : List Pair) (last : ℕ) (p q : Pair) → IsNextPair s runs earlier last p →
      IsNextPair s runs earlier last q → p.closer ≤ q.closer
  same_closer earlier last p q hp hq = ⊎_elim (λ below. absurd (hp.leftmost q.opener q.closer hq.forward below hq.eligible)) (λ not_below. not_below) (below_or_not q.closer p.closer)
    where
      below_or_not : (a b : ℕ) → (a < b) ⊎ (b ≤ a)
      below_or_not a b = grind arith

  moved : (earlier : List Pair) (o c d : ℕ) → c ≡ d → IsEligible s runs earlier o c → IsEligible s runs earlier o d
  moved earlier o c d e h = subst (λ x. IsEligible s runs earlier o x) e h

  same_next : (earlier : List Pair) (last : ℕ) (p q : Pair) → IsNextPair s runs earlier last p →
      IsNextPair s runs earlier last q → p ≡ q
  same_next earlier last p q hp hq = λ i. record { opener = openers i; closer = closers i; size = sizes i }
    where
      below_or_not : (a b : ℕ) → (a < b) ⊎ (b ≤ a)
      below_or_not a b = grind arith

      below : p.closer ≤ q.closer
      below = same_closer earlier last p q hp hq

      above : q.closer ≤ p.closer
      above = same_closer earlier last q p hq hp

      closers : p.closer ≡ q.closer
      closers = omega (arith, below, above)

      near : q.opener ≤ p.opener
      near = ⊎_elim (λ less. absurd (hp.nearest q.opener less (moved earlier q.opener q.closer p.closer (sym closers) hq.eligible))) (λ rest. rest) (below_or_not p.opener q.opener)

      far : p.opener ≤ q.opener
      far = ⊎_elim (λ less. absurd (hq.nearest p.opener less (moved earlier p.opener p.closer q.closer closers hp.eligible))) (λ rest. rest) (below_or_not q.opener p.opener)

      openers : p.opener ≡ q.opener
      openers = omega (arith, near, far)

      sizes : p.size ≡ q.size
      sizes = hp.size ∙ (λ i. pair_size runs earlier (openers i) (closers i)) ∙ sym hq.size

  same_pairs : (earlier : List Pair) (last : ℕ) (ps qs : List Pair) →
      ArePairsFrom s runs (length runs) earlier last ps → ArePairsFrom s runs (length runs) earlier last qs → ps ≡ qs
  same_pairs earlier last [] [] a b = refl
  same_pairs earlier last [] (q ∷ qs) a b =
      absurd (a q.opener q.closer b.0.forward b.0.eligible.in_container b.0.eligible)
  same_pairs earlier last (p ∷ ps) [] a b =
      absurd (b p.opener p.closer a.0.forward a.0.eligible.in_container a.0.eligible)
  same_pairs earlier last (p ∷ ps) (q ∷ qs) a b =
      let e : p ≡ q = same_next earlier last p q a.0 b.0 in
      let rest : ArePairsFrom s runs (length runs) (earlier ++ p ∷ []) p.closer qs = subst (λ x. ArePairsFrom s runs (length runs) (earlier ++ x ∷ []) x.closer qs) (sym e) b.1 in
      λ i. e i ∷ same_pairs (earlier ++ p ∷ []) p.closer ps qs a.1 rest i

  pub same_pair_list : (ps qs : List Pair) → IsPairList s runs ps → IsPairList s runs qs → ps ≡ qs
  same_pair_list ps qs a b = same_pairs [] 0 ps qs a b

-- The search finds the next pair.

module _ (s : Setting) (runs : List Run) (earlier : List Pair) where
  abbrev EligibleHere : ℕ → ℕ → Type 0
  EligibleHere o c = IsEligible s runs earlier o c

  refused : (o c : ℕ) → is_eligible s runs earlier o c ≡ false → EligibleHere o c → ⊥
  refused o c e h = both_ways _ e (is-eligible s runs earlier o c h)

  -- the answer is the nearest eligible opener below n
  abbrev IsNearest : ℕ → ℕ → Option ℕ → Type 0
  IsNearest c n None = (k : ℕ) → k < n → EligibleHere k c → ⊥
  IsNearest c n (Some o) = EligibleHere o c × ((k : ℕ) → o < k → k < n → EligibleHere k c → ⊥)

  below_or_last : (k n : ℕ) → k < suc n → (k < n) ⊎ (k ≡ n)
  below_or_last k n h = grind arith

  widened : (c n : ℕ) (r : Option ℕ) → is_eligible s runs earlier n c ≡ false → IsNearest c n r → IsNearest c (suc n) r
  widened c n None e h =
      λ k below fits. ⊎_elim (λ less. h k less fits) (λ same. refused n c e (subst (λ x. EligibleHere x c) same fits)) (below_or_last k n below)
  widened c n (Some o) e h =
      (h.0, λ k after below fits. ⊎_elim (λ less. h.1 k after less fits) (λ same. refused n c e (subst (λ x. EligibleHere x c) same fits)) (below_or_last k n below))

  nearest : (c n : ℕ) → IsNearest c n (opener_below s runs earlier c n)
  unfolding opener_below
  nearest c zero = λ k below fits. omega arith
  nearest c (suc n) = by_test (is_eligible s runs earlier n c) refl (nearest c n)
    where
      by_test : (b : Bool) → is_eligible s runs earlier n c ≡ b → IsNearest c n (opener_below s runs earlier c n)
          → IsNearest c (suc n) (elim b [ true ↦ Some n | false ↦ opener_below s runs earlier c n ])
      by_test true e h = (eligible-is s runs earlier n c e, λ k after below fits. omega arith)
      by_test false e h = widened c n (opener_below s runs earlier c n) e h

  -- the answer has the leftmost closer of the n from c on, with its nearest opener
  abbrev IsLeftmost : ℕ → ℕ → Option Pair → Type 0
  IsLeftmost c n None = NoneEligible s runs earlier c (c + n)
  IsLeftmost c n (Some p) = IsNextPair s runs earlier c p

  here_or_later : (c d : ℕ) → c ≤ d → (suc c ≤ d) ⊎ (c ≡ d)
  here_or_later c d h = grind arith

  passed_over : (c n : ℕ) (r : Option Pair) → ((k : ℕ) → EligibleHere k c → ⊥) → IsLeftmost (suc c) n r →
      IsLeftmost c (suc n) r
  passed_over c n None none h =
      λ o d from to fits. ⊎_elim (λ later. h o d later (omega arith) fits) (λ same. none o (subst (λ x. EligibleHere o x) (sym same) fits))
      (here_or_later c d from)
  passed_over c n (Some p) none h = record {
    eligible = h.eligible;
    size = h.size;
    forward = shorter h.forward;
    leftmost = λ o d from to fits. ⊎_elim (λ later. h.leftmost o d later to fits) (λ same. none o (subst (λ x. EligibleHere o x) (sym same) fits)) (here_or_later c d from);
    nearest = h.nearest;
  }
    where
      shorter : suc c ≤ p.closer → c ≤ p.closer
      shorter a = omega arith

  leftmost : (c n : ℕ) → IsLeftmost c n (next_pair_from s runs earlier c n)
  unfolding next_pair_from
  leftmost c zero = λ o d from to fits. omega arith
  leftmost c (suc n) = by_opener (opener_below s runs earlier c c) (nearest c c) (leftmost (suc c) n)
    where
      by_opener : (r : Option ℕ) → IsNearest c c r → IsLeftmost (suc c) n (next_pair_from s runs earlier (suc c) n)
          → IsLeftmost c (suc n) (elim r [ Some o ↦ Some (record { opener = o; closer = c; size = pair_size runs earlier o c }) | None ↦ next_pair_from s runs earlier (suc c) n ])
      by_opener None h later =
          passed_over c n (next_pair_from s runs earlier (suc c) n) (λ k fits. h k fits.in_order fits) later
      by_opener (Some o) h later = record {
        eligible = h.0;
        size = refl;
        forward = omega arith;
        leftmost = λ k d from to fits. omega arith;
        nearest = λ k after fits. h.1 k after fits.in_order fits;
      }

  abbrev IsNextInList : ℕ → Option Pair → Type 0
  IsNextInList last None = NoneEligible s runs earlier last (length runs)
  IsNextInList last (Some p) = IsNextPair s runs earlier last p

  found : (last : ℕ) → IsNextInList last (next_pair_from s runs earlier last (length runs - last))
  found last = as_next (next_pair_from s runs earlier last (length runs - last)) (leftmost last (length runs - last))
    where
      bound : (c : ℕ) → last ≤ c → c < length runs → c < last + (length runs - last)
      bound c a b = omega arith

      as_next : (r : Option Pair) → IsLeftmost last (length runs - last) r → IsNextInList last r
      as_next None h = λ o c from to fits. h o c from (bound c from to) fits
      as_next (Some p) h = h

-- The markers that are left bound the number of pairs.

-- what the pairs leave of the runs, whose numbers begin with k
abbrev left_of : List Pair → List Run → ℕ → ℕ
left_of earlier [] k = 0
left_of earlier (r ∷ rs) k = (length r.codes - sum_by (taken_by k) earlier) + left_of earlier rs (suc k)

left_after : (earlier : List Pair) (p : Pair) (rs : List Run) (k : ℕ) →
    left_of (earlier ++ p ∷ []) rs k ≤ left_of earlier rs k
left_after earlier p [] k = omega arith
left_after earlier p (r ∷ rs) k = omega (arith, sum_by_push (taken_by k) earlier p, left_after earlier p rs (suc k))

-- a run of the pair has less
left_falls : (earlier : List Pair) (p : Pair) (rs : List Run) (k j i : ℕ) → i ≡ k + j → 0 < taken_by i p
    → 0 < length (run_at rs j).codes - sum_by (taken_by i) earlier → left_of (earlier ++ p ∷ []) rs k < left_of earlier rs k
left_falls earlier p [] k j i e some left = omega arith
left_falls earlier p (r ∷ rs) k zero i e some left =
    omega (arith, sum_by_push (taken_by k) earlier p, left_after earlier p rs (suc k), subst (λ x. 0 < taken_by x p) same some, subst (λ x. 0 < length r.codes - sum_by (taken_by x) earlier) same left)
  where
    same : i ≡ k
    same = omega arith
left_falls earlier p (r ∷ rs) k (suc j) i e some left =
    omega (arith, sum_by_push (taken_by k) earlier p, left_falls earlier p rs (suc k) j i (omega arith) some left)

left_at_first : (rs : List Run) (k : ℕ) → left_of [] rs k ≤ sum_by (λ r. length r.codes) rs
left_at_first [] k = omega arith
left_at_first (r ∷ rs) k = omega (arith, sum_by-cons (λ r. length r.codes) r rs, left_at_first rs (suc k))

left_at_least : (earlier : List Pair) (rs : List Run) (k j i : ℕ) → i ≡ k + j →
    length (run_at rs j).codes - sum_by (taken_by i) earlier ≤ left_of earlier rs k
left_at_least earlier [] k j i e = omega arith
left_at_least earlier (r ∷ rs) k zero i e = subst (λ x. length r.codes - sum_by (taken_by x) earlier ≤ left_of earlier (r ∷ rs) k) (sym same) (omega arith)
  where
    same : i ≡ k
    same = omega arith
left_at_least earlier (r ∷ rs) k (suc j) i e = omega (arith, left_at_least earlier rs (suc k) j i (omega arith))

-- Existence.

module _ (s : Setting) (runs : List Run) where
  are_pairs : (n : ℕ) (earlier : List Pair) (last : ℕ) → left_of earlier runs 0 ≤ n →
      ArePairsFrom s runs (length runs) earlier last (pairs_after s runs n earlier last)
  unfolding pairs_after
  are_pairs zero earlier last bound = λ o c from to fits. none_left o fits.opener_left
    where
      none_left : (o : ℕ) → 0 < remaining runs earlier o → ⊥
      none_left o h = omega (arith, h, left_at_least earlier runs 0 o o (sym (zero-add o)))
  are_pairs (suc n) earlier last bound = by_next (next_pair_from s runs earlier last (length runs - last)) (found s runs earlier last) (λ p. are_pairs n (earlier ++ p ∷ []) p.closer)
    where
      smaller : (p : Pair) → IsNextPair s runs earlier last p → left_of (earlier ++ p ∷ []) runs 0 ≤ n
      smaller p h = omega (arith, falls)
        where
          opener : 0 < remaining runs earlier p.opener
          opener = h.eligible.opener_left

          closer : 0 < remaining runs earlier p.closer
          closer = h.eligible.closer_left

          size_left : 0 < p.size
          size_left = rw h.size (omega (arith, opener, closer))

          falls : left_of (earlier ++ p ∷ []) runs 0 < left_of earlier runs 0
          falls = left_falls earlier p runs 0 p.opener p.opener (sym (zero-add p.opener)) (rw taken_opener size_left) opener

      by_next : (r : Option Pair) → IsNextInList s runs earlier last r
          → ((p : Pair) → left_of (earlier ++ p ∷ []) runs 0 ≤ n → ArePairsFrom s runs (length runs) (earlier ++ p ∷ []) p.closer (pairs_after s runs n (earlier ++ p ∷ []) p.closer))
          → ArePairsFrom s runs (length runs) earlier last (elim r [ None ↦ [] | Some p ↦ p ∷ pairs_after s runs n (earlier ++ p ∷ []) p.closer ])
      by_next None h rest = h
      by_next (Some p) h rest = (h, rest p (smaller p h))

  pub some_pair_list : IsPairList s runs (pair_list s runs)
  unfolding pair_list
  some_pair_list = are_pairs (sum_by (λ r. length r.codes) runs) [] 0 (left_at_first runs 0)
