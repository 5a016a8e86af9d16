-- What holds of each pair list.
use Rattle.std.proofs.Common.{◌≡◌, ◌≢◌, ℕ, zero, suc, ◌+◌, ◌-◌, ◌*◌, ◌%◌, ◌<◌, ◌≤◌, Bool, true, false, not, ◌&&◌, ◌||◌, ◌==◌, nat_lt, if◌then◌else◌, List, [], ◌∷◌, ◌++◌, length, map, refl, sym, ◌∙◌, ap, subst, inl, inr, ◌⊎◌, ⊎_elim, arith, zero-add, sum_by}
use Rattle.std.proofs.lemmas.List.{append_assoc, append-nil, length-map}
use Rattle.std.proofs.lemmas.List.Sums.{sum_by_push, sum_by-cons}
use Rattle.std.proofs.lemmas.List.Folds.{list_any-append}
use Rattle.std.proofs.lemmas.Bool.{cases_eq, or_parts, both_ways, and_from, lt-ltb, eq-eqb, ne_eqb}
use Rattle.std.specs.List.{list_any}
use Rattle.std.specs.Prelude.{Contains}
use Rattle.markdown_model.specs.Setting.{Setting}
use Rattle.markdown_model.specs.Runs.{Run, marker_of}
use Rattle.markdown_model.specs.Pairs.{Pair, run_at, taken_by, remaining, is_strictly_within, ruled_size, is_refused_by_three, is_refused_as_tilde, IsEligible, IsNextPair, ArePairsFrom}
use Rattle.markdown_model.specs.Laws.{Cross, PairsAreSound, Shape, shape_of, ReadsPairsAlike, PairsAreLocal}

-- What a pair takes of a run.

pub taken_opener : (p : Pair) → taken_by p.opener p ≡ p.size
taken_opener p = by_test (p.opener == p.opener) (eq-eqb p.opener p.opener refl)
  where
    by_test : (b : Bool) → b ≡ true → (if b || p.closer == p.opener then p.size else 0) ≡ p.size
    by_test true e = refl
    by_test false e = absurd (cc)

taken_closer : (p : Pair) → taken_by p.closer p ≡ p.size
taken_closer p = by_test (p.opener == p.closer) (p.closer == p.closer) (eq-eqb p.closer p.closer refl)
  where
    by_test : (a b : Bool) → b ≡ true → (if a || b then p.size else 0) ≡ p.size
    by_test true b e = refl
    by_test false true e = refl
    by_test false false e = absurd (cc)

taken_other : (p : Pair) (i : ℕ) → i ≢ p.opener → i ≢ p.closer → taken_by i p ≡ 0
taken_other p i a b = by_test (p.opener == i) (p.closer == i) (ne_eqb p.opener i (λ e. a (sym e))) (ne_eqb p.closer i (λ e. b (sym e)))
  where
    by_test : (x y : Bool) → x ≡ false → y ≡ false → (if x || y then p.size else 0) ≡ 0
    by_test true y e f = absurd (cc)
    by_test false true e f = absurd (cc)
    by_test false false e f = refl

contains_first : (p : Pair) (ps : List Pair) (x : Pair) → Contains (p ∷ ps) x → (p ≡ x) ⊎ Contains ps x
contains_first p ps x (zero, l, e) = inl e
contains_first p ps x (suc k, l, e) = inr (k, omega arith, e)

pub within_push : (earlier : List Pair) (p : Pair) (i : ℕ) →
    list_any (is_strictly_within i) (earlier ++ p ∷ []) ≡ false →
    (list_any (is_strictly_within i) earlier ≡ false) × (is_strictly_within i p ≡ false)
within_push earlier p i h = grind (arith, or_parts, list_any-append)

-- each pair takes some markers of two runs of the container
abbrev AllTake : ℕ → List Pair → Type 0
AllTake n [] = Unit {0}
AllTake n (p ∷ ps) = ((0 < p.size) × (p.opener < p.closer) × (p.closer < n)) × AllTake n ps

module _ (s : Setting) (runs : List Run) (end : ℕ) where
  more_taken : (earlier : List Pair) (last : ℕ) (p : Pair) (i : ℕ) → IsNextPair s runs earlier last p
      → sum_by (taken_by i) earlier ≤ length (run_at runs i).codes → sum_by (taken_by i) (earlier ++ p ∷ []) ≤ length (run_at runs i).codes
  more_taken earlier last p i h b = ⊎_elim as_opener (λ a. ⊎_elim as_closer (λ c. as_other a c) (cases_eq i p.closer)) (cases_eq i p.opener)
    where
      pushed : sum_by (taken_by i) (earlier ++ p ∷ []) ≡ sum_by (taken_by i) earlier + taken_by i p
      pushed = sum_by_push (taken_by i) earlier p

      as_opener : i ≡ p.opener → sum_by (taken_by i) (earlier ++ p ∷ []) ≤ length (run_at runs i).codes
      as_opener e =
          let took : taken_by i p ≡ p.size = subst (λ x. taken_by x p ≡ p.size) (sym e) (taken_opener p) in
          let small : p.size ≤ remaining runs earlier i = subst (λ x. p.size ≤ remaining runs earlier x) (sym e) (rw h.size (omega arith)) in
          omega (arith, pushed, took, small)

      as_closer : i ≡ p.closer → sum_by (taken_by i) (earlier ++ p ∷ []) ≤ length (run_at runs i).codes
      as_closer e =
          let took : taken_by i p ≡ p.size = subst (λ x. taken_by x p ≡ p.size) (sym e) (taken_closer p) in
          let small : p.size ≤ remaining runs earlier i = subst (λ x. p.size ≤ remaining runs earlier x) (sym e) (rw h.size (omega arith)) in
          omega (arith, pushed, took, small)

      as_other : i ≢ p.opener → i ≢ p.closer → sum_by (taken_by i) (earlier ++ p ∷ []) ≤ length (run_at runs i).codes
      as_other a c = omega (arith, pushed, taken_other p i a c)

  taken : (earlier : List Pair) (last : ℕ) (ps : List Pair) (i : ℕ) → ArePairsFrom s runs end earlier last ps
      → sum_by (taken_by i) earlier ≤ length (run_at runs i).codes → sum_by (taken_by i) (earlier ++ ps) ≤ length (run_at runs i).codes
  taken earlier last [] i h b =
      subst (λ x. sum_by (taken_by i) x ≤ length (run_at runs i).codes) (sym (append-nil earlier)) b
  taken earlier last (p ∷ ps) i h b =
      subst (λ x. sum_by (taken_by i) x ≤ length (run_at runs i).codes) (append_assoc earlier (p ∷ []) ps)
      (taken (earlier ++ p ∷ []) p.closer ps i h.1 (more_taken earlier last p i h.0 b))

  -- a later pair's opener is within no earlier pair, and its closer not before theirs
  later : (earlier : List Pair) (last : ℕ) (ps : List Pair) (q : Pair) → ArePairsFrom s runs end earlier last ps
      → Contains ps q → (list_any (is_strictly_within q.opener) earlier ≡ false) × (last ≤ q.closer)
  later earlier last [] q h c = absurd (let l = c.1 in omega arith)
  later earlier last (p ∷ ps) q h c =
      elim (contains_first p ps q c) [
        | inl e ↦ subst (λ x. (list_any (is_strictly_within x.opener) earlier ≡ false) × (last ≤ x.closer)) e (h.0.eligible.not_within, h.0.forward)
        | inr more ↦
            let r = later (earlier ++ p ∷ []) p.closer ps q h.1 more in
            let forward = h.0.forward in
            let after = r.1 in
            ((within_push earlier p q.opener r.0).0, omega arith)
      ]

  apart : (earlier : List Pair) (last : ℕ) (ps : List Pair) (a b : Pair) → ArePairsFrom s runs end earlier last ps
      → Contains ps a → Contains ps b → Cross a b → ⊥
  apart earlier last [] a b h c d x = let l = c.1 in absurd (omega arith)
  apart earlier last (p ∷ ps) a b h c d x =
      elim (contains_first p ps a c) [
        | inl e ↦ elim (contains_first p ps b d) [
          | inl f ↦
              let o : a.opener ≡ b.opener = ap (λ r. r.opener) (sym e ∙ f) in
              let y = x.0 in
              omega arith
          | inr more ↦
              let r = later (earlier ++ p ∷ []) p.closer ps b h.1 more in
              let y : Cross p b = subst (λ z. Cross z b) (sym e) x in
              both_ways (is_strictly_within b.opener p) (within_push earlier p b.opener r.0).1 (and_from (nat_lt p.opener b.opener) (nat_lt b.opener p.closer) (lt-ltb p.opener b.opener y.0) (lt-ltb b.opener p.closer y.1))
        ]
        | inr more ↦ elim (contains_first p ps b d) [
          | inl f ↦
              let r = later (earlier ++ p ∷ []) p.closer ps a h.1 more in
              let low = r.1 in
              let same : p.closer ≡ b.closer = ap (λ z. z.closer) f in
              let y = x.2 in
              omega arith
          | inr also ↦ apart (earlier ++ p ∷ []) p.closer ps a b h.1 more also x
        ]
      ]

  all_take : (earlier : List Pair) (last : ℕ) (ps : List Pair) → ArePairsFrom s runs end earlier last ps →
      AllTake (length runs) ps
  all_take earlier last [] h = tt
  all_take earlier last (p ∷ ps) h = ((some_taken, h.0.eligible.in_order, h.0.eligible.in_container), all_take (earlier ++ p ∷ []) p.closer ps h.1)
    where
      opener : 0 < remaining runs earlier p.opener
      opener = h.0.eligible.opener_left

      closer : 0 < remaining runs earlier p.closer
      closer = h.0.eligible.closer_left

      some_taken : 0 < p.size
      some_taken = rw h.0.size (omega (arith, opener, closer))

-- Each pair takes two markers at least.

-- what the pairs take of the runs, whose numbers begin with k
abbrev total : List Pair → List Run → ℕ → ℕ
total pairs [] k = 0
total pairs (r ∷ rs) k = sum_by (taken_by k) pairs + total pairs rs (suc k)

total_first : (p : Pair) (ps : List Pair) (rs : List Run) (k : ℕ) →
    total (p ∷ ps) rs k ≡ total (p ∷ []) rs k + total ps rs k
total_first p ps [] k = omega arith
total_first p ps (r ∷ rs) k =
    omega (arith, sum_by-cons (taken_by k) p ps, sum_by-cons (taken_by k) p [], total_first p ps rs (suc k))

one_run : (p : Pair) (rs : List Run) (k j i : ℕ) → i ≡ k + j → j < length rs → taken_by i p ≤ total (p ∷ []) rs k
one_run p [] k j i e h = absurd (omega arith)
one_run p (r ∷ rs) k zero i e h =
    subst (λ x. taken_by x p ≤ total (p ∷ []) (r ∷ rs) k) (sym same) (omega (arith, sum_by-cons (taken_by k) p []))
  where
    same : i ≡ k
    same = omega arith
one_run p (r ∷ rs) k (suc j) i e h = omega (arith, one_run p rs (suc k) j i (omega arith) (omega arith))

two_runs : (p : Pair) (rs : List Run) (k a b i j : ℕ) → i ≡ k + a → j ≡ k + b → a < b → b < length rs →
    taken_by i p + taken_by j p ≤ total (p ∷ []) rs k
two_runs p [] k a b i j e f h l = absurd (omega arith)
two_runs p (r ∷ rs) k zero zero i j e f h l = absurd (omega arith)
two_runs p (r ∷ rs) k zero (suc b) i j e f h l =
    subst (λ x. taken_by x p + taken_by j p ≤ total (p ∷ []) (r ∷ rs) k) (sym same) (omega (arith, sum_by-cons (taken_by k) p [], one_run p rs (suc k) b j (omega arith) (omega arith)))
  where
    same : i ≡ k
    same = omega arith
two_runs p (r ∷ rs) k (suc a) zero i j e f h l = absurd (omega arith)
two_runs p (r ∷ rs) k (suc a) (suc b) i j e f h l =
    omega (arith, two_runs p rs (suc k) a b i j (omega arith) (omega arith) (omega arith) (omega arith))

two_each : (ps : List Pair) (runs : List Run) → AllTake (length runs) ps → 2 * length ps ≤ total ps runs 0
two_each [] runs h = omega arith
two_each (p ∷ ps) runs h = omega (arith, here, two_each ps runs h.1, total_first p ps runs 0, taken_opener p, taken_closer p, h.0.0)
  where
    here : taken_by p.opener p + taken_by p.closer p ≤ total (p ∷ []) runs 0
    here = two_runs p runs 0 p.opener p.closer p.opener p.closer (omega arith) (omega arith) h.0.1 h.0.2

total_within : (pairs : List Pair) (rs : List Run) (k : ℕ) → ((j i : ℕ) → i ≡ k + j → sum_by (taken_by i) pairs ≤ length (run_at rs j).codes)
    → total pairs rs k ≤ sum_by (λ r. length r.codes) rs
total_within pairs [] k h = omega arith
total_within pairs (r ∷ rs) k h =
    omega (arith, sum_by-cons (λ r. length r.codes) r rs, h 0 k (omega arith), total_within pairs rs (suc k) (λ j i e. h (suc j) i (omega arith)))

pub pairs_are_sound : PairsAreSound
pairs_are_sound s runs pairs h = record {
  taken_once = once;
  do_not_cross = λ p q c d x. apart s runs (length runs) [] 0 pairs p q h c d x;
  half = omega (arith, two_each pairs runs (all_take s runs (length runs) [] 0 pairs h), total_within pairs runs 0 (λ j i e. subst (λ x. sum_by (taken_by x) pairs ≤ length (run_at runs j).codes) (sym (e ∙ zero-add j)) (once j)));
}
  where
    once : (i : ℕ) → sum_by (taken_by i) pairs ≤ length (run_at runs i).codes
    once i = taken s runs (length runs) [] 0 pairs i h (omega arith)

-- Pair lists depend on shapes alone.

abbrev shape_at : List Shape → ℕ → Shape
shape_at [] i = record { marker = 0; size = 0; may_open = false; may_close = false }
shape_at (x ∷ xs) zero = x
shape_at (x ∷ xs) (suc i) = shape_at xs i

shape_at-map : (runs : List Run) (i : ℕ) → shape_of (run_at runs i) ≡ shape_at (map shape_of runs) i
shape_at-map [] i = refl
shape_at-map (r ∷ rs) zero = refl
shape_at-map (r ∷ rs) (suc i) = shape_at-map rs i

read_back : (s other : Setting) → ReadsPairsAlike s other → ReadsPairsAlike other s
read_back s other reads = record { lengths = sym reads.lengths; tildes = sym reads.tildes }

module _ (s other : Setting) (reads : ReadsPairsAlike s other) (runs others : List Run) (alike : map shape_of runs ≡ map shape_of others) where
  same_shape : (i : ℕ) → shape_of (run_at runs i) ≡ shape_of (run_at others i)
  same_shape i = shape_at-map runs i ∙ ap (λ x. shape_at x i) alike ∙ sym (shape_at-map others i)

  same_length : length runs ≡ length others
  same_length = sym (length-map runs shape_of) ∙ ap length alike ∙ length-map others shape_of

  same_marker : (i : ℕ) → marker_of (run_at runs i).codes ≡ marker_of (run_at others i).codes
  same_marker i = ap (λ x. x.marker) (same_shape i)

  same_size : (i : ℕ) → length (run_at runs i).codes ≡ length (run_at others i).codes
  same_size i = ap (λ x. x.size) (same_shape i)

  same_open : (i : ℕ) → (run_at runs i).may_open ≡ (run_at others i).may_open
  same_open i = ap (λ x. x.may_open) (same_shape i)

  same_close : (i : ℕ) → (run_at runs i).may_close ≡ (run_at others i).may_close
  same_close i = ap (λ x. x.may_close) (same_shape i)

  same_remaining : (earlier : List Pair) (i : ℕ) → remaining runs earlier i ≡ remaining others earlier i
  same_remaining earlier i = ap (λ x. x - sum_by (taken_by i) earlier) (same_size i)

  same_ruled : (earlier : List Pair) (i : ℕ) → ruled_size s runs earlier i ≡ ruled_size other others earlier i
  same_ruled earlier i = λ k. if reads.lengths k then same_size i k else same_remaining earlier i k

  same_three : (earlier : List Pair) (o c : ℕ) →
      is_refused_by_three s runs earlier o c ≡ is_refused_by_three other others earlier o c
  same_three earlier o c = λ k.
      (same_close o k || same_open c k) && (not (same_ruled earlier c k % 3 == 0) && (same_ruled earlier o k + same_ruled earlier c k) % 3 == 0)

  same_tilde : (earlier : List Pair) (o c : ℕ) →
      is_refused_as_tilde s runs earlier o c ≡ is_refused_as_tilde other others earlier o c
  same_tilde earlier o c = grind (arith, same_marker, same_remaining)

  moved : (earlier : List Pair) (o c : ℕ) → IsEligible s runs earlier o c → IsEligible other others earlier o c
  moved earlier o c h = grind (arith, same_length, same_marker, same_open, same_close, same_remaining, same_three, same_tilde)

moved_next : (s other : Setting) → ReadsPairsAlike s other → (runs others : List Run) → map shape_of runs ≡ map shape_of others → (earlier : List Pair) (last : ℕ) (p : Pair)
    → IsNextPair s runs earlier last p → IsNextPair other others earlier last p
moved_next s other reads runs others alike earlier last p h = grind (arith, moved, same_remaining, read_back)

moved_pairs : (s other : Setting) → ReadsPairsAlike s other → (runs others : List Run) → map shape_of runs ≡ map shape_of others → (end : ℕ) (earlier : List Pair) (last : ℕ) (ps : List Pair)
    → ArePairsFrom s runs end earlier last ps → ArePairsFrom other others end earlier last ps
moved_pairs s other reads runs others alike end earlier last [] h =
    λ o c from to fits. h o c from to (moved other s (read_back s other reads) others runs (sym alike) earlier o c fits)
moved_pairs s other reads runs others alike end earlier last (p ∷ ps) h =
    (moved_next s other reads runs others alike earlier last p h.0, moved_pairs s other reads runs others alike end (earlier ++ p ∷ []) p.closer ps h.1)

pub pairs_are_local : PairsAreLocal
pairs_are_local s other runs others pairs reads alike h =
    subst (λ x. ArePairsFrom other others x [] 0 pairs) (same_length s other reads runs others alike) (moved_pairs s other reads runs others alike (length runs) [] 0 pairs h)
