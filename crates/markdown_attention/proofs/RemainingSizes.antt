-- The runs as they stand say what the pairs of each container took of them.
use Rattle.std.proofs.Common.{◌≡◌, ℕ, ◌+◌, ◌*◌, ◌<◌, ◌≤◌, false, ◌||◌, List, ◌∷◌, ◌++◌, length, set, refl, sym, ◌∙◌, ap, arith, length-set, []}
use Rattle.std.proofs.lemmas.Bool.{eq-eqb, ne_eqb, cases_Bool, and_parts, ltb-true, le-ltb, and_right}
use Rattle.std.proofs.lemmas.List.{get_or-set_same, get_or-set_other}
use Rattle.std.proofs.lemmas.List.Folds.{list_any-append, list_any_none}
use Rattle.std.proofs.lemmas.List.Sums.{sum_by_push, sum_by-set}
use Rattle.std.specs.Prelude.{All}
use Rattle.std.proofs.Math.Bool.{or-false}
use Rattle.std.specs.List.{list_any}
use Rattle.markdown_attention.specs.declared.attention.runs.Sequence.{Sequence}
use Rattle.markdown_attention.specs.declared.attention.pairing.Pair.{Pair}
use Rattle.markdown_attention.specs.NumberedPairs.{run_at, no_run, size_of_pair, lower, after_taking, markers_left, taken, takes, is_shut, is_around}

-- no pair is around a run that no closer is past
pub not_shut_past : (turn : ℕ) (pairs : List Pair) → All (λ p. p.closer ≤ turn) pairs → is_shut pairs turn ≡ false
unfolding is_shut
not_shut_past turn pairs h = grind (arith, list_any_none, and_right, le-ltb)

pub shut_push : (pairs : List Pair) (q : Pair) (i : ℕ) →
    is_shut (pairs ++ q ∷ []) i ≡ (is_shut pairs i || is_around i q)
unfolding is_shut
shut_push pairs q i =
    list_any-append (is_around i) pairs (q ∷ []) ∙ ap (λ x. list_any (is_around i) pairs || x) (or-false (is_around i q))

pub taken_push : (pairs : List Pair) (q : Pair) (i : ℕ) → taken (pairs ++ q ∷ []) i ≡ taken pairs i + takes i q
unfolding taken
taken_push pairs q i = sum_by_push (takes i) pairs q

-- what a pair takes
pub takes_opener : (q : Pair) → takes q.opener q ≡ q.size
takes_opener q = rw (eq-eqb q.opener q.opener refl)

pub takes_closer : (q : Pair) → takes q.closer q ≡ q.size
takes_closer q = grind (arith, cases_Bool, eq-eqb)

pub takes_other : (q : Pair) (i : ℕ) → (i ≡ q.opener → ⊥) → (i ≡ q.closer → ⊥) → takes i q ≡ 0
takes_other q i a b = rw (ne_eqb q.opener i (λ e. a (sym e)), ne_eqb q.closer i (λ e. b (sym e)))

module _ (list : List Sequence) (o c size : ℕ) (below : o < c) (within : c < length list) where
  pub length_taking : length (after_taking list o c size) ≡ length list
  length_taking = length-set _ c _ ∙ length-set list o _

  pub taking_closer : run_at (after_taking list o c size) c ≡ lower (run_at list c) size
  taking_closer =
      get_or-set_same (set list o (lower (run_at list o) size)) c (lower (run_at list c) size) no_run (rw length-set within)

  pub taking_opener : run_at (after_taking list o c size) o ≡ lower (run_at list o) size
  taking_opener = grind (arith, get_or-set_other, get_or-set_same)

  pub taking_other : (i : ℕ) → (i ≡ o → ⊥) → (i ≡ c → ⊥) → run_at (after_taking list o c size) i ≡ run_at list i
  taking_other i a b = grind (arith, get_or-set_other)

  pub markers_taking : size ≤ (run_at list o).remaining → size ≤ (run_at list c).remaining
      → markers_left (after_taking list o c size) + 2 * size ≡ markers_left list
  markers_taking a b = grind (arith, sum_by-set, length-set, get_or-set_other)

pub fits_size : (x y size : ℕ) → 0 < x → 0 < y → size ≡ size_of_pair x y → (0 < size) × (size ≤ x) × (size ≤ y)
fits_size x y size a b e = grind (arith, cases_Bool, and_parts, ltb-true)
