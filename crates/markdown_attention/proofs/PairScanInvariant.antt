-- What one scan over all containers keeps true of each container's pairs.
use Rattle.std.proofs.Common.{◌≡◌, ℕ, ◌+◌, ◌≤◌, eqb, cond, Bool, true, false, refl, List, ◌∷◌, ◌++◌, sym, subst, inl, inr, arith, append_assoc, append-nil, []}
use Rattle.std.proofs.lemmas.Bool.{cases_lt, cases_eq, eq-eqb, ne_eqb}
use Rattle.std.proofs.lemmas.List.Elements.{All-head, All-tail, All-push, All-nil, filter-append, All-filter, All-weaker}
use Rattle.std.specs.Prelude.{All}
use Rattle.markdown_attention.specs.declared.attention.runs.Sequence.{Sequence}
use Rattle.markdown_attention.specs.declared.attention.pairing.Pair.{Pair}
use Rattle.markdown_content.specs.declared.configuration.ParseOptions.{ParseOptions}
use Rattle.markdown_attention.specs.RunContainers.{ArePairsWithin, AreTakenOnce, AreByCloser}
use Rattle.markdown_attention.specs.NumberedPairs.{row_of, Eligible, IsNextNumbered, PairsFrom, run_at, pairs_in, taken}
use Rattle.markdown_attention.proofs.RemainingSizes.{taken_push, takes_opener, takes_closer, takes_other, fits_size}

module _ (options : ParseOptions) (runs : List Sequence) (k : ℕ) where
  pub pairs_extend : (end : ℕ) (done : List Pair) (last : ℕ) (ps : List Pair)
      → PairsFrom options runs k end done last ps
      → ((o : ℕ) → Eligible options runs k (done ++ ps) o end → ⊥)
      → PairsFrom options runs k (end + 1) done last ps
  pairs_extend end done last [] h none =
      λ o c low high e. grind (arith, cases_lt, append-nil)
  pairs_extend end done last (p ∷ ps) h none = (
    h.0,
    pairs_extend end (done ++ p ∷ []) p.closer ps h.1
        (λ o e. none o (subst (λ x. Eligible options runs k x o end) (append_assoc done (p ∷ []) ps) e)),
  )

  pub pairs_push : (end : ℕ) (done : List Pair) (last : ℕ) (ps : List Pair) (q : Pair)
      → PairsFrom options runs k end done last ps → last ≤ end → All (λ p. p.closer ≤ end) ps → q.closer ≡ end
      → IsNextNumbered options runs k (done ++ ps) end q
      → PairsFrom options runs k end done last (ps ++ q ∷ [])
  pairs_push end done last [] q h up all at next = grind (arith, append-nil)
  pairs_push end done last (p ∷ ps) q h up all at next = (
    h.0,
    pairs_push end (done ++ p ∷ []) p.closer ps q h.1 (All-head (λ p. p.closer ≤ end) p ps all)
        (All-tail (λ p. p.closer ≤ end) p ps all) at
        (subst (λ x. IsNextNumbered options runs k x end q) (sym (append_assoc done (p ∷ []) ps)) next),
  )

pub record Scanned (options : ParseOptions) (runs : List Sequence) (turn : ℕ) (pairs : List Pair) : Type 0 where
  pub lists : (k : ℕ) → PairsFrom options runs k turn [] 0 (pairs_in runs k pairs)
  pub closers : All (λ p. p.closer ≤ turn) pairs
  pub order : AreByCloser pairs

-- one pair more, whose closer is none before the others
by_closer_push : (ps : List Pair) (q : Pair) → All (λ p. p.closer ≤ q.closer) ps → AreByCloser ps → AreByCloser (ps ++ q ∷ [])
by_closer_push [] q h s = (All-nil (λ x. q.closer ≤ x.closer), tt)
by_closer_push (p ∷ ps) q h s = (
  All-push (λ x. p.closer ≤ x.closer) ps q s.0 (All-head (λ x. x.closer ≤ q.closer) p ps h),
  by_closer_push ps q (All-tail (λ x. x.closer ≤ q.closer) p ps h) s.1,
)

module _ (runs : List Sequence) where
  pub in_other : (k : ℕ) (pairs : List Pair) (q : Pair) → ((row_of (run_at runs q.closer).text) ≡ k → ⊥)
      → pairs_in runs k (pairs ++ q ∷ []) ≡ pairs_in runs k pairs
  in_other k pairs q ne = grind (arith, filter-append, ne_eqb, append-nil)

  pub in_own : (k : ℕ) (pairs : List Pair) (q : Pair) → (row_of (run_at runs q.closer).text) ≡ k
      → pairs_in runs k (pairs ++ q ∷ []) ≡ pairs_in runs k pairs ++ q ∷ []
  in_own k pairs q e = grind (arith, filter-append, eq-eqb)

module _ (options : ParseOptions) (runs : List Sequence) where
  pub scanned_none : Scanned options runs 0 []
  scanned_none = record { lists = λ k o c low high e. absurd (omega arith); closers = All-nil (λ p. p.closer ≤ 0); order = tt }

  pub scanned_next : (turn : ℕ) (pairs : List Pair) → Scanned options runs turn pairs
      → ((o : ℕ) → Eligible options runs (row_of (run_at runs turn).text) (pairs_in runs (row_of (run_at runs turn).text) pairs) o turn → ⊥)
      → Scanned options runs (turn + 1) pairs
  scanned_next turn pairs h none = grind (arith, pairs_extend)

  pub scanned_pair : (turn : ℕ) (pairs : List Pair) (q : Pair) → Scanned options runs turn pairs → q.closer ≡ turn
      → IsNextNumbered options runs (row_of (run_at runs turn).text) (pairs_in runs (row_of (run_at runs turn).text) pairs) turn q
      → Scanned options runs turn (pairs ++ q ∷ [])
  scanned_pair turn pairs q h at next =
      record {
        lists = λ k. elim (cases_eq (row_of (run_at runs q.closer).text) k) [
          | inl own ↦
              let own' : (row_of (run_at runs turn).text) ≡ k = subst (λ x. (row_of (run_at runs x).text) ≡ k) at own in
              subst (λ x. PairsFrom options runs k turn [] 0 x) (sym (in_own runs k pairs q own))
              (pairs_push options runs k turn [] 0 (pairs_in runs k pairs) q (h.lists k) (omega arith)
              (All-filter (λ p. eqb (row_of (run_at runs p.closer).text) k) (λ p. p.closer ≤ turn) pairs h.closers) at
              (subst (λ x. IsNextNumbered options runs x (pairs_in runs x pairs) turn q) own' next))
          | inr other ↦ subst (λ x. PairsFrom options runs k turn [] 0 x) (sym (in_other runs k pairs q other)) (h.lists k)
        ];
        closers = All-push (λ p. p.closer ≤ turn) pairs q h.closers (omega arith);
        order = by_closer_push pairs q (All-weaker (λ p. p.closer ≤ turn) (λ p. p.closer ≤ q.closer) (λ p b. omega (arith, b, at)) pairs h.closers) h.order;
      }

-- the pairs are of two runs of one container
within-from : (options : ParseOptions) (runs : List Sequence) (k end : ℕ) (done : List Pair) (last : ℕ) (ps : List Pair) →
    PairsFrom options runs k end done last ps → ArePairsWithin runs ps
within-from options runs k end done last [] h = tt
within-from options runs k end done last (p ∷ ps) h = grind (arith, within-from options runs k end (done ++ p ∷ []) p.closer ps h.1)

-- what holds of the pairs of each container holds of all
within-each : (runs : List Sequence) (ps : List Pair) → ((k : ℕ) → ArePairsWithin runs (pairs_in runs k ps)) →
    ArePairsWithin runs ps
within-each runs [] h = tt
within-each runs (p ∷ ps) h =
    let k : ℕ = row_of (run_at runs p.closer).text in (
      (subst (λ (b : Bool). ArePairsWithin runs (cond b (p ∷ pairs_in runs k ps) (pairs_in runs k ps))) (eq-eqb k k refl) (h k)).0,
      within-each runs ps (λ j. rest j (eqb k j) (h j)),
    )
  where
    rest : (j : ℕ) (b : Bool) → ArePairsWithin runs (cond b (p ∷ pairs_in runs j ps) (pairs_in runs j ps)) →
        ArePairsWithin runs (pairs_in runs j ps)
    rest j true a = a.1
    rest j false a = a

pub all-within : (options : ParseOptions) (runs : List Sequence) (turn : ℕ) (pairs : List Pair) →
    Scanned options runs turn pairs → ArePairsWithin runs pairs
all-within options runs turn pairs h =
    within-each runs pairs (λ k. within-from options runs k turn [] 0 (pairs_in runs k pairs) (h.lists k))

-- of a run no more is taken than it has
once-next : (options : ParseOptions) (runs : List Sequence) (k : ℕ) (done : List Pair) (last : ℕ) (p : Pair) (g : ℕ) →
    IsNextNumbered options runs k done last p → taken done g ≤ (run_at runs g).size →
    taken (done ++ p ∷ []) g ≤ (run_at runs g).size
once-next options runs k done last p g n h = grind (arith, fits_size, taken_push, cases_eq, takes_opener, takes_closer, takes_other)

once-from : (options : ParseOptions) (runs : List Sequence) (k end : ℕ) (done : List Pair) (last : ℕ) (ps : List Pair) (g : ℕ) →
    PairsFrom options runs k end done last ps → taken done g ≤ (run_at runs g).size →
    taken (done ++ ps) g ≤ (run_at runs g).size
once-from options runs k end done last [] g h t =
    subst (λ (x : List Pair). taken x g ≤ (run_at runs g).size) (sym (append-nil done)) t
once-from options runs k end done last (p ∷ ps) g h t =
    subst (λ (x : List Pair). taken x g ≤ (run_at runs g).size) (append_assoc done (p ∷ []) ps) (once-from options runs k end (done ++ p ∷ []) p.closer ps g h.1 (once-next options runs k done last p g h.0 t))

none-taken : (g n : ℕ) → taken [] g ≤ n
unfolding taken
none-taken g n = omega arith

pub all-once : (options : ParseOptions) (runs : List Sequence) (turn : ℕ) (pairs : List Pair) →
    Scanned options runs turn pairs → AreTakenOnce runs pairs
all-once options runs turn pairs h g =
    let k : ℕ = row_of (run_at runs g).text in
    once-from options runs k turn [] 0 (pairs_in runs k pairs) g (h.lists k) (none-taken g (run_at runs g).size)
