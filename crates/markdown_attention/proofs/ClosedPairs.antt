-- Pairs in the order of their closers, run by run.
use Rattle.std.proofs.Common.{◌≡◌, ◌≢◌, ℕ, zero, suc, ◌+◌, ◌<◌, ◌≤◌, Bool, true, false, ◌==◌, if◌then◌else◌, List, [], ◌∷◌, length, take, drop, get_or, refl, sym, ap, subst, ◌∙◌, arith, inl, inr}
use Rattle.std.proofs.lemmas.Bool.{cases_lt, eq-eqb, ne_eqb}
use Rattle.std.proofs.lemmas.List.{take_more}
use Rattle.std.proofs.lemmas.List.Elements.{All-cons, All-head, All-nil, All-push, All-tail, All-weaker}
use Rattle.std.specs.List.{All}
use Rattle.markdown_attention.specs.declared.attention.pairing.Pair.{Pair}
use Rattle.markdown_attention.specs.PairSizes.{sizes_of, AreRest}
use Rattle.markdown_attention.specs.RunContainers.{AreByCloser}
use Rattle.markdown_attention.specs.RunEdits.{closed_sizes}

-- one pair more that a run closes
pub closed-more : (run : ℕ) (ps : List Pair) (k : ℕ) (d : Pair) → k < length ps → (get_or ps k d).closer ≡ run →
    All (λ p. p.closer ≡ run) (take k ps) → All (λ p. p.closer ≡ run) (take (k + 1) ps)
closed-more run ps k d l at all =
    subst (All (λ p. p.closer ≡ run)) (sym (take_more ps k d l)) (All-push (λ p. p.closer ≡ run) (take k ps) (get_or ps k d) all at)

-- the sizes of a run, by whether it closes the first pair
by-first : (g : ℕ) (p : Pair) (ps : List Pair) (b : Bool) → (p.closer == g) ≡ b →
    closed_sizes g (p ∷ ps) ≡ (if b then p.size ∷ closed_sizes g ps else closed_sizes g ps)
by-first g p ps b e = ap (λ (t : Bool). if t then p.size ∷ closed_sizes g ps else closed_sizes g ps) e

none-closed : (run : ℕ) (ps : List Pair) → All (λ p. run + 1 ≤ p.closer) ps → closed_sizes run ps ≡ []
none-closed run [] h = refl
none-closed run (p ∷ ps) h =
    let above : run + 1 ≤ p.closer = All-head (λ x. run + 1 ≤ x.closer) p ps h in
    by-first run p ps false (ne_eqb p.closer run (λ e. omega (arith, e, above)))
    ∙ none-closed run ps (All-tail (λ x. run + 1 ≤ x.closer) p ps h)

-- the first pairs are those that a run closes, the others those of later runs
record IsCutAt (run : ℕ) (ps : List Pair) (count : ℕ) : Type 0 where
  pub later : All (λ p. run + 1 ≤ p.closer) (drop count ps)
  pub order : AreByCloser (drop count ps)
  pub own : closed_sizes run ps ≡ sizes_of (take count ps)
  pub others : (g : ℕ) → run + 1 ≤ g → closed_sizes g ps ≡ closed_sizes g (drop count ps)

cut : (run : ℕ) (ps : List Pair) (count : ℕ) → All (λ p. run ≤ p.closer) ps → AreByCloser ps → All (λ p. p.closer ≡ run) (take count ps) →
    ((p : Pair) → count < length ps → (get_or ps count p).closer ≢ run) → IsCutAt run ps count
cut run [] zero later order here next =
    record { later = All-nil (λ p. run + 1 ≤ p.closer); order = tt; own = refl; others = λ g l. refl }
cut run [] (suc n) later order here next =
    record { later = All-nil (λ p. run + 1 ≤ p.closer); order = tt; own = refl; others = λ g l. refl }
cut run (p ∷ ps) zero later order here next =
    let low : run ≤ p.closer = All-head (λ x. run ≤ x.closer) p ps later in
    let above : run + 1 ≤ p.closer = elim (cases_lt run p.closer) [
      | inl more ↦ omega (arith, more)
      | inr none ↦ absurd (next p (omega arith) (omega (arith, none, low)))
    ] in
    let all : All (λ x. run + 1 ≤ x.closer) (p ∷ ps) =
    All-cons (λ x. run + 1 ≤ x.closer) p ps above (All-weaker (λ x. p.closer ≤ x.closer) (λ x. run + 1 ≤ x.closer) (λ x b. omega (arith, above, b)) ps order.0) in
    record { later = all; order = order; own = none-closed run (p ∷ ps) all; others = λ g l. refl }
cut run (p ∷ ps) (suc n) later order here next =
    let is : p.closer ≡ run = All-head (λ x. x.closer ≡ run) p (take n ps) here in
    let c = cut run ps n (All-tail (λ x. run ≤ x.closer) p ps later) order.1 (All-tail (λ x. x.closer ≡ run) p (take n ps) here) (λ d l. next d (omega (arith, l))) in
    record {
      later = c.later;
      order = c.order;
      own = by-first run p ps true (eq-eqb p.closer run is) ∙ ap (λ ks. p.size ∷ ks) c.own;
      others = λ g l. by-first g p ps false (ne_eqb p.closer g (λ e. omega (arith, is, e, l))) ∙ c.others g l;
    }

pub rest-of-all : (pairs : List Pair) → AreByCloser pairs → AreRest pairs 0 pairs
rest-of-all pairs h = record { later = λ k d l. omega arith; order = h; sizes = λ g l. refl }

pub record IsStretch (pairs : List Pair) (run : ℕ) (rest : List Pair) (count : ℕ) : Type 0 where
  pub own : sizes_of (take count rest) ≡ closed_sizes run pairs
  pub behind : AreRest pairs (run + 1) (drop count rest)

-- the pairs that the next run closes, and those behind them
pub next-stretch : (pairs : List Pair) (run : ℕ) (rest : List Pair) (count number : ℕ) → number ≡ run → AreRest pairs run rest →
    All (λ p. p.closer ≡ number) (take count rest) → ((p : Pair) → count < length rest → (get_or rest count p).closer ≢ number) →
    IsStretch pairs run rest count
next-stretch pairs run rest count number e r here next =
    let c = cut run rest count r.later r.order (subst (λ n. All (λ p. p.closer ≡ n) (take count rest)) e here)
    (subst (λ n. (p : Pair) → count < length rest → (get_or rest count p).closer ≢ n) e next) in
    record {
      own = sym (r.sizes run (omega arith) ∙ c.own);
      behind = record { later = c.later; order = c.order; sizes = λ g l. r.sizes g (omega (arith, l)) ∙ c.others g l };
    }
