-- What the code of one turn does to the lists.
use Rattle.std.proofs.Common.{◌≡◌, ℕ, ◌+◌, ◌-◌, ◌*◌, ◌^◌, ◌<◌, ◌≤◌, Bool, true, false, cond, ◌&&◌, eqb, ltb, List, ◌∷◌, ◌++◌, length, get_or, set, refl, sym, ◌∙◌, ap, subst, inl, inr, ◌⊎◌, arith, length-set, replicate, []}
use Rattle.std.proofs.lemmas.Bool.{cases_eq, cases_lt, ne_eqb, cases_Bool, both_ways, and_parts, and_from, lt-ltb, ltb-true, eq-eqb}
use Rattle.std.proofs.lemmas.List.{get_or-set_same, get_or-set_other, get_or-replicate, get_or_past, length-replicate}
use Rattle.std.specs.Prelude.{IsTrue, IsFalse}
use Rattle.markdown_attention.specs.declared.attention.runs.Sequence.{Sequence}
use Rattle.markdown_attention.specs.declared.attention.pairing.Pair.{Pair}
use Rattle.markdown_content.specs.declared.configuration.ParseOptions.{ParseOptions}
use Rattle.markdown_attention.specs.RunContainers.{ArePairLists}
use Rattle.markdown_attention.proofs.PairScanIsPairList.{are-pair-lists}
use Rattle.markdown_attention.proofs.ProbePotential.{counted-all, openers, closers}
use Rattle.std.specs.Prelude.{count_by}
use Rattle.markdown_attention.specs.NumberedPairs.{row_of, run_at, size_of_pair, after_taking, markers_left}
use Rattle.markdown_attention.specs.OpenRuns.{key_of, class_of, list_of, is_open, IsCut, WalkFound, WalkEnded, mark_of, IsClosing}
use Rattle.markdown_attention.proofs.OpenRunLists.{Layout, ListsByMarker}
use Rattle.markdown_attention.specs.PairScan.{standing, AreUntaken, AreSmall}
use Rattle.std.proofs.lemmas.List.Sums.{get_or-le-sum_by}
use Rattle.markdown_attention.proofs.RefusalClasses.{class_small}
use Rattle.markdown_attention.proofs.OpenRunLists.{own, open_parts, kinds}
use Rattle.markdown_attention.proofs.PairScanByLists.{Inv, inv_idle, inv_walked, inv_pair, open_turn, taking_fits}

module _ (layout : Layout) (options : ParseOptions) (runs list : List Sequence) (turn : ℕ) (pairs : List Pair) (probes : ℕ) (heads older marks : List ℕ)
    (h : Inv layout.line options runs list turn pairs probes heads older marks) (here : turn < length runs) (by : ListsByMarker runs)
    (keys : (r : ℕ) → r < length runs → list_of layout.line runs r < length heads)
    (marks_length : length marks ≡ length heads * 6)
    (closer : Sequence) (e : closer ≡ run_at list turn) where
  abbrev k : ℕ
  k = list_of layout.line runs turn

  abbrev class : ℕ
  class = class_of options (run_at list turn) (run_at list turn).remaining

  closer_is : closer ≡ standing runs pairs turn
  closer_is = e ∙ h.stands.stands turn here

  pub key_is : key_of layout.line closer ≡ k
  key_is = ap (key_of layout.line) closer_is

  head_set : (heads' : List ℕ) → heads' ≡ cond (closer.may_open && ltb 0 closer.remaining) (set heads k (turn + 1)) heads
      → (length heads' ≡ length heads)
      × ((i : ℕ) → i < length heads → (i ≡ k → ⊥) → get_or heads' i 0 ≡ get_or heads i 0)
      × (is_open runs pairs turn ≡ true → get_or heads' k 0 ≡ turn + 1)
      × (is_open runs pairs turn ≡ false → get_or heads' k 0 ≡ get_or heads k 0)
  head_set heads' is =
      elim (cases_Bool (closer.may_open && ltb 0 closer.remaining)) [
        | inl t ↦ grind (arith, and_parts, closer_is, ltb-true, length-set, get_or-set_other, get_or-set_same, both_ways, open_turn)
        | inr f ↦ grind (arith, open_parts, closer_is, both_ways, and_from, lt-ltb)
      ]

  mark_inside : k * 6 + class < length marks
  mark_inside =
      let a = keys turn here in let b = class_small options (run_at list turn) (run_at list turn).remaining in omega arith

  pub end_turn : (probes' head : ℕ) (heads' marks' : List ℕ) → head ≡ get_or heads k 0
      → heads' ≡ cond (closer.may_open && ltb 0 closer.remaining) (set heads k (turn + 1)) heads
      → marks' ≡ cond (closer.may_close && ltb 0 closer.remaining) (set marks (k * 6 + class) turn) marks
      → ((IsClosing closer → ⊥) → probes' ≡ probes)
      → (IsClosing closer → WalkEnded options list older (mark_of marks k class) turn head (probes' - probes))
      → probes ≤ probes' → probes' ≤ probes + turn
      → Inv layout.line options runs list (turn + 1) pairs probes' heads' (older ++ head ∷ []) marks'
  end_turn probes' head heads' marks' head_is heads_is marks_is idle walked low high =
      let hs = head_set heads' heads_is in
      let small = class_small options (run_at list turn) (run_at list turn).remaining in
      rw head_is (elim (cases_Bool (closer.may_close && ltb 0 closer.remaining)) [
        | inl t ↦
            let p = and_parts closer.may_close (ltb 0 closer.remaining) t in
            let is' : marks' ≡ set marks (k * 6 + class) turn = marks_is ∙ rw t refl in
            let closes : IsTrue (run_at runs turn).may_close = sym (ap (λ r. r.may_close) closer_is) ∙ p.0 in
            let w : WalkEnded options list older (mark_of marks k class) turn (get_or heads k 0) (probes' - probes) =
            subst (λ x. WalkEnded options list older (mark_of marks k class) turn x (probes' - probes)) head_is (walked (p.0, ltb-true 0 closer.remaining p.1)) in
            let sum : probes + (probes' - probes) ≡ probes' = omega arith in
            subst (λ x. Inv layout.line options runs list (turn + 1) pairs x heads' (older ++ get_or heads k 0 ∷ []) marks') sum
            (inv_walked layout options runs list turn pairs probes heads older marks h here by keys (probes' - probes) heads' marks' closes w (omega arith)
            (rw is' (get_or-set_same marks (k * 6 + class) turn 0 mark_inside))
            (λ c lc ne. rw is' (get_or-set_other marks (k * 6 + class) (k * 6 + c) turn 0 (λ x. ne (omega arith))))
            (λ i c lc ne. rw is' (get_or-set_other marks (k * 6 + class) (i * 6 + c) turn 0 (λ x. ne (omega arith))))
            hs.0 hs.1 hs.2 hs.3)
        | inr f ↦
            let is' : marks' ≡ marks = marks_is ∙ rw f refl in
            let off : IsClosing closer → ⊥ = (λ x. both_ways _ f (and_from closer.may_close (ltb 0 closer.remaining) x.0 (lt-ltb 0 closer.remaining x.1))) in
            rw (idle off, is')
            (inv_idle layout options runs list turn pairs probes heads older marks h here by keys heads'
            (λ a b. off (ap (λ r. r.may_close) closer_is ∙ a, subst (λ r. 0 < r.remaining) (sym closer_is) b))
            hs.0 hs.1 hs.2 hs.3)
      ])

  module _ (o size probes' head : ℕ) (opener : Sequence) (opener_is : opener ≡ run_at list o) (head_is : head ≡ get_or heads k 0)
      (closing : IsClosing closer) (walk : WalkFound options list older (mark_of marks k class) turn head o (probes' - probes))
      (is_size : size ≡ size_of_pair opener.remaining closer.remaining) where
    walk' : WalkFound options list older (mark_of marks k class) turn (get_or heads k 0) o (probes' - probes)
    walk' = subst (λ x. WalkFound options list older (mark_of marks k class) turn x o (probes' - probes)) head_is walk

    closes : IsTrue (run_at runs turn).may_close
    closes = sym (ap (λ r. r.may_close) closer_is) ∙ closing.0

    some : 0 < (run_at list turn).remaining
    some = subst (λ r. 0 < r.remaining) e closing.1

    is_size' : size ≡ size_of_pair (run_at list o).remaining (run_at list turn).remaining
    is_size' = is_size ∙ ap (λ r. size_of_pair r.remaining closer.remaining) opener_is ∙ ap (λ r. size_of_pair (run_at list o).remaining r.remaining) e

    pub fits : (0 < size) × (size ≤ (run_at list o).remaining) × (size ≤ (run_at list turn).remaining)
    fits = taking_fits layout options runs list turn pairs probes heads older marks h here by keys o (probes' - probes) size walk' closes some is_size'

    pub pair_turn : (heads' marks' : List ℕ) → probes ≤ probes' → probes' ≤ probes + turn → length heads' ≡ length heads
        → ((i : ℕ) → layout.line (row_of closer.text) * 3 ≤ i → i < layout.line (row_of closer.text) * 3 + 3 → (i ≡ k → ⊥) → IsCut older o (get_or heads i 0) (get_or heads' i 0))
        → (IsFalse (eqb opener.remaining size) → layout.line (row_of closer.text) * 3 ≤ k → k < layout.line (row_of closer.text) * 3 + 3 → IsCut older o (get_or heads k 0) (get_or heads' k 0))
        → (IsTrue (eqb opener.remaining size) → get_or heads' k 0 ≡ get_or older o 0)
        → ((i : ℕ) → (i < layout.line (row_of closer.text) * 3) ⊎ (layout.line (row_of closer.text) * 3 + 3 ≤ i) → (i ≡ k → ⊥) → get_or heads' i 0 ≡ get_or heads i 0)
        → ((i : ℕ) → k * 6 ≤ i → i < k * 6 + 6 → get_or marks i 0 ≤ o → get_or marks' i 0 ≡ get_or marks i 0)
        → ((i : ℕ) → k * 6 ≤ i → i < k * 6 + 6 → o < get_or marks i 0 → get_or marks' i 0 ≡ o)
        → ((i : ℕ) → (i < k * 6) ⊎ (k * 6 + 6 ≤ i) → get_or marks' i 0 ≡ get_or marks i 0)
        → Inv layout.line options runs (after_taking list o turn size) turn (pairs ++ record { opener = o; closer = turn; size = size } ∷ []) probes' heads' older marks'
    pair_turn heads' marks' low high same cut own used others m_low m_high m_others =
        let in_container : layout.line (row_of closer.text) ≡ layout.line (row_of (run_at runs turn).text) = ap (λ r. layout.line (row_of r.text)) closer_is in
        let z = kinds (run_at runs turn).marker in
        let f = fits in
        let rem : opener.remaining ≡ (run_at list o).remaining = ap (λ r. r.remaining) opener_is in
        let sum : probes + (probes' - probes) ≡ probes' = omega arith in
        subst (λ x. Inv layout.line options runs (after_taking list o turn size) turn (pairs ++ record { opener = o; closer = turn; size = size } ∷ []) x heads' older marks') sum
        (inv_pair layout options runs list turn pairs probes heads older marks h here by keys o (probes' - probes) size walk' closes some is_size' heads' marks'
        (omega arith) same
        (λ i li far. elim far [
          | inl below ↦ others i (inl (omega arith)) (λ x. omega arith)
          | inr above ↦ others i (inr (omega arith)) (λ x. omega arith)
        ])
        (λ i from within ne. cut i (omega arith) (omega arith) ne)
        (λ more. own (ne_eqb opener.remaining size (λ x. omega arith)) (omega arith) (omega arith))
        (λ nil. used (eq-eqb opener.remaining size (let g = f.1 in omega arith)))
        (λ c lc l. m_low (k * 6 + c) (omega arith) (omega arith) l)
        (λ c lc l. m_high (k * 6 + c) (omega arith) (omega arith) l)
        (λ i c lc ne. elim (cases_lt i k) [
          | inl below ↦ m_others (i * 6 + c) (inl (omega arith))
          | inr above ↦ m_others (i * 6 + c) (inr (let x : k < i = (elim (cases_eq i k) [ inl q ↦ absurd (ne q) | inr q ↦ omega arith ]) in omega arith))
        ]))

pub small_runs : (layout : Layout) (options : ParseOptions) (runs list : List Sequence) (turn : ℕ) (pairs : List Pair) (probes : ℕ) (heads older marks : List ℕ)
    → Inv layout.line options runs list turn pairs probes heads older marks → AreUntaken runs → markers_left runs < 2 ^ 63 → AreSmall list
small_runs layout options runs list turn pairs probes heads older marks h whole small = λ i inside. grind (arith, fits, get_or-le-sum_by)

pub some_key : (layout : Layout) (runs : List Sequence) (n : ℕ) (heads : List ℕ) → length heads ≡ n * 3 → ((r : ℕ) → r < length runs → layout.line (row_of (run_at runs r).text) < n)
    → (r : ℕ) → r < length runs → list_of layout.line runs r < length heads
some_key layout runs n heads l h r inside = let a = h r inside in let z = kinds (run_at runs r).marker in omega arith

pub zeros : (n i : ℕ) → ◌≡◌ {A = ℕ} (get_or (replicate n 0) i 0) 0
zeros n i = grind (arith, cases_lt, get_or-replicate, get_or_past, length-replicate)

pub length_if : (b : Bool) (xs : List ℕ) (i v : ℕ) → length (cond b (set xs i v) xs) ≡ length xs
length_if true xs i v = length-set xs i v
length_if false xs i v = refl

pub less : (k a b s : ℕ) → a + 2 * s ≡ b → 0 < s → k + a < k + b
less k a b s e f = omega arith

-- after the last turn the scan has found the pair lists
pub scanned-all : (layout : Layout) (options : ParseOptions) (runs list : List Sequence) (turn : ℕ) (pairs : List Pair) (probes : ℕ) (heads older marks : List ℕ)
    → Inv layout.line options runs list turn pairs probes heads older marks → length list ≤ turn → ArePairLists options runs pairs
scanned-all layout options runs list turn pairs probes heads older marks h last = grind (arith, are-pair-lists)

pub paid-all : (layout : Layout) (options : ParseOptions) (runs list : List Sequence) (turn : ℕ) (pairs : List Pair) (probes : ℕ) (heads older marks : List ℕ)
    → Inv layout.line options runs list turn pairs probes heads older marks → length list ≤ turn
    → probes ≤ 6 * count_by (λ r. r.may_open) runs + count_by (λ r. r.may_close) runs + 7 * length pairs
paid-all layout options runs list turn pairs probes heads older marks h last =
    let all : turn ≡ length runs = (let a = h.within in let b = h.stands.same_length in omega arith) in
    let o : openers runs turn ≡ count_by (λ r. r.may_open) runs = ap (openers runs) all ∙ counted-all (λ r. r.may_open) runs in
    let c : closers runs turn ≡ count_by (λ r. r.may_close) runs = ap (closers runs) all ∙ counted-all (λ r. r.may_close) runs in
    let p = h.paid in
    omega (arith, o, c, p)

pub looks-all : (layout : Layout) (options : ParseOptions) (runs list : List Sequence) (turn : ℕ) (pairs : List Pair) (probes : ℕ) (heads older marks : List ℕ)
    → Inv layout.line options runs list turn pairs probes heads older marks → length list ≤ turn → probes ≤ (length runs + length pairs) * length runs
looks-all layout options runs list turn pairs probes heads older marks h last = grind arith
