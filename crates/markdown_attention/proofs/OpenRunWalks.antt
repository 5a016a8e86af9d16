-- What a walk over a list of open runs has seen.
use Rattle.std.proofs.Common.{◌≡◌, ℕ, zero, suc, ◌+◌, ◌-◌, ◌<◌, ◌≤◌, Bool, true, cond, eqb, List, get_or, sym, ◌∙◌, ap, subst, inl, inr, arith}
use Rattle.std.proofs.lemmas.Bool.{cases_eq, cases_lt, cases_Bool, eq-eqb, ne_eqb, and_parts, and_from, le-leb, leb-true, both_ways, eqb-true}
use Rattle.markdown_attention.specs.declared.attention.runs.Sequence.{Sequence}
use Rattle.markdown_content.specs.declared.configuration.ParseOptions.{ParseOptions}
use Rattle.markdown_attention.proofs.ProbePotential.{upto}
use Rattle.markdown_attention.specs.OpenRuns.{Newest, Passed, Refused, WalkFound, WalkEnded}
use Rattle.markdown_attention.proofs.ProbePotential.{upto_le, upto_add, upto_has, looked}

module _ (options : ParseOptions) (list : List Sequence) (older : List ℕ) (mark turn : ℕ) (key : ℕ → ℕ) (open_at : ℕ → Bool) (q : ℕ)
    (older_are : (r : ℕ) → r < turn → open_at r ≡ true → Newest key open_at (key r) r (get_or older r 0)) where
  looked_no : (b r : ℕ) → (b ≤ r → key r ≡ q → open_at r ≡ true → ⊥) → ◌≡◌ {A = ℕ} (looked key open_at q b r) 0
  looked_no b r never = grind (arith, cases_Bool, and_parts, leb-true, eqb-true)

  looked_yes : (b r : ℕ) → b ≤ r → key r ≡ q → open_at r ≡ true → ◌≡◌ {A = ℕ} (looked key open_at q b r) 1
  looked_yes b r low k o = ap (λ x. cond x 1 0) (and_from _ _ (le-leb b r low) (and_from _ _ (eq-eqb (key r) q k) o))

  -- looked from b counts at most what is looked from b', where no run from b on is left out
  looked_le : (b b' r : ℕ) → (b ≤ r → key r ≡ q → open_at r ≡ true → b' ≤ r) →
      looked key open_at q b r ≤ looked key open_at q b' r
  looked_le b b' r h = grind (arith, cases_Bool, and_parts, eqb-true, leb-true, looked_yes)

  pub record Seen (n next : ℕ) : Type 0 where
    pub bound : ℕ
    pub within : bound ≤ turn
    pub newest : Newest key open_at q bound next
    pub refused : (r : ℕ) → bound ≤ r → r < turn → key r ≡ q → open_at r ≡ true → Refused options list mark turn r
    pub count : n ≤ upto (looked key open_at q bound) turn

  pub seen : (head n next : ℕ) → Newest key open_at q turn head → Passed options list older mark turn head n next →
      Seen n next
  seen head zero next top h = grind arith
  seen head (suc n) next top h =
      let r = h.0 in
      let s = seen head n (suc r) top h.1 in
      let w = s.newest.within (omega arith) in
      let same : r ≡ suc r - 1 = omega arith in
      let l : key r ≡ q = ap key same ∙ s.newest.listed (omega arith) in
      let o : open_at r ≡ true = ap open_at same ∙ s.newest.is_open (omega arith) in
      let sw = s.within in
      let inside : r < turn = omega arith in
      let deeper : Newest key open_at q r next =
      subst (λ x. Newest key open_at q r x) (sym h.3) (subst (λ x. Newest key open_at x r (get_or older r 0)) l (older_are r inside o)) in
      let between : (i : ℕ) → r < i → i < s.bound → key i ≡ q → open_at i ≡ true → ⊥ =
      (λ i low high k e. both_ways (open_at i) (s.newest.none_above i (omega arith) high k) e) in
      let each : (i : ℕ) → i < turn → looked key open_at q s.bound i + cond (eqb i r) 1 0 ≤ looked key open_at q r i =
      λ i _. grind (arith, cases_eq, looked_no, eq-eqb, looked_yes, ne_eqb, looked_le) in
      let sum = upto_le (λ i. looked key open_at q s.bound i + cond (eqb i r) 1 0) (looked key open_at q r) turn each in
      let split = upto_add (looked key open_at q s.bound) (λ i. cond (eqb i r) 1 0) turn in
      let one = upto_has r turn inside in
      record {
        bound = r;
        within = omega arith;
        newest = deeper;
        refused = λ i low high k e.
            elim (cases_eq i r) [
              | inl e' ↦ subst (λ x. Refused options list mark turn x) (sym e') h.2
              | inr ne ↦ elim (cases_lt i s.bound) [
                | inl below ↦ absurd (between i (omega arith) below k e)
                | inr above ↦ s.refused i above high k e
              ]
            ];
        count = (let c = s.count in omega arith);
      }

  pub record FoundOpen (head o looks : ℕ) : Type 0 where
    pub before : o < turn
    pub listed : key o ≡ q
    pub is_open : open_at o ≡ true
    pub refused : (r : ℕ) → o < r → r < turn → key r ≡ q → open_at r ≡ true → Refused options list mark turn r
    pub count : looks ≤ upto (looked key open_at q (o + 1)) turn + 1

  pub found_open : (head o looks : ℕ) → Newest key open_at q turn head →
      WalkFound options list older mark turn head o looks → FoundOpen head o looks
  found_open head o looks top f = grind (arith, seen, upto_le, looked_le, cases_lt, both_ways)

  pub record NoneOpen (head looks : ℕ) : Type 0 where
    pub refused : (r : ℕ) → mark ≤ r → r < turn → key r ≡ q → open_at r ≡ true → Refused options list mark turn r
    pub count : looks ≤ upto (looked key open_at q mark) turn + 1

  pub none_open : (head looks : ℕ) → Newest key open_at q turn head →
      WalkEnded options list older mark turn head looks → NoneOpen head looks
  none_open head looks top f = grind (arith, seen, upto_le, cases_lt, looked_no, looked_le, both_ways)
