-- Each look is paid.
use Rattle.std.proofs.Common.{take_all, ◌≡◌, ℕ, zero, suc, ◌+◌, ◌<◌, ◌≤◌, Bool, true, false, cond, ◌&&◌, eqb, leb, List, length, refl, sym, ◌∙◌, ap, subst, inl, inr, arith}
use Rattle.std.proofs.lemmas.Bool.{cases_eq, cases_lt, cases_Bool, eq-eqb, ne_eqb, le-leb, lt-leb, leb-true, eqb-true, and_parts, and_left, and_right}
use Rattle.markdown_attention.specs.declared.attention.runs.Sequence.{Sequence}
use Rattle.markdown_attention.specs.NumberedPairs.{run_at, no_run}
use Rattle.markdown_attention.specs.declared.attention.runs.Sequence.{Sequence}
use Rattle.std.proofs.lemmas.List.Sums.{count_by_more_yes, count_by_more_no}
use Rattle.std.specs.Prelude.{count_by, take}

-- the sum of the first n values of f
abbrev pub upto : (ℕ → ℕ) → ℕ → ℕ
upto f zero = 0
upto f (suc n) = upto f n + f n

abbrev pub count_if : Bool → ℕ
count_if b = cond b 1 0

-- how many of the first n runs may open, may close
abbrev pub openers : List Sequence → ℕ → ℕ
openers runs n = upto (λ r. count_if (run_at runs r).may_open) n

abbrev pub closers : List Sequence → ℕ → ℕ
closers runs n = upto (λ r. count_if (run_at runs r).may_close) n

counted : (p : Sequence → Bool) (runs : List Sequence) (n : ℕ) → n ≤ length runs →
    upto (λ r. count_if (p (run_at runs r))) n ≡ count_by p (take n runs)
counted p runs zero l = refl
counted p runs (suc n) l =
    let before = counted p runs n (omega arith) in
    let one : n + 1 ≡ suc n = omega arith in
    elim (cases_Bool (p (run_at runs n))) [
      | inl is ↦
          let more : count_by p (take (suc n) runs) ≡ count_by p (take n runs) + 1 = subst (λ m. count_by p (take m runs) ≡ count_by p (take n runs) + 1) one (count_by_more_yes p runs n no_run (omega arith) is) in
          rw (is, before) (sym more)
      | inr isnt ↦
          let more : count_by p (take (suc n) runs) ≡ count_by p (take n runs) = subst (λ m. count_by p (take m runs) ≡ count_by p (take n runs)) one (count_by_more_no p runs n no_run (omega arith) isnt) in
          rw (isnt, before) (omega (arith, more))
    ]

-- of all runs
pub counted-all : (p : Sequence → Bool) (runs : List Sequence) →
    upto (λ r. count_if (p (run_at runs r))) (length runs) ≡ count_by p runs
counted-all p runs =
    counted p runs (length runs) (omega arith) ∙ ap (count_by p) (take_all (length runs) runs (omega arith))

pub upto_le : (f g : ℕ → ℕ) (n : ℕ) → ((r : ℕ) → r < n → f r ≤ g r) → upto f n ≤ upto g n
upto_le f g zero h = omega arith
upto_le f g (suc n) h = let a = upto_le f g n (λ r l. h r (omega arith)) in let b = h n (omega arith) in omega arith

pub upto_add : (f g : ℕ → ℕ) (n : ℕ) → upto (λ r. f r + g r) n ≡ upto f n + upto g n
upto_add f g zero = refl
upto_add f g (suc n) = let a = upto_add f g n in omega arith

pub upto_zero : (f : ℕ → ℕ) (n : ℕ) → ((r : ℕ) → r < n → f r ≡ 0) → upto f n ≡ 0
upto_zero f zero h = refl
upto_zero f (suc n) h = let a = upto_zero f n (λ r l. h r (omega arith)) in let b = h n (omega arith) in omega arith

-- only one value counts
pub upto_one : (v o n : ℕ) → upto (λ r. cond (eqb r o) v 0) n ≤ v
upto_one v o zero = omega arith
upto_one v o (suc n) = grind (arith, cases_eq, upto_zero, ne_eqb, eq-eqb, upto_one v o n)

-- of six marks, how many are not above r
abbrev pub one_unless_marked : (ℕ → ℕ) → ℕ → ℕ → ℕ
one_unless_marked mark r class = cond (leb (mark class) r) 1 0

abbrev pub unmarked : (ℕ → ℕ) → ℕ → ℕ
unmarked mark r = upto (one_unless_marked mark r) 6

pub at_most_one : (b : Bool) → cond b 1 0 ≤ 1
at_most_one b = elim b as (λ v. cond v 1 0 ≤ 1) [ true ↦ omega arith | false ↦ omega arith ]

pub unmarked_le : (mark : ℕ → ℕ) (r : ℕ) → unmarked mark r ≤ 6
unmarked_le mark r = grind (arith, upto_le, at_most_one)

pub upto_has : (o n : ℕ) → o < n → 1 ≤ upto (λ r. cond (eqb r o) 1 0) n
upto_has o zero l = absurd (omega arith)
upto_has o (suc n) l =
    elim (cases_eq n o) [
      | inl e ↦ (let here : ◌≡◌ {A = ℕ} (cond (eqb n o) 1 0) 1 = rw (eq-eqb n o e) refl in omega arith)
      | inr ne ↦ (let rest = upto_has o n (omega arith) in omega arith)
    ]

-- a mark that rises past r takes one
pub unmarked_falls : (mark mark' : ℕ → ℕ) (r class : ℕ) → class < 6 → ((c : ℕ) → c < 6 → (c ≡ class → ⊥) → mark' c ≡ mark c)
    → mark class ≤ r → r < mark' class → unmarked mark' r + 1 ≤ unmarked mark r
unmarked_falls mark mark' r class l same low high =
    let gain : upto (λ c. one_unless_marked mark' r c + cond (eqb c class) 1 0) 6 ≤ unmarked mark r =
    upto_le (λ c. one_unless_marked mark' r c + cond (eqb c class) 1 0) (one_unless_marked mark r) 6
    (λ c b. grind (arith, cases_eq, lt-leb, eq-eqb, le-leb, ne_eqb)) in
    let split = upto_add (one_unless_marked mark' r) (λ c. cond (eqb c class) 1 0) 6 in
    let one : 1 ≤ upto (λ c. cond (eqb c class) 1 0) 6 = upto_has class 6 l in
    omega arith

pub unmarked_same : (mark mark' : ℕ → ℕ) (r : ℕ) → ((c : ℕ) → c < 6 → leb (mark' c) r ≡ leb (mark c) r) →
    unmarked mark' r ≤ unmarked mark r
unmarked_same mark mark' r h = grind (arith, upto_le)

pub unmarked_some : (mark : ℕ → ℕ) (r class : ℕ) → class < 6 → mark class ≤ r → 1 ≤ unmarked mark r
unmarked_some mark r class l low = grind (arith, upto_le, cases_eq, eq-eqb, le-leb, ne_eqb, upto_has)

-- what is kept for a run: one look for each class that it may still be refused for
abbrev pub kept : (ℕ → ℕ) → (ℕ → Bool) → (ℕ → ℕ → ℕ) → ℕ → ℕ
kept key open_at mark r = cond (open_at r) (unmarked (mark (key r)) r) 0

-- the open runs of list q from b on
abbrev pub looked : (ℕ → ℕ) → (ℕ → Bool) → ℕ → ℕ → ℕ → ℕ
looked key open_at q b r = cond (leb b r && (eqb (key r) q && open_at r)) 1 0

kept_open : (key : ℕ → ℕ) (open_at : ℕ → Bool) (mark : ℕ → ℕ → ℕ) (r : ℕ) → open_at r ≡ true →
    kept key open_at mark r ≡ unmarked (mark (key r)) r
kept_open key open_at mark r e = rw e refl

kept_shut : (key : ℕ → ℕ) (open_at : ℕ → Bool) (mark : ℕ → ℕ → ℕ) (r : ℕ) → open_at r ≡ false →
    kept key open_at mark r ≡ 0
kept_shut key open_at mark r e = rw e refl

pub kept_le : (key : ℕ → ℕ) (open_at : ℕ → Bool) (mark : ℕ → ℕ → ℕ) (r : ℕ) → kept key open_at mark r ≤ 6
kept_le key open_at mark r = grind (arith, cases_Bool, kept_open, unmarked_le, kept_shut)

module _ (key : ℕ → ℕ) (open_at : ℕ → Bool) (mark mark' : ℕ → ℕ → ℕ) (turn q class : ℕ) (small : class < 6)
    (others : (q' c : ℕ) → c < 6 → (q' ≡ q → ⊥) → mark' q' c ≡ mark q' c) where
  not_looked : (r : ℕ) → open_at r ≡ false → ◌≡◌ {A = ℕ} (looked key open_at q (mark q class) r) 0
  not_looked r e =
      ap (λ b. cond b 1 0) (and_right (leb (mark q class) r) (eqb (key r) q && open_at r) (and_right (eqb (key r) q) (open_at r) e))

  other_list : (r : ℕ) → (key r ≡ q → ⊥) → ◌≡◌ {A = ℕ} (looked key open_at q (mark q class) r) 0
  other_list r ne =
      ap (λ b. cond b 1 0) (and_right (leb (mark q class) r) (eqb (key r) q && open_at r) (and_left (eqb (key r) q) (open_at r) (ne_eqb (key r) q ne)))

  marked_before : (r : ℕ) → r < mark q class → ◌≡◌ {A = ℕ} (looked key open_at q (mark q class) r) 0
  marked_before r l =
      ap (λ b. cond b 1 0) (and_left (leb (mark q class) r) (eqb (key r) q && open_at r) (lt-leb (mark q class) r l))

  -- a closer that finds no opener
  pub pay_none : ((c : ℕ) → c < 6 → (c ≡ class → ⊥) → mark' q c ≡ mark q c) → mark' q class ≡ turn
      → upto (kept key open_at mark') turn + upto (looked key open_at q (mark q class)) turn ≤ upto (kept key open_at mark) turn
  pay_none rest at =
      let each : (r : ℕ) → r < turn → kept key open_at mark' r + looked key open_at q (mark q class) r ≤ kept key open_at mark r =
      λ r l. elim (cases_Bool (open_at r)) [
        | inr shut ↦
            let a = kept_shut key open_at mark' r shut in
            let b : ◌≡◌ {A = ℕ} (looked key open_at q (mark q class) r) 0 = not_looked r shut in
            omega arith
        | inl is ↦
            let a = kept_open key open_at mark' r is in
            let b = kept_open key open_at mark r is in
            elim (cases_eq (key r) q) [
              | inr ne ↦
                  let c : ◌≡◌ {A = ℕ} (looked key open_at q (mark q class) r) 0 = other_list r ne in
                  let d = unmarked_same (mark (key r)) (mark' (key r)) r (λ x y. ap (λ z. leb z r) (others (key r) x y ne)) in
                  omega arith
              | inl e ↦ elim (cases_lt r (mark q class)) [
                | inl below ↦
                    let c : ◌≡◌ {A = ℕ} (looked key open_at q (mark q class) r) 0 = marked_before r below in
                    let d = unmarked_same (mark (key r)) (mark' (key r)) r
                    (λ x y. elim (cases_eq x class) [
                      | inl e' ↦ rw (e, e') (lt-leb (mark' q class) r (omega arith) ∙ sym (lt-leb (mark q class) r below))
                      | inr ne ↦ rw e (ap (λ z. leb z r) (rest x y ne))
                    ]) in
                    omega arith
                | inr from ↦
                    let c : looked key open_at q (mark q class) r ≤ 1 = at_most_one (leb (mark q class) r && (eqb (key r) q && open_at r)) in
                    let d : unmarked (mark' (key r)) r + 1 ≤ unmarked (mark (key r)) r =
                    rw e (unmarked_falls (mark q) (mark' q) r class small (λ x y ne. rest x y ne) from (omega arith)) in
                    omega arith
              ]
            ]
      ] in
      let sum = upto_le (λ r. kept key open_at mark' r + looked key open_at q (mark q class) r) (kept key open_at mark) turn each in
      let split = upto_add (kept key open_at mark') (looked key open_at q (mark q class)) turn in
      omega arith

  -- a pair with the opener o
  pub pay_pair : (open' : ℕ → Bool) (o : ℕ) → o < turn
      → ((r : ℕ) → r < turn → (r ≡ o → ⊥) → open' r ≡ true → (open_at r ≡ true) × (key r ≡ q → r < o))
      → ((c : ℕ) → c < 6 → mark q c ≤ o → mark' q c ≡ mark q c) → ((c : ℕ) → c < 6 → o < mark q c → mark' q c ≡ o)
      → ((r : ℕ) → o < r → r < turn → key r ≡ q → open_at r ≡ true → mark q class ≤ r)
      → upto (kept key open' mark') turn + upto (looked key open_at q (o + 1)) turn ≤ upto (kept key open_at mark) turn + 6
  pay_pair open' o here stays low_same high_same unmarked_before =
      let each : (r : ℕ) → r < turn → kept key open' mark' r + looked key open_at q (o + 1) r ≤ kept key open_at mark r + cond (eqb r o) 6 0 =
      λ r l. elim (cases_eq r o) [
        | inl e ↦
            let a = kept_le key open' mark' r in
            let b : ◌≡◌ {A = ℕ} (looked key open_at q (o + 1) r) 0 =
            ap (λ b. cond b 1 0) (and_left (leb (o + 1) r) (eqb (key r) q && open_at r) (lt-leb (o + 1) r (omega arith))) in
            let c : ◌≡◌ {A = ℕ} (cond (eqb r o) 6 0) 6 = rw (eq-eqb r o e) refl in
            omega arith
        | inr ne ↦ elim (cases_Bool (leb (o + 1) r && (eqb (key r) q && open_at r))) [
          | inl seen ↦
              let p = and_parts (leb (o + 1) r) (eqb (key r) q && open_at r) seen in
              let p' = and_parts (eqb (key r) q) (open_at r) p.1 in
              let above : o + 1 ≤ r = leb-true (o + 1) r p.0 in
              let own : key r ≡ q = eqb-true (key r) q p'.0 in
              let gone : open' r ≡ false = elim (cases_Bool (open' r))
              [ inl y ↦ absurd (let z = (stays r l ne y).1 own in omega arith) | inr off ↦ off ] in
              let a = kept_shut key open' mark' r gone in
              let b = kept_open key open_at mark r p'.1 in
              let c : 1 ≤ unmarked (mark (key r)) r = rw own (unmarked_some (mark q) r class small (unmarked_before r (omega arith) l own p'.1)) in
              let d : looked key open_at q (o + 1) r ≤ 1 = at_most_one (leb (o + 1) r && (eqb (key r) q && open_at r)) in
              omega arith
          | inr unseen ↦
              let d : ◌≡◌ {A = ℕ} (looked key open_at q (o + 1) r) 0 = ap (λ b. cond b 1 0) unseen in
              elim (cases_Bool (open' r)) [
                | inr shut ↦ (let a = kept_shut key open' mark' r shut in omega arith)
                | inl is ↦
                    let was = stays r l ne is in
                    let a = kept_open key open' mark' r is in
                    let b = kept_open key open_at mark r was.0 in
                    elim (cases_eq (key r) q) [
                      | inr apart ↦
                          let c = unmarked_same (mark (key r)) (mark' (key r)) r (λ x y. ap (λ z. leb z r) (others (key r) x y apart)) in
                          omega arith
                      | inl own ↦
                          let below : r < o = was.1 own in
                          let c = unmarked_same (mark (key r)) (mark' (key r)) r
                          (λ x y. rw own (elim (cases_lt o (mark q x)) [
                            | inl high ↦
                                let e : mark' q x ≡ o = high_same x y high in
                                lt-leb (mark' q x) r (omega arith) ∙ sym (lt-leb (mark q x) r (omega arith))
                            | inr low ↦ ap (λ z. leb z r) (low_same x y low)
                          ])) in
                          omega arith
                    ]
              ]
        ]
      ] in
      let sum = upto_le (λ r. kept key open' mark' r + looked key open_at q (o + 1) r) (λ r. kept key open_at mark r + cond (eqb r o) 6 0) turn each in
      let split = upto_add (kept key open' mark') (looked key open_at q (o + 1)) turn in
      let split' = upto_add (kept key open_at mark) (λ r. cond (eqb r o) 6 0) turn in
      let six = upto_one 6 o turn in
      omega arith
