-- Parts of a list over which items are written.
use Rattle.std.proofs.Common.{◌≡◌, ℕ, zero, suc, ◌≤◌, ◌+◌, ◌-◌, List, [], ◌∷◌, ◌++◌, length, take, drop, sym, ap, ◌∙◌, arith, append_assoc, refl}
use Rattle.std.proofs.Math.Seq.{paste, take-add, drop-append_seam}
use Rattle.std.proofs.lemmas.List.{length-take, length-drop, drop-drop, drop-take, take-append-le, take-append-drop}
use Rattle.std.proofs.lemmas.List.Edits.{take-paste, drop-paste}

pub take-take-le : {X : Type 0} (a b : ℕ) (xs : List X) → a ≤ b → take a (take b xs) ≡ take a xs
take-take-le zero b xs h = refl
take-take-le (suc a) zero xs h = absurd (omega arith)
take-take-le (suc a) (suc b) [] h = refl
take-take-le (suc a) (suc b) (x ∷ xs) h = ap (λ ys. x ∷ ys) (take-take-le a b xs (omega arith))

-- an equal beginning has equal parts
pub part-same : {X : Type 0} (xs ys : List X) (n m : ℕ) → n ≤ m → take m xs ≡ take m ys → take (m - n) (drop n xs) ≡ take (m - n) (drop n ys)
part-same xs ys n m l h =
    let e : n + (m - n) ≡ m = omega arith in
    sym (drop-take n (m - n) xs) ∙ ap (λ k. drop n (take k xs)) e ∙ ap (drop n) h ∙ sym (ap (λ k. drop n (take k ys)) e) ∙ drop-take n (m - n) ys

module _ {X : Type 0} (d : List X) (at : ℕ) (s : List X) (n : ℕ) (within : at ≤ length d) where
  pub pasted-front : (k : ℕ) → k ≤ at → take k (paste d at s n) ≡ take k d
  pasted-front k l = grind (arith, length-take, append_assoc, take-append-le, take-take-le)

  pub pasted-back : drop at (paste d at s n) ≡ take n s ++ drop (at + n) d
  pasted-back =
      let size : length (take at d) ≡ at = omega (arith, length-take at d) in
      ap (λ k. drop k (paste d at s n)) (sym size) ∙ ap (drop (length (take at d))) (append_assoc (take at d) (take n s) (drop (at + n) d)) ∙ drop-append_seam (take at d) (take n s ++ drop (at + n) d)

  pub pasted-past : (k : ℕ) → n ≤ length s → at + n ≤ k → drop k (paste d at s n) ≡ drop k d
  pasted-past k m l =
      let e : at + n + (k - (at + n)) ≡ k = omega arith in
      ap (λ i. drop i (paste d at s n)) (sym e) ∙ sym (drop-drop (k - (at + n)) (at + n) (paste d at s n)) ∙ ap (drop (k - (at + n))) (drop-paste d at s n within m) ∙ drop-drop (k - (at + n)) (at + n) d ∙ ap (λ i. drop i d) e

-- items written over themselves stay
pub pasted-same : {X : Type 0} (xs : List X) (at n : ℕ) → xs ≡ paste xs at (drop at xs) n
pasted-same xs at n =
    sym (take-append-drop at xs) ∙ ap (λ ys. take at xs ++ ys) (sym (take-append-drop n (drop at xs)) ∙ ap (λ ys. take n (drop at xs) ++ ys) (drop-drop n at xs)) ∙ sym (append_assoc (take at xs) (take n (drop at xs)) (drop (at + n) xs))

-- the first n and m items of a part are those of its parts
two-parts : {X : Type 0} (xs : List X) (from n m : ℕ) → take n (drop from xs) ++ take m (drop (from + n) xs) ≡ take (n + m) (drop from xs)
two-parts xs from n m = ap (λ ys. take n (drop from xs) ++ take m ys) (sym (drop-drop n from xs)) ∙ sym (take-add n m (drop from xs))

-- m items are moved up so many places, and then the n before them
pub pasted-before : {X : Type 0} (d moved all : List X) (gap left n m : ℕ) → n ≤ gap → left + n + gap + m ≤ length d →
    moved ≡ paste d (left + n + gap) (drop (left + n) d) m → all ≡ paste moved (left + gap) (drop left moved) n → all ≡ paste d (left + gap) (drop left d) (n + m)
pasted-before d moved all gap left n m few within move write =
    let at = left + n + gap in
    let rest = drop (left + n) d in
    let front : take at moved ≡ take at d = ap (take at) move ∙ pasted-front d at rest m (omega arith) at (omega arith) in
    let first : take (left + gap) moved ≡ take (left + gap) d = ap (take (left + gap)) move ∙ pasted-front d at rest m (omega arith) (left + gap) (omega arith) in
    let size : left + n - left ≡ n = omega arith in
    let upto : take (left + n) moved ≡ take (left + n) d = ap (take (left + n)) move ∙ pasted-front d at rest m (omega arith) (left + n) (omega arith) in
    let part : take n (drop left moved) ≡ take n (drop left d) = ap (λ k. take k (drop left moved)) (sym size) ∙ part-same moved d left (left + n) (omega arith) upto ∙ ap (λ k. take k (drop left d)) size in
    let place : left + gap + n ≡ at = omega arith in
    let back : drop (left + gap + n) moved ≡ take m rest ++ drop (at + m) d = ap (λ k. drop k moved) place ∙ ap (drop at) move ∙ pasted-back d at rest m (omega arith) in
    let end : at + m ≡ left + gap + (n + m) = omega arith in
    write ∙ ap (λ ys. ys ++ take n (drop left moved) ++ drop (left + gap + n) moved) first ∙ ap (λ ys. take (left + gap) d ++ ys ++ drop (left + gap + n) moved) part ∙ ap (λ ys. take (left + gap) d ++ take n (drop left d) ++ ys) back ∙ sym (append_assoc (take (left + gap) d ++ take n (drop left d)) (take m rest) (drop (at + m) d)) ∙ ap (λ ys. ys ++ drop (at + m) d) (append_assoc (take (left + gap) d) (take n (drop left d)) (take m rest) ∙ ap (λ ys. take (left + gap) d ++ ys) (two-parts d left n m)) ∙ ap (λ k. take (left + gap) d ++ take (n + m) (drop left d) ++ drop k d) end

-- n items are moved down, and then the m behind them
pub pasted-after : {X : Type 0} (d moved all : List X) (at from n m : ℕ) → at ≤ from → from + n + m ≤ length d →
    moved ≡ paste d at (drop from d) n → all ≡ paste moved (at + n) (drop (from + n) moved) m → all ≡ paste d at (drop from d) (n + m)
pasted-after d moved all at from n m order within move write = grind (arith, length-drop, take-paste, pasted-past, append_assoc, two-parts)

-- The same, as the two loops meet them.

pub pasted-up : {X : Type 0} (old items all : List X) (gap left to n : ℕ) → n ≤ gap → n ≤ left → left ≤ to → to + gap ≤ length old →
    items ≡ paste old (left + gap) (drop left old) (to - left) → all ≡ paste items (left - n + gap) (drop (left - n) items) n →
    all ≡ paste old (left - n + gap) (drop (left - n) old) (to - (left - n))
pasted-up old items all gap left to n few low order within move write = grind (arith, pasted-before)

pub pasted-down : {X : Type 0} (old items all : List X) (gap from at to n : ℕ) → gap ≤ from → from ≤ at → at + n ≤ to → to ≤ length old →
    items ≡ paste old (from - gap) (drop from old) (at - from) → all ≡ paste items (at - gap) (drop at items) n →
    all ≡ paste old (from - gap) (drop from old) (at + n - from)
pasted-down old items all gap from at to n low order few within move write =
    let e : at - gap ≡ from - gap + (at - from) = omega arith in
    let place : at ≡ from + (at - from) = omega arith in
    let count : at - from + n ≡ at + n - from = omega arith in
    pasted-after old items all (from - gap) from (at - from) n (omega arith) (omega arith) move (write ∙ ap (λ k. paste items k (drop at items) n) e ∙ ap (λ k. paste items (from - gap + (at - from)) (drop k items) n) place) ∙ ap (λ k. paste old (from - gap) (drop from old) k) count
