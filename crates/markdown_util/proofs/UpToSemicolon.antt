-- A text up to its first `;`, and the bytes of a value in front of it.
use Rattle.std.proofs.Common.{◌≡◌, ◌∙◌, sym, ap, refl, ℕ, zero, suc, ◌+◌, ◌≤◌, Bool, true, false, cond, ◌||◌, eqb, List, [], ◌∷◌, ◌++◌, length, take, drop, arith}
use Rattle.std.proofs.Math.Bool.{or-true}
use Rattle.std.specs.List.{list_all, list_any, prefix_len, position_or_len, before_first, after_first}
use Rattle.std.proofs.Math.Seq.{take-append_seam, drop-append-add}
use Rattle.std.proofs.lemmas.Bool.{false≢true, eqb-true, and_parts}
use Rattle.std.proofs.lemmas.List.{length-take}
use Rattle.std.proofs.lemmas.List.Sums.{prefix_len-le-length}
use Rattle.markdown_util.specs.Reference.{is_semicolon}
use Rattle.markdown_util.proofs.ValueBytes.{eqb_off}

one_more : (n : ℕ) → 1 + n ≡ suc n
one_more n = omega arith

-- bytes before a `;`, none of which is one
abbrev pub NoSemicolon : List ℕ → Type 0
NoSemicolon bs = list_any is_semicolon bs ≡ false

no_first : (b : ℕ) (bs : List ℕ) → NoSemicolon (b ∷ bs) → (eqb b 59 ≡ false) × NoSemicolon bs
no_first b bs h = go (eqb b 59) (list_any is_semicolon bs) h
  where
    go : (x y : Bool) → (x || y) ≡ false → (x ≡ false) × (y ≡ false)
    go true y e = absurd (false≢true (sym e))
    go false y e = (refl, e)

place : (xs rest : List ℕ) → NoSemicolon xs → position_or_len is_semicolon (xs ++ 59 ∷ rest) ≡ length xs
place [] rest h = refl
place (x ∷ xs) rest h =
    let parts = no_first x xs h in
    let more = place xs rest parts.1 in
    rw parts.0 (omega (arith, more))

pub before-semicolon : (xs rest : List ℕ) → NoSemicolon xs → before_first is_semicolon (xs ++ 59 ∷ rest) ≡ xs
before-semicolon xs rest h = ap (λ n. take n (xs ++ 59 ∷ rest)) (place xs rest h) ∙ take-append_seam xs (59 ∷ rest)

pub after-semicolon : (xs rest : List ℕ) → NoSemicolon xs → after_first is_semicolon (xs ++ 59 ∷ rest) ≡ rest
after-semicolon xs rest h =
    ap (λ n. drop (n + 1) (xs ++ 59 ∷ rest)) (place xs rest h) ∙ drop-append-add xs (59 ∷ rest) 1

pub any-semicolon : (xs rest : List ℕ) → list_any is_semicolon (xs ++ 59 ∷ rest) ≡ true
any-semicolon [] rest = refl
any-semicolon (x ∷ xs) rest = rw (any-semicolon xs rest) (or-true (is_semicolon x))

-- a text with a `;`, parted at the first one
pub record Parted (bs : List ℕ) : Type 0 where
  pub front : List ℕ
  pub back : List ℕ
  pub is : bs ≡ front ++ 59 ∷ back
  pub none : NoSemicolon front

pub parted : (bs : List ℕ) → list_any is_semicolon bs ≡ true → Parted bs
parted [] h = absurd (false≢true h)
parted (b ∷ bs) h = go (parted bs) (eqb b 59) refl h
  where
    go : (list_any is_semicolon bs ≡ true → Parted bs) → (x : Bool) → eqb b 59 ≡ x →
        (x || list_any is_semicolon bs) ≡ true → Parted (b ∷ bs)
    go rest true e h = record { front = []; back = bs; is = ap (λ c. c ∷ bs) (eqb-true b 59 e); none = refl }
    go rest false e h =
        let p = rest h in
        record { front = b ∷ p.front; back = p.back; is = ap (λ cs. b ∷ cs) p.is; none = ap (λ x. x || list_any is_semicolon p.front) e ∙ p.none }

-- Bytes that pass a test which `;` fails.
module _ (p : ℕ → Bool) (stops : p 59 ≡ false) where
  pub passing_none : (xs : List ℕ) → list_all p xs ≡ true → NoSemicolon xs
  passing_none [] h = refl
  passing_none (x ∷ xs) h =
      let parts = and_parts (p x) (list_all p xs) h in
      let off : eqb x 59 ≡ false = eqb_off x 59 (λ e. absurd (false≢true (sym stops ∙ ap p (sym e) ∙ parts.0))) in
      rw off (passing_none xs parts.1)

  -- they are as many as there are, where that is no more than n
  pub passing_len : (n : ℕ) (xs rest : List ℕ) → list_all p xs ≡ true → length xs ≤ n →
      prefix_len p (take n (xs ++ 59 ∷ rest)) ≡ length xs
  passing_len zero [] rest h le = refl
  passing_len (suc n) [] rest h le = rw stops refl
  passing_len zero (x ∷ xs) rest h le = absurd (omega arith)
  passing_len (suc n) (x ∷ xs) rest h le =
      let parts = and_parts (p x) (list_all p xs) h in
      let more = passing_len n xs rest parts.1 (omega arith) in
      rw parts.0 (omega (arith, more))

pub passing_front : (p : ℕ → Bool) (n : ℕ) (bs : List ℕ) → list_all p (take (prefix_len p (take n bs)) bs) ≡ true
passing_front p zero [] = refl
passing_front p (suc n) [] = refl
passing_front p zero (b ∷ bs) = refl
passing_front p (suc n) (b ∷ bs) = go (passing_front p n bs) (p b) refl
  where
    go : list_all p (take (prefix_len p (take n bs)) bs) ≡ true → (x : Bool) → p b ≡ x →
        list_all p (take (cond (p b) (1 + prefix_len p (take n bs)) 0) (b ∷ bs)) ≡ true
    go rest true e = rw (e, one_more (prefix_len p (take n bs)), e) rest
    go rest false e = rw e refl

pub prefix-le : (p : ℕ → Bool) (n : ℕ) (bs : List ℕ) → prefix_len p (take n bs) ≤ n
prefix-le p n bs = omega (arith, prefix_len-le-length p (take n bs), length-take n bs)
