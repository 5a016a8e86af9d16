-- A text of which some bytes stand as they are.
use Rattle.std.proofs.Common.{◌≡◌, ◌∙◌, sym, ap, refl, ℕ, suc, ◌+◌, Bool, true, false, ◌==◌, ◌||◌, cond, if◌then◌else◌, List, [], ◌∷◌, ◌++◌, append-nil, append_assoc, length, take, drop, arith}
use Rattle.std.specs.List.{prefix_len}
use Rattle.std.proofs.lemmas.Bool.{eqb-true}
use Rattle.markdown_html_model.specs.Escaped.{address_byte, addressed, is_address_byte}

front-by : (F : List ℕ → List ℕ) (p : ℕ → Bool) → ((b : ℕ) (rest : List ℕ) → p b ≡ true → F (b ∷ rest) ≡ b ∷ F rest) → (b : ℕ) (rest : List ℕ) (m n : ℕ) (t : Bool) → p b ≡ t → n ≡ cond t (1 + m) 0
    → F rest ≡ take m rest ++ F (drop m rest) → F (b ∷ rest) ≡ take n (b ∷ rest) ++ F (drop n (b ∷ rest))
front-by F p law b rest m n true h e ih =
    let more : suc m ≡ n = omega arith in
    law b rest h ∙ ap (λ bs. b ∷ bs) ih ∙ ap (λ k. take k (b ∷ rest) ++ F (drop k (b ∷ rest))) more
front-by F p law b rest m n false h e ih = ap (λ k. take k (b ∷ rest) ++ F (drop k (b ∷ rest))) (sym e)

-- where bytes of a kind stand as they are, those at the front do
front-kept : (F : List ℕ → List ℕ) (p : ℕ → Bool) → ((b : ℕ) (rest : List ℕ) → p b ≡ true → F (b ∷ rest) ≡ b ∷ F rest) → (xs : List ℕ) → F xs ≡ take (prefix_len p xs) xs ++ F (drop (prefix_len p xs) xs)
front-kept F p law [] = refl
front-kept F p law (b ∷ rest) = front-by F p law b rest (prefix_len p rest) _ (p b) refl refl (front-kept F p law rest)

-- what is written and what the rest gives stay the whole
pub front_more : (F : List ℕ → List ℕ) (p : ℕ → Bool) → ((b : ℕ) (rest : List ℕ) → p b ≡ true → F (b ∷ rest) ≡ b ∷ F rest) → (whole out text kept behind : List ℕ) (n : ℕ) → out ++ F text ≡ whole
    → n ≡ prefix_len p text → kept ≡ take n text → behind ≡ drop n text → (out ++ kept) ++ F behind ≡ whole
front_more F p law whole out text kept behind n so_far is front back = grind (arith, append_assoc, front-kept)

unlike : (b n : ℕ) → is_address_byte n ≡ false → is_address_byte b ≡ true → (t : Bool) → (b == n) ≡ t → (b == n) ≡ false
unlike b n none is true e = let same : is_address_byte b ≡ is_address_byte n = ap is_address_byte (eqb-true b n e) in cc
unlike b n none is false e = e

picked : (p q r i : Bool) (x y z w : List ℕ) → p ≡ false → q ≡ false → i ≡ true → (if p then x else (if q then y else (if r || i then z else w))) ≡ z
picked p q r i x y z w h k l = grind arith

addressed-first : (b : ℕ) (rest : List ℕ) → addressed (b ∷ rest) ≡ address_byte b rest ++ addressed rest
unfolding addressed
addressed-first b rest = refl

pub address-kept : (b : ℕ) (rest : List ℕ) → is_address_byte b ≡ true → addressed (b ∷ rest) ≡ b ∷ addressed rest
address-kept b rest is = grind (arith, addressed-first, picked, unlike)

pub address_more : (whole out out' left : List ℕ) (b : ℕ) (rest : List ℕ) → out ++ addressed left ≡ whole → left ≡ b ∷ rest → out' ≡ out ++ address_byte b rest → out' ++ addressed rest ≡ whole
address_more whole out out' left b rest so_far is e = grind (arith, append_assoc, addressed-first)

pub address_end : (whole out left : List ℕ) → out ++ addressed left ≡ whole → length left ≡ 0 → out ≡ whole
unfolding addressed
address_end whole out [] so_far none = sym (append-nil out) ∙ so_far
address_end whole out (b ∷ left) so_far none = cc
