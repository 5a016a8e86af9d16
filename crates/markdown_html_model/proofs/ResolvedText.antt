-- A text resolved from the left, step by step.
use Rattle.std.proofs.Common.{◌≡◌, ◌∙◌, sym, ap, refl, ℕ, suc, List, [], ◌∷◌, ◌++◌, append-nil, append_assoc, drop, length, Bool, true, false, not, ◌||◌, ◌&&◌, ◌==◌, if◌then◌else◌, arith}
use Rattle.markdown_util.specs.declared.decoding.Decoding.{Decoding}
use Rattle.markdown_html_model.specs.Resolved.{first_text, resolved, resolved_after, is_literal}

-- what is skipped may as well be dropped
skipped : (how : Decoding) (n : ℕ) (rest : List ℕ) → resolved_after how n rest ≡ resolved_after how 0 (drop n rest)
skipped how (suc n) (b ∷ rest) = skipped how n rest
skipped how n rest = refl

first-by : {A : Type 0} (p c q : Bool) (x y z : A) → not (p || q) ≡ true → (if p && c then x else (if q then y else z)) ≡ z
first-by false c false x y z h = refl
first-by p c q x y z h = cc

pub literal-first : (how : Decoding) (b : ℕ) (rest : List ℕ) → is_literal b ≡ true → resolved how (b ∷ rest) ≡ b ∷ resolved how rest
unfolding resolved
literal-first how b rest h = ap (λ (f : List ℕ × ℕ). f.0 ++ resolved_after how f.1 rest) (first-by (b == 92) _ (b == 38) _ _ _ h)

-- what is written and what the rest gives stay the whole
pub resolved_more : (how : Decoding) (whole out out' text : List ℕ) (b : ℕ) (rest : List ℕ) (taken : ℕ) (left : List ℕ) → out ++ resolved how text ≡ whole → text ≡ b ∷ rest
    → (let read = first_text how b rest in (out' ≡ out ++ read.0) × (taken ≡ read.1)) → left ≡ drop taken rest → out' ++ resolved how left ≡ whole
unfolding resolved
resolved_more how whole out out' text b rest taken left so_far is read same = grind (arith, append_assoc, skipped)

pub resolved_end : (how : Decoding) (whole out text : List ℕ) → out ++ resolved how text ≡ whole → length text ≡ 0 → out ≡ whole
unfolding resolved
resolved_end how whole out [] so_far none = sym (append-nil out) ∙ so_far
resolved_end how whole out (b ∷ text) so_far none = cc
