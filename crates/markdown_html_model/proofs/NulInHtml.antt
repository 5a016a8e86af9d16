-- A text in which NUL is U+FFFD.
use Rattle.std.proofs.Common.{◌≡◌, ◌∙◌, sym, ap, refl, ℕ, suc, ◌+◌, Bool, true, false, cond, List, [], ◌∷◌, ◌++◌, append-nil, append_assoc, length, drop, arith}
use Rattle.std.specs.List.{prefix_len}
use Rattle.std.proofs.lemmas.Grind.{flat_map-append}
use Rattle.markdown_html_model.specs.Escaped.{is_no_nul, replaced, replaced_byte}

pub replaced-append : (xs ys : List ℕ) → replaced (xs ++ ys) ≡ replaced xs ++ replaced ys
unfolding replaced
replaced-append xs ys = flat_map-append replaced_byte xs ys

-- a byte that is no NUL stands as it is
pub replaced-kept : (b : ℕ) (rest : List ℕ) → is_no_nul b ≡ true → replaced (b ∷ rest) ≡ b ∷ replaced rest
unfolding replaced
replaced-kept b rest is = rw is refl

-- what stands after the front is none of them
ends-by : (p : ℕ → Bool) (x : ℕ) (xs : List ℕ) (b : ℕ) (rest : List ℕ) (m n : ℕ) (t : Bool) → p x ≡ t → n ≡ cond t (1 + m) 0 → (drop m xs ≡ b ∷ rest → p b ≡ false)
    → drop n (x ∷ xs) ≡ b ∷ rest → p b ≡ false
ends-by p x xs b rest m n true h len ih e =
    let more : suc m ≡ n = omega arith in
    ih (ap (λ k. drop k (x ∷ xs)) more ∙ e)
ends-by p x xs b rest m n false h len ih e =
    let first : x ∷ xs ≡ b ∷ rest = ap (λ k. drop k (x ∷ xs)) (sym len) ∙ e in cc

ends-front : (p : ℕ → Bool) (xs : List ℕ) (b : ℕ) (rest : List ℕ) → drop (prefix_len p xs) xs ≡ b ∷ rest → p b ≡ false
ends-front p [] b rest e = cc
ends-front p (x ∷ xs) b rest e = ends-by p x xs b rest (prefix_len p xs) _ (p x) refl refl (ends-front p xs b rest) e

-- what is written and what the rest gives stay the whole
pub nul_more : (whole out out' text left : List ℕ) (b : ℕ) (rest : List ℕ) (n : ℕ) → out ++ replaced left ≡ whole → n ≡ prefix_len is_no_nul text → left ≡ drop n text → left ≡ b ∷ rest
    → out' ≡ out ++ (239 ∷ 191 ∷ 189 ∷ []) → out' ++ replaced rest ≡ whole
unfolding replaced
nul_more whole out out' text left b rest n so_far is back first e =
    let nul : is_no_nul b ≡ false = ends-front is_no_nul text b rest (sym (ap (λ k. drop k text) is) ∙ sym back ∙ first) in
    let here : replaced_byte b ≡ 239 ∷ 191 ∷ 189 ∷ [] = rw nul refl in
    ap (λ bs. bs ++ replaced rest) e ∙ append_assoc out (239 ∷ 191 ∷ 189 ∷ []) (replaced rest)
    ∙ ap (λ bs. out ++ (bs ++ replaced rest)) (sym here) ∙ ap (λ bs. out ++ replaced bs) (sym first) ∙ so_far

pub nul_end : (whole out left : List ℕ) → out ++ replaced left ≡ whole → length left ≡ 0 → out ≡ whole
unfolding replaced
nul_end whole out [] so_far none = sym (append-nil out) ∙ so_far
nul_end whole out (b ∷ left) so_far none = cc
