-- Bytes that stand in HTML as they are.
use Rattle.std.proofs.Common.{◌≡◌, ◌∙◌, sym, ap, refl, subst, ℕ, zero, suc, ◌+◌, ◌-◌, ◌<◌, ◌≤◌, ◌==◌, ◌||◌, not, Bool, true, false, if◌then◌else◌, List, [], ◌∷◌, ◌++◌, append_assoc, get_or, length, take, drop, arith}
use Rattle.std.specs.Prelude.{codes}
use Rattle.std.specs.List.{slice_range}
use Rattle.std.proofs.lemmas.Grind.{flat_map-append}
use Rattle.std.proofs.lemmas.List.{take_more, drop_more, drop-drop, get_or-drop, length-drop}
use Rattle.std.proofs.Math.Seq.{take-add}
use Rattle.markdown_html_model.specs.Escaped.{escaped_byte, escaped, is_kept}

unescaped : (p q r s t : Bool) (b : ℕ) → not (p || q || r || s || t) ≡ true
    → (if p then codes "&amp;" else (if q then codes "&lt;" else (if r then codes "&gt;" else (if s then codes "&quot;" else (if t then 239 ∷ 191 ∷ 189 ∷ [] else b ∷ []))))) ≡ b ∷ []
unescaped false false false false false b h = refl
unescaped p q r s t b h = cc

kept-byte : (b : ℕ) → is_kept b ≡ true → escaped_byte b ≡ b ∷ []
kept-byte b h = unescaped (b == 38) (b == 60) (b == 62) (b == 34) (b == 0) b h

-- one more byte that stands as it is
kept-one : (xs : List ℕ) (i : ℕ) → escaped (take i xs) ≡ take i xs → i < length xs → is_kept (get_or xs i 0) ≡ true → escaped (take (i + 1) xs) ≡ take (i + 1) xs
unfolding escaped
kept-one xs i so_far h is = grind (arith, take_more xs i 0 h, flat_map-append escaped_byte (take i xs) (get_or xs i 0 ∷ []), kept-byte (get_or xs i 0) is)

kept-front : (xs : List ℕ) (n : ℕ) → n ≤ length xs → ((k : ℕ) → k < n → is_kept (get_or xs k 0) ≡ true) → escaped (take n xs) ≡ take n xs
unfolding escaped
kept-front xs zero h are = refl
kept-front xs (suc n) h are =
    let more : n + 1 ≡ suc n = omega arith in
    subst (λ m. escaped (take m xs) ≡ take m xs) more
    (kept-one xs n (kept-front xs n (omega arith) (λ k low. are k (omega arith))) (omega arith) (are n (omega arith)))

-- a stretch of bytes that stand as they are
pub kept-range : (xs : List ℕ) (i j : ℕ) → i ≤ j → j ≤ length xs → ((k : ℕ) → i ≤ k → k < j → is_kept (get_or xs k 0) ≡ true) → escaped (slice_range xs i j) ≡ slice_range xs i j
kept-range xs i j h l are = grind (arith, kept-front, length-drop, get_or-drop)

range-split : (xs : List ℕ) (i j k : ℕ) → i ≤ j → j ≤ k → slice_range xs i k ≡ slice_range xs i j ++ slice_range xs j k
range-split xs i j k h l = grind (arith, take-add (j - i) (k - j) (drop i xs), drop-drop (j - i) i xs)

range-cons : (xs : List ℕ) (j k : ℕ) → j < k → k ≤ length xs → slice_range xs j k ≡ get_or xs j 0 ∷ slice_range xs (j + 1) k
range-cons xs j k h l = grind (arith, drop_more)

escaped-cons : (b : ℕ) (rest : List ℕ) → escaped (b ∷ rest) ≡ escaped_byte b ++ escaped rest
unfolding escaped
escaped-cons b rest = refl

escaped-append : (xs ys : List ℕ) → escaped (xs ++ ys) ≡ escaped xs ++ escaped ys
unfolding escaped
escaped-append xs ys = flat_map-append escaped_byte xs ys

-- what is written and what the rest gives stay the whole
pub range_more : (whole out out' xs : List ℕ) (i j k : ℕ) → i ≤ j → j < k → k ≤ length xs → out ++ escaped (slice_range xs i k) ≡ whole → escaped (slice_range xs i j) ≡ slice_range xs i j
    → out' ≡ (out ++ slice_range xs i j) ++ escaped_byte (get_or xs j 0) → out' ++ escaped (slice_range xs (j + 1) k) ≡ whole
range_more whole out out' xs i j k h l m so_far are e =
    let first = slice_range xs i j in
    let rest = slice_range xs (j + 1) k in
    let b = escaped_byte (get_or xs j 0) in
    let le : j ≤ k = omega arith in
    let all : escaped (slice_range xs i k) ≡ first ++ (b ++ escaped rest) =
    ap escaped (range-split xs i j k h le ∙ ap (λ bs. first ++ bs) (range-cons xs j k l m))
    ∙ escaped-append first (get_or xs j 0 ∷ rest)
    ∙ ap (λ bs. bs ++ escaped (get_or xs j 0 ∷ rest)) are
    ∙ ap (λ bs. first ++ bs) (escaped-cons (get_or xs j 0) rest) in
    ap (λ bs. bs ++ escaped rest) e
    ∙ append_assoc (out ++ first) b (escaped rest)
    ∙ append_assoc out first (b ++ escaped rest)
    ∙ ap (λ bs. out ++ bs) (sym all)
    ∙ so_far

pub range_end : (whole out out' xs : List ℕ) (i j k : ℕ) → out ++ escaped (slice_range xs i k) ≡ whole → escaped (slice_range xs i j) ≡ slice_range xs i j → j ≡ k → out' ≡ out ++ slice_range xs i j → out' ≡ whole
range_end whole out out' xs i j k so_far are is e = grind arith
