-- The bytes of numbers that are printed from their end.
use Rattle.std.proofs.Common.{◌≡◌, ◌∙◌, sym, ap, ℕ, ◌-◌, ◌≤◌, List, ◌++◌, drop, take, length, arith}
use Rattle.std.proofs.Math.Seq.{drop-append_seam}
use Rattle.std.proofs.lemmas.List.{length-append, length-drop, length-take-le, drop-drop, drop-take}

-- what ends at 64 is as long as the way there
pub length-kept : (s : ℕ) (bytes kept : List ℕ) → s ≤ 64 → length bytes ≡ 128 → take (64 - s) (drop s bytes) ≡ kept →
    length kept ≡ 64 - s
length-kept s bytes kept h l e =
    sym (ap length e) ∙ length-take-le (64 - s) (drop s bytes) (omega (arith, length-drop s bytes, l, h))

-- the last n of them
pub last-kept : (s n : ℕ) (bytes kept : List ℕ) → s ≤ 64 → length bytes ≡ 128 → take (64 - s) (drop s bytes) ≡ kept → n ≤ length kept
    → take (64 - (64 - n)) (drop (64 - n) bytes) ≡ drop (length kept - n) kept
last-kept s n bytes kept h l e few =
    let all : length kept ≡ 64 - s = length-kept s bytes kept h l e in
    let d : ℕ = length kept - n in
    sym (
    ap (drop d) (sym e)
    ∙ ap (λ m. drop d (take m (drop s bytes))) (omega (arith, all, few))
    ∙ drop-take d n (drop s bytes)
    ∙ ap (take n) (drop-drop d s bytes)
    ∙ ap (λ m. take n (drop m bytes)) (omega (arith, all, few, h))
    ∙ ap (λ m. take m (drop (64 - n) bytes)) (omega (arith, all, few, h))
    )

-- what stands behind others, by its length
pub last-of : (n : ℕ) (a b : List ℕ) → length b ≡ n → drop (length (a ++ b) - n) (a ++ b) ≡ b
last-of n a b e = ap (λ m. drop m (a ++ b)) (omega (arith, length-append a b, e)) ∙ drop-append_seam a b
