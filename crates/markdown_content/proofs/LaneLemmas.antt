-- From the lanes of a load to the bytes under it.
use Rattle.std.proofs.Common.{◌≡◌, ℕ, ◌+◌, ◌%◌, ◌^◌, ◌<◌, ◌≤◌, Bool, true, false, not, ◌||◌, nat_le, ◌==◌, cond, List, [], ◌∷◌, map, length, get_or, bit_or, Fits, w8, refl, ap, sym, subst, ◌∙◌, arith}
use Rattle.std.proofs.lemmas.Bool.{agree_below, agree_below_at}
use Rattle.std.proofs.lemmas.Bool.Decides.{nat_tests}
use Rattle.std.proofs.lemmas.Simd.{map-map, mask_l-mod, mask_l-lt, bit_mask_l, get_or-chunk, length-chunk, first_set_mask_l, run_in_chunk_le, run_in_chunk_fails}
use Rattle.std.proofs.lemmas.List.{length-map, get_or-map}
use Rattle.std.specs.Int.{bit_at}
use Rattle.std.specs.List.{prefix_len}
use lib.Lanes.{chunk, mask_l, top}
use Rattle.markdown_content.specs.PlainBytes.{is_plain, first_set}

-- a lane's top bit is set
abbrev pub stops_by : (ℕ → ℕ) → ℕ → Bool
stops_by f x = top 7 (f x)

unset : (b : Bool) → (let n : ℕ = cond b 1 0 in n ≡ 0) → b ≡ false
unset true e = absurd (omega (arith, e))
unset false e = refl

module _ (d : List ℕ) (i m : ℕ) (z : List ℕ) (room : i + 16 ≤ length d) (fits : (k : ℕ) → Fits w8 (get_or d k 0))
    (found : m ≡ mask_l (map (top 7) z) % 2 ^ 64) (f : ℕ → ℕ) (lanes : z ≡ map f (chunk i 16 d)) where
  long : length (map (stops_by f) (chunk i 16 d)) ≡ 16
  long = length-map (chunk i 16 d) (stops_by f) ∙ length-chunk i 16 d room

  pub mask-is : m ≡ mask_l (map (stops_by f) (chunk i 16 d))
  mask-is =
      let v : List ℕ = chunk i 16 d in
      found ∙ ap (λ (l : List Bool). mask_l l % 2 ^ 64) (ap (map (top 7)) lanes ∙ map-map (top 7) f v) ∙ mask_l-mod (map (stops_by f) v) 64 (omega (arith, long))

  pub mask-few : m < 2 ^ 16
  mask-few =
      let few : mask_l (map (stops_by f) (chunk i 16 d)) < 2 ^ length (map (stops_by f) (chunk i 16 d)) = mask_l-lt (map (stops_by f) (chunk i 16 d)) in
      subst (λ (x : ℕ). x < 2 ^ 16) (sym mask-is) (subst (λ (n : ℕ). mask_l (map (stops_by f) (chunk i 16 d)) < 2 ^ n) long few)

  clear-fails : (k : ℕ) → k < 16 → bit_at m k ≡ 0 → stops_by f (get_or d (i + k) 0) ≡ false
  clear-fails k lt clear =
      let v : List ℕ = chunk i 16 d in
      let here : get_or (map (stops_by f) v) k false ≡ stops_by f (get_or v k 0) = get_or-map (stops_by f) v k 0 false (omega (arith, length-chunk i 16 d room, lt)) in
      unset (stops_by f (get_or d (i + k) 0))
      (ap (λ (x : ℕ). cond (stops_by f x) 1 0) (sym (get_or-chunk i 16 d k 0 lt)) ∙ ap (λ (b : Bool). cond b 1 0) (sym here) ∙ sym (bit_mask_l (map (stops_by f) v) k) ∙ ap (λ (x : ℕ). bit_at x k) (sym mask-is) ∙ clear)

  -- each byte whose bit is not set passes q
  pub bits-pass : (q : ℕ → Bool) → agree_below (λ x. stops_by f x || q x) (λ _. true) 256 ≡ true → (k : ℕ) → k < 16 →
      bit_at m k ≡ 0 → q (get_or d (i + k) 0) ≡ true
  bits-pass q all k lt clear =
      sym (ap (λ (b : Bool). b || q (get_or d (i + k) 0)) (clear-fails k lt clear))
      ∙ agree_below_at (λ x. stops_by f x || q x) (λ _. true) 256 (get_or d (i + k) 0) all (fits (i + k)).fits

-- r bytes come before the first at which a lane's top bit is set
module _ (d : List ℕ) (i r : ℕ) (z : List ℕ) (room : i + 16 ≤ length d) (fits : (k : ℕ) → Fits w8 (get_or d k 0))
    (found : r ≡ first_set (mask_l (map (top 7) z) % 2 ^ 64)) (f : ℕ → ℕ) (lanes : z ≡ map f (chunk i 16 d)) where
  counted : r ≡ prefix_len (λ x. not (stops_by f x)) (chunk i 16 d)
  counted =
      let v : List ℕ = chunk i 16 d in
      found ∙ ap first_set (mask-is d i _ z room fits refl f lanes) ∙ first_set_mask_l (stops_by f) v 16 (length-chunk i 16 d room) (omega arith)

  pub run-within : r ≤ 16
  run-within = run_in_chunk_le (stops_by f) d i 16 r 0 room counted

  pub run-fails : (k : ℕ) → i ≤ k → k < i + r → stops_by f (get_or d k 0) ≡ false
  run-fails k from to = run_in_chunk_fails (stops_by f) d i 16 r 0 room counted k from to

  -- each byte at which no lane stops passes q
  pub run-passes : (q : ℕ → Bool) → agree_below (λ x. stops_by f x || q x) (λ _. true) 256 ≡ true → (k : ℕ) → i ≤ k →
      k < i + r → q (get_or d k 0) ≡ true
  run-passes q all k from to =
      sym (ap (λ (b : Bool). b || q (get_or d k 0)) (run-fails k from to))
      ∙ agree_below_at (λ x. stops_by f x || q x) (λ _. true) 256 (get_or d k 0) all (fits k).fits

-- Bytes above 13 that are none of two.

-- a lane of three tests
abbrev pub lane_of_three : ℕ → ℕ → ℕ → ℕ
lane_of_three a b x = bit_or (cond (nat_le x 13) 255 0) (bit_or (cond (x == a) 255 0) (cond (x == b) 255 0))

three-top : (p q r : Bool) → top 7 (bit_or (cond p 255 0) (bit_or (cond q 255 0) (cond r 255 0))) ≡ p || (q || r)
three-top true true true = refl
three-top true true false = refl
three-top true false true = refl
three-top true false false = refl
three-top false true true = refl
three-top false true false = refl
three-top false false true = refl
three-top false false false = refl

pub three-plain : (a b x : ℕ) → stops_by (lane_of_three a b) x ≡ false → is_plain (a ∷ b ∷ []) x ≡ true
three-plain a b x h =
    let none : nat_le x 13 || ((x == a) || (x == b)) ≡ false = sym (three-top (nat_le x 13) (x == a) (x == b)) ∙ h in
    grind (arith, nat_tests)
