-- Past line feeds and bytes above 13, several at once.
use Rattle.std.proofs.Common.{ℕ, zero, suc, ◌+◌, ◌*◌, ◌%◌, ◌^◌, ◌<◌, ◌≤◌, Bool, true, false, cond, ◌==◌, ◌≡◌, arith, List, [], ◌∷◌, map, length, get_or, take, count_ones, add-zero, zero-add, pow_pos, refl, sym, ap, subst, ◌∙◌, eqb-true, mod-eq_of_lt, pow_mono, bit_and, ◌-◌}
use Rattle.std.proofs.Math.Nat.{two-pow-succ, add-mul-mod_self_left}
use Rattle.std.proofs.lemmas.Nat.{ones_le_self, and_mask}
use Rattle.std.proofs.lemmas.Bool.Decides.{nat_tests}
use Rattle.std.proofs.lemmas.Simd.{ones-mask_l_cons, length-chunk, get_or-chunk}
use lib.Lanes.{mask_l, chunk}
use Rattle.markdown_event.specs.declared.event.Point.{Point}
use Rattle.markdown_content.specs.Codes.{line_start, next_column}
use Rattle.markdown_content.specs.DocumentWalk.{IsPoint}
use Rattle.markdown_content.specs.PlainBytes.{is_of_line, feed_bits}
use Rattle.markdown_content.proofs.NextPlace.{byte_on, feed_on}

-- The bits of line feeds.

pub feeds-mask : (bs : List ℕ) → mask_l (map (λ b. b == 10) bs) ≡ feed_bits bs
feeds-mask [] = refl
feeds-mask (b ∷ bs) = ap (λ (n : ℕ). cond (b == 10) 1 0 + 2 * n) (feeds-mask bs)

bit-small : (b : Bool) → cond b 1 0 < 2
bit-small true = omega arith
bit-small false = omega arith

bits-few : (n : ℕ) (bs : List ℕ) → feed_bits (take n bs) < 2 ^ n
bits-few zero bs = omega arith
bits-few (suc n) [] = omega (arith, two-pow-succ n, bits-few n [])
bits-few (suc n) (b ∷ bs) = omega (arith, two-pow-succ n, bits-few n bs, bit-small (b == 10))

twice : (z d : ℕ) → 2 * (z * d) ≡ (z + z) * d
twice z d = omega arith

bits-more : (c x y n d : ℕ) → x ≡ y + 2 ^ n * d → c + 2 * x ≡ c + 2 * y + 2 ^ suc n * d
bits-more c x y n d h = grind (arith, two-pow-succ, twice)

-- what follows so many
bits-parts : (n : ℕ) (bs : List ℕ) → (d : ℕ) × (feed_bits bs ≡ feed_bits (take n bs) + 2 ^ n * d)
bits-parts zero bs = (feed_bits bs, omega arith)
bits-parts (suc n) [] = (0, omega arith)
bits-parts (suc n) (b ∷ bs) =
    let h : (d : ℕ) × (feed_bits bs ≡ feed_bits (take n bs) + 2 ^ n * d) = bits-parts n bs in
    (h.0, bits-more (cond (b == 10) 1 0) (feed_bits bs) (feed_bits (take n bs)) n h.0 h.1)

pub bits-low : (n : ℕ) (bs : List ℕ) → feed_bits bs % 2 ^ n ≡ feed_bits (take n bs)
bits-low n bs =
    let p = bits-parts n bs in
    ap (λ (x : ℕ). x % 2 ^ n) p.1 ∙ add-mul-mod_self_left (feed_bits (take n bs)) (2 ^ n) p.0 ∙ mod-eq_of_lt (bits-few n bs)

ones-feeds : (b : ℕ) (bs : List ℕ) → count_ones (feed_bits (b ∷ bs)) ≡ cond (b == 10) 1 0 + count_ones (feed_bits bs)
ones-feeds b bs =
    sym (ap (λ (n : ℕ). count_ones n) (feeds-mask (b ∷ bs))) ∙ ones-mask_l_cons (b == 10) (map (λ x. x == 10) bs)
    ∙ ap (λ (n : ℕ). cond (b == 10) 1 0 + count_ones n) (feeds-mask bs)

-- The place past so many bytes, of which those of a mask are line feeds.

pub record IsOn (p q : Point) (n m : ℕ) : Type 0 where
  pub index : q.index ≡ p.index + n
  pub vs : q.vs ≡ 0
  pub line : q.line ≡ p.line + count_ones m
  pub none : m ≡ 0 → q.column ≡ p.column + n
  pub last : (r : ℕ) → 2 ^ r ≤ m → m < 2 * 2 ^ r → q.column + r ≡ n

-- a line feed before them
feed-last : (q : Point) (n m k : ℕ) → k ≡ 1 + 2 * m → (m ≡ 0 → q.column ≡ 1 + n) → ((r : ℕ) → 2 ^ r ≤ m → m < 2 * 2 ^ r → q.column + r ≡ n) →
    (r : ℕ) → 2 ^ r ≤ k → k < 2 * 2 ^ r → q.column + r ≡ suc n
feed-last q n m k e none last zero a b = omega (arith, none (omega (arith, a, b, e)))
feed-last q n m k e none last (suc r) a b = omega (arith, last r (omega (arith, a, e, two-pow-succ r)) (omega (arith, b, e, two-pow-succ r)))

feed-before : (p q : Point) (n m k : ℕ) → IsOn (line_start (p.line + 1) (p.index + 1)) q n m → k ≡ 1 + 2 * m →
    count_ones k ≡ 1 + count_ones m → IsOn p q (suc n) k
feed-before p q n m k h e ones = record {
  index = omega (arith, h.index);
  vs = h.vs;
  line = omega (arith, h.line, ones);
  none = λ z. absurd (omega (arith, z, e));
  last = feed-last q n m k e h.none h.last;
}

-- another byte before them
other-last : (q : Point) (n m k : ℕ) → k ≡ 2 * m → ((r : ℕ) → 2 ^ r ≤ m → m < 2 * 2 ^ r → q.column + r ≡ n) →
    (r : ℕ) → 2 ^ r ≤ k → k < 2 * 2 ^ r → q.column + r ≡ suc n
other-last q n m k e last zero a b = absurd (omega (arith, a, b, e))
other-last q n m k e last (suc r) a b = omega (arith, last r (omega (arith, a, e, two-pow-succ r)) (omega (arith, b, e, two-pow-succ r)))

other-before : (p q : Point) (n m k : ℕ) → IsOn (next_column p (p.index + 1) 0) q n m → k ≡ 2 * m →
    count_ones k ≡ count_ones m → IsOn p q (suc n) k
other-before p q n m k h e ones = record {
  index = omega (arith, h.index);
  vs = h.vs;
  line = omega (arith, h.line, ones);
  none = λ z. omega (arith, h.none (omega (arith, z, e)));
  last = other-last q n m k e h.last;
}

-- a place of the document so many bytes on
abbrev pub StandsOnward : List ℕ → Point → ℕ → ℕ → Type 0
StandsOnward bytes p n m = (q : Point) × IsPoint bytes q × IsOn p q n m

not-feed : (b : ℕ) → is_of_line b ≡ true → (b == 10) ≡ false → 13 < b
not-feed b h k = grind (arith, nat_tests)

-- the bytes from here on are those of a list
abbrev pub AreBytesFrom : List ℕ → ℕ → ℕ → List ℕ → Type 0
AreBytesFrom bytes at n bs = (k : ℕ) → k < n → get_or bs k 0 ≡ get_or bytes (at + k) 0

onward-one : (bytes bs : List ℕ) (b n : ℕ) (p : Point) → IsPoint bytes p → p.index < length bytes → get_or bytes p.index 0 ≡ b →
    is_of_line b ≡ true →
    ((o : Point) → IsPoint bytes o → o.vs ≡ 0 → o.index ≡ p.index + 1 → StandsOnward bytes o n (feed_bits (take n bs))) →
    StandsOnward bytes p (suc n) (feed_bits (b ∷ take n bs))
onward-one bytes bs b n p h lt e of rest =
    elim (b == 10) as (λ t. (b == 10) ≡ t → StandsOnward bytes p (suc n) (feed_bits (b ∷ take n bs))) [
      | true ↦ λ k.
          let m : ℕ = feed_bits (take n bs) in
          let o : Point = line_start (p.line + 1) (p.index + 1) in
          let r : StandsOnward bytes o n m = rest o (feed_on bytes p h lt (e ∙ eqb-true b 10 k)) refl refl in
          (r.0, r.1, feed-before p r.0 n m (feed_bits (b ∷ take n bs)) r.2 (ap (λ (t : Bool). cond t 1 0 + 2 * m) k) (ones-feeds b (take n bs) ∙ ap (λ (t : Bool). cond t 1 0 + count_ones m) k))
      | false ↦ λ k.
          let m : ℕ = feed_bits (take n bs) in
          let o : Point = next_column p (p.index + 1) 0 in
          let r : StandsOnward bytes o n m = rest o (byte_on bytes p h lt (subst (λ (x : ℕ). 13 < x) (sym e) (not-feed b of k))) refl refl in
          (r.0, r.1, other-before p r.0 n m (feed_bits (b ∷ take n bs)) r.2 (ap (λ (t : Bool). cond t 1 0 + 2 * m) k ∙ zero-add (2 * m)) (ones-feeds b (take n bs) ∙ ap (λ (t : Bool). cond t 1 0 + count_ones m) k ∙ zero-add (count_ones m)))
    ] refl

pub onward : (bytes bs : List ℕ) (n : ℕ) (p : Point) → IsPoint bytes p → p.vs ≡ 0 → p.index + n ≤ length bytes → n ≤ length bs →
    AreBytesFrom bytes p.index n bs → ((k : ℕ) → k < n → is_of_line (get_or bs k 0) ≡ true) → StandsOnward bytes p n (feed_bits (take n bs))
onward bytes bs zero p h v fits long from of =
    (p, h, record { index = omega arith; vs = v; line = omega (arith, ones_le_self 0); none = λ z. omega arith; last = λ r a b. absurd (omega (arith, a, pow_pos r)) })
onward bytes [] (suc n) p h v fits long from of = absurd (omega (arith, long))
onward bytes (b ∷ bs) (suc n) p h v fits long from of =
    let e : get_or bytes p.index 0 ≡ b = ap (λ (i : ℕ). get_or bytes i 0) (sym (add-zero p.index)) ∙ sym (from 0 (omega arith)) in
    onward-one bytes bs b n p h (omega (arith, fits)) e (of 0 (omega arith))
    (λ o g w i. onward bytes bs n o g w (omega (arith, fits, i)) (omega (arith, long))
    (λ k lt. from (suc k) (omega arith) ∙ ap (λ (x : ℕ). get_or bytes x 0) (omega (arith, i))) (λ k lt. of (suc k) (omega arith)))

-- the place by its parts
pub parts-are : (q : Point) (l c i : ℕ) → q.line ≡ l → q.column ≡ c → q.index ≡ i → q.vs ≡ 0 →
    q ≡ record { line = l; column = c; index = i; vs = 0 }
parts-are q l c i a b d e = grind (arith)

-- The numbers of a group.

pub low-bits : (m n : ℕ) (bs : List ℕ) → m ≡ feed_bits bs → n ≤ 16 → bit_and m (1 * 2 ^ n % 2 ^ 64 - 1) ≡ feed_bits (take n bs)
low-bits m n bs e few =
    let small : 2 ^ n < 2 ^ 64 = omega (arith, pow_pos n, pow_mono {i = n} {j = 16} few) in
    let one : 1 * 2 ^ n % 2 ^ 64 ≡ 2 ^ n = omega (arith, small, mod-eq_of_lt small) in
    ap (λ (x : ℕ). bit_and m (x - 1)) one ∙ and_mask m n ∙ ap (λ (x : ℕ). x % 2 ^ n) e ∙ bits-low n bs

-- the bytes of a group, and that they are of lines
pub group-from : (bytes : List ℕ) (at n : ℕ) → n ≤ 16 → AreBytesFrom bytes at n (chunk at 16 bytes)
group-from bytes at n few = λ k lt. get_or-chunk at 16 bytes k 0 (omega arith)

pub group-of : (bytes : List ℕ) (at n : ℕ) → n ≤ 16 → ((i : ℕ) → at ≤ i → i < at + n → is_of_line (get_or bytes i 0) ≡ true) →
    (k : ℕ) → k < n → is_of_line (get_or (chunk at 16 bytes) k 0) ≡ true
group-of bytes at n few of = λ k lt. ap is_of_line (get_or-chunk at 16 bytes k 0 (omega arith)) ∙ of (at + k) (omega arith) (omega arith)

-- past the first of a group
pub past-group : (bytes : List ℕ) (p : Point) (n m : ℕ) → IsPoint bytes p → p.vs ≡ 0 → p.index + 16 ≤ length bytes → n ≤ 16 →
    ((i : ℕ) → p.index ≤ i → i < p.index + n → is_of_line (get_or bytes i 0) ≡ true) → m ≡ feed_bits (chunk p.index 16 bytes) →
    StandsOnward bytes p n (bit_and m (1 * 2 ^ n % 2 ^ 64 - 1))
past-group bytes p n m h v room few of e =
    let bs : List ℕ = chunk p.index 16 bytes in
    subst (λ (x : ℕ). StandsOnward bytes p n x) (sym (low-bits m n bs e few))
    (onward bytes bs n p h v (omega arith) (omega (arith, length-chunk p.index 16 bytes room)) (group-from bytes p.index n few) (group-of bytes p.index n few of))

-- a place with the numbers that are told of no line feed, and of some
pub told-none : (bytes : List ℕ) (p : Point) (n m : ℕ) → StandsOnward bytes p n m → m ≡ 0 →
    IsPoint bytes (record { line = p.line; column = p.column + n; index = p.index + n; vs = 0 })
told-none bytes p n m o e = grind (arith, ones_le_self, parts-are)

pub told-some : (bytes : List ℕ) (p : Point) (n m r : ℕ) (o : StandsOnward bytes p n m) → 2 ^ r ≤ m → m < 2 * 2 ^ r →
    IsPoint bytes (record { line = p.line + count_ones m; column = n - r; index = p.index + n; vs = 0 }) × (r ≤ n) × (p.line + count_ones m ≡ o.0.line)
told-some bytes p n m r o a b = grind (arith, parts-are)
