-- What the table of a set of bytes says.
use Rattle.std.proofs.Common.{ℕ, zero, suc, ◌+◌, ◌-◌, ◌<◌, ◌≤◌, Bool, true, false, not, ◌&&◌, ◌||◌, nat_lt, ◌==◌, ◌≡◌, arith, List, [], ◌∷◌, get_or, refl, sym, ap, subst, ◌∙◌, ◌≢◌, eq-eqb, inl, inr}
use Rattle.std.specs.List.{list_any}
use Rattle.std.proofs.lemmas.Bool.{both_ways, and_parts, or_parts, eqb-true, not-true, cases_Bool}
use Rattle.std.proofs.lemmas.Bool.Decides.{nat_tests}
use Rattle.std.specs.Int.{bit_at}
use Rattle.markdown_content.specs.PlainBytes.{is_plain, same, is_plain_from, is_plain_table, is_word, spares_words, ArePlain}

same-is : (b c : Bool) → same b c ≡ true → b ≡ c
same-is true true h = refl
same-is true false h = absurd (both_ways false refl h)
same-is false true h = absurd (both_ways false refl h)
same-is false false h = refl

says-from : (set : List ℕ) (table : List Bool) (i k : ℕ) → is_plain_from i set table ≡ true → i + k < 256 →
    get_or table k false ≡ is_plain set (i + k)
says-from set [] i k h lt = absurd (omega (arith, eqb-true i 256 h, lt))
says-from set (b ∷ bs) i zero h lt = same-is b (is_plain set i) (and_parts _ _ h).0 ∙ ap (is_plain set) (omega arith)
says-from set (b ∷ bs) i (suc k) h lt =
    says-from set bs (suc i) k (and_parts _ _ h).1 (omega (arith, lt)) ∙ ap (is_plain set) (omega arith)

-- of each byte
pub table-says : (set : List ℕ) (table : List Bool) (b : ℕ) → is_plain_table set table ≡ true → b < 256 →
    get_or table b false ≡ is_plain set b
table-says set table b h lt = says-from set table 0 b h (omega (arith, lt)) ∙ ap (is_plain set) (omega arith)

pub plain-above : (set : List ℕ) (b : ℕ) → 13 < b → is_plain set b ≡ not (list_any (λ n. b == n) set)
plain-above set b h = grind (arith, nat_tests)

not-not : (b : Bool) → not (not b) ≡ b
not-not true = refl
not-not false = refl

-- above 13 the table tells what the set holds
pub contained-above : (set : List ℕ) (table : List Bool) (b : ℕ) → is_plain_table set table ≡ true → b < 256 → 13 < b →
    not (get_or table b false) ≡ list_any (λ n. b == n) set
contained-above set table b h lt above =
    ap not (table-says set table b h lt ∙ plain-above set b above) ∙ not-not (list_any (λ n. b == n) set)

pub plain-parts : (set : List ℕ) (b : ℕ) → is_plain set b ≡ true → (13 < b) × (list_any (λ n. b == n) set ≡ false)
plain-parts set b h = grind (arith, nat_tests)

-- a byte of words is none of a set that spares them
not-held : (set : List ℕ) (b : ℕ) → is_word b ≡ true → list_any is_word set ≡ false → list_any (λ n. b == n) set ≡ false
not-held [] b w h = refl
not-held (n ∷ ns) b w h =
    let parts = or_parts (is_word n) (list_any is_word ns) h in
    elim (cases_Bool (b == n)) [
      | inl e ↦ absurd (both_ways (is_word n) parts.0 (subst (λ (x : ℕ). is_word x ≡ true) (eqb-true b n e) w))
      | inr e ↦ ap (λ (t : Bool). t || list_any (λ m. b == m) ns) e ∙ not-held ns b w parts.1
    ]

above-13 : (b : ℕ) → is_word b ≡ true → nat_lt 13 b ≡ true
above-13 b w = grind (arith, nat_tests)

pub word-plain : (set : List ℕ) (b : ℕ) → spares_words set ≡ true → is_word b ≡ true → is_plain set b ≡ true
word-plain set b spares w =
    ap (λ (t : Bool). t && not (list_any (λ n. b == n) set)) (above-13 b w) ∙ ap not (not-held set b w (not-true _ spares))

-- Bytes that are looked at together: where no bit is set, the byte is ordinary.

abbrev pub ArePlainUnder : List ℕ → List ℕ → ℕ → ℕ → Type 0
ArePlainUnder set bytes at signs = (i : ℕ) → i < 16 → bit_at signs i ≡ 0 → is_plain set (get_or bytes (at + i) 0) ≡ true

-- where no bit is set before one
pub plain-under : (set bytes : List ℕ) (at signs n : ℕ) → ArePlainUnder set bytes at signs → n ≤ 16 →
    ((i : ℕ) → i < n → bit_at signs i ≡ 0) → ArePlain set bytes at (at + n)
plain-under set bytes at signs n plain le clear i low high =
    let here : at + (i - at) ≡ i = omega (arith, low) in
    let lt : i - at < n = omega (arith, low, high) in
    ap (λ (j : ℕ). is_plain set (get_or bytes j 0)) (sym here) ∙ plain (i - at) (omega (arith, lt, le)) (clear (i - at) lt)

-- without the bit of an ordinary byte
pub plain-without : (set bytes : List ℕ) (at signs left k : ℕ) → ArePlainUnder set bytes at signs →
    ((i : ℕ) → i < 16 → i ≢ k → bit_at left i ≡ bit_at signs i) → is_plain set (get_or bytes (at + k) 0) ≡ true →
    ArePlainUnder set bytes at left
plain-without set bytes at signs left k plain others here i lt clear = grind (arith, cases_Bool, eqb-true, both_ways)
