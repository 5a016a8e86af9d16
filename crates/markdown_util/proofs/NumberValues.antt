-- Numbers as `from_str_radix` reads them, and those that stand for the replacement character.
use Rattle.std.proofs.Common.{◌≡◌, ◌≢◌, ◌∙◌, ap, refl, subst, sym, ℕ, ◌<◌, ◌≤◌, ◌==◌, ◌||◌, nat_lt, true, false, List, [], ◌∷◌, get_or, Result, Ok, Err, inl, inr, arith}
use Rattle.std.specs.Char.{InScalarRange, OutOfScalarRange, digit_value}
use Rattle.std.specs.Int.{is_in_range}
use Rattle.std.specs.Str.Parse.{IsNumeral, ParsesUnsigned, digits_value}
use Rattle.std.proofs.lemmas.Bool.Decides.{nat_tests}
use Rattle.std.proofs.lemmas.Str.Parse.{without_leading_plus_none}
use Rattle.markdown_util.specs.Reference.{is_no_character, is_replaced, character_by, character_of, IsNumber}

no_plus : (radix : ℕ) (bs : List ℕ) → radix ≤ 36 → IsNumeral radix bs → get_or bs 0 0 ≢ 43
no_plus radix [] low h = absurd (omega (arith, h.0))
no_plus radix (c ∷ cs) low h = λ e. absurd (omega (arith, subst (λ (d : ℕ). digit_value d < radix) e h.1.0))

-- a number is read as its value
pub number_read : (radix : ℕ) (bs : List ℕ) {E : Type 0} (r : Result ℕ E) (n : ℕ) → radix ≤ 36 → IsNumber radix bs →
    ParsesUnsigned 32 radix bs r → r ≡ Ok n → n ≡ digits_value radix bs
number_read radix bs (Err e) n low h p is = cc
number_read radix bs (Ok m) n low h p is =
    let same = without_leading_plus_none bs (no_plus radix bs low h.numeral) in
    let value = p.1 ∙ ap (digits_value radix) same in
    cc

pub replaced_out : (n : ℕ) → OutOfScalarRange n → is_replaced n ≡ true
replaced_out n (inl h) = grind (arith, nat_tests)
replaced_out n (inr h) = grind (arith, nat_tests)

pub character_kept : (c n : ℕ) → c ≡ n → is_replaced c ≡ false → c ≡ character_of n
character_kept c n same e = rw (← same, e) refl

pub character_replaced : (c n : ℕ) → c ≡ n → is_replaced c ≡ true → 0xFFFD ≡ character_of n
character_replaced c n same e = rw (← same, e) refl

-- Where controls are kept.

no_character : (n : ℕ) → OutOfScalarRange n → is_no_character n ≡ true
no_character n (inl h) = grind (arith, nat_tests)
no_character n (inr h) = grind (arith, nat_tests)

a_character : (n : ℕ) → InScalarRange n → (n == 0) ≡ false → is_no_character n ≡ false
a_character n (inl h) e = grind (arith, nat_tests)
a_character n (inr h) e = grind (arith, nat_tests)

pub character_stays : (c n : ℕ) → c ≡ n → InScalarRange n → (c == 0) ≡ false → c ≡ character_by true n
character_stays c n same h e = let k : is_no_character c ≡ false = a_character c (subst InScalarRange (sym same) h) e in rw (← same, k) refl

pub no_character_stays : (n : ℕ) → OutOfScalarRange n → 0xFFFD ≡ character_by true n
no_character_stays n h = rw (no_character n h) refl

pub null_replaced : (c n : ℕ) → c ≡ n → (c == 0) ≡ true → 0xFFFD ≡ character_by true n
null_replaced c n same e = let k : is_no_character c ≡ true = ap (λ b. b || (is_in_range 0xD800 0xDFFF c || nat_lt 0x10_FFFF c)) e in rw (← same, k) refl
