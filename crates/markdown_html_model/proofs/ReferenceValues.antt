-- Values of references are UTF-8.
use Rattle.std.proofs.Common.{◌≡◌, ℕ, ◌<◌, ◌≤◌, length, Bool, true, List, [], ◌∷◌, All, Bor, refl, subst, Result, Ok, Err, MatchResult, arith}
use Rattle.std.specs.List.{list_all, prefix_len}
use Rattle.std.specs.Result.{IsOk}
use Rattle.std.specs.Str.{IsUtf8}
use Rattle.std.proofs.lemmas.Bool.{and_parts}
use Rattle.std.proofs.lemmas.List.Elements.{All-cons, All-nil}
use Rattle.std.proofs.lemmas.List.Sums.{prefix_len-le-length}
use Rattle.std.proofs.lemmas.Bool.Decides.{nat_tests}
use Rattle.std.proofs.lemmas.Str.{IsUtf8-from_ascii}
use Rattle.std.proofs.lemmas.Str.Ascii.{IsAscii-from_all}
use Rattle.markdown_util.specs.Reference.{is_value, is_value_byte}
use Rattle.markdown_util.proofs.WholeReference.{value_parts}

byte_ascii : (marker b : ℕ) → is_value_byte marker b ≡ true → b < 128
byte_ascii marker b h = grind (arith, nat_tests)

all_ascii : (marker : ℕ) (bs : List ℕ) → list_all (is_value_byte marker) bs ≡ true → All (λ b. b < 128) bs
all_ascii marker [] h = All-nil (λ b. b < 128)
all_ascii marker (b ∷ bs) h =
    let parts = and_parts (is_value_byte marker b) (list_all (is_value_byte marker) bs) h in
    All-cons (λ b. b < 128) b bs (byte_ascii marker b parts.0) (all_ascii marker bs parts.1)

pub value_utf8 : (marker : ℕ) (value : List ℕ) → is_value marker value ≡ true → IsUtf8 value
value_utf8 marker value h =
    let parts = value_parts marker value h in
    IsUtf8-from_ascii value (IsAscii-from_all value (all_ascii marker value parts.all))

pub prefix_within : (p : ℕ → Bool) (xs : List ℕ) → prefix_len p xs ≤ length xs
prefix_within p xs = prefix_len-le-length p xs

-- what reading bytes as UTF-8 answers
pub ok_of : {E : Type 0} (r : Result (Bor (List ℕ)) E) (bytes : List ℕ) (Q : E → Type 0) → MatchResult r (λ s. (s.now ≡ bytes) × IsUtf8 bytes) (λ e. (IsUtf8 bytes → ⊥) × Q e) → IsUtf8 bytes → IsOk r
ok_of (Ok x) bytes Q h u = refl
ok_of (Err e) bytes Q h u = absurd (h.0 u)

pub value_of : {E : Type 0} (r : Result (Bor (List ℕ)) E) (x : Bor (List ℕ)) (bytes : List ℕ) (Q : E → Type 0) → MatchResult r (λ s. (s.now ≡ bytes) × IsUtf8 bytes) Q → r ≡ Ok x → x.now ≡ bytes
value_of r x bytes Q h e = let w = subst (λ r. MatchResult r (λ s. (s.now ≡ bytes) × IsUtf8 bytes) Q) e h in w.0
