-- What is lent for the value of a reference is its codes, as bytes.
use Rattle.std.proofs.Common.{◌≡◌, ◌≢◌, ℕ, zero, suc, ◌+◌, ◌<◌, ◌≤◌, ◌==◌, ◌&&◌, ◌||◌, nat_lt, nat_le, Bool, true, false, if◌then◌else◌, List, [], ◌∷◌, ◌++◌, length, get_or, refl, sym, ap, subst, ◌∙◌, arith, All, rules}
use Rattle.std.specs.Prelude.{slice_range}
use Rattle.std.specs.Char.{is_ascii_hexdigit}
use Rattle.std.specs.List.{list_all}
use Rattle.std.specs.Str.{IsUtf8}
use Rattle.std.proofs.lemmas.Bool.{and_parts, eqb-true}
use Rattle.std.proofs.lemmas.Bool.Decides.{nat_tests}
use Rattle.std.proofs.lemmas.List.{drop_more}
use Rattle.std.proofs.lemmas.List.Elements.{All-cons, All-nil}
use Rattle.std.proofs.lemmas.Str.{IsUtf8-from_ascii}
use Rattle.std.proofs.lemmas.Str.Ascii.{IsAscii-from_all}
use Rattle.markdown_event.specs.declared.event.Point.{Point}
use Rattle.markdown_content.specs.Codes.{Code, codes_of, document_start, is_line_ending_byte, next_column, stop_of}
use Rattle.markdown_content.specs.Slices.{position_bytes, byte_from}
use Rattle.markdown_content.specs.Tree.{start_of}
use Rattle.markdown_content.proofs.DocumentCodes.{codes_at, value_at, stop_at, HasPlaceNumbers}
use Rattle.markdown_content.proofs.DocumentPlaces.{along}
use Rattle.markdown_content.proofs.DocumentWalkLemmas.{first-of, stands-start, IsFirstCode}
use Rattle.markdown_model.specs.CodeTests.{is_digit, is_hex_digit, is_alphanumeric, values_of}
use Rattle.markdown_util.specs.Reference.{is_value}
use Rattle.markdown_model_laws.proofs.LentSlices.{slice-more, slice-none}

-- Codes of letters and digits.

abbrev pub AreLetters : List Code → Type 0
AreLetters [] = Unit {0}
AreLetters (c ∷ cs) = ((48 ≤ c.value) × (c.value < 128)) × AreLetters cs

letters-by : (p : Code → Bool) → ((c : Code) → p c ≡ true → (48 ≤ c.value) × (c.value < 128)) → (cs : List Code) →
    list_all p cs ≡ true → AreLetters cs
letters-by p test [] h = tt
letters-by p test (c ∷ cs) h = let q = and_parts (p c) (list_all p cs) h in (test c q.0, letters-by p test cs q.1)

letter-low : (v : ℕ) → ((nat_le 65 v && nat_le v 90) || (nat_le 97 v && nat_le v 122)) || (nat_le 48 v && nat_le v 57) ≡ true → 48 ≤ v
letter-low v h = grind (arith, nat_tests)

letter-high : (v : ℕ) → ((nat_le 65 v && nat_le v 90) || (nat_le 97 v && nat_le v 122)) || (nat_le 48 v && nat_le v 57) ≡ true → v < 128
letter-high v h = grind (arith, nat_tests)

digit-low : (v : ℕ) → (nat_le 48 v && nat_le v 57) ≡ true → 48 ≤ v
digit-low v h = grind (arith, nat_tests)

digit-high : (v : ℕ) → (nat_le 48 v && nat_le v 57) ≡ true → v < 128
digit-high v h = grind (arith, nat_tests)

hex-low : (c : Code) → is_hex_digit c ≡ true → 48 ≤ c.value
hex-low c h = grind (arith, nat_tests)

hex-high : (c : Code) → is_hex_digit c ≡ true → c.value < 128
hex-high c h = grind (arith, nat_tests)

pub named-letters : (cs : List Code) → list_all is_alphanumeric cs ≡ true → AreLetters cs
named-letters cs h = letters-by is_alphanumeric (λ c k. (letter-low c.value k, letter-high c.value k)) cs h

pub decimal-letters : (cs : List Code) → list_all is_digit cs ≡ true → AreLetters cs
decimal-letters cs h = letters-by is_digit (λ c k. (digit-low c.value k, digit-high c.value k)) cs h

pub hexadecimal-letters : (cs : List Code) → list_all is_hex_digit cs ≡ true → AreLetters cs
hexadecimal-letters cs h = letters-by is_hex_digit (λ c k. (hex-low c k, hex-high c k)) cs h

-- Their bytes.

abbrev value_of_byte : ℕ → ℕ → ℕ
value_of_byte b vs = if is_line_ending_byte b then 10 else (if b == 9 && nat_lt 0 vs then 32 else b)

itself : (b vs : ℕ) → 48 ≤ value_of_byte b vs → value_of_byte b vs ≡ b
itself b vs h = grind (arith, nat_tests)

no-ending : (b vs : ℕ) → 48 ≤ value_of_byte b vs → is_line_ending_byte b ≡ false
no-ending b vs h = grind (arith, nat_tests)

no-tab : (b vs : ℕ) → 48 ≤ value_of_byte b vs → b ≢ 9
no-tab b vs h e = omega (arith, h, e, itself b vs h)

not-tab : (b : ℕ) → b ≢ 9 → (b == 9) ≡ false
not-tab b h = grind (arith, eqb-true)

record IsByteCode (bytes : List ℕ) (p : Point) : Type 0 where
  vs : p.vs ≡ 0
  byte : value_at bytes p ≡ get_or bytes p.index 0
  stop : stop_at bytes p ≡ next_column p (p.index + 1) 0

none-inside : (n : ℕ) → (0 < n → ⊥) → n ≡ 0
none-inside zero h = refl
none-inside (suc n) h = absurd (h (omega arith))

is-byte : (bytes : List ℕ) (p : Point) → HasPlaceNumbers bytes p → 48 ≤ value_at bytes p → IsByteCode bytes p
is-byte bytes p s h = grind (arith, no-tab, none-inside, itself, no-ending, not-tab)

one-byte : (bytes : List ℕ) (i : ℕ) → i < length bytes → slice_range bytes i (i + 1) ≡ get_or bytes i 0 ∷ []
one-byte bytes i h = grind (arith, drop_more bytes i 0 h)

-- what stands between the place before some codes and the place after them
pub record IsSpelled (bytes : List ℕ) (p : Point) (cs : List Code) : Type 0 where
  pub spelled : slice_range bytes p.index (stop_of p cs).index ≡ values_of cs
  pub ends : (stop_of p cs).vs ≡ 0
  pub forward : p.index ≤ (stop_of p cs).index

spelled-from : (bytes : List ℕ) (p : Point) (cs back : List Code) → HasPlaceNumbers bytes p → p.vs ≡ 0 →
    codes_at bytes p ≡ cs ++ back → AreLetters cs → IsSpelled bytes p cs
spelled-from bytes p [] back s v e l = search (rules, slice-none)
spelled-from bytes p (c ∷ cs) back s v e l =
    let one : IsFirstCode bytes p c (cs ++ back) = first-of bytes p c (cs ++ back) s e in
    let value : c.value ≡ value_at bytes p = ap (λ (x : Code). x.value) one.code in
    let byte : IsByteCode bytes p = is-byte bytes p s (subst (λ (n : ℕ). 48 ≤ n) value l.0.0) in
    let stop : c.stop ≡ next_column p (p.index + 1) 0 = ap (λ (x : Code). x.stop) one.code ∙ byte.stop in
    let index : c.stop.index ≡ p.index + 1 = ap (λ (q : Point). q.index) stop in
    let vs : c.stop.vs ≡ 0 = ap (λ (q : Point). q.vs) stop in
    let rest : IsSpelled bytes c.stop cs = spelled-from bytes c.stop cs back one.stands vs (sym one.rest) l.1 in
    let more : p.index + 1 ≤ (stop_of c.stop cs).index = omega (arith, index, rest.forward) in
    record {
      spelled = sym (slice-more bytes p.index (p.index + 1) (stop_of c.stop cs).index (omega arith) more)
          ∙ (λ i. one-byte bytes p.index one.in_bytes i ++ (ap (λ n. slice_range bytes n (stop_of c.stop cs).index) (sym index) ∙ rest.spelled) i)
          ∙ ap (λ n. n ∷ values_of cs) (sym (value ∙ byte.byte));
      ends = rest.ends;
      forward = omega (arith, more);
    }

-- a stretch of the document
pub lent-letters : (bytes : List ℕ) (cs before after : List Code) → codes_of bytes ≡ before ++ (cs ++ after) →
    AreLetters cs → position_bytes bytes (start_of cs) (stop_of document_start cs) ≡ values_of cs
lent-letters bytes [] before after e l = slice-none bytes 0
lent-letters bytes (c ∷ cs) before after e l =
    let p : Point = stop_of document_start before in
    let here = along bytes document_start before (c ∷ cs ++ after) (stands-start bytes) e in
    let one : IsFirstCode bytes p c (cs ++ after) = first-of bytes p c (cs ++ after) here.1 here.0 in
    let value : c.value ≡ value_at bytes p = ap (λ (x : Code). x.value) one.code in
    let byte : IsByteCode bytes p = is-byte bytes p here.1 (subst (λ (n : ℕ). 48 ≤ n) value l.0.0) in
    let all : IsSpelled bytes p (c ∷ cs) = spelled-from bytes p (c ∷ cs) after here.1 byte.vs here.0 l in
    let start : c.start ≡ p = ap (λ (x : Code). x.start) one.code in
    (λ i. slice_range bytes (byte_from (start i)) (byte_from (stop_of c.stop cs)))
    ∙ (λ i. slice_range bytes (if nat_lt 0 (byte.vs i) then p.index + 1 else p.index) (if nat_lt 0 (all.ends i) then (stop_of c.stop cs).index + 1 else (stop_of c.stop cs).index))
    ∙ all.spelled

-- Values.

pub length-values : (cs : List Code) → length (values_of cs) ≡ length cs
length-values [] = refl
length-values (c ∷ cs) = omega (arith, length-values cs)

low : (cs : List Code) → AreLetters cs → All (λ b. b < 128) (values_of cs)
low [] h = All-nil (λ b. b < 128)
low (c ∷ cs) h = All-cons (λ b. b < 128) c.value (values_of cs) h.0.1 (low cs h.1)

pub letters-text : (cs : List Code) → AreLetters cs → IsUtf8 (values_of cs)
letters-text cs h = IsUtf8-from_ascii (values_of cs) (IsAscii-from_all (values_of cs) (low cs h))

all-values : (p : Code → Bool) (q : ℕ → Bool) → ((c : Code) → p c ≡ q c.value) → (cs : List Code) →
    list_all p cs ≡ list_all q (values_of cs)
all-values p q same [] = refl
all-values p q same (c ∷ cs) = λ i. same c i && all-values p q same cs i

value-from : (n max : ℕ) (b : Bool) → 0 < n → n ≤ max → b ≡ true → ((nat_lt 0 n && nat_le n max) && b) ≡ true
value-from n max b some few all = grind (arith, nat_tests)

some-long : (cs : List Code) → cs ≢ [] → 0 < length cs
some-long [] h = absurd (h refl)
some-long (c ∷ cs) h = omega arith

pub decimal-value : (cs : List Code) → cs ≢ [] → length cs ≤ 7 → list_all is_digit cs ≡ true → is_value 35 (values_of cs) ≡ true
decimal-value cs some few all = grind (arith, value-from, some-long cs some, length-values cs, all-values)

hex-same : (c : Code) → is_hex_digit c ≡ is_ascii_hexdigit c.value
hex-same c = grind (arith, nat_tests)

pub hexadecimal-value : (cs : List Code) → cs ≢ [] → length cs ≤ 6 → list_all is_hex_digit cs ≡ true → is_value 120 (values_of cs) ≡ true
hexadecimal-value cs some few all =
    value-from (length (values_of cs)) 6 (list_all is_ascii_hexdigit (values_of cs)) (omega (arith, some-long cs some, length-values cs)) (omega (arith, few, length-values cs))
    (sym (all-values is_hex_digit is_ascii_hexdigit hex-same cs) ∙ all)
