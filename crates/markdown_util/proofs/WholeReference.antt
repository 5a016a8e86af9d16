-- A whole reference, from its marker and its value.
use Rattle.std.proofs.Common.{◌≡◌, ◌≢◌, ◌∙◌, sym, ap, refl, subst, ℕ, zero, suc, ◌<◌, ◌≤◌, lit<, add-one, get_or, Bool, true, false, cond, ◌&&◌, ◌||◌, eqb, ◌⊎◌, inl, inr, List, [], ◌∷◌, ◌++◌, length, take, drop, nat_lt, nat_le, Option, Some, None, arith}
use Rattle.std.specs.List.{list_all, list_any, prefix_len, before_first, after_first}
use Rattle.std.specs.Str.{IsUtf8, IsCharBoundary, bytes_eq}
use Rattle.std.specs.Str.Parse.{AllDigits}
use Rattle.std.specs.Char.{digit_value, is_ascii_alphanumeric, is_ascii_digit, is_ascii_hexdigit}
use Rattle.std.specs.Cmp.Lexicographic.{same_text}
use Rattle.std.proofs.Math.Nat.{pow-le-pow_right}
use Rattle.std.proofs.Math.Seq.{drop-append_seam}
use Rattle.std.proofs.lemmas.List.{take-append-drop, length-take, get_or-take}
use Rattle.std.proofs.lemmas.List.Sums.{prefix_len-le-length, prefix_len_passes}
use Rattle.std.proofs.lemmas.Int.Digits.{digits_value-lt}
use Rattle.std.proofs.lemmas.Str.{IsUtf8-past_char, encode_ascii, IsCharBoundary-start, IsCharBoundary-after_ascii}
use Rattle.std.proofs.lemmas.Bool.{false≢true, eqb-false, ltb-true, leb-true, and_parts}
use Rattle.std.proofs.lemmas.Bool.Decides.{nat_tests}
use Rattle.markdown_util.specs.Reference.{Table, IsTable, IsReferenceMarker, IsNumber, named_value, decoded, is_value, is_value_byte, value_size_max, radix_of, reference_text, inner_text, numbered_text, number_text, is_semicolon}
use Rattle.markdown_util.specs.ReferenceParts.{IsMarkedReference, LacksFirst}
use Rattle.markdown_util.proofs.StripPrefix.{utf8-behind}
use Rattle.markdown_util.proofs.ValueBytes.{eqb_off, semicolon_stops}
use Rattle.markdown_util.proofs.UpToSemicolon.{NoSemicolon, parted, before-semicolon, after-semicolon, any-semicolon, passing_none, passing_len, passing_front, prefix-le}

abbrev pick : Bool → Option (List ℕ) → Option (List ℕ) → Option (List ℕ)
pick b x y = elim b [ true ↦ x | false ↦ y ]

-- what stands before a `;` with this marker, read as a value
abbrev pub guarded : Table → ℕ → List ℕ → Option (List ℕ)
guarded table marker front = elim (is_value marker front) [ true ↦ decoded table front marker | false ↦ None ]

-- Only what may be a name is one.
named_is_value : (table : Table) → list_all (λ row. is_value 38 row.0) table ≡ true → (name text : List ℕ) →
    named_value table name ≡ Some text → is_value 38 name ≡ true
named_is_value [] h name text e = cc
named_is_value (row ∷ rows) h name text e =
    let parts = and_parts (is_value 38 row.0) (list_all (λ r. is_value 38 r.0) rows) h in
    go parts.0 (named_is_value rows parts.1 name text) (bytes_eq row.0 name) refl e
  where
    go : is_value 38 row.0 ≡ true → (named_value rows name ≡ Some text → is_value 38 name ≡ true) → (b : Bool) → bytes_eq row.0 name ≡ b
        → (elim b as (λ _. Option (List ℕ)) [ true ↦ Some row.1 | false ↦ named_value rows name ]) ≡ Some text → is_value 38 name ≡ true
    go here later true same e = subst (λ (n : List ℕ). is_value 38 n ≡ true) (same_text row.0 name (sym same)) here
    go here later false same e = later e

named-guarded : (table : Table) → IsTable table → (name : List ℕ) → named_value table name ≡ guarded table 38 name
named-guarded table sound name = go (named_value table name) refl (is_value 38 name) refl
  where
    go : (r : Option (List ℕ)) → named_value table name ≡ r → (b : Bool) → is_value 38 name ≡ b →
        r ≡ (elim b as (λ _. Option (List ℕ)) [ true ↦ r | false ↦ None ])
    go r e true f = refl
    go None e false f = refl
    go (Some t) e false f = absurd (false≢true (sym f ∙ named_is_value table sound.names name t e))

text-at : (table : Table) (front back : List ℕ) → NoSemicolon front →
    reference_text table (front ++ 59 ∷ back) ≡ inner_text table front
text-at table front back none = grind (arith, any-semicolon, before-semicolon)

text-none : (table : Table) (after : List ℕ) → list_any is_semicolon after ≡ false → reference_text table after ≡ None
text-none table after e = ap (λ b. pick b (inner_text table (before_first is_semicolon after)) None) e

head_off : (c b : ℕ) (bs : List ℕ) → LacksFirst c (b ∷ bs) → b ≢ c
head_off c b bs h e = h bs (ap (λ x. x ∷ bs) e)

inner-name : (table : Table) → IsTable table → (front back : List ℕ) → LacksFirst 35 (front ++ 59 ∷ back) →
    inner_text table front ≡ guarded table 38 front
inner-name table sound [] back h = refl
inner-name table sound (b ∷ bs) back h =
    ap (λ t. pick t (numbered_text bs) (named_value table (b ∷ bs))) (eqb_off b 35 (head_off 35 b (bs ++ 59 ∷ back) h)) ∙ named-guarded table sound (b ∷ bs)

numbered-decimal : (table : Table) (front back : List ℕ) → LacksFirst 120 (front ++ 59 ∷ back) →
    LacksFirst 88 (front ++ 59 ∷ back) → numbered_text front ≡ guarded table 35 front
numbered-decimal table [] back x X = refl
numbered-decimal table (b ∷ bs) back x X =
    ap (λ t. pick (t || eqb b 88) (number_text 120 bs) (number_text 35 (b ∷ bs))) (eqb_off b 120 (head_off 120 b (bs ++ 59 ∷ back) x))
    ∙ ap (λ t. pick t (number_text 120 bs) (number_text 35 (b ∷ bs))) (eqb_off b 88 (head_off 88 b (bs ++ 59 ∷ back) X))

-- a `;` after the marker
pub record ReadsUpToSemicolon (table : Table) (marker : ℕ) (after front back : List ℕ) : Type 0 where
  pub text : reference_text table after ≡ guarded table marker front
  pub behind : after_first is_semicolon after ≡ back

pub found : (table : Table) → IsTable table → (after body front back : List ℕ) (marker : ℕ) →
    IsMarkedReference after marker body → body ≡ front ++ 59 ∷ back → NoSemicolon front → ReadsUpToSemicolon table marker after front back
found table sound after body front back marker (inl (m, same, lacks)) e none =
    let seam : after ≡ front ++ 59 ∷ back = same ∙ e in
    rw (m, seam) (record {
      text = text-at table front back none ∙ inner-name table sound front back (subst (LacksFirst 35) e lacks);
      behind = after-semicolon front back none;
    })
found table sound after body front back marker (inr (inl (m, same, x, X))) e none =
    let seam : after ≡ 35 ∷ (front ++ 59 ∷ back) = same ∙ ap (λ bs. 35 ∷ bs) e in
    rw (m, seam) (record {
      text = text-at table (35 ∷ front) back none ∙ numbered-decimal table front back (subst (LacksFirst 120) e x) (subst (LacksFirst 88) e X);
      behind = after-semicolon (35 ∷ front) back none;
    })
found table sound after body front back marker (inr (inr (m, inl same))) e none =
    let seam : after ≡ 35 ∷ 120 ∷ (front ++ 59 ∷ back) = same ∙ ap (λ bs. 35 ∷ 120 ∷ bs) e in
    rw (m, seam) (record { text = text-at table (35 ∷ 120 ∷ front) back none; behind = after-semicolon (35 ∷ 120 ∷ front) back none })
found table sound after body front back marker (inr (inr (m, inr same))) e none =
    let seam : after ≡ 35 ∷ 88 ∷ (front ++ 59 ∷ back) = same ∙ ap (λ bs. 35 ∷ 88 ∷ bs) e in
    rw (m, seam) (record { text = text-at table (35 ∷ 88 ∷ front) back none; behind = after-semicolon (35 ∷ 88 ∷ front) back none })

pub missing : (table : Table) (after body : List ℕ) (marker : ℕ) → IsMarkedReference after marker body → NoSemicolon body →
    reference_text table after ≡ None
missing table after body marker (inl (m, same, lacks)) none =
    text-none table after (ap (list_any is_semicolon) same ∙ none)
missing table after body marker (inr (inl (m, same, x, X))) none =
    text-none table after (ap (list_any is_semicolon) same ∙ none)
missing table after body marker (inr (inr (m, inl same))) none =
    text-none table after (ap (list_any is_semicolon) same ∙ none)
missing table after body marker (inr (inr (m, inr same))) none =
    text-none table after (ap (list_any is_semicolon) same ∙ none)

-- as many bytes at the front as may belong to a value
abbrev pub value_len : ℕ → List ℕ → ℕ
value_len marker body = prefix_len (is_value_byte marker) (take (value_size_max marker) body)

value_from : (n max : ℕ) (b : Bool) → 0 < n → n ≤ max → b ≡ true → ((nat_lt 0 n && nat_le n max) && b) ≡ true
value_from n max b some few all = grind (arith, nat_tests)

pub record AreValueBytes (marker : ℕ) (value : List ℕ) : Type 0 where
  pub some : 0 < length value
  pub few : length value ≤ value_size_max marker
  pub all : list_all (is_value_byte marker) value ≡ true

pub value_parts : (marker : ℕ) (value : List ℕ) → is_value marker value ≡ true → AreValueBytes marker value
value_parts marker value h = grind (arith, and_parts, ltb-true, leb-true)

-- a value, and a `;` right after it
pub record IsWholeReference (table : Table) (marker : ℕ) (after value rest : List ℕ) : Type 0 where
  pub valued : is_value marker value ≡ true
  pub text : reference_text table after ≡ decoded table value marker
  pub behind : after_first is_semicolon after ≡ rest

pub read_value : (table : Table) → IsTable table → (after body value behind : List ℕ) (marker n : ℕ) → IsMarkedReference after marker body → n ≡ value_len marker body → value ≡ take n body → drop n body ≡ 59 ∷ behind
    → eqb (length value) 0 ≡ false → IsWholeReference table marker after value behind
read_value table sound after body value behind marker n m len v d nonempty =
    let max = value_size_max marker in
    let whole : body ≡ value ++ 59 ∷ behind = sym (take-append-drop n body) ∙ ap (λ bs. bs ++ drop n body) (sym v) ∙ ap (λ bs. value ++ bs) d in
    let passes : list_all (is_value_byte marker) value ≡ true =
    ap (list_all (is_value_byte marker)) (v ∙ ap (λ k. take k body) len) ∙ passing_front (is_value_byte marker) max body in
    let none = passing_none (is_value_byte marker) (semicolon_stops marker) value passes in
    let few : length value ≤ max = omega (arith, ap length v, length-take n body, prefix-le (is_value_byte marker) max body) in
    let off : length value ≢ 0 = eqb-false (length value) 0 nonempty in
    let is : is_value marker value ≡ true = value_from (length value) max _ (omega arith) few passes in
    let read = found table sound after body value behind marker m whole none in
    record { valued = is; text = read.text ∙ ap (λ b. pick b (decoded table value marker) None) is; behind = read.behind }

-- no value, or no `;` right after it
pub read_none : (table : Table) → IsTable table → (after body : List ℕ) (marker n : ℕ) → IsMarkedReference after marker body → n ≡ value_len marker body
    → LacksFirst 59 (drop n body) ⊎ (n ≡ 0) → reference_text table after ≡ None
read_none table sound after body marker n m len off = go (list_any is_semicolon body) refl
  where
    clash : (front back : List ℕ) → body ≡ front ++ 59 ∷ back → n ≡ length front → 0 < length front →
        LacksFirst 59 (drop n body) ⊎ (n ≡ 0) → ⊥
    clash front back e k some (inl lacks) =
        lacks back (ap (λ j. drop j body) k ∙ ap (drop (length front)) e ∙ drop-append_seam front (59 ∷ back))
    clash front back e k some (inr none) = omega arith

    guard : (front back : List ℕ) → body ≡ front ++ 59 ∷ back → (b : Bool) → is_value marker front ≡ b →
        guarded table marker front ≡ None
    guard front back e false f = ap (λ t. pick t (decoded table front marker) None) f
    guard front back e true f =
        let parts = value_parts marker front f in
        let k : n ≡ length front =
        len ∙ ap (value_len marker) e
        ∙ passing_len (is_value_byte marker) (semicolon_stops marker) (value_size_max marker) front back parts.all parts.few in
        absurd (clash front back e k parts.some off)

    go : (b : Bool) → list_any is_semicolon body ≡ b → reference_text table after ≡ None
    go false e = missing table after body marker m e
    go true e =
        let p = parted body e in
        (found table sound after body p.front p.back marker m p.is p.none).text ∙ guard p.front p.back p.is (is_value marker p.front) refl

-- The value of a number fits.

all_digits : (radix : ℕ) (p : ℕ → Bool) → ((b : ℕ) → p b ≡ true → digit_value b < radix) → (bs : List ℕ) →
    list_all p bs ≡ true → AllDigits radix bs
all_digits radix p digit [] h = tt
all_digits radix p digit (b ∷ bs) h =
    let parts = and_parts (p b) (list_all p bs) h in
    (digit b parts.0, all_digits radix p digit bs parts.1)

decimal_digit : (b : ℕ) → is_ascii_digit b ≡ true → digit_value b < 10
decimal_digit b h = grind (arith, nat_tests)

hexadecimal_digit : (b : ℕ) → is_ascii_hexdigit b ≡ true → digit_value b < 16
hexadecimal_digit b h = grind (arith, nat_tests)

value_byte_ascii : (marker b : ℕ) → is_value_byte marker b ≡ true → b < 128
value_byte_ascii marker b h = go (eqb marker 38) (eqb marker 35) h
  where
    go : (x y : Bool) → cond x (is_ascii_alphanumeric b) (cond y (is_ascii_digit b) (is_ascii_hexdigit b)) ≡ true →
        b < 128
    go true y h = grind (arith, nat_tests)
    go false true h = grind (arith, nat_tests)
    go false false h = grind (arith, nat_tests)

decimal_number : (value : List ℕ) → AreValueBytes 35 value → IsNumber 10 value
decimal_number value h = grind (arith, all_digits, decimal_digit, pow-le-pow_right, lit<, digits_value-lt)

hexadecimal_number : (value : List ℕ) → AreValueBytes 120 value → IsNumber 16 value
hexadecimal_number value h = grind (arith, all_digits, hexadecimal_digit, pow-le-pow_right, lit<, digits_value-lt)

pub number_from_value : (marker : ℕ) (value : List ℕ) → IsReferenceMarker marker → is_value marker value ≡ true → marker ≢ 38 →
    IsNumber (radix_of marker) value
number_from_value marker value (inl e) h off = absurd (off e)
number_from_value marker value (inr (inl e)) h off =
    subst (λ (m : ℕ). IsNumber (radix_of m) value) (sym e) (decimal_number value (value_parts 35 value (ap (λ m. is_value m value) (sym e) ∙ h)))
number_from_value marker value (inr (inr e)) h off =
    subst (λ (m : ℕ). IsNumber (radix_of m) value) (sym e) (hexadecimal_number value (value_parts 120 value (ap (λ m. is_value m value) (sym e) ∙ h)))

-- A text may be cut behind a value.

past_ascii : (b : ℕ) (bs rest : List ℕ) → b < 128 → IsUtf8 bs → bs ≡ b ∷ rest → IsUtf8 rest
past_ascii b bs rest low u e = IsUtf8-past_char bs rest b u (e ∙ ap (λ xs. xs ++ rest) (sym (encode_ascii b low)))

pub body_utf8 : (after body : List ℕ) (marker : ℕ) → IsMarkedReference after marker body → IsUtf8 after → IsUtf8 body
body_utf8 after body marker (inl (m, same, lacks)) u = subst IsUtf8 same u
body_utf8 after body marker (inr (inl (m, same, x, X))) u = past_ascii 35 after body (lit< tt) u same
body_utf8 after body marker (inr (inr (m, inl same))) u =
    past_ascii 120 (120 ∷ body) body (lit< tt) (past_ascii 35 after (120 ∷ body) (lit< tt) u same) refl
body_utf8 after body marker (inr (inr (m, inr same))) u =
    past_ascii 88 (88 ∷ body) body (lit< tt) (past_ascii 35 after (88 ∷ body) (lit< tt) u same) refl

pub value_boundary : (body : List ℕ) (marker n : ℕ) → n ≡ value_len marker body → IsUtf8 body → IsCharBoundary body n
value_boundary body marker zero e u = IsCharBoundary-start body u
value_boundary body marker (suc i) e u =
    let p = is_value_byte marker in
    let max = value_size_max marker in
    let front = take max body in
    let few = prefix-le p max body in
    let inside = prefix_len-le-length p front in
    let read : p (get_or body i 0) ≡ true =
    ap p (sym (get_or-take max body i 0 (omega arith))) ∙ prefix_len_passes p front i 0 (omega arith) in
    let here = IsCharBoundary-after_ascii body i u (omega (arith, length-take max body)) (value_byte_ascii marker (get_or body i 0) read) in
    subst (IsCharBoundary body) (add-one i) here

pub marked : (after body : List ℕ) (marker : ℕ) → IsMarkedReference after marker body → IsReferenceMarker marker
marked after body marker (inl h) = inl h.0
marked after body marker (inr (inl h)) = inr (inl h.0)
marked after body marker (inr (inr h)) = inr (inr h.0)

-- What stands behind a whole reference of a text is a text.
pub behind_utf8 : (table : Table) (after text : List ℕ) → reference_text table after ≡ Some text → IsUtf8 after →
    IsUtf8 (after_first is_semicolon after)
behind_utf8 table after text e u = go (list_any is_semicolon after) refl
  where
    go : (b : Bool) → list_any is_semicolon after ≡ b → IsUtf8 (after_first is_semicolon after)
    go false none = absurd (let clash : None ≡ Some text = sym (text-none table after none) ∙ e in cc)
    go true some =
        let p = parted after some in
        let behind : after_first is_semicolon after ≡ p.back = ap (after_first is_semicolon) p.is ∙ after-semicolon p.front p.back p.none in
        subst IsUtf8 (sym behind) (utf8-behind 59 after p.front p.back (lit< tt) u p.is)
