-- Codes that spell characters, and what of them stands between characters.
use Rattle.std.proofs.Common.{◌≡◌, ℕ, suc, ◌<◌, ◌≤◌, refl, sym, ap, subst, ◌∙◌, List, [], ◌∷◌, ◌++◌, length, get_or, filter, Bool, true, false, cond, not, nat_lt, arith, append-nil}
use Rattle.std.specs.Char.{encode_utf8}
use Rattle.std.specs.Str.{IsUtf8, IsCharBoundary, encode_utf8_all}
use Rattle.std.proofs.Math.Seq.{take-append_seam, drop-append_seam}
use Rattle.std.proofs.Math.Utf8.{scalar, scalars}
use Rattle.std.proofs.lemmas.Bool.{and_parts, ltb-true}
use Rattle.std.proofs.lemmas.Bool.Decides.{nat_tests}
use Rattle.std.proofs.lemmas.Str.{IsUtf8-append, IsUtf8-encode, IsUtf8-nil, IsUtf8-take, IsUtf8-drop, IsCharBoundary-after_ascii, IsCharBoundary-end, encode_ascii, inside_one}
use Rattle.markdown_content.specs.Codes.{Code}
use Rattle.markdown_model.specs.CodeTests.{values_of, is_later_byte}
use Rattle.markdown_model.specs.Grammar.{span}
use Rattle.markdown_page_model.specs.PageTexts.{is_later_column, text_of}
use Rattle.markdown_block_definitions.proofs.TextPushes.{values-append}

-- Bytes in which ASCII bytes are replaced by any number of others.

abbrev pub AreLow : List ℕ → Type 0
AreLow [] = Unit {0}
AreLow (n ∷ ns) = (nat_lt n 128 ≡ true) × AreLow ns

low-utf8 : (ns : List ℕ) → AreLow ns → IsUtf8 ns
low-utf8 [] h = IsUtf8-nil
low-utf8 (n ∷ ns) h = IsUtf8-append (n ∷ []) ns (one n (ltb-true n 128 h.0)) (low-utf8 ns h.1)
  where
    one : (n : ℕ) → n < 128 → IsUtf8 (n ∷ [])
    one n l = subst IsUtf8 (encode_ascii n l) (IsUtf8-encode n (grind (arith, nat_tests)))

abbrev pub ReplacedBy : Bool → ℕ → (List ℕ → Type 0) → List ℕ → Type 0
ReplacedBy true x others ys = (ls : List ℕ) × (rest : List ℕ) × (ys ≡ ls ++ rest) × AreLow ls × others rest
ReplacedBy false x others ys = (rest : List ℕ) × (ys ≡ x ∷ rest) × others rest

abbrev pub Replaced : List ℕ → List ℕ → Type 0
Replaced [] ys = ys ≡ []
Replaced (x ∷ xs) ys = ReplacedBy (nat_lt x 128) x (λ rest. Replaced xs rest) ys

abbrev AreHigh : List ℕ → Type 0
AreHigh [] = Unit {0}
AreHigh (n ∷ ns) = (nat_lt n 128 ≡ false) × AreHigh ns

high-all : (ns : List ℕ) → ((k : ℕ) → k < length ns → nat_lt (get_or ns k 0) 128 ≡ false) → AreHigh ns
high-all [] h = tt
high-all (n ∷ ns) h = (h 0 (omega arith), high-all ns (λ k l. h (suc k) (omega (arith, l))))

high-encoded : (c : ℕ) → nat_lt c 128 ≡ false → AreHigh (encode_utf8 c)
high-encoded c h = high-all (encode_utf8 c) (λ k l. at k l (nat_lt (get_or (encode_utf8 c) k 0) 128) refl)
  where
    at : (k : ℕ) → k < length (encode_utf8 c) → (b : Bool) → nat_lt (get_or (encode_utf8 c) k 0) 128 ≡ b → b ≡ false
    at k l true e =
        let same : c ≡ get_or (encode_utf8 c) k 0 = inside_one c [] (encode_utf8 c) k (sym (append-nil (encode_utf8 c))) l (ltb-true (get_or (encode_utf8 c) k 0) 128 e) in
        sym e ∙ ap (λ n. nat_lt n 128) (sym same) ∙ h
    at k l false e = refl

-- what stands behind high bytes
high-kept : (hs xs ys : List ℕ) → AreHigh hs → Replaced (hs ++ xs) ys → (rest : List ℕ) × (ys ≡ hs ++ rest) × Replaced xs rest
high-kept [] xs ys h r = (ys, refl, r)
high-kept (x ∷ hs) xs ys h r = by (nat_lt x 128) h.0 r (λ rest k. high-kept hs xs rest h.1 k)
  where
    by : (b : Bool) → b ≡ false → ReplacedBy b x (λ rest. Replaced (hs ++ xs) rest) ys
        → ((left : List ℕ) → Replaced (hs ++ xs) left → (rest : List ℕ) × (left ≡ hs ++ rest) × Replaced xs rest)
        → (rest : List ℕ) × (ys ≡ (x ∷ hs) ++ rest) × Replaced xs rest
    by true e k more = absurd (cc)
    by false e k more = let found = more k.0 k.2 in (found.0, k.1 ∙ ap (λ zs. x ∷ zs) found.1, found.2)

low-first : (c : ℕ) (others : List ℕ → Type 0) (ys : List ℕ) (b : Bool) → b ≡ true → ReplacedBy b c others ys → ((rest : List ℕ) → others rest → IsUtf8 rest) → IsUtf8 ys
low-first c others ys true e k more = subst IsUtf8 (sym k.2) (IsUtf8-append k.0 k.1 (low-utf8 k.0 k.3) (more k.1 k.4))
low-first c others ys false e k more = absurd (cc)

replaced-chars : (cs ys : List ℕ) → scalars cs ≡ true → Replaced (encode_utf8_all cs) ys → IsUtf8 ys
replaced-chars [] ys s r = subst IsUtf8 (sym r) IsUtf8-nil
replaced-chars (c ∷ cs) ys s r = by (nat_lt c 128) refl (λ rest k. replaced-chars cs rest (and_parts (scalar c) (scalars cs) s).1 k)
  where
    by : (b : Bool) → nat_lt c 128 ≡ b → ((rest : List ℕ) → Replaced (encode_utf8_all cs) rest → IsUtf8 rest) → IsUtf8 ys
    by true e more = low-first c (λ rest. Replaced (encode_utf8_all cs) rest) ys (nat_lt c 128) e (subst (λ zs. Replaced (zs ++ encode_utf8_all cs) ys) (encode_ascii c (ltb-true c 128 e)) r) more
    by false e more =
        let found = high-kept (encode_utf8 c) (encode_utf8_all cs) ys (high-encoded c e) r in
        subst IsUtf8 (sym found.1) (IsUtf8-append (encode_utf8 c) found.0 (IsUtf8-encode c (and_parts (scalar c) (scalars cs) s).0) (more found.0 found.2))

pub replaced-utf8 : (xs ys : List ℕ) → IsUtf8 xs → Replaced xs ys → IsUtf8 ys
replaced-utf8 xs ys u r = replaced-chars u.0 ys u.1.0 (subst (λ zs. Replaced zs ys) (sym u.1.1) r)

-- an ASCII byte by some, and any byte by itself
pub replaced-low : (x : ℕ) (xs ls ys : List ℕ) → nat_lt x 128 ≡ true → AreLow ls → Replaced xs ys → Replaced (x ∷ xs) (ls ++ ys)
replaced-low x xs ls ys e l r = by (nat_lt x 128) e
  where
    by : (b : Bool) → b ≡ true → ReplacedBy b x (λ rest. Replaced xs rest) (ls ++ ys)
    by true k = (ls, ys, refl, l, r)
    by false k = absurd (cc)

pub replaced-same : (x : ℕ) (xs ys : List ℕ) → Replaced xs ys → Replaced (x ∷ xs) (x ∷ ys)
replaced-same x xs ys r = by (nat_lt x 128) refl
  where
    by : (b : Bool) → nat_lt x 128 ≡ b → ReplacedBy b x (λ rest. Replaced xs rest) (x ∷ ys)
    by true k = (x ∷ [], ys, refl, (k, tt), r)
    by false k = (ys, refl, r)

-- Codes.

abbrev pub is_low : Code → Bool
is_low c = nat_lt c.value 128

-- later columns of tabs are ASCII
abbrev pub LaterLow : List Code → Type 0
LaterLow [] = Unit {0}
LaterLow (c ∷ cs) = (is_later_column c ≡ true → is_low c ≡ true) × LaterLow cs

pub record AreCharacters (cs : List Code) : Type 0 where
  pub values : IsUtf8 (values_of cs)
  pub later : LaterLow cs

-- they do not begin with a later byte of a character
abbrev pub Early : List Code → Type 0
Early [] = Unit {0}
Early (c ∷ cs) = is_later_byte c ≡ false

pub low-early : (c : Code) → is_low c ≡ true → is_later_byte c ≡ false
low-early c h = grind (arith, nat_tests)

pub characters-none : AreCharacters []
characters-none = record { values = IsUtf8-nil; later = tt }

pub later-join : (xs ys : List Code) → LaterLow xs → LaterLow ys → LaterLow (xs ++ ys)
later-join [] ys h k = k
later-join (x ∷ xs) ys h k = (h.0, later-join xs ys h.1 k)

later-front : (xs ys : List Code) → LaterLow (xs ++ ys) → LaterLow xs
later-front [] ys h = tt
later-front (x ∷ xs) ys h = (h.0, later-front xs ys h.1)

later-back : (xs ys : List Code) → LaterLow (xs ++ ys) → LaterLow ys
later-back [] ys h = h
later-back (x ∷ xs) ys h = later-back xs ys h.1

pub characters-join : (xs ys : List Code) → AreCharacters xs → AreCharacters ys → AreCharacters (xs ++ ys)
characters-join xs ys h k = record {
  values = subst IsUtf8 (sym (values-append xs ys)) (IsUtf8-append (values_of xs) (values_of ys) h.values k.values);
  later = later-join xs ys h.later k.later;
}

-- cut before what is no later byte
boundary : (vs : List ℕ) (ys : List Code) → Early ys → IsCharBoundary (vs ++ values_of ys) (length vs)
boundary [] [] e = IsCharBoundary-end []
boundary [] (y ∷ ys) e = (omega arith, λ l k. lead y.value e k)
  where
    lead : (v : ℕ) → is_later_byte y ≡ false → 128 ≤ y.value → 192 ≤ y.value
    lead v f k = grind (arith, nat_tests)
boundary (v ∷ vs) ys e = let h = boundary vs ys e in (omega (arith, h.0), λ l k. h.1 (omega (arith, l)) k)

pub characters-cut : (xs ys : List Code) → AreCharacters (xs ++ ys) → Early ys → AreCharacters xs × AreCharacters ys
characters-cut xs ys h e =
    let u : IsUtf8 (values_of xs ++ values_of ys) = subst IsUtf8 (values-append xs ys) h.values in
    let b : IsCharBoundary (values_of xs ++ values_of ys) (length (values_of xs)) = boundary (values_of xs) ys e in (
      record { values = subst IsUtf8 (take-append_seam (values_of xs) (values_of ys)) (IsUtf8-take (values_of xs ++ values_of ys) (length (values_of xs)) u b); later = later-front xs ys h.later },
      record { values = subst IsUtf8 (drop-append_seam (values_of xs) (values_of ys)) (IsUtf8-drop (values_of xs ++ values_of ys) (length (values_of xs)) u b); later = later-back xs ys h.later },
    )

-- behind an ASCII code
pub characters-past : (c : Code) (cs : List Code) → is_low c ≡ true → AreCharacters (c ∷ cs) → AreCharacters cs
characters-past c cs l h = record {
  values = IsUtf8-drop (values_of (c ∷ cs)) 1 h.values (IsCharBoundary-after_ascii (values_of (c ∷ cs)) 0 h.values (omega arith) (ltb-true c.value 128 l));
  later = h.later.1;
}

-- Their text.

kept-replaced : (cs : List Code) → LaterLow cs → Replaced (values_of cs) (values_of (filter (λ c. not (is_later_column c)) cs))
kept-replaced [] h = refl
kept-replaced (c ∷ cs) h = by (is_later_column c) refl (kept-replaced cs h.1)
  where
    by : (b : Bool) → is_later_column c ≡ b → Replaced (values_of cs) (values_of (filter (λ d. not (is_later_column d)) cs))
        → Replaced (c.value ∷ values_of cs) (values_of (cond (not b) (c ∷ filter (λ d. not (is_later_column d)) cs) (filter (λ d. not (is_later_column d)) cs)))
    by true e r = replaced-low c.value (values_of cs) [] (values_of (filter (λ d. not (is_later_column d)) cs)) (h.0 e) tt r
    by false e r = replaced-same c.value (values_of cs) (values_of (filter (λ d. not (is_later_column d)) cs)) r

pub text-utf8 : (cs : List Code) → AreCharacters cs → IsUtf8 (text_of cs)
text-utf8 [] h = IsUtf8-nil
text-utf8 (c ∷ cs) h = by (is_later_column c) refl (λ k. text-utf8 cs k)
  where
    kept : List Code → List Code
    kept ds = filter (λ d. not (is_later_column d)) ds

    by : (b : Bool) → is_later_column c ≡ b → (AreCharacters cs → IsUtf8 (text_of cs))
        → IsUtf8 (let s = elim b as (λ _. List Code × List Code) [ true ↦ let s = span is_later_column cs in (c ∷ s.0, s.1) | false ↦ ([], c ∷ cs) ] in values_of s.0 ++ values_of (filter (λ d. not (is_later_column d)) s.1))
    by true e more =
        let low : is_low c ≡ true = h.later.0 e in
        IsUtf8-append (c.value ∷ []) (text_of cs) (low-utf8 (c.value ∷ []) (low, tt)) (more (characters-past c cs low h))
    by false e more = replaced-utf8 (values_of (c ∷ cs)) (values_of (kept (c ∷ cs))) h.values (kept-replaced (c ∷ cs) h.later)
