-- At each line ending of a text stands whitespace.
use Rattle.std.proofs.Common.{◌≡◌, ℕ, ◌+◌, ◌<◌, ◌==◌, ◌||◌, ◌&&◌, nat_lt, Bool, true, false, List, [], ◌∷◌, ◌++◌, length, drop, get_or, slice_get, filter, Some, if◌then◌else◌, cond, refl, sym, ap, subst, ◌∙◌, arith}
use Rattle.std.specs.Prelude.{IsUtf8}
use Rattle.std.proofs.lemmas.Bool.{eqb-true, both_ways, or_parts}
use Rattle.std.proofs.lemmas.List.{drop_more}
use Rattle.std.proofs.lemmas.Str.{IsUtf8-drop, IsCharBoundary-before_ascii, chars_past_char, encode_ascii}
use Rattle.std.proofs.Math.Utf8.{encode}
use Rattle.ucd_props.specs.Ranges.{white_space_ranges}
use Rattle.ucd_table.specs.Rows.{in_ranges}
use Rattle.unicode.specs.Binary.{is_white_space}
use Rattle.markdown_content.specs.Codes.{Code, codes_of, document_start, is_line_ending, is_line_ending_byte}
use Rattle.markdown_content.specs.Content.{content_of, piece_codes, is_in_piece}
use Rattle.markdown_event.specs.declared.event.Point.{Point}
use Rattle.markdown_content.specs.declared.parser.Piece.{Piece}
use Rattle.markdown_content.proofs.DocumentCodes.{HasPlaceNumbers, codes_at, code_here}
use Rattle.markdown_content.proofs.DocumentWalkLemmas.{IsFirstCode, first-of, stands-start}
use Rattle.markdown_model.specs.CodeLines.{AreSpaced}
use Rattle.markdown_model.specs.GfmAutolinkLiteral.{is_space}
use Rattle.markdown_util.specs.Neighbours.{after_index, class_of}

spaced-join : (bytes : List ℕ) (xs ys : List Code) → AreSpaced bytes xs → AreSpaced bytes ys →
    AreSpaced bytes (xs ++ ys)
spaced-join bytes [] ys h k = k
spaced-join bytes (c ∷ xs) ys h k = (h.0, spaced-join bytes xs ys h.1 k)

spaced-filter : (bytes : List ℕ) (p : Code → Bool) (cs : List Code) → AreSpaced bytes cs → AreSpaced bytes (filter p cs)
spaced-filter bytes p [] h = tt
spaced-filter bytes p (c ∷ cs) h = by_test (p c) (spaced-filter bytes p cs h.1)
  where
    by_test : (b : Bool) → AreSpaced bytes (filter p cs) → AreSpaced bytes (cond b (c ∷ filter p cs) (filter p cs))
    by_test true k = (h.0, k)
    by_test false k = k

-- Bytes.

first-char : (bytes : List ℕ) (i : ℕ) → IsUtf8 bytes → i < length bytes → get_or bytes i 0 < 128 →
    after_index bytes i ≡ Some (get_or bytes i 0)
first-char bytes i u lt low =
    let rest : IsUtf8 (drop i bytes) = IsUtf8-drop bytes i u (IsCharBoundary-before_ascii bytes i lt low) in
    let split : drop i bytes ≡ encode (get_or bytes i 0) ++ drop (i + 1) bytes = drop_more bytes i 0 lt ∙ ap (λ x. x ++ drop (i + 1) bytes) (sym (encode_ascii (get_or bytes i 0) low)) in
    ap (λ x. slice_get x 0) (chars_past_char (drop i bytes) (drop (i + 1) bytes) (get_or bytes i 0) rest split)

feed-space : is_space (class_of (Some 10)) ≡ true
unfolding class_of is_white_space in_ranges white_space_ranges
feed-space = refl

return-space : is_space (class_of (Some 13)) ≡ true
unfolding class_of is_white_space in_ranges white_space_ranges
return-space = refl

-- a line ending begins with its line feed or its carriage return
ending-byte : (b : ℕ) → (b == 10 || b == 13) ≡ true → (b < 128) × (is_space (class_of (Some b)) ≡ true)
ending-byte b h = by_test (b == 10) refl
  where
    by_test : (t : Bool) → (b == 10) ≡ t → (b < 128) × (is_space (class_of (Some b)) ≡ true)
    by_test true e =
        let k : b ≡ 10 = eqb-true b 10 e in (omega (arith, k), ap (λ n. is_space (class_of (Some n))) k ∙ feed-space)
    by_test false e =
        let k : b ≡ 13 = eqb-true b 13 (ap (λ t. t || b == 13) (sym e) ∙ h) in (omega (arith, k), ap (λ n. is_space (class_of (Some n))) k ∙ return-space)

-- a code that is a line ending begins with such a byte
value-ending : (b : ℕ) (t : Bool) →
    ((if is_line_ending_byte b then 10 else (if b == 9 && t then 32 else b)) == 10) ≡ true →
    is_line_ending_byte b ≡ true
value-ending b t h = by_test (is_line_ending_byte b) refl h
  where
    other : (u : Bool) → is_line_ending_byte b ≡ false → ((if u then 32 else b) == 10) ≡ true → ⊥
    other true e k = cc
    other false e k = both_ways (b == 10) (or_parts (b == 10) (b == 13) e).0 k

    by_test : (u : Bool) → is_line_ending_byte b ≡ u →
        ((if u then 10 else (if b == 9 && t then 32 else b)) == 10) ≡ true → is_line_ending_byte b ≡ true
    by_test true e k = e
    by_test false e k = absurd (other (b == 9 && t) e k)

-- Documents and contents.

spaced-here : (bytes : List ℕ) (p : Point) → IsUtf8 bytes → p.index < length bytes →
    is_line_ending (code_here bytes p) ≡ true → is_space (class_of (after_index bytes p.index)) ≡ true
spaced-here bytes p u lt h =
    let k = ending-byte (get_or bytes p.index 0) (value-ending (get_or bytes p.index 0) (nat_lt 0 p.vs) h) in
    ap (λ x. is_space (class_of x)) (first-char bytes p.index u lt k.0) ∙ k.1

spaced-at : (bytes : List ℕ) (p : Point) (cs : List Code) → IsUtf8 bytes → HasPlaceNumbers bytes p → codes_at bytes p ≡ cs →
    AreSpaced bytes cs
spaced-at bytes p [] u s e = tt
spaced-at bytes p (c ∷ cs) u s e =
    let one : IsFirstCode bytes p c cs = first-of bytes p c cs s e in
    (subst (λ (x : Code). is_line_ending x ≡ true → is_space (class_of (after_index bytes x.start.index)) ≡ true) (sym one.code) (λ h. spaced-here bytes p u one.in_bytes h), spaced-at bytes c.stop cs u one.stands (sym one.rest))

spaced-pieces : (bytes : List ℕ) (pieces : List Piece) → AreSpaced bytes (codes_of bytes) →
    AreSpaced bytes (content_of bytes pieces)
spaced-pieces bytes [] h = tt
spaced-pieces bytes (piece ∷ more) h =
    spaced-join bytes (piece_codes (codes_of bytes) piece) (content_of bytes more) (spaced-filter bytes (is_in_piece piece) (codes_of bytes) h) (spaced-pieces bytes more h)

pub spaced-content : (bytes : List ℕ) (pieces : List Piece) → IsUtf8 bytes → AreSpaced bytes (content_of bytes pieces)
spaced-content bytes pieces u =
    spaced-pieces bytes pieces (spaced-at bytes document_start (codes_of bytes) u (stands-start bytes) refl)
