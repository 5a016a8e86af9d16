-- The pieces of lines are a text.
use Rattle.std.proofs.Common.{◌≡◌, ℕ, ◌+◌, ◌-◌, ◌<◌, ◌≤◌, ◌⊎◌, inl, inr, true, false, not, ◌==◌, ap, refl, sym, ◌∙◌, subst, List, [], ◌∷◌, ◌++◌, length, drop, get_or, Option, Some, None, IsUtf8, arith}
use Rattle.std.proofs.lemmas.Bool.{and_from, and_parts, cases_Bool, cases_lt, eq-eqb, eqb-true, not_from_false}
use Rattle.std.proofs.lemmas.Bool.Decides.{nat_tests}
use Rattle.std.proofs.lemmas.List.{drop_all, drop_more}
use Rattle.std.proofs.lemmas.List.Elements.{All-cons, All-nil}
use Rattle.std.proofs.lemmas.Str.{IsCharBoundary-after_ascii}
use Rattle.std.specs.List.{All, list_any}
use Rattle.std.specs.Str.{IsCharBoundary}
use Rattle.markdown_event.specs.declared.event.Point.{Point}
use Rattle.markdown_content.specs.declared.parser.Piece.{Piece}
use Rattle.markdown_content.specs.Codes.{Code, carriage_return, line_feed, codes_of, is_at_or_after, is_line_ending, is_line_ending_byte, line_ending_len, place_of, point_at}
use Rattle.markdown_content.specs.Content.{IsBetweenCharacters, IsTextContent, are_pieces, content_of, document_limit, ends_line, has_no_blank_line, is_one_line, is_piece, is_place, is_text_codes, piece_codes}
use Rattle.markdown_content.specs.DocumentWalk.{IsPoint}
use Rattle.markdown_content.proofs.PlaceOrder.{is_before}
use Rattle.markdown_content.proofs.BytePlaces.{end-place, feed-place, other-place}
use Rattle.markdown_content.proofs.CodesBetween.{IsFirstTo, codes_to, first-to}
use Rattle.markdown_content.proofs.ContentCodes.{piece-codes-is}
use Rattle.markdown_content.proofs.DocumentCodes.{len-bounds, len-one, len-two, stop_at}
use Rattle.markdown_content.proofs.DocumentPlaces.{next, same-pair, there}
use Rattle.markdown_content.proofs.DocumentWalkLemmas.{stop-ending}
use Rattle.markdown_content.proofs.WalkTargets.{place-point}
use Rattle.markdown_lines.specs.PiecesOfLines.{AreLines, AreLinesBehind, IsOnNextLine, MayBegin, first_ink, ink_end, is_blank_byte, last_piece, line_end, line_piece, line_stop, piece_between, pieces_of_lines}
use Rattle.markdown_lines.proofs.LineCodes.{IsEnding, IsWholeLine, filled-plain, filled-whole, ink-fills, line-codes, near-code, next-index, plain-codes, whole-ends}
use Rattle.markdown_lines.proofs.LineNumbers.{IsInk, IsLineAt, first-before, line-at, to-blank}
use Rattle.markdown_lines.proofs.StartsInOrder.{start_within}

-- Places of bytes.

abbrev point_of : List ℕ → ℕ → Point
point_of bytes i = point_at bytes (i, 0)

record IsByteAt (bytes : List ℕ) (i : ℕ) : Type 0 where
  place : is_place bytes (i, 0) ≡ true
  is : place_of (point_of bytes i) ≡ (i, 0)
  index : (point_of bytes i).index ≡ i
  vs : (point_of bytes i).vs ≡ 0
  point : IsPoint bytes (point_of bytes i)

byte-at : (bytes : List ℕ) (i : ℕ) → is_place bytes (i, 0) ≡ true → IsByteAt bytes i
byte-at bytes i h = grind (arith, there)

no-feed : (b : ℕ) → is_line_ending_byte b ≡ false → b ≡ line_feed → ⊥
no-feed b h e = grind (arith, nat_tests)

no-return : (b : ℕ) → is_line_ending_byte b ≡ false → (b == carriage_return) ≡ false
no-return b h = grind (arith, nat_tests)

at-ink : (bytes : List ℕ) (i : ℕ) → IsInk bytes i → IsByteAt bytes i
at-ink bytes i h = byte-at bytes i (sym (other-place bytes i h.within (no-feed (get_or bytes i 0) h.other)))

not-feed : (b : ℕ) → (b == line_feed) ≡ false → b ≡ line_feed → ⊥
not-feed b h e = grind (arith, nat_tests)

-- behind a byte that is of no line ending
at-behind : (bytes : List ℕ) (i : ℕ) → 0 < i → i ≤ length bytes → is_line_ending_byte (get_or bytes (i - 1) 0) ≡ false → IsByteAt bytes i
at-behind bytes i pos l h =
    byte-at bytes i
    (elim (cases_lt i (length bytes)) [
      | inl k ↦ elim (cases_Bool (get_or bytes i 0 == line_feed)) [
        | inl feed ↦ sym (feed-place bytes i pos k (eqb-true (get_or bytes i 0) line_feed feed)) ∙ ap not (no-return (get_or bytes (i - 1) 0) h)
        | inr other ↦ sym (other-place bytes i k (not-feed (get_or bytes i 0) other))
      ]
      | inr k ↦ sym (end-place bytes i k) ∙ eq-eqb i (length bytes) (omega (arith, l, k))
    ])

at-stop : (bytes : List ℕ) (at : ℕ) → IsLineAt bytes at → IsByteAt bytes (line_stop bytes at)
at-stop bytes at h = grind (arith, at-behind bytes (line_stop bytes at))

at-ink-end : (bytes : List ℕ) (at : ℕ) → IsLineAt bytes at → IsByteAt bytes (ink_end bytes at)
at-ink-end bytes at h = grind (arith, at-behind bytes (ink_end bytes at))

-- just behind the line ending
at-end : (bytes : List ℕ) (at : ℕ) → IsLineAt bytes at → line_stop bytes at < length bytes → IsByteAt bytes (line_end bytes at)
at-end bytes at h l = grind (arith, at-stop bytes, next bytes, stop-ending bytes, byte-at bytes (line_end bytes at), same-pair, place-point bytes)

-- Pieces of bytes.

order : (a b : ℕ) → a ≤ b → is_at_or_after (a, 0) (b, 0) ≡ true
order a b h = grind (arith, nat_tests)

not-before : (a b c d : ℕ) → c ≤ a → d ≡ 0 → is_before (a, b) (c, d) ≡ false
not-before a b c d h e = grind (arith, nat_tests)

is-before : (a b c d : ℕ) → a < c → is_before (a, b) (c, d) ≡ true
is-before a b c d h = grind (arith, nat_tests)

piece-of-bytes : (bytes : List ℕ) (a b : ℕ) → IsByteAt bytes a → IsByteAt bytes b → a ≤ b → is_piece bytes (piece_between a b) ≡ true
piece-of-bytes bytes a b h k l = grind (arith, and_from, order)

codes-of-bytes : (bytes : List ℕ) (a b : ℕ) → IsByteAt bytes a → IsByteAt bytes b → piece_codes (codes_of bytes) (piece_between a b) ≡ codes_to bytes (point_of bytes a) (point_of bytes b)
codes-of-bytes bytes a b h k = grind (arith, piece-codes-is bytes (piece_between a b))

first-code : (bytes : List ℕ) (a b : ℕ) → IsByteAt bytes a → IsByteAt bytes b → a < b → IsFirstTo bytes (point_of bytes a) (point_of bytes b)
first-code bytes a b h k l = grind (arith, first-to bytes, is-before)

-- A line of a text.

ink-at : (bytes : List ℕ) (i : ℕ) (p : Point) → p.index ≡ i → IsInk bytes i → (is_line_ending_byte (get_or bytes p.index 0) ≡ false) × (is_blank_byte (get_or bytes p.index 0) ≡ false)
ink-at bytes i p e h = grind arith

record IsTextLine (bytes : List ℕ) (piece : Piece) : Type 0 where
  is : is_piece bytes piece ≡ true
  ends : ends_line (piece_codes (codes_of bytes) piece) ≡ true
  fills : (rest : List Code) → has_no_blank_line false (piece_codes (codes_of bytes) piece ++ rest) ≡ has_no_blank_line false rest

ending-of : (bytes : List ℕ) (at : ℕ) → IsLineAt bytes at → line_stop bytes at < length bytes → IsEnding bytes (line_stop bytes at) (point_of bytes (line_end bytes at))
ending-of bytes at h l = grind (arith, at-end bytes)

text-line : (bytes : List ℕ) (at : ℕ) → IsLineAt bytes at → line_stop bytes at < length bytes → line_stop bytes at < line_end bytes at → IsTextLine bytes (line_piece bytes at)
text-line bytes at h l m =
    let s : ℕ = first_ink bytes at in
    let e : ℕ = line_end bytes at in
    let stop : ℕ = line_stop bytes at in
    let low : IsByteAt bytes s = at-ink bytes s h.first in
    let high : IsByteAt bytes e = at-end bytes at h l in
    let p : Point = point_of bytes s in
    let q : Point = point_of bytes e in
    let z : IsEnding bytes stop q = ending-of bytes at h l in
    let codes : piece_codes (codes_of bytes) (line_piece bytes at) ≡ codes_to bytes p q = codes-of-bytes bytes s e low high in
    let free : (k : ℕ) → s ≤ k → k < stop → is_line_ending_byte (get_or bytes k 0) ≡ false = λ k a b. h.no_ending k (omega (arith, a, h.later)) b in
    let whole : IsWholeLine (codes_to bytes p q) = line-codes bytes stop p q (codes_to bytes p q) refl low.point z (omega (arith, low.index, h.before)) (λ k a b. free k (omega (arith, a, low.index)) b) in
    let f : IsFirstTo bytes p q = first-code bytes s e low high (omega (arith, h.before, m)) in
    let ink : (is_line_ending_byte (get_or bytes p.index 0) ≡ false) × (is_blank_byte (get_or bytes p.index 0) ≡ false) = ink-at bytes s p low.index h.first in
    let n : Point = stop_at bytes p in
    let left : IsWholeLine (codes_to bytes n q) = line-codes bytes stop n q (codes_to bytes n q) refl f.point z (omega (arith, near-code bytes p ink.0, low.index, h.before))
    (λ k a b. free k (omega (arith, a, low.index, next-index bytes p low.point)) b) in
    record {
      is = piece-of-bytes bytes s e low high (omega (arith, h.before, m));
      ends = ap ends_line codes ∙ whole-ends (codes_to bytes p q) whole;
      fills = λ rest. ap (λ (cs : List Code). has_no_blank_line false (cs ++ rest)) (codes ∙ f.codes) ∙ ink-fills bytes p (codes_to bytes n q ++ rest) ink.0 ink.1 ∙ filled-whole (codes_to bytes n q) rest left;
    }

record IsLastLine (bytes : List ℕ) (piece : Piece) : Type 0 where
  is : is_piece bytes piece ≡ true
  fills : has_no_blank_line false (piece_codes (codes_of bytes) piece ++ []) ≡ true

last-line : (bytes : List ℕ) (at : ℕ) → IsLineAt bytes at → IsLastLine bytes (last_piece bytes at)
last-line bytes at h = grind (arith, at-ink, at-ink-end, codes-of-bytes, first-code, ink-at, plain-codes, next-index, piece-of-bytes, ink-fills, filled-plain)

-- Where pieces begin and end, characters do.

small : (b : ℕ) → is_line_ending_byte b ≡ true → b < 128
small b h = grind (arith, nat_tests)

blank-small : (b : ℕ) → is_blank_byte b ≡ true → b < 128
blank-small b h = grind (arith, nat_tests)

behind-small : (bytes : List ℕ) (i j : ℕ) → IsUtf8 bytes → j ≡ i + 1 → i < length bytes → get_or bytes i 0 < 128 → IsCharBoundary bytes j
behind-small bytes i j u e l h = subst (λ (n : ℕ). IsCharBoundary bytes n) (sym e) (IsCharBoundary-after_ascii bytes i u l h)

ink-boundary : (bytes : List ℕ) (at : ℕ) → IsUtf8 bytes → IsLineAt bytes at → IsCharBoundary bytes at → IsCharBoundary bytes (first_ink bytes at)
ink-boundary bytes at u h b =
    elim (cases_lt at (first_ink bytes at)) [
      | inl k ↦
          let before : ℕ = first_ink bytes at - 1 in
          let blank : is_blank_byte (get_or bytes before 0) ≡ true = to-blank (is_blank_byte (get_or bytes before 0)) (first-before (λ x. not (is_blank_byte x)) bytes at before (omega (arith, k)) (omega (arith, k))) in
          behind-small bytes before (first_ink bytes at) u (omega (arith, k)) (omega (arith, k, h.first.within)) (blank-small (get_or bytes before 0) blank)
      | inr k ↦ subst (λ (n : ℕ). IsCharBoundary bytes n) (omega (arith, k, h.later)) b
    ]

ink-end-boundary : (bytes : List ℕ) (at : ℕ) → IsLineAt bytes at → IsCharBoundary bytes (ink_end bytes at)
ink-end-boundary bytes at h = grind (arith, cases_lt, blank-small, small)

len-cases : (b c : ℕ) (cs : List ℕ) → (line_ending_len b (c ∷ cs) ≡ 1) ⊎ ((line_ending_len b (c ∷ cs) ≡ 2) × (c ≡ line_feed))
len-cases b c cs = grind (arith, cases_Bool, len-two, eqb-true, and_parts, len-one)

end-boundary : (bytes : List ℕ) (at : ℕ) → IsUtf8 bytes → IsLineAt bytes at → line_stop bytes at < length bytes → IsCharBoundary bytes (line_end bytes at)
end-boundary bytes at u h l =
    let stop : ℕ = line_stop bytes at in
    let b : ℕ = get_or bytes stop 0 in
    let one : IsCharBoundary bytes (stop + 1) = behind-small bytes stop (stop + 1) u refl l (small b (h.ending l)) in
    elim (cases_lt (stop + 1) (length bytes)) [
      | inl k ↦
          let c : ℕ = get_or bytes (stop + 1) 0 in
          let len : line_end bytes at ≡ stop + line_ending_len b (c ∷ drop (stop + 1 + 1) bytes) = h.end_is l ∙ ap (λ (cs : List ℕ). stop + line_ending_len b cs) (drop_more bytes (stop + 1) 0 k) in
          elim (len-cases b c (drop (stop + 1 + 1) bytes)) [
            | inl e ↦ subst (λ (n : ℕ). IsCharBoundary bytes n) (omega (arith, len, e)) one
            | inr (e, feed) ↦ behind-small bytes (stop + 1) (line_end bytes at) u (omega (arith, len, e)) k (omega (arith, feed))
          ]
      | inr k ↦
          let len : line_end bytes at ≡ stop + 1 = h.end_is l ∙ ap (λ (cs : List ℕ). stop + line_ending_len b cs) (drop_all (stop + 1) bytes k) in
          subst (λ (n : ℕ). IsCharBoundary bytes n) (sym len) one
    ]

-- Line after line.

record AreTextPieces (bytes : List ℕ) (pieces : List Piece) : Type 0 where
  in_order : are_pieces bytes pieces ≡ true
  between : All (IsBetweenCharacters bytes) pieces
  filled : has_no_blank_line false (content_of bytes pieces) ≡ true

-- the first of them begins at the first byte of its line that is not blank
record BeginWith (bytes : List ℕ) (at : ℕ) (pieces : List Piece) : Type 0 where
  piece : Piece
  more : List Piece
  parts : pieces ≡ piece ∷ more
  start : piece.start ≡ (first_ink bytes at, 0)

begin-with : (bytes : List ℕ) (at : ℕ) (rest : List ℕ) → BeginWith bytes at (pieces_of_lines bytes (at ∷ rest))
begin-with bytes at rest = grind arith

pair-is : (bytes : List ℕ) (piece next : Piece) (more : List Piece) → is_piece bytes piece ≡ true → are_pieces bytes (next ∷ more) ≡ true → ends_line (piece_codes (codes_of bytes) piece) ≡ true
    → is_at_or_after piece.end next.start ≡ true → is_one_line bytes piece.end next.start ≡ true → are_pieces bytes (piece ∷ next ∷ more) ≡ true
pair-is bytes piece next more a b c d e = rw (a, b, c, d, e) refl

in-order : (bytes : List ℕ) (piece : Piece) (pieces : List Piece) (at : ℕ) → BeginWith bytes at pieces → is_piece bytes piece ≡ true → are_pieces bytes pieces ≡ true → ends_line (piece_codes (codes_of bytes) piece) ≡ true
    → is_at_or_after piece.end (first_ink bytes at, 0) ≡ true → is_one_line bytes piece.end (first_ink bytes at, 0) ≡ true → are_pieces bytes (piece ∷ pieces) ≡ true
in-order bytes piece pieces at h a b c d e = grind (arith, pair-is)

-- between a line and the next there is no line ending
one-line : (bytes : List ℕ) (at after : ℕ) → IsLineAt bytes at → IsLineAt bytes after → line_stop bytes at < length bytes → IsOnNextLine bytes at after
    → is_one_line bytes (line_end bytes at, 0) (first_ink bytes after, 0) ≡ true
one-line bytes at after h k l n =
    let e : ℕ = line_end bytes at in
    let s : ℕ = first_ink bytes after in
    let low : IsByteAt bytes e = at-end bytes at h l in
    let high : IsByteAt bytes s = at-ink bytes s k.first in
    let p : Point = point_of bytes e in
    let q : Point = point_of bytes s in
    let le : e ≤ s = omega (arith, n.0, k.later) in
    let free : (i : ℕ) → e ≤ i → i < s → is_line_ending_byte (get_or bytes i 0) ≡ false = λ i a b. elim (cases_lt i after) [
      | inl c ↦ first-before is_line_ending_byte bytes e i a (omega (arith, c, n.1))
      | inr c ↦ k.no_ending i c (omega (arith, b, k.before))
    ] in
    ap (λ (cs : List Code). not (list_any is_line_ending cs)) (codes-of-bytes bytes e s low high)
    ∙ not_from_false (list_any is_line_ending (codes_to bytes p q))
    (plain-codes bytes p q (codes_to bytes p q) refl low.point high.point (not-before q.index q.vs p.index p.vs (omega (arith, low.index, high.index, le)) low.vs) high.vs
    (λ i a b. free i (omega (arith, a, low.index)) (omega (arith, b, high.index))))

boundary-of : (bytes : List ℕ) (before : Option ℕ) (at : ℕ) → MayBegin bytes before at → IsCharBoundary bytes at
boundary-of bytes before at h = grind arith

-- a line that another follows has a line ending
has-ending : (bytes : List ℕ) (at after : ℕ) → IsLineAt bytes at → IsLineAt bytes after → IsOnNextLine bytes at after → line_stop bytes at < length bytes
has-ending bytes at after h k n = grind (arith, cases_lt)

line-text : (bytes : List ℕ) (before : Option ℕ) (at : ℕ) (rest : List ℕ) → IsUtf8 bytes → AreLinesBehind bytes before (at ∷ rest) → AreTextPieces bytes (pieces_of_lines bytes (at ∷ rest))
line-text bytes before at [] u h =
    let line : IsLineAt bytes at = line-at bytes at (start_within bytes before at h.0.0) h.0.1 in
    let last : IsLastLine bytes (last_piece bytes at) = last-line bytes at line in
    record {
      in_order = rw last.is refl;
      between = All-cons (IsBetweenCharacters bytes) (last_piece bytes at) [] (ink-boundary bytes at u line (boundary-of bytes before at h.0.0), ink-end-boundary bytes at line) (All-nil (IsBetweenCharacters bytes));
      filled = last.fills;
    }
line-text bytes before at (after ∷ rest) u h =
    let line : IsLineAt bytes at = line-at bytes at (start_within bytes before at h.0.0) h.0.1 in
    let below : IsLineAt bytes after = line-at bytes after (start_within bytes (Some at) after h.1.0.0) h.1.0.1 in
    let on : IsOnNextLine bytes at after = h.1.0.0.1 in
    let l : line_stop bytes at < length bytes = has-ending bytes at after line below on in
    let m : line_stop bytes at < line_end bytes at = omega (arith, line.end_is l, (len-bounds (get_or bytes (line_stop bytes at) 0) (drop (line_stop bytes at + 1) bytes)).0) in
    let one : IsTextLine bytes (line_piece bytes at) = text-line bytes at line l m in
    let others : AreTextPieces bytes (pieces_of_lines bytes (after ∷ rest)) = line-text bytes (Some at) after rest u h.1 in
    record {
      in_order = in-order bytes (line_piece bytes at) (pieces_of_lines bytes (after ∷ rest)) after (begin-with bytes after rest) one.is others.in_order one.ends
          (order (line_end bytes at) (first_ink bytes after) (omega (arith, on.0, below.later))) (one-line bytes at after line below l on);
      between = All-cons (IsBetweenCharacters bytes) (line_piece bytes at) (pieces_of_lines bytes (after ∷ rest))
          (ink-boundary bytes at u line (boundary-of bytes before at h.0.0), end-boundary bytes at u line l) others.between;
      filled = one.fills (content_of bytes (pieces_of_lines bytes (after ∷ rest))) ∙ others.filled;
    }

-- codes of lines that are filled are those of a text
text-codes : (cs : List Code) → has_no_blank_line false cs ≡ true → is_text_codes cs ≡ true
text-codes cs h = grind arith

pub lines_are_a_text : (bytes starts : List ℕ) → IsUtf8 bytes → length bytes ≤ document_limit → AreLines bytes starts → IsTextContent bytes (pieces_of_lines bytes starts)
lines_are_a_text bytes [] u l h = record {
  is_content = record { is_text = u; fits = l; between_characters = All-nil (IsBetweenCharacters bytes); in_order = refl };
  is_filled = refl;
}
lines_are_a_text bytes (at ∷ rest) u l h =
    let t : AreTextPieces bytes (pieces_of_lines bytes (at ∷ rest)) = line-text bytes None at rest u h in
    record {
      is_content = record { is_text = u; fits = l; between_characters = t.between; in_order = t.in_order };
      is_filled = text-codes (content_of bytes (pieces_of_lines bytes (at ∷ rest))) t.filled;
    }
