-- The text between two indexes: a front of it is that up to an index between, and it is UTF-8.
use Rattle.std.proofs.Common.{◌≡◌, ◌∙◌, sym, ap, refl, subst, ℕ, ◌==◌, Bool, ◌&&◌, if◌then◌else◌, true, false, List, [], ◌∷◌, ◌++◌, append-nil, append_assoc, map, ◌≤◌, ◌<◌, inl, inr, IsUtf8, All, arith}
use Rattle.std.specs.Prelude.{max, min, slice_range}
use Rattle.std.specs.Char.{encode_utf8}
use Rattle.std.specs.Str.{IsCharBoundary, chars, encode_utf8_all}
use Rattle.std.proofs.Math.Utf8.{scalar, scalars}
use Rattle.std.proofs.Math.Nat.{max-eq_left, max-eq_right, max-le, min-eq_left, min-eq_right, le-max_right, min-le_left, le-min}
use Rattle.std.proofs.lemmas.Bool.{and_parts, cases_lt}
use Rattle.std.proofs.lemmas.List.Elements.{All-head, All-tail}
use Rattle.std.proofs.lemmas.Str.{IsUtf8-append, IsUtf8-between, IsUtf8-encode, IsUtf8-nil, chars-append, encodes-append, scalars-chars}
use Rattle.markdown_content.specs.declared.label_kind.LabelKind.{LabelKind}
use Rattle.markdown_content.specs.declared.parser.Piece.{Piece}
use Rattle.markdown_content.specs.Content.{IsBetweenCharacters, content_of, are_pieces}
use Rattle.markdown_content.specs.ContentBytes.{bytes_within}
use Rattle.markdown_content.specs.Place.{Place, start_of_content}
use Rattle.markdown_content.specs.PlaceInDocument.{IsPlaceOf}
use Rattle.markdown_content.proofs.ContentCodes.{piece_row, IsPieceRow}
use Rattle.markdown_content.proofs.BytesOfContent.{all_of, clipped, content-bytes, index-order, later-none, of_piece, range-none, range-seam}
use Rattle.markdown_engine.specs.declared.tokenizer.Tokenizer.{Tokenizer}
use Rattle.markdown_plan.specs.Characters.{bytes_of}
use Rattle.markdown_model.specs.LabelEnd.{name_between, text_between}
use Rattle.markdown_model.specs.Setting.{rules}
use Rattle.markdown_util.specs.Identifier.{identifier_of, read_text, replaced_nul}
use Rattle.markdown_label_names.specs.IdentifierFronts.{AreCuts, IsUnknown, begins_defined}
use Rattle.markdown_label_names.specs.LabelSetting.{setting_in}
use Rattle.markdown_label_names.proofs.IdentifierFrontLemmas.{IsFrontOf, identifier-front, unknown-by}

-- A text is read part by part, and stays a text.

map-append : (f : ℕ → ℕ) (xs ys : List ℕ) → map f (xs ++ ys) ≡ map f xs ++ map f ys
map-append f [] ys = refl
map-append f (x ∷ xs) ys = ap (λ zs. f x ∷ zs) (map-append f xs ys)

read-append : (replaced : Bool) (xs ys : List ℕ) → IsUtf8 xs → read_text replaced (xs ++ ys) ≡ read_text replaced xs ++ read_text replaced ys
read-append false xs ys u = refl
read-append true xs ys u =
    ap (λ cs. encode_utf8_all (map replaced_nul cs)) (chars-append xs ys u) ∙ ap encode_utf8_all (map-append replaced_nul (chars xs) (chars ys))
    ∙ encodes-append (map replaced_nul (chars xs)) (map replaced_nul (chars ys))

utf8-encodes : (cs : List ℕ) → scalars cs ≡ true → IsUtf8 (encode_utf8_all cs)
utf8-encodes [] h = IsUtf8-nil
utf8-encodes (c ∷ cs) h =
    let parts = and_parts (scalar c) (scalars cs) h in
    IsUtf8-append (encode_utf8 c) (encode_utf8_all cs) (IsUtf8-encode c parts.0) (utf8-encodes cs parts.1)

scalars-replaced : (cs : List ℕ) → scalars cs ≡ true → scalars (map replaced_nul cs) ≡ true
scalars-replaced [] h = refl
scalars-replaced (c ∷ cs) h =
    let parts = and_parts (scalar c) (scalars cs) h in
    (λ i. one c parts.0 i && scalars-replaced cs parts.1 i)
  where
    by : (c : ℕ) → scalar c ≡ true → (b : Bool) → scalar (if b then 0xFFFD else c) ≡ true
    by c k true = refl
    by c k false = k

    one : (c : ℕ) → scalar c ≡ true → scalar (replaced_nul c) ≡ true
    one c k = by c k (c == 0)

pub read-utf8 : (replaced : Bool) (xs : List ℕ) → IsUtf8 xs → IsUtf8 (read_text replaced xs)
read-utf8 false xs u = u
read-utf8 true xs u = utf8-encodes (map replaced_nul (chars xs)) (scalars-replaced (chars xs) (scalars-chars xs u))

-- A part of a stretch is cut where the stretch is.

module _ (xs : List ℕ) (from to cut : ℕ) (order : from ≤ cut) (last : cut ≤ to) where
  -- what is cut within a stretch
  cut-inside : (a b : ℕ) → a ≤ b → cut ≤ b → clipped xs from to a b ≡ clipped xs from cut a b ++ clipped xs cut to a b
  cut-inside a b ab inside =
      elim (cases_lt cut a) [
        | inl late ↦
            let none : min cut b ≤ max from a = omega (arith, min-le_left cut b, le-max_right from a, late) in
            ap (λ n. slice_range xs n (min to b)) (max-eq_right {n = from} {m = a} (omega (arith, order, late)) ∙ sym (max-eq_right {n = cut} {m = a} (omega (arith, late))))
            ∙ ap (λ ys. ys ++ clipped xs cut to a b) (sym (range-none xs (max from a) (min cut b) none))
        | inr early ↦
            let front : max from a ≤ cut = max-le {a = from} {b = a} {k = cut} order early in
            sym (range-seam xs (max from a) cut (min to b) front (le-min last inside))
            ∙ ap (λ n. slice_range xs (max from a) n ++ slice_range xs cut (min to b)) (sym (min-eq_left {n = cut} {m = b} inside))
            ∙ ap (λ n. slice_range xs (max from a) (min cut b) ++ slice_range xs n (min to b)) (sym (max-eq_left {n = cut} {m = a} early))
      ]

  -- and where it ends before, nothing is
  cut-behind : (a b : ℕ) → b < cut → clipped xs from to a b ≡ clipped xs from cut a b
  cut-behind a b before =
      ap (λ n. slice_range xs (max from a) n) (min-eq_right {n = b} {m = to} (omega (arith, before, last)) ∙ sym (min-eq_right {n = b} {m = cut} (omega (arith, before))))

  -- so the bytes up to the cut are a front of all
  front-of-all : (bytes : List ℕ) (pieces : List Piece) → are_pieces bytes pieces ≡ true → IsFrontOf (all_of xs from cut pieces) (all_of xs from to pieces)
  front-of-all bytes [] h = ([], refl)
  front-of-all bytes (piece ∷ rest) h =
      elim (cases_lt piece.end.0 cut) [
        | inl before ↦
            let more = front-of-all bytes rest (piece_row bytes piece rest h).others in
            let here : List ℕ = clipped xs from cut piece.start.0 piece.end.0 in (
              more.0,
              (λ i. cut-behind piece.start.0 piece.end.0 before i ++ more.1 i) ∙ sym (append_assoc here (all_of xs from cut rest) more.0),
            )
        | inr inside ↦
            let row : IsPieceRow bytes piece rest = piece_row bytes piece rest h in
            let order : piece.start.0 ≤ piece.end.0 = index-order piece.start.0 piece.start.1 piece.end.0 piece.end.1 row.in_order in
            let first : List ℕ = clipped xs from cut piece.start.0 piece.end.0 in
            let second : List ℕ = clipped xs cut to piece.start.0 piece.end.0 in
            let left : List ℕ = all_of xs from to rest in (
              second ++ left,
              ap (λ ys. ys ++ left) (cut-inside piece.start.0 piece.end.0 order inside) ∙ append_assoc first second left
                  ∙ ap (λ ys. ys ++ (second ++ left)) (sym (append-nil first) ∙ ap (λ ys. first ++ ys) (sym (later-none xs from cut bytes piece rest h inside))),
            )
      ]

-- Parts between characters are texts.

module _ (bs : List ℕ) (text : IsUtf8 bs) where
  max-cut : (i j : ℕ) → IsCharBoundary bs i → IsCharBoundary bs j → IsCharBoundary bs (max i j)
  max-cut i j h k =
      elim (cases_lt i j) [
        | inl l ↦ subst (IsCharBoundary bs) (sym (max-eq_right {n = i} {m = j} (omega (arith, l)))) k
        | inr l ↦ subst (IsCharBoundary bs) (sym (max-eq_left {n = i} {m = j} l)) h
      ]

  min-cut : (i j : ℕ) → IsCharBoundary bs i → IsCharBoundary bs j → IsCharBoundary bs (min i j)
  min-cut i j h k =
      elim (cases_lt i j) [
        | inl l ↦ subst (IsCharBoundary bs) (sym (min-eq_left {n = i} {m = j} (omega (arith, l)))) h
        | inr l ↦ subst (IsCharBoundary bs) (sym (min-eq_right {n = j} {m = i} l)) k
      ]

  range-text : (i j : ℕ) → IsCharBoundary bs i → IsCharBoundary bs j → IsUtf8 (slice_range bs i j)
  range-text i j h k =
      elim (cases_lt j i) [
        | inl l ↦ subst IsUtf8 (sym (range-none bs i j (omega (arith, l)))) IsUtf8-nil
        | inr l ↦ IsUtf8-between bs i j text l h k
      ]

  all-text : (from to : ℕ) → IsCharBoundary bs from → IsCharBoundary bs to → (pieces : List Piece) → All (IsBetweenCharacters bs) pieces → IsUtf8 (all_of bs from to pieces)
  all-text from to h k [] all = IsUtf8-nil
  all-text from to h k (piece ∷ rest) all =
      let here : IsBetweenCharacters bs piece = All-head (IsBetweenCharacters bs) piece rest all in
      IsUtf8-append (of_piece bs from to piece) (all_of bs from to rest)
      (range-text (max from piece.start.0) (min to piece.end.0) (max-cut from piece.start.0 h here.0) (min-cut to piece.end.0 k here.1))
      (all-text from to h k rest (All-tail (IsBetweenCharacters bs) piece rest all))

-- The text of a tokenizer's document.

module _ (T : Tokenizer) (own : IsPlaceOf (bytes_of T) T.cursor) where
  content-is : T.cursor.codes ≡ content_of (bytes_of T) own.pieces
  unfolding start_of_content
  content-is = ap (λ (p : Place). p.codes) own.place

  all-is : (i j : ℕ) → bytes_within (bytes_of T) i j T.cursor.codes ≡ all_of (bytes_of T) i j own.pieces
  all-is i j = ap (bytes_within (bytes_of T) i j) content-is ∙ content-bytes (bytes_of T) i j (bytes_of T) own.pieces own.content.in_order

  pub text-front : (i j k : ℕ) → i ≤ j → j ≤ k → IsFrontOf (text_between (setting_in T) i j) (text_between (setting_in T) i k)
  text-front i j k ij jk = by (rules (setting_in T)).labels_by_text
    where
      by : (b : Bool) → IsFrontOf (if b then bytes_within (bytes_of T) i j T.cursor.codes else slice_range (bytes_of T) i j) (if b then bytes_within (bytes_of T) i k T.cursor.codes else slice_range (bytes_of T) i k)
      by true =
          let f = front-of-all (bytes_of T) i k j ij jk (bytes_of T) own.pieces own.content.in_order in
          (f.0, all-is i k ∙ f.1 ∙ ap (λ ys. ys ++ f.0) (sym (all-is i j)))
      by false = (slice_range (bytes_of T) j k, sym (range-seam (bytes_of T) i j k ij jk))

  pub text-utf8 : (i j : ℕ) → AreCuts (bytes_of T) i j → IsUtf8 (text_between (setting_in T) i j)
  text-utf8 i j cuts = by (rules (setting_in T)).labels_by_text
    where
      by : (b : Bool) → IsUtf8 (if b then bytes_within (bytes_of T) i j T.cursor.codes else slice_range (bytes_of T) i j)
      by true = subst IsUtf8 (sym (all-is i j)) (all-text (bytes_of T) cuts.text i j cuts.first cuts.last own.pieces own.content.between_characters)
      by false = range-text (bytes_of T) cuts.text i j cuts.first cuts.last

  -- the identifier of a front begins that of the whole
  pub name-front : (i j k : ℕ) → AreCuts (bytes_of T) i j → j ≤ k → IsFrontOf (name_between (setting_in T) i j) (name_between (setting_in T) i k)
  name-front i j k cuts jk =
      let replaced : Bool = (rules (setting_in T)).nul_is_replaced in
      let f = text-front i j k cuts.in_order jk in
      let u : IsUtf8 (text_between (setting_in T) i j) = text-utf8 i j cuts in
      let parts : read_text replaced (text_between (setting_in T) i k) ≡ read_text replaced (text_between (setting_in T) i j) ++ read_text replaced f.0 =
      ap (read_text replaced) f.1 ∙ read-append replaced (text_between (setting_in T) i j) f.0 u in
      subst (λ ys. IsFrontOf (name_between (setting_in T) i j) (identifier_of ys)) (sym parts)
      (identifier-front (read_text replaced (text_between (setting_in T) i j)) (read_text replaced f.0) (read-utf8 replaced (text_between (setting_in T) i j) u))

  -- what no name begins like is no name
  pub unknown-from : (kind : LabelKind) (front : List ℕ) (i j k : ℕ) → AreCuts (bytes_of T) i j → j ≤ k → front ≡ name_between (setting_in T) i j →
      begins_defined (setting_in T) kind front ≡ false → IsUnknown (setting_in T) kind (name_between (setting_in T) i k)
  unknown-from kind front i j k cuts jk e h =
      unknown-by (setting_in T) kind front (name_between (setting_in T) i k)
      (subst (λ f. IsFrontOf f (name_between (setting_in T) i k)) (sym e) (name-front i j k cuts jk)) h
