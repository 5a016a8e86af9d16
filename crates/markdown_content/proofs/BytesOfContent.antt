-- The bytes of a content between two indexes are those of its pieces.
use Rattle.std.proofs.Common.{ℕ, zero, suc, ◌+◌, ◌-◌, ◌<◌, ◌≤◌, true, false, not, nat_lt, ◌≡◌, arith, List, [], ◌∷◌, ◌++◌, append-nil, filter, flat_map, take, drop, get_or, length, refl, sym, ap, ◌∙◌, inl, inr}
use Rattle.std.specs.Prelude.{max, min, slice_range}
use Rattle.std.proofs.lemmas.Bool.{cases_lt}
use Rattle.std.proofs.lemmas.Grind.{flat_map-append}
use Rattle.std.specs.List.Sorted.{IsPartitionPoint}
use Rattle.std.proofs.lemmas.List.{at_drop_more, drop-drop}
use Rattle.std.proofs.Math.Nat.{max-eq_left, max-eq_right, max-le, min-eq_left, min-eq_right, le-max_left, le-max_right, min-le_left, min-le_right, le-min}
use Rattle.std.proofs.Math.Seq.{take-add}
use Rattle.std.proofs.lemmas.Bool.Decides.{nat_tests}
use Rattle.markdown_event.specs.declared.event.Point.{Point}
use Rattle.markdown_content.specs.declared.parser.Piece.{Piece}
use Rattle.markdown_content.specs.Codes.{Code, codes_of, place_of, point_at, is_code_before}
use Rattle.markdown_content.specs.Content.{IsContent, content_of, piece_codes, are_pieces}
use Rattle.markdown_content.specs.ContentBytes.{bytes_of_code, bytes_within}
use Rattle.markdown_content.specs.DocumentWalk.{codes_after, IsPoint}
use Rattle.markdown_content.proofs.PlaceOrder.{is_before}
use Rattle.markdown_content.proofs.AdjacentCodes.{head_same, tail_same, cons≢nil}
use Rattle.markdown_content.proofs.DocumentCodes.{stop_at, code_here}
use Rattle.markdown_content.proofs.DocumentPlaces.{stands-point, there, IsThere}
use Rattle.markdown_content.proofs.ContentCodes.{piece_row, IsPieceRow, followed_by, piece-codes-is}
use Rattle.markdown_content.proofs.CodesBetween.{codes_to, shape, to-cases}

-- Parts of a list.

module _ {A : Type 0} (xs : List A) where
  -- two parts side by side
  pub range-seam : (i j k : ℕ) → i ≤ j → j ≤ k → slice_range xs i j ++ slice_range xs j k ≡ slice_range xs i k
  range-seam i j k ij jk =
      let sum : k - i ≡ (j - i) + (k - j) = omega arith in
      let there : i + (j - i) ≡ j = omega arith in
      ap (λ ys. slice_range xs i j ++ take (k - j) ys) (ap (λ n. drop n xs) (sym there) ∙ sym (drop-drop (j - i) i xs))
      ∙ sym (take-add (j - i) (k - j) (drop i xs)) ∙ ap (λ n. take n (drop i xs)) (sym sum)

  -- a part that ends where it begins, or before
  pub range-none : (i j : ℕ) → j ≤ i → slice_range xs i j ≡ []
  range-none i j h =
      let none : j - i ≡ 0 = omega arith in
      ap (λ n. take n (drop i xs)) none

  -- what of a part stands from an index to another
  abbrev pub clipped : ℕ → ℕ → ℕ → ℕ → List A
  clipped from to i j = slice_range xs (max from i) (min to j)

  pub clipped-seam : (from to i j k : ℕ) → i ≤ j → j ≤ k → clipped from to i j ++ clipped from to j k ≡ clipped from to i k
  clipped-seam from to i j k ij jk =
      elim (cases_lt from j) [
        | inl low ↦ elim (cases_lt j to) [
          | inl high ↦ inside low high
          | inr past ↦ before low past
        ]
        | inr late ↦ behind late
      ]
    where
      behind : j ≤ from → clipped from to i j ++ clipped from to j k ≡ clipped from to i k
      behind late =
          let ended : min to j ≤ max from i = omega (arith, min-le_right to j, le-max_left from i) in
          ap (λ ys. ys ++ clipped from to j k) (range-none (max from i) (min to j) ended)
          ∙ ap (λ n. slice_range xs n (min to k)) (max-eq_left {n = from} {m = j} late ∙ sym (max-eq_left {n = from} {m = i} (omega arith)))

      before : from < j → to ≤ j → clipped from to i j ++ clipped from to j k ≡ clipped from to i k
      before low past =
          let ended : min to k ≤ max from j = omega (arith, min-le_left to k, le-max_right from j) in
          ap (λ ys. clipped from to i j ++ ys) (range-none (max from j) (min to k) ended) ∙ append-nil (clipped from to i j)
          ∙ ap (λ n. slice_range xs (max from i) n) (min-eq_left {n = to} {m = j} past ∙ sym (min-eq_left {n = to} {m = k} (omega arith)))

      inside : from < j → j < to → clipped from to i j ++ clipped from to j k ≡ clipped from to i k
      inside low high =
          let first : max from i ≤ j = max-le {a = from} {b = i} {k = j} (omega (arith, low)) ij in
          let last : j ≤ min to k = le-min (omega arith) jk in
          (λ n. slice_range xs (max from i) (min-eq_right {n = j} {m = to} (omega arith) n) ++ slice_range xs (max-eq_right {n = from} {m = j} (omega arith) n) (min to k))
          ∙ range-seam (max from i) j (min to k) first last

-- The codes from one place to another.

pub index-order : (a b c d : ℕ) → is_before (c, d) (a, b) ≡ false → a ≤ c
index-order a b c d h = grind (arith, nat_tests)

next-index : (bytes : List ℕ) (p : Point) → IsPoint bytes p → p.index ≤ (stop_at bytes p).index
next-index bytes p h =
    elim (shape bytes p (stands-point bytes p h)) [
      | inl t ↦ omega (arith, t.index)
      | inr t ↦ omega (arith, t.index)
    ]

module _ (text : List ℕ) (from to : ℕ) where
  -- they are all bytes from the one to the other
  bytes-between : (bytes : List ℕ) (p q : Point) (cs : List Code) → codes_to bytes p q ≡ cs → IsPoint bytes p → IsPoint bytes q →
      is_before (place_of q) (place_of p) ≡ false → bytes_within text from to cs ≡ clipped text from to p.index q.index
  bytes-between bytes p q [] e h k l =
      elim (to-cases bytes p q h k l) [
        | inl t ↦ absurd (cons≢nil (code_here bytes p) (codes_to bytes (stop_at bytes p) q) (sym t.codes ∙ e))
        | inr a ↦ sym (range-none text (max from p.index) (min to q.index) (omega (arith, a.index, le-max_right from p.index, min-le_right to q.index)))
      ]
  bytes-between bytes p q (c ∷ cs) e h k l =
      elim (to-cases bytes p q h k l) [
        | inl t ↦
            let s : Point = stop_at bytes p in
            let all : code_here bytes p ∷ codes_to bytes s q ≡ c ∷ cs = sym t.codes ∙ e in
            let head : code_here bytes p ≡ c = head_same (code_here bytes p) c (codes_to bytes s q) cs all in
            let rest : codes_to bytes s q ≡ cs = tail_same (code_here bytes p) c (codes_to bytes s q) cs all in
            let next : bytes_within text from to cs ≡ clipped text from to s.index q.index = bytes-between bytes s q cs rest t.point k t.reached in
            (λ i. bytes_of_code text from to (sym head i) ++ next i)
            ∙ clipped-seam text from to p.index s.index q.index (next-index bytes p h) (index-order s.index s.vs q.index q.vs t.reached)
        | inr a ↦ absurd (cons≢nil c cs (sym e ∙ a.none))
      ]

  -- those of a piece
  abbrev pub of_piece : Piece → List ℕ
  of_piece piece = clipped text from to piece.start.0 piece.end.0

  piece-bytes : (bytes : List ℕ) (piece : Piece) (rest : List Piece) → IsPieceRow bytes piece rest →
      bytes_within text from to (piece_codes (codes_of bytes) piece) ≡ of_piece piece
  piece-bytes bytes piece rest row =
      let s : IsThere bytes piece.start = there bytes piece.start row.start in
      let e : IsThere bytes piece.end = there bytes piece.end row.end in
      let p : Point = point_at bytes piece.start in
      let q : Point = point_at bytes piece.end in
      let codes : codes_to bytes p q ≡ piece_codes (codes_of bytes) piece = (λ i. filter (is_code_before (e.place i)) (codes_after bytes (s.place i))) ∙ sym (piece-codes-is bytes piece) in
      let order : is_before (place_of q) (place_of p) ≡ false = (λ i. is_before (e.place i) (s.place i)) ∙ row.in_order in
      bytes-between bytes p q (piece_codes (codes_of bytes) piece) codes s.point e.point order ∙ (λ i. clipped text from to (s.place i).0 (e.place i).0)

  -- those of all pieces, one after another
  pub content-bytes : (bytes : List ℕ) (pieces : List Piece) → are_pieces bytes pieces ≡ true →
      bytes_within text from to (content_of bytes pieces) ≡ flat_map of_piece pieces
  content-bytes bytes [] h = refl
  content-bytes bytes (piece ∷ rest) h =
      let row : IsPieceRow bytes piece rest = piece_row bytes piece rest h in
      flat_map-append (bytes_of_code text from to) (piece_codes (codes_of bytes) piece) (content_of bytes rest)
      ∙ (λ i. piece-bytes bytes piece rest row i ++ content-bytes bytes rest row.others i)

-- Pieces that have none of the bytes.

past : (i n : ℕ) → not (nat_lt i n) ≡ true → n ≤ i
past i n h = grind (arith, nat_tests)

ends_by : (xs : List ℕ) (from to i j : ℕ) → j ≤ from → clipped xs from to i j ≡ []
ends_by xs from to i j h = range-none xs (max from i) (min to j) (omega (arith, h, min-le_right to j, le-max_left from i))

begins_behind : (xs : List ℕ) (from to i j : ℕ) → to ≤ i → clipped xs from to i j ≡ []
begins_behind xs from to i j h = range-none xs (max from i) (min to j) (omega (arith, h, min-le_left to j, le-max_right from i))

module _ (text : List ℕ) (from to : ℕ) where
  abbrev pub all_of : List Piece → List ℕ
  all_of pieces = flat_map (of_piece text from to) pieces

  -- those that end before
  pub earlier-none : (pieces : List Piece) (k : ℕ) (d : Piece) →
      ((i : ℕ) → i < k → i < length pieces → not (nat_lt from (get_or pieces i d).end.0) ≡ true) → all_of (drop k pieces) ≡ all_of pieces
  earlier-none pieces zero d h = refl
  earlier-none [] (suc k) d h = refl
  earlier-none (piece ∷ rest) (suc k) d h =
      earlier-none rest k d (λ i l m. h (suc i) (omega (arith, l)) (omega (arith, m)))
      ∙ ap (λ bs. bs ++ all_of rest) (sym (ends_by text from to piece.start.0 piece.end.0 (past from piece.end.0 (h 0 (omega arith) (omega arith)))))

  -- those behind one that ends behind
  pub later-none : (bytes : List ℕ) (piece : Piece) (rest : List Piece) → are_pieces bytes (piece ∷ rest) ≡ true → to ≤ piece.end.0 → all_of rest ≡ []
  later-none bytes piece [] h l = refl
  later-none bytes piece (next ∷ more) h l =
      let row : IsPieceRow bytes piece (next ∷ more) = piece_row bytes piece (next ∷ more) h in
      let after : IsPieceRow bytes next more = piece_row bytes next more row.others in
      let start : piece.end.0 ≤ next.start.0 = index-order piece.end.0 piece.end.1 next.start.0 next.start.1 (followed_by bytes piece next more h).after in
      let end : next.start.0 ≤ next.end.0 = index-order next.start.0 next.start.1 next.end.0 next.end.1 after.in_order in
      (λ i. begins_behind text from to next.start.0 next.end.0 (omega (arith, l, start)) i ++ later-none bytes next more row.others (omega (arith, l, start, end)) i)

  pub pieces-dropped : (bytes : List ℕ) (pieces : List Piece) (k : ℕ) → are_pieces bytes pieces ≡ true → are_pieces bytes (drop k pieces) ≡ true
  pieces-dropped bytes pieces zero h = h
  pieces-dropped bytes [] (suc k) h = refl
  pieces-dropped bytes (piece ∷ rest) (suc k) h = pieces-dropped bytes rest k (piece_row bytes piece rest h).others

  -- a row of pieces of which the first begins behind
  pub row-none : (bytes : List ℕ) (piece : Piece) (rest : List Piece) → are_pieces bytes (piece ∷ rest) ≡ true → to ≤ piece.start.0 → all_of (piece ∷ rest) ≡ []
  row-none bytes piece rest h l =
      let row : IsPieceRow bytes piece rest = piece_row bytes piece rest h in
      let end : piece.start.0 ≤ piece.end.0 = index-order piece.start.0 piece.start.1 piece.end.0 piece.end.1 row.in_order in
      (λ i. begins_behind text from to piece.start.0 piece.end.0 l i ++ later-none bytes piece rest h (omega (arith, l, end)) i)

  -- a row of pieces of which the first has all of them
  row-whole : (bytes : List ℕ) (piece : Piece) (rest : List Piece) → are_pieces bytes (piece ∷ rest) ≡ true → piece.start.0 ≤ from → to ≤ piece.end.0 →
      all_of (piece ∷ rest) ≡ slice_range text from to
  row-whole bytes piece rest h low high =
      (λ i. slice_range text (max-eq_left {n = from} {m = piece.start.0} low i) (min-eq_left {n = to} {m = piece.end.0} high i) ++ later-none bytes piece rest h high i)
      ∙ append-nil (slice_range text from to)

  -- so where a search by halving finds that piece
  pub whole-found : (bytes : List ℕ) (pieces : List Piece) (k : ℕ) (d : Piece) → IsContent bytes pieces →
      IsPartitionPoint (λ (p : Piece). not (nat_lt from p.end.0) ≡ true) (λ (p : Piece). not (nat_lt from p.end.0) ≡ false) pieces k →
      k < length pieces → (get_or pieces k d).start.0 ≤ from → to ≤ (get_or pieces k d).end.0 →
      bytes_within text from to (content_of bytes pieces) ≡ slice_range text from to
  whole-found bytes pieces k d h point l low high =
      let split : drop k pieces ≡ get_or pieces k d ∷ drop (k + 1) pieces = at_drop_more (λ xs. xs) pieces k d l in
      let row : are_pieces bytes (get_or pieces k d ∷ drop (k + 1) pieces) ≡ true = ap (are_pieces bytes) (sym split) ∙ pieces-dropped bytes pieces k h.in_order in
      content-bytes text from to bytes pieces h.in_order
      ∙ sym (earlier-none pieces k d (λ i l m. point.0 i d (omega arith) l))
      ∙ ap all_of split ∙ row-whole bytes (get_or pieces k d) (drop (k + 1) pieces) row low high

  -- and where a row from some piece on begins behind
  pub row-dropped : (bytes : List ℕ) (pieces : List Piece) (k : ℕ) (d : Piece) → are_pieces bytes pieces ≡ true → k < length pieces →
      to ≤ (get_or pieces k d).start.0 → all_of (drop k pieces) ≡ []
  row-dropped bytes pieces k d h l behind =
      let split : drop k pieces ≡ get_or pieces k d ∷ drop (k + 1) pieces = at_drop_more (λ xs. xs) pieces k d l in
      let row : are_pieces bytes (get_or pieces k d ∷ drop (k + 1) pieces) ≡ true = ap (are_pieces bytes) (sym split) ∙ pieces-dropped bytes pieces k h in
      ap all_of split ∙ row-none bytes (get_or pieces k d) (drop (k + 1) pieces) row behind
