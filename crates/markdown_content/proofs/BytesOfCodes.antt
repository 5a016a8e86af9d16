-- Where each code of a content is one byte.
use Rattle.std.proofs.Common.{◌≡◌, ◌≢◌, ℕ, suc, ◌+◌, ◌-◌, ◌<◌, ◌≤◌, ◌==◌, ◌&&◌, nat_lt, Bool, true, false, if◌then◌else◌, List, [], ◌∷◌, ◌++◌, append-nil, length, drop, take, filter, get_or, map, inl, inr, refl, sym, ap, ◌∙◌, arith}
use Rattle.std.specs.List.{slice_range}
use Rattle.std.proofs.lemmas.Bool.{cases_Bool, cases_lt, eq-eqb}
use Rattle.std.proofs.lemmas.Bool.Decides.{nat_tests}
use Rattle.std.proofs.lemmas.List.{drop_more, get_or-drop, get_or-take, length-drop, length-take-le}
use Rattle.memchr.specs.Find.{Nowhere, Passes, is_byte2}
use Rattle.markdown_event.specs.declared.event.Point.{Point}
use Rattle.markdown_content.specs.declared.parser.Piece.{Piece}
use Rattle.markdown_content.specs.Codes.{Code, codes_of, is_code_before, is_line_ending_byte, line_ending_len, place_of, point_at, tab_value}
use Rattle.markdown_content.specs.Content.{are_pieces, content_of, piece_codes}
use Rattle.markdown_content.specs.ContentBytes.{AreBytes}
use Rattle.markdown_content.specs.DocumentWalk.{codes_after, IsPoint}
use Rattle.markdown_content.proofs.PlaceOrder.{is_before}
use Rattle.markdown_content.proofs.AdjacentCodes.{cons≢nil, head_same, tail_same}
use Rattle.markdown_content.proofs.DocumentCodes.{code_here, stop_at, value_at, HasPlaceNumbers}
use Rattle.markdown_content.proofs.DocumentPlaces.{stands-point, stands-there, there, IsThere}
use Rattle.markdown_content.proofs.ContentCodes.{none-before, piece-codes-is, piece_row, IsPieceRow}
use Rattle.markdown_content.proofs.CodesBetween.{codes_to, first-to, to-cases, IsFirstTo}

abbrev values : List Code → List ℕ
values cs = map (λ (c : Code). c.value) cs

-- no byte of a range is a tab or a carriage return
abbrev pub AreAlone : List ℕ → ℕ → ℕ → Type 0
AreAlone bytes from to = (i : ℕ) → from ≤ i → i < to → (get_or bytes i 0 ≢ 9) × (get_or bytes i 0 ≢ 13)

-- what a search of the range tells
pub alone : (bytes : List ℕ) (from to : ℕ) → from ≤ to → to ≤ length bytes →
    Nowhere (Passes (is_byte2 9 13) (slice_range bytes from to)) 0 (length (slice_range bytes from to)) → AreAlone bytes from to
alone bytes from to order within none i low high =
    let size : length (slice_range bytes from to) ≡ to - from =
    length-take-le (to - from) (drop from bytes) (omega (arith, length-drop from bytes, order, within)) in
    let at : from + (i - from) ≡ i = omega (arith, low) in
    let same : get_or (slice_range bytes from to) (i - from) 0 ≡ get_or bytes i 0 =
    get_or-take (to - from) (drop from bytes) (i - from) 0 (omega (arith, low, high)) ∙ get_or-drop from bytes (i - from) 0 ∙ ap (λ j. get_or bytes j 0) at in
    let other : Passes (is_byte2 9 13) (slice_range bytes from to) (i - from) → ⊥ = none (i - from) (omega arith) (omega (arith, size, low, high)) in
    (λ e. other (either 9 (same ∙ e)), λ e. other (or-other (same ∙ e)))
  where
    either : {x : ℕ} (n : ℕ) → x ≡ 9 → is_byte2 9 13 x ≡ true
    either n e = grind (arith, nat_tests)

    or-other : {x : ℕ} → x ≡ 13 → is_byte2 9 13 x ≡ true
    or-other e = grind (arith, nat_tests)

-- One code.

-- the code at a place is the byte there, and it ends behind it
record IsByteAlone (bytes : List ℕ) (p : Point) : Type 0 where
  value : value_at bytes p ≡ get_or bytes p.index 0
  index : (stop_at bytes p).index ≡ p.index + 1
  vs : (stop_at bytes p).vs ≡ 0

ending-len : (b : ℕ) (bs : List ℕ) → b ≢ 13 → line_ending_len b bs ≡ 1
ending-len b [] other = refl
ending-len b (c ∷ cs) other = grind (arith, nat_tests)

is-byte : (bytes : List ℕ) (p : Point) → get_or bytes p.index 0 ≢ 9 → get_or bytes p.index 0 ≢ 13 → IsByteAlone bytes p
is-byte bytes p tab return = by-test (is_line_ending_byte (get_or bytes p.index 0)) refl
  where
    by-test : (t : Bool) → is_line_ending_byte (get_or bytes p.index 0) ≡ t → IsByteAlone bytes p
    by-test true h = grind (arith, nat_tests, ending-len)
    by-test false h = grind (arith, nat_tests)

up-to : (a b c d : ℕ) → is_before (c, d) (a, b) ≡ false → a ≤ c
up-to a b c d h = grind (arith, nat_tests)

in-order : (a b c d : ℕ) → b ≡ 0 → d ≡ 0 → is_before (a, b) (c, d) ≡ true → a < c
in-order a b c d e f h = grind (arith, nat_tests)

not-in-order : (a b c d : ℕ) → b ≡ 0 → d ≡ 0 → is_before (a, b) (c, d) ≡ false → c ≤ a
not-in-order a b c d e f h = grind (arith, nat_tests)

slice-none : (bytes : List ℕ) (i k : ℕ) → k ≤ i → [] ≡ slice_range bytes i k
slice-none bytes i k h =
    let none : k - i ≡ 0 = omega (arith, h) in sym (ap (λ n. take n (drop i bytes)) none)

slice-first : (bytes : List ℕ) (i k : ℕ) → i < k → k ≤ length bytes → get_or bytes i 0 ∷ slice_range bytes (i + 1) k ≡ slice_range bytes i k
slice-first bytes i k lt within =
    let size : k - i ≡ suc (k - (i + 1)) = omega (arith, lt) in
    sym (ap (λ n. take n (drop i bytes)) size ∙ ap (λ xs. take (suc (k - (i + 1))) xs) (drop_more bytes i 0 (omega (arith, lt, within))))

-- from one place to another
values-to : (bytes : List ℕ) (p q : Point) (cs : List Code) → codes_to bytes p q ≡ cs → IsPoint bytes p → IsPoint bytes q →
    is_before (place_of q) (place_of p) ≡ false → p.vs ≡ 0 → q.vs ≡ 0 → AreAlone bytes p.index q.index →
    AreBytes (slice_range bytes p.index q.index) cs
values-to bytes p q [] e h k l first last all =
    elim (cases_Bool (is_before (place_of p) (place_of q))) [
      | inl before ↦ absurd (cons≢nil (code_here bytes p) (codes_to bytes (stop_at bytes p) q) (sym (first-to bytes p q h k before).codes ∙ e))
      | inr other ↦ slice-none bytes p.index q.index (not-in-order p.index p.vs q.index q.vs first last other)
    ]
values-to bytes p q (c ∷ cs) e h k l first last all =
    elim (cases_Bool (is_before (place_of p) (place_of q))) [
      | inl before ↦
          let f : IsFirstTo bytes p q = first-to bytes p q h k before in
          let o : Point = stop_at bytes p in
          let lt : p.index < q.index = in-order p.index p.vs q.index q.vs first last before in
          let here = all p.index (omega arith) lt in
          let b : IsByteAlone bytes p = is-byte bytes p here.0 here.1 in
          let is : c ≡ code_here bytes p = head_same c (code_here bytes p) cs (codes_to bytes o q) (sym e ∙ f.codes) in
          let rest : codes_to bytes o q ≡ cs = sym (tail_same c (code_here bytes p) cs (codes_to bytes o q) (sym e ∙ f.codes)) in
          let more : AreBytes (slice_range bytes o.index q.index) cs =
          values-to bytes o q cs rest f.point k f.reached b.vs last (λ i low high. all i (omega (arith, low, b.index)) high) in
          ap (λ (d : Code). d.value ∷ values cs) is
          ∙ ap (λ v. v ∷ values cs) b.value
          ∙ ap (λ vs. get_or bytes p.index 0 ∷ vs) more
          ∙ ap (λ i. get_or bytes p.index 0 ∷ slice_range bytes i q.index) b.index
          ∙ slice-first bytes p.index q.index lt (stands-point bytes q k).in_bytes
      | inr other ↦ absurd (cons≢nil c cs (sym e ∙ none-to bytes p q h other))
    ]
  where
    none-to : (bytes : List ℕ) (p q : Point) → IsPoint bytes p → is_before (place_of p) (place_of q) ≡ false → codes_to bytes p q ≡ []
    none-to bytes p q h other = none-before bytes p (place_of q) h other

-- The codes of one piece.

-- a piece lies in the document
pub record LiesIn (bytes : List ℕ) (piece : Piece) : Type 0 where
  pub order : piece.start.0 ≤ piece.end.0
  pub within : piece.end.0 ≤ length bytes

pub lies : (bytes : List ℕ) (piece : Piece) (rest : List Piece) → are_pieces bytes (piece ∷ rest) ≡ true → LiesIn bytes piece
lies bytes piece rest h =
    let row : IsPieceRow bytes piece rest = piece_row bytes piece rest h in
    record {
      order = up-to piece.start.0 piece.start.1 piece.end.0 piece.end.1 row.in_order;
      within = (stands-there bytes piece.end (there bytes piece.end row.end)).0;
    }

pub values-of-piece : (bytes : List ℕ) (piece : Piece) → are_pieces bytes (piece ∷ []) ≡ true → piece.end.1 ≡ 0 →
    AreAlone bytes piece.start.0 piece.end.0 → AreBytes (slice_range bytes piece.start.0 piece.end.0) (content_of bytes (piece ∷ []))
values-of-piece bytes piece h last all =
    let row : IsPieceRow bytes piece [] = piece_row bytes piece [] h in
    let s : IsThere bytes piece.start = there bytes piece.start row.start in
    let t : IsThere bytes piece.end = there bytes piece.end row.end in
    let p : Point = point_at bytes piece.start in
    let q : Point = point_at bytes piece.end in
    let order : is_before (place_of q) (place_of p) ≡ false =
    ap (λ (x : ℕ × ℕ). is_before x (place_of p)) t.place ∙ ap (λ (x : ℕ × ℕ). is_before piece.end x) s.place ∙ row.in_order in
    let codes : piece_codes (codes_of bytes) piece ≡ codes_to bytes p q =
    piece-codes-is bytes piece
    ∙ ap (λ (x : ℕ × ℕ). filter (is_code_before x) (codes_after bytes piece.start)) (sym t.place)
    ∙ ap (λ (x : ℕ × ℕ). filter (is_code_before (place_of q)) (codes_after bytes x)) (sym s.place) in
    let from : p.index ≡ piece.start.0 = ap (λ (x : ℕ × ℕ). x.0) s.place in
    let to : q.index ≡ piece.end.0 = ap (λ (x : ℕ × ℕ). x.0) t.place in
    let end : q.vs ≡ 0 = ap (λ (x : ℕ × ℕ). x.1) t.place ∙ last in
    let alone : AreAlone bytes p.index q.index = λ i low high. all i (omega (arith, low, from)) (omega (arith, high, to)) in
    let start : p.vs ≡ 0 = not-inside bytes p q s.point order end alone in
    ap values (append-nil (piece_codes (codes_of bytes) piece))
    ∙ ap values codes
    ∙ values-to bytes p q (codes_to bytes p q) refl s.point t.point order start end alone
    ∙ ap (λ i. slice_range bytes i q.index) from
    ∙ ap (λ i. slice_range bytes piece.start.0 i) to
  where
    further : (a b c d : ℕ) → is_before (c, d) (a, b) ≡ false → 0 < b → d ≡ 0 → a < c
    further a b c d h k e = grind (arith, nat_tests)

    -- it does not begin inside a tab
    not-inside : (bytes : List ℕ) (p q : Point) → IsPoint bytes p → is_before (place_of q) (place_of p) ≡ false → q.vs ≡ 0 →
        AreAlone bytes p.index q.index → p.vs ≡ 0
    not-inside bytes p q h order end alone =
        elim (cases_lt 0 p.vs) [
          | inl inside ↦ absurd ((alone p.index (omega arith) (further p.index p.vs q.index q.vs order inside end)).0 ((stands-point bytes p h).in_tab inside).1)
          | inr out ↦ omega (arith, out)
        ]

-- a single piece
pub only : (pieces : List Piece) (d : Piece) → length pieces ≡ 1 → pieces ≡ get_or pieces 0 d ∷ []
only [] d h = absurd (omega (arith, h))
only (piece ∷ []) d h = refl
only (piece ∷ next ∷ rest) d h = absurd (omega (arith, h))
