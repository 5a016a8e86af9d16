-- Which codes of a content stand beside a place, by its pieces.
use Rattle.std.proofs.Common.{ℕ, zero, suc, ◌<◌, ◌≤◌, Bool, true, false, not, ◌&&◌, ◌||◌, nat_lt, ◌≡◌, arith, List, [], ◌∷◌, filter, length, get_or, refl, sym, ap, ◌∙◌, inl, inr}
use Rattle.std.specs.List.{list_any}
use Rattle.std.specs.List.Sorted.{IsPartitionPoint, IsPartitionedBy}
use Rattle.std.proofs.Math.Dec.{leb}
use Rattle.std.proofs.lemmas.Bool.{both_ways, cases_Bool, le-ltb, lt-ltb}
use Rattle.std.proofs.lemmas.Bool.Decides.{nat_tests}
use Rattle.std.proofs.lemmas.List.Folds.{list_any-append}
use Rattle.markdown_event.specs.declared.event.Point.{Point}
use Rattle.markdown_content.specs.declared.parser.Piece.{Piece}
use Rattle.markdown_content.specs.Beside.{has_code_before, has_code_behind}
use Rattle.markdown_content.specs.Codes.{Code, codes_of, place_of, point_at, is_code_before}
use Rattle.markdown_content.specs.Content.{IsContent, content_of, piece_codes, are_pieces}
use Rattle.markdown_content.specs.DocumentWalk.{codes_after, IsPoint}
use Rattle.markdown_content.proofs.PlaceOrder.{is_before, before-asym}
use Rattle.markdown_content.proofs.AdjacentCodes.{head_same, tail_same, cons≢nil}
use Rattle.markdown_content.proofs.DocumentCodes.{stop_at, code_here}
use Rattle.markdown_content.proofs.DocumentPlaces.{there, IsThere, there-point, toward, IsToward, same-pair}
use Rattle.markdown_content.proofs.ContentCodes.{none-before, piece_row, IsPieceRow, followed_by, piece-codes-is}
use Rattle.markdown_content.proofs.CodesBetween.{codes_to, IsFirstTo, to-cases}

-- From one place to another by a place between them.
join : (a b c : Bool) → (b ≡ true → a ≡ true) → (c ≡ true → b ≡ true) → ((a && not b) || (b && not c)) ≡ (a && not c)
join true true true h k = refl
join true true false h k = refl
join true false true h k = absurd (both_ways false refl (k refl))
join true false false h k = refl
join false true c h k = absurd (both_ways false refl (h refl))
join false false c h k = refl

and-not : (a : Bool) → (a && not a) ≡ false
and-not true = refl
and-not false = refl

not-twice : (a : Bool) → not (not a) ≡ a
not-twice true = refl
not-twice false = refl

or-none : (a b c : Bool) → b ≡ false → c ≡ false → ((a && not b) || c) ≡ a
or-none true b c h k = rw h refl
or-none false b c h k = k

none-and : (a b : Bool) → b ≡ true → (a && not b) ≡ false
none-and true b h = ap not h
none-and false b h = refl

pub not-past : (k n : ℕ) → leb k n ≡ not (nat_lt n k)
not-past k n = grind (arith, nat_tests)

lt-both : (k n : ℕ) → nat_lt k n ≡ nat_lt (suc k) (suc n)
lt-both k n = grind (arith, nat_tests)

-- A test of places that holds of each place before one of which it holds.
module _ (f : ℕ × ℕ → Bool) (down : (x y : ℕ × ℕ) → is_before y x ≡ false → f y ≡ true → f x ≡ true) where
  -- it holds where a code begins, and not where it ends
  abbrev across : Code → Bool
  across c = f (place_of c.start) && not (f (place_of c.stop))

  -- the same of a piece
  abbrev parted : Piece → Bool
  parted piece = f piece.start && not (f piece.end)

  up : (x y : ℕ × ℕ) → is_before y x ≡ false → f x ≡ false → f y ≡ false
  up x y l h =
      elim (cases_Bool (f y)) [ inl on ↦ absurd (both_ways (f x) h (down x y l on)) | inr off ↦ off ]

  -- one of the codes from a place to another is so where the two places are
  across-between : (bytes : List ℕ) (p q : Point) (cs : List Code) → codes_to bytes p q ≡ cs → IsPoint bytes p → IsPoint bytes q →
      is_before (place_of q) (place_of p) ≡ false → list_any across cs ≡ (f (place_of p) && not (f (place_of q)))
  across-between bytes p q [] e h k l =
      elim (to-cases bytes p q h k l) [
        | inl t ↦ absurd (cons≢nil (code_here bytes p) (codes_to bytes (stop_at bytes p) q) (sym t.codes ∙ e))
        | inr a ↦
            let same : ◌≡◌ {A = ℕ × ℕ} (place_of p) (place_of q) = same-pair p.index p.vs (place_of q) a.index a.vs in
            sym (and-not (f (place_of p))) ∙ ap (λ (x : ℕ × ℕ). f (place_of p) && not (f x)) same
      ]
  across-between bytes p q (c ∷ cs) e h k l =
      elim (cases_Bool (is_before (place_of p) (place_of q))) [
        | inl before ↦
            let s : Point = stop_at bytes p in
            let t : IsToward bytes p (place_of q) = toward bytes p (place_of q) h (there-point bytes q k) before in
            elim (to-cases bytes p q h k l) [
              | inl t' ↦
                  let all : code_here bytes p ∷ codes_to bytes s q ≡ c ∷ cs = sym t'.codes ∙ e in
                  let head : code_here bytes p ≡ c = head_same (code_here bytes p) c (codes_to bytes s q) cs all in
                  let rest : codes_to bytes s q ≡ cs = tail_same (code_here bytes p) c (codes_to bytes s q) cs all in
                  let next : list_any across cs ≡ (f (place_of s) && not (f (place_of q))) = across-between bytes s q cs rest t'.point k t'.reached in
                  (λ i. across (sym head i) || next i)
                  ∙ join (f (place_of p)) (f (place_of s)) (f (place_of q))
                  (down (place_of p) (place_of s) (before-asym (place_of p) (place_of s) t.next.later)) (down (place_of s) (place_of q) t'.reached)
              | inr a ↦ absurd (cons≢nil c cs (sym e ∙ a.none))
            ]
        | inr off ↦
            elim (to-cases bytes p q h k l) [
              | inl t' ↦ absurd (both_ways (is_before (place_of p) (place_of q)) off (first-before bytes p q h k off t'))
              | inr a ↦ absurd (cons≢nil c cs (sym e ∙ a.none))
            ]
      ]
    where
      first-before : (bytes : List ℕ) (p q : Point) → IsPoint bytes p → IsPoint bytes q → is_before (place_of p) (place_of q) ≡ false →
          IsFirstTo bytes p q → is_before (place_of p) (place_of q) ≡ true
      first-before bytes p q h k off t = absurd (cons≢nil (code_here bytes p) (codes_to bytes (stop_at bytes p) q) (sym t.codes ∙ none-before bytes p (place_of q) h off))

  -- one of the codes of a piece is so where the piece is
  piece-across : (bytes : List ℕ) (piece : Piece) (rest : List Piece) → IsPieceRow bytes piece rest →
      list_any across (piece_codes (codes_of bytes) piece) ≡ parted piece
  piece-across bytes piece rest row =
      let s : IsThere bytes piece.start = there bytes piece.start row.start in
      let e : IsThere bytes piece.end = there bytes piece.end row.end in
      let p : Point = point_at bytes piece.start in
      let q : Point = point_at bytes piece.end in
      let codes : codes_to bytes p q ≡ piece_codes (codes_of bytes) piece = (λ i. filter (is_code_before (e.place i)) (codes_after bytes (s.place i))) ∙ sym (piece-codes-is bytes piece) in
      let order : is_before (place_of q) (place_of p) ≡ false = (λ i. is_before (e.place i) (s.place i)) ∙ row.in_order in
      across-between bytes p q (piece_codes (codes_of bytes) piece) codes s.point e.point order ∙ (λ i. f (s.place i) && not (f (e.place i)))

  -- one of the codes of a content is so where one of its pieces is
  content-across : (bytes : List ℕ) (pieces : List Piece) → are_pieces bytes pieces ≡ true →
      list_any across (content_of bytes pieces) ≡ list_any parted pieces
  content-across bytes [] h = refl
  content-across bytes (piece ∷ rest) h =
      let row : IsPieceRow bytes piece rest = piece_row bytes piece rest h in
      list_any-append across (piece_codes (codes_of bytes) piece) (content_of bytes rest)
      ∙ (λ i. piece-across bytes piece rest row i || content-across bytes rest row.others i)

  -- Pieces are in order.

  later-none : (bytes : List ℕ) (piece : Piece) (rest : List Piece) → are_pieces bytes (piece ∷ rest) ≡ true → f piece.end ≡ false →
      list_any parted rest ≡ false
  later-none bytes piece [] h off = refl
  later-none bytes piece (next ∷ more) h off =
      let row : IsPieceRow bytes piece (next ∷ more) = piece_row bytes piece (next ∷ more) h in
      let after : IsPieceRow bytes next more = piece_row bytes next more row.others in
      let start : f next.start ≡ false = up piece.end next.start (followed_by bytes piece next more h).after off in
      let end : f next.end ≡ false = up next.start next.end after.in_order start in
      (λ i. (start i && not (f next.end)) || list_any parted more) ∙ later-none bytes next more row.others end

  earlier-all : (bytes : List ℕ) (piece : Piece) (rest : List Piece) (j : ℕ) (d : Piece) → are_pieces bytes (piece ∷ rest) ≡ true →
      j < length (piece ∷ rest) → f (get_or (piece ∷ rest) j d).end ≡ true → f piece.end ≡ true
  earlier-all bytes piece rest zero d h l on = on
  earlier-all bytes piece [] (suc j) d h l on = absurd (omega (arith, l))
  earlier-all bytes piece (next ∷ more) (suc j) d h l on =
      let row : IsPieceRow bytes piece (next ∷ more) = piece_row bytes piece (next ∷ more) h in
      let after : IsPieceRow bytes next more = piece_row bytes next more row.others in
      let end : f next.end ≡ true = earlier-all bytes next more j d row.others (omega (arith, l)) on in
      down piece.end next.start (followed_by bytes piece next more h).after (down next.start next.end after.in_order end)

  -- so a search by halving finds where the test of ends changes
  pub ends-in-order : (bytes : List ℕ) (pieces : List Piece) → are_pieces bytes pieces ≡ true → IsPartitionedBy (λ (p : Piece). f p.end) pieces
  ends-in-order bytes [] h i j d up_to l on = absurd (omega (arith, l))
  ends-in-order bytes (piece ∷ rest) h zero j d up_to l on = earlier-all bytes piece rest j d h l on
  ends-in-order bytes (piece ∷ rest) h (suc i) zero d up_to l on = absurd (omega (arith, up_to))
  ends-in-order bytes (piece ∷ rest) h (suc i) (suc j) d up_to l on =
      ends-in-order bytes rest (piece_row bytes piece rest h).others i j d (omega (arith, up_to)) (omega (arith, l)) on

  -- and one of the pieces is so where the piece there is
  found : (bytes : List ℕ) (pieces : List Piece) (k : ℕ) (d : Piece) → are_pieces bytes pieces ≡ true →
      ((i : ℕ) → i < k → i < length pieces → f (get_or pieces i d).end ≡ true) →
      (k < length pieces → f (get_or pieces k d).end ≡ false) →
      list_any parted pieces ≡ (nat_lt k (length pieces) && f (get_or pieces k d).start)
  found bytes [] k d h on off = sym (ap (λ b. b && f (get_or [] k d).start) (le-ltb k 0 (omega arith)))
  found bytes (piece ∷ rest) zero d h on off =
      let end : f piece.end ≡ false = off (omega arith) in
      or-none (f piece.start) (f piece.end) (list_any parted rest) end (later-none bytes piece rest h end)
      ∙ sym (ap (λ b. b && f piece.start) (lt-ltb 0 (length (piece ∷ rest)) (omega arith)))
  found bytes (piece ∷ rest) (suc k) d h on off =
      let end : f piece.end ≡ true = on 0 (omega arith) (omega arith) in
      (λ i. none-and (f piece.start) (f piece.end) end i || list_any parted rest)
      ∙ found bytes rest k d (piece_row bytes piece rest h).others (λ i l m. on (suc i) (omega (arith, l)) (omega (arith, m))) (λ l. off (omega (arith, l)))
      ∙ ap (λ b. b && f (get_or rest k d).start) (lt-both k (length rest))

  pub across-found : (bytes : List ℕ) (pieces : List Piece) (k : ℕ) (d : Piece) → IsContent bytes pieces →
      IsPartitionPoint (λ (p : Piece). f p.end ≡ true) (λ (p : Piece). f p.end ≡ false) pieces k →
      list_any across (content_of bytes pieces) ≡ (nat_lt k (length pieces) && f (get_or pieces k d).start)
  across-found bytes pieces k d h point =
      content-across bytes pieces h.in_order
      ∙ found bytes pieces k d h.in_order (λ i l m. point.0 i d (omega arith) l) (λ l. point.1 k d (omega arith) l)

-- The two tests of a place.

lower-index : (a b c d i : ℕ) → is_before (c, d) (a, b) ≡ false → nat_lt c i ≡ true → nat_lt a i ≡ true
lower-index a b c d i l on = grind (arith, nat_tests)

lower-reach : (a b c d i : ℕ) → is_before (c, d) (a, b) ≡ false → not (nat_lt i c) ≡ true → not (nat_lt i a) ≡ true
lower-reach a b c d i l on = grind (arith, nat_tests)

pub before-down : (i : ℕ) (x y : ℕ × ℕ) → is_before y x ≡ false → nat_lt y.0 i ≡ true → nat_lt x.0 i ≡ true
before-down i x y l on = lower-index x.0 x.1 y.0 y.1 i l on

pub behind-down : (i : ℕ) (x y : ℕ × ℕ) → is_before y x ≡ false → not (nat_lt i y.0) ≡ true → not (nat_lt i x.0) ≡ true
behind-down i x y l on = lower-reach x.0 x.1 y.0 y.1 i l on

-- what a search says at the piece that it finds, and where it finds none
at-piece : (k n : ℕ) (a b : Bool) → k < n → a ≡ (nat_lt k n && b) → a ≡ b
at-piece k n a b l h = h ∙ ap (λ t. t && b) (lt-ltb k n l)

past-pieces : (k n : ℕ) (a b : Bool) → n ≤ k → a ≡ (nat_lt k n && b) → nat_lt k n ≡ a
past-pieces k n a b l h = le-ltb k n l ∙ sym (h ∙ ap (λ t. t && b) (le-ltb k n l))

module _ (bytes : List ℕ) (pieces : List Piece) (k : ℕ) (d : Piece) (i : ℕ) (h : IsContent bytes pieces) where
  module _ (point : IsPartitionPoint (λ (p : Piece). nat_lt p.end.0 i ≡ true) (λ (p : Piece). nat_lt p.end.0 i ≡ false) pieces k) where
    before-searched : has_code_before (content_of bytes pieces) i ≡ (nat_lt k (length pieces) && nat_lt (get_or pieces k d).start.0 i)
    before-searched = across-found (λ x. nat_lt x.0 i) (before-down i) bytes pieces k d h point

    pub before-in : k < length pieces → has_code_before (content_of bytes pieces) i ≡ nat_lt (get_or pieces k d).start.0 i
    before-in l = at-piece k (length pieces) _ _ l before-searched

    pub before-out : length pieces ≤ k → nat_lt k (length pieces) ≡ has_code_before (content_of bytes pieces) i
    before-out l = past-pieces k (length pieces) _ _ l before-searched

  module _ (point : IsPartitionPoint (λ (p : Piece). not (nat_lt i p.end.0) ≡ true) (λ (p : Piece). not (nat_lt i p.end.0) ≡ false) pieces k) where
    behind-searched : has_code_behind (content_of bytes pieces) i ≡ (nat_lt k (length pieces) && not (nat_lt i (get_or pieces k d).start.0))
    behind-searched =
        (λ j. list_any (λ (c : Code). not (nat_lt i c.start.index) && sym (not-twice (nat_lt i c.stop.index)) j) (content_of bytes pieces))
        ∙ across-found (λ x. not (nat_lt i x.0)) (behind-down i) bytes pieces k d h point

    pub behind-in : k < length pieces → has_code_behind (content_of bytes pieces) i ≡ not (nat_lt i (get_or pieces k d).start.0)
    behind-in l = at-piece k (length pieces) _ _ l behind-searched

    pub behind-out : length pieces ≤ k → nat_lt k (length pieces) ≡ has_code_behind (content_of bytes pieces) i
    behind-out l = past-pieces k (length pieces) _ _ l behind-searched
