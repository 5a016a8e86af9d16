-- The pieces from a number on.
use Rattle.std.proofs.Common.{ℕ, zero, suc, ◌+◌, ◌<◌, ◌≤◌, Bool, true, false, ◌==◌, ◌≡◌, arith, List, [], ◌∷◌, length, drop, get_or, refl, sym, ap, ◌∙◌, IsTrue}
use Rattle.std.proofs.lemmas.List.{length-drop, drop_more}
use Rattle.std.proofs.lemmas.Bool.{both_ways}
use Rattle.markdown_event.specs.declared.event.Point.{Point}
use Rattle.markdown_content.specs.declared.parser.Piece.{Piece}
use Rattle.markdown_content.specs.Codes.{place_of, point_at, is_at_or_after}
use Rattle.markdown_content.specs.Content.{are_pieces, is_place}
use Rattle.markdown_content.specs.PlaceInDocument.{is_open, followed}
use Rattle.markdown_content.proofs.ContentCodes.{piece_row, forward-row}

pub are-drop : (bytes : List ℕ) (k : ℕ) (pieces : List Piece) → are_pieces bytes pieces ≡ true →
    are_pieces bytes (drop k pieces) ≡ true
are-drop bytes zero pieces h = h
are-drop bytes (suc k) [] h = h
are-drop bytes (suc k) (piece ∷ rest) h = are-drop bytes k rest (piece_row bytes piece rest h).others

last-row : (bytes : List ℕ) (k : ℕ) (p : Point) (row : List Piece) → length row ≤ 1 →
    ◌≡◌ {A = ℕ × Point} (k, p) (followed bytes k p row)
last-row bytes k p [] h = refl
last-row bytes k p (piece ∷ []) h = refl
last-row bytes k p (piece ∷ next ∷ more) h = absurd (omega arith)

pub followed-last : (bytes : List ℕ) (pieces : List Piece) (k : ℕ) (p : Point) → length pieces ≤ k + 1 →
    ◌≡◌ {A = ℕ × Point} (k, p) (followed bytes k p (drop k pieces))
followed-last bytes pieces k p h = last-row bytes k p (drop k pieces) (omega (arith, length-drop k pieces))

open-row-same : (bytes : List ℕ) (k : ℕ) (p : Point) (row : List Piece) → is_open (place_of p) row ≡ true →
    ◌≡◌ {A = ℕ × Point} (k, p) (followed bytes k p row)
open-row-same bytes k p [] h = refl
open-row-same bytes k p (piece ∷ []) h = refl
open-row-same bytes k p (piece ∷ next ∷ more) h = rw h refl

pub followed-open : (bytes : List ℕ) (pieces : List Piece) (k : ℕ) (p : Point) →
    is_open (place_of p) (drop k pieces) ≡ true → ◌≡◌ {A = ℕ × Point} (k, p) (followed bytes k p (drop k pieces))
followed-open bytes pieces k p h = open-row-same bytes k p (drop k pieces) h

-- what stands where another piece follows
pub record IsGoing (bytes : List ℕ) (pieces : List Piece) (k : ℕ) (p : Point) (next : Piece) : Type 0 where
  pub place : IsTrue (is_place bytes next.start)
  pub forward : IsTrue (is_at_or_after (place_of p) next.start)
  pub result : ◌≡◌ {A = ℕ × Point} (k + 1, point_at bytes next.start) (followed bytes k p (drop k pieces))

next-result : (bytes : List ℕ) (k : ℕ) (p : Point) (piece next : Piece) (more : List Piece) →
    is_open (place_of p) (piece ∷ []) ≡ false →
    ◌≡◌ {A = ℕ × Point} (k + 1, point_at bytes next.start) (followed bytes k p (piece ∷ next ∷ more))
next-result bytes k p piece next more h = rw h refl

going-row : (bytes : List ℕ) (pieces : List Piece) (k : ℕ) (p : Point) (piece next : Piece) (more : List Piece) →
    drop k pieces ≡ piece ∷ next ∷ more → are_pieces bytes (drop k pieces) ≡ true →
    is_open (place_of p) (drop k pieces) ≡ false → IsGoing bytes pieces k p next
going-row bytes pieces k p piece next more e h shut =
    let all : are_pieces bytes (piece ∷ next ∷ more) ≡ true = ap (λ (x : List Piece). are_pieces bytes x) (sym e) ∙ h in
    let here : is_open (place_of p) (piece ∷ []) ≡ false = ap (λ (x : List Piece). is_open (place_of p) x) (sym e) ∙ shut in
    record {
      place = (piece_row bytes next more (piece_row bytes piece (next ∷ more) all).others).start;
      forward = forward-row bytes p piece next more all here;
      result = next-result bytes k p piece next more here ∙ ap (λ (x : List Piece). followed bytes k p x) (sym e);
    }

pub going : (bytes : List ℕ) (pieces : List Piece) (k : ℕ) (p : Point) (d : Piece) → k + 1 < length pieces →
    are_pieces bytes pieces ≡ true → is_open (place_of p) (drop k pieces) ≡ false →
    IsGoing bytes pieces k p (get_or pieces (k + 1) d)
going bytes pieces k p d lt h shut =
    let lower : k < length pieces = omega arith in
    let rest : drop (k + 1) pieces ≡ get_or pieces (k + 1) d ∷ drop (k + 1 + 1) pieces = drop_more pieces (k + 1) d lt in
    let both : drop k pieces ≡ get_or pieces k d ∷ get_or pieces (k + 1) d ∷ drop (k + 1 + 1) pieces = drop_more pieces k d lower ∙ ap (λ (x : List Piece). get_or pieces k d ∷ x) rest in
    going-row bytes pieces k p (get_or pieces k d) (get_or pieces (k + 1) d) (drop (k + 1 + 1) pieces) both (are-drop bytes k pieces h) shut

-- a content that has pieces starts at a place
pub first_place : (bytes : List ℕ) (pieces : List Piece) (d : Piece) (r : Bool) → are_pieces bytes pieces ≡ true →
    r ≡ (length pieces == 0) → r ≡ false → IsTrue (is_place bytes (get_or pieces 0 d).start)
first_place bytes [] d r h e k = absurd (both_ways (length {A = Piece} [] == 0) (sym e ∙ k) refl)
first_place bytes (piece ∷ rest) d r h e k = (piece_row bytes piece rest h).start
