-- Known places of a document, and the way from them.
use Rattle.std.proofs.Common.{ℕ, zero, suc, ◌*◌, ◌<◌, Bool, true, false, ◌==◌, ◌≡◌, arith, List, [], ◌∷◌, length, get_or, refl, sym, ap, subst, ◌∙◌, IsTrue}
use Rattle.std.proofs.lemmas.Bool.{both_ways}
use Rattle.std.proofs.lemmas.Bool.Decides.{nat_tests}
use Rattle.markdown_content.specs.declared.content.Stretch.{Stretch}
use Rattle.markdown_event.specs.declared.event.Point.{Point}
use Rattle.markdown_content.specs.declared.parser.Piece.{Piece}
use Rattle.markdown_content.specs.ContentTest.{IsStretchTo}
use Rattle.markdown_content.specs.Codes.{place_of, document_start}
use Rattle.markdown_content.specs.Content.{IsContent, IsTextContent, content_of, is_text_codes}
use Rattle.markdown_content.specs.KnownPlaces.{IsMark, AreMarks, mark_stride, first_place}
use Rattle.markdown_content.specs.Place.{Place, start_of_content}
use Rattle.markdown_content.specs.PlaceInDocument.{first_point}
use Rattle.markdown_content.specs.DocumentWalk.{IsPoint}
use Rattle.markdown_content.proofs.DocumentPlaces.{point_start, there, IsThere}

-- Known places, one after another.

mark-first : (bytes : List ℕ) (k : ℕ) (d : Point) → k < 1 → IsMark bytes (k * mark_stride) (get_or (document_start ∷ []) k d)
mark-first bytes zero d lt = record { is_point = point_start bytes; forward = refl }
mark-first bytes (suc k) d lt = absurd (omega arith)

pub mark-start : (bytes : List ℕ) → IsMark bytes 0 document_start
mark-start bytes = record { is_point = point_start bytes; forward = refl }

pub marks-start : (bytes : List ℕ) → AreMarks bytes (document_start ∷ [])
marks-start bytes = record { some = omega arith; each = λ k d lt. mark-first bytes k d lt }

-- Contents.

codes-start : (bytes : List ℕ) (pieces : List Piece) → (start_of_content bytes pieces).codes ≡ content_of bytes pieces
unfolding start_of_content
codes-start bytes pieces = refl

pub text-is : (bytes : List ℕ) (pieces : List Piece) (p : Place) (r : Bool) → p ≡ start_of_content bytes pieces → r ≡ is_text_codes p.codes → IsContent bytes pieces → (IsTrue r → IsTextContent bytes pieces) × (IsTextContent bytes pieces → IsTrue r)
text-is bytes pieces p r e h k = grind (arith, codes-start)

not-none : (n : ℕ) (r : Bool) → r ≡ (suc n == 0) → r ≡ true → ⊥
not-none n r e k = grind (arith, nat_tests)

pub first-empty : (bytes : List ℕ) (pieces : List Piece) (r : Bool) → r ≡ (length pieces == 0) → r ≡ true → IsPoint bytes document_start × (document_start ≡ first_point bytes pieces) × (place_of document_start ≡ first_place (place_of document_start) pieces)
first-empty bytes [] r e k = (point_start bytes, refl, refl)
first-empty bytes (piece ∷ rest) r e k = absurd (not-none (length rest) r e k)

pub first-some : (bytes : List ℕ) (pieces : List Piece) (d : Piece) (r : Bool) (p : Point) (s : Stretch) → r ≡ (length pieces == 0) → r ≡ false → IsStretchTo bytes p (get_or pieces 0 d).start s → IsPoint bytes s.point × (s.point ≡ first_point bytes pieces) × (place_of s.point ≡ first_place (place_of s.point) pieces)
first-some bytes [] d r p s e k h = absurd (both_ways (length {A = Piece} [] == 0) (sym e ∙ k) refl)
first-some bytes (piece ∷ rest) d r p s e k h =
    let t : IsThere bytes piece.start = there bytes piece.start h.place in
    (subst (λ (x : Point). IsPoint bytes x) (sym h.point) t.point, h.point, ap (λ (x : Point). place_of x) h.point ∙ t.place)
