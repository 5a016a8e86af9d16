-- A text content ends with its last code.
use Rattle.std.proofs.Common.{◌≡◌, ◌≢◌, ℕ, suc, ◌+◌, Bool, true, false, ◌&&◌, ◌||◌, not, if◌then◌else◌, Some, None, List, [], ◌∷◌, drop, slice_get, add-one, refl, sym, ap, subst, ◌∙◌}
use Rattle.std.proofs.lemmas.Bool.{both_ways}
use Rattle.markdown_content.specs.Codes.{Code, is_line_ending, is_blank, place_of, point_at, stop_of, document_start}
use Rattle.markdown_content.specs.Content.{IsContent, IsTextContent, content_of, content_end, has_no_blank_line, is_text_codes}
use Rattle.markdown_content.specs.PlaceInDocument.{IsStanding, is_open, followed}
use Rattle.markdown_event.specs.declared.event.Point.{Point}
use Rattle.markdown_content.specs.declared.parser.Piece.{Piece}
use Rattle.markdown_content.proofs.CursorInvariant.{IsOpenStanding, open-standing, closed-standing, standing-next}
use Rattle.markdown_content.proofs.ContentCodes.{open-row, line-last}
use Rattle.markdown_content.proofs.DocumentCodes.{stop_at, code_here}
use Rattle.markdown_plan.proofs.ContentCharacters.{Reached, reached, none-some, same-code}

-- after a code that is no line ending, the next one stands in the same piece
follows-on : (bytes : List ℕ) (pieces left : List Piece) (k n : ℕ) (p : Point) → IsStanding bytes pieces left p n → is_open (place_of p) left ≡ true → is_line_ending (code_here bytes p) ≡ false
    → (followed bytes k (stop_at bytes p) left).1 ≡ stop_at bytes p
follows-on bytes pieces [] k n p s o e = refl
follows-on bytes pieces (piece ∷ []) k n p s o e = refl
follows-on bytes pieces (piece ∷ next ∷ more) k n p s o e = by_open (is_open (place_of (stop_at bytes p)) (piece ∷ [])) refl
  where
    by_open : (b : Bool) → is_open (place_of (stop_at bytes p)) (piece ∷ []) ≡ b →
        (let f : ℕ × Point = if b then (k, stop_at bytes p) else (k + 1, point_at bytes next.start) in f.1 ≡ stop_at bytes p)
    by_open true h = refl
    by_open false h =
        absurd (both_ways _ e (line-last bytes p piece next more (open-row bytes p piece (next ∷ more) s.is_point s.in_order s.within o) s.line h))

-- behind the last code, where that is no line ending, the content ends
last-stop : (bytes : List ℕ) (pieces : List Piece) (n : ℕ) (c : Code) → IsContent bytes pieces → slice_get (content_of bytes pieces) n ≡ Some c → slice_get (content_of bytes pieces) (suc n) ≡ None → is_line_ending c ≡ false
    → content_end bytes pieces ≡ c.stop
last-stop bytes pieces n c content e last plain =
    let r : Reached bytes pieces n = reached bytes pieces content n c e in
    let here : IsOpenStanding bytes pieces r.point n = open-standing bytes pieces (drop r.piece pieces) r.point n r.standing r.opens in
    let same : code_here bytes r.point ≡ c = same-code _ _ _ here.code e in
    let f : ℕ × Point = followed bytes r.piece (stop_at bytes r.point) (drop r.piece pieces) in
    let s : IsStanding bytes pieces (drop f.0 pieces) f.1 (suc n) = subst (λ m. IsStanding bytes pieces (drop f.0 pieces) f.1 m) (add-one n) (standing-next bytes pieces r.point n r.piece r.standing r.opens) in
    sym (at-end f.0 f.1 s (is_open (place_of f.1) (drop f.0 pieces)) refl)
    ∙ follows-on bytes pieces (drop r.piece pieces) r.piece n r.point r.standing r.opens (ap (λ (x : Code). is_line_ending x) same ∙ plain)
    ∙ ap (λ (x : Code). x.stop) same
  where
    at-end : (k : ℕ) (q : Point) → IsStanding bytes pieces (drop k pieces) q (suc n) → (b : Bool) →
        is_open (place_of q) (drop k pieces) ≡ b → q ≡ content_end bytes pieces
    at-end k q s true o = absurd (none-some _ _ last (open-standing bytes pieces (drop k pieces) q (suc n) s o).code)
    at-end k q s false o = (closed-standing bytes pieces (drop k pieces) q (suc n) s o).1

-- the last of some codes, which is no line ending where the last line is filled
record HasLast (cs : List Code) : Type 0 where
  number : ℕ
  code : Code
  here : slice_get cs number ≡ Some code
  after : slice_get cs (suc number) ≡ None
  stop : (p : Point) → stop_of p cs ≡ code.stop
  plain : (filled : Bool) → has_no_blank_line filled cs ≡ true → is_line_ending code ≡ false

has-last : (c : Code) (cs : List Code) → HasLast (c ∷ cs)
has-last c [] = record { number = 0; code = c; here = refl; after = refl; stop = λ p. refl; plain = λ filled h. by_test filled (is_line_ending c) refl h }
  where
    by_test : (filled b : Bool) → is_line_ending c ≡ b →
        elim b as (λ _. Bool) [ true ↦ filled && false | false ↦ filled || not (is_blank c) ] ≡ true →
        is_line_ending c ≡ false
    by_test true true e h = cc
    by_test false true e h = cc
    by_test filled false e h = e
has-last c (d ∷ ds) =
    let l : HasLast (d ∷ ds) = has-last d ds in
    record { number = suc l.number; code = l.code; here = l.here; after = l.after; stop = λ p. l.stop c.stop; plain = λ filled h. later l filled (is_line_ending c) h }
  where
    later : (l : HasLast (d ∷ ds)) (filled b : Bool) →
        elim b as (λ _. Bool) [ true ↦ filled && has_no_blank_line false (d ∷ ds) | false ↦ has_no_blank_line (filled || not (is_blank c)) (d ∷ ds) ] ≡ true →
        is_line_ending l.code ≡ false
    later l true true h = l.plain false h
    later l false true h = cc
    later l filled false h = l.plain (filled || not (is_blank c)) h

-- a text content that has codes ends with the last of them
pub content-ends : (bytes : List ℕ) (pieces : List Piece) → IsTextContent bytes pieces → content_of bytes pieces ≢ [] →
    content_end bytes pieces ≡ stop_of document_start (content_of bytes pieces)
content-ends bytes pieces text some = by_codes (content_of bytes pieces) refl some text.is_filled
  where
    by_codes : (cs : List Code) → content_of bytes pieces ≡ cs → cs ≢ [] → is_text_codes cs ≡ true →
        content_end bytes pieces ≡ stop_of document_start cs
    by_codes [] e ne filled = absurd (ne refl)
    by_codes (c ∷ cs) e ne filled =
        let l : HasLast (c ∷ cs) = has-last c cs in
        last-stop bytes pieces l.number l.code text.is_content (ap (λ xs. slice_get xs l.number) e ∙ l.here) (ap (λ xs. slice_get xs (suc l.number)) e ∙ l.after) (l.plain false filled)
        ∙ sym (l.stop document_start)
