-- Codes of a content that stand on a line are part of the document.
use Rattle.std.proofs.Common.{◌≡◌, ◌≢◌, ℕ, true, false, List, [], ◌∷◌, ◌++◌, ◌⊎◌, inl, inr, refl, sym, ap, subst, ◌∙◌, append_assoc, append-nil}
use Rattle.std.specs.List.{list_any}
use Rattle.std.proofs.lemmas.Bool.{both_ways, or_parts, or_from, or_left, or_right}
use Rattle.markdown_content.specs.Codes.{Code, codes_of, document_start, is_line_ending, stop_of}
use Rattle.markdown_content.specs.Content.{content_of, piece_codes, are_pieces, ends_line}
use Rattle.markdown_content.specs.DocumentWalk.{codes_after}
use Rattle.markdown_content.specs.declared.parser.Piece.{Piece}
use Rattle.markdown_content.proofs.AdjacentCodes.{IsChain, before_in, from_in, chain-back, split-at, tail_same, head_same}
use Rattle.markdown_content.proofs.DocumentPlaces.{chain-split, document-split}
use Rattle.markdown_content.proofs.ContentCodes.{piece-codes-is, piece_row, followed_by}
use Rattle.markdown_passes.specs.TrimmedEvents.{AreDocumentCodes}
use Rattle.markdown_model.specs.CodeLines.{IsLine, IsOnLine}
use Rattle.markdown_innermost.specs.OneLineLeaves.{IsIn}

-- Two ways to cut a list.

-- the first part ends within the other's second, or the other's first part ends within its own second
EndsWithin : (front back other ys : List Code) → Type 0
EndsWithin front back other ys =
    ((more : List Code) × (other ≡ front ++ more) × (back ≡ more ++ ys))
    ⊎ ((c : Code) × (cs : List Code) × (front ≡ other ++ c ∷ cs) × (ys ≡ (c ∷ cs) ++ back))

cut-more : (c d : Code) (front back other ys : List Code) → c ≡ d → EndsWithin front back other ys →
    EndsWithin (c ∷ front) back (d ∷ other) ys
unfolding EndsWithin
cut-more c d front back other ys e (inl (more, h, k)) = inl (more, (λ i. sym e i ∷ h i), k)
cut-more c d front back other ys e (inr (x, xs, h, k)) = inr (x, xs, (λ i. e i ∷ h i), k)

cut : (front back other ys : List Code) → front ++ back ≡ other ++ ys → EndsWithin front back other ys
unfolding EndsWithin
cut [] back other ys e = inl (other, refl, e)
cut (c ∷ front) back [] ys e = inr (c, front, refl, sym e)
cut (c ∷ front) back (d ∷ other) ys e =
    cut-more c d front back other ys (head_same c d (front ++ back) (other ++ ys) e) (cut front back other ys (tail_same c d (front ++ back) (other ++ ys) e))

-- Line endings.

-- a list that ends a line, cut: so does what is left of it
ends-back : (front : List Code) (c : Code) (cs : List Code) → ends_line (front ++ c ∷ cs) ≡ true →
    ends_line (c ∷ cs) ≡ true
ends-back [] c cs h = h
ends-back (d ∷ []) c cs h = h
ends-back (d ∷ e ∷ front) c cs h = ends-back (e ∷ front) c cs h

ends-ending : (cs : List Code) → ends_line cs ≡ true → list_any is_line_ending cs ≡ true
ends-ending [] h = cc
ends-ending (c ∷ []) h = or_left (is_line_ending c) false h
ends-ending (c ∷ d ∷ ds) h = or_right (is_line_ending c) (list_any is_line_ending (d ∷ ds)) (ends-ending (d ∷ ds) h)

-- no line ending stands before the last of these codes
abbrev pub EndsOnLine : List Code → Type 0
EndsOnLine [] = Unit {0}
EndsOnLine (c ∷ []) = Unit {0}
EndsOnLine (c ∷ d ∷ cs) = (is_line_ending c ≡ false) × EndsOnLine (d ∷ cs)

-- so there is none among those in front of one of them
line-front : (xs : List Code) (d : Code) (more : List Code) → EndsOnLine (xs ++ d ∷ more) → IsLine xs
line-front [] d more h = refl
line-front (c ∷ []) d more h = or_from (is_line_ending c) false h.0 refl
line-front (c ∷ x ∷ xs) d more h =
    or_from (is_line_ending c) (list_any is_line_ending (x ∷ xs)) h.0 (line-front (x ∷ xs) d more h.1)

pub line-ends : (xs : List Code) → IsLine xs → EndsOnLine xs
line-ends [] h = tt
line-ends (c ∷ []) h = tt
line-ends (c ∷ d ∷ cs) h =
    let p = or_parts (is_line_ending c) (list_any is_line_ending (d ∷ cs)) h in (p.0, line-ends (d ∷ cs) p.1)

pub on-line-ends : (xs : List Code) → IsOnLine xs → EndsOnLine xs
on-line-ends [] h = absurd h
on-line-ends (c ∷ []) h = tt
on-line-ends (c ∷ d ∷ cs) h = line-ends (c ∷ d ∷ cs) h

pub next-ends : (xs : List Code) (d : Code) → IsLine xs → EndsOnLine (xs ++ d ∷ [])
next-ends [] d h = tt
next-ends (c ∷ []) d h = ((or_parts (is_line_ending c) false h).0, tt)
next-ends (c ∷ x ∷ xs) d h =
    let p = or_parts (is_line_ending c) (list_any is_line_ending (x ∷ xs)) h in (p.0, next-ends (x ∷ xs) d p.1)

-- Codes among those of a list that ends a line, and of those behind it.

nothing-in : (a xs b : List Code) → [] ≡ a ++ (xs ++ b) → xs ≢ [] → ⊥
nothing-in [] [] b e h = h refl
nothing-in [] (x ∷ xs) b e h = cc
nothing-in (d ∷ a) xs b e h = cc

in-rest : (front back a xs b : List Code) (c : Code) (cs : List Code) → ends_line front ≡ true → front ≡ a ++ c ∷ cs →
    EndsOnLine xs → EndsWithin (c ∷ cs) back xs b → IsIn xs front
unfolding EndsWithin
in-rest front back a xs b c cs ends e none (inl ([], h, k)) =
    (a, [], e ∙ ap (λ x. a ++ x) (sym (h ∙ append-nil (c ∷ cs)) ∙ sym (append-nil xs)))
in-rest front back a xs b c cs ends e none (inl (d ∷ more, h, k)) =
    let last : ends_line (c ∷ cs) ≡ true = ends-back a c cs (ap ends_line (sym e) ∙ ends) in
    absurd (both_ways (list_any is_line_ending (c ∷ cs)) (line-front (c ∷ cs) d more (subst EndsOnLine h none)) (ends-ending (c ∷ cs) last))
in-rest front back a xs b c cs ends e none (inr (d, ds, h, k)) = (a, d ∷ ds, e ∙ ap (λ x. a ++ x) h)

in-either : (front back a xs b : List Code) → ends_line front ≡ true → EndsOnLine xs → EndsWithin front back a (xs ++ b) →
    IsIn xs front ⊎ IsIn xs back
unfolding EndsWithin
in-either front back a xs b ends none (inl (more, h, k)) = inr (more, b, k)
in-either front back a xs b ends none (inr (c, cs, h, k)) =
    inl (in-rest front back a xs b c cs ends h none (cut (c ∷ cs) back xs b (sym k)))

-- The codes of a piece are part of the document.

piece-split : (bytes : List ℕ) (piece : Piece) →
    (before : List Code) × (after : List Code) × (codes_of bytes ≡ before ++ (piece_codes (codes_of bytes) piece ++ after))
piece-split bytes piece =
    let front : List Code = before_in piece.start (codes_of bytes) in
    let back : List Code = codes_after bytes piece.start in
    let whole : codes_of bytes ≡ front ++ back = document-split bytes piece.start in
    let chain : IsChain (stop_of document_start front) back = chain-back document_start front back (chain-split bytes front back whole) in
    let parts : back ≡ before_in piece.end back ++ from_in piece.end back = split-at (stop_of document_start front) back piece.end chain in
    (front, from_in piece.end back, whole ∙ ap (λ x. front ++ x) (parts ∙ ap (λ x. x ++ from_in piece.end back) (sym (piece-codes-is bytes piece))))

inner-parts : (before a xs b after : List Code) →
    before ++ ((a ++ (xs ++ b)) ++ after) ≡ (before ++ a) ++ (xs ++ (b ++ after))
inner-parts before a xs b after =
    ap (λ x. before ++ x) (append_assoc a (xs ++ b) after ∙ ap (λ x. a ++ x) (append_assoc xs b after)) ∙ sym (append_assoc before a (xs ++ (b ++ after)))

part-in : (bytes : List ℕ) (piece : Piece) (xs : List Code) → xs ≢ [] → IsIn xs (piece_codes (codes_of bytes) piece) →
    AreDocumentCodes bytes xs
part-in bytes piece xs some (a, b, e) =
    let (before, after, whole) = piece-split bytes piece in
    record { before = before ++ a; after = b ++ after; whole = whole ∙ ap (λ x. before ++ (x ++ after)) e ∙ inner-parts before a xs b after; some = some }

-- codes of a content that follow one another, with no line ending before the last
pub part-of-content : (bytes : List ℕ) (pieces : List Piece) (xs : List Code) → are_pieces bytes pieces ≡ true →
    xs ≢ [] → EndsOnLine xs → IsIn xs (content_of bytes pieces) → AreDocumentCodes bytes xs
part-of-content bytes [] xs order some none (a, b, e) = absurd (nothing-in a xs b e some)
part-of-content bytes (piece ∷ []) xs order some none (a, b, e) =
    part-in bytes piece xs some (a, b, sym (append-nil (piece_codes (codes_of bytes) piece)) ∙ e)
part-of-content bytes (piece ∷ next ∷ more) xs order some none (a, b, e) =
    elim (in-either (piece_codes (codes_of bytes) piece) (content_of bytes (next ∷ more)) a xs b (followed_by bytes piece next more order).ends none (cut (piece_codes (codes_of bytes) piece) (content_of bytes (next ∷ more)) a (xs ++ b) e)) [
      | inl h ↦ part-in bytes piece xs some h
      | inr h ↦ part-of-content bytes (next ∷ more) xs (piece_row bytes piece (next ∷ more) order).others some none h
    ]

-- two parts one after the other, each with what stands before it and behind it
pub both-in : (all a b before after : List Code) → all ≡ before ++ ((a ++ b) ++ after) →
    (all ≡ before ++ (a ++ (b ++ after))) × (all ≡ (before ++ a) ++ (b ++ after))
both-in all a b before after e =
    let first = e ∙ ap (λ x. before ++ x) (append_assoc a b after) in (first, first ∙ sym (append_assoc before a (b ++ after)))
