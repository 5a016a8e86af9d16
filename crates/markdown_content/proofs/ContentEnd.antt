-- Where a content ends is where its last piece does.
use Rattle.std.proofs.Common.{◌≡◌, ◌∙◌, ap, sym, refl, ℕ, zero, suc, ◌-◌, ◌<◌, ◌==◌, Bool, true, false, List, [], ◌∷◌, length, get_or, arith}
use Rattle.std.proofs.lemmas.Bool.{eqb-true}
use Rattle.markdown_content.specs.declared.parser.Piece.{Piece}
use Rattle.markdown_content.specs.Content.{content_end, are_pieces}
use Rattle.markdown_content.specs.Place.{start_of_content}
use Rattle.markdown_content.proofs.DocumentPlaces.{IsThere, there}
use Rattle.markdown_content.proofs.ContentCodes.{piece_row}

last-end : (bytes : List ℕ) (pieces : List Piece) (d : Piece) → are_pieces bytes pieces ≡ true → 0 < length pieces →
    (get_or pieces (length pieces - 1) d).end.0 ≡ (content_end bytes pieces).index
last-end bytes [] d h some = absurd (omega (arith, some))
last-end bytes (piece ∷ []) d h some =
    let t : IsThere bytes piece.end = there bytes piece.end (piece_row bytes piece [] h).end in
    ap (λ (x : ℕ × ℕ). x.0) (sym t.place)
last-end bytes (piece ∷ next ∷ more) d h some =
    let size : length (piece ∷ next ∷ more) - 1 ≡ suc (length (next ∷ more) - 1) = omega arith in
    ap (λ n. (get_or (piece ∷ next ∷ more) n d).end.0) size ∙ last-end bytes (next ∷ more) d (piece_row bytes piece (next ∷ more) h).others (omega arith)

none : (n : ℕ) (b : Bool) → b ≡ (n == 0) → b ≡ true → n ≡ 0
none n b e h = eqb-true n 0 (sym e ∙ h)

some : (n : ℕ) (b : Bool) → b ≡ (n == 0) → b ≡ false → 0 < n
some zero b e h = cc
some (suc n) b e h = omega arith

pub end-index : (bytes : List ℕ) (pieces : List Piece) (d : Piece) (b : Bool) → are_pieces bytes pieces ≡ true →
    b ≡ (length pieces == 0) → b ≡ false →
    (get_or pieces (length pieces - 1) d).end.0 ≡ (start_of_content bytes pieces).end.index
unfolding start_of_content
end-index bytes pieces d b h e other = last-end bytes pieces d h (some (length pieces) b e other)

pub end-none : (bytes : List ℕ) (pieces : List Piece) (b : Bool) → b ≡ (length pieces == 0) → b ≡ true →
    0 ≡ (start_of_content bytes pieces).end.index
unfolding start_of_content
end-none bytes [] b e h = refl
end-none bytes (piece ∷ more) b e h = absurd (omega (arith, none (length (piece ∷ more)) b e h))
