use Rattle.std.proofs.Common.{◌≡◌, ℕ, List, [], ◌∷◌, length, get_or, true, map, ap, sym, ◌∙◌, arith}
use Rattle.std.specs.List.{slice_range}
use Rattle.markdown_content.specs.declared.parser.Piece.{Piece}
use Rattle.markdown_content.specs.Codes.{Code}
use Rattle.markdown_content.specs.Content.{are_pieces, content_of}
use Rattle.markdown_content.specs.ContentBytes.{AreBytes}
use Rattle.markdown_content.specs.Place.{Place, start_of_content}
use Rattle.markdown_content.proofs.BytesOfCodes.{alone, lies, LiesIn, only, values-of-piece}
use Rattle.markdown_content.proofs.cursor.Cursor.bytes_of_codes.Goals as goal

pub returns-in-None : goal.returns-in-None
unfolding start_of_content
returns-in-None c =
    let bytes : List ℕ = c.self.inside.bytes.now in
    let pieces : List Piece = c.self.inside.pieces.now in
    let piece : Piece = get_or pieces 0 (record { start = (0, 0); end = (0, 0) }) in
    let one : length pieces ≡ 1 = omega (arith, c.in-len1.len_at_least, c.in-len1.len_below) in
    let is : pieces ≡ piece ∷ [] = only pieces (record { start = (0, 0); end = (0, 0) }) one in
    let row : are_pieces bytes (piece ∷ []) ≡ true = ap (are_pieces bytes) (sym is) ∙ c.self.invariant.0.standing.content.in_order in
    let l : LiesIn bytes piece = lies bytes piece [] row in
    let range : List ℕ = slice_range bytes piece.start.0 piece.end.0 in
    let codes : AreBytes range (content_of bytes (piece ∷ [])) =
    values-of-piece bytes piece row c.if-piece-ne0.false (alone bytes piece.start.0 piece.end.0 l.order l.within c.in-None.ensures) in
    sym (ap (λ (p : Place). map (λ (d : Code). d.value) p.codes) c.self.view_is)
    ∙ ap (λ ps. map (λ (d : Code). d.value) (content_of bytes ps)) is
    ∙ codes
