use Rattle.std.proofs.Common.{ℕ, ◌-◌, ◌≡◌, ◌≤◌, ◌∙◌, ◌∷◌, ◌&&◌, ◌==◌, [], true, false, List, length, take, take_all, drop, get_or, sym, ap, refl, arith, length-take-le, IsTrue}
use borrow.Author.Tests.{eqb-true}
use Rattle.std.proofs.Math.Bool.{and-true}
use Rattle.std.proofs.lemmas.Bool.{and_from}
use Rattle.std.proofs.lemmas.List.{drop_all}
use Rattle.markdown_content.specs.declared.content.Stretch.{Stretch}
use Rattle.markdown_content.specs.declared.parser.Piece.{Piece}
use Rattle.markdown_content.specs.Codes.{is_at_or_after}
use Rattle.markdown_content.specs.Content.{is_piece, are_pieces}
use Rattle.markdown_content.specs.ContentTest.{IsPieceEnd}
use Rattle.markdown_content.specs.KnownPlaces.{first_place}
use Rattle.markdown_content.proofs.PieceTests.{ArePiecesLeft, passing-point, passing-step, passing-stop}
use Rattle.markdown_content.proofs.content.are_pieces_from.Goals as goal

-- The first piece, and the ones after it.

first-forward : (pieces : List Piece) (at : ℕ × ℕ) (d : Piece) → 1 ≤ length pieces →
    IsTrue (is_at_or_after at (first_place at pieces)) → IsTrue (is_at_or_after at (get_or pieces 0 d).start)
first-forward [] at d some h = absurd (omega (arith, some))
first-forward (piece ∷ rest) at d some h = h

first-alone : (bytes : List ℕ) (pieces : List Piece) (d : Piece) → 1 ≤ length pieces →
    (length (take (length pieces - 1) (drop 1 pieces)) == 0) ≡ true →
    is_piece bytes (get_or pieces 0 d) ≡ are_pieces bytes pieces
first-alone bytes [] d some h = absurd (omega (arith, some))
first-alone bytes (piece ∷ []) d some h =
    sym (and-true (is_piece bytes piece && true) ∙ and-true (is_piece bytes piece))
first-alone bytes (piece ∷ next ∷ more) d some h =
    let n : ℕ = length (piece ∷ next ∷ more) - 1 in
    absurd (omega (arith, eqb-true (length (take n (next ∷ more))) 0 h, length-take-le n (next ∷ more) (omega arith)))

first-none : (bytes : List ℕ) (pieces : List Piece) (d : Piece) → 1 ≤ length pieces →
    is_piece bytes (get_or pieces 0 d) ≡ false → false ≡ are_pieces bytes pieces
first-none bytes [] d some h = absurd (omega (arith, some))
first-none bytes (piece ∷ rest) d some h = rw h refl

first-passed : (bytes : List ℕ) (pieces : List Piece) (d : Piece) (s : Stretch) → 1 ≤ length pieces →
    IsPieceEnd bytes (get_or pieces 0 d) s → ArePiecesLeft bytes pieces (take (length pieces - 1) (drop 1 pieces)) s
first-passed bytes [] d s some h = absurd (omega (arith, some))
first-passed bytes (piece ∷ rest) d s some h = record {
  last = piece;
  same = ap (λ (x : List Piece). are_pieces bytes (piece ∷ x)) (take_all (length (piece ∷ rest) - 1) rest (omega arith));
  end = h;
}

last-passed : (bytes : List ℕ) (pieces rest : List Piece) (k : ℕ) (s : Stretch) → length rest ≤ k →
    ArePiecesLeft bytes pieces (drop k rest) s → true ≡ are_pieces bytes pieces
last-passed bytes pieces rest k s past h = grind (arith, drop_all, and_from)

pub is_piece-requires-clause-forward : goal.is_piece-requires-clause-forward
is_piece-requires-clause-forward c =
    first-forward c.args.pieces.now _ (record { start = (0, 0); end = (0, 0) }) c.in-len1-up.len_at_least c.requires.forward

pub returns-then-is_empty : goal.returns-then-is_empty
returns-then-is_empty c =
    cc (first-alone c.args.bytes.now c.args.pieces.now (record { start = (0, 0); end = (0, 0) }) c.in-len1-up.len_at_least (sym c.is_empty.ensures ∙ c.if-is_empty.true))

pub pass_piece-requires-clause-forward : goal.pass_piece-requires-clause-forward
pass_piece-requires-clause-forward c =
    first-forward c.args.pieces.now _ (record { start = (0, 0); end = (0, 0) }) c.in-len1-up.len_at_least c.requires.forward

pub returns-in_default-pass_piece : goal.returns-in_default-pass_piece
returns-in_default-pass_piece c =
    first-none c.args.bytes.now c.args.pieces.now (record { start = (0, 0); end = (0, 0) }) c.in-len1-up.len_at_least c.in_default-pass_piece.ensures

pub loop-piece-init : goal.loop-piece-init
loop-piece-init c =
    first-passed c.args.bytes.now c.args.pieces.now (record { start = (0, 0); end = (0, 0) }) c.in-Some.last c.in-len1-up.len_at_least c.in-Some.ensures

pub pass_next-requires-clause-is_point : goal.pass_next-requires-clause-is_point
pass_next-requires-clause-is_point c =
    passing-point c.args.bytes.now c.args.pieces.now _ c.loop-piece.last c.loop-piece.invariant

pub returns-in_default-pass_next : goal.returns-in_default-pass_next
returns-in_default-pass_next c =
    let rest : List Piece = take (length c.args.pieces.now - 1) (drop 1 c.args.pieces.now) in
    passing-stop c.args.bytes.now c.args.pieces.now rest c.loop-piece.piece-index (record { start = (0, 0); end = (0, 0) }) c.loop-piece.last c.loop-piece-test.true c.loop-piece.invariant c.in_default-pass_next.ensures

pub loop-piece-preserved : goal.loop-piece-preserved
loop-piece-preserved c = grind (arith, passing-step)

pub returns : goal.returns
returns c =
    let rest : List Piece = take (length c.args.pieces.now - 1) (drop 1 c.args.pieces.now) in
    last-passed c.args.bytes.now c.args.pieces.now rest c.loop-piece.piece-index c.loop-piece.last c.loop-piece-test.false c.loop-piece.invariant
