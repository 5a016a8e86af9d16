use Rattle.std.proofs.Common.{◌∙◌, sym, arith}
use Rattle.markdown_page.proofs.PieceBytes.{piece-blank, piece-not-blank}
use Rattle.markdown_page.proofs.lists.is_blank_piece.Goals as goal

pub returns-then-not-is_space : goal.returns-then-not-is_space
returns-then-not-is_space c =
    piece-not-blank c.args.document.now c.args.piece c.first_byte-start.result c.first_byte-end.result c.loop-index.index c.first_byte-start.ensures.from c.first_byte-end.ensures.from
    c.loop-index.auto.index c.loop-index-test.true (sym c.is_space.ensures ∙ c.if-not-is_space.true)

pub returns : goal.returns
returns c =
    piece-blank c.args.document.now c.args.piece c.first_byte-start.result c.first_byte-end.result c.first_byte-start.ensures.from c.first_byte-end.ensures.from
    (λ k a b. c.loop-index.invariant k a (omega arith))
