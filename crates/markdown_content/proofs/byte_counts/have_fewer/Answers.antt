use Rattle.std.proofs.Common.{◌∙◌, ap, arith}
use Rattle.std.proofs.lemmas.Bool.{ltb-true}
use Rattle.markdown_content.proofs.CodeCounts.{hits, counting-start, counting-step, counting-end}
use Rattle.markdown_content.proofs.byte_counts.have_fewer.Goals as goal

pub loop-piece-init : goal.loop-piece-init
loop-piece-init c = counting-start c.args.bytes.now c.args.pieces.now c.args.byte c.args.times c.requires.pieces

pub loop-piece-preserved : goal.loop-piece-preserved
loop-piece-preserved c =
    counting-step c.args.bytes.now c.args.pieces.now (record { start = (0, 0); end = (0, 0) }) c.args.byte c.args.times c.loop-piece.piece-index c.loop-piece.left c.count_between-found.result c.min-to.result c.requires.ink c.loop-piece-test.true (omega (arith, c.if-left-found.false)) c.min-to.ensures (c.count_between-found.ensures ∙ ap (λ i. hits c.args.bytes.now c.args.byte i c.min-to.result) c.min.ensures) c.loop-piece.invariant

pub returns : goal.returns
returns c = λ some. counting-end c.args.bytes.now c.args.pieces.now c.args.byte c.args.times c.loop-piece.piece-index c.loop-piece.left c.loop-piece-test.false (ltb-true 0 c.loop-piece.left some) c.loop-piece.invariant
