use Rattle.std.proofs.Common.{◌∙◌, sym, arith}
use Rattle.markdown_blocks.proofs.TextEndLemmas.{passed-start, passed-less, passed-some, passed-all}
use Rattle.markdown_blocks.proofs.ends.trimmed.Goals as goal

pub loop-index-init : goal.loop-index-init
loop-index-init c = passed-start c.args.document.now c.args.piece c.requires

pub loop-index-preserved : goal.loop-index-preserved
loop-index-preserved c =
    passed-less c.args.document.now c.args.piece.start c.args.piece.end c.loop-index.index _ c.loop-index.invariant (omega (arith, c.loop-index-test.true)) c.loop-index-test.true (sym c.is_space.ensures ∙ c.if-not-is_space.false)

pub returns-then-not-is_space : goal.returns-then-not-is_space
returns-then-not-is_space c =
    passed-some c.args.document.now c.args.piece c.loop-index.index _ c.loop-index.invariant (omega (arith, c.loop-index-test.true)) c.loop-index-test.true (sym c.is_space.ensures ∙ c.if-not-is_space.true)

pub returns : goal.returns
returns c = passed-all c.args.document.now c.args.piece c.loop-index.index c.loop-index.invariant (omega (arith, c.loop-index-test.false))
