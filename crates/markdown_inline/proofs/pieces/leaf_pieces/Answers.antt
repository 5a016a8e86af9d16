use Rattle.std.proofs.Common.{◌≡◌, ◌+◌, ◌++◌, IfOk, sym, ap, subst, ◌∙◌, arith}
use Rattle.markdown_inline.specs.LastPiece.{with_last}
use Rattle.markdown_inline.proofs.LastPieceLemmas.{pieces_from, one-more, none-left}
use Rattle.markdown_inline.proofs.pieces.leaf_pieces.Goals as goal

pub loop-index-preserved : goal.loop-index-preserved
loop-index-preserved c = (
  omega arith,
  c.in_ok-add_leaf.ensures (pieces_from (c.loop-index.index + 1) c.args.events.now)
      ∙ ap (λ ps. c.loop-index.pieces.items ++ with_last c.loop-index.last ps) (sym (one-more c.args.events.now c.loop-index.index _ _ _ c.loop-index.invariant.0 c.len-index-end.ensures c.loop-index-test.true c.at.ensures c.at-in-loop-index.ensures))
      ∙ c.loop-index.invariant.1,
)

pub returns : goal.returns
returns c =
    subst (λ ps. IfOk c.with_last.result (λ pieces. pieces.items ≡ ps))
    (ap (λ ps. c.loop-index.pieces.items ++ with_last c.loop-index.last ps) (sym (none-left c.args.events.now c.loop-index.index _ c.loop-index.invariant.0 c.len-index-end.ensures c.loop-index-test.false))
    ∙ c.loop-index.invariant.1)
    c.with_last.ensures
