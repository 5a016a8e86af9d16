use Rattle.std.proofs.Common.{◌∙◌, sym, refl}
use Rattle.markdown_blocks.proofs.PathRows.{row-more}
use Rattle.markdown_blocks.proofs.path.items_at_end.Goals as goal

pub loop-row-preserved : goal.loop-row-preserved
loop-row-preserved c = row-more c.args.containers.now c.loop-row.row _ _ refl c.loop-row.invariant c.loop-row-test.true (sym c.is_item.ensures ∙ c.if-not-is_item.false)
