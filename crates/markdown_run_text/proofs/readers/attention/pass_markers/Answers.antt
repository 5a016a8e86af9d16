use Rattle.std.proofs.Common.{sym, ◌∙◌, arith}
use Rattle.markdown_run_text.proofs.AttentionReads.{run-code, run-goes, run-less, run-stops}
use Rattle.markdown_run_text.proofs.readers.attention.pass_markers.Goals as goal

pub consume-requires : goal.consume-requires
consume-requires c = run-code c.args.marker c.loop-cursor.cursor (sym c.is_at.ensures ∙ c.loop-cursor-test.true)

pub loop-cursor-smaller : goal.loop-cursor-smaller
loop-cursor-smaller c = grind (arith, run-less, c.consume.ensures, c.is_at.ensures, c.loop-cursor-test.true)

pub loop-cursor-preserved : goal.loop-cursor-preserved
loop-cursor-preserved c = grind (arith, run-goes, c.consume.ensures, c.is_at.ensures, c.loop-cursor-test.true, c.loop-cursor.invariant)

pub returns : goal.returns
returns c = grind (arith, run-stops, c.is_at.ensures, c.loop-cursor-test.false, c.loop-cursor.invariant)
