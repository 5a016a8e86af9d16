use Rattle.std.proofs.Common.{arith}
use Rattle.markdown_inline_c.proofs.Noted.{noted_more}
use Rattle.markdown_inline_c.proofs.found.note_all.Goals as goal

pub loop-at-preserved : goal.loop-at-preserved
loop-at-preserved c =
    noted_more c.args.told.now c.args.array.now c.loop-at.array c.note.new.array c.loop-at.at _ (omega (arith, c.loop-at-test.true)) c.loop-at.invariant c.note.ensures
