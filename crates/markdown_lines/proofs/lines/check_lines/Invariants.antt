use Rattle.markdown_lines.proofs.StartsInOrder.{AreChecked}
use Rattle.markdown_lines.proofs.lines.check_lines.Given as goal

abbrev pub invariant-loop-number : goal.invariant-loop-number
invariant-loop-number l = AreChecked l.bytes l.starts l.number l.before
