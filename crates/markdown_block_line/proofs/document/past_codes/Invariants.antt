use Rattle.markdown_block_line.proofs.LinesOfDocument.{IsBehind}
use Rattle.markdown_block_line.proofs.document.past_codes.Given as goal

abbrev pub invariant-loop : goal.invariant-loop
invariant-loop l = IsBehind l.bytes l.fn.start l.point l.counter
