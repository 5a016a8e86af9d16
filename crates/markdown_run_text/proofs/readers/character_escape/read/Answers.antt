use Rattle.std.proofs.Common.{arith}
use Rattle.markdown_engine.proofs.ReadingSequences.{scratched-same}
use Rattle.markdown_run_text.proofs.EscapeReads.{escape-reads, no-escape}
use Rattle.markdown_run_text.proofs.readers.character_escape.read.Goals as goal

pub returns-then-not-is_here-clause-reads : goal.returns-then-not-is_here-clause-reads
returns-then-not-is_here-clause-reads c = grind (arith, no-escape, scratched-same, c.is_here.ensures, c.if-not-is_here.true)

pub returns-clause-reads : goal.returns-clause-reads
returns-clause-reads c = grind (arith, escape-reads, c.is_here.ensures, c.if-not-is_here.false, c.in_ok-append.ensures.ok)
