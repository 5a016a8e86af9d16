use Rattle.markdown_innermost.proofs.LeavesAreStretches.{leaves-are-stretches}
use Rattle.markdown_innermost.proofs.laws.leaves_are_stretches.Goals as goal

pub returns : goal.returns
returns c = leaves-are-stretches
