use Rattle.markdown_innermost.proofs.LeavesAreStretches.{events-give-content}
use Rattle.markdown_innermost.proofs.laws.events_give_content.Goals as goal

pub returns : goal.returns
returns c = events-give-content
