use Rattle.std.proofs.Common.{arith}
use Rattle.markdown_content.specs.Place.{start_of_content}
use Rattle.markdown_content.proofs.CodeCounts.{one-of, fewer-than}
use Rattle.markdown_content.proofs.cursor.Cursor.has_fewer.Goals as goal

pub returns : goal.returns
unfolding start_of_content
returns c = grind (arith, one-of, fewer-than)
