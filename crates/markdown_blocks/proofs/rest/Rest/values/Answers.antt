use Rattle.markdown_block_line.specs.DocumentLines.{line_from}
use Rattle.markdown_block_line.proofs.RestValues.{rest-values}
use Rattle.markdown_blocks.proofs.rest.Rest.values.Goals as goal

pub returns : goal.returns
returns c = rw (← c.self.view_is) (rest-values c.self.inside.at (line_from c.self.inside.document.now c.self.inside.start) c.self.inside.values.now c.self.invariant.same)
