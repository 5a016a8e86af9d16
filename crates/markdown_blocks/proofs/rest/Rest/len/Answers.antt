use Rattle.std.proofs.Common.{ap, arith, length, length-drop}
use Rattle.markdown_block_line.specs.DocumentLines.{line_from}
use Rattle.markdown_block_line.proofs.RestValues.{values-length}
use Rattle.markdown_blocks.proofs.rest.Rest.len.Goals as goal

pub returns : goal.returns
returns c =
    let line = line_from c.self.inside.document.now c.self.inside.start in
    rw (← c.self.view_is) (omega (arith, length-drop c.self.inside.at line, values-length line, ap length c.self.invariant.same))
