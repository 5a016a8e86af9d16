use Rattle.std.proofs.Common.{◌≤◌, length, arith}
use Rattle.markdown_block_line.proofs.LinesOfDocument.{line-within}
use Rattle.markdown_block_line.proofs.document.line_at.Goals as goal

pub slice_bounds-result-end : goal.slice_bounds-result-end
slice_bounds-result-end c =
    let w = line-within c.args.bytes.now c.args.start c.in-Some.stop _ c.in-Some.ensures in
    let order : c.args.start.index ≤ c.in-Some.stop.index = w.0 in
    let within : c.in-Some.stop.index ≤ length c.args.bytes.now = w.1 in
    omega arith
