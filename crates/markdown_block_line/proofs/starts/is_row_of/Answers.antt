use Rattle.std.proofs.Common.{sym, drop}
use Rattle.markdown_block_line.proofs.RestValues.{rest-values}
use Rattle.markdown_block_line.proofs.RestStarts.{row-none, row-some}
use Rattle.markdown_block_line.proofs.starts.is_row_of.Goals as goal

pub returns-then-count-eq0 : goal.returns-then-count-eq0
returns-then-count-eq0 c = λ cs h. sym (row-none c.args.marker c.count_first-count.result cs (c.count_first-count.ensures.count cs h) c.if-count-eq0.true)

pub returns : goal.returns
returns c = λ cs h.
    let k = c.count_first-count.result in
    sym (row-some c.args.marker k cs _ (c.count_first-count.ensures.count cs h) c.if-count-eq0.false (c.is_blank_line.ensures (drop k cs) (rest-values k cs c.args.line.now h)))
