use Rattle.std.proofs.Common.{◌∙◌, drop}
use Rattle.markdown_block_line.proofs.RestValues.{rest-values}
use Rattle.markdown_block_line.proofs.HtmlBegins.{block-behind}
use Rattle.markdown_block_line.proofs.html.begins_block_tag.Goals as goal

pub returns : goal.returns
returns c = λ cs h.
    let k = c.slash_len-slash.result in
    c.begins_block_name.ensures (drop k cs) (rest-values k cs c.args.line.now h) ∙ block-behind cs k (c.slash_len-slash.ensures.count cs h)
