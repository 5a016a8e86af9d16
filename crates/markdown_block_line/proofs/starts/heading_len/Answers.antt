use Rattle.std.proofs.Common.{◌≤◌, ◌∙◌, sym, arith, true, false, take, length-take, take-take}
use Rattle.markdown_block_line.proofs.RestValues.{front-values}
use Rattle.markdown_block_line.proofs.RestStarts.{heading-by}
use Rattle.markdown_block_line.proofs.starts.heading_len.Goals as goal

pub returns-then-ends_blank-clause-same : goal.returns-then-ends_blank-clause-same
returns-then-ends_blank-clause-same c = λ cs h.
    let len = c.trimmed_len-len.result in
    let opened = c.open_len-open.result in
    let l : opened ≤ len = omega (arith, c.open_len-open.ensures.within, length-take len c.args.text.now) in
    let m : c.trimmed_len.result ≤ opened = omega (arith, c.trimmed_len.ensures.within, length-take opened c.args.text.now) in
    heading-by cs len opened true (c.trimmed_len-len.ensures.same cs h) l (c.open_len-open.ensures.same (take len cs) (front-values len cs c.args.text.now h))
    (sym (c.ends_blank.ensures (take opened cs) (front-values opened cs c.args.text.now h)) ∙ c.if-ends_blank.true)
    ∙ c.trimmed_len.ensures.same (take opened cs) (front-values opened cs c.args.text.now h) ∙ take-take c.trimmed_len.result opened cs m

pub returns-clause-same : goal.returns-clause-same
returns-clause-same c = λ cs h.
    let len = c.trimmed_len-len.result in
    let opened = c.open_len-open.result in
    let l : opened ≤ len = omega (arith, c.open_len-open.ensures.within, length-take len c.args.text.now) in
    heading-by cs len opened false (c.trimmed_len-len.ensures.same cs h) l (c.open_len-open.ensures.same (take len cs) (front-values len cs c.args.text.now h))
    (sym (c.ends_blank.ensures (take opened cs) (front-values opened cs c.args.text.now h)) ∙ c.if-ends_blank.false)
