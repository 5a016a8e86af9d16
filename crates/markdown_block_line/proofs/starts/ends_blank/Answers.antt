use Rattle.std.proofs.Common.{◌≡◌, ◌∙◌, ◌-◌, suc, sym, arith, length}
use Rattle.markdown_block_line.proofs.RestStarts.{ends-none, ends-last}
use Rattle.markdown_block_line.proofs.starts.ends_blank.Goals as goal

pub returns-then-text-eq0 : goal.returns-then-text-eq0
returns-then-text-eq0 c = λ cs h. sym (ends-none cs c.args.text.now h c.if-text-eq0.true)

pub returns : goal.returns
returns c = λ cs h.
    let k : suc (length c.args.text.now - 1) ≡ length c.args.text.now = omega (arith, c.if-text-eq0.false) in
    c.is_blank.ensures ∙ sym (ends-last cs c.args.text.now (length c.args.text.now - 1) _ h k)
