use Rattle.std.proofs.Common.{◌≡◌, ◌∙◌, ◌-◌, suc, sym, arith}
use Rattle.markdown_block_line.specs.LineValues.{is_row_value}
use Rattle.markdown_block_line.proofs.RestValues.{end-less, end-whole, end-none}
use Rattle.markdown_block_line.proofs.line.len_before.Goals as goal

pub returns-then-not-is_row_value-clause-same : goal.returns-then-not-is_row_value-clause-same
returns-then-not-is_row_value-clause-same c =
    let k : suc (c.loop-len.len - 1) ≡ c.loop-len.len = omega arith in
    sym (end-whole (is_row_value c.args.value) c.args.line.now c.loop-len.len (c.loop-len.len - 1) _ k c.loop-len.invariant.within (sym c.is_row_value.ensures ∙ c.if-not-is_row_value.true)) ∙ c.loop-len.invariant.same

pub loop-len-preserved : goal.loop-len-preserved
loop-len-preserved c =
    let k : suc (c.loop-len.len - 1) ≡ c.loop-len.len = omega arith in
    record {
      within = omega (arith, c.loop-len.invariant.within);
      same = sym (end-less (is_row_value c.args.value) c.args.line.now c.loop-len.len (c.loop-len.len - 1) _ k c.loop-len.invariant.within (sym c.is_row_value.ensures ∙ c.if-not-is_row_value.false)) ∙ c.loop-len.invariant.same;
    }

pub returns-clause-same : goal.returns-clause-same
returns-clause-same c = sym (end-none (is_row_value c.args.value) c.args.line.now c.loop-len.len c.loop-len-test.false) ∙ c.loop-len.invariant.same
