use Rattle.std.proofs.Common.{◌≡◌, ◌∙◌, ◌-◌, suc, sym, arith}
use Rattle.std.specs.Prelude.{◌==◌}
use Rattle.std.proofs.lemmas.Bool.Decides.{nat_tests}
use Rattle.markdown_block_line.proofs.RestValues.{end-take, end-less, end-whole, end-none}
use Rattle.markdown_block_line.proofs.starts.open_len.Goals as goal

pub returns-then-text-len-ne35-clause-same : goal.returns-then-text-len-ne35-clause-same
returns-then-text-len-ne35-clause-same c = λ cs h.
    let k : suc (c.loop-len.len - 1) ≡ c.loop-len.len = omega arith in
    end-take (λ v. v == 35) cs c.args.text.now c.loop-len.len h
    (sym c.loop-len.invariant.same ∙ end-whole (λ v. v == 35) c.args.text.now c.loop-len.len (c.loop-len.len - 1) 0 k c.loop-len.invariant.within (grind (arith, nat_tests, c.if-text-len-ne35.true)))

pub loop-len-preserved : goal.loop-len-preserved
loop-len-preserved c =
    let k : suc (c.loop-len.len - 1) ≡ c.loop-len.len = omega arith in
    record {
      within = omega (arith, c.loop-len.invariant.within);
      same = sym (end-less (λ v. v == 35) c.args.text.now c.loop-len.len (c.loop-len.len - 1) 0 k c.loop-len.invariant.within (grind (arith, nat_tests, c.if-text-len-ne35.false))) ∙ c.loop-len.invariant.same;
    }

pub returns-clause-same : goal.returns-clause-same
returns-clause-same c = λ cs h.
    end-take (λ v. v == 35) cs c.args.text.now 0 h (sym c.loop-len.invariant.same ∙ end-none (λ v. v == 35) c.args.text.now c.loop-len.len c.loop-len-test.false)
