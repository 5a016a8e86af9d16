use Rattle.std.proofs.Common.{◌≡◌, ◌-◌, ◌≤◌, suc, arith, drop}
use Rattle.std.proofs.lemmas.Bool.Decides.{nat_tests}
use Rattle.markdown_block_line.specs.LineValues.{count_value}
use Rattle.markdown_block_line.proofs.BreakPlaces.{count-more, thrice-here, thrice-nowhere}
use Rattle.markdown_block_line.proofs.breaks.third_last.Goals as goal

pub returns-then-count-eq3-clause-thrice : goal.returns-then-count-eq3-clause-thrice
returns-then-count-eq3-clause-thrice c =
    let at = c.loop-at.at in
    let e : suc (at - 1) ≡ at = omega arith in
    let m = count-more c.args.value c.args.line.now at (at - 1) 0 c.loop-at.count e c.loop-at.invariant.within (grind (arith, nat_tests, c.if-line-at.true)) c.loop-at.invariant.count in
    let t : 3 ≤ count_value c.args.value (drop (at - 1) c.args.line.now) = omega (arith, m, c.if-count-eq3.true) in
    thrice-here c.args.value c.args.line.now at (at - 1) c.loop-at.count e c.loop-at.invariant.count c.loop-at.invariant.few t

pub returns-clause-thrice : goal.returns-clause-thrice
returns-clause-thrice c = thrice-nowhere c.args.value c.args.line.now c.loop-at.at c.loop-at.count c.loop-at-test.false c.loop-at.invariant.count c.loop-at.invariant.few
