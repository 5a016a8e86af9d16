use Rattle.std.proofs.Common.{arith, take_all, subst, List}
use Rattle.std.specs.List.{All}
use Rattle.markdown_inline_c.specs.FlatInput.{IsLabelRange}
use Rattle.markdown_inline_c.specs.declared.flat.Range.{Range}
use Rattle.std.proofs.lemmas.List.Elements.{All-more}
use Rattle.markdown_inline_c.proofs.InTurn.{first_other}
use Rattle.markdown_inline_c.proofs.contents.first_no_label.Goals as goal

pub loop-at-preserved : goal.loop-at-preserved
loop-at-preserved c = All-more (IsLabelRange c.args.labels.now) c.args.ranges.now c.loop-at.at _ c.loop-at-test.true c.loop-at.invariant c.in-Some.ensures.some.1

pub returns-in_default : goal.returns-in_default
returns-in_default c = first_other (IsLabelRange c.args.labels.now) c.args.ranges.now c.loop-at.at _ c.loop-at-test.true c.loop-at.invariant c.in_default.ensures.none

pub returns : goal.returns
returns c =
    subst (λ (xs : List Range). All (IsLabelRange c.args.labels.now) xs) (take_all c.loop-at.at c.args.ranges.now (omega (arith, c.loop-at-test.false))) c.loop-at.invariant
