use Rattle.std.proofs.Common.{◌∙◌, sym, arith, take_all, subst, List}
use Rattle.std.specs.List.{All}
use Rattle.markdown_inline_c.specs.FlatHtml.{IsTarget}
use Rattle.markdown_inline_c.specs.declared.flat.FlatTarget.{FlatTarget}
use Rattle.std.proofs.lemmas.Bool.{false≢true}
use Rattle.std.proofs.lemmas.List.Elements.{All-more}
use Rattle.markdown_inline_c.proofs.InTurn.{first_other}
use Rattle.markdown_inline_c.proofs.htmls.first_no_target.Goals as goal

pub loop-at-preserved : goal.loop-at-preserved
loop-at-preserved c =
    All-more (IsTarget c.args.labels.now) c.args.targets.now c.loop-at.at _ c.loop-at-test.true c.loop-at.invariant (c.is_target.ensures.0 c.if-not-is_target.false)

pub returns-then-not-is_target : goal.returns-then-not-is_target
returns-then-not-is_target c =
    first_other (IsTarget c.args.labels.now) c.args.targets.now c.loop-at.at _ c.loop-at-test.true c.loop-at.invariant
    (λ t. false≢true (sym c.if-not-is_target.true ∙ c.is_target.ensures.1 t))

pub returns : goal.returns
returns c =
    subst (λ (xs : List FlatTarget). All (IsTarget c.args.labels.now) xs) (take_all c.loop-at.at c.args.targets.now (omega (arith, c.loop-at-test.false))) c.loop-at.invariant
