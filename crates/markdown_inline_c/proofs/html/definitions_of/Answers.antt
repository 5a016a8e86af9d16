use Rattle.std.proofs.Common.{◌≡◌, ◌⊎◌, arith}
use Rattle.std.specs.List.{All}
use Rattle.markdown_html.specs.DefinitionView.{defined_of}
use Rattle.markdown_inline_c.specs.FlatHtml.{IsTarget}
use Rattle.markdown_inline_c.specs.declared.fault.Fault.{Fault}
use Rattle.markdown_inline_c.proofs.Errors.{err_by}
use Rattle.markdown_inline_c.proofs.Targets.{all_defined, not_all, one_more}
use Rattle.markdown_inline_c.proofs.html.definitions_of.Goals as goal

pub loop-at-preserved : goal.loop-at-preserved
loop-at-preserved c =
    one_more c.args.replaced c.args.labels.now c.args.ranges.now c.args.targets.now c.loop-at.found c.push.new.found (defined_of c.in_ok-definition.definition) c.loop-at.at _ _ c.requires.one_each c.loop-at-test.true
    c.loop-at.invariant c.in_ok-definition.ensures.target c.in_ok-definition.ensures.ok c.in_ok-push.ensures

pub returns-clause-targets : goal.returns-clause-targets
returns-clause-targets c =
    (all_defined c.args.replaced c.args.labels.now c.args.ranges.now c.args.targets.now c.loop-at.found c.loop-at.at c.requires.one_each (omega (arith, c.loop-at-test.false)) c.loop-at.invariant).1

pub returns-in_err-definition-clause-err : goal.returns-in_err-definition-clause-err
returns-in_err-definition-clause-err c =
    err_by c.from_residual.result c.in_err-definition.field-0.0
    (λ (fault : Fault). (fault ≡ Fault.Memory) ⊎ ((fault ≡ Fault.Definition) × (All (IsTarget c.args.labels.now) c.args.targets.now → ⊥)))
    c.from_residual.ensures.1
    (not_all c.args.labels.now c.args.targets.now c.loop-at.at _ c.in_err-definition.field-0.0 c.loop-at-test.true c.in_err-definition.ensures.err)
