use Rattle.std.proofs.Common.{◌≤◌, ap, subst, sym, ◌∙◌}
use Rattle.markdown_inline.specs.markdown_engine.Operations.{Consume}
use Rattle.markdown_inline.specs.markdown_engine.Weights.{codes_left}
use Rattle.markdown_inline.specs.markdown_engine.declared.tokenizer.Tokenizer.{Tokenizer}
use Rattle.markdown_inline.proofs.markdown_engine.OperationFields.{attempts-applied, scratch-applied}
use Rattle.markdown_inline.proofs.markdown_run.ConstructsAtStart.{past-fits}
use Rattle.markdown_inline.specs.markdown_partial.PartialSpaceOrTab.{most}
use Rattle.markdown_test_runs.proofs.constructs.pass_first.Goals as goal

pub returns-then-is_some-clause-alone : goal.returns-then-is_some-clause-alone
returns-then-is_some-clause-alone c =
    ap (λ (x : Tokenizer). x.attempts) c.consume.ensures ∙ attempts-applied Consume c.args.tokenizer.now

pub returns-then-is_some-clause-rest : goal.returns-then-is_some-clause-rest
returns-then-is_some-clause-rest c =
    ap (λ (x : Tokenizer). x.tokenize_state) c.consume.ensures ∙ scratch-applied Consume c.args.tokenizer.now

pub returns-then-is_some-clause-fits : goal.returns-then-is_some-clause-fits
returns-then-is_some-clause-fits c =
    subst (λ (x : Tokenizer). codes_left x ≤ most) (sym c.consume.ensures)
    (past-fits c.current.result c.args.tokenizer.now c.current.ensures (sym c.is_some.ensures ∙ c.if-is_some.true) c.requires.fits)
