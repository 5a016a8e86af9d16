use Rattle.std.proofs.Common.{ap, subst, sym, ◌∙◌}
use Rattle.markdown_inline.specs.markdown_engine.declared.tokenizer.Tokenizer.{Tokenizer}
use Rattle.markdown_inline.proofs.markdown_engine.OperationFields.{attempts-scratched}
use Rattle.markdown_inline.proofs.markdown_run.ConstructsAtStart.{start-spacing}
use Rattle.markdown_inline.specs.markdown_partial.PartialSpaceOrTabEol.{SpaceOrTabEolStartReady}
use Rattle.markdown_test_runs.proofs.constructs.ask_for_spacing.Goals as goal

pub returns-clause-alone : goal.returns-clause-alone
returns-clause-alone c =
    ap (λ (x : Tokenizer). x.attempts) c.space_or_tab_eol.ensures.asked ∙ attempts-scratched _ c.args.tokenizer.now

pub returns-clause-construct : goal.returns-clause-construct
returns-clause-construct c =
    subst SpaceOrTabEolStartReady (sym c.space_or_tab_eol.ensures.asked) (start-spacing c.args.tokenizer.now c.requires.rest c.requires.fits)
