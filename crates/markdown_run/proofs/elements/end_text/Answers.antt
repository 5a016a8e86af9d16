use Rattle.std.proofs.Common.{ap, ◌∙◌}
use Rattle.std.proofs.lemmas.Result.{on_ok_weaker}
use Rattle.markdown_engine.specs.Operations.{registered}
use Rattle.markdown_event.specs.declared.resolve.ResolveName.TheVariants as R
use Rattle.markdown_run.proofs.elements.end_text.Goals as goal

pub returns-clause-ok : goal.returns-clause-ok
returns-clause-ok c =
    on_ok_weaker c.register_resolver-2.result
    (λ e. e ∙ ap (registered R.Text) (c.in_ok-register_resolver.ensures.ok ∙ ap (registered R.Data) c.forget.ensures))
    c.register_resolver-2.ensures.ok
