use Rattle.std.proofs.Common.{refl}
use Rattle.markdown_page.proofs.WriterSteps.{leaf-stop, leaf-written, stopped-by}
use Rattle.markdown_page.proofs.write.Writer.leaf.Goals as goal

pub returns-clause-written : goal.returns-clause-written
returns-clause-written c = λ limit t place h.
    leaf-written _ _ limit t c.args.self.now _ h _ place c.is_tight.result c.is_tight.ensures refl c.in_ok-push_leaf.ensures.html c.is_in_line_behind-self.ensures c.is_first_after-self.ensures
    c.in_ok-push_leaf.ensures.spent

pub returns-in_err-push_leaf-clause-stop : goal.returns-in_err-push_leaf-clause-stop
returns-in_err-push_leaf-clause-stop c =
    stopped-by c.from_residual.result c.in_err-push_leaf.field-0.0 _ c.from_residual.ensures.1
    (λ limit t place h. leaf-stop _ _ limit t c.args.self.now c.args.self.now h _ place c.in_err-push_leaf.field-0.0 c.in_err-push_leaf.ensures.stop)
