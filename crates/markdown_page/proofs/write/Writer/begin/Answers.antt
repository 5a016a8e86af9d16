use Rattle.std.proofs.Common.{refl}
use Rattle.markdown_page.proofs.WriterSteps.{begun}
use Rattle.markdown_page.proofs.write.Writer.begin.Goals as goal

pub returns-clause-written : goal.returns-clause-written
returns-clause-written c = λ limit t h. begun _ _ limit t c.args.self.now _ h (record { container = c.args.container; place = c.args.place }) c.in_ok-push.ensures.items c.in_ok-push_opening.ensures c.is_item-self.ensures c.is_item-self.ensures refl
