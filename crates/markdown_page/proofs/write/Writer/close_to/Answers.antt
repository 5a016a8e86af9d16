use Rattle.std.proofs.Common.{arith, refl}
use Rattle.markdown_page.proofs.WriterSteps.{closed}
use Rattle.markdown_page.proofs.write.Writer.close_to.Goals as goal

pub loop-self-preserved-in-Some : goal.loop-self-preserved-in-Some
loop-self-preserved-in-Some c = record {
  within = omega (arith, c.in-Some.ensures.len, c.loop-self-test.true);
  written = λ limit t h. closed _ _ limit t c.loop-self.self _ (c.loop-self.invariant.written limit t h) c.in-Some.closed c.in-Some.ensures.items c.in_ok-push_closing.ensures refl refl refl;
}
