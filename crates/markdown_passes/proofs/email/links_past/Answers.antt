use Rattle.std.proofs.Common.{◌∙◌, arith}
use Rattle.markdown_passes.proofs.EmailEditLemmas.{links-more}
use Rattle.markdown_passes.proofs.email.links_past.Goals as goal

pub loop-index-preserved : goal.loop-index-preserved
loop-index-preserved c = record {
  past = c.links_after-links.ensures.after ∙ links-more c.args.events.now c.args.from c.loop-index.index c.args.before c.loop-index.links c.bare_at.result (omega (arith, c.loop-index.auto.index)) (omega (arith, c.loop-index-test.true, c.requires.within)) c.bare_at.ensures.event c.loop-index.invariant.past;
  few = omega (arith, c.loop-index.invariant.few, c.links_after-links.ensures.few);
}
