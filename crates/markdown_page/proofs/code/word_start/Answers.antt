use Rattle.std.proofs.Common.{◌∙◌, sym, arith}
use Rattle.markdown_page.proofs.FirstWords.{past-space}
use Rattle.markdown_page.proofs.code.word_start.Goals as goal

pub loop-start-preserved : goal.loop-start-preserved
loop-start-preserved c = record {
  within = omega (arith, c.loop-start-test.true);
  same = past-space c.args.text.now c.loop-start.start c.loop-start-test.true (sym c.is_ascii_whitespace.ensures.value ∙ c.if-not-is_ascii_whitespace.false) ∙ c.loop-start.invariant.same;
}
