use Rattle.std.proofs.Common.{◌∙◌, sym, arith}
use Rattle.markdown_content.proofs.StretchLemmas.{past-one, past-none, fewer}
use Rattle.markdown_content.proofs.cursor.Cursor.consume_rest.Goals as goal

pub loop-self-smaller : goal.loop-self-smaller
loop-self-smaller c =
    fewer c.args.stops.now c.loop-self.self c.consume.new.self c.pass_plain.new.self (sym c.is_free.ensures ∙ c.loop-self-test.true) c.consume.ensures c.pass_plain.ensures.codes c.pass_plain.ensures.forward

pub loop-self-preserved : goal.loop-self-preserved
loop-self-preserved c = grind (arith, past-one)

pub returns : goal.returns
returns c = sym (past-none c.args.stops.now c.loop-self.self (sym c.is_free.ensures ∙ c.loop-self-test.false)) ∙ c.loop-self.invariant
