use Rattle.std.proofs.Common.{arith, ◌∙◌, ap}
use Rattle.std.specs.Int.{bit_at}
use Rattle.std.proofs.lemmas.Nat.Bits.{bit_at-zero}
use Rattle.markdown_content.proofs.ByteSetLemmas.{word-plain, plain-under, plain-without}
use Rattle.markdown_content.proofs.lanes.plain_among.Goals as goal

pub loop-signs-init : goal.loop-signs-init
loop-signs-init c = grind (arith, word-plain)

pub loop-signs-preserved : goal.loop-signs-preserved
loop-signs-preserved c = grind (arith, plain-without)

pub returns-then-not-is_plain-clause-plain : goal.returns-then-not-is_plain-clause-plain
returns-then-not-is_plain-clause-plain c =
    plain-under c.args.stops.now c.args.bytes.now c.args.at c.loop-signs.signs _ c.loop-signs.invariant.others (omega (arith, c.lowest-count.ensures.within)) c.lowest-count.ensures.below

pub returns-clause-plain : goal.returns-clause-plain
returns-clause-plain c =
    plain-under c.args.stops.now c.args.bytes.now c.args.at c.loop-signs.signs 16 c.loop-signs.invariant.others (omega arith) (λ i lt. ap (λ n. bit_at n i) c.loop-signs-test.false ∙ bit_at-zero i)
