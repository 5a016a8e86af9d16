use Rattle.std.proofs.Common.{◌∙◌, refl, arith}
use Rattle.markdown_block_definitions.proofs.RawWalks.{raw-goes, raw-stopped, raw-broken, raw-over, raw-open}
use Rattle.markdown_block_definitions.proofs.destinations.raw_len.Goals as goal

pub loop-len-init : goal.loop-len-init
loop-len-init c = record { within = omega arith; read = λ cs h. refl }

pub loop-len-preserved : goal.loop-len-preserved
loop-len-preserved c = record { within = omega (arith, c.loop-len-test.true); read = λ cs h. c.loop-len.invariant.read cs h ∙ raw-goes c.loop-len.slash c.loop-len.depth cs c.args.values.now c.loop-len.len _ h c.in-Goes.escapes c.in-Goes.inner c.loop-len-test.true c.in-Goes.ensures }

pub returns-in-Stops-clause-read : goal.returns-in-Stops-clause-read
returns-in-Stops-clause-read c = λ cs h. c.loop-len.invariant.read cs h ∙ raw-stopped c.loop-len.slash c.loop-len.depth cs c.args.values.now c.loop-len.len _ h c.loop-len-test.true c.in-Stops.ensures

pub returns-in-Breaks-clause-read : goal.returns-in-Breaks-clause-read
returns-in-Breaks-clause-read c = λ cs h. c.loop-len.invariant.read cs h ∙ raw-broken c.loop-len.slash c.loop-len.depth cs c.args.values.now c.loop-len.len _ h c.loop-len-test.true c.in-Breaks.ensures

pub returns-then-depth-gt0-clause-read : goal.returns-then-depth-gt0-clause-read
returns-then-depth-gt0-clause-read c = λ cs h. c.loop-len.invariant.read cs h ∙ raw-open c.loop-len.slash c.loop-len.depth cs c.args.values.now c.loop-len.len h c.loop-len-test.false c.if-depth-gt0.true

pub returns-clause-read : goal.returns-clause-read
returns-clause-read c = λ cs h. c.loop-len.invariant.read cs h ∙ raw-over c.loop-len.slash c.loop-len.depth cs c.args.values.now c.loop-len.len h c.loop-len-test.false c.if-depth-gt0.false
