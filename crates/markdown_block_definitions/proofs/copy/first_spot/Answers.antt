use Rattle.std.proofs.Common.{◌∙◌, sym, arith}
use Rattle.markdown_block_definitions.proofs.SpotReads.{spot-small}
use Rattle.markdown_block_definitions.proofs.TextPushes.{first-start, first-later}
use Rattle.markdown_block_definitions.proofs.copy.first_spot.Goals as goal

pub loop-spot-init : goal.loop-spot-init
loop-spot-init c = record { stands = c.line_start.ensures.spot; left = first-start c.args.bytes.now c.args.piece c.line_start.result c.line_start.ensures.before }

pub loop-spot-preserved : goal.loop-spot-preserved
loop-spot-preserved c = record {
  stands = c.read.ensures.stands;
  left = first-later c.args.bytes.now c.args.piece c.loop-spot.spot c.read.result.1 c.read.result.0 c.read.ensures c.loop-spot.invariant.left (sym c.is_before.ensures ∙ c.if-not-is_before.false);
}

pub loop-spot-smaller : goal.loop-spot-smaller
loop-spot-smaller c = omega (arith, c.read.ensures.later, c.loop-spot-test.true, (spot-small c.args.bytes.now c.loop-spot.spot c.loop-spot.invariant.stands).0)
