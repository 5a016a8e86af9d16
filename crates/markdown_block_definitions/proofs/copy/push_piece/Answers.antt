use Rattle.std.proofs.Common.{◌∙◌, sym, arith}
use Rattle.markdown_block_definitions.proofs.SpotReads.{spot-small}
use Rattle.markdown_block_definitions.proofs.TextPushes.{pushed-start, pushed-behind, pushed-end, pushed-more}
use Rattle.markdown_block_definitions.proofs.copy.push_piece.Goals as goal

pub loop-spot-init : goal.loop-spot-init
loop-spot-init c = record { pushed = pushed-start c.args.bytes.now c.args.piece _ _ _ c.first_spot-spot.ensures.stands c.first_spot-spot.ensures.left c.first_spot-spot.ensures.started }

pub loop-spot-preserved : goal.loop-spot-preserved
loop-spot-preserved c = record { pushed = pushed-more c.args.bytes.now c.args.piece _ _ _ _ c.loop-spot.spot c.loop-spot.invariant.pushed _ _ _ c.in_ok-spot.ensures }

pub loop-spot-smaller : goal.loop-spot-smaller
loop-spot-smaller c = omega (arith, c.in_ok-spot.ensures.later, c.loop-spot-test.true, (spot-small c.args.bytes.now c.loop-spot.spot c.loop-spot.invariant.pushed.stands).0)

pub returns-then-not-is_before : goal.returns-then-not-is_before
returns-then-not-is_before c = pushed-behind c.args.bytes.now c.args.piece _ _ _ _ c.loop-spot.spot c.loop-spot.invariant.pushed (sym c.is_before.ensures ∙ c.if-not-is_before.true)

pub returns : goal.returns
returns c = pushed-end c.args.bytes.now c.args.piece _ _ _ _ c.loop-spot.spot c.loop-spot.invariant.pushed c.loop-spot-test.false
