use Rattle.std.proofs.Common.{◌∙◌, sym}
use Rattle.markdown_block_definitions.proofs.TextPushes.{nothing-behind, nothing-left}
use Rattle.markdown_block_definitions.proofs.copy.first_value.Goals as goal

pub returns-then-spot-bytes : goal.returns-then-spot-bytes
returns-then-spot-bytes c = c.first_spot-spot.ensures.left ∙ nothing-left c.args.bytes.now c.args.piece c.first_spot-spot.result c.first_spot-spot.ensures.stands c.if-spot-bytes.true

pub returns-then-not-is_before : goal.returns-then-not-is_before
returns-then-not-is_before c = c.first_spot-spot.ensures.left ∙ nothing-behind c.args.bytes.now c.args.piece c.first_spot-spot.result (sym c.is_before.ensures ∙ c.if-not-is_before.true)
