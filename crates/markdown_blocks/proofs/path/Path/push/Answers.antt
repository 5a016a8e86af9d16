use Rattle.std.proofs.Common.{◌∙◌, sym, refl}
use Rattle.markdown_blocks.proofs.PathRows.{row-push}
use Rattle.markdown_blocks.proofs.path.Path.push.Goals as goal

pub invariant_of-self-then-is_item : goal.invariant_of-self-then-is_item
invariant_of-self-then-is_item c = rw c.in_ok-push.ensures.items (row-push _ _ c.self.inside.row _ refl c.self.invariant (sym c.is_item.ensures ∙ c.if-is_item.true))
