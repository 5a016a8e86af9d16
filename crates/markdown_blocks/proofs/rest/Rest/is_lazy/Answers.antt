use Rattle.markdown_blocks.proofs.LinePieces.{rest-breaks}
use Rattle.markdown_blocks.proofs.rest.Rest.is_lazy.Goals as goal

pub is_lazy_line-requires : goal.is_lazy_line-requires
is_lazy_line-requires c = rest-breaks _ _ _ _ _ _ c.self.invariant (rw (← c.self.view_is) at c.values.ensures)
