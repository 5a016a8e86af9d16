use Rattle.markdown_blocks.proofs.LinePieces.{rest-breaks, rest-len}
use Rattle.markdown_blocks.proofs.rest.Rest.begun.Goals as goal

pub begun_at-requires : goal.begun_at-requires
begun_at-requires c = rest-breaks _ _ _ _ _ _ c.self.invariant (rw (← c.self.view_is) at c.values.ensures)

pub returns-clause-within : goal.returns-clause-within
returns-clause-within c = rw (rest-len _ _ c.values.ensures) c.begun_at.ensures.within
