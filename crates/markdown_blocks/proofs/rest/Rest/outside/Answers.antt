use Rattle.markdown_blocks.proofs.LinePieces.{rest-len}
use Rattle.markdown_blocks.proofs.rest.Rest.outside.Goals as goal

pub returns-clause-within : goal.returns-clause-within
returns-clause-within c = rw (rest-len _ _ c.values.ensures) c.rest_inside.ensures.within
