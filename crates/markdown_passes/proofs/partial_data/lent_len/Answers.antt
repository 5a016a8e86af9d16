use Rattle.std.proofs.Common.{◌∙◌}
use Rattle.markdown_passes.proofs.LentEvents.{lent-length}
use Rattle.markdown_passes.proofs.partial_data.lent_len.Goals as goal

pub returns : goal.returns
returns c = c.len.ensures ∙ lent-length _ _ c.requires.lent
