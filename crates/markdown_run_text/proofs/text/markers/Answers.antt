use Rattle.std.proofs.Common.{refl}
use Rattle.markdown_run_text.proofs.text.markers.Goals as goal

pub new-requires-clause-table : goal.new-requires-clause-table
new-requires-clause-table c = refl

pub new-requires-clause-words : goal.new-requires-clause-words
new-requires-clause-words c = refl
