use Rattle.std.proofs.Common.{◌≡◌, ◌-◌, length}
use Rattle.markdown_content.specs.Stretch.{past_stretch}
use Rattle.markdown_content.proofs.cursor.Cursor.consume_rest.Given as goal

abbrev pub invariant-loop-self : goal.invariant-loop-self
invariant-loop-self l = past_stretch l.fn.stops l.self ≡ past_stretch l.fn.stops l.initial.self

abbrev pub decreases-loop-self : goal.decreases-loop-self
decreases-loop-self l = length l.self.codes - l.self.at
