use Rattle.std.proofs.Common.{◌≡◌, length}
use Rattle.markdown_content.specs.Content.{has_no_blank_line, is_text_codes}
use Rattle.markdown_content.specs.Place.{ahead_at}
use Rattle.markdown_content.proofs.content.has_text_lines.Given as goal

abbrev pub invariant-loop-filled : goal.invariant-loop-filled
invariant-loop-filled l = is_text_codes l.content.codes ≡ has_no_blank_line l.filled (ahead_at l.cursor)

abbrev pub decreases-loop-filled : goal.decreases-loop-filled
decreases-loop-filled l = length (ahead_at l.cursor)
