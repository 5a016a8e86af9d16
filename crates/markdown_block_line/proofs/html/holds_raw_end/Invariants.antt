use Rattle.std.proofs.Common.{◌≡◌, false, length}
use Rattle.std.specs.List.{list_any}
use Rattle.markdown_block_model.specs.HtmlStarts.{raw_ends}
use Rattle.markdown_block_line.specs.LineWords.{is_word, holds_value}
use Rattle.markdown_block_line.proofs.html.holds_raw_end.Given as goal

abbrev pub invariant-loop-line : goal.invariant-loop-line
invariant-loop-line l = holds_value (λ vs. list_any (is_word false vs) raw_ends) l.line ≡ holds_value (λ vs. list_any (is_word false vs) raw_ends) l.fn.line

abbrev pub decreases-loop-line : goal.decreases-loop-line
decreases-loop-line l = length l.line
