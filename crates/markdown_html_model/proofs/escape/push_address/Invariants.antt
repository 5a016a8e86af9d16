use Rattle.std.proofs.Common.{◌≡◌, ◌++◌, length}
use Rattle.markdown_html_model.specs.Escaped.{addressed}
use Rattle.markdown_html_model.proofs.escape.push_address.Given as goal

-- what is written, and what the rest gives, are the whole
abbrev pub invariant-loop-first : goal.invariant-loop-first
invariant-loop-first l = l.out.items ++ addressed l.left ≡ l.initial.out.items ++ addressed l.address

abbrev pub decreases-loop-first : goal.decreases-loop-first
decreases-loop-first l = length l.left
