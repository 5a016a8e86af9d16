use Rattle.std.proofs.Common.{◌≡◌, ◌++◌, length}
use Rattle.markdown_html_model.specs.Resolved.{resolved}
use Rattle.markdown_html_model.proofs.resolve.push_resolved.Given as goal

-- what is written, and what the rest gives, are the whole
abbrev pub invariant-loop-first : goal.invariant-loop-first
invariant-loop-first l = l.out.items ++ resolved l.how l.left ≡ l.initial.out.items ++ resolved l.how l.text

abbrev pub decreases-loop-first : goal.decreases-loop-first
decreases-loop-first l = length l.left
