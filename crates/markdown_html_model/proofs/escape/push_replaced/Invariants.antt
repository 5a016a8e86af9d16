use Rattle.std.proofs.Common.{◌≡◌, ◌++◌, length}
use Rattle.markdown_html_model.specs.Escaped.{replaced}
use Rattle.markdown_html_model.proofs.escape.push_replaced.Given as goal

-- what is written, and what the rest gives, are the whole
abbrev pub invariant-loop-rest : goal.invariant-loop-rest
invariant-loop-rest l = l.out.items ++ replaced l.left ≡ l.initial.out.items ++ replaced l.text

abbrev pub decreases-loop-rest : goal.decreases-loop-rest
decreases-loop-rest l = length l.left
