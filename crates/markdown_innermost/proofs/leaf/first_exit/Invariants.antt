use Rattle.std.proofs.Common.{◌≡◌, ◌-◌, ◌<◌, drop}
use Rattle.markdown_innermost.specs.InnermostEvents.{innermost}
use Rattle.markdown_innermost.proofs.leaf.first_exit.Given as goal

-- none of the events so far is the first
abbrev pub invariant-loop-index : goal.invariant-loop-index
invariant-loop-index l = (0 < l.index) × (innermost (drop (l.index - 1) l.events) ≡ innermost l.events)
