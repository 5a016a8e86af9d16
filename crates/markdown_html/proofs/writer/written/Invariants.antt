use Rattle.std.proofs.Common.{◌≡◌, ◌≤◌, ◌-◌, drop, length}
use Rattle.markdown_html.specs.View.{page_of, state_of}
use Rattle.markdown_html.specs.EventWalk.{walked, beginning}
use Rattle.markdown_html.proofs.writer.written.Given as goal

-- the rest of the walk gives what the whole walk gives
abbrev pub invariant-loop-index : goal.invariant-loop-index
invariant-loop-index l = record {
  high : l.index ≤ length l.events;
  whole : walked (page_of l.given) (state_of l.writer) (drop l.index l.events) ≡ walked (page_of l.given) (beginning l.fn.out.items l.fn.calls l.fn.within) l.events;
}

abbrev pub decreases-loop-index : goal.decreases-loop-index
decreases-loop-index l = length l.events - l.index
