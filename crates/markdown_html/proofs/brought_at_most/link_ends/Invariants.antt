use Rattle.std.proofs.Common.{◌≡◌, ◌≤◌, ◌+◌, drop}
use Rattle.markdown_html.specs.BroughtAtMost.{link_ends}
use Rattle.markdown_html.proofs.brought_at_most.link_ends.Given as goal

-- those so far and those to come
abbrev pub invariant-loop-index : goal.invariant-loop-index
invariant-loop-index l = record {
  few : l.count ≤ l.index;
  all : l.count + link_ends (drop l.index l.events) ≡ link_ends l.events;
}
