use Rattle.std.proofs.Common.{◌≡◌, ◌≤◌, ◌+◌}
use Rattle.markdown_content.specs.Nesting.{own_enter}
use Rattle.markdown_content.proofs.NestingLemmas.{reached}
use Rattle.markdown_content.proofs.util.slice.Position.from_exit_event.Given as goal

abbrev pub invariant-loop-awaited : goal.invariant-loop-awaited
invariant-loop-awaited l = record {
  back : l.at ≤ l.index;
  few : l.awaited + l.at ≤ l.index + 1;
  own : reached l.awaited l.events l.at ≡ own_enter l.events l.index;
}

abbrev pub decreases-loop-awaited : goal.decreases-loop-awaited
decreases-loop-awaited l = l.at
