use Rattle.std.proofs.Common.{◌≡◌, ◌≤◌, ◌++◌, ◌-◌}
use Rattle.std.specs.List.{slice_range}
use Rattle.markdown_html_model.specs.Escaped.{escaped}
use Rattle.markdown_html_model.proofs.escape.push_escaped_between.Given as goal

-- what is written, and what the rest gives, are the whole
abbrev pub invariant-loop-kept : goal.invariant-loop-kept
invariant-loop-kept l = record {
  low : l.from ≤ l.at;
  high : l.at ≤ l.to;
  whole : l.out.items ++ escaped (slice_range l.bytes l.at l.to) ≡ l.initial.out.items ++ escaped (slice_range l.bytes l.from l.to);
}

abbrev pub decreases-loop-kept : goal.decreases-loop-kept
decreases-loop-kept l = l.to - l.at
