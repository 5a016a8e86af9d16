use Rattle.std.proofs.Common.{◌≡◌, ◌+◌, ◌≤◌, drop}
use Rattle.std.specs.Prelude.{◌||◌, ◌==◌}
use Rattle.std.specs.List.{list_all}
use Rattle.markdown_block_line.specs.LineValues.{is_whitespace_value, count_value}
use Rattle.markdown_block_line.proofs.starts.is_break_of.Given as goal

abbrev pub invariant-loop-value : goal.invariant-loop-value
invariant-loop-value l = record {
  pass : list_all (λ v. v == l.marker || is_whitespace_value v) l.line ≡ list_all (λ v. v == l.marker || is_whitespace_value v) (drop l.value-index l.line);
  count : count_value l.marker l.line ≡ l.count + count_value l.marker (drop l.value-index l.line);
  within : l.count ≤ l.value-index;
}
