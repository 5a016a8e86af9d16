use Rattle.std.proofs.Common.{◌≡◌, ◌≤◌, ◌-◌, ◌+◌, take}
use Rattle.markdown_block_line.specs.LineValues.{front, is_digit_value, number_values, power_of_ten}
use Rattle.markdown_block_line.proofs.starts.digits_at.Given as goal

abbrev pub invariant-loop-count : goal.invariant-loop-count
invariant-loop-count l = record {
  most : l.count ≤ 9;
  passed : l.count ≤ front is_digit_value l.line;
  bound : l.number + 1 ≤ power_of_ten l.count;
  same : l.number ≡ number_values 0 (take l.count l.line);
}

abbrev pub decreases-loop-count : goal.decreases-loop-count
decreases-loop-count l = 9 - l.count
