use Rattle.std.proofs.Common.{ℕ, ◌≡◌, ◌+◌, ◌<◌, ◌^◌, true, get_or}
use Rattle.std.specs.Int.{bit_at}
use Rattle.markdown_content.specs.PlainBytes.{is_plain}
use Rattle.markdown_content.proofs.lanes.plain_among.Given as goal

abbrev pub invariant-loop-signs : goal.invariant-loop-signs
invariant-loop-signs l = record {
  few : l.signs < 2 ^ 16;
  others : (i : ℕ) → i < 16 → bit_at l.signs i ≡ 0 → is_plain l.stops (get_or l.bytes (l.at + i) 0) ≡ true;
}

abbrev pub decreases-loop-signs : goal.decreases-loop-signs
decreases-loop-signs l = l.signs
