use Rattle.std.proofs.Common.{◌≡◌, ◌<◌, ◌≤◌, ◌-◌, ℕ, None, drop, length}
use Rattle.markdown_inline_c.specs.References.{character_ahead}
use Rattle.markdown_inline_c.proofs.form.has_characters.Given as goal

abbrev pub invariant-loop-at : goal.invariant-loop-at
invariant-loop-at l = record {
  within : l.at ≤ length l.bytes;
  none : (i : ℕ) → i < l.at → character_ahead l.how (drop i l.bytes) ≡ None;
}

abbrev pub decreases-loop-at : goal.decreases-loop-at
decreases-loop-at l = length l.bytes - l.at
