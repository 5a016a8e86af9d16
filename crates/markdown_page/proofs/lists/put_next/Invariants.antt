use Rattle.std.proofs.Common.{◌≡◌, ◌≤◌, ◌-◌, ℕ, None, length, if◌then◌else◌, nat_lt}
use Rattle.markdown_page.specs.ListWalks.{next_at}
use Rattle.markdown_page.proofs.lists.put_next.Given as goal

abbrev pub invariant-loop-nexts : goal.invariant-loop-nexts
invariant-loop-nexts l = record {
  within : length l.nexts.items ≤ l.depth;
  next : (k : ℕ) → next_at l.nexts.items k ≡ (if nat_lt k l.depth then next_at l.fn.nexts.items k else None);
}

abbrev pub decreases-loop-nexts : goal.decreases-loop-nexts
decreases-loop-nexts l = l.depth - length l.nexts.items
