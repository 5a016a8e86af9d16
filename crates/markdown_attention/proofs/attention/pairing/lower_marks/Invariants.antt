use Rattle.std.proofs.Common.{◌≡◌, ℕ, ◌<◌, ◌≤◌, ◌⊎◌, length, get_or}
use Rattle.markdown_attention.proofs.attention.pairing.lower_marks.Given as goal

abbrev pub invariant-loop-i : goal.invariant-loop-i
invariant-loop-i l = record {
  same : length l.marks ≡ length l.fn.marks;
  low : (i : ℕ) → l.fn.first ≤ i → i < l.i → get_or l.fn.marks i 0 ≤ l.opener →
      get_or l.marks i 0 ≡ get_or l.fn.marks i 0;
  high : (i : ℕ) → l.fn.first ≤ i → i < l.i → l.opener < get_or l.fn.marks i 0 →
      get_or l.marks i 0 ≡ l.opener;
  others : (i : ℕ) → (i < l.fn.first) ⊎ (l.i ≤ i) → get_or l.marks i 0 ≡ get_or l.fn.marks i 0;
}
