-- Where a line begins and ends that is not blank, and what stands there.
use Rattle.std.proofs.Common.{◌≡◌, ℕ, zero, suc, ◌+◌, ◌-◌, ◌<◌, ◌≤◌, Bool, true, false, not, ap, sym, ◌∙◌, List, length, take, drop, get_or, Some, None, slice_get, arith, length-drop}
use Rattle.std.proofs.lemmas.List.{drop_more, get_or-drop}
use Rattle.std.proofs.lemmas.List.Sums.{fails_before_first, passes_at_first, prefix_len-le-length}
use Rattle.std.proofs.lemmas.Bool.{cases_Bool, cases_lt, both_ways}
use Rattle.std.proofs.lemmas.Bool.Decides.{nat_tests}
use Rattle.std.proofs.lemmas.Option.{slice_get_cases, get_or_from_slice_get}
use Rattle.std.specs.List.{position_or_len, suffix_len}
use Rattle.markdown_content.specs.Codes.{is_line_ending_byte, line_ending_len}
use Rattle.markdown_lines.specs.PiecesOfLines.{first_from, first_ink, is_blank_byte, is_filled, line_end, line_stop}
use Rattle.markdown_lines.proofs.FirstBytes.{no_blank, no_byte, one_blank}

-- The first byte that passes.

pub first-within : (p : ℕ → Bool) (bytes : List ℕ) (at : ℕ) → at ≤ length bytes → first_from p bytes at ≤ length bytes
first-within p bytes at h = omega (arith, h, prefix_len-le-length (λ x. not (p x)) (drop at bytes), length-drop at bytes)

pub first-before : (p : ℕ → Bool) (bytes : List ℕ) (at k : ℕ) → at ≤ k → k < first_from p bytes at → p (get_or bytes k 0) ≡ false
first-before p bytes at k low high = grind (arith, get_or-drop, fails_before_first p (drop at bytes) (k - at) 0)

pub first-passes : (p : ℕ → Bool) (bytes : List ℕ) (at : ℕ) → at ≤ length bytes → first_from p bytes at < length bytes → p (get_or bytes (first_from p bytes at) 0) ≡ true
first-passes p bytes at h l =
    ap p (sym (get_or-drop at bytes (position_or_len p (drop at bytes)) 0)) ∙ passes_at_first p (drop at bytes) 0 (omega (arith, h, l, length-drop at bytes))

-- Without the blanks before an index.

pub record IsTrimmed (p : ℕ → Bool) (bytes : List ℕ) (low n : ℕ) : Type 0 where
  pub lower : low < n - suffix_len p (take n bytes)
  pub upper : n - suffix_len p (take n bytes) ≤ n
  pub blank : n - suffix_len p (take n bytes) < n → p (get_or bytes (n - suffix_len p (take n bytes)) 0) ≡ true

blank-step : (p : ℕ → Bool) (bytes : List ℕ) (m n : ℕ) → m ≡ n + 1 → m ≤ length bytes → p (get_or bytes n 0) ≡ true → m - suffix_len p (take m bytes) ≡ n - suffix_len p (take n bytes)
blank-step p bytes m n e l h = grind (arith, one_blank)

ink-step : (p : ℕ → Bool) (bytes : List ℕ) (m n : ℕ) → m ≡ n + 1 → m ≤ length bytes → p (get_or bytes n 0) ≡ false → m - suffix_len p (take m bytes) ≡ m
ink-step p bytes m n e l h = grind (arith, no_blank)

other-index : (p : ℕ → Bool) (bytes : List ℕ) (low n : ℕ) → p (get_or bytes low 0) ≡ false → p (get_or bytes n 0) ≡ true → low ≡ n → ⊥
other-index p bytes low n h k e = both_ways (p (get_or bytes n 0)) (ap (λ (i : ℕ). p (get_or bytes i 0)) (sym e) ∙ h) k

trimmed-more : (p : ℕ → Bool) (bytes : List ℕ) (low m n : ℕ) → m ≡ n + 1 → m ≤ length bytes → low < n → p (get_or bytes n 0) ≡ true → IsTrimmed p bytes low n → IsTrimmed p bytes low m
trimmed-more p bytes low m n e l lt h t = grind (arith, blank-step, cases_lt)

trimmed-here : (p : ℕ → Bool) (bytes : List ℕ) (low m n : ℕ) → m ≡ n + 1 → m ≤ length bytes → low < m → p (get_or bytes n 0) ≡ false → IsTrimmed p bytes low m
trimmed-here p bytes low m n e l lt h = grind (arith, ink-step)

pub trimmed : (p : ℕ → Bool) (bytes : List ℕ) (low n : ℕ) → p (get_or bytes low 0) ≡ false → low < n → n ≤ length bytes → IsTrimmed p bytes low n
trimmed p bytes low zero h lt l = absurd (omega (arith, lt))
trimmed p bytes low (suc n) h lt l = grind (arith, cases_Bool (p (get_or bytes n 0)), cases_lt low n, other-index p bytes low n, trimmed-more p bytes low (suc n) n, trimmed-here p bytes low (suc n) n, trimmed p bytes low n)

-- A line that is not blank.

pub record IsInk (bytes : List ℕ) (i : ℕ) : Type 0 where
  pub within : i < length bytes
  pub other : is_line_ending_byte (get_or bytes i 0) ≡ false
  pub ink : is_blank_byte (get_or bytes i 0) ≡ false

from-not : (b : Bool) → not b ≡ true → b ≡ false
from-not b h = grind arith

filled-some : (bytes : List ℕ) (at x : ℕ) → slice_get bytes (first_ink bytes at) ≡ Some x → is_filled bytes at ≡ true → is_line_ending_byte x ≡ false
filled-some bytes at x e h = grind (arith, from-not)

filled-none : (bytes : List ℕ) (at : ℕ) → slice_get bytes (first_ink bytes at) ≡ None → is_filled bytes at ≡ true → ⊥
filled-none bytes at e h = grind (arith, both_ways)

pub ink-first : (bytes : List ℕ) (at : ℕ) → at ≤ length bytes → is_filled bytes at ≡ true → IsInk bytes (first_ink bytes at)
ink-first bytes at l h = grind (arith, slice_get_cases, get_or_from_slice_get, filled-some, from-not, first-passes, filled-none)

blank-other : (b : ℕ) → is_blank_byte b ≡ true → is_line_ending_byte b ≡ false
blank-other b h = grind (arith, nat_tests)

pub to-blank : (b : Bool) → not b ≡ false → b ≡ true
to-blank b h = grind arith

-- the places of a line that is not blank
pub record IsLineAt (bytes : List ℕ) (at : ℕ) : Type 0 where
  pub first : IsInk bytes (first_ink bytes at)
  pub later : at ≤ first_ink bytes at
  pub before : first_ink bytes at < line_stop bytes at
  pub within : line_stop bytes at ≤ length bytes
  pub no_ending : (k : ℕ) → at ≤ k → k < line_stop bytes at → is_line_ending_byte (get_or bytes k 0) ≡ false
  pub ending : line_stop bytes at < length bytes → is_line_ending_byte (get_or bytes (line_stop bytes at) 0) ≡ true
  pub end_is : line_stop bytes at < length bytes → line_end bytes at ≡ line_stop bytes at + line_ending_len (get_or bytes (line_stop bytes at) 0) (drop (line_stop bytes at + 1) bytes)
  pub end_of_document : length bytes ≤ line_stop bytes at → line_end bytes at ≡ line_stop bytes at
  pub trim : IsTrimmed is_blank_byte bytes (first_ink bytes at) (line_stop bytes at)

-- no line ending stands before the first byte that is not blank
none-early : (bytes : List ℕ) (at : ℕ) → at ≤ length bytes → IsInk bytes (first_ink bytes at) → line_stop bytes at ≤ first_ink bytes at → ⊥
none-early bytes at l i h = grind (arith, first-passes is_line_ending_byte bytes, cases_lt (line_stop bytes at) (first_ink bytes at), to-blank (is_blank_byte (get_or bytes (line_stop bytes at) 0)), first-before, both_ways (is_line_ending_byte (get_or bytes (line_stop bytes at) 0)), blank-other (get_or bytes (line_stop bytes at) 0))

pub line-at : (bytes : List ℕ) (at : ℕ) → at ≤ length bytes → is_filled bytes at ≡ true → IsLineAt bytes at
line-at bytes at l h = grind (arith, ink-first, first-within, cases_lt, none-early, first-before, first-passes, drop_more, no_byte, trimmed)
