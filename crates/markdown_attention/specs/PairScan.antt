-- What the runs show of themselves during the scan.
use Rattle.std.specs.Prelude.{◌≡◌, ℕ, ◌<◌, ◌≤◌, ◌^◌, List, length}
use Rattle.markdown_attention.specs.declared.attention.pairing.Pair.{Pair}
use Rattle.markdown_attention.specs.declared.attention.runs.Sequence.{Sequence}
use Rattle.markdown_attention.specs.NumberedPairs.{row_of, run_at, left, pairs_in}

-- the runs as they stand, how many texts of labels there are, the number of the run in turn, and how many looks were taken
pub record Walk : Type 0 where
  pub list : List Sequence
  pub texts : ℕ
  pub turn : ℕ
  pub probes : ℕ

-- each run has its place as its number
abbrev pub Numbered : List Sequence → Type 0
Numbered list = (i : ℕ) → i < length list → (run_at list i).number ≡ i

-- each run stands in none of the texts, or in one of so many
abbrev pub StandIn : ℕ → List Sequence → Type 0
StandIn texts list = (i : ℕ) → i < length list → row_of (run_at list i).text ≤ texts

-- no pair has taken of a run
abbrev pub AreUntaken : List Sequence → Type 0
AreUntaken list = (i : ℕ) → i < length list → (run_at list i).remaining ≡ (run_at list i).size

-- two sizes can be added
abbrev pub AreSmall : List Sequence → Type 0
AreSmall list = (i : ℕ) → i < length list → ((run_at list i).size < 2 ^ 63) × ((run_at list i).remaining < 2 ^ 63)

-- of a run are left the markers that no pair of its container took
abbrev pub standing : List Sequence → List Pair → ℕ → Sequence
standing runs pairs i = record (run_at runs i) { remaining = left runs (pairs_in runs (row_of (run_at runs i).text) pairs) i }

-- the runs as they stand after these pairs
pub record AreRunsAfter (runs list : List Sequence) (pairs : List Pair) : Type 0 where
  pub same_length : length list ≡ length runs
  pub stands : (i : ℕ) → i < length runs → run_at list i ≡ standing runs pairs i
