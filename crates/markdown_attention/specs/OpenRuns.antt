-- The lists of open runs, one for each container and marker, and the marks of refusals.
use Rattle.std.specs.Prelude.{◌⊎◌, ◌≡◌, ℕ, zero, suc, ◌+◌, ◌-◌, ◌*◌, ◌%◌, ◌<◌, ◌≤◌, Bool, true, false, not, ◌&&◌, ◌==◌, nat_lt, if◌then◌else◌, List, length, slice_index, IsTrue}
use Rattle.std.specs.Str.{byte}
use Rattle.markdown_attention.specs.declared.attention.runs.Sequence.{Sequence}
use Rattle.markdown_attention.specs.declared.attention.pairing.Pair.{Pair}
use Rattle.markdown_content.specs.declared.configuration.ParseOptions.{ParseOptions}
use Rattle.markdown_attention.specs.NumberedPairs.{row_of, run_at, left, is_shut, pairs_in, sizes_fit, ruled_size}

-- which list of its container a marker has
abbrev pub kind_of : ℕ → ℕ
kind_of marker = if marker == byte "*" then 0 else (if marker == byte "_" then 1 else 2)

-- of each row the table has one more than its line, or 0 where it has none; there are so many lines, and no two rows have one
pub record AreLines (table : List ℕ) (count : ℕ) : Type 0 where
  pub within : (a : ℕ) → slice_index table a ≤ count
  pub apart : (a b : ℕ) → 0 < slice_index table a → slice_index table a ≡ slice_index table b → a ≡ b

-- the list of a run, where `line` says which line each row has
abbrev pub key_of : (ℕ → ℕ) → Sequence → ℕ
key_of line r = line (row_of r.text) * 3 + kind_of r.marker

-- what of a closer, of which y markers are left, decides who may open it
unfoldable pub class_of : ParseOptions → Sequence → ℕ → ℕ
class_of options b y =
    if b.marker == byte "~" then (if y == 1 then 1 else (if y == 2 then 2 else 0))
    else ruled_size options b.size y % 3 + (if b.may_open then 3 else 0)

-- h is one more than the newest open run of list q below n, or 0 if there is none
pub record Newest (key : ℕ → ℕ) (open_at : ℕ → Bool) (q n h : ℕ) : Type 0 where
  pub none_above : (r : ℕ) → h ≤ r → r < n → key r ≡ q → open_at r ≡ false
  pub within : 0 < h → h ≤ n
  pub listed : 0 < h → key (h - 1) ≡ q
  pub is_open : 0 < h → open_at (h - 1) ≡ true

-- the list of run r
abbrev pub list_of : (ℕ → ℕ) → List Sequence → ℕ → ℕ
list_of line runs r = key_of line (run_at runs r)

-- a look at run r, not marked, that was refused
pub record Refused (options : ParseOptions) (list : List Sequence) (mark c r : ℕ) : Type 0 where
  pub unmarked : mark ≤ r
  pub unfit : sizes_fit options (run_at list r) (run_at list c) (run_at list r).remaining (run_at list c).remaining ≡ false

-- from `head`, n refused looks lead to `next`
abbrev pub Passed : ParseOptions → List Sequence → List ℕ → ℕ → ℕ → ℕ → ℕ → ℕ → Type 0
Passed options list older mark c head zero next = next ≡ head
Passed options list older mark c head (suc n) next =
    (r : ℕ) × Passed options list older mark c head n (suc r) × Refused options list mark c r × (next ≡ slice_index older r)

-- a walk that found run o
pub record WalkFound (options : ParseOptions) (list : List Sequence) (older : List ℕ) (mark c head o looks : ℕ) : Type 0 where
  pub refused : ℕ
  pub passed : Passed options list older mark c head refused (suc o)
  pub counted : looks ≡ refused + 1
  pub unmarked : mark ≤ o
  pub fit : IsTrue (sizes_fit options (run_at list o) (run_at list c) (run_at list o).remaining (run_at list c).remaining)

-- a walk that found none: it came to the end or to a mark
pub record WalkEnded (options : ParseOptions) (list : List Sequence) (older : List ℕ) (mark c head looks : ℕ) : Type 0 where
  pub refused : ℕ
  pub next : ℕ
  pub passed : Passed options list older mark c head refused next
  pub counted : looks ≤ refused + 1
  pub marked : next ≤ mark

-- run r may still open, after these pairs of all containers
unfoldable pub is_open : List Sequence → List Pair → ℕ → Bool
is_open runs pairs r =
    (run_at runs r).may_open
    && (nat_lt 0 (left runs (pairs_in runs (row_of (run_at runs r).text) pairs) r)
    && not (is_shut (pairs_in runs (row_of (run_at runs r).text) pairs) r))

-- a run, of which x markers are left, is no opener of a closer of this class
abbrev pub RefusesCloser : ParseOptions → Sequence → ℕ → ℕ → Type 0
RefusesCloser options a x class =
    (b : Sequence) (y : ℕ) → b.marker ≡ a.marker → class_of options b y ≡ class → sizes_fit options a b x y ≡ false

-- the markers of runs: `*`, `_` and `~`
abbrev pub IsMarker : ℕ → Type 0
IsMarker marker = (marker ≡ byte "*") ⊎ ((marker ≡ byte "_") ⊎ (marker ≡ byte "~"))

abbrev pub HaveMarkers : List Sequence → Type 0
HaveMarkers runs = (i : ℕ) → i < length runs → IsMarker (run_at runs i).marker

-- the newest runs of a list that are past the opener are left out, one after another
abbrev pub CutFrom : List ℕ → ℕ → ℕ → ℕ → ℕ → Type 0
CutFrom older opener head zero next = next ≡ head
CutFrom older opener head (suc n) next = (r : ℕ) × CutFrom older opener head n (suc r) × (opener < r) × (next ≡ slice_index older r)

pub record IsCut (older : List ℕ) (opener head next : ℕ) : Type 0 where
  pub steps : ℕ
  pub cut : CutFrom older opener head steps next
  pub low : next ≤ opener + 1

-- the mark of a list and a class
abbrev pub mark_of : List ℕ → ℕ → ℕ → ℕ
mark_of marks k class = slice_index marks (k * 6 + class)

-- a run that may close, with markers left
abbrev pub IsClosing : Sequence → Type 0
IsClosing r = IsTrue r.may_close × (0 < r.remaining)
