-- The pair list of a container, by the numbers of the runs of all containers.
use Rattle.std.specs.Prelude.{◌≡◌, ℕ, ◌+◌, ◌-◌, ◌%◌, ◌<◌, ◌≤◌, Bool, false, not, ◌&&◌, ◌||◌, ◌==◌, nat_lt, if◌then◌else◌, List, [], ◌∷◌, ◌++◌, length, slice_index_or, slice_set, sum_by, filter, IsTrue, Option, Some, None}
use Rattle.std.specs.Str.{byte}
use Rattle.std.specs.List.{list_any}
use Rattle.markdown_attention.specs.declared.attention.runs.Sequence.{Sequence}
use Rattle.markdown_attention.specs.declared.attention.pairing.Pair.{Pair}
use Rattle.markdown_content.specs.CommonMark.{rules_of}
use Rattle.markdown_content.specs.declared.configuration.ParseOptions.{ParseOptions}

-- the row of a container: the first for the whole content, and one for each text of a label, by its number among the texts
abbrev pub row_of : Option ℕ → ℕ
row_of None = 0
row_of (Some text) = text + 1

abbrev pub no_run : Sequence
no_run = record { number = 0; event = 0; container = None; text = None; marker = 0; size = 0; remaining = 0; may_open = false; may_close = false }

abbrev pub run_at : List Sequence → ℕ → Sequence
run_at runs i = slice_index_or runs i no_run

-- how many markers a pair takes of run i
abbrev pub takes : ℕ → Pair → ℕ
takes i p = if (p.opener == i) || (p.closer == i) then p.size else 0

unfoldable pub taken : List Pair → ℕ → ℕ
taken done i = sum_by (takes i) done

-- what the pairs so far left of run i
abbrev pub left : List Sequence → List Pair → ℕ → ℕ
left runs done i = (run_at runs i).size - taken done i

-- run i is strictly between the pair's two runs
abbrev pub is_around : ℕ → Pair → Bool
is_around i p = nat_lt p.opener i && nat_lt i p.closer

unfoldable pub is_shut : List Pair → ℕ → Bool
is_shut done i = list_any (is_around i) done

-- the size that the rule of three reads
abbrev pub ruled_size : ParseOptions → ℕ → ℕ → ℕ
ruled_size options whole remaining = if (rules_of options).whole_lengths then whole else remaining

-- one of the two may open and close, the closer's size is no multiple of 3 and the sum is
abbrev pub is_refused_by_three : Bool → ℕ → ℕ → Bool
is_refused_by_three both x y = both && not (y % 3 == 0) && ((x + y) % 3 == 0)

-- for tildes: two equal sizes, of two markers, or of one where that is allowed
abbrev pub is_tilde_pair : ParseOptions → ℕ → ℕ → Bool
is_tilde_pair options x y = (x == y) && ((y == 2) || (y == 1) && options.gfm_strikethrough_single_tilde)

-- whether the sizes let two runs pair, of which x and y markers are left
unfoldable pub sizes_fit : ParseOptions → Sequence → Sequence → ℕ → ℕ → Bool
sizes_fit options a b x y =
    if b.marker == byte "~" then is_tilde_pair options x y
    else not (is_refused_by_three (a.may_close || b.may_open) (ruled_size options a.size x) (ruled_size options b.size y))

-- two where both have two, else one
abbrev pub size_of_pair : ℕ → ℕ → ℕ
size_of_pair x y = if nat_lt 1 x && nat_lt 1 y then 2 else 1

-- in the container, after the pairs `done` of it, o may open what c closes
pub record Eligible (options : ParseOptions) (runs : List Sequence) (container : ℕ) (done : List Pair) (o c : ℕ) : Type 0 where
  pub before : o < c
  pub within : c < length runs
  pub opener_in : (row_of (run_at runs o).text) ≡ container
  pub closer_in : (row_of (run_at runs c).text) ≡ container
  pub one_marker : (run_at runs o).marker ≡ (run_at runs c).marker
  pub may_open : IsTrue (run_at runs o).may_open
  pub may_close : IsTrue (run_at runs c).may_close
  pub opener_left : 0 < left runs done o
  pub closer_left : 0 < left runs done c
  pub not_between : is_shut done o ≡ false
  pub fit : IsTrue (sizes_fit options (run_at runs o) (run_at runs c) (left runs done o) (left runs done c))

-- no pair is eligible with a closer from `from` on and before `end`
abbrev pub NoneEligibleBetween : ParseOptions → List Sequence → ℕ → List Pair → ℕ → ℕ → Type 0
NoneEligibleBetween options runs k done from end = (o c : ℕ) → from ≤ c → c < end → Eligible options runs k done o c → ⊥

-- p is the next pair after `done`, the last of which has the closer `last`
pub record IsNextNumbered (options : ParseOptions) (runs : List Sequence) (k : ℕ) (done : List Pair) (last : ℕ) (p : Pair) : Type 0 where
  pub eligible : Eligible options runs k done p.opener p.closer
  pub size : p.size ≡ size_of_pair (left runs done p.opener) (left runs done p.closer)
  pub forward : last ≤ p.closer
  pub leftmost : NoneEligibleBetween options runs k done last p.closer
  pub nearest : (o : ℕ) → p.opener < o → Eligible options runs k done o p.closer → ⊥

-- the pairs follow each other after `done`, the last of which has the closer `last`, and none is left
-- with a closer before `end`
abbrev pub PairsFrom : ParseOptions → List Sequence → ℕ → ℕ → List Pair → ℕ → List Pair → Type 0
PairsFrom options runs k end done last [] = NoneEligibleBetween options runs k done last end
PairsFrom options runs k end done last (p ∷ ps) =
    IsNextNumbered options runs k done last p × PairsFrom options runs k end (done ++ p ∷ []) p.closer ps

-- the pair list of container k
abbrev pub AreItsPairs : ParseOptions → List Sequence → ℕ → List Pair → Type 0
AreItsPairs options runs k pairs = PairsFrom options runs k (length runs) [] 0 pairs

-- the pairs of one container, of the pairs of all
abbrev pub pairs_in : List Sequence → ℕ → List Pair → List Pair
pairs_in runs k pairs = filter (λ p. (row_of (run_at runs p.closer).text) == k) pairs

-- Runs as they stand during the scan.

abbrev pub lower : Sequence → ℕ → Sequence
lower r size = record r { remaining = r.remaining - size }

-- the runs after a pair took `size` markers of both
abbrev pub after_taking : List Sequence → ℕ → ℕ → ℕ → List Sequence
after_taking list o c size =
    slice_set (slice_set list o (lower (run_at list o) size)) c (lower (run_at list c) size)

abbrev pub markers_left : List Sequence → ℕ
markers_left list = sum_by (λ r. r.remaining) list
