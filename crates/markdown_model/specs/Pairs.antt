-- The pair list of a container: which of its runs make emphasis, strong emphasis and strikethrough with
-- each other (CommonMark 6.2; GFM 6.5).
use Rattle.std.specs.Prelude.{◌≡◌, ℕ, zero, suc, ◌+◌, ◌-◌, ◌%◌, ◌<◌, ◌≤◌, Bool, true, false, ◌&&◌, ◌||◌, not, nat_lt, ◌==◌, List, [], ◌∷◌, ◌++◌, length, sum_by, Option, Some, None, IsTrue, if◌then◌else◌, min}
use Rattle.std.specs.Str.{byte}
use Rattle.std.specs.List.{list_any, list_all}
use Rattle.markdown_model.specs.Setting.{Setting, rules}
use Rattle.markdown_model.specs.Runs.{Run, marker_of}

-- A pair of runs by their numbers in the container, and how many markers it takes of each.
pub record Pair : Type 0 where
  pub opener : ℕ
  pub closer : ℕ
  pub size : ℕ

abbrev pub run_at : List Run → ℕ → Run
run_at [] i = record { codes = []; may_open = false; may_close = false }
run_at (r ∷ rs) zero = r
run_at (r ∷ rs) (suc i) = run_at rs i

-- what a pair takes of a run
abbrev pub taken_by : ℕ → Pair → ℕ
taken_by i p = if p.opener == i || p.closer == i then p.size else 0

-- the markers of a run that these pairs leave
abbrev pub remaining : List Run → List Pair → ℕ → ℕ
remaining runs earlier i = length (run_at runs i).codes - sum_by (taken_by i) earlier

-- two markers of each run where both have two, else one
abbrev pub pair_size : List Run → List Pair → ℕ → ℕ → ℕ
pair_size runs earlier o c = min 2 (min (remaining runs earlier o) (remaining runs earlier c))

abbrev pub is_strictly_within : ℕ → Pair → Bool
is_strictly_within i p = nat_lt p.opener i && nat_lt i p.closer

module _ (s : Setting) (runs : List Run) where
  -- The rule of three: where one of two runs may both open and close, the sum of their sizes is no
  -- multiple of 3, unless the closer's size is a multiple of 3 itself. Here the sizes are what earlier
  -- pairs left of the runs; the option asks for CommonMark's, those of the whole runs.

  abbrev pub ruled_size : List Pair → ℕ → ℕ
  ruled_size earlier i = if (rules s).whole_lengths then length (run_at runs i).codes else remaining runs earlier i

  abbrev pub is_refused_by_three : List Pair → ℕ → ℕ → Bool
  is_refused_by_three earlier o c =
      ((run_at runs o).may_close || (run_at runs c).may_open)
      && (not (ruled_size earlier c % 3 == 0) && (ruled_size earlier o + ruled_size earlier c) % 3 == 0)

  -- tildes pair two with two, or one with one where that is allowed
  abbrev pub is_refused_as_tilde : List Pair → ℕ → ℕ → Bool
  is_refused_as_tilde earlier o c =
      marker_of (run_at runs o).codes == byte "~"
      && not (remaining runs earlier o == remaining runs earlier c
      && (remaining runs earlier o == 2 || (remaining runs earlier o == 1 && s.options.gfm_strikethrough_single_tilde)))

  -- after the earlier pairs, run o may open what run c closes
  pub record IsEligible (earlier : List Pair) (o c : ℕ) : Type 0 where
    pub in_order : o < c
    pub in_container : c < length runs
    pub one_marker : marker_of (run_at runs o).codes ≡ marker_of (run_at runs c).codes
    pub may_open : IsTrue (run_at runs o).may_open
    pub may_close : IsTrue (run_at runs c).may_close
    pub opener_left : 0 < remaining runs earlier o
    pub closer_left : 0 < remaining runs earlier c
    pub not_within : list_any (is_strictly_within o) earlier ≡ false
    pub three : is_refused_by_three earlier o c ≡ false
    pub tilde : is_refused_as_tilde earlier o c ≡ false

  -- none is eligible with a closer from `low` on and before `high`
  abbrev pub NoneEligible : List Pair → ℕ → ℕ → Type 0
  NoneEligible earlier low high = (o c : ℕ) → low ≤ c → c < high → IsEligible earlier o c → ⊥

  -- the eligible pair with the leftmost closer that is not before the last one, and with its nearest opener
  pub record IsNextPair (earlier : List Pair) (last : ℕ) (p : Pair) : Type 0 where
    pub eligible : IsEligible earlier p.opener p.closer
    pub size : p.size ≡ pair_size runs earlier p.opener p.closer
    pub forward : last ≤ p.closer
    pub leftmost : NoneEligible earlier last p.closer
    pub nearest : (o : ℕ) → p.opener < o → IsEligible earlier o p.closer → ⊥

  -- after the earlier pairs, whose last closer is `last`, these pairs follow each other, and then none
  -- is left with a closer before `end`
  abbrev pub ArePairsFrom : ℕ → List Pair → ℕ → List Pair → Type 0
  ArePairsFrom end earlier last [] = NoneEligible earlier last end
  ArePairsFrom end earlier last (p ∷ ps) = IsNextPair earlier last p × ArePairsFrom end (earlier ++ p ∷ []) p.closer ps

  abbrev pub IsPairList : List Pair → Type 0
  IsPairList pairs = ArePairsFrom (length runs) [] 0 pairs

  -- The same, computed: the closers from the last one on, and before each the openers from the nearest on.

  unfoldable pub is_eligible : List Pair → ℕ → ℕ → Bool
  is_eligible earlier o c =
      list_all (λ b. b)
      (nat_lt o c
      ∷ nat_lt c (length runs)
      ∷ (marker_of (run_at runs o).codes == marker_of (run_at runs c).codes)
      ∷ (run_at runs o).may_open
      ∷ (run_at runs c).may_close
      ∷ nat_lt 0 (remaining runs earlier o)
      ∷ nat_lt 0 (remaining runs earlier c)
      ∷ not (list_any (is_strictly_within o) earlier)
      ∷ not (is_refused_by_three earlier o c)
      ∷ not (is_refused_as_tilde earlier o c)
      ∷ [])

  unfoldable pub opener_below : List Pair → ℕ → ℕ → Option ℕ
  opener_below earlier c zero = None
  opener_below earlier c (suc o) = elim (is_eligible earlier o c) [ true ↦ Some o | false ↦ opener_below earlier c o ]

  -- the next pair whose closer is one of the n runs from c on
  unfoldable pub next_pair_from : List Pair → ℕ → ℕ → Option Pair
  next_pair_from earlier c zero = None
  next_pair_from earlier c (suc n) =
      elim (opener_below earlier c c) [
        | Some o ↦ Some (record { opener = o; closer = c; size = pair_size runs earlier o c })
        | None ↦ next_pair_from earlier (suc c) n
      ]

  -- the pairs after these, n at most
  unfoldable pub pairs_after : ℕ → List Pair → ℕ → List Pair
  pairs_after zero earlier last = []
  pairs_after (suc n) earlier last =
      elim (next_pair_from earlier last (length runs - last)) [ None ↦ [] | Some p ↦ p ∷ pairs_after n (earlier ++ p ∷ []) p.closer ]

  -- there are no more pairs than markers
  unfoldable pub pair_list : List Pair
  pair_list = pairs_after (sum_by (λ r. length r.codes) runs) [] 0
