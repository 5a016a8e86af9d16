-- The runs and pairs of one container: the whole content, or the text of one label.
use Rattle.std.specs.Prelude.{◌≡◌, ℕ, zero, suc, ◌<◌, ◌≤◌, Bool, ◌==◌, if◌then◌else◌, List, [], ◌∷◌, length, map, filter, Option}
use Rattle.std.specs.List.{All}
use Rattle.markdown_content.specs.declared.configuration.ParseOptions.{ParseOptions}
use Rattle.markdown_model.specs.Laws.{Shape, shape_of}
use Rattle.markdown_model.specs.Pairs as Model
use Rattle.markdown_model.specs.Runs.{Run}
use Rattle.markdown_model.specs.Setting.{Setting}
use Rattle.markdown_attention.specs.NumberedPairs.{row_of, run_at, pairs_in, taken}
use Rattle.markdown_attention.specs.declared.attention.pairing.Pair.{Pair}
use Rattle.markdown_attention.specs.declared.attention.runs.Sequence.{Sequence}

-- what pairs depend on in a run
abbrev pub whole_shape : Sequence → Shape
whole_shape r = record { marker = r.marker; size = r.size; may_open = r.may_open; may_close = r.may_close }

abbrev pub is_in : ℕ → Sequence → Bool
is_in k r = row_of r.text == k

abbrev pub runs_in : ℕ → List Sequence → List Sequence
runs_in k list = filter (is_in k) list

-- how many runs of the container come before run i: its number in the container
abbrev pub place_in : ℕ → List Sequence → ℕ → ℕ
place_in k [] i = 0
place_in k (r ∷ rs) zero = 0
place_in k (r ∷ rs) (suc i) = if is_in k r then suc (place_in k rs i) else place_in k rs i

-- a pair by the numbers in the container
abbrev pub placed : ℕ → List Sequence → Pair → Model.Pair
placed k list p = record { opener = place_in k list p.opener; closer = place_in k list p.closer; size = p.size }

abbrev pub pairs_of : ℕ → List Sequence → List Pair → List Model.Pair
pairs_of k list pairs = map (placed k list) (pairs_in list k pairs)

-- In each container these are the pairs of its pair list, whatever runs of the definition it has: they
-- agree with those listed in marker, size, and in what they may do.
abbrev pub ArePairLists : ParseOptions → List Sequence → List Pair → Type 0
ArePairLists options list pairs =
    (s : Setting) (text : Option ℕ) (runs : List Run)
    → s.options ≡ options → map shape_of runs ≡ map whole_shape (runs_in (row_of text) list)
    → Model.IsPairList s runs (pairs_of (row_of text) list pairs)

-- the pairs come in the order of their closers
abbrev pub AreByCloser : List Pair → Type 0
AreByCloser [] = Unit {0}
AreByCloser (p ∷ ps) = All (λ q. p.closer ≤ q.closer) ps × AreByCloser ps

-- a pair of two runs of one container, in order
pub record IsPairWithin (list : List Sequence) (p : Pair) : Type 0 where
  pub order : p.opener < p.closer
  pub within : p.closer < length list
  pub row : row_of (run_at list p.opener).text ≡ row_of (run_at list p.closer).text

abbrev pub ArePairsWithin : List Sequence → List Pair → Type 0
ArePairsWithin list [] = Unit {0}
ArePairsWithin list (p ∷ ps) = IsPairWithin list p × ArePairsWithin list ps

-- of each run no more is taken than it has
abbrev pub AreTakenOnce : List Sequence → List Pair → Type 0
AreTakenOnce list pairs = (g : ℕ) → taken (pairs_in list (row_of (run_at list g).text) pairs) g ≤ (run_at list g).size
