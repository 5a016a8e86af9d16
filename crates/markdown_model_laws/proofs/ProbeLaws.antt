-- The bounds on probes, by the codes of a content.
use Rattle.std.proofs.Common.{◌≡◌, ℕ, ◌+◌, ◌*◌, ◌≤◌, Bool, true, false, List, [], ◌∷◌, ◌++◌, length, sum_by, if◌then◌else◌, refl, ◌∙◌, arith, None, rules}
use Rattle.std.specs.List.{count_by}
use Rattle.std.proofs.lemmas.List.{length-append}
use Rattle.std.proofs.lemmas.List.Sums.{sum_by-append, sum_by-cons}
use Rattle.std.proofs.Math.Nat.{mul-le-mul_left}
use Rattle.markdown_event.specs.declared.event.Name.{Name}
use Rattle.markdown_content.specs.Codes.{Code}
use Rattle.markdown_content.specs.Tree.{Forest, empty, leaf_then, group_then, leaf_codes}
use Rattle.markdown_model.specs.Setting.{Setting, within}
use Rattle.markdown_model.specs.Elements.{elements_of, text_choice}
use Rattle.markdown_model.specs.Runs.{Run, run_of, runs_of, rows_inside, rows_of}
use Rattle.markdown_model.specs.Pairs.{pair_list}
use Rattle.markdown_model.specs.InlineTree.{label_tree, pair_count, probe_bound, list_probe_bound}
use Rattle.markdown_model.proofs.ElementsCover.{codes-elements, covers_text_element}
use Rattle.markdown_model.proofs.OneElementList.{text_elements}
use Rattle.markdown_model.proofs.LabelsCover.{codes-labels_of}
use Rattle.markdown_model.proofs.PairListFacts.{pairs_are_sound}
use Rattle.markdown_model.proofs.OnePairList.{some_pair_list}
use Rattle.markdown_model_laws.specs.ProbeBounds.{ProbesAreFew}

abbrev markers : List Run → ℕ
markers runs = sum_by (λ r. length r.codes) runs

abbrev all_markers : List (List Run) → ℕ
all_markers rows = sum_by markers rows

module _ (s : Setting) where
  -- Pairs and runs, by markers.

  pairs-markers : (runs : List Run) → 2 * length (pair_list s runs) ≤ markers runs
  pairs-markers runs = (pairs_are_sound s runs (pair_list s runs) (some_pair_list s runs)).half

  all-pairs : (rows : List (List Run)) → 2 * sum_by (λ runs. length (pair_list s runs)) rows ≤ all_markers rows
  all-pairs [] = omega arith
  all-pairs (runs ∷ rows) =
      omega (arith, pairs-markers runs, all-pairs rows, sum_by-cons (λ runs. length (pair_list s runs)) runs rows, sum_by-cons markers runs rows)

  no-runs : (rows : List (List Run)) → sum_by length rows ≡ 0 → all_markers rows ≡ 0
  no-runs [] h = refl
  no-runs ([] ∷ rows) h = grind (arith, sum_by-cons, no-runs rows (omega (arith, h, sum_by-cons length [] rows)))
  no-runs ((r ∷ runs) ∷ rows) h = absurd (omega (arith, h, sum_by-cons length (r ∷ runs) rows))

  -- Runs that may open or close have markers.

  at-most-one : (b : Bool) (n : ℕ) → 1 ≤ n → (if b then 1 else 0) ≤ n
  at-most-one true n h = h
  at-most-one false n h = omega arith

  one-opener : (cs : List Code) → (if (run_of s cs).may_open then 1 else 0) ≤ length (run_of s cs).codes
  unfolding run_of
  one-opener [] = omega arith
  one-opener (c ∷ cs) = at-most-one _ (length (c ∷ cs)) (omega arith)

  one-closer : (cs : List Code) → (if (run_of s cs).may_close then 1 else 0) ≤ length (run_of s cs).codes
  unfolding run_of
  one-closer [] = omega arith
  one-closer (c ∷ cs) = at-most-one _ (length (c ∷ cs)) (omega arith)

  -- they open and close no more often than they have markers
  abbrev HaveMarkersForSides : List Run → Type 0
  HaveMarkersForSides runs = (count_by (λ r. r.may_open) runs ≤ markers runs) × (count_by (λ r. r.may_close) runs ≤ markers runs)

  row-marked : (f : Forest) → HaveMarkersForSides (runs_of s f)
  unfolding runs_of
  row-marked empty = (omega arith, omega arith)
  row-marked (leaf_then Name.AttentionSequence link cs rest) =
      let r = row-marked rest in (
        omega (arith, r.0, one-opener cs, sum_by-cons (λ r. if r.may_open then 1 else 0) (run_of s cs) (runs_of s rest), sum_by-cons (λ r. length r.codes) (run_of s cs) (runs_of s rest)),
        omega (arith, r.1, one-closer cs, sum_by-cons (λ r. if r.may_close then 1 else 0) (run_of s cs) (runs_of s rest), sum_by-cons (λ r. length r.codes) (run_of s cs) (runs_of s rest)),
      )
  row-marked (leaf_then name link cs rest) = row-marked rest
  row-marked (group_then name enter exit inside rest) = row-marked rest

  abbrev AllMarked : List (List Run) → Type 0
  AllMarked rows =
      (sum_by (count_by (λ r. r.may_open)) rows ≤ all_markers rows) × (sum_by (count_by (λ r. r.may_close)) rows ≤ all_markers rows)

  marked-first : (runs : List Run) (rows : List (List Run)) → HaveMarkersForSides runs → AllMarked rows → AllMarked (runs ∷ rows)
  marked-first runs rows h k = (
    omega (arith, h.0, k.0, sum_by-cons (count_by (λ r. r.may_open)) runs rows, sum_by-cons markers runs rows),
    omega (arith, h.1, k.1, sum_by-cons (count_by (λ r. r.may_close)) runs rows, sum_by-cons markers runs rows),
  )

  marked-append : (rows more : List (List Run)) → AllMarked rows → AllMarked more → AllMarked (rows ++ more)
  marked-append rows more h k = grind (arith, sum_by-append, sum_by-append markers rows more)

  rows-marked : (f : Forest) → AllMarked (rows_inside s f)
  unfolding rows_inside
  rows-marked empty = (omega arith, omega arith)
  rows-marked (leaf_then name link cs rest) = rows-marked rest
  rows-marked (group_then name enter exit inside rest) =
      marked-append (runs_of s inside ∷ rows_inside s inside) (rows_inside s rest) (marked-first (runs_of s inside) (rows_inside s inside) (row-marked inside) (rows-marked inside)) (rows-marked rest)

  -- Markers are codes of the tree.

  one-marked : (cs : List Code) → length (run_of s cs).codes ≡ length cs
  unfolding run_of
  one-marked [] = refl
  one-marked (c ∷ cs) = refl

  markers-codes : (f : Forest) → markers (runs_of s f) + all_markers (rows_inside s f) ≤ length (leaf_codes f)
  unfolding runs_of rows_inside
  markers-codes empty = omega arith
  markers-codes (leaf_then Name.AttentionSequence link cs rest) =
      omega (arith, markers-codes rest, one-marked cs, sum_by-cons (λ r. length r.codes) (run_of s cs) (runs_of s rest), length-append cs (leaf_codes rest))
  markers-codes (leaf_then name link cs rest) = omega (arith, markers-codes rest, length-append cs (leaf_codes rest))
  markers-codes (group_then name enter exit inside rest) =
      omega (arith, markers-codes inside, markers-codes rest, sum_by-append markers (runs_of s inside ∷ rows_inside s inside) (rows_inside s rest), sum_by-cons markers (runs_of s inside) (rows_inside s inside), length-append (leaf_codes inside) (leaf_codes rest))

  -- Any tree.

  for-each-pair : (p r : ℕ) → (r ≡ 0 → p ≡ 0) → p ≤ (r + p) * r
  for-each-pair p r h0 = grind (arith, mul-le-mul_left)

  tree-pairs : (f : Forest) → pair_count s f ≤ probe_bound s f
  tree-pairs f = grind (arith, for-each-pair, all-pairs, no-runs)

  -- what the rows open and close is no more than their markers, and these are codes of the tree
  tree-sums : (f : Forest) → AllMarked (rows_of s f) × (all_markers (rows_of s f) ≤ length (leaf_codes f))
  unfolding rows_of
  tree-sums f = (
    marked-first (runs_of s f) (rows_inside s f) (row-marked f) (rows-marked f),
    omega (arith, sum_by-cons markers (runs_of s f) (rows_inside s f), markers-codes f),
  )

  label-codes : (cs : List Code) → leaf_codes (label_tree s cs) ≡ cs
  unfolding label_tree
  label-codes cs =
      codes-labels_of (elements_of s cs) ∙ codes-elements (text_choice s cs) (λ earlier previous. covers_text_element (within cs s) _ earlier previous) (elements_of s cs) [] None cs (text_elements s cs)

tree-probes : (s : Setting) (f : Forest) → list_probe_bound s f ≤ 11 * length (leaf_codes f)
tree-probes s f =
    let there : Setting = within (leaf_codes f) s in
    let sums = tree-sums there f in
    omega (arith, sums.0.0, sums.0.1, sums.1, all-pairs s (rows_of there f))

pub probes_are_few : ProbesAreFew
probes_are_few s cs = search (rules, tree-pairs, tree-probes, label-codes)
