-- Sums over the runs of all containers of a tree, where some of its runs are data.
use Rattle.std.proofs.Common.{◌≡◌, ℕ, ◌+◌, ◌≤◌, Bool, false, List, ◌∷◌, ◌++◌, length, None, arith, sum_by}
use Rattle.std.proofs.lemmas.List.{length-append}
use Rattle.std.proofs.lemmas.List.Sums.{sum_by-cons, sum_by-append}
use Rattle.std.specs.List.{count_by}
use Rattle.markdown_content.specs.Codes.{Code}
use Rattle.markdown_content.specs.Tree.{Forest, empty, leaf_then, group_then, ◌⊕◌}
use Rattle.markdown_event.specs.declared.event.Name.{Name}
use Rattle.markdown_event.specs.declared.event.Name.TheVariants as N
use Rattle.markdown_event.specs.declared.event.Point.{Point}
use Rattle.markdown_model.specs.Runs.{Run, run_of, runs_of, rows_inside, rows_of}
use Rattle.markdown_model.specs.Setting.{Setting}
use Rattle.markdown_run_text.proofs.NeutralRuns.{runs-row, runs-inside}

module _ (s : Setting) (m : List Run → ℕ) where
  -- what a count of the runs of a row comes to over all rows, and over those inside groups
  abbrev pub over_rows : Forest → ℕ
  over_rows t = sum_by m (rows_of s t)

  abbrev over_inside : Forest → ℕ
  over_inside t = sum_by m (rows_inside s t)

  rows-is : (t : Forest) → over_rows t ≡ m (runs_of s t) + over_inside t
  unfolding rows_of
  rows-is t = sum_by-cons m (runs_of s t) (rows_inside s t)

  inside-group : (name : Name) (p q : Point) (t rest : Forest) →
      over_inside (group_then name p q t rest) ≡ over_rows t + over_inside rest
  unfolding rows_inside rows_of
  inside-group name p q t rest = sum_by-append m (runs_of s t ∷ rows_inside s t) (rows_inside s rest)

  inside-join : (t u : Forest) → over_inside (t ⊕ u) ≡ over_inside t + over_inside u
  unfolding rows_inside
  inside-join empty u = omega arith
  inside-join (leaf_then name link cs rest) u = inside-join rest u
  inside-join (group_then name p q t rest) u = grind (arith, inside-group name p q t (rest ⊕ u), inside-group name p q t rest, inside-join rest u)

  -- a group counts with what stands inside it
  pub with-group : (a : Forest) (name : Name) (p q : Point) (t rest : Forest) →
      over_rows (a ⊕ group_then name p q t rest) ≡ m (runs_of s (a ⊕ group_then name p q empty rest)) + (over_inside a + over_inside rest) + over_rows t
  with-group a name p q t rest = grind (arith, rows-is, runs-inside, inside-join, inside-group)

  inside-leaf : (a b : Forest) (cs : List Code) →
      over_inside (a ⊕ leaf_then N.AttentionSequence None cs b) ≡ over_inside (a ⊕ leaf_then N.Data None cs b)
  unfolding rows_inside
  inside-leaf a b cs = grind (arith, inside-join)

  -- what stands inside groups counts the same
  pub with-data : (a b : Forest) (cs : List Code) (R : ℕ → ℕ → Type 0)
      → ((k x y : ℕ) → R x y → R (x + k) (y + k))
      → R (m (runs_of s (a ⊕ leaf_then N.AttentionSequence None cs b))) (m (runs_of s (a ⊕ leaf_then N.Data None cs b)))
      → R (over_rows (a ⊕ leaf_then N.AttentionSequence None cs b)) (over_rows (a ⊕ leaf_then N.Data None cs b))
  with-data a b cs R more h = grind (arith, rows-is, inside-leaf)

module _ (s : Setting) (a : Forest) (c : Code) (cs : List Code) (b : Forest) where
  abbrev with_run : Forest
  with_run = a ⊕ leaf_then N.AttentionSequence None (c ∷ cs) b

  abbrev with_data : Forest
  with_data = a ⊕ leaf_then N.Data None (c ∷ cs) b

  runs-with : runs_of s with_run ≡ runs_of s a ++ run_of s (c ∷ cs) ∷ runs_of s b
  unfolding runs_of
  runs-with = runs-row s a (leaf_then N.AttentionSequence None (c ∷ cs) b)

  runs-without : runs_of s with_data ≡ runs_of s a ++ runs_of s b
  unfolding runs_of
  runs-without = runs-row s a (leaf_then N.Data None (c ∷ cs) b)

  -- a row has no more runs where one is data
  pub fewer-runs : length (runs_of s with_data) ≤ length (runs_of s with_run)
  fewer-runs = grind (arith, runs-without, length-append, runs-with)

  -- and as many that pass a test as before, if the run does not pass it
  pub as-many-pass : (p : Run → Bool) → p (run_of s (c ∷ cs)) ≡ false →
      count_by p (runs_of s with_run) ≡ count_by p (runs_of s with_data)
  as-many-pass p h = grind (arith, runs-with, sum_by-append, sum_by-cons, runs-without)
