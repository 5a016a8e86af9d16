-- Trees without runs of markers: there is nothing to pair in them.
use Rattle.std.proofs.Common.{◌≡◌, ℕ, false, List, [], ◌∷◌, ◌++◌, length, sum_by, Option, refl, ap, ◌∙◌, append-nil, arith}
use Rattle.std.proofs.lemmas.List.Sums.{sum_by-append, sum_by-cons}
use Rattle.markdown_content.specs.Codes.{Code}
use Rattle.markdown_content.specs.Tree.{Forest, empty, leaf_then, group_then, leaf_codes}
use Rattle.markdown_event.specs.declared.event.Content.{Content}
use Rattle.markdown_event.specs.declared.event.Name.{Name}
use Rattle.markdown_attention.specs.RunsRead.{is_run}
use Rattle.markdown_attention.specs.AttentionPass.{IsProbed}
use Rattle.markdown_model.specs.BracketGroups.{nest, after_loose, joined, loose, pair_group, assembled, tokens_of, paired, Token, item}
use Rattle.markdown_model.specs.Pairs.{Pair, pairs_after, pair_list}
use Rattle.markdown_model.specs.Runs.{Run, runs_of, rows_inside, containers_of, rows_of}
use Rattle.markdown_model.specs.Setting.{Setting, within}
use Rattle.markdown_run_text.specs.RowTreeNames.{IsRunless}

module _ (s : Setting) (pairs_of : List Run → List Pair) where
  tokens-leaf : (name : Name) (link : Option Content) (cs : List Code) (rest : Forest) (pairs : List Pair) (n : ℕ) → is_run name ≡ false
      → tokens_of s pairs_of (leaf_then name link cs rest) pairs n ≡ item (leaf_then name link cs empty) ∷ tokens_of s pairs_of rest pairs n
  unfolding tokens_of
  tokens-leaf name link cs rest pairs n e = grind arith

  -- these tokens are items, which joined are this tree
  abbrev AreItemsOf : List Token → Forest → Type 0
  AreItemsOf ts t = (joined (nest pair_group loose loose ts).0 ≡ t) × ((nest pair_group loose loose ts).1 ≡ [])

  assembled-items : (ts : List Token) (t : Forest) → AreItemsOf ts t → assembled ts ≡ t
  assembled-items ts t h =
      let r = nest pair_group loose loose ts in
      ap (λ x. joined (r.0 ++ after_loose pair_group loose loose x)) h.1 ∙ ap joined (append-nil r.0) ∙ h.0

  tokens-runless : (t : Forest) (pairs : List Pair) (n : ℕ) → IsRunless t →
      AreItemsOf (tokens_of s pairs_of t pairs n) t
  unfolding tokens_of
  tokens-runless empty pairs n h = (refl, refl)
  tokens-runless (leaf_then name link cs rest) pairs n h = grind (arith, tokens-leaf, tokens-runless rest pairs n)
  tokens-runless (group_then name enter exit inside rest) pairs n h = grind (arith, assembled-items (tokens_of s pairs_of inside (pairs_of (runs_of s inside)) 0) inside, tokens-runless rest pairs n, tokens-runless inside (pairs_of (runs_of s inside)) 0)

  pub paired-runless : (t : Forest) → IsRunless t → paired s pairs_of t ≡ t
  unfolding paired
  paired-runless t h = grind (arith, assembled-items, tokens-runless)

-- Its containers have no runs, and so no pairs.

module _ (s : Setting) where
  leaf-runs : (name : Name) (link : Option Content) (cs : List Code) (rest : Forest) → is_run name ≡ false →
      runs_of s (leaf_then name link cs rest) ≡ runs_of s rest
  unfolding runs_of
  leaf-runs name link cs rest e = grind arith

  no-runs : (t : Forest) → IsRunless t → runs_of s t ≡ []
  unfolding runs_of
  no-runs empty h = refl
  no-runs (leaf_then name link cs rest) h = leaf-runs name link cs rest h.0 ∙ no-runs rest h.1
  no-runs (group_then name enter exit inside rest) h = no-runs rest h.1

  -- a number that a row without runs does not have adds up to nothing
  none-inside : (f : List Run → ℕ) → f [] ≡ 0 → (t : Forest) → IsRunless t → sum_by f (rows_inside s t) ≡ 0
  unfolding rows_inside
  none-inside f e empty h = refl
  none-inside f e (leaf_then name link cs rest) h = none-inside f e rest h.1
  none-inside f e (group_then name enter exit inside rest) h =
      let here : f (runs_of s inside) ≡ 0 = ap f (no-runs inside h.0) ∙ e in
      omega (
        arith,
        here,
        none-inside f e inside h.0,
        none-inside f e rest h.1,
        sum_by-cons f (runs_of s inside) (rows_inside s inside),
        sum_by-append f (runs_of s inside ∷ rows_inside s inside) (rows_inside s rest),
      )

  none-rows : (f : List Run → ℕ) → f [] ≡ 0 → (t : Forest) → IsRunless t → sum_by f (rows_of s t) ≡ 0
  unfolding rows_of
  none-rows f e t h = grind (arith, no-runs, none-inside, sum_by-cons)

-- The same of the tree of a whole content.

module _ (s : Setting) where
  none-in : (f : List Run → ℕ) → f [] ≡ 0 → (t : Forest) → IsRunless t → sum_by f (containers_of s t) ≡ 0
  none-in f e t h = none-rows (within (leaf_codes t) s) f e t h

  no-pairs : length (pair_list s []) ≡ 0
  unfolding pair_list pairs_after
  no-pairs = refl

  -- no look is taken
  pub unprobed : (t : Forest) → IsRunless t → IsProbed s t 0
  unprobed t h = grind (arith, none-in, no-pairs)

  -- and none may be taken
  pub probes-none : (t : Forest) (probes : ℕ) → IsRunless t → IsProbed s t probes → probes ≡ 0
  probes-none t probes h k = grind (arith, none-in, no-pairs)
