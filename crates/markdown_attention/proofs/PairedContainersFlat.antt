-- The rows of a tree with its pair lists are flat.
use Rattle.std.proofs.Common.{◌≡◌, ℕ, zero, suc, true, List, ◌∷◌, sym, subst, arith, []}
use Rattle.std.proofs.lemmas.Bool.{cases_Bool}
use Rattle.markdown_content.specs.Tree.{Forest, empty, leaf_then, group_then}
use Rattle.markdown_model.specs.BracketGroups.{tokens_of}
use Rattle.markdown_model.specs.Pairs.{Pair, run_at, IsPairList, pair_list}
use Rattle.markdown_model.specs.Runs.{Run, marker_of, runs_of}
use Rattle.markdown_model.specs.Setting.{Setting}
use Rattle.markdown_model.proofs.PairListFacts.{pairs_are_sound}
use Rattle.markdown_model.proofs.OnePairList.{some_pair_list}
use Rattle.markdown_attention.specs.RunsOfTree.{has_run}
use Rattle.markdown_attention.specs.AttentionTrees.{HasStripes}
use Rattle.markdown_attention.specs.TokenWord.{HasMarker, IsUnlinkedRow, IsFlat, IsPairable}
use Rattle.markdown_attention.proofs.AttentionPassLaw.{run-codes}
use Rattle.markdown_attention.proofs.PairsInRunOrder.{ranked}
use Rattle.markdown_attention.proofs.ContainerBrackets.{AreCut, row-matches, no-brackets, runs-empty, runs-run, runs-leaf, runs-group, run-name}
use Rattle.markdown_attention.proofs.TokenEvents.{stripe-marker}

abbrev AreOfOneMarker : List Run → Type 0
AreOfOneMarker [] = Unit {0}
AreOfOneMarker (r ∷ rs) = HasMarker (marker_of r.codes) r.codes × AreOfOneMarker rs

marked-at : (rs : List Run) (i : ℕ) → AreOfOneMarker rs → HasMarker (marker_of (run_at rs i).codes) (run_at rs i).codes
marked-at [] i h = tt
marked-at (r ∷ rs) zero h = h.0
marked-at (r ∷ rs) (suc i) h = marked-at rs i h.1

module _ (s : Setting) where
  marked-row : (t : Forest) → HasStripes t → AreOfOneMarker (runs_of s t)
  marked-row empty h = subst (λ (rs : List Run). AreOfOneMarker rs) (sym (runs-empty s)) tt
  marked-row (leaf_then name link cs rest) h = grind (arith, cases_Bool, run-name, runs-run, run-codes, stripe-marker, marked-row rest h.1, runs-leaf)
  marked-row (group_then name a b inside rest) h =
      subst (λ (rs : List Run). AreOfOneMarker rs) (sym (runs-group s name a b inside rest)) (marked-row rest h.1.1)

  pub cut-row : (t : Forest) (ps : List Pair) → HasStripes t → IsPairList s (runs_of s t) ps → AreCut (runs_of s t) ps
  cut-row t ps h l =
      record { ranked = ranked s (runs_of s t) ps l; once = (pairs_are_sound s (runs_of s t) ps l).taken_once; marked = λ i. marked-at (runs_of s t) i (marked-row t h) }

  pub flat-row : (t : Forest) → HasStripes t → (has_run t ≡ true → IsUnlinkedRow t) →
      IsFlat (tokens_of s (pair_list s) t (pair_list s (runs_of s t)) 0)
  flat-row t h u = grind (arith, row-matches, cut-row, some_pair_list, no-brackets)

  pub ready-row : (t : Forest) → HasStripes t → IsPairable s (pair_list s) t
  ready-row empty h = tt
  ready-row (leaf_then name link cs rest) h = (λ e. (h.0 e).0, ready-row rest h.1)
  ready-row (group_then name a b inside rest) h =
      ((h.0.0, flat-row inside h.1.0 h.0.1), (ready-row inside h.1.0, ready-row rest h.1.1))
