-- No run of markers is left in the inline tree of a text: each is cut into markers of pairs and data.
use Rattle.std.proofs.Common.{◌≡◌, ℕ, suc, Bool, true, false, List, [], ◌∷◌, refl, arith}
use Rattle.markdown_event.specs.declared.event.Name.{Name}
use Rattle.markdown_content.specs.Codes.{Code}
use Rattle.markdown_content.specs.Tree.{Forest, empty, leaf_then, group_then, leaf, leaf_codes}
use Rattle.markdown_model.specs.Setting.{Setting, within}
use Rattle.markdown_model.specs.Runs.{Run, run_of, runs_of}
use Rattle.markdown_model.specs.Pairs.{Pair, pair_list}
use Rattle.markdown_model.specs.Elements.{elements_of}
use Rattle.markdown_model.specs.BracketGroups.{Token, run_tokens, assembled, tokens_of, paired}
use Rattle.markdown_model.specs.Passes.{HardBreaks, breaks, merged, trimmed, with_emails_apart, labels_of}
use Rattle.markdown_model.specs.InlineTree.{raw_tree, finished_text, text_tree, paired_whole}
use Rattle.markdown_model.specs.Laws.{is_run, HasNoRun, NoRunIsLeft}
use Rattle.markdown_model.proofs.GivenNames.{pair-named, email-named}
use Rattle.markdown_model.proofs.BracketGroupFacts.{word-append}
use Rattle.markdown_model.proofs.PairGroupFacts.{Any, any-parts, HasWord, run-has, assembled-has}
use Rattle.markdown_model.proofs.PassedTrees.{HoldsByParts, walks-row, walks-merged, walks-trimmed, walks-mailed, trimmed_data-has, with_emails-has}

no_run : HoldsByParts HasNoRun (λ name link cs. is_run name ≡ false) (λ name a b inside. Unit {0})
no_run = grind (arith)

no_run-leaf : (name : Name) (cs : List Code) → is_run name ≡ false → HasNoRun (leaf name cs)
no_run-leaf name [] h = tt
no_run-leaf name (c ∷ cs) h = (h, tt)

no_run-data : (cs : List Code) → HasNoRun (leaf Name.Data cs)
no_run-data cs = no_run-leaf Name.Data cs refl

-- Pairs.

abbrev TokensNoRun : List Token → Type 0
TokensNoRun ts = HasWord HasNoRun Any (λ cs _. no_run-data cs) ts

no_run-assembled : (ts : List Token) → TokensNoRun ts → HasNoRun (assembled ts)
no_run-assembled ts h =
    assembled-has HasNoRun Any (λ cs _. no_run-data cs) tt (walks-row no_run) (λ m n cs _. no_run-leaf _ cs (pair-named (λ names. is_run names.1 ≡ false) refl refl refl m n)) (λ m n a b f k. (k, tt)) (λ m n a b f k. (k, tt)) ts h

module _ (s : Setting) (pairs_of : List Run → List Pair) where
  no_run-tokens_of : (f : Forest) (pairs : List Pair) (n : ℕ) → TokensNoRun (tokens_of s pairs_of f pairs n)
  unfolding tokens_of
  no_run-tokens_of empty pairs n = tt
  no_run-tokens_of (leaf_then Name.AttentionSequence link cs rest) pairs n =
      word-append HasNoRun Any Any (run_tokens pairs n (run_of s cs)) (tokens_of s pairs_of rest pairs (suc n))
      (run-has HasNoRun Any (λ ds _. no_run-data ds) any-parts pairs n (run_of s cs) tt) (no_run-tokens_of rest pairs (suc n))
  no_run-tokens_of (leaf_then name link cs rest) pairs n = ((refl, tt), no_run-tokens_of rest pairs n)
  no_run-tokens_of (group_then name enter exit inside rest) pairs n =
      ((no_run-assembled (tokens_of s pairs_of inside (pairs_of (runs_of s inside)) 0) (no_run-tokens_of inside (pairs_of (runs_of s inside)) 0), tt), no_run-tokens_of rest pairs n)

  no_run-paired : (f : Forest) → HasNoRun (paired s pairs_of f)
  unfolding paired
  no_run-paired f =
      no_run-assembled (tokens_of s pairs_of f (pairs_of (runs_of s f)) 0) (no_run-tokens_of f (pairs_of (runs_of s f)) 0)

-- Other passes.

no_run-merged : (f : Forest) → HasNoRun f → HasNoRun (merged f)
no_run-merged f h = walks-merged no_run (λ cs ds _ _. refl) (λ name a b inside _ g. g) f h

no_run-trimmed : (hard : HardBreaks) (front whole : Bool) (f : Forest) → HasNoRun f → HasNoRun (trimmed hard front whole f)
no_run-trimmed hard front whole f h =
    walks-trimmed no_run hard (λ x y z cs _. trimmed_data-has HasNoRun (walks-row no_run) no_run-data (λ ds. no_run-leaf Name.HardBreakTrailing ds refl) (λ ds. no_run-leaf Name.SpaceOrTab ds refl) x y z cs) (λ name a b inside _ g. g) front whole f h

no_run-mailed : (f : Forest) → HasNoRun f → HasNoRun (with_emails_apart f)
no_run-mailed f h =
    walks-mailed no_run (λ cs _. with_emails-has HasNoRun (walks-row no_run) no_run-data (λ before ds. no_run-leaf _ ds (email-named (λ name. is_run name ≡ false) refl refl refl before)) cs) (λ name a b inside _ g. g) f h

pub no_run_is_left : NoRunIsLeft
unfolding text_tree finished_text raw_tree
no_run_is_left s cs = by_test s.options.constructs.gfm_autolink_literal
  where
    done : Forest
    done = trimmed (breaks s) true true (merged (paired_whole s (pair_list s) (labels_of (elements_of s cs))))

    has_none : HasNoRun done
    has_none = no_run-trimmed (breaks s) true true _ (no_run-merged _ (no_run-paired (within (leaf_codes (labels_of (elements_of s cs))) s) (pair_list s) (labels_of (elements_of s cs))))

    by_test : (b : Bool) → HasNoRun (elim b [ true ↦ with_emails_apart done | false ↦ done ])
    by_test true = no_run-mailed done has_none
    by_test false = has_none
