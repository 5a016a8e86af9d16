-- Pairing keeps what is said of the lines of a tree: no data that it makes is empty or holds a line ending.
use Rattle.std.proofs.Common.{◌≡◌, ◌≢◌, ℕ, suc, true, false, Option, List, [], None, refl, ap, ◌∙◌, arith}
use Rattle.std.specs.List.{list_any}
use Rattle.markdown_content.specs.Codes.{Code, is_line_ending}
use Rattle.markdown_content.specs.Tree.{Forest, empty, leaf_then, group_then, leaf}
use Rattle.markdown_event.specs.declared.event.Content.{Content}
use Rattle.markdown_event.specs.declared.event.Name.{Name}
use Rattle.markdown_event.specs.declared.event.Name.TheVariants as N
use Rattle.markdown_attention.specs.RunsRead.{is_run}
use Rattle.markdown_attention.specs.AttentionTrees.{HasStripes}
use Rattle.markdown_model.specs.BracketGroups.{pair_names, Token, run_tokens, assembled, tokens_of, paired}
use Rattle.markdown_model.specs.Pairs.{Pair}
use Rattle.markdown_model.specs.Runs.{Run, run_of, runs_of}
use Rattle.markdown_model.specs.Setting.{Setting}
use Rattle.markdown_model.proofs.PassesKeepCodes.{codes-run_of}
use Rattle.markdown_passes.specs.MergedEvents.{is_data}
use Rattle.markdown_passes.specs.TrimmedEvents.{is_ending}
use Rattle.markdown_innermost.specs.OneLineLeaves.{makes_data}
use Rattle.markdown_run_text.specs.RowTreeNames.{HasRowLines}
use Rattle.markdown_run_text.proofs.RowJoins.{HasLines-row}
use Rattle.markdown_model.specs.CodeLines.{IsLine}
use Rattle.markdown_innermost.proofs.OneLineTrees.{line-parts}
use Rattle.markdown_model.proofs.GivenNames.{pair-named}
use Rattle.markdown_model.proofs.PairGroupFacts.{run-has, assembled-has}
use Rattle.markdown_model.proofs.BracketGroupFacts.{WordHas, word-append}

lines-leaf : (name : Name) (cs : List Code) → IsLine cs → HasRowLines (leaf name cs)
lines-leaf name cs h = grind arith

-- items on lines, and brackets on lines
abbrev HasLineWord : List Token → Type 0
HasLineWord w = WordHas HasRowLines IsLine IsLine w

-- the groups of pairs are no data and no line ending
abbrev IsGroupName : Name → Type 0
IsGroupName n = (is_data n ≡ false) × (is_ending n ≡ false)

group-names : (marker size : ℕ) → IsGroupName (pair_names marker size).0 × IsGroupName (pair_names marker size).2
group-names = grind (arith, pair-named)

assembled-lines : (w : List Token) → HasLineWord w → HasRowLines (assembled w)
assembled-lines w h = grind (arith, assembled-has, lines-leaf, HasLines-row, group-names)

module _ (s : Setting) (pairs_of : List Run → List Pair) where
  -- of a leaf: a run is not linked, and its codes are in lines
  leaf-has : (name : Name) (link : Option Content) (cs : List Code) (rest : Forest) (ps : List Pair) (n : ℕ) → (makes_data name ≡ true → link ≡ None → (cs ≢ []) × IsLine cs) → (is_run name ≡ true → link ≡ None)
      → ((m : ℕ) → HasLineWord (tokens_of s pairs_of rest ps m)) → HasLineWord (tokens_of s pairs_of (leaf_then name link cs rest) ps n)
  unfolding tokens_of
  leaf-has N.AttentionSequence link cs rest ps n g bare h =
      word-append HasRowLines IsLine IsLine (run_tokens ps n (run_of s cs)) (tokens_of s pairs_of rest ps (suc n)) (run-has HasRowLines IsLine (lines-leaf N.Data) line-parts ps n (run_of s cs) (ap (list_any is_line_ending) (codes-run_of s cs) ∙ (g refl (bare refl)).1)) (h (suc n))
  leaf-has name link cs rest ps n g bare h = ((g, tt), h n)

  tokens-has : (t : Forest) (ps : List Pair) (n : ℕ) → HasRowLines t → HasStripes t → HasLineWord (tokens_of s pairs_of t ps n)
  unfolding tokens_of
  tokens-has empty ps n h k = tt
  tokens-has (leaf_then name link cs rest) ps n h k = grind (arith, leaf-has, tokens-has rest ps)
  tokens-has (group_then name a b inside rest) ps n h k = grind (arith, assembled-lines, tokens-has inside (pairs_of (runs_of s inside)) 0, tokens-has rest ps n)

  pub HasLines-paired : (t : Forest) → HasRowLines t → HasStripes t → HasRowLines (paired s pairs_of t)
  unfolding paired
  HasLines-paired t h k = grind (arith, assembled-lines, tokens-has)
