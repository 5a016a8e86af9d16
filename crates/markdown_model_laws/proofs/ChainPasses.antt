-- The passes keep rows of linked leaves as they are, so the inline tree of each content has linked leaves in groups of their own.
use Rattle.std.proofs.Common.{◌≡◌, ℕ, suc, Bool, true, false, ◌&&◌, ◌||◌, List, Some, None, refl, sym, subst, inl, inr, arith}
use Rattle.markdown_event.specs.declared.event.Name.{Name}
use Rattle.markdown_event.specs.declared.event.Name.TheVariants as N
use Rattle.markdown_event.specs.declared.event.Content.{Content}
use Rattle.markdown_content.specs.Codes.{Code}
use Rattle.markdown_content.specs.Tree.{Forest, empty, leaf_then, group_then, leaf, leaf_codes}
use Rattle.markdown_model.specs.GfmEmailLiteral.{with_emails}
use Rattle.markdown_model.specs.BracketGroups.{Token, run_tokens, assembled, tokens_of, paired}
use Rattle.markdown_model.specs.InlineTree.{text_tree, string_tree}
use Rattle.markdown_model.specs.Pairs.{Pair, pair_list}
use Rattle.markdown_model.specs.Passes.{HardBreaks, breaks_where, data_onto, merged, begins_line_ending, is_nothing, trimmed_data, trimmed, with_emails_apart}
use Rattle.markdown_model.specs.Runs.{Run, run_of, runs_of}
use Rattle.markdown_model.specs.Setting.{Setting, within}
use Rattle.markdown_model.proofs.BracketGroupFacts.{word-append}
use Rattle.markdown_model.proofs.PairGroupFacts.{Any, any-parts, HasWord, run-has, assembled-has}
use Rattle.markdown_model.proofs.PassedTrees.{with_emails-has}
use Rattle.markdown_model_laws.proofs.EachPass.{labels_in, trees-have}
use Rattle.markdown_model_laws.proofs.ChainTrees.{AreLinkedLeaves, HasChains, row, one-leaf, text-labels, string-labels}

-- Pairs.

data-has : (cs : List Code) → Any cs → HasChains (leaf N.Data cs)
data-has cs h = one-leaf N.Data cs

abbrev WordHasChains : List Token → Type 0
WordHasChains w = HasWord HasChains Any data-has w

assembled-chains : (w : List Token) → WordHasChains w → HasChains (assembled w)
assembled-chains w h =
    assembled-has HasChains Any data-has tt row (λ m n cs _. one-leaf _ cs) (λ m n a b f k. (inl k, tt)) (λ m n a b f k. (inl k, tt)) w h

module _ (s : Setting) (pairs_of : List Run → List Pair) where
  linked-assembled : (t : Forest) (pairs : List Pair) (n : ℕ) → AreLinkedLeaves t → AreLinkedLeaves (assembled (tokens_of s pairs_of t pairs n))
  unfolding tokens_of
  linked-assembled empty pairs n h = tt
  linked-assembled (leaf_then N.AttentionSequence (Some link) cs rest) pairs n h = let no : true ≡ false = h.0 in cc
  linked-assembled (leaf_then name (Some link) cs rest) pairs n h = (h.0, linked-assembled rest pairs n h.1)
  linked-assembled t pairs n h = absurd h

  tokens-chains : (f : Forest) (pairs : List Pair) (n : ℕ) → HasChains f → WordHasChains (tokens_of s pairs_of f pairs n)
  unfolding tokens_of
  tokens-chains empty pairs n h = tt
  tokens-chains (leaf_then N.AttentionSequence link cs rest) pairs n h =
      word-append HasChains Any Any (run_tokens pairs n (run_of s cs)) (tokens_of s pairs_of rest pairs (suc n)) (run-has HasChains Any data-has any-parts pairs n (run_of s cs) tt) (tokens-chains rest pairs (suc n) h.1)
  tokens-chains (leaf_then name link cs rest) pairs n h = ((h.0, tt), tokens-chains rest pairs n h.1)
  tokens-chains (group_then name a b inside rest) pairs n (inl h, more) =
      let own : List Pair = pairs_of (runs_of s inside) in
      ((inl (assembled-chains (tokens_of s pairs_of inside own 0) (tokens-chains inside own 0 h)), tt), tokens-chains rest pairs n more)
  tokens-chains (group_then name a b inside rest) pairs n (inr h, more) = grind (arith, linked-assembled, tokens-chains rest pairs n more)

  paired-chains : (f : Forest) → HasChains f → HasChains (paired s pairs_of f)
  unfolding paired
  paired-chains f h =
      assembled-chains (tokens_of s pairs_of f (pairs_of (runs_of s f)) 0) (tokens-chains f (pairs_of (runs_of s f)) 0 h)

-- Linked leaves.

-- what keeps each linked leaf, and nothing else, keeps a row of them
linked-kept : (f : Forest → Forest) → f empty ≡ empty
    → ((name : Name) (link : Content) (cs : List Code) (rest : Forest) → f (leaf_then name (Some link) cs rest) ≡ leaf_then name (Some link) cs (f rest))
    → (t : Forest) → AreLinkedLeaves t → AreLinkedLeaves (f t)
linked-kept f none keeps (leaf_then name (Some link) cs rest) h =
    subst AreLinkedLeaves (sym (keeps name link cs rest)) (h.0, linked-kept f none keeps rest h.1)
linked-kept f none keeps t h = grind arith

-- Merging.

linked-merged : (t : Forest) → AreLinkedLeaves t → AreLinkedLeaves (merged t)
unfolding merged
linked-merged = linked-kept merged refl keeps
  where
    keeps : (name : Name) (link : Content) (cs : List Code) (rest : Forest) →
        merged (leaf_then name (Some link) cs rest) ≡ leaf_then name (Some link) cs (merged rest)
    keeps N.Data link cs rest = refl
    keeps name link cs rest = refl

onto-chains : (cs : List Code) (t : Forest) → HasChains t → HasChains (data_onto cs t)
onto-chains cs (leaf_then N.Data None more rest) h = h
onto-chains cs t h = (refl, h)

merged-chains : (t : Forest) → HasChains t → HasChains (merged t)
unfolding merged
merged-chains empty h = tt
merged-chains (leaf_then N.Data None cs rest) h = onto-chains cs (merged rest) (merged-chains rest h.1)
merged-chains (leaf_then name link cs rest) h = (h.0, merged-chains rest h.1)
merged-chains (group_then name a b inside rest) (inl h, more) = (inl (merged-chains inside h), merged-chains rest more)
merged-chains (group_then name a b inside rest) (inr h, more) = (inr (linked-merged inside h), merged-chains rest more)

-- Trimming.

cut-chains : (front back : Bool) (hard : HardBreaks) (cs : List Code) → HasChains (trimmed_data front back hard cs)
cut-chains front back hard cs = grind (arith, row, one-leaf)

module _ (hard : HardBreaks) where
  linked-trimmed : (front whole : Bool) (t : Forest) → AreLinkedLeaves t → AreLinkedLeaves (trimmed hard front whole t)
  unfolding trimmed
  linked-trimmed front whole (leaf_then N.LineEnding (Some link) cs rest) h = (refl, linked-trimmed true whole rest h.1)
  linked-trimmed front whole (leaf_then name (Some link) cs rest) h = (h.0, linked-trimmed false whole rest h.1)
  linked-trimmed front whole t h = grind arith

  trimmed-chains : (front whole : Bool) (t : Forest) → HasChains t → HasChains (trimmed hard front whole t)
  unfolding trimmed
  trimmed-chains front whole empty h = tt
  trimmed-chains front whole (leaf_then N.Data None cs rest) h =
      row (trimmed_data front (begins_line_ending rest || (whole && is_nothing rest)) (breaks_where hard (begins_line_ending rest)) cs) (trimmed hard false whole rest) (cut-chains front (begins_line_ending rest || (whole && is_nothing rest)) (breaks_where hard (begins_line_ending rest)) cs) (trimmed-chains false whole rest h.1)
  trimmed-chains front whole (leaf_then N.LineEnding link cs rest) h = (h.0, trimmed-chains true whole rest h.1)
  trimmed-chains front whole (leaf_then name link cs rest) h = (h.0, trimmed-chains false whole rest h.1)
  trimmed-chains front whole (group_then name a b inside rest) (inl h, more) = (inl (trimmed-chains false false inside h), trimmed-chains false whole rest more)
  trimmed-chains front whole (group_then name a b inside rest) (inr h, more) = (inr (linked-trimmed false false inside h), trimmed-chains false whole rest more)

-- Emails.

emails-chains : (cs : List Code) → HasChains (with_emails cs)
emails-chains cs = with_emails-has HasChains row (λ ds. one-leaf N.Data ds) (λ before ds. one-leaf _ ds) cs

linked-mailed : (t : Forest) → AreLinkedLeaves t → AreLinkedLeaves (with_emails_apart t)
unfolding with_emails_apart
linked-mailed = linked-kept with_emails_apart refl keeps
  where
    keeps : (name : Name) (link : Content) (cs : List Code) (rest : Forest) →
        with_emails_apart (leaf_then name (Some link) cs rest) ≡ leaf_then name (Some link) cs (with_emails_apart rest)
    keeps N.Data link cs rest = refl
    keeps name link cs rest = refl

mailed-chains : (t : Forest) → HasChains t → HasChains (with_emails_apart t)
unfolding with_emails_apart
mailed-chains empty h = tt
mailed-chains (leaf_then N.Data None cs rest) h = grind (arith, row, emails-chains, mailed-chains rest h.1)
mailed-chains (leaf_then name link cs rest) h = (h.0, mailed-chains rest h.1)
mailed-chains (group_then N.Link a b inside rest) h = (h.0, mailed-chains rest h.1)
mailed-chains (group_then name a b inside rest) (inl h, more) = (inl (mailed-chains inside h), mailed-chains rest more)
mailed-chains (group_then name a b inside rest) (inr h, more) = (inr (linked-mailed inside h), mailed-chains rest more)

-- The inline trees.

pub trees-have-chains : (s : Setting) (cs : List Code) → HasChains (text_tree s cs) × HasChains (string_tree s cs)
trees-have-chains s cs =
    trees-have HasChains (record { merging = merged-chains; trimming = trimmed-chains; mailing = mailed-chains }) s cs
    (paired-chains (within (leaf_codes (labels_in s cs)) s) (pair_list s) (labels_in s cs) (text-labels s cs)) (string-labels s cs)
