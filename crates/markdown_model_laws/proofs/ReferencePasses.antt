-- The inline tree of each content has references as they are read.
use Rattle.std.proofs.Common.{◌≡◌, ℕ, suc, Bool, true, false, ◌&&◌, ◌||◌, List, None, refl, arith}
use Rattle.markdown_event.specs.declared.event.Name.TheVariants as N
use Rattle.markdown_content.specs.Codes.{Code}
use Rattle.markdown_content.specs.Tree.{Forest, empty, leaf_then, group_then, leaf, leaf_codes}
use Rattle.markdown_model.specs.GfmEmailLiteral.{with_emails}
use Rattle.markdown_model.specs.BracketGroups.{Token, run_tokens, assembled, tokens_of, paired}
use Rattle.markdown_model.specs.Pairs.{Pair, pair_list}
use Rattle.markdown_model.specs.Passes.{HardBreaks, breaks_where, data_onto, merged, begins_line_ending, is_nothing, trimmed_data, trimmed, with_emails_apart}
use Rattle.markdown_model.specs.Runs.{Run, run_of, runs_of}
use Rattle.markdown_model.specs.Setting.{Setting, within}
use Rattle.markdown_model.proofs.BracketGroupFacts.{word-append}
use Rattle.markdown_model.proofs.GivenNames.{pair-named, email-named}
use Rattle.markdown_model.proofs.PairGroupFacts.{Any, any-parts, HasWord, run-has, assembled-has}
use Rattle.markdown_model.proofs.PassedTrees.{with_emails-has}
use Rattle.markdown_model_laws.proofs.EachPass.{labels_in, trees-have}
use Rattle.markdown_model_laws.proofs.ReferenceTrees.{is_free, named_row, decimal_row, hexadecimal_row, IsReference, HasReferences, ReferencesAreKnown}
use Rattle.markdown_model_laws.proofs.ReferenceRows.{row, free-leaf, free-between}
use Rattle.markdown_model_laws.proofs.ReferenceElements.{text-labels, string-labels}

-- What keeps the leaves of a reference keeps a reference.
reference-kept : (f : Forest → Forest) → ((front value back : List Code) → f (named_row front value back) ≡ named_row front value back)
    → ((front number value back : List Code) → f (decimal_row front number value back) ≡ decimal_row front number value back)
    → ((front number x value back : List Code) → f (hexadecimal_row front number x value back) ≡ hexadecimal_row front number x value back)
    → (t : Forest) → IsReference t → IsReference (f t)
reference-kept f x1 x2 x t x5 = grind (arith, row)

-- Pairs.

data-has : (cs : List Code) → Any cs → HasReferences (leaf N.Data cs)
data-has cs h = free-leaf N.Data cs refl

abbrev WordHasReferences : List Token → Type 0
WordHasReferences w = HasWord HasReferences Any data-has w

assembled-refers : (w : List Token) → WordHasReferences w → HasReferences (assembled w)
assembled-refers w h = grind (arith, assembled-has, row, free-leaf, pair-named, free-between)

module _ (s : Setting) (pairs_of : List Run → List Pair) where
  abbrev inner : Forest → Forest
  inner f = assembled (tokens_of s pairs_of f (pairs_of (runs_of s f)) 0)

  reference-assembled : (f : Forest) → IsReference f → IsReference (inner f)
  unfolding tokens_of
  reference-assembled f h = grind (arith, reference-kept)

  tokens-refer : (f : Forest) (pairs : List Pair) (n : ℕ) → HasReferences f → WordHasReferences (tokens_of s pairs_of f pairs n)
  unfolding tokens_of
  tokens-refer empty pairs n h = tt
  tokens-refer (leaf_then N.AttentionSequence link cs rest) pairs n h =
      word-append HasReferences Any Any (run_tokens pairs n (run_of s cs)) (tokens_of s pairs_of rest pairs (suc n)) (run-has HasReferences Any data-has any-parts pairs n (run_of s cs) tt) (tokens-refer rest pairs (suc n) h.1)
  tokens-refer (leaf_then name link cs rest) pairs n h = ((h.0, tt), tokens-refer rest pairs n h.1)
  tokens-refer (group_then N.CharacterReference a b inside rest) pairs n h = grind (arith, reference-assembled, tokens-refer rest pairs n h.1)
  tokens-refer (group_then name a b inside rest) pairs n h =
      let own : List Pair = pairs_of (runs_of s inside) in
      ((h.0, (assembled-refers (tokens_of s pairs_of inside own 0) (tokens-refer inside own 0 h.1.0), tt)), tokens-refer rest pairs n h.1.1)

  paired-refers : (f : Forest) → HasReferences f → HasReferences (paired s pairs_of f)
  unfolding paired
  paired-refers f h =
      assembled-refers (tokens_of s pairs_of f (pairs_of (runs_of s f)) 0) (tokens-refer f (pairs_of (runs_of s f)) 0 h)

-- Merging.

onto-refers : (cs : List Code) (t : Forest) → HasReferences t → HasReferences (data_onto cs t)
onto-refers cs (leaf_then N.Data None more rest) h = h
onto-refers cs t h = (refl, h)

reference-merged : (t : Forest) → IsReference t → IsReference (merged t)
unfolding merged
reference-merged t h = grind (arith, reference-kept)

merged-refers : (t : Forest) → HasReferences t → HasReferences (merged t)
unfolding merged
merged-refers empty h = tt
merged-refers (leaf_then N.Data None cs rest) h = onto-refers cs (merged rest) (merged-refers rest h.1)
merged-refers (leaf_then name link cs rest) h = (h.0, merged-refers rest h.1)
merged-refers (group_then N.CharacterReference a b inside rest) h = (reference-merged inside h.0, merged-refers rest h.1)
merged-refers (group_then name a b inside rest) h = (h.0, (merged-refers inside h.1.0, merged-refers rest h.1.1))

-- Trimming.

cut-refers : (front back : Bool) (hard : HardBreaks) (cs : List Code) → HasReferences (trimmed_data front back hard cs)
cut-refers front back hard cs = grind (arith, row, free-leaf)

reference-trimmed : (hard : HardBreaks) (t : Forest) → IsReference t → IsReference (trimmed hard false false t)
unfolding trimmed
reference-trimmed hard t h = grind (arith, reference-kept)

trimmed-refers : (hard : HardBreaks) (front whole : Bool) (t : Forest) → HasReferences t → HasReferences (trimmed hard front whole t)
unfolding trimmed
trimmed-refers hard front whole empty h = tt
trimmed-refers hard front whole (leaf_then N.Data None cs rest) h =
    row (trimmed_data front (begins_line_ending rest || (whole && is_nothing rest)) (breaks_where hard (begins_line_ending rest)) cs) (trimmed hard false whole rest) (cut-refers front (begins_line_ending rest || (whole && is_nothing rest)) (breaks_where hard (begins_line_ending rest)) cs) (trimmed-refers hard false whole rest h.1)
trimmed-refers hard front whole (leaf_then N.LineEnding link cs rest) h = (refl, trimmed-refers hard true whole rest h.1)
trimmed-refers hard front whole (leaf_then name link cs rest) h = (h.0, trimmed-refers hard false whole rest h.1)
trimmed-refers hard front whole (group_then N.CharacterReference a b inside rest) h = grind (arith, reference-trimmed, trimmed-refers hard false whole rest h.1)
trimmed-refers hard front whole (group_then name a b inside rest) h =
    (h.0, (trimmed-refers hard false false inside h.1.0, trimmed-refers hard false whole rest h.1.1))

-- Emails.

emails-refer : (cs : List Code) → HasReferences (with_emails cs)
emails-refer cs =
    with_emails-has HasReferences row (λ ds. free-leaf N.Data ds refl) (λ before ds. free-leaf _ ds (email-named (λ name. is_free name ≡ true) refl refl refl before)) cs

reference-mailed : (t : Forest) → IsReference t → IsReference (with_emails_apart t)
unfolding with_emails_apart
reference-mailed t h = grind (arith, reference-kept)

mailed-refers : (t : Forest) → HasReferences t → HasReferences (with_emails_apart t)
unfolding with_emails_apart
mailed-refers empty h = tt
mailed-refers (leaf_then N.Data None cs rest) h = grind (arith, row, emails-refer, mailed-refers rest h.1)
mailed-refers (leaf_then name link cs rest) h = (h.0, mailed-refers rest h.1)
mailed-refers (group_then N.CharacterReference a b inside rest) h = (reference-mailed inside h.0, mailed-refers rest h.1)
mailed-refers (group_then N.Link a b inside rest) h = (refl, (h.1.0, mailed-refers rest h.1.1))
mailed-refers (group_then name a b inside rest) h = (h.0, (mailed-refers inside h.1.0, mailed-refers rest h.1.1))

pub references-known : ReferencesAreKnown
references-known s cs =
    trees-have HasReferences (record { merging = merged-refers; trimming = trimmed-refers; mailing = mailed-refers }) s cs
    (paired-refers (within (leaf_codes (labels_in s cs)) s) (pair_list s) (labels_in s cs) (text-labels s cs)) (string-labels s cs)
