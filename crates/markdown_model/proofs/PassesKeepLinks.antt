-- The passes neither make links nor put one into another.
use Rattle.std.proofs.Common.{◌≡◌, ℕ, suc, Bool, true, false, ◌&&◌, ◌||◌, List, [], ◌∷◌, length, refl, sym, ◌∙◌, None, arith}
use Rattle.std.proofs.Math.Bool.{or-false}
use Rattle.std.proofs.lemmas.Bool.{both_ways}
use Rattle.markdown_event.specs.declared.event.Name.{Name}
use Rattle.markdown_content.specs.Codes.{Code, stop_of, document_start}
use Rattle.markdown_content.specs.Tree.{Forest, empty, leaf_then, group_then, leaf, ◌⊕◌, text_group, start_of}
use Rattle.markdown_model.specs.GfmEmailLiteral.{with_emails}
use Rattle.markdown_model.specs.Setting.{Setting}
use Rattle.markdown_model.specs.Runs.{Run, run_of, runs_of, marker_of}
use Rattle.markdown_model.specs.Pairs.{Pair}
use Rattle.markdown_model.specs.BracketGroups.{Token, joined, loose, pair_names, pair_group, run_tokens, assembled, tokens_of, paired}
use Rattle.markdown_model.specs.Passes.{HardBreaks, breaks_where, data_onto, merged, begins_line_ending, is_nothing, trimmed_data, trimmed, with_emails_apart}
use Rattle.markdown_model.specs.Laws.{is_link, holds_link, AreApart}
use Rattle.markdown_model.proofs.NoLinkInConstructs.{IsFree, holds-join, holds-leaf, free-apart, or_assoc}
use Rattle.markdown_model.proofs.BracketSums.{Adds, sum_of, sum-joined}
use Rattle.markdown_model.proofs.GivenNames.{pair-named}
use Rattle.markdown_model.proofs.PairSums.{token_sum, token-append, sum-loose, sum-assembled, sum-run}
use Rattle.markdown_model.proofs.PairGroupFacts.{Any, any-parts, HasWord, run-has, assembled-has}
use Rattle.markdown_model.proofs.PassedTrees.{HoldsByParts, walks-row, walks-merged, walks-trimmed, walks-mailed, with_emails-has}
use Rattle.markdown_model.proofs.BracketGroupFacts.{AllHave, joined-has, word-append}

apart : HoldsByParts AreApart (λ name link cs. Unit {0}) (λ name a b inside. is_link name ≡ true → holds_link inside ≡ false)
apart = grind (arith)

pub apart-leaf : (name : Name) (cs : List Code) → AreApart (leaf name cs)
apart-leaf name [] = tt
apart-leaf name (c ∷ cs) = tt

pub apart-join : (a b : Forest) → AreApart a → AreApart b → AreApart (a ⊕ b)
apart-join a b h k = walks-row apart a b h k

-- Merging.

holds-data_onto : (cs : List Code) (f : Forest) → holds_link (data_onto cs f) ≡ holds_link f
holds-data_onto cs (leaf_then Name.Data None more rest) = refl
holds-data_onto cs rest = refl

holds-merged : (f : Forest) → holds_link (merged f) ≡ holds_link f
unfolding merged
holds-merged empty = refl
holds-merged (leaf_then Name.Data None cs rest) = holds-data_onto cs (merged rest) ∙ holds-merged rest
holds-merged (leaf_then name link cs rest) = holds-merged rest
holds-merged (group_then name enter exit inside rest) =
    λ i. is_link name || (holds-merged inside i || holds-merged rest i)

pub apart-merged : (f : Forest) → AreApart f → AreApart (merged f)
apart-merged f h = walks-merged apart (λ cs ds _ _. tt) (λ name a b inside _ g e. holds-merged inside ∙ g e) f h

-- Trimming.

holds-trimmed_data : (front back : Bool) (hard : HardBreaks) (cs : List Code) → holds_link (trimmed_data front back hard cs) ≡ false
holds-trimmed_data front back hard cs = simp (holds-join, holds-leaf)

module _ (hard : HardBreaks) where
  holds-trimmed : (front whole : Bool) (f : Forest) → holds_link (trimmed hard front whole f) ≡ holds_link f
  unfolding trimmed
  holds-trimmed front whole empty = refl
  holds-trimmed front whole (leaf_then Name.Data None cs rest) =
      holds-join (trimmed_data front (begins_line_ending rest || (whole && is_nothing rest)) (breaks_where hard (begins_line_ending rest)) cs) (trimmed hard false whole rest)
      ∙ (λ i. holds-trimmed_data front (begins_line_ending rest || (whole && is_nothing rest)) (breaks_where hard (begins_line_ending rest)) cs i || holds-trimmed false whole rest i)
  holds-trimmed front whole (leaf_then Name.LineEnding link cs rest) = holds-trimmed true whole rest
  holds-trimmed front whole (leaf_then name link cs rest) = holds-trimmed false whole rest
  holds-trimmed front whole (group_then name enter exit inside rest) =
      λ i. is_link name || (holds-trimmed false false inside i || holds-trimmed false whole rest i)

  pub apart-trimmed : (front whole : Bool) (f : Forest) → AreApart f → AreApart (trimmed hard front whole f)
  apart-trimmed front whole f h =
      walks-trimmed apart hard (λ x y z cs _. free-apart (trimmed_data x y z cs) (holds-trimmed_data x y z cs)) (λ name a b inside _ g e. holds-trimmed false false inside ∙ g e) front whole f h

-- Emails.

free_with_emails : (cs : List Code) → holds_link (with_emails cs) ≡ false
free_with_emails cs =
    with_emails-has IsFree (λ t u h k. holds-join t u ∙ (λ i. h i || k i)) (holds-leaf Name.Data) (λ before ds. holds-leaf _ ds) cs

holds-mailed : (f : Forest) → holds_link (with_emails_apart f) ≡ holds_link f
unfolding with_emails_apart
holds-mailed empty = refl
holds-mailed (leaf_then Name.Data None cs rest) =
    holds-join (with_emails cs) (with_emails_apart rest) ∙ (λ i. free_with_emails cs i || holds-mailed rest i)
holds-mailed (leaf_then name link cs rest) = holds-mailed rest
holds-mailed (group_then Name.Link enter exit inside rest) = refl
holds-mailed (group_then name enter exit inside rest) =
    λ i. is_link name || (holds-mailed inside i || holds-mailed rest i)

pub apart-mailed : (f : Forest) → AreApart f → AreApart (with_emails_apart f)
apart-mailed f h =
    walks-mailed apart (λ cs _. free-apart (with_emails cs) (free_with_emails cs)) (λ name a b inside _ g e. holds-mailed inside ∙ g e) f h

-- Rows of rows.

abbrev pub holds_add : Adds Bool
holds_add = record {
  none = false;
  plus = ◌||◌;
  of = holds_link;
  assoc = or_assoc;
  left = λ a. refl;
  right = or-false;
  nothing = refl;
  row = holds-join;
}

abbrev pub any_holds : List Forest → Bool
any_holds fs = sum_of holds_add fs

pub apart-joined : (fs : List Forest) → AllHave AreApart fs → AreApart (joined fs)
apart-joined fs h = joined-has AreApart tt apart-join fs h

-- Pairs.

no_link_pair : (marker size : ℕ) → is_link (pair_names marker size).0 ≡ false
no_link_pair marker size = pair-named (λ names. is_link names.0 ≡ false) refl refl refl marker size

no_link_text : (marker size : ℕ) → is_link (pair_names marker size).2 ≡ false
no_link_text marker size = pair-named (λ names. is_link names.2 ≡ false) refl refl refl marker size

-- the row inside a pair's group
abbrev pair_row : List Code → List Forest → List Code → Forest
pair_row front inside back =
    leaf (pair_names (marker_of front) (length front)).1 front
    ⊕ text_group (pair_names (marker_of front) (length front)).2 (stop_of document_start front) (start_of back) (joined inside)
    ⊕ leaf (pair_names (marker_of front) (length front)).1 back

holds-pair_row : (front : List Code) (inside : List Forest) (back : List Code) →
    holds_link (pair_row front inside back) ≡ any_holds inside
holds-pair_row front inside back =
    holds-join (leaf (pair_names (marker_of front) (length front)).1 front) _
    ∙ (λ i. holds-leaf (pair_names (marker_of front) (length front)).1 front i
    || (no_link_text (marker_of front) (length front) i || (sum-joined holds_add inside i || holds-leaf (pair_names (marker_of front) (length front)).1 back i)))
    ∙ or-false (any_holds inside)

holds-pair_group : (front : List Code) (inside : List Forest) (back : List Code) →
    any_holds (pair_group front inside back) ≡ any_holds inside
holds-pair_group front inside back =
    or-false _ ∙ (λ i. no_link_pair (marker_of front) (length front) i || or-false (holds_link (pair_row front inside back)) i) ∙ holds-pair_row front inside back

-- of a marker
abbrev none_held : List Code → Bool
none_held cs = false

pub holds-loose : (cs : List Code) → any_holds (loose cs) ≡ false
holds-loose cs = sum-loose holds_add none_held (holds-leaf Name.Data) cs

abbrev token_holds : List Token → Bool
token_holds ts = token_sum holds_add none_held (holds-leaf Name.Data) ts

holds-assembled : (ts : List Token) → holds_link (assembled ts) ≡ token_holds ts
holds-assembled ts =
    sum-assembled holds_add none_held (holds-leaf Name.Data) (λ front inside back. holds-pair_group front inside back ∙ sym (or-false (any_holds inside))) ts

abbrev TokensApart : List Token → Type 0
TokensApart ts = HasWord AreApart Any (λ cs _. apart-leaf Name.Data cs) ts

apart-assembled : (ts : List Token) → TokensApart ts → AreApart (assembled ts)
apart-assembled ts h = grind (arith, assembled-has, apart-leaf, apart-join, both_ways, no_link_pair, no_link_text)

module _ (s : Setting) (pairs_of : List Run → List Pair) where
  holds-tokens_of : (f : Forest) (pairs : List Pair) (n : ℕ) →
      token_holds (tokens_of s pairs_of f pairs n) ≡ holds_link f
  unfolding tokens_of
  holds-tokens_of empty pairs n = refl
  holds-tokens_of (leaf_then Name.AttentionSequence link cs rest) pairs n =
      token-append holds_add none_held (holds-leaf Name.Data) (run_tokens pairs n (run_of s cs)) (tokens_of s pairs_of rest pairs (suc n))
      ∙ (λ i. sum-run holds_add none_held (holds-leaf Name.Data) refl (λ xs ys. refl) pairs n (run_of s cs) i || holds-tokens_of rest pairs (suc n) i)
  holds-tokens_of (leaf_then name link cs rest) pairs n = holds-tokens_of rest pairs n
  holds-tokens_of (group_then name enter exit inside rest) pairs n =
      or_assoc (is_link name) (holds_link (assembled (tokens_of s pairs_of inside (pairs_of (runs_of s inside)) 0)) || false) (token_holds (tokens_of s pairs_of rest pairs n))
      ∙ (λ i. is_link name || ((or-false (holds_link (assembled (tokens_of s pairs_of inside (pairs_of (runs_of s inside)) 0)))
      ∙ holds-assembled (tokens_of s pairs_of inside (pairs_of (runs_of s inside)) 0) ∙ holds-tokens_of inside (pairs_of (runs_of s inside)) 0) i || holds-tokens_of rest pairs n i))

  apart-tokens_of : (f : Forest) (pairs : List Pair) (n : ℕ) → AreApart f → TokensApart (tokens_of s pairs_of f pairs n)
  unfolding tokens_of
  apart-tokens_of empty pairs n h = tt
  apart-tokens_of (leaf_then Name.AttentionSequence link cs rest) pairs n h =
      word-append AreApart Any Any (run_tokens pairs n (run_of s cs)) (tokens_of s pairs_of rest pairs (suc n)) (run-has AreApart Any (λ ds _. apart-leaf Name.Data ds) any-parts pairs n (run_of s cs) tt) (apart-tokens_of rest pairs (suc n) h)
  apart-tokens_of (leaf_then name link cs rest) pairs n h = (tt, apart-tokens_of rest pairs n h)
  apart-tokens_of (group_then name enter exit inside rest) pairs n h = (
    (
      λ e. holds-assembled (tokens_of s pairs_of inside (pairs_of (runs_of s inside)) 0) ∙ holds-tokens_of inside (pairs_of (runs_of s inside)) 0 ∙ h.0 e,
      apart-assembled (tokens_of s pairs_of inside (pairs_of (runs_of s inside)) 0) (apart-tokens_of inside (pairs_of (runs_of s inside)) 0 h.1),
      tt,
    ),
    apart-tokens_of rest pairs n h.2,
  )

  pub apart-paired : (f : Forest) → AreApart f → AreApart (paired s pairs_of f)
  unfolding paired
  apart-paired f h =
      apart-assembled (tokens_of s pairs_of f (pairs_of (runs_of s f)) 0) (apart-tokens_of f (pairs_of (runs_of s f)) 0 h)
