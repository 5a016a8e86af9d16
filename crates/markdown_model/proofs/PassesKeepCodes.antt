-- The passes keep the codes that the leaves cover.
use Rattle.std.proofs.Common.{◌≡◌, ℕ, suc, Bool, true, false, ◌&&◌, ◌||◌, List, [], ◌∷◌, ◌++◌, reverse, refl, sym, ◌∙◌, ap, None, arith}
use Rattle.std.proofs.lemmas.List.{append_assoc, append-nil, reverse-append, reverse-reverse}
use Rattle.markdown_event.specs.declared.event.Name.{Name}
use Rattle.markdown_content.specs.Codes.{Code, is_blank}
use Rattle.markdown_content.specs.Tree.{Forest, empty, leaf_then, group_then, leaf, ◌⊕◌, leaf_codes}
use Rattle.markdown_model.specs.Grammar.{span}
use Rattle.markdown_model.specs.Setting.{Setting}
use Rattle.markdown_model.specs.Runs.{Run, runs_of, run_of}
use Rattle.markdown_model.specs.Pairs.{Pair}
use Rattle.markdown_model.specs.BracketGroups.{Token, pair_group, loose, assembled, run_tokens, tokens_of, paired}
use Rattle.markdown_model.specs.Passes.{HardBreaks, breaks_where, data_onto, merged, trimmed, trimmed_data, begins_line_ending, is_nothing, with_emails_apart}
use Rattle.markdown_model.specs.GfmEmailLiteral.{with_emails}
use Rattle.markdown_model.proofs.LeafCodes.{codes-leaf, span-append}
use Rattle.markdown_model.proofs.ReadingsCover.{itself}
use Rattle.markdown_model.proofs.LiteralCodes.{codes-with_emails}
use Rattle.markdown_model.proofs.BracketSums.{codes_add, codes_of_all, codes-joined}
use Rattle.markdown_model.proofs.PairSums.{token_sum, token-append, sum-assembled, sum-run}
use Rattle.markdown_content.proofs.TreeCodes.{leaf_codes-row}

-- Merging.

pub codes-data_onto : (cs : List Code) (f : Forest) → leaf_codes (data_onto cs f) ≡ cs ++ leaf_codes f
codes-data_onto cs (leaf_then Name.Data None more rest) = append_assoc cs more (leaf_codes rest)
codes-data_onto cs rest = refl

pub codes-merged : (f : Forest) → leaf_codes (merged f) ≡ leaf_codes f
unfolding merged
codes-merged empty = refl
codes-merged (leaf_then Name.Data None cs rest) =
    codes-data_onto cs (merged rest) ∙ ap (λ x. cs ++ x) (codes-merged rest)
codes-merged (leaf_then name link cs rest) = ap (λ x. cs ++ x) (codes-merged rest)
codes-merged (group_then name enter exit inside rest) = λ i. codes-merged inside i ++ codes-merged rest i

-- Trimming.

abbrev cut_back : Bool → List Code → List Code × List Code
cut_back back cs = elim back [ true ↦ span is_blank (reverse cs) | false ↦ ([], reverse cs) ]

cut_back-append : (back : Bool) (cs : List Code) → reverse (cut_back back cs).1 ++ reverse (cut_back back cs).0 ≡ cs
cut_back-append true cs =
    sym (reverse-append (span is_blank (reverse cs)).0 (span is_blank (reverse cs)).1) ∙ ap reverse (span-append is_blank (reverse cs)) ∙ reverse-reverse cs
cut_back-append false cs = append-nil (reverse (reverse cs)) ∙ reverse-reverse cs

abbrev cut_lead : Bool → List Code → List Code × List Code
cut_lead front cs = elim front [ true ↦ span is_blank cs | false ↦ ([], cs) ]

cut_lead-append : (front : Bool) (cs : List Code) → (cut_lead front cs).0 ++ (cut_lead front cs).1 ≡ cs
cut_lead-append true cs = span-append is_blank cs
cut_lead-append false cs = refl

pub codes-three : (a b c : Name) (xs ys zs : List Code) →
    leaf_codes (leaf a xs ⊕ leaf b ys ⊕ leaf c zs) ≡ (xs ++ ys) ++ zs
codes-three a b c xs ys zs = grind (arith, leaf_codes-row, codes-leaf, append_assoc)

pub codes-trimmed_data : (front back : Bool) (hard : HardBreaks) (cs : List Code) → leaf_codes (trimmed_data front back hard cs) ≡ cs
codes-trimmed_data front back hard cs = grind (arith, codes-three, reverse, cut_lead-append, cut_back-append)

pub codes-trimmed : (hard : HardBreaks) (front whole : Bool) (f : Forest) → leaf_codes (trimmed hard front whole f) ≡ leaf_codes f
unfolding trimmed
codes-trimmed hard front whole empty = refl
codes-trimmed hard front whole (leaf_then Name.Data None cs rest) =
    leaf_codes-row (trimmed_data front (begins_line_ending rest || (whole && is_nothing rest)) (breaks_where hard (begins_line_ending rest)) cs) (trimmed hard false whole rest)
    ∙ (λ i. codes-trimmed_data front (begins_line_ending rest || (whole && is_nothing rest)) (breaks_where hard (begins_line_ending rest)) cs i ++ codes-trimmed hard false whole rest i)
codes-trimmed hard front whole (leaf_then Name.LineEnding link cs rest) =
    ap (λ x. cs ++ x) (codes-trimmed hard true whole rest)
codes-trimmed hard front whole (leaf_then name link cs rest) = ap (λ x. cs ++ x) (codes-trimmed hard false whole rest)
codes-trimmed hard front whole (group_then name enter exit inside rest) =
    λ i. codes-trimmed hard false false inside i ++ codes-trimmed hard false whole rest i

-- Emails.

pub codes-mailed : (f : Forest) → leaf_codes (with_emails_apart f) ≡ leaf_codes f
unfolding with_emails_apart
codes-mailed empty = refl
codes-mailed (leaf_then Name.Data None cs rest) =
    leaf_codes-row (with_emails cs) (with_emails_apart rest) ∙ (λ i. codes-with_emails cs i ++ codes-mailed rest i)
codes-mailed (leaf_then name link cs rest) = ap (λ x. cs ++ x) (codes-mailed rest)
codes-mailed (group_then Name.Link enter exit inside rest) = ap (λ x. leaf_codes inside ++ x) (codes-mailed rest)
codes-mailed (group_then name enter exit inside rest) = λ i. codes-mailed inside i ++ codes-mailed rest i

-- Pairs.

pub codes-pair_group : (front : List Code) (inside : List Forest) (back : List Code) →
    codes_of_all (pair_group front inside back) ≡ front ++ (codes_of_all inside ++ back)
codes-pair_group front inside back = grind (arith, append-nil, leaf_codes-row, codes-leaf, codes-joined)

pub codes-loose : (cs : List Code) → codes_of_all (loose cs) ≡ cs
codes-loose cs = append-nil _ ∙ codes-leaf Name.Data cs

abbrev token_codes : List Token → List Code
token_codes ts = token_sum codes_add itself (codes-leaf Name.Data) ts

pub codes-assembled : (ts : List Token) → leaf_codes (assembled ts) ≡ token_codes ts
codes-assembled ts = sum-assembled codes_add itself (codes-leaf Name.Data) codes-pair_group ts

token_codes-run : (pairs : List Pair) (i : ℕ) (r : Run) → token_codes (run_tokens pairs i r) ≡ r.codes
token_codes-run pairs i r = sum-run codes_add itself (codes-leaf Name.Data) refl (λ xs ys. refl) pairs i r

pub codes-run_of : (s : Setting) (cs : List Code) → (run_of s cs).codes ≡ cs
unfolding run_of
codes-run_of s [] = refl
codes-run_of s (c ∷ cs) = refl

module _ (s : Setting) (pairs_of : List Run → List Pair) where
  pub codes-tokens_of : (f : Forest) (pairs : List Pair) (n : ℕ) →
      token_codes (tokens_of s pairs_of f pairs n) ≡ leaf_codes f
  unfolding tokens_of
  codes-tokens_of empty pairs n = refl
  codes-tokens_of (leaf_then Name.AttentionSequence link cs rest) pairs n =
      token-append codes_add itself (codes-leaf Name.Data) (run_tokens pairs n (run_of s cs)) (tokens_of s pairs_of rest pairs (suc n))
      ∙ (λ i. (token_codes-run pairs n (run_of s cs) ∙ codes-run_of s cs) i ++ codes-tokens_of rest pairs (suc n) i)
  codes-tokens_of (leaf_then name link cs rest) pairs n = λ i. append-nil cs i ++ codes-tokens_of rest pairs n i
  codes-tokens_of (group_then name enter exit inside rest) pairs n =
      λ i. (append-nil _ ∙ codes-assembled (tokens_of s pairs_of inside (pairs_of (runs_of s inside)) 0) ∙ codes-tokens_of inside (pairs_of (runs_of s inside)) 0) i ++ codes-tokens_of rest pairs n i

  pub codes-paired : (f : Forest) → leaf_codes (paired s pairs_of f) ≡ leaf_codes f
  unfolding paired
  codes-paired f =
      codes-assembled (tokens_of s pairs_of f (pairs_of (runs_of s f)) 0) ∙ codes-tokens_of f (pairs_of (runs_of s f)) 0
