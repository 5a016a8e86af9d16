-- What a caller of the pass of runs has from the tree of labels of a content.
use Rattle.std.proofs.Common.{◌≡◌, ℕ, ◌+◌, ◌*◌, ◌^◌, ◌<◌, ◌≤◌, true, List, length, None, sym, ap, subst, refl, ◌∙◌, arith, append-nil, sum_by, []}
use Rattle.std.specs.List.{count_by}
use Rattle.markdown_content.specs.Codes.{Code}
use Rattle.markdown_content.specs.CommonMark.{rules_of}
use Rattle.markdown_engine.specs.PastTree.{appended_from}
use Rattle.markdown_content.specs.Tree.{Forest, leaf_codes}
use Rattle.markdown_content.specs.declared.configuration.ParseOptions.{ParseOptions}
use Rattle.markdown_event.specs.declared.event.Event.{Event}
use Rattle.markdown_engine.specs.declared.tokenizer.Tokenizer.{Tokenizer}
use Rattle.markdown_model.specs.Elements.{elements_of, text_choice}
use Rattle.markdown_model.specs.InlineTree.{label_tree, run_count, pair_count, opener_count, closer_count, paired_whole}
use Rattle.markdown_model.specs.BracketGroups.{paired}
use Rattle.markdown_model.specs.Pairs.{pair_list}
use Rattle.markdown_model.specs.Setting.{Setting, within}
use Rattle.markdown_model.proofs.ElementsCover.{codes-elements, covers_text_element}
use Rattle.markdown_model.proofs.OneElementList.{text_elements}
use Rattle.markdown_model.proofs.LabelsCover.{codes-labels_of}
use Rattle.markdown_attention.specs.RunContainers.{ArePairLists, ArePairsWithin}
use Rattle.markdown_attention.specs.RunsRead.{outermost, runs_from, HaveRunPlaces}
use Rattle.markdown_attention.specs.RunsOfEvents.{runs_of_events}
use Rattle.markdown_attention.specs.RunsOfTree.{tree_runs, HasRuns, IsOf}
use Rattle.markdown_attention.specs.declared.attention.runs.Sequence.{Sequence}
use Rattle.markdown_attention.proofs.RunsOfTreeLemmas.{tree-runs}
use Rattle.markdown_attention.proofs.RunsWithoutContent.{same-runs}
use Rattle.markdown_attention.specs.AttentionPass.{IsSmall, IsGrouped, IsProbed}
use Rattle.markdown_attention.specs.AttentionTrees.{IsStriped}
use Rattle.markdown_attention.proofs.AttentionEditsLaw.{group-events}
use Rattle.markdown_attention.proofs.RunCounts.{tree-few, run-count, opener-count, closer-count}
use Rattle.markdown_attention.proofs.PairCountsOfTree.{pair-count}
use Rattle.markdown_model.specs.Runs.{rows_of}
use Rattle.markdown_model.proofs.PairListsWithin.{lists-within}

-- the leaves of the tree of labels cover the content's codes
pub codes-tree : (s : Setting) (cs : List Code) → leaf_codes (label_tree s cs) ≡ cs
unfolding label_tree
codes-tree s cs =
    codes-labels_of (elements_of s cs)
    ∙ codes-elements (text_choice s cs) (λ earlier previous. covers_text_element (within cs s) _ earlier previous) (elements_of s cs) [] None cs (text_elements s cs)

-- the runs of a tree's events
pub events-runs : (options : ParseOptions) (bytes : List ℕ) (content : List Code) (t : Forest) (es : List Event) → HasRuns bytes t → es ≡ appended_from 0 None t
    → runs_from options bytes content 0 0 outermost es ≡ tree_runs options bytes content 0 0 0 None t
events-runs options bytes content t es h e =
    let runs : List Sequence = tree_runs options bytes content 0 0 0 None t in
    ap (runs_from options bytes content 0 0 outermost) (e ∙ sym (append-nil (appended_from 0 None t))) ∙ tree-runs options bytes content t 0 0 None outermost [] h ∙ append-nil runs

-- The runs of a content are few.

pub tree-small : (options : ParseOptions) (bytes : List ℕ) (content : List Code) (t : Forest) (es : List Event) → HasRuns bytes t → es ≡ appended_from 0 None t → length (leaf_codes t) < 2 ^ 63
    → IsSmall (runs_from options bytes content 0 0 outermost es)
tree-small options bytes content t es h e l =
    let few = tree-few options bytes content t 0 0 0 None h in
    subst IsSmall (sym (events-runs options bytes content t es h e)) (record { markers = omega (arith, few.0, l); count = omega (arith, few.1, l) })

-- What the pass leaves of the events of a tree of labels.

module _ (s : Setting) (options : ParseOptions) (bytes : List ℕ) (content : List Code) (same : s.bytes ≡ bytes) (given : s.options ≡ options)
    (t : Forest) (codes : leaf_codes t ≡ content) (h : HasRuns bytes t) (es : List Event) (e : es ≡ appended_from 0 None t) where
  abbrev list : List Sequence
  list = runs_from options bytes content 0 0 outermost es

  -- the setting in which the runs of the tree are paired
  abbrev there : Setting
  there = within (leaf_codes t) s

  pub tree-grouped : (after : List Event) (probes : ℕ) → IsStriped t → HaveRunPlaces bytes es →
      IsGrouped options list es after probes → after ≡ appended_from 0 None (paired_whole s (pair_list s) t)
  tree-grouped after probes st places g =
      g.events ∙ group-events there options bytes content same given codes es places g.pairs g.lists g.within t h st e
      ∙ ap (λ pairs_of. appended_from 0 None (paired there pairs_of t)) (lists-within (leaf_codes t) s)

  pub tree-probed : (after : List Event) (probes : ℕ) → IsGrouped options list es after probes → IsProbed s t probes
  tree-probed after probes g =
      let is : list ≡ tree_runs options bytes content 0 0 0 None t = events-runs options bytes content t es h e in
      let n : pair_count s t ≡ length g.pairs =
      ap (λ pairs_of. sum_by (λ rs. length (pairs_of rs)) (rows_of there t)) (sym (lists-within (leaf_codes t) s)) ∙ pair-count there options bytes content same given codes t h g.pairs (subst (λ (x : List Sequence). ArePairLists options x g.pairs) is g.lists) (subst (λ (x : List Sequence). ArePairsWithin x g.pairs) is g.within) in
      let runs : run_count s t ≡ length list = run-count there options bytes content same given codes t h ∙ ap length (sym is) in
      let openers : opener_count s t ≡ count_by (λ r. r.may_open) list = opener-count there options bytes content same given codes t h ∙ ap (λ (x : List Sequence). count_by (λ r. r.may_open) x) (sym is) in
      let closers : closer_count s t ≡ count_by (λ r. r.may_close) list = closer-count there options bytes content same given codes t h ∙ ap (λ (x : List Sequence). count_by (λ r. r.may_close) x) (sym is) in
      let least = g.at_least in
      let most = g.at_most in
      record {
        at_least = omega (arith, n, least);
        at_most = omega (arith, n, openers, closers, most);
        scan = subst (λ (x : ℕ). probes ≤ x) (λ i. (sym runs i + sym n i) * sym runs i) g.scan;
      }

-- By the tokenizer.

module _ (T : Tokenizer) (after : List Event) (probes : ℕ) (g : IsGrouped T.parse_state.now.options.now (runs_of_events T) T.events after probes) where
  -- the runs are those within the codes of a tree of the content
  grouped-within : (t : Forest) → ((rules_of T.parse_state.now.options.now).neighbours_in_content ≡ true → leaf_codes t ≡ T.cursor.codes) →
      IsGrouped T.parse_state.now.options.now (runs_from T.parse_state.now.options.now T.parse_state.now.bytes.now (leaf_codes t) 0 0 outermost T.events) T.events after probes
  grouped-within t codes = grind (arith, same-runs)

  pub left-paired : HaveRunPlaces T.parse_state.now.bytes.now T.events → (s : Setting) (t : Forest) → IsOf s t T → HasRuns T.parse_state.now.bytes.now t → IsStriped t
      → T.events ≡ appended_from 0 None t → after ≡ appended_from 0 None (paired_whole s (pair_list s) t)
  left-paired places s t is runs striped e =
      tree-grouped s T.parse_state.now.options.now T.parse_state.now.bytes.now (leaf_codes t) is.bytes is.options t refl runs T.events e after probes striped places (grouped-within t is.codes)

  pub left-probed : (s : Setting) (t : Forest) → IsOf s t T → HasRuns T.parse_state.now.bytes.now t →
      T.events ≡ appended_from 0 None t → IsProbed s t probes
  left-probed s t is runs e =
      tree-probed s T.parse_state.now.options.now T.parse_state.now.bytes.now (leaf_codes t) is.bytes is.options t refl runs T.events e after probes (grouped-within t is.codes)
