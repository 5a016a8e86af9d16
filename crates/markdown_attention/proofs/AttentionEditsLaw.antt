-- Edits of runs by their pairs leave the events of the tree with its pairs grouped.
use Rattle.std.proofs.Common.{◌≡◌, ℕ, zero, suc, ◌+◌, ◌<◌, false, List, ◌∷◌, ◌++◌, length, drop, Option, Some, None, refl, sym, ap, subst, ◌∙◌, arith, append_assoc, append-nil, []}
use Rattle.std.proofs.lemmas.List.{drop-drop, drop_at}
use Rattle.markdown_content.specs.Codes.{Code}
use Rattle.markdown_engine_events.specs.Edits.{added_at, edited, CanEdit}
use Rattle.markdown_engine.specs.PastTree.{appended_from}
use Rattle.markdown_content.specs.Tree.{Forest, empty, leaf_then, group_then, event, event_count, start_of}
use Rattle.markdown_content.specs.declared.configuration.ParseOptions.{ParseOptions}
use Rattle.markdown_event.specs.declared.event.Event.{Event}
use Rattle.markdown_event.specs.declared.event.Kind.TheVariants as Kind
use Rattle.markdown_engine_events.specs.declared.util.edit_map.Edit.{Edit}
use Rattle.markdown_engine.proofs.TreeEvents.{length-appended_from}
use Rattle.markdown_model.specs.BracketGroups.{paired}
use Rattle.markdown_model.specs.Pairs.{pair_list}
use Rattle.markdown_model.specs.Setting.{Setting}
use Rattle.markdown_attention.specs.RunContainers.{ArePairLists, ArePairsWithin, AreTakenOnce}
use Rattle.markdown_attention.specs.NumberedPairs.{run_at}
use Rattle.markdown_attention.specs.RunsRead.{outermost, runs_from, HaveRunPlaces}
use Rattle.markdown_attention.specs.RunsOfTree.{HasRuns, tree_runs}
use Rattle.markdown_attention.specs.PairScan.{AreRunsAfter}
use Rattle.markdown_attention.specs.declared.attention.pairing.Pair.{Pair}
use Rattle.markdown_attention.specs.declared.attention.runs.Sequence.{Sequence}
use Rattle.markdown_attention.proofs.RunsOfTreeLemmas.{tree-runs}
use Rattle.markdown_attention.specs.RunEvents.{marker_events, total}
use Rattle.markdown_attention.specs.AttentionTrees.{IsStriped, HavePoints}
use Rattle.markdown_attention.specs.AttentionPass.{comes_for, grouping}
use Rattle.markdown_attention.specs.RunEdits.{HaveRunEnds, edits_by, run_edits, closed_sizes, opened_sizes, left_of, point_in}
use Rattle.std.proofs.lemmas.Bool.{eq-eqb}
use Rattle.markdown_attention.proofs.RunEditsPossible.{can-group}
use Rattle.markdown_attention.proofs.PairSizeNumbers.{taken-local}
use Rattle.markdown_attention.proofs.RunEditPlaces.{pass-log, added-run, are-from, numbered}
use Rattle.markdown_attention.proofs.RunEditEvents.{RunsAreRead, all-logged}
use Rattle.markdown_attention.proofs.AttentionPassLaw.{paired-events}
use Rattle.markdown_attention.proofs.PairedContainersFlat.{flat-row, ready-row}

-- Where the runs of a tree stand.

point-first : (es : List Event) (n : ℕ) (e : Event) (rest : List Event) → drop n es ≡ e ∷ rest → point_in es n ≡ e.point
point-first [] zero e rest h = cc
point-first [] (suc n) e rest h = cc
point-first (x ∷ es) zero e rest h = grind arith
point-first (x ∷ es) (suc n) e rest h = point-first es n e rest h

part : (n k m : ℕ) (es xs ys : List Event) → n + k ≡ m → drop n es ≡ xs ++ ys → length xs ≡ k → drop m es ≡ ys
part n k m es xs ys e h l = ap (λ i. drop i es) (sym e) ∙ sym (drop-drop k n es) ∙ ap (drop k) h ∙ drop_at xs ys k l

pub have-points : (es : List Event) (t : Forest) (n : ℕ) (previous : Option ℕ) (tail : List Event) →
    drop n es ≡ appended_from n previous t ++ tail → HavePoints (point_in es) n t
have-points es empty n previous tail h = tt
have-points es (leaf_then name None cs rest) n previous tail h = (
  (λ e. point-first es n _ _ h),
  have-points es rest (n + 2) previous tail (part n 2 (n + 2) es (event Kind.Enter name (start_of cs) ∷ _ ∷ []) (appended_from (n + 2) previous rest ++ tail) refl h refl),
)
have-points es (leaf_then name (Some c) cs rest) n previous tail h =
    ((λ e. point-first es n _ _ h), have-points es rest (n + 2) (Some n) tail (part n 2 (n + 2) es (_ ∷ _ ∷ []) (appended_from (n + 2) (Some n) rest ++ tail) refl h refl))
have-points es (group_then name a b inside rest) n previous tail h =
    let ci : ℕ = event_count inside in
    let inner : List Event = appended_from (n + 1) None inside in
    let x : Event = event Kind.Exit name b in
    let more : List Event = appended_from (n + 2 + ci) previous rest ++ tail in
    let apart : (inner ++ x ∷ appended_from (n + 2 + ci) previous rest) ++ tail ≡ inner ++ x ∷ more = append_assoc inner (x ∷ appended_from (n + 2 + ci) previous rest) tail in
    let there : drop n es ≡ event Kind.Enter name a ∷ inner ++ x ∷ more = h ∙ ap (λ xs. event Kind.Enter name a ∷ xs) apart in
    let one : drop (n + 1) es ≡ inner ++ x ∷ more = part n 1 (n + 1) es (event Kind.Enter name a ∷ []) (inner ++ x ∷ more) refl there refl in
    let two : drop (n + 1 + ci) es ≡ x ∷ more = part (n + 1) ci (n + 1 + ci) es inner (x ∷ more) refl one (length-appended_from (n + 1) None inside) in (
      have-points es inside (n + 1) None (x ∷ more) one,
      have-points es rest (n + 2 + ci) previous tail (part (n + 1 + ci) 1 (n + 2 + ci) es (x ∷ []) more (omega arith) two refl),
    )

-- Edits that agree run by run.

edits-same : (f g : Sequence → List Event) (xs ys : List Sequence) → length xs ≡ length ys
    → ((i : ℕ) → i < length ys → (run_at xs i).event ≡ (run_at ys i).event) → ((i : ℕ) → i < length ys → f (run_at xs i) ≡ g (run_at ys i))
    → edits_by f xs ≡ edits_by g ys
edits-same f g [] [] l h k = refl
edits-same f g [] (y ∷ ys) l h k = absurd (omega (arith, l))
edits-same f g (x ∷ xs) [] l h k = absurd (omega (arith, l))
edits-same f g (x ∷ xs) (y ∷ ys) l h k =
    let more : edits_by f xs ≡ edits_by g ys = edits-same f g xs ys (omega (arith, l)) (λ i u. h (suc i) (omega (arith, u))) (λ i u. k (suc i) (omega (arith, u))) in
    λ z. (record { at = h 0 (omega arith) z; remove = 2; events = k 0 (omega arith) z; before = false }) ∷ more z

-- each run has its place as its number
pub numbered-is : (options : ParseOptions) (bytes : List ℕ) (content : List Code) (es : List Event) → HaveRunPlaces bytes es → (i : ℕ) →
    i < length (runs_from options bytes content 0 0 outermost es) →
    (run_at (runs_from options bytes content 0 0 outermost es) i).number ≡ i
numbered-is options bytes content es places i l = numbered (λ r. []) options bytes content es 0 0 outermost i places l ∙ omega arith

-- by the runs as pairing leaves them
module _ (options : ParseOptions) (bytes : List ℕ) (content : List Code) (es : List Event) (places : HaveRunPlaces bytes es) (fin : List Sequence) (pairs : List Pair)
    (stands : AreRunsAfter (runs_from options bytes content 0 0 outermost es) fin pairs) where
  abbrev list : List Sequence
  list = runs_from options bytes content 0 0 outermost es

  pub log-same : run_edits (point_in es) pairs fin ≡ grouping es (runs_from options bytes content 0 0 outermost es) pairs
  log-same = grind (arith, edits-same, numbered-is)

  -- the edits can be made
  pub group-can : HaveRunEnds es → CanEdit (run_edits (point_in es) pairs fin) es
  group-can h =
      subst (λ (log : List Edit). CanEdit log es) (sym log-same) (can-group (comes_for (point_in es) list pairs) options bytes content es places h)

module _ (s : Setting) (options : ParseOptions) (bytes : List ℕ) (content : List Code) (same : s.bytes ≡ bytes) (given : s.options ≡ options) (held : s.content ≡ content) (es : List Event) (places : HaveRunPlaces bytes es) (pairs : List Pair)
    (lists : ArePairLists options (runs_from options bytes content 0 0 outermost es) pairs)
    (within : ArePairsWithin (runs_from options bytes content 0 0 outermost es) pairs) where
  abbrev runs_read : List Sequence
  runs_read = runs_from options bytes content 0 0 outermost es

  abbrev comes_here : Sequence → List Event
  comes_here r = comes_for (point_in es) runs_read pairs r

  abbrev before : List Edit
  before = grouping es runs_read pairs

  read : RunsAreRead s options bytes content same given held (point_in es) pairs runs_read (λ k. added_at k before)
  read =
      record {
        comes_are = λ g l. added-run comes_here 0 g runs_read (are-from comes_here options bytes content es 0 0 outermost places) l
            ∙ ap (λ j. marker_events (run_at runs_read g).marker (point_in es (run_at runs_read g).event) (closed_sizes j pairs) (left_of runs_read pairs j) (opened_sizes j pairs)) (numbered-is options bytes content es places g l);
        lists = λ k runs shapes. lists s k runs given shapes;
        within = within;
      }

  pub group-events : (t : Forest) → HasRuns bytes t → IsStriped t → es ≡ appended_from 0 None t →
      edited (grouping es (runs_from options bytes content 0 0 outermost es) pairs) es ≡ appended_from 0 None (paired s (pair_list s) t)
  group-events t h st e =
      let whole : es ≡ appended_from 0 None t ++ [] = e ∙ sym (append-nil (appended_from 0 None t)) in
      let runs : List Sequence = tree_runs options bytes content 0 0 0 None t in
      let is : runs_read ≡ runs = ap (runs_from options bytes content 0 0 outermost) whole ∙ tree-runs options bytes content t 0 0 None outermost [] h ∙ append-nil runs in
      paired-events es before (λ k. added_at k before) (pass-log comes_here options bytes content es outermost places) s (pair_list s) t e (ready-row s t st.1) (flat-row s t st.1 st.0)
      (all-logged s options bytes content same given held (point_in es) pairs runs_read (λ k. added_at k before) read t h st.1 (have-points es t 0 None [] whole) is)

-- what comes for a run covers it
pub sizes-sum : (list : List Sequence) (pairs : List Pair) (g : ℕ) → g < length list → ArePairsWithin list pairs → AreTakenOnce list pairs
    → total (closed_sizes g pairs) + left_of list pairs g + total (opened_sizes g pairs) ≡ (run_at list g).size
sizes-sum list pairs g l w o = grind (arith, taken-local, eq-eqb)
