-- From one element of a text to the next, and to the text's end.
use Rattle.std.proofs.Common.{◌≡◌, ◌≢◌, ◌<◌, ◌≤◌, Bool, true, false, ◌&&◌, None, is_some, refl, sym, ap, subst, ◌∙◌, arith}
use Rattle.markdown_content.specs.Tree.{leaf_codes}
use Rattle.markdown_engine.specs.Operations.{HasCode, ahead, current_of, scratched}
use Rattle.markdown_engine.specs.PastTree.{past, Reads, TreeReading}
use Rattle.markdown_engine.specs.RestingFields.{at_rest}
use Rattle.markdown_engine.specs.Weights.{codes_left}
use Rattle.markdown_event.specs.declared.state.StateName.TheVariants.{GfmTaskListItemCheckStart}
use Rattle.markdown_engine.specs.declared.tokenizer.TokenizeState.{TokenizeState}
use Rattle.markdown_engine.specs.declared.tokenizer.Tokenizer.{Tokenizer}
use Rattle.markdown_engine.proofs.ReadingSequences.{scratched-same}
use Rattle.markdown_label.specs.LabelEnd.{AreStartsWithin}
use Rattle.markdown_leaf_gfm.specs.GfmTaskListItemCheck.{check_here}
use Rattle.markdown_model.specs.TextLines.{data_up_to}
use Rattle.markdown_model.proofs.GrammarSteps.{switched-off}
use Rattle.markdown_model.proofs.PlainConstructs.{plain_constructs}
use Rattle.markdown_plan.specs.Characters.{bytes_of}
use Rattle.markdown_run_text.specs.Row.{row_end, kinds_of}
use Rattle.markdown_run_text.specs.RunOverElements.{Finishes}
use Rattle.markdown_run_text.proofs.ConstructNodes.{node-of}
use Rattle.markdown_run_text.proofs.ElementSteps.{DataRead, data-read, some-ahead, finishes-end, node-advances}
use Rattle.markdown_run_text.proofs.RowFields.{row-cursor, tree-within}
use Rattle.markdown_run_text.specs.TextContent.{text_choice_of, text_passed}
use Rattle.markdown_run_text.proofs.TextSteps.{KeepsTheRest, same-row, choice-same, no-check-behind, tree-kept, check-elements}
use Rattle.markdown_run.specs.ElementsOfText.{indexed, data_stops, text_named, KnowsNothing, MayTry, IsReady, FinishesAt, EndsByData, LeadsTo, PassesSome, ReachesData, PassesData, PassesAny, Learns}
use Rattle.markdown_run.specs.RunConstruct.{ConstructEnds}
use Rattle.markdown_run.proofs.ElementsRead.{element-passes, may-past}
use Rattle.markdown_run.proofs.IndexedRows.{row-alone}
use Rattle.markdown_run.proofs.ReadyTexts.{forgotten-start}

-- Data.

reads-indexed : (s : TokenizeState) (reading : TreeReading) (T U : Tokenizer) → Reads reading None T.tokenize_state T U →
    Reads reading None (indexed s T).tokenize_state (indexed s T) (indexed s U)
unfolding past scratched
reads-indexed s reading T U k = grind arith

some-code : (T : Tokenizer) → HasCode T → current_of T ≢ None
some-code T h e = let no : false ≡ true = sym (ap is_some e) ∙ h in cc

pub data-read-on : (T U : Tokenizer) → IsReady T → HasCode T → Reads (data_up_to (data_stops T)) None T.tokenize_state T U → PassesData T U
unfolding scratched
data-read-on T U r code k =
    let a = some-ahead T (ahead T) refl (some-code T code) in
    let d : DataRead (data_stops T) T U a.0 a.1.0 = data-read (data_stops T) T U a.0 a.1.0 a.1.1 k in
    let e : KeepsTheRest T U = same-row (row_end d.tree) T U d.left d.part r.may_try.start.ends in
    let less : codes_left U < codes_left T = d.less in
    let kept : AreStartsWithin U U.tokenize_state.label_starts = subst (λ (x : Tokenizer). AreStartsWithin x x.tokenize_state.label_starts) (sym d.left) (tree-within d.tree T r.may_try.start.ends.within) in
    record {
      ready = record {
        may_try = may-past T U e (omega (arith, less)) kept (ap (λ (x : Tokenizer). x.attempts) d.left ∙ row-alone (row_end d.tree) T ∙ r.may_try.alone) r.may_try;
        unchecked = no-check-behind (leaf_codes d.tree) T U (ap (λ (x : Tokenizer). x.cursor) d.left ∙ row-cursor (kinds_of T) (row_end d.tree) T d.part) d.whole less;
      };
      less = less;
      leads = leads e;
    }
  where
    leads : KeepsTheRest T U → (s : TokenizeState) (V : Tokenizer) → FinishesAt (indexed s U) V → EndsByData (indexed s T) V
    leads e s V h =
        record { behind = indexed s U; data_read = reads-indexed s (data_up_to (data_stops T)) T U k; finishes = subst (λ c. Finishes c text_passed (indexed s U) V) (choice-same T U e) h }

-- Elements.

pub goes-start : (T : Tokenizer) → IsReady T → PassesAny T T
goes-start T r = record { ready = r; leads = λ s V h. h }

pub goes-next : (T U W : Tokenizer) → PassesAny T U → PassesSome U W → PassesAny T W
goes-next T U W g p = record { ready = p.ready; leads = λ s V h. g.leads s V (p.leads s V h) }

pub stays-data : (T U W : Tokenizer) → ReachesData T U → PassesData U W → PassesSome T W
stays-data T U W k p =
    let less : codes_left W < codes_left U = p.less in
    let left : codes_left U ≤ codes_left T = k.left in
    record { ready = p.ready; less = omega (arith, less, left); leads = λ s V h. k.leads s V (p.leads s V h) }

-- where more is known
pub stays-learned : (T U W : Tokenizer) → ReachesData T U → Learns U W → ReachesData T W
unfolding scratched
stays-learned T U W k l = grind arith

-- The check.

pub check-goes : (T U : Tokenizer) (ok : Bool) → MayTry T → ConstructEnds GfmTaskListItemCheckStart T ok U → PassesAny T U
check-goes T U true r k =
    let node = node-of (bytes_of T) (check_here T) (search plain_constructs) (ahead T) k.tree k.rest k.holds in
    let p : PassesSome T U = element-passes T U r (tree-kept T U k.tree (k.left ∙ ap (past None k.tree) (scratched-same T)) r.start.ends.within) (node-advances (text_choice_of T) (check_here T) T U k node.0 node.1 (check-elements T (current_of T) refl k.tree k.rest k.holds)) in
    record { ready = p.ready; leads = p.leads }
check-goes T U false r k =
    subst (λ (x : Tokenizer). PassesAny T x) (sym (k.1 ∙ scratched-same T)) (goes-start T (record { may_try = r; unchecked = k.0 }))

off-test : (a b c : Bool) → b ≡ false → a && (b && c) ≡ false
off-test a b c e = grind arith

pub check-off : (T : Tokenizer) → MayTry T → T.tokenize_state.document_at_first_paragraph_of_list_item ≡ false → PassesAny T T
check-off T r off = grind (arith, goes-start, switched-off, off-test)

-- The end.

pub text-ends : (T U W V : Tokenizer) → KnowsNothing T → LeadsTo (text_named T) U → current_of U ≡ None → W ≡ indexed at_rest U →
    V ≡ text_passed W → FinishesAt (text_named T) V
unfolding scratched
text-ends T U W V unknown leads end forgotten passed = grind (arith, finishes-end, forgotten-start)
