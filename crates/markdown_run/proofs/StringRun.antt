-- A whole run over a string.
use Rattle.std.proofs.Common.{◌≡◌, Bool, true, false, List, [], None, refl, ap, subst, ◌∙◌, arith}
use Rattle.markdown_engine_events.specs.EventChains.{chained}
use Rattle.markdown_content.specs.Content.{IsContent, content_of}
use Rattle.markdown_engine.specs.Operations.{scratched}
use Rattle.markdown_engine.specs.RestingFields.{at_rest}
use Rattle.markdown_engine.specs.PassesInOrder.{MayResolve, Resolves, unregistered}
use Rattle.markdown_content.specs.declared.parser.ParseState.{ParseState}
use Rattle.markdown_content.specs.declared.parser.Piece.{Piece}
use Rattle.markdown_event.specs.declared.resolve.ResolveName.TheVariants as R
use Rattle.markdown_engine.specs.declared.tokenizer.Tokenizer.{Tokenizer}
use Rattle.markdown_model.specs.Elements.{AreElementsFrom, AreStringElements, string_choice}
use Rattle.markdown_model.specs.InlineTree.{string_events}
use Rattle.markdown_model.specs.LabelEnd.{Element}
use Rattle.markdown_run_text.specs.RunOverElements.{Finishes}
use Rattle.markdown_run_text.specs.ContentPasses.{may_resolve_of, resolves_of}
use Rattle.markdown_run_text.specs.RunSetting.{setting_of}
use Rattle.markdown_run_text.specs.StringContent.{string_markers, string_marked, string_passed, string_here, StringStartReady, start_ends}
use Rattle.markdown_run.proofs.PassesAfterRun.{string_finish, string-trims}
use Rattle.std.proofs.lemmas.Bool.{both_ways}
use Rattle.markdown_engine.proofs.TreeChains.{chained-whole}
use Rattle.markdown_content.specs.Tree.{Forest}
use Rattle.markdown_label.specs.Brackets.{grouped}
use Rattle.markdown_attention.proofs.AttentionTreeLabels.{IsGood}
use Rattle.markdown_model.specs.Passes.{labels_of}
use Rattle.markdown_run_text.specs.OpenStarts.{brackets_of}
use Rattle.markdown_run_text.specs.Row.{row_has_run, row_of_elements}
use Rattle.markdown_run_text.specs.RowTreeNames.{IsRunless}
use Rattle.markdown_run_text.proofs.PairsAsRead.{read-runless}
use Rattle.markdown_run_text.proofs.RowTreeFacts.{grouped-lines, grouped-runless}
use Rattle.markdown_run.proofs.PassesAfterRun.{IsGiven, IsResolved}
use Rattle.markdown_run.proofs.TreesWithoutRuns.{paired-runless, probes-none}
use Rattle.markdown_run.proofs.WholeRun.{StartsContent, start-with, AreFresh, IsRowRead, finished-may, finished-left, finished-elements}
use Rattle.markdown_run.proofs.StringTree.{string-finished, string-labels, string-still}
use Rattle.markdown_run.proofs.RowsWithoutRuns.{row-still}
use Rattle.markdown_run.proofs.DataInDocument.{HasLines-HasCodes}
use Rattle.markdown_run_text.proofs.CutDataLemmas.{merged-same}
use Rattle.markdown_model.proofs.StringTreeIsElements.{row_of}

-- where data stops at the markers of a string
marked-start : (p : ParseState) (pieces : List Piece) (T : Tokenizer) → StartsContent p pieces at_rest T →
    StartsContent p pieces (record at_rest { markers = string_markers }) (string_marked T)
unfolding scratched
marked-start p pieces T k = grind (arith, start-with)

-- its fields are at rest
pub string-ready : (p : ParseState) (pieces : List Piece) (T : Tokenizer) → StartsContent p pieces at_rest T → StringStartReady T
string-ready p pieces T k = grind arith

module _ (p : ParseState) (pieces : List Piece) (content : IsContent p.bytes.now pieces) (T U : Tokenizer) (start : StartsContent p pieces at_rest T) where
  abbrev M : Tokenizer
  M = string_marked T

  ended : (ok : Bool) → start_ends T ok U → Finishes (string_here M) string_passed M U
  ended ok k = grind arith

  choice-is : string_here M ≡ string_choice (setting_of p)
  unfolding scratched
  choice-is = ap (λ (x : ParseState). string_choice (setting_of x)) start.input

  module _ (ok : Bool) (k : start_ends T ok U) where
    abbrev E : Finishes (string_here M) string_passed M U
    E = ended ok k

    abbrev S : StartsContent p pieces (record at_rest { markers = string_markers }) M
    S = marked-start p pieces T start

    abbrev F : AreFresh (record at_rest { markers = string_markers })
    F = record { labels = refl; starts = refl; loose = refl; end = refl; seen = refl; probes = refl }

    abbrev G : IsGiven (setting_of p) p
    G = record { bytes = refl; options = refl }

    -- the row with its labels grouped, of which it has none
    abbrev label_row : Forest
    label_row = grouped (brackets_of E.row)

    found : IsRowRead p.bytes.now (string_here M) (content_of p.bytes.now pieces) E.row
    found = finished-elements R.String string_finish string-trims (string_here M) p pieces content (setting_of p) G _ F M U S E

    are : AreStringElements (setting_of p) (content_of p.bytes.now pieces) found.elements
    are = subst (λ c. AreElementsFrom c [] None (content_of p.bytes.now pieces) found.elements) choice-is found.are

    -- no run is among the elements, so that each is read as it is
    still : row_has_run (row_of_elements found.elements) ≡ false
    still = string-still (setting_of p) found.elements [] None (content_of p.bytes.now pieces) are

    as_they_are : found.read ≡ found.elements
    as_they_are = read-runless (record { bytes = p.bytes.now; content = content_of p.bytes.now pieces }) found.elements found.read found.read_as still

    labels : labels_of found.read ≡ row_of found.elements
    labels = ap labels_of as_they_are ∙ string-labels (setting_of p) (content_of p.bytes.now pieces) found.elements are

    -- no run stands in it
    none : row_has_run E.row ≡ false
    none = row-still E.row found.read found.alike (ap (λ (es : List Element). row_has_run (row_of_elements es)) as_they_are ∙ still)

    good : row_has_run E.row ≡ true → IsGood p.bytes.now label_row
    good e = absurd (both_ways (row_has_run E.row) none e)

    pub string-may : MayResolve may_resolve_of resolves_of U.resolvers (unregistered U)
    string-may =
        finished-may R.String string_finish string-trims (string_here M) p pieces content (setting_of p) G _ F M U S E good

    module _ (V : Tokenizer) (r : Resolves resolves_of U.resolvers (unregistered U) V) where
      runless : IsRunless label_row
      runless = grouped-runless E.row found.is_row none

      left : IsResolved (setting_of p) (string_finish p) label_row V
      left = finished-left R.String string_finish string-trims (string_here M) p pieces content (setting_of p) G _ F M U S E good V r

      pub string-probes : V.tokenize_state.probes ≡ 0
      string-probes = probes-none (setting_of p) label_row V.tokenize_state.probes runless left.probed

      -- the events after a run over a string and its passes
      pub string-run : chained V.events ≡ string_events (setting_of p) pieces
      string-run = grind (arith, left, chained-whole, paired-runless, runless, merged-same, found, HasLines-HasCodes, grouped-lines, labels, string-finished, are)
