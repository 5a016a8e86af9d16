-- A text that is read to its end, by whatever is known of the content where its elements begin: its passes may be called, and leave its tree.
use Rattle.std.proofs.Common.{◌≡◌, Bool, true, false, List, refl, sym, ap, subst, ◌∙◌, arith}
use Rattle.markdown_engine_events.specs.EventChains.{chained}
use Rattle.markdown_content.specs.Codes.{Code}
use Rattle.markdown_content.specs.Content.{IsContent, content_of}
use Rattle.markdown_content.specs.Place.{start_of_content}
use Rattle.markdown_engine.specs.PassesInOrder.{MayResolve, Resolves, unregistered}
use Rattle.markdown_content.specs.Tree.{events_of, Forest}
use Rattle.markdown_content.specs.declared.parser.ParseState.{ParseState}
use Rattle.markdown_content.specs.declared.parser.Piece.{Piece}
use Rattle.markdown_event.specs.declared.resolve.ResolveName.TheVariants as R
use Rattle.markdown_engine.specs.declared.tokenizer.TokenizeState.{TokenizeState}
use Rattle.markdown_engine.specs.declared.tokenizer.Tokenizer.{Tokenizer}
use Rattle.markdown_label.specs.Brackets.{grouped}
use Rattle.markdown_attention.specs.AttentionPass.{IsProbed}
use Rattle.markdown_attention.proofs.AttentionTreeLabels.{IsGood}
use Rattle.markdown_attention.proofs.MarkerCodes.{AreSingles, singles-content}
use Rattle.markdown_model.specs.Elements.{text_choice}
use Rattle.markdown_model.specs.InlineTree.{text_events, label_tree}
use Rattle.markdown_model.specs.Passes.{labels_of, merged}
use Rattle.markdown_model.specs.Setting.{Setting}
use Rattle.markdown_run_text.specs.OpenStarts.{brackets_of}
use Rattle.markdown_run_text.specs.Row.{row_has_run}
use Rattle.markdown_run_text.specs.RunOverElements.{Finishes}
use Rattle.markdown_run_text.specs.ContentPasses.{may_resolve_of, resolves_of}
use Rattle.markdown_run_text.specs.RunSetting.{text_setting_of}
use Rattle.markdown_run_text.specs.TextContent.{text_passed, text_choice_of}
use Rattle.markdown_run_text.proofs.RowTreeFacts.{grouped-runless}
use Rattle.markdown_run.proofs.PassesAfterRun.{text_finish, text-trims, IsGiven}
use Rattle.markdown_run.proofs.FoundTexts.{found-good, found-pairs, found-probed, found-still}
use Rattle.markdown_run.proofs.TextTree.{text-finished}
use Rattle.markdown_run.proofs.TreesWithoutRuns.{probes-none}
use Rattle.markdown_run.proofs.WholeRun.{StartsContent, AreFresh, IsRowRead, finished-may, finished-left, finished-events, finished-probes, finished-elements}

-- from M on, with these scratch fields, the elements of the text are read up to U; the fields say whether the text is the first of a list item
module _ (p : ParseState) (pieces : List Piece) (first : Bool) (content : IsContent p.bytes.now pieces) (s : TokenizeState) (fresh : AreFresh s) (told : s.document_at_first_paragraph_of_list_item ≡ first) (M U : Tokenizer) (start : StartsContent p pieces s M) (E : Finishes (text_choice_of M) text_passed M U) where
  abbrev setting : Setting
  setting = text_setting_of p first

  abbrev all_codes : List Code
  all_codes = content_of p.bytes.now pieces

  abbrev Is : IsGiven setting p
  Is = record { bytes = refl; options = refl }

  -- what is read
  choice-is : text_choice_of M ≡ text_choice setting all_codes
  unfolding start_of_content
  choice-is = grind arith

  -- the row with its labels grouped
  abbrev label_row : Forest
  label_row = grouped (brackets_of E.row)

  found : IsRowRead p.bytes.now (text_choice setting all_codes) all_codes E.row
  found =
      subst (λ c. IsRowRead p.bytes.now c all_codes E.row) choice-is
      (finished-elements R.Text text_finish text-trims (text_choice_of M) p pieces content setting Is s fresh M U start E)

  singles : AreSingles p.bytes.now all_codes
  singles = singles-content p.bytes.now pieces content.in_order

  good : row_has_run E.row ≡ true → IsGood p.bytes.now label_row
  good e = found-good setting all_codes E.row found singles

  pub read-may : MayResolve may_resolve_of resolves_of U.resolvers (unregistered U)
  read-may = finished-may R.Text text_finish text-trims (text_choice_of M) p pieces content setting Is s fresh M U start E good

  module _ (V : Tokenizer) (r : Resolves resolves_of U.resolvers (unregistered U) V) where
    -- the looks that pairing took are within the bounds of the content's tree of labels
    pub read-probes : IsProbed setting (label_tree setting all_codes) V.tokenize_state.probes
    read-probes =
        found-probed setting all_codes E.row found singles V.tokenize_state.probes
        (finished-probes R.Text text_finish text-trims (text_choice_of M) p pieces content setting Is s fresh M U start E good V (labels_of found.read) found.trees r)

    -- where runs are not looked for none is taken
    pub read-no-probes : setting.options.constructs.attention ≡ false → setting.options.constructs.gfm_strikethrough ≡ false → V.tokenize_state.probes ≡ 0
    read-no-probes off none =
        probes-none setting label_row V.tokenize_state.probes (grouped-runless E.row found.is_row (found-still setting all_codes E.row found off none)) (finished-left R.Text text_finish text-trims (text_choice_of M) p pieces content setting Is s fresh M U start E good V r).probed

    -- the events after the passes
    pub read-events : chained V.events ≡ text_events setting pieces
    read-events =
        finished-events R.Text text_finish text-trims (text_choice_of M) p pieces content setting Is s fresh M U start E good V (labels_of found.read) found.have_codes found.trees r
        ∙ ap (λ t. events_of (text_finish p (merged t))) (found-pairs setting all_codes E.row found singles)
        ∙ ap events_of (sym (text-finished setting all_codes found.elements found.are))
