-- Starts and ends of labels, as the single constructs read them, are those of the states.
use Rattle.std.proofs.Common.{◌≡◌, ℕ, Bool, true, false, not, List, [], ◌++◌, Option, None, Some, refl, ◌∙◌, append_assoc, arith}
use Rattle.std.specs.Str.{byte}
use Rattle.markdown_content.specs.Codes.{Code}
use Rattle.markdown_content.specs.Tree.{Forest, empty, leaf_codes, start_of}
use Rattle.markdown_content.specs.declared.label_kind.LabelKind.{LabelKind}
use Rattle.markdown_engine.specs.Operations.{Op, ahead, done}
use Rattle.markdown_event.specs.declared.state.StateName.TheVariants.{GfmLabelStartFootnoteStart, LabelStartImageStart, LabelStartLinkStart}
use Rattle.markdown_engine.specs.declared.tokenizer.Tokenizer.{Tokenizer}
use Rattle.markdown_label.specs.LabelEnd.{Ends}
use Rattle.markdown_label.specs.LabelStarts.{begins_as, kept_start, link_ops, link_test, link_ends, footnote_front, footnote_back, footnote_test, footnote_ends, image_front, image_back, image_test, image_ends}
use Rattle.markdown_model.specs.CodeTests.{is_value}
use Rattle.markdown_model.specs.Grammar.{Reading, one, provided, ◌>>◌}
use Rattle.markdown_model.specs.LabelEnd.{Element, label_name, link_kind}
use Rattle.markdown_model.specs.Setting.{Setting}
use Rattle.markdown_model.specs.SingleConstructs.{WaitingStart, outcome, outcome_at, label_end_here}
use Rattle.markdown_model.proofs.DefinitionSteps.{read-codes}
use Rattle.markdown_model.proofs.LabelsCover.{covers_after_label, outcome_codes}
use Rattle.markdown_model.proofs.ReadingsCover.{Covers, bind, given, if_passed, one_of, takes_one, itself}
use Rattle.markdown_run_text.specs.Row.{past_mark}
use Rattle.markdown_label_names.specs.LabelSetting.{setting_in}
use Rattle.markdown_label.specs.LabelEnd.{last_start}
use Rattle.markdown_run.specs.RunConstruct.{EndsOrLoses, start_reading}
use Rattle.markdown_run_text.specs.ReaderEnds.{BeginsOrStays}
use Rattle.markdown_run_text.proofs.LabelStartConstructs.{image-begins, link-begins, footnote-begins, image-not, link-not, footnote-not}

-- Starts.

some-is-none : {A : Type 0} {x : A} (o : Option A) → o ≡ None → o ≡ Some x → ⊥
some-is-none o h k = grind arith

module _ (T : Tokenizer) (reading : Reading Element) (kind : LabelKind) (size : ℕ) (ops : List Op) (test : List Code → Bool) (so : (U : Tokenizer) → begins_as 0 kind size ops test T true U → BeginsOrStays reading T true U) where
  abbrev start_kept : Tokenizer
  start_kept = kept_start kind size (done ops T)

  there : test (ahead T) ≡ true → BeginsOrStays reading T true start_kept
  there h = so start_kept (record { holds = h; left = refl })

  begun-as : (not-so : test (ahead T) ≡ false → reading (ahead T) ≡ None) (U : Tokenizer) → BeginsOrStays reading T true U →
      begins_as 0 kind size ops test T true U
  unfolding past_mark
  begun-as not-so U k = grind (arith, there, some-is-none)

  test-fails : reading (ahead T) ≡ None → test (ahead T) ≡ false
  test-fails none = grind (arith, some-is-none, there)

pub image-begun : (T U : Tokenizer) → BeginsOrStays (start_reading LabelStartImageStart T) T true U → image_ends T true U
image-begun T U k =
    begun-as T (start_reading LabelStartImageStart T) LabelKind.Image 6 (image_front ++ image_back) (image_test T) (image-begins T) (image-not T) U k

pub link-begun : (T U : Tokenizer) → BeginsOrStays (start_reading LabelStartLinkStart T) T true U → link_ends T true U
link-begun T U k = begun-as T (start_reading LabelStartLinkStart T) LabelKind.Link 4 link_ops (link_test T) (link-begins T) (link-not T) U k

pub footnote-begun : (T U : Tokenizer) → BeginsOrStays (start_reading GfmLabelStartFootnoteStart T) T true U → footnote_ends T true U
footnote-begun T U k =
    begun-as T (start_reading GfmLabelStartFootnoteStart T) LabelKind.GfmFootnote 6 (footnote_front ++ footnote_back) (footnote_test T) (footnote-begins T) (footnote-not T) U k

pub image-fails : (T : Tokenizer) → start_reading LabelStartImageStart T (ahead T) ≡ None → image_test T (ahead T) ≡ false
image-fails T none =
    test-fails T (start_reading LabelStartImageStart T) LabelKind.Image 6 (image_front ++ image_back) (image_test T) (image-begins T) none

pub link-fails : (T : Tokenizer) → start_reading LabelStartLinkStart T (ahead T) ≡ None → link_test T (ahead T) ≡ false
link-fails T none = test-fails T (start_reading LabelStartLinkStart T) LabelKind.Link 4 link_ops (link_test T) (link-begins T) none

pub footnote-fails : (T : Tokenizer) → start_reading GfmLabelStartFootnoteStart T (ahead T) ≡ None → footnote_test T (ahead T) ≡ false
footnote-fails T none =
    test-fails T (start_reading GfmLabelStartFootnoteStart T) LabelKind.GfmFootnote 6 (footnote_front ++ footnote_back) (footnote_test T) (footnote-begins T) none

-- Ends.

abbrev end_codes : List Code × (LabelKind × Forest) → List Code
end_codes r = r.0 ++ outcome_codes r.1

covers-outcome-at : (s : Setting) (l : Option WaitingStart) (back : List Code) → Covers outcome_codes [] (outcome_at s l back)
unfolding outcome
covers-outcome-at s None back = record { at = λ cs. tt }
covers-outcome-at s (Some l) back = record { at = λ cs. (inside).at cs }
  where
    inside : Covers outcome_codes [] (provided (not l.barred) >> outcome s l.kind (label_name s l.kind l.stop.index (start_of back).index))
    inside =
        if_passed outcome_codes [] (not l.barred) _
        (one_of outcome_codes [] _ _ (if_passed outcome_codes [] _ _ (given outcome_codes [] (LabelKind.GfmFootnote, empty) refl))
        (bind leaf_codes outcome_codes [] _ _ (covers_after_label s _) λ tail. given outcome_codes _ (link_kind l.kind, tail) refl))

covers-end : (s : Setting) (l : Option WaitingStart) → Covers end_codes [] (label_end_here s l)
covers-end s l =
    if_passed end_codes [] s.options.constructs.label_end _
    (bind itself end_codes [] (one (is_value (byte "]"))) _ (takes_one (is_value (byte "]"))) λ back.
    bind outcome_codes end_codes back (outcome_at s l back) _ (covers-outcome-at s l back) λ o. given end_codes _ (back, o) refl)

pub end-made : (T U : Tokenizer) → EndsOrLoses T true U → Ends T U
unfolding past_mark
end-made T U k =
    let back : List Code = k.0 in
    let tail : Forest = k.1.1.0 in
    record {
      back = back;
      kind = k.1.0;
      tail = tail;
      rest = ahead U;
      holds = k.1.1.1.0;
      left = k.1.1.1.1;
      whole = read-codes end_codes (label_end_here (setting_in T) (last_start T.events T.tokenize_state.label_starts)) (covers-end _ _) (ahead T) (ahead U) (back, (k.1.0, tail)) k.1.1.1.0 ∙ append_assoc back (leaf_codes tail) (ahead U);
      after = refl;
    }
