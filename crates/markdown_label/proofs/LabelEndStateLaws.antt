-- The laws of the states of a label's end, joined.
use Rattle.markdown_engine.specs.StateWords.{StateWords, Words}
use Rattle.markdown_event.specs.declared.state.StateName.{StateName}
use Rattle.markdown_event.specs.declared.state.StateName.TheVariants as H
use Rattle.markdown_label.specs.LabelEnd.{states, states_and_called}
use Rattle.markdown_label.proofs.LabelEndLaws as LabelEndLaws
use Rattle.markdown_label.proofs.LabelEndStartLaw as LabelEndStartLaw
use Rattle.markdown_label.proofs.ReferenceFullLaws as ReferenceFullLaws
use Rattle.markdown_plan.specs.LayerEquation.{EqualsLayer, AreLawful}

-- of these states, and of any other as it is given
pub laws : (W : Words) → EqualsLayer states_and_called W → (t : StateName → StateWords) → AreLawful W t →
    AreLawful W (states t)
laws W within t other H.LabelEndAfter = LabelEndLaws.after-law W within
laws W within t other H.LabelEndOk = LabelEndLaws.ok-law W within
laws W within t other H.LabelEndNok = LabelEndLaws.nok-law W within
laws W within t other H.LabelEndReferenceFull = ReferenceFullLaws.reference_full-law W within
laws W within t other H.LabelEndReferenceFullAfter = ReferenceFullLaws.reference_full_after-law W within
laws W within t other H.LabelEndReferenceFullMissing = ReferenceFullLaws.reference_full_missing-law W within
laws W within t other H.LabelEndReferenceNotFull = LabelEndLaws.reference_not_full-law W within
laws W within t other H.LabelEndReferenceCollapsed = LabelEndLaws.reference_collapsed-law W within
laws W within t other H.LabelEndReferenceCollapsedOpen = LabelEndLaws.reference_collapsed_open-law W within
laws W within t other H.LabelEndStart = LabelEndStartLaw.start-law W within
laws W within t other s = other s
