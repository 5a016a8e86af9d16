-- The laws of the states of a resource, joined.
use Rattle.markdown_engine.specs.StateWords.{StateWords, Words}
use Rattle.markdown_event.specs.declared.state.StateName.{StateName}
use Rattle.markdown_event.specs.declared.state.StateName.TheVariants as H
use Rattle.markdown_label.specs.Resource.{states, states_and_called}
use Rattle.markdown_label.proofs.ResourceInsideLaws as ResourceInsideLaws
use Rattle.markdown_label.proofs.ResourceLaws as ResourceLaws
use Rattle.markdown_label.proofs.ResourceStartLaw as ResourceStartLaw
use Rattle.markdown_plan.specs.LayerEquation.{EqualsLayer, AreLawful}

-- of these states, and of any other as it is given
pub laws : (W : Words) → EqualsLayer states_and_called W → (t : StateName → StateWords) → AreLawful W t →
    AreLawful W (states t)
laws W within t other H.LabelEndResourceStart = ResourceStartLaw.start-law W within
laws W within t other H.LabelEndResourceBefore = ResourceLaws.before-law W within
laws W within t other H.LabelEndResourceOpen = ResourceInsideLaws.open-law W within
laws W within t other H.LabelEndResourceDestinationAfter = ResourceInsideLaws.destination_after-law W within
laws W within t other H.LabelEndResourceDestinationMissing = ResourceInsideLaws.missing-law W within
laws W within t other H.LabelEndResourceBetween = ResourceInsideLaws.between-law W within
laws W within t other H.LabelEndResourceTitleAfter = ResourceInsideLaws.title_after-law W within
laws W within t other H.LabelEndResourceEnd = ResourceInsideLaws.end-law W within
laws W within t other s = other s
