-- The states that pass code after code do no more than that up to their stop bytes.
use Rattle.std.proofs.Common.{◌≡◌, ℕ, List, None, Some}
use Rattle.markdown_engine.specs.Steady.{IsSteady}
use Rattle.markdown_event.specs.declared.state.StateName.TheVariants as H
use Rattle.markdown_leaf_html.proofs.HtmlSteadyLaws as HtmlSteadyLaws
use Rattle.markdown_leaf.proofs.AutolinkLaws as AutolinkLaws
use Rattle.markdown_leaf.proofs.RawTextLaws as RawTextLaws
use Rattle.markdown_partial.proofs.PartialDataLaws as PartialDataLaws
use Rattle.markdown_partial.proofs.LinkSteadyLaws as StringSteady
use Rattle.markdown_run.specs.Layer.{ready_of, step_of, stops_of}

no-bytes : (set : List ℕ) → None ≡ Some set → ⊥
no-bytes set e = cc

pub steady_of : IsSteady ready_of step_of stops_of
steady_of H.DataInside T set alone r known free = PartialDataLaws.inside-steady T set known free
steady_of H.RawTextData T set alone r known free = RawTextLaws.data-steady T set known free
steady_of H.HtmlTextComment T set alone r known free = HtmlSteadyLaws.comment-steady T set known free
steady_of H.HtmlTextCdata T set alone r known free = HtmlSteadyLaws.cdata-steady T set known free
steady_of H.HtmlTextDeclaration T set alone r known free = HtmlSteadyLaws.declaration-steady T set known free
steady_of H.HtmlTextInstruction T set alone r known free = HtmlSteadyLaws.instruction-steady T set known free
steady_of H.HtmlTextTagOpenAttributeValueQuoted T set alone r known free = HtmlSteadyLaws.quoted-steady T set known free
steady_of H.AutolinkUrlInside T set alone r known free = AutolinkLaws.uri-steady T set known free
steady_of H.DestinationEnclosed T set alone r known free = StringSteady.enclosed-steady T set known free
steady_of H.DestinationRaw T set alone r known free = StringSteady.raw-steady T set known free
steady_of H.TitleInside T set alone r known free = StringSteady.title-steady T set known free
steady_of _ T set alone r known free = absurd (no-bytes set known)
