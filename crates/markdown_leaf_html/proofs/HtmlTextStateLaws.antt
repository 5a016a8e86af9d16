-- The laws of the states of HTML in text, joined.
use Rattle.markdown_engine.specs.StateWords.{StateWords, Words}
use Rattle.markdown_event.specs.declared.state.StateName.{StateName}
use Rattle.markdown_event.specs.declared.state.StateName.TheVariants as H
use Rattle.markdown_leaf_html.specs.HtmlText.{states}
use Rattle.markdown_leaf_html.proofs.HtmlLineEndingLaws as HtmlLineEndingLaws
use Rattle.markdown_leaf_html.proofs.HtmlTextLaws as HtmlTextLaws
use Rattle.markdown_leaf_html.proofs.HtmlTextStartLaw as HtmlTextStartLaw
use Rattle.markdown_leaf_html.proofs.HtmlLineEndingLaws.{HasHtmlWords}
use Rattle.markdown_plan.specs.LayerEquation.{AreLawful}

-- of these states, and of any other as it is given
pub laws : (W : Words) → HasHtmlWords W → (t : StateName → StateWords) → AreLawful W t → AreLawful W (states t)
laws W within t other H.HtmlTextStart = HtmlTextStartLaw.start-law W within
laws W within t other H.HtmlTextOpen = HtmlTextLaws.open-law W within
laws W within t other H.HtmlTextDeclarationOpen = HtmlTextLaws.declaration_open-law W within
laws W within t other H.HtmlTextCommentOpenInside = HtmlTextLaws.comment_open_inside-law W within
laws W within t other H.HtmlTextComment = HtmlTextLaws.comment-law W within
laws W within t other H.HtmlTextCommentClose = HtmlTextLaws.comment_close-law W within
laws W within t other H.HtmlTextCommentEnd = HtmlTextLaws.comment_end-law W within
laws W within t other H.HtmlTextCdata = HtmlTextLaws.cdata-law W within
laws W within t other H.HtmlTextCdataClose = HtmlTextLaws.cdata_close-law W within
laws W within t other H.HtmlTextCdataEnd = HtmlTextLaws.cdata_end-law W within
laws W within t other H.HtmlTextDeclaration = HtmlTextLaws.declaration-law W within
laws W within t other H.HtmlTextInstruction = HtmlTextLaws.instruction-law W within
laws W within t other H.HtmlTextInstructionClose = HtmlTextLaws.instruction_close-law W within
laws W within t other H.HtmlTextTagCloseStart = HtmlTextLaws.tag_close_start-law W within
laws W within t other H.HtmlTextTagClose = HtmlTextLaws.tag_close-law W within
laws W within t other H.HtmlTextTagCloseBetween = HtmlTextLaws.tag_close_between-law W within
laws W within t other H.HtmlTextTagOpen = HtmlTextLaws.tag_open-law W within
laws W within t other H.HtmlTextTagOpenBetween = HtmlTextLaws.tag_open_between-law W within
laws W within t other H.HtmlTextTagOpenAttributeName = HtmlTextLaws.tag_open_attribute_name-law W within
laws W within t other H.HtmlTextTagOpenAttributeNameAfter = HtmlTextLaws.tag_open_attribute_name_after-law W within
laws W within t other H.HtmlTextTagOpenAttributeValueBefore = HtmlTextLaws.tag_open_attribute_value_before-law W within
laws W within t other H.HtmlTextTagOpenAttributeValueQuotedAfter =
    HtmlTextLaws.tag_open_attribute_value_quoted_after-law W within
laws W within t other H.HtmlTextTagOpenAttributeValueUnquoted =
    HtmlTextLaws.tag_open_attribute_value_unquoted-law W within
laws W within t other H.HtmlTextEnd = HtmlTextLaws.end-law W within
laws W within t other H.HtmlTextCdataOpenInside = HtmlTextLaws.cdata_open_inside-law W within
laws W within t other H.HtmlTextTagOpenAttributeValueQuoted = HtmlTextLaws.tag_open_attribute_value_quoted-law W within
laws W within t other H.HtmlTextLineEndingBefore = HtmlLineEndingLaws.before-law W within
laws W within t other H.HtmlTextLineEndingAfter = HtmlLineEndingLaws.after-law W within
laws W within t other H.HtmlTextLineEndingAfterPrefix = HtmlLineEndingLaws.prefix-law W within
laws W within t other s = other s
