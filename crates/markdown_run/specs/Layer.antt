-- The states of inline content by name: when they may be called, what they do, how runs from them end, and a number that falls; and the laws of
-- all of them, which stand in specs since a trait's law is a part of a contract.
pub mod Steady
use Rattle.std.specs.Prelude.{ℕ, Bool, List, Option, None, Some, false}
use Rattle.markdown_engine.specs.StateRuns.{Stepped, Lawful}
use Rattle.markdown_engine.specs.Weights.{weight_at}
use Rattle.markdown_engine.specs.StateWords.{StateWords, Words, Law, words_in, end_words}
use Rattle.markdown_event.specs.declared.state.StateName.{StateName}
use Rattle.markdown_event.specs.declared.state.StateName.TheVariants as H
use Rattle.markdown_engine.specs.declared.tokenizer.TokenizeState.{TokenizeState}
use Rattle.markdown_engine.specs.declared.tokenizer.Tokenizer.{Tokenizer}
use Rattle.markdown_leaf_gfm.specs.GfmAutolinkLiteral as GfmAutolinkLiteral
use Rattle.markdown_leaf_gfm.specs.GfmTaskListItemCheck as GfmTaskListItemCheck
use Rattle.markdown_leaf_html.specs.HtmlText as HtmlText
use Rattle.markdown_leaf_html.specs.HtmlTextRests as HtmlTextRests
use Rattle.markdown_attention.specs.Attention as Attention
use Rattle.markdown_label.specs.LabelEnd as LabelEnd
use Rattle.markdown_label.specs.LabelStarts as LabelStarts
use Rattle.markdown_leaf.specs.Autolink as Autolink
use Rattle.markdown_partial.specs.PartialDestination as PartialDestination
use Rattle.markdown_partial.specs.PartialTitle as PartialTitle
use Rattle.markdown_partial.specs.PartialLabel as PartialLabel
use Rattle.markdown_leaf.specs.CharacterEscape as CharacterEscape
use Rattle.markdown_leaf.specs.CharacterReference as CharacterReference
use Rattle.markdown_leaf.specs.HardBreakEscape as HardBreakEscape
use Rattle.markdown_leaf.specs.RawText as RawText
use Rattle.markdown_partial.specs.PartialData as PartialData
use Rattle.markdown_partial.specs.PartialSpaceOrTabEol as PartialSpaceOrTabEol
use Rattle.markdown_partial.specs.PartialSpaceOrTab as PartialSpaceOrTab
use Rattle.markdown_label.specs.Resource as Resource
use Rattle.markdown_run_text.specs.StringContent as StringContent
use Rattle.markdown_run_text.specs.TextContent as TextContent
use Rattle.std.proofs.Common.{◌≡◌, refl, sym, subst}
use Rattle.markdown_plan.specs.LayerEquation.{EqualsLayer, AreLawful}
use Rattle.markdown_plan.proofs.LawStepsOfLayer.{no-laws}
use Rattle.markdown_run_text.proofs.StringContentLaws as StringContentLaws
use Rattle.markdown_run_text.proofs.TextContentLaws as TextContentLaws
use Rattle.markdown_partial.proofs.PartialSpaceOrTabLaws as PartialSpaceOrTabLaws
use Rattle.markdown_partial.proofs.PartialSpaceOrTabEolLaws as PartialSpaceOrTabEolLaws
use Rattle.markdown_partial.proofs.PartialDataLaws as PartialDataLaws
use Rattle.markdown_attention.proofs.AttentionLaws as AttentionLaws
use Rattle.markdown_leaf.proofs.CharacterEscapeLaws as CharacterEscapeLaws
use Rattle.markdown_leaf.proofs.CharacterReferenceLaws as CharacterReferenceLaws
use Rattle.markdown_leaf.proofs.HardBreakEscapeLaws as HardBreakEscapeLaws
use Rattle.markdown_leaf.proofs.AutolinkLaws as AutolinkLaws
use Rattle.markdown_leaf.proofs.RawTextLaws as RawTextLaws
use Rattle.markdown_label.proofs.LabelStartLaws as LabelStartLaws
use Rattle.markdown_label.proofs.LabelEndStateLaws as LabelEndStateLaws
use Rattle.markdown_label.proofs.ResourceStateLaws as ResourceStateLaws
use Rattle.markdown_partial.proofs.PartialDestinationLaws as PartialDestinationLaws
use Rattle.markdown_partial.proofs.PartialTitleLaws as PartialTitleLaws
use Rattle.markdown_partial.proofs.PartialLabelLaws as PartialLabelLaws
use Rattle.markdown_leaf_html.specs.HtmlText.{part_words}
use Rattle.markdown_leaf_html.specs.HtmlTextRests.{HtmlPart, state_of, Open}
use Rattle.markdown_leaf_html.proofs.HtmlLineEndingLaws as HtmlLineEndingLaws
use Rattle.markdown_leaf_html.proofs.HtmlTextStateLaws as HtmlTextStateLaws
use Rattle.markdown_leaf_gfm.proofs.GfmTaskListItemCheckLaws as GfmTaskListItemCheckLaws
use Rattle.markdown_leaf_gfm.proofs.GfmAutolinkLiteralStateLaws as GfmAutolinkLiteralStateLaws

-- a part of what is said of a state: the part is taken in each line, so that a name that is not known yet leaves a line to choose, not a field
abbrev pub said_of {ℓ} : {A : Type ℓ} → StateName → (StateWords → A) → A
said_of H.CharacterEscapeStart part = part CharacterEscape.start_words
said_of H.CharacterEscapeInside part = part CharacterEscape.inside_words
said_of H.CharacterReferenceStart part = part CharacterReference.start_words
said_of H.CharacterReferenceOpen part = part CharacterReference.open_words
said_of H.CharacterReferenceNumeric part = part CharacterReference.numeric_words
said_of H.CharacterReferenceValue part = part CharacterReference.value_words
said_of H.HardBreakEscapeStart part = part HardBreakEscape.start_words
said_of H.HardBreakEscapeAfter part = part HardBreakEscape.after_words
said_of H.AutolinkStart part = part Autolink.start_words
said_of H.AutolinkOpen part = part Autolink.open_words
said_of H.AutolinkSchemeOrEmailAtext part = part Autolink.scheme_or_words
said_of H.AutolinkSchemeInsideOrEmailAtext part = part Autolink.scheme_inside_words
said_of H.AutolinkUrlInside part = part Autolink.url_inside_words
said_of H.AutolinkEmailAtext part = part Autolink.email_atext_words
said_of H.AutolinkEmailAtSignOrDot part = part Autolink.email_at_sign_or_dot_words
said_of H.AutolinkEmailLabel part = part Autolink.email_label_words
said_of H.AutolinkEmailValue part = part Autolink.email_value_words
said_of H.RawTextStart part = part RawText.start_words
said_of H.RawTextSequenceOpen part = part RawText.sequence_open_words
said_of H.RawTextBetween part = part RawText.between_words
said_of H.RawTextData part = part RawText.data_words
said_of H.RawTextSequenceClose part = part RawText.sequence_close_words
said_of H.SpaceOrTabStart part = part PartialSpaceOrTab.start_words
said_of H.SpaceOrTabInside part = part PartialSpaceOrTab.inside_words
said_of H.SpaceOrTabAfter part = part PartialSpaceOrTab.after_words
said_of H.SpaceOrTabEolStart part = part PartialSpaceOrTabEol.start_words
said_of H.SpaceOrTabEolAfterFirst part = part PartialSpaceOrTabEol.after_first_words
said_of H.SpaceOrTabEolAtEol part = part PartialSpaceOrTabEol.at_eol_words
said_of H.SpaceOrTabEolAfterEol part = part PartialSpaceOrTabEol.after_eol_words
said_of H.SpaceOrTabEolAfterMore part = part PartialSpaceOrTabEol.after_more_words
said_of H.DataStart part = part PartialData.start_words
said_of H.DataAtBreak part = part PartialData.at_break_words
said_of H.DataInside part = part PartialData.inside_words
said_of H.StringStart part = part StringContent.start_words
said_of H.StringBefore part = part StringContent.before_words
said_of H.StringBeforeData part = part StringContent.before_data_words
said_of H.GfmTaskListItemCheckStart part = part GfmTaskListItemCheck.start_words
said_of H.GfmTaskListItemCheckInside part = part GfmTaskListItemCheck.inside_words
said_of H.GfmTaskListItemCheckClose part = part GfmTaskListItemCheck.close_words
said_of H.GfmTaskListItemCheckAfter part = part GfmTaskListItemCheck.after_words
said_of H.GfmTaskListItemCheckAfterSpaceOrTab part = part GfmTaskListItemCheck.after_space_or_tab_words
said_of H.HtmlTextStart part = part HtmlText.start_words
said_of H.HtmlTextOpen part = part (HtmlText.part_words HtmlTextRests.Open)
said_of H.HtmlTextDeclarationOpen part = part (HtmlText.part_words HtmlTextRests.DeclarationOpen)
said_of H.HtmlTextCommentOpenInside part = part (HtmlText.part_words HtmlTextRests.CommentOpenInside)
said_of H.HtmlTextComment part = part (HtmlText.part_words HtmlTextRests.Comment)
said_of H.HtmlTextCommentClose part = part (HtmlText.part_words HtmlTextRests.CommentClose)
said_of H.HtmlTextCommentEnd part = part (HtmlText.part_words HtmlTextRests.CommentEnd)
said_of H.HtmlTextCdata part = part (HtmlText.part_words HtmlTextRests.Cdata)
said_of H.HtmlTextCdataClose part = part (HtmlText.part_words HtmlTextRests.CdataClose)
said_of H.HtmlTextCdataEnd part = part (HtmlText.part_words HtmlTextRests.CdataEnd)
said_of H.HtmlTextDeclaration part = part (HtmlText.part_words HtmlTextRests.Declaration)
said_of H.HtmlTextInstruction part = part (HtmlText.part_words HtmlTextRests.Instruction)
said_of H.HtmlTextInstructionClose part = part (HtmlText.part_words HtmlTextRests.InstructionClose)
said_of H.HtmlTextTagCloseStart part = part (HtmlText.part_words HtmlTextRests.TagCloseStart)
said_of H.HtmlTextTagClose part = part (HtmlText.part_words HtmlTextRests.TagClose)
said_of H.HtmlTextTagCloseBetween part = part (HtmlText.part_words HtmlTextRests.TagCloseBetween)
said_of H.HtmlTextTagOpen part = part (HtmlText.part_words HtmlTextRests.TagOpen)
said_of H.HtmlTextTagOpenBetween part = part (HtmlText.part_words HtmlTextRests.TagOpenBetween)
said_of H.HtmlTextTagOpenAttributeName part = part (HtmlText.part_words HtmlTextRests.AttributeName)
said_of H.HtmlTextTagOpenAttributeNameAfter part = part (HtmlText.part_words HtmlTextRests.AttributeNameAfter)
said_of H.HtmlTextTagOpenAttributeValueBefore part = part (HtmlText.part_words HtmlTextRests.ValueBefore)
said_of H.HtmlTextTagOpenAttributeValueQuotedAfter part = part (HtmlText.part_words HtmlTextRests.ValueQuotedAfter)
said_of H.HtmlTextTagOpenAttributeValueUnquoted part = part (HtmlText.part_words HtmlTextRests.ValueUnquoted)
said_of H.HtmlTextEnd part = part (HtmlText.part_words HtmlTextRests.End)
said_of H.HtmlTextCdataOpenInside part = part HtmlText.cdata_open_inside_words
said_of H.HtmlTextTagOpenAttributeValueQuoted part = part HtmlText.tag_open_attribute_value_quoted_words
said_of H.HtmlTextLineEndingBefore part = part HtmlText.line_ending_before_words
said_of H.HtmlTextLineEndingAfter part = part HtmlText.line_ending_after_words
said_of H.HtmlTextLineEndingAfterPrefix part = part HtmlText.line_ending_after_prefix_words
said_of H.DestinationStart part = part PartialDestination.start_words
said_of H.DestinationEnclosedBefore part = part PartialDestination.enclosed_before_words
said_of H.DestinationEnclosed part = part PartialDestination.enclosed_words
said_of H.DestinationEnclosedEscape part = part PartialDestination.enclosed_escape_words
said_of H.DestinationRaw part = part PartialDestination.raw_words
said_of H.DestinationRawEscape part = part PartialDestination.raw_escape_words
said_of H.TitleStart part = part PartialTitle.start_words
said_of H.TitleBegin part = part PartialTitle.begin_words
said_of H.TitleAtBreak part = part PartialTitle.at_break_words
said_of H.TitleAfterEol part = part PartialTitle.after_eol_words
said_of H.TitleInside part = part PartialTitle.inside_words
said_of H.TitleEscape part = part PartialTitle.escape_words
said_of H.TitleNok part = part PartialTitle.nok_words
said_of H.LabelStart part = part PartialLabel.start_words
said_of H.LabelAtBreak part = part PartialLabel.at_break_words
said_of H.LabelEolAfter part = part PartialLabel.eol_after_words
said_of H.LabelInside part = part PartialLabel.inside_words
said_of H.LabelEscape part = part PartialLabel.escape_words
said_of H.LabelNok part = part PartialLabel.nok_words
said_of H.GfmLabelStartFootnoteOpen part = part LabelStarts.footnote_open_words
said_of H.LabelStartImageOpen part = part LabelStarts.image_open_words
said_of H.LabelStartImageAfter part = part LabelStarts.image_after_words
said_of H.LabelEndAfter part = part LabelEnd.after_words
said_of H.LabelEndOk part = part LabelEnd.ok_words
said_of H.LabelEndNok part = part LabelEnd.nok_words
said_of H.LabelEndResourceStart part = part Resource.start_words
said_of H.LabelEndResourceBefore part = part Resource.before_words
said_of H.LabelEndResourceOpen part = part Resource.open_words
said_of H.LabelEndResourceDestinationAfter part = part Resource.destination_after_words
said_of H.LabelEndResourceDestinationMissing part = part Resource.missing_words
said_of H.LabelEndResourceBetween part = part Resource.between_words
said_of H.LabelEndResourceTitleAfter part = part Resource.title_after_words
said_of H.LabelEndResourceEnd part = part Resource.end_words
said_of H.LabelEndReferenceFull part = part LabelEnd.reference_full_words
said_of H.LabelEndReferenceFullAfter part = part LabelEnd.reference_full_after_words
said_of H.LabelEndReferenceFullMissing part = part LabelEnd.reference_full_missing_words
said_of H.LabelEndReferenceNotFull part = part LabelEnd.reference_not_full_words
said_of H.LabelEndReferenceCollapsed part = part LabelEnd.reference_collapsed_words
said_of H.LabelEndReferenceCollapsedOpen part = part LabelEnd.reference_collapsed_open_words
said_of H.TextStart part = part TextContent.start_words
said_of H.TextBefore part = part TextContent.before_words
said_of H.TextBeforeHtml part = part TextContent.before_html_words
said_of H.TextBeforeHardBreakEscape part = part TextContent.before_hard_break_escape_words
said_of H.TextBeforeLabelStartLink part = part TextContent.before_label_start_link_words
said_of H.TextBeforeData part = part TextContent.before_data_words
said_of H.AttentionStart part = part Attention.start_words
said_of H.AttentionInside part = part Attention.inside_words
said_of H.GfmAutolinkLiteralProtocolStart part = part GfmAutolinkLiteral.protocol_start_words
said_of H.GfmAutolinkLiteralProtocolAfter part = part GfmAutolinkLiteral.protocol_after_words
said_of H.GfmAutolinkLiteralProtocolPrefixInside part = part GfmAutolinkLiteral.prefix_words
said_of H.GfmAutolinkLiteralProtocolSlashesInside part = part GfmAutolinkLiteral.slashes_words
said_of H.GfmAutolinkLiteralWwwStart part = part GfmAutolinkLiteral.www_start_words
said_of H.GfmAutolinkLiteralWwwPrefixInside part = part GfmAutolinkLiteral.www_prefix_words
said_of H.GfmAutolinkLiteralWwwPrefixAfter part = part GfmAutolinkLiteral.www_prefix_after_words
said_of H.GfmAutolinkLiteralWwwAfter part = part GfmAutolinkLiteral.www_after_words
said_of H.GfmAutolinkLiteralDomainInside part = part GfmAutolinkLiteral.domain_words
said_of H.GfmAutolinkLiteralDomainAtPunctuation part = part GfmAutolinkLiteral.domain_punctuation_words
said_of H.GfmAutolinkLiteralDomainAfter part = part GfmAutolinkLiteral.domain_after_words
said_of H.GfmAutolinkLiteralPathInside part = part GfmAutolinkLiteral.path_words
said_of H.GfmAutolinkLiteralPathAtPunctuation part = part GfmAutolinkLiteral.path_punctuation_words
said_of H.GfmAutolinkLiteralPathAfter part = part GfmAutolinkLiteral.path_after_words
said_of H.GfmAutolinkLiteralTrail part = part GfmAutolinkLiteral.trail_words
said_of H.GfmAutolinkLiteralTrailBracketAfter part = part GfmAutolinkLiteral.bracket_after_words
said_of H.GfmAutolinkLiteralTrailCharRefStart part = part GfmAutolinkLiteral.reference_start_words
said_of H.GfmAutolinkLiteralTrailCharRefInside part = part GfmAutolinkLiteral.reference_words
said_of H.GfmLabelStartFootnoteStart part = part LabelStarts.footnote_words
said_of H.LabelEndStart part = part LabelEnd.start_words
said_of H.LabelStartImageStart part = part LabelStarts.image_words
said_of H.LabelStartLinkStart part = part LabelStarts.link_words

abbrev pub words_of : StateName → StateWords
words_of s = said_of s (λ (w : StateWords). w)

abbrev pub ready_of : StateName → Tokenizer → Type 0
ready_of s T = said_of s (λ (w : StateWords). w.ready T)

abbrev pub step_of : StateName → Tokenizer → Stepped
step_of s T = (words_of s).step T

abbrev pub ends_of : StateName → Tokenizer → Bool → Tokenizer → Type 0
ends_of s T ok U = (words_of s).ends T ok U

abbrev pub weight_of : StateName → Tokenizer → ℕ
weight_of s T = weight_at ((words_of s).rank T) T

-- all of it, as the one argument of the laws
abbrev pub inline : Words
inline = record { ready = ready_of; step = step_of; ends = ends_of; rank = λ s. (words_of s).rank }

-- at these bytes alone a state does other than pass the code at hand and go on, line endings aside; none where no state passes code after code
abbrev pub stops_of : StateName → TokenizeState → Option (List ℕ)
stops_of H.DataInside s = PartialData.inside_stops s
stops_of H.RawTextData s = RawText.data_stops s
stops_of H.HtmlTextComment s = HtmlText.stops_in H.HtmlTextComment s
stops_of H.HtmlTextCdata s = HtmlText.stops_in H.HtmlTextCdata s
stops_of H.HtmlTextDeclaration s = HtmlText.stops_in H.HtmlTextDeclaration s
stops_of H.HtmlTextInstruction s = HtmlText.stops_in H.HtmlTextInstruction s
stops_of H.HtmlTextTagOpenAttributeValueQuoted s = HtmlText.stops_in H.HtmlTextTagOpenAttributeValueQuoted s
stops_of H.AutolinkUrlInside s = Some Autolink.uri_stops
stops_of H.DestinationEnclosed s = PartialDestination.stops_in H.DestinationEnclosed
stops_of H.DestinationRaw s = PartialDestination.stops_in H.DestinationRaw
stops_of H.TitleInside s = PartialTitle.inside_stops s
stops_of _ s = None

-- The laws. Each is proved over any layer in the crate of its construct, those of strings and texts in `markdown_run_text`.

string-within : EqualsLayer StringContentLaws.states_and_called inline
string-within H.StringBefore = refl
string-within _ = refl

pub text-within : EqualsLayer TextContentLaws.states_and_called inline
text-within H.TextBefore = refl
text-within _ = refl

space-within : EqualsLayer PartialSpaceOrTab.states inline
space-within H.SpaceOrTabStart = refl
space-within _ = refl

eol-within : EqualsLayer PartialSpaceOrTabEol.states_and_called inline
eol-within H.SpaceOrTabEolStart = refl
eol-within _ = refl

data-within : EqualsLayer PartialData.states inline
data-within H.DataStart = refl
data-within _ = refl

attention-within : EqualsLayer Attention.states inline
attention-within H.AttentionInside = refl
attention-within _ = refl

escape-within : EqualsLayer CharacterEscape.states inline
escape-within H.CharacterEscapeStart = refl
escape-within _ = refl

reference-within : EqualsLayer CharacterReference.states inline
reference-within H.CharacterReferenceStart = refl
reference-within _ = refl

break-within : EqualsLayer HardBreakEscape.states inline
break-within H.HardBreakEscapeStart = refl
break-within _ = refl

autolink-within : EqualsLayer Autolink.states inline
autolink-within H.AutolinkStart = refl
autolink-within _ = refl

raw_text-within : EqualsLayer RawText.states inline
raw_text-within H.RawTextStart = refl
raw_text-within _ = refl

label_start-within : EqualsLayer LabelStarts.states inline
label_start-within H.LabelStartImageOpen = refl
label_start-within _ = refl

label_end-within : EqualsLayer LabelEnd.states_and_called inline
label_end-within H.LabelEndAfter = refl
label_end-within _ = refl

resource-within : EqualsLayer Resource.states_and_called inline
resource-within H.LabelEndResourceStart = refl
resource-within _ = refl

destination-within : EqualsLayer PartialDestination.states inline
destination-within H.DestinationStart = refl
destination-within _ = refl

title-within : EqualsLayer PartialTitle.states_and_called inline
title-within H.TitleStart = refl
title-within _ = refl

label-within : EqualsLayer PartialLabel.states_and_called inline
label-within H.LabelStart = refl
label-within _ = refl

-- the states of HTML that leave the scratch fields alone
html-parts : (k : HtmlPart) → words_in inline (state_of k) ≡ part_words k
html-parts Open = refl
html-parts _ = refl

html-within : HtmlLineEndingLaws.HasHtmlWords inline
html-within = record { parts = html-parts; cdata = refl; quoted = refl; before = refl; after = refl; prefix = refl; space = refl }

check-within : EqualsLayer GfmTaskListItemCheck.states_and_called inline
check-within H.GfmTaskListItemCheckStart = refl
check-within _ = refl

literal-within : EqualsLayer GfmAutolinkLiteral.states inline
literal-within H.GfmAutolinkLiteralProtocolStart = refl
literal-within _ = refl

-- what is said of each state: by each construct's table, before those that come after it here
abbrev by_construct : StateName → StateWords
by_construct =
    StringContent.states (
    TextContent.states (
    PartialSpaceOrTab.states (
    PartialSpaceOrTabEol.states (
    PartialData.states (
    Attention.states (
    CharacterEscape.states (
    CharacterReference.states (
    HardBreakEscape.states (
    Autolink.states (
    RawText.states (
    LabelStarts.states (
    LabelEnd.states (
    Resource.states (
    PartialDestination.states (
    PartialTitle.states (
    PartialLabel.states (
    HtmlText.states (
    GfmTaskListItemCheck.states (
    GfmAutolinkLiteral.states (
    λ s. end_words false))))))))))))))))))))

same : (s : StateName) → words_in inline s ≡ by_construct s
same H.TextStart = refl
same _ = refl

-- each construct's laws, before those that come after it here
laws : AreLawful inline by_construct
laws =
    StringContentLaws.laws inline string-within _ (
    TextContentLaws.laws inline text-within _ (
    PartialSpaceOrTabLaws.laws inline space-within _ (
    PartialSpaceOrTabEolLaws.laws inline eol-within _ (
    PartialDataLaws.laws inline data-within _ (
    AttentionLaws.laws inline attention-within _ (
    CharacterEscapeLaws.laws inline escape-within _ (
    CharacterReferenceLaws.laws inline reference-within _ (
    HardBreakEscapeLaws.laws inline break-within _ (
    AutolinkLaws.laws inline autolink-within _ (
    RawTextLaws.laws inline raw_text-within _ (
    LabelStartLaws.laws inline label_start-within _ (
    LabelEndStateLaws.laws inline label_end-within _ (
    ResourceStateLaws.laws inline resource-within _ (
    PartialDestinationLaws.laws inline destination-within _ (
    PartialTitleLaws.laws inline title-within _ (
    PartialLabelLaws.laws inline label-within _ (
    HtmlTextStateLaws.laws inline html-within _ (
    GfmTaskListItemCheckLaws.laws inline check-within _ (
    GfmAutolinkLiteralStateLaws.laws inline literal-within _ (
    no-laws inline))))))))))))))))))))

pub laws_of : Lawful ready_of step_of ends_of weight_of
laws_of s T alone r = subst (λ (w : StateWords). Law inline w) (sym (same s)) (laws s) T alone r
