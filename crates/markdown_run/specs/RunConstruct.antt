-- Single constructs: what is read at a tokenizer's place, by the name of the state that starts it.
use Rattle.std.specs.Prelude.{◌≡◌, ℕ, Bool, true, false, List, Option, Some, None}
use Rattle.markdown_content.specs.Codes.{Code}
use Rattle.markdown_engine.specs.Operations.{ahead, scratched}
use Rattle.markdown_engine.specs.PastTree.{TreeReading, link_before}
use Rattle.markdown_content.specs.Tree.{Forest}
use Rattle.markdown_event.specs.declared.resolve.ResolveName.{ResolveName}
use Rattle.markdown_event.specs.declared.resolve.ResolveName.TheVariants as R
use Rattle.markdown_event.specs.declared.state.StateName.{StateName}
use Rattle.markdown_event.specs.declared.state.StateName.TheVariants.{AttentionStart, DataStart, DestinationStart, LabelStart, TitleStart, GfmLabelStartFootnoteStart}
use Rattle.markdown_event.specs.declared.state.StateName.TheVariants.{LabelEndStart, LabelStartImageStart, LabelStartLinkStart, SpaceOrTabStart, SpaceOrTabEolStart}
use Rattle.markdown_event.specs.declared.state.StateName.TheVariants.{AutolinkStart, CharacterEscapeStart, CharacterReferenceStart, HardBreakEscapeStart, HtmlTextStart, RawTextStart}
use Rattle.markdown_event.specs.declared.state.StateName.TheVariants.{GfmAutolinkLiteralProtocolStart, GfmAutolinkLiteralWwwStart, GfmTaskListItemCheckStart}
use Rattle.markdown_content.specs.declared.label_kind.LabelKind.{LabelKind}
use Rattle.markdown_engine.specs.declared.tokenizer.TokenizeState.{TokenizeState}
use Rattle.markdown_engine.specs.declared.tokenizer.Tokenizer.{Tokenizer}
use Rattle.markdown_attention.specs.Attention as Attention
use Rattle.markdown_label.specs.LabelEnd as LabelEnd
use Rattle.markdown_leaf.specs.CharacterReference as CharacterReference
use Rattle.markdown_leaf.specs.RawText as RawText
use Rattle.markdown_leaf_gfm.specs.GfmAutolinkLiteral as GfmAutolinkLiteral
use Rattle.markdown_leaf_gfm.specs.GfmTaskListItemCheck as GfmTaskListItemCheck
use Rattle.markdown_leaf_html.specs.HtmlText as HtmlText
use Rattle.markdown_model.specs.Grammar.{Reading}
use Rattle.markdown_label.specs.LabelEnd.{last_start, lost_fields}
use Rattle.markdown_label_names.specs.LabelSetting.{setting_in}
use Rattle.markdown_run_text.specs.ReaderEnds.{options_here, ReadsOrStays, BeginsOrStays}
use Rattle.markdown_run_text.specs.TextContent.{tried_reading}
use Rattle.markdown_model.specs.LabelEnd.{Element}
use Rattle.markdown_model.specs.TextLines.{data_up_to}
use Rattle.markdown_partial.specs.LinkedText.{rules_in}
use Rattle.markdown_partial.specs.PartialData.{stops_of}
use Rattle.markdown_model.specs.Resource.{DestinationNames, StringNames, destination, title, label}
use Rattle.markdown_model.specs.SingleConstructs as SingleConstructs
use Rattle.markdown_model.specs.Whitespace.{space_or_tab, space_or_tab_eol}
use Rattle.markdown_partial.specs.PartialSpaceOrTabEol as PartialSpaceOrTabEol
use Rattle.markdown_partial.specs.PartialSpaceOrTab as PartialSpaceOrTab
use Rattle.markdown_run_text.specs.Row.{makes, past_mark}
use Rattle.markdown_partial.specs.PartialDestination as PartialDestination
use Rattle.markdown_partial.specs.PartialTitle as PartialTitle
use Rattle.markdown_partial.specs.PartialLabel as PartialLabel

-- The states that start a construct, each with what it asks for. One that is tried in a text and reads one tree (`tried_reading`) asks what its
-- first state does: that the scratch fields that it counts in are at rest, for a span and a literal also that fewer codes are left than a
-- `usize` counts, which holds over every content, and for a literal that the content is read as characters, as every content is. Of the
-- others, whitespace with a line ending asks for so many codes too; an end of a label also that
-- what is known of the ends of resources and of the names that are defined is right. Whitespace has the fields of what it reads as
-- its setter leaves them: where it is to go on with a chain, a linked event stands just before, and where whitespace with a line ending is
-- linked, no blank code is at hand.

abbrev pub OtherAsks : StateName → Tokenizer → Type 0
OtherAsks DestinationStart T = PartialDestination.DestinationStartReady T
OtherAsks TitleStart T = PartialTitle.TitleStartReady T
OtherAsks LabelStart T = PartialLabel.LabelStartReady T
OtherAsks DataStart T = Unit {0}
OtherAsks AttentionStart T = Attention.AttentionStartReady T
OtherAsks LabelStartImageStart T = Unit {0}
OtherAsks LabelStartLinkStart T = Unit {0}
OtherAsks GfmLabelStartFootnoteStart T = Unit {0}
OtherAsks LabelEndStart T = LabelEnd.LabelEndStartReady T
OtherAsks SpaceOrTabStart T = PartialSpaceOrTab.SpaceOrTabStartReady T
OtherAsks SpaceOrTabEolStart T = PartialSpaceOrTabEol.SpaceOrTabEolStartReady T
OtherAsks _ T = ⊥

abbrev pub TriedAsks : StateName → Tokenizer → Type 0
TriedAsks CharacterEscapeStart T = Unit {0}
TriedAsks CharacterReferenceStart T = CharacterReference.IsAtRest T
TriedAsks HardBreakEscapeStart T = Unit {0}
TriedAsks AutolinkStart T = T.tokenize_state.size ≡ 0
TriedAsks HtmlTextStart T = HtmlText.HtmlStartReady T
TriedAsks RawTextStart T = RawText.RawTextStartReady T
TriedAsks GfmTaskListItemCheckStart T = GfmTaskListItemCheck.MayLook T
TriedAsks GfmAutolinkLiteralProtocolStart T = GfmAutolinkLiteral.LiteralStartReady T
TriedAsks GfmAutolinkLiteralWwwStart T = GfmAutolinkLiteral.LiteralStartReady T
TriedAsks _ T = ⊥

abbrev pub Asks : Option (Tokenizer → TreeReading) → StateName → Tokenizer → Type 0
Asks None name T = OtherAsks name T
Asks (Some reading) name T = TriedAsks name T

abbrev pub IsConstruct : StateName → Tokenizer → Type 0
IsConstruct name T = Asks (tried_reading name) name T

-- the names that are asked for, of a destination and of another text
abbrev pub destination_names : TokenizeState → DestinationNames
destination_names s = record { whole = s.token_1; literal = s.token_2; marker = s.token_3; raw = s.token_4; text = s.token_5 }

abbrev pub string_names : TokenizeState → StringNames
string_names s = record { whole = s.token_1; marker = s.token_2; text = s.token_3 }

-- what others read: data up to where it stops, a run of markers, or the destination, the title, the label or the whitespace that is asked for
abbrev pub construct_reading : StateName → Tokenizer → TreeReading
construct_reading DestinationStart T = destination T.tokenize_state.size_b (destination_names T.tokenize_state)
construct_reading TitleStart T = title (rules_in T).escaped_parentheses (string_names T.tokenize_state)
construct_reading LabelStart T = label (rules_in T).labels_by_characters (string_names T.tokenize_state)
construct_reading AttentionStart T = SingleConstructs.attention_here (options_here T)
construct_reading DataStart T = data_up_to (stops_of T.tokenize_state)
construct_reading SpaceOrTabStart T =
    let s : TokenizeState = T.tokenize_state in
    space_or_tab s.space_or_tab_token s.space_or_tab_content s.space_or_tab_min s.space_or_tab_max
construct_reading SpaceOrTabEolStart T = space_or_tab_eol T.tokenize_state.space_or_tab_eol_content
construct_reading _ T = λ cs. None

-- the event of the chain that the first linked event goes on with
abbrev pub chain_before : StateName → Tokenizer → Option ℕ
chain_before SpaceOrTabStart T = link_before T.tokenize_state.space_or_tab_connect T
chain_before SpaceOrTabEolStart T = link_before T.tokenize_state.space_or_tab_eol_connect T
chain_before _ T = None

-- the scratch fields after: whitespace puts its own to rest, the others leave all as they were
abbrev pub fields_after : StateName → TokenizeState → TokenizeState
fields_after SpaceOrTabStart s = PartialSpaceOrTab.rested s
fields_after SpaceOrTabEolStart s = PartialSpaceOrTabEol.eol_rested s
fields_after _ s = s

-- the pass that is registered after: that of runs after a run of markers
abbrev pub pass_after : StateName → Option ResolveName
pass_after AttentionStart = Some R.Attention
pass_after _ = None

-- the start of a label that is read (CommonMark 6.3 and 6.4; footnotes)
abbrev pub start_reading : StateName → Tokenizer → Reading Element
start_reading LabelStartImageStart T = SingleConstructs.label_start_image_here (options_here T)
start_reading LabelStartLinkStart T = SingleConstructs.label_start_link_here (options_here T)
start_reading GfmLabelStartFootnoteStart T = SingleConstructs.gfm_label_start_footnote_here (options_here T)
start_reading _ T = λ cs. None

-- the end of a label that is read, by the last start kept
abbrev pub end_reading : Tokenizer → Reading (List Code × (LabelKind × Forest))
end_reading T = SingleConstructs.label_end_here (setting_in T) (last_start T.events T.tokenize_state.label_starts)

-- either an end of a label is read, with what follows it, and U is T past the label that it makes of the last start kept; or none is, and U is
-- T but for the scratch fields: where a `]` stands here and ends are on, the last start is used up
abbrev pub EndsOrLoses : Tokenizer → Bool → Tokenizer → Type 0
EndsOrLoses T true U =
    (back : List Code) × ((kind : LabelKind) × ((tail : Forest) × ((end_reading T (ahead T) ≡ Some ((back, (kind, tail)), ahead U)) × (U ≡ past_mark (makes back kind tail) T))))
EndsOrLoses T false U = (end_reading T (ahead T) ≡ None) × (U ≡ scratched (lost_fields T) T)

-- How a construct ends.

abbrev pub OtherEnds : StateName → Tokenizer → Bool → Tokenizer → Type 0
OtherEnds LabelStartImageStart T ok U = BeginsOrStays (start_reading LabelStartImageStart T) T ok U
OtherEnds LabelStartLinkStart T ok U = BeginsOrStays (start_reading LabelStartLinkStart T) T ok U
OtherEnds GfmLabelStartFootnoteStart T ok U = BeginsOrStays (start_reading GfmLabelStartFootnoteStart T) T ok U
OtherEnds LabelEndStart T ok U = EndsOrLoses T ok U
OtherEnds name T ok U = ReadsOrStays (pass_after name) (construct_reading name T) (chain_before name T) (fields_after name T.tokenize_state) T ok U

-- one that is tried in a text and reads one tree: what stands in the standard under its name, where it is looked for
abbrev pub EndsBy : Option (Tokenizer → TreeReading) → StateName → Tokenizer → Bool → Tokenizer → Type 0
EndsBy None name T ok U = OtherEnds name T ok U
EndsBy (Some reading) name T ok U = ReadsOrStays None (reading T) None T.tokenize_state T ok U

abbrev pub ConstructEnds : StateName → Tokenizer → Bool → Tokenizer → Type 0
ConstructEnds name T ok U = EndsBy (tried_reading name) name T ok U
