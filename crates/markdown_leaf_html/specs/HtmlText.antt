-- What the states of HTML in text do, when they may be called, and how runs from them end.
use Rattle.std.specs.Prelude.{◌≡◌, ℕ, ◌+◌, ◌<◌, ◌≤◌, Bool, true, false, ◌&&◌, codes, slice_index, ◌==◌, if◌then◌else◌, Option, Some, None, List, [], ◌∷◌}
use Rattle.markdown_content.specs.CommonMark.{rules_of}
use Rattle.markdown_engine.specs.Operations.{Op, Enter, Exit, Consume, IsOpen, ahead, attempted, current_of, done, scratched}
use Rattle.markdown_engine.specs.PastTree.{EndsAs, TreeReading}
use Rattle.markdown_engine.specs.StateRuns.{Stepped, stepped}
use Rattle.markdown_notes.specs.SequenceIndex.{rules_out, KnowsLastBegins}
use Rattle.markdown_engine.specs.Steady.{alone_among}
use Rattle.markdown_engine.specs.Weights.{codes_left}
use Rattle.markdown_content.specs.Place.{code_at, moved}
use Rattle.markdown_event.specs.declared.event.Name.TheVariants as N
use Rattle.markdown_notes.specs.declared.sequence_index.Sequence.{Sequence}
use Rattle.markdown_notes.specs.declared.sequence_index.Sequence.TheVariants.{CommentEnd, SectionEnd, InstructionEnd, DeclarationEnd}
use Rattle.markdown_event.specs.declared.state.State.TheVariants.{Next, Retry, Nok}
use Rattle.markdown_event.specs.declared.state.State.TheVariants as State
use Rattle.markdown_event.specs.declared.state.StateName.{StateName}
use Rattle.markdown_event.specs.declared.state.StateName.TheVariants as H
use Rattle.markdown_engine.specs.declared.tokenizer.TokenizeState.{TokenizeState}
use Rattle.markdown_engine.specs.declared.tokenizer.Tokenizer.{Tokenizer}
use Rattle.markdown_partial.specs.PartialSpaceOrTab as PartialSpaceOrTab
use Rattle.markdown_model.specs.SingleConstructs as SingleConstructs
use Rattle.markdown_partial.specs.PartialSpaceOrTab.{most, asked}
use Rattle.markdown_plan.specs.ByteTests.{letter_value, among_values}
use Rattle.markdown_plan.specs.Plan.{DoesAs, KeepsAs}
use Rattle.markdown_plan.specs.ScratchFields.{AreOpen, with_size}
use Rattle.markdown_leaf_html.specs.HtmlLines.{InLine, AtStart, break_from, prefix_from, ending_ops, text_of}
use Rattle.markdown_leaf_html.specs.HtmlTextRests.{HtmlPart, reading_of, quoted_rest, cdata_opening, rank_of, Open, DeclarationOpen, CommentOpenInside, Comment, CommentClose, CommentEnd, Cdata, CdataClose, CdataEnd, Declaration, Instruction}
use Rattle.markdown_leaf_html.specs.HtmlTextRests.{InstructionClose, TagCloseStart, TagClose, TagCloseBetween, TagOpen, TagOpenBetween, AttributeName, AttributeNameAfter, ValueBefore, ValueQuotedAfter, ValueUnquoted, End}
use Rattle.markdown_leaf_html.specs.HtmlByteTests.{blank_value, whitespace_value, name_value, attribute_first_value, attribute_rest_value, after_value, unquoted_end_value, barred_value}
use Rattle.markdown_engine.specs.StateWords.{StateWords}
use Rattle.std.specs.Str.{byte}

abbrev pub is_on : Tokenizer → Bool
is_on T = T.parse_state.now.options.now.constructs.html_text

-- slashes may stand in unquoted values
abbrev pub slashes_in : Tokenizer → Bool
slashes_in T = (rules_of T.parse_state.now.options.now).slashes_in_values

-- The scratch fields.

-- at rest
abbrev pub rested : TokenizeState → TokenizeState
rested s = record s { marker = 0; size = 0 }

abbrev pub with_marker : ℕ → TokenizeState → TokenizeState
with_marker n s = record s { marker = n }

-- What the states do.

-- past the code at hand
abbrev pub past_code : StateName → Tokenizer → Stepped
past_code st T = stepped (Next st) (done (Consume ∷ []) T)

-- at the same code
abbrev pub over_to : StateName → Tokenizer → Stepped
over_to st T = stepped (Retry st) T

-- past the line ending at hand and the whitespace after it
abbrev pub broken : StateName → Tokenizer → Stepped
broken st T = stepped (Retry H.HtmlTextLineEndingBefore) (attempted false (Next st) Nok T)

abbrev pub opening : List Op
opening = Enter N.HtmlText ∷ Enter N.HtmlTextData ∷ Consume ∷ []

abbrev pub closing : List Op
closing = Consume ∷ Exit N.HtmlTextData ∷ Exit N.HtmlText ∷ []

abbrev pub start_at : Option ℕ → Tokenizer → Stepped
start_at None T = stepped Nok T
start_at (Some c) T = if is_on T && (c == byte "<") then stepped (Next H.HtmlTextOpen) (done opening T) else stepped Nok T

abbrev pub start_step : Tokenizer → Stepped
start_step T = start_at (current_of T) T

abbrev pub open_at : Option ℕ → Tokenizer → Stepped
open_at None T = stepped Nok T
open_at (Some c) T =
    if c == byte "!" then past_code H.HtmlTextDeclarationOpen T
    else (if c == byte "/" then past_code H.HtmlTextTagCloseStart T
    else (if c == byte "?" then past_code H.HtmlTextInstruction T
    else (if letter_value c then past_code H.HtmlTextTagOpen T
    else stepped Nok T)))

abbrev pub open_step : Tokenizer → Stepped
open_step T = open_at (current_of T) T

abbrev pub declaration_open_at : Option ℕ → Tokenizer → Stepped
declaration_open_at None T = stepped Nok T
declaration_open_at (Some c) T =
    if c == byte "-" then past_code H.HtmlTextCommentOpenInside T
    else (if letter_value c then past_code H.HtmlTextDeclaration T
    else (if c == byte "[" then past_code H.HtmlTextCdataOpenInside T
    else stepped Nok T))

abbrev pub declaration_open_step : Tokenizer → Stepped
declaration_open_step T = declaration_open_at (current_of T) T

abbrev pub comment_open_inside_at : Option ℕ → Tokenizer → Stepped
comment_open_inside_at None T = stepped Nok T
comment_open_inside_at (Some c) T =
    if c == byte "-" then past_code H.HtmlTextCommentEnd T
    else stepped Nok T

abbrev pub comment_open_inside_step : Tokenizer → Stepped
comment_open_inside_step T = comment_open_inside_at (current_of T) T

-- in what ends with a mark twice and a `>`, as comments and CDATA sections do
abbrev pub marked_at : ℕ → StateName → StateName → Option ℕ → Tokenizer → Stepped
marked_at mark inside close None T = stepped Nok T
marked_at mark inside close (Some c) T =
    if c == byte "\n" then broken inside T
    else (if c == mark then past_code close T
    else past_code inside T)

-- after one mark
abbrev pub after_mark_at : ℕ → StateName → StateName → Option ℕ → Tokenizer → Stepped
after_mark_at mark inside end None T = over_to inside T
after_mark_at mark inside end (Some c) T =
    if c == mark then past_code end T
    else over_to inside T

-- after two
abbrev pub after_two_marks_at : ℕ → StateName → StateName → Option ℕ → Tokenizer → Stepped
after_two_marks_at mark inside close None T = over_to inside T
after_two_marks_at mark inside close (Some c) T =
    if c == byte ">" then over_to H.HtmlTextEnd T
    else (if c == mark then over_to close T
    else over_to inside T)

abbrev pub comment_step : Tokenizer → Stepped
comment_step T = marked_at (byte "-") H.HtmlTextComment H.HtmlTextCommentClose (current_of T) T

abbrev pub comment_close_step : Tokenizer → Stepped
comment_close_step T = after_mark_at (byte "-") H.HtmlTextComment H.HtmlTextCommentEnd (current_of T) T

abbrev pub comment_end_step : Tokenizer → Stepped
comment_end_step T = after_two_marks_at (byte "-") H.HtmlTextComment H.HtmlTextCommentClose (current_of T) T

-- the code of `CDATA[` after so many
abbrev pub prefix_value : ℕ → ℕ
prefix_value size = slice_index (codes "CDATA[") size

abbrev pub cdata_passed : ℕ → Tokenizer → Stepped
cdata_passed size T =
    if size + 1 == 6 then stepped (Next H.HtmlTextCdata) (scratched (with_size 0 T.tokenize_state) (done (Consume ∷ []) T))
    else stepped (Next H.HtmlTextCdataOpenInside) (scratched (with_size (size + 1) T.tokenize_state) (done (Consume ∷ []) T))

abbrev pub cdata_open_inside_at : Option ℕ → Tokenizer → Stepped
cdata_open_inside_at None T = stepped Nok (scratched (with_size 0 T.tokenize_state) T)
cdata_open_inside_at (Some c) T =
    if c == prefix_value T.tokenize_state.size then cdata_passed T.tokenize_state.size T
    else stepped Nok (scratched (with_size 0 T.tokenize_state) T)

abbrev pub cdata_open_inside_step : Tokenizer → Stepped
cdata_open_inside_step T = cdata_open_inside_at (current_of T) T

abbrev pub cdata_step : Tokenizer → Stepped
cdata_step T = marked_at (byte "]") H.HtmlTextCdata H.HtmlTextCdataClose (current_of T) T

abbrev pub cdata_close_step : Tokenizer → Stepped
cdata_close_step T = after_mark_at (byte "]") H.HtmlTextCdata H.HtmlTextCdataEnd (current_of T) T

abbrev pub cdata_end_step : Tokenizer → Stepped
cdata_end_step T = after_two_marks_at (byte "]") H.HtmlTextCdata H.HtmlTextCdataClose (current_of T) T

abbrev pub declaration_at : Option ℕ → Tokenizer → Stepped
declaration_at None T = over_to H.HtmlTextEnd T
declaration_at (Some c) T =
    if c == byte ">" then over_to H.HtmlTextEnd T
    else (if c == byte "\n" then broken H.HtmlTextDeclaration T
    else past_code H.HtmlTextDeclaration T)

abbrev pub declaration_step : Tokenizer → Stepped
declaration_step T = declaration_at (current_of T) T

abbrev pub instruction_at : Option ℕ → Tokenizer → Stepped
instruction_at None T = stepped Nok T
instruction_at (Some c) T =
    if c == byte "\n" then broken H.HtmlTextInstruction T
    else (if c == byte "?" then past_code H.HtmlTextInstructionClose T
    else past_code H.HtmlTextInstruction T)

abbrev pub instruction_step : Tokenizer → Stepped
instruction_step T = instruction_at (current_of T) T

abbrev pub instruction_close_at : Option ℕ → Tokenizer → Stepped
instruction_close_at None T = over_to H.HtmlTextInstruction T
instruction_close_at (Some c) T =
    if c == byte ">" then over_to H.HtmlTextEnd T
    else over_to H.HtmlTextInstruction T

abbrev pub instruction_close_step : Tokenizer → Stepped
instruction_close_step T = instruction_close_at (current_of T) T

abbrev pub tag_close_start_at : Option ℕ → Tokenizer → Stepped
tag_close_start_at None T = stepped Nok T
tag_close_start_at (Some c) T =
    if letter_value c then past_code H.HtmlTextTagClose T
    else stepped Nok T

abbrev pub tag_close_start_step : Tokenizer → Stepped
tag_close_start_step T = tag_close_start_at (current_of T) T

abbrev pub tag_close_at : Option ℕ → Tokenizer → Stepped
tag_close_at None T = over_to H.HtmlTextTagCloseBetween T
tag_close_at (Some c) T =
    if name_value c then past_code H.HtmlTextTagClose T
    else over_to H.HtmlTextTagCloseBetween T

abbrev pub tag_close_step : Tokenizer → Stepped
tag_close_step T = tag_close_at (current_of T) T

abbrev pub tag_close_between_at : Option ℕ → Tokenizer → Stepped
tag_close_between_at None T = over_to H.HtmlTextEnd T
tag_close_between_at (Some c) T =
    if c == byte "\n" then broken H.HtmlTextTagCloseBetween T
    else (if blank_value c then past_code H.HtmlTextTagCloseBetween T
    else over_to H.HtmlTextEnd T)

abbrev pub tag_close_between_step : Tokenizer → Stepped
tag_close_between_step T = tag_close_between_at (current_of T) T

abbrev pub tag_open_at : Option ℕ → Tokenizer → Stepped
tag_open_at None T = stepped Nok T
tag_open_at (Some c) T =
    if after_value c then over_to H.HtmlTextTagOpenBetween T
    else (if name_value c then past_code H.HtmlTextTagOpen T
    else stepped Nok T)

abbrev pub tag_open_step : Tokenizer → Stepped
tag_open_step T = tag_open_at (current_of T) T

abbrev pub tag_open_between_at : Option ℕ → Tokenizer → Stepped
tag_open_between_at None T = over_to H.HtmlTextEnd T
tag_open_between_at (Some c) T =
    if c == byte "\n" then broken H.HtmlTextTagOpenBetween T
    else (if blank_value c then past_code H.HtmlTextTagOpenBetween T
    else (if c == byte "/" then past_code H.HtmlTextEnd T
    else (if attribute_first_value c then past_code H.HtmlTextTagOpenAttributeName T
    else over_to H.HtmlTextEnd T)))

abbrev pub tag_open_between_step : Tokenizer → Stepped
tag_open_between_step T = tag_open_between_at (current_of T) T

abbrev pub tag_open_attribute_name_at : Option ℕ → Tokenizer → Stepped
tag_open_attribute_name_at None T = over_to H.HtmlTextTagOpenAttributeNameAfter T
tag_open_attribute_name_at (Some c) T =
    if attribute_rest_value c then past_code H.HtmlTextTagOpenAttributeName T
    else over_to H.HtmlTextTagOpenAttributeNameAfter T

abbrev pub tag_open_attribute_name_step : Tokenizer → Stepped
tag_open_attribute_name_step T = tag_open_attribute_name_at (current_of T) T

abbrev pub tag_open_attribute_name_after_at : Option ℕ → Tokenizer → Stepped
tag_open_attribute_name_after_at None T = over_to H.HtmlTextTagOpenBetween T
tag_open_attribute_name_after_at (Some c) T =
    if c == byte "\n" then broken H.HtmlTextTagOpenAttributeNameAfter T
    else (if blank_value c then past_code H.HtmlTextTagOpenAttributeNameAfter T
    else (if c == byte "=" then past_code H.HtmlTextTagOpenAttributeValueBefore T
    else over_to H.HtmlTextTagOpenBetween T))

abbrev pub tag_open_attribute_name_after_step : Tokenizer → Stepped
tag_open_attribute_name_after_step T = tag_open_attribute_name_after_at (current_of T) T

-- no value starts with it
abbrev pub starts_no_value : ℕ → Bool
starts_no_value v = among_values (codes "<=>`") v

abbrev pub quote_value : ℕ → Bool
quote_value v = among_values (codes "\"'") v

abbrev pub quote_passed : ℕ → Tokenizer → Stepped
quote_passed c T = stepped (Next H.HtmlTextTagOpenAttributeValueQuoted) (scratched (with_marker c T.tokenize_state) (done (Consume ∷ []) T))

abbrev pub tag_open_attribute_value_before_at : Option ℕ → Tokenizer → Stepped
tag_open_attribute_value_before_at None T = stepped Nok T
tag_open_attribute_value_before_at (Some c) T =
    if starts_no_value c then stepped Nok T
    else (if c == byte "\n" then broken H.HtmlTextTagOpenAttributeValueBefore T
    else (if blank_value c then past_code H.HtmlTextTagOpenAttributeValueBefore T
    else (if quote_value c then quote_passed c T
    else past_code H.HtmlTextTagOpenAttributeValueUnquoted T)))

abbrev pub tag_open_attribute_value_before_step : Tokenizer → Stepped
tag_open_attribute_value_before_step T = tag_open_attribute_value_before_at (current_of T) T

abbrev pub tag_open_attribute_value_quoted_at : Option ℕ → Tokenizer → Stepped
tag_open_attribute_value_quoted_at None T = stepped Nok (scratched (with_marker 0 T.tokenize_state) T)
tag_open_attribute_value_quoted_at (Some c) T =
    if c == T.tokenize_state.marker then stepped (Next H.HtmlTextTagOpenAttributeValueQuotedAfter) (scratched (with_marker 0 T.tokenize_state) (done (Consume ∷ []) T))
    else (if c == byte "\n" then broken H.HtmlTextTagOpenAttributeValueQuoted T
    else past_code H.HtmlTextTagOpenAttributeValueQuoted T)

abbrev pub tag_open_attribute_value_quoted_step : Tokenizer → Stepped
tag_open_attribute_value_quoted_step T = tag_open_attribute_value_quoted_at (current_of T) T

abbrev pub tag_open_attribute_value_quoted_after_at : Option ℕ → Tokenizer → Stepped
tag_open_attribute_value_quoted_after_at None T = stepped Nok T
tag_open_attribute_value_quoted_after_at (Some c) T =
    if after_value c then over_to H.HtmlTextTagOpenBetween T
    else stepped Nok T

abbrev pub tag_open_attribute_value_quoted_after_step : Tokenizer → Stepped
tag_open_attribute_value_quoted_after_step T = tag_open_attribute_value_quoted_after_at (current_of T) T

abbrev pub tag_open_attribute_value_unquoted_at : Option ℕ → Tokenizer → Stepped
tag_open_attribute_value_unquoted_at None T = stepped Nok T
tag_open_attribute_value_unquoted_at (Some c) T =
    if barred_value c then stepped Nok T
    else (if unquoted_end_value (slashes_in T) c then over_to H.HtmlTextTagOpenBetween T
    else past_code H.HtmlTextTagOpenAttributeValueUnquoted T)

abbrev pub tag_open_attribute_value_unquoted_step : Tokenizer → Stepped
tag_open_attribute_value_unquoted_step T = tag_open_attribute_value_unquoted_at (current_of T) T

-- at these bytes alone some states do other than go on, line endings aside
abbrev pub stops_in : StateName → TokenizeState → Option (List ℕ)
stops_in H.HtmlTextComment s = Some (codes "-")
stops_in H.HtmlTextCdata s = Some (codes "]")
stops_in H.HtmlTextDeclaration s = Some (codes ">")
stops_in H.HtmlTextInstruction s = Some (codes "?")
stops_in H.HtmlTextTagOpenAttributeValueQuoted s = alone_among (codes "\"'") s.marker
stops_in _ s = None

abbrev pub end_at : Option ℕ → Tokenizer → Stepped
end_at None T = stepped Nok T
end_at (Some c) T =
    if c == byte ">" then stepped State.Ok (done closing T)
    else stepped Nok T

abbrev pub end_step : Tokenizer → Stepped
end_step T = end_at (current_of T) T

-- past the line ending at hand
abbrev pub ending_passed : Tokenizer → Stepped
ending_passed T = stepped (Next H.HtmlTextLineEndingAfter) (done ending_ops T)

abbrev pub line_ending_before_step : Tokenizer → Stepped
line_ending_before_step T = stepped (Next H.HtmlTextLineEndingAfter) (done (Exit N.HtmlTextData ∷ ending_ops) T)

abbrev pub blank_asked : TokenizeState → TokenizeState
blank_asked s = asked 1 most N.SpaceOrTab false None s

abbrev pub line_ending_after_at : Option ℕ → Tokenizer → Stepped
line_ending_after_at None T = over_to H.HtmlTextLineEndingAfterPrefix T
line_ending_after_at (Some c) T =
    if blank_value c
    then stepped (Retry H.SpaceOrTabStart) (attempted false (Next H.HtmlTextLineEndingAfterPrefix) Nok (scratched (blank_asked T.tokenize_state) T))
    else over_to H.HtmlTextLineEndingAfterPrefix T

abbrev pub line_ending_after_step : Tokenizer → Stepped
line_ending_after_step T = line_ending_after_at (current_of T) T

abbrev pub data_entered : Tokenizer → Stepped
data_entered T = stepped State.Ok (done (Enter N.HtmlTextData ∷ []) T)

abbrev pub line_ending_after_prefix_at : Option ℕ → Tokenizer → Stepped
line_ending_after_prefix_at None T = data_entered T
line_ending_after_prefix_at (Some c) T =
    if c == byte "\n" then ending_passed T else data_entered T

abbrev pub line_ending_after_prefix_step : Tokenizer → Stepped
line_ending_after_prefix_step T = line_ending_after_prefix_at (current_of T) T

-- When they may be called.

-- the fields of whitespace are at rest, and fewer codes are left than a `usize` counts
pub record SpacesReady (T : Tokenizer) : Type 0 where
  pub resting : PartialSpaceOrTab.rested T.tokenize_state ≡ T.tokenize_state
  pub short : codes_left T ≤ most

pub record HtmlStartReady (T : Tokenizer) : Type 0 where
  pub spaces : SpacesReady T
  pub rest : rested T.tokenize_state ≡ T.tokenize_state

-- in the data of a line
pub record HtmlInsideReady (T : Tokenizer) : Type 0 where
  pub stand_open : AreOpen N.HtmlTextData N.HtmlText T
  pub spaces : SpacesReady T

-- a state that leaves the scratch fields alone
pub record HtmlPartReady (T : Tokenizer) : Type 0 where
  pub inside : HtmlInsideReady T
  pub rest : rested T.tokenize_state ≡ T.tokenize_state

-- in the opening of a CDATA section
pub record CdataReady (T : Tokenizer) : Type 0 where
  pub inside : HtmlInsideReady T
  pub rest : rested T.tokenize_state ≡ with_size 0 T.tokenize_state
  pub size : T.tokenize_state.size < 6

-- in a quoted value; no quote is whitespace
pub record QuotedReady (T : Tokenizer) : Type 0 where
  pub inside : HtmlInsideReady T
  pub rest : rested T.tokenize_state ≡ with_marker 0 T.tokenize_state
  pub quote : whitespace_value T.tokenize_state.marker ≡ false

-- at a line ending
pub record HtmlLineEndingReady (T : Tokenizer) : Type 0 where
  pub inside : HtmlInsideReady T
  pub ending : current_of T ≡ Some (byte "\n")

-- at the start of a later line
pub record HtmlAfterReady (T : Tokenizer) : Type 0 where
  pub stand_open : IsOpen N.HtmlText T
  pub spaces : SpacesReady T

-- What rules HTML out before it is tried.

-- what is known of the sequences that end HTML is right; it may be nothing
abbrev pub KnowsSequences : Tokenizer → Type 0
KnowsSequences T = KnowsLastBegins T.cursor.codes T.tokenize_state.sequences

-- the sequence that ends what begins with `<!` and this code
abbrev pub marked_ending : Option ℕ → Option Sequence
marked_ending None = None
marked_ending (Some c) =
    if c == byte "-" then Some CommentEnd
    else (if c == byte "[" then Some SectionEnd
    else (if letter_value c then Some DeclarationEnd
    else None))

-- that which ends what begins with `<` and these two codes, where that is neither an opening nor a closing tag
abbrev pub ending_at : Option ℕ → Option ℕ → Option Sequence
ending_at None next = None
ending_at (Some c) next =
    if c == byte "?" then Some InstructionEnd
    else (if c == byte "!" then marked_ending next
    else None)

-- the sequence is known not to follow
abbrev pub is_absent : Option Sequence → Tokenizer → Bool
is_absent None T = false
is_absent (Some ending) T = rules_out T.tokenize_state.sequences ending T.cursor.at

-- it is known that what begins with the `<` at hand does not end
abbrev pub is_ruled_out : Tokenizer → Bool
is_ruled_out T = is_absent (ending_at (code_at (moved T.cursor)) (code_at (moved (moved T.cursor)))) T

-- How runs end.

abbrev pub html_here : Tokenizer → TreeReading
html_here T = SingleConstructs.html_text_here T.parse_state.now.options.now

abbrev pub start_ends : Tokenizer → Bool → Tokenizer → Type 0
start_ends T ok U = EndsAs (html_here T) None T.tokenize_state T ok U

-- from a state that leaves the scratch fields alone
abbrev pub part_ends : HtmlPart → Tokenizer → Bool → Tokenizer → Type 0
part_ends k T ok U = KeepsAs 2 (text_of (reading_of (slashes_in T) k)) T ok U

abbrev pub cdata_open_inside_ends : Tokenizer → Bool → Tokenizer → Type 0
cdata_open_inside_ends T ok U = DoesAs 2 (text_of (cdata_opening T.tokenize_state.size)) (rested T.tokenize_state) T ok U

abbrev pub quoted_ends : Tokenizer → Bool → Tokenizer → Type 0
quoted_ends T ok U = DoesAs 2 (text_of (quoted_rest (slashes_in T) T.tokenize_state.marker)) (rested T.tokenize_state) T ok U

-- at a line ending: past it and the whitespace after it, in the data of the next line that has some
abbrev pub line_ending_before_ends : Tokenizer → Bool → Tokenizer → Type 0
line_ending_before_ends T ok U = (ok ≡ true) × (U ≡ done (break_from InLine (ahead T)) T)

abbrev pub line_ending_after_ends : Tokenizer → Bool → Tokenizer → Type 0
line_ending_after_ends T ok U = (ok ≡ true) × (U ≡ done (break_from AtStart (ahead T)) T)

abbrev pub line_ending_after_prefix_ends : Tokenizer → Bool → Tokenizer → Type 0
line_ending_after_prefix_ends T ok U = (ok ≡ true) × (U ≡ done (prefix_from (ahead T)) T)

-- The states.

-- what the states that leave the scratch fields alone do
abbrev pub part_step : HtmlPart → Tokenizer → Stepped
part_step Open = open_step
part_step DeclarationOpen = declaration_open_step
part_step CommentOpenInside = comment_open_inside_step
part_step Comment = comment_step
part_step CommentClose = comment_close_step
part_step CommentEnd = comment_end_step
part_step Cdata = cdata_step
part_step CdataClose = cdata_close_step
part_step CdataEnd = cdata_end_step
part_step Declaration = declaration_step
part_step Instruction = instruction_step
part_step InstructionClose = instruction_close_step
part_step TagCloseStart = tag_close_start_step
part_step TagClose = tag_close_step
part_step TagCloseBetween = tag_close_between_step
part_step TagOpen = tag_open_step
part_step TagOpenBetween = tag_open_between_step
part_step AttributeName = tag_open_attribute_name_step
part_step AttributeNameAfter = tag_open_attribute_name_after_step
part_step ValueBefore = tag_open_attribute_value_before_step
part_step ValueQuotedAfter = tag_open_attribute_value_quoted_after_step
part_step ValueUnquoted = tag_open_attribute_value_unquoted_step
part_step End = end_step

abbrev pub part_words : HtmlPart → StateWords
part_words k = record { ready = HtmlPartReady; step = part_step k; ends = part_ends k; rank = λ T. rank_of k }

abbrev pub start_words : StateWords
start_words = record { ready = HtmlStartReady; step = start_step; ends = start_ends; rank = λ T. 3 }

abbrev pub cdata_open_inside_words : StateWords
cdata_open_inside_words = record { ready = CdataReady; step = cdata_open_inside_step; ends = cdata_open_inside_ends; rank = λ T. 2 }

abbrev pub tag_open_attribute_value_quoted_words : StateWords
tag_open_attribute_value_quoted_words = record { ready = QuotedReady; step = tag_open_attribute_value_quoted_step; ends = quoted_ends; rank = λ T. 2 }

abbrev pub line_ending_before_words : StateWords
line_ending_before_words = record { ready = HtmlLineEndingReady; step = line_ending_before_step; ends = line_ending_before_ends; rank = λ T. 1 }

abbrev pub line_ending_after_words : StateWords
line_ending_after_words = record { ready = HtmlAfterReady; step = line_ending_after_step; ends = line_ending_after_ends; rank = λ T. 4 }

abbrev pub line_ending_after_prefix_words : StateWords
line_ending_after_prefix_words = record { ready = HtmlAfterReady; step = line_ending_after_prefix_step; ends = line_ending_after_prefix_ends; rank = λ T. 1 }

-- a part of what is said of these states, and of any other as it is given
abbrev pub said {ℓ} : {A : Type ℓ} → (StateWords → A) → (StateName → A) → StateName → A
said part other H.HtmlTextStart = part start_words
said part other H.HtmlTextOpen = part (part_words Open)
said part other H.HtmlTextDeclarationOpen = part (part_words DeclarationOpen)
said part other H.HtmlTextCommentOpenInside = part (part_words CommentOpenInside)
said part other H.HtmlTextComment = part (part_words Comment)
said part other H.HtmlTextCommentClose = part (part_words CommentClose)
said part other H.HtmlTextCommentEnd = part (part_words CommentEnd)
said part other H.HtmlTextCdata = part (part_words Cdata)
said part other H.HtmlTextCdataClose = part (part_words CdataClose)
said part other H.HtmlTextCdataEnd = part (part_words CdataEnd)
said part other H.HtmlTextDeclaration = part (part_words Declaration)
said part other H.HtmlTextInstruction = part (part_words Instruction)
said part other H.HtmlTextInstructionClose = part (part_words InstructionClose)
said part other H.HtmlTextTagCloseStart = part (part_words TagCloseStart)
said part other H.HtmlTextTagClose = part (part_words TagClose)
said part other H.HtmlTextTagCloseBetween = part (part_words TagCloseBetween)
said part other H.HtmlTextTagOpen = part (part_words TagOpen)
said part other H.HtmlTextTagOpenBetween = part (part_words TagOpenBetween)
said part other H.HtmlTextTagOpenAttributeName = part (part_words AttributeName)
said part other H.HtmlTextTagOpenAttributeNameAfter = part (part_words AttributeNameAfter)
said part other H.HtmlTextTagOpenAttributeValueBefore = part (part_words ValueBefore)
said part other H.HtmlTextTagOpenAttributeValueQuotedAfter = part (part_words ValueQuotedAfter)
said part other H.HtmlTextTagOpenAttributeValueUnquoted = part (part_words ValueUnquoted)
said part other H.HtmlTextEnd = part (part_words End)
said part other H.HtmlTextCdataOpenInside = part cdata_open_inside_words
said part other H.HtmlTextTagOpenAttributeValueQuoted = part tag_open_attribute_value_quoted_words
said part other H.HtmlTextLineEndingBefore = part line_ending_before_words
said part other H.HtmlTextLineEndingAfter = part line_ending_after_words
said part other H.HtmlTextLineEndingAfterPrefix = part line_ending_after_prefix_words
said part other s = other s

-- all of it
abbrev pub states : (StateName → StateWords) → StateName → StateWords
states other s = said (λ (w : StateWords). w) other s
