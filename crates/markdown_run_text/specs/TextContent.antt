-- What the states of a text do, and how runs from them end.
use Rattle.std.specs.Prelude.{◌≡◌, ◌≢◌, ℕ, Bool, true, false, nat_le, ◌==◌, ◌&&◌, ◌||◌, not, if◌then◌else◌, List, [], ◌∷◌, ◌++◌, Option, Some, None, length, map, filter, codes, string_bytes, String}
use Rattle.std.specs.Str.{byte}
use Rattle.markdown_content.specs.Codes.{Code, count_among, stop_of, document_start}
use Rattle.markdown_notes.specs.NameIndex.{names_in_order}
use Rattle.markdown_engine.specs.Operations.{attempted, scratched, registered, current_of, ahead}
use Rattle.markdown_content.specs.Place.{Place, point_of}
use Rattle.std.specs.List.{list_any}
use Rattle.markdown_notes.specs.BracketIndex.{BracketPlaces, brackets_between}
use Rattle.markdown_notes.specs.RunIndex.{last_runs}
use Rattle.markdown_engine.specs.PastTree.{TreeReading}
use Rattle.markdown_engine.specs.StateRuns.{Stepped, stepped}
use Rattle.markdown_engine.specs.StateWords.{StateWords}
use Rattle.markdown_notes.specs.SequenceIndex.{last_begins, holds}
use Rattle.markdown_notes.specs.TitleIndex.{closers_of}
use Rattle.markdown_notes.specs.declared.name_index.Names.{Names}
use Rattle.markdown_content.specs.declared.parser.ParseState.{ParseState}
use Rattle.markdown_event.specs.declared.resolve.ResolveName.TheVariants as R
use Rattle.markdown_notes.specs.declared.sequence_index.Sequence.TheVariants.{ResourceEnd, WwwDot}
use Rattle.markdown_event.specs.declared.state.State.TheVariants.{Next, Retry, Ok, Nok}
use Rattle.markdown_event.specs.declared.state.StateName.{StateName}
use Rattle.markdown_event.specs.declared.state.StateName.TheVariants as H
use Rattle.markdown_event.specs.declared.state.StateName.TheVariants.{AttentionStart, AutolinkStart, CharacterEscapeStart, CharacterReferenceStart, DataStart, GfmAutolinkLiteralProtocolStart, GfmAutolinkLiteralWwwStart, GfmLabelStartFootnoteStart, GfmTaskListItemCheckStart}
use Rattle.markdown_event.specs.declared.state.StateName.TheVariants.{HardBreakEscapeStart, HtmlTextStart, LabelEndStart, LabelStartImageStart, LabelStartLinkStart, RawTextStart, TextBefore, TextBeforeData, TextBeforeHardBreakEscape, TextBeforeHtml, TextBeforeLabelStartLink}
use Rattle.markdown_notes.specs.declared.title_index.Closer.{Closer}
use Rattle.markdown_engine.specs.declared.tokenizer.TokenizeState.{TokenizeState}
use Rattle.markdown_engine.specs.declared.tokenizer.Tokenizer.{Tokenizer}
use Rattle.markdown_leaf_gfm.specs.GfmAutolinkLiteral as GfmAutolinkLiteral
use Rattle.markdown_leaf_gfm.specs.GfmTaskListItemCheck as GfmTaskListItemCheck
use Rattle.markdown_leaf_html.specs.HtmlText as HtmlText
use Rattle.markdown_label.specs.LabelEnd as LabelEnd
use Rattle.markdown_leaf_gfm.specs.DomainOutlook.{openings, no_domains}
use Rattle.markdown_label.specs.LabelStarts.{footnote_test}
use Rattle.markdown_leaf.specs.Autolink.{link_here}
use Rattle.markdown_leaf.specs.CharacterEscape.{escape_here}
use Rattle.markdown_leaf.specs.CharacterReference.{reference_here}
use Rattle.markdown_leaf.specs.HardBreakEscape.{break_here}
use Rattle.markdown_leaf.specs.RawText as RawText
use Rattle.markdown_model.specs.Elements.{Choice, text_choice}
use Rattle.markdown_model.specs.GfmAutolinkLiteral.{schemes, www, literal_words, first_letters}
use Rattle.markdown_model.specs.LabelEnd.{Element, plain}
use Rattle.markdown_model.specs.TextLines.{data_up_to, code_leaf}
use Rattle.markdown_model.specs.Setting.{Setting, within}
use Rattle.markdown_partial.specs.PartialData.{stops_of}
use Rattle.markdown_run_text.specs.RunOverElements.{AreSingle, DataFinishes, Finishes, StandsAfter}
use Rattle.markdown_run_text.specs.RunSetting.{text_setting_of}
use Rattle.markdown_run_text.specs.TryTable.{TriesTable, codes_in, said_at}

-- what alone is tried at its codes, and reads one tree: the start of it
abbrev pub sole_tries : TriesTable StateName
sole_tries =
    (first_letters schemes, GfmAutolinkLiteralProtocolStart)
    ∷ (first_letters (www ∷ []), GfmAutolinkLiteralWwwStart)
    ∷ (codes "$`", RawTextStart)
    ∷ (codes "&", CharacterReferenceStart)
    ∷ []

-- what is tried at other codes: the start of what is tried first, and the state to go on with where that does not hold
abbrev pub other_tries : TriesTable (StateName × StateName)
other_tries =
    (codes "!", (LabelStartImageStart, TextBeforeData))
    ∷ (codes "*_~", (AttentionStart, TextBeforeData))
    ∷ (codes "<", (AutolinkStart, TextBeforeHtml))
    ∷ (codes "[", (GfmLabelStartFootnoteStart, TextBeforeLabelStartLink))
    ∷ (codes "\\", (CharacterEscapeStart, TextBeforeHardBreakEscape))
    ∷ (codes "]", (LabelEndStart, TextBeforeData))
    ∷ []

-- where what alone is tried does not hold, data is read
abbrev pub or_data : TriesTable StateName → TriesTable (StateName × StateName)
or_data rows = map (λ (row : List ℕ × StateName). (row.0, (row.1, TextBeforeData))) rows

abbrev pub text_tries : TriesTable (StateName × StateName)
text_tries = or_data sole_tries ++ other_tries

-- the codes at which something is tried
abbrev pub text_markers : List ℕ
text_markers = codes_in text_tries

-- the codes at which data stops: these, and that at which an expression of MDX may be tried
abbrev pub data_markers : List ℕ
data_markers = byte "{" ∷ text_markers

-- what is tried first at a code, if anything is
abbrev pub first_try : ℕ → Option (StateName × StateName)
first_try = said_at text_tries

-- what alone is tried at a code, if anything is
abbrev pub sole_try : ℕ → Option StateName
sole_try = said_at sole_tries

-- the codes at which other things are tried
abbrev pub other_markers : List ℕ
other_markers = codes_in other_tries

-- what a construct that is tried reads, where that is one tree
abbrev pub tried_reading : StateName → Option (Tokenizer → TreeReading)
tried_reading GfmTaskListItemCheckStart = Some GfmTaskListItemCheck.check_here
tried_reading GfmAutolinkLiteralProtocolStart = Some GfmAutolinkLiteral.protocol_here
tried_reading GfmAutolinkLiteralWwwStart = Some GfmAutolinkLiteral.www_here
tried_reading RawTextStart = Some RawText.span_at
tried_reading CharacterReferenceStart = Some reference_here
tried_reading AutolinkStart = Some link_here
tried_reading HtmlTextStart = Some HtmlText.html_here
tried_reading CharacterEscapeStart = Some escape_here
tried_reading HardBreakEscapeStart = Some break_here
tried_reading _ = None

-- Codes at which something is tried, apart from literals.

abbrev pub literal_letters : List ℕ
literal_letters = first_letters literal_words

-- the codes of the other lines
abbrev pub plain_markers : List ℕ
plain_markers = filter (λ n. not (list_any (λ m. n == m) literal_letters)) text_markers

-- the codes whose runs close spans
abbrev pub span_markers : List ℕ
span_markers = codes "`$"

-- these names are so many, or one of them is so long, that an order of them pays
abbrev pub names_pay : {Z : Type 0} → List (String Z) → Bool
names_pay names = nat_le 16 (length names) || list_any (λ name. nat_le 64 (length (string_bytes name))) names

-- the names that are defined pay, and so many labels may end in these codes
abbrev pub order_pays : List Code → ParseState → Bool
order_pays cs p = (names_pay p.definitions.items || names_pay p.gfm_footnote_definitions.items) && nat_le 16 (count_among (codes "]") cs)

-- the brackets of the document from where the content begins to where it ends
abbrev pub brackets_in : Place → ParseState → BracketPlaces
brackets_in c p = brackets_between p.bytes.now (point_of (record c { at = 0 })).index c.end.index

-- the names of what is defined, in order, and these brackets
abbrev pub names_in : Place → ParseState → Names
names_in c p = names_in_order (map string_bytes p.definitions.items) (map string_bytes p.gfm_footnote_definitions.items) (brackets_in c p)

-- anything is defined, and so many labels may end in these codes, that to note where opening brackets stand pays
abbrev pub brackets_pay : List Code → ParseState → Bool
brackets_pay cs p =
    not (length p.definitions.items == 0 && length p.gfm_footnote_definitions.items == 0) && nat_le 16 (count_among (codes "]") cs)

-- names that are lent, with the brackets where those pay; else those of what is defined, where their order pays
abbrev pub names_for : Option Names → Place → ParseState → Option Names
names_for None c p = if order_pays c.codes p then Some (names_in c p) else None
names_for (Some names) c p = Some (record names { brackets = if brackets_pay c.codes p then brackets_in c p else names.brackets })

-- these are other names than those that are lent, if any
abbrev pub names_change : Option Names → List Code → ParseState → Bool
names_change None cs p = order_pays cs p
names_change (Some names) cs p = brackets_pay cs p

-- so many titles in parentheses may begin in these codes, behind some of which a resource may end, that to note where each may end pays
abbrev pub titles_pay : List Code → Bool
titles_pay cs = holds ResourceEnd cs && nat_le 16 (count_among (codes "(") cs)

-- where titles in parentheses may end, if that pays
abbrev pub titles_for : List Code → Option (List Closer)
titles_for cs = if titles_pay cs then Some (closers_of cs) else None

-- literals are on, and so many from `www.` on may begin behind a `_` in these codes that to note where no domain begins pays
abbrev pub domains_pay : List Code → ParseState → Bool
domains_pay cs p = (p.options.now.constructs.gfm_autolink_literal && holds WwwDot cs) && nat_le 16 (openings cs)

-- where no domain begins behind a `_`, if that pays, in a content that ends at this index
abbrev pub domains_for : List Code → ℕ → ParseState → Option (List ℕ)
domains_for cs end p = if domains_pay cs p then Some (no_domains p.bytes.now end cs) else None

-- These scratch fields, which know of these codes where the sequences last begin that end HTML and resources, and where titles may end.
abbrev pub ended_fields : List Code → TokenizeState → TokenizeState
ended_fields cs s = record s { sequences = Some (last_begins cs); titles = titles_for cs }

-- and these, which know of the content all that rules constructs out: also where the last runs begin at which spans may close, and where no
-- domain begins
abbrev pub indexed_fields : Place → ParseState → TokenizeState → TokenizeState
indexed_fields c p s =
    record (ended_fields c.codes s) { runs = last_runs span_markers c.codes; no_domains = domains_for c.codes c.end.index p }

-- and these, with the names of what is defined
abbrev pub named_fields : Place → ParseState → TokenizeState → TokenizeState
named_fields c p s = record s { names = names_for s.names c p }

-- The scratch fields of a text of this content that is read by its states: where data stops, where a resource may end, and what is defined.
abbrev pub marked_fields : Place → ParseState → TokenizeState → TokenizeState
marked_fields c p s = record (named_fields c p (ended_fields c.codes s)) { markers = data_markers }

abbrev pub text_marked : Tokenizer → Tokenizer
text_marked T = scratched (marked_fields T.cursor T.parse_state.now T.tokenize_state) T

-- a construct is tried, from this state, and where it does not hold the run goes on with another
abbrev pub attempt_step : StateName → StateName → Tokenizer → Stepped
attempt_step construct otherwise T = stepped (Retry construct) (attempted false (Next TextBefore) (Next otherwise) T)

abbrev pub start_step : Tokenizer → Stepped
start_step T = attempt_step GfmTaskListItemCheckStart TextBefore (text_marked T)

-- with the passes of a text registered
abbrev pub text_passed : Tokenizer → Tokenizer
text_passed T = registered R.Text (registered R.Data T)

abbrev pub tries_at : Option (StateName × StateName) → Tokenizer → Stepped
tries_at None T = stepped (Retry TextBeforeData) T
tries_at (Some r) T = attempt_step r.0 r.1 T

-- by the current code
abbrev pub before_at : Option ℕ → Tokenizer → Stepped
before_at None T = stepped Ok (text_passed T)
before_at (Some v) T = tries_at (first_try v) T

abbrev pub before_step : Tokenizer → Stepped
before_step T = before_at (current_of T) T

abbrev pub before_html_step : Tokenizer → Stepped
before_html_step T = attempt_step HtmlTextStart TextBeforeData T

abbrev pub before_hard_break_escape_step : Tokenizer → Stepped
before_hard_break_escape_step T = attempt_step HardBreakEscapeStart TextBeforeData T

abbrev pub before_label_start_link_step : Tokenizer → Stepped
before_label_start_link_step T = attempt_step LabelStartLinkStart TextBeforeData T

abbrev pub before_data_step : Tokenizer → Stepped
before_data_step T = stepped (Retry DataStart) (attempted false (Next TextBefore) Nok T)

-- What is read.

abbrev pub text_setting : Tokenizer → Setting
text_setting T =
    within T.cursor.codes (text_setting_of T.parse_state.now T.tokenize_state.document_at_first_paragraph_of_list_item)

abbrev pub text_choice_of : Tokenizer → Choice
text_choice_of T = text_choice (text_setting T) T.cursor.codes

-- When they may be called.

-- a content that has codes ends with the last of them
abbrev pub EndsWithCodes : Place → Type 0
EndsWithCodes p = p.codes ≢ [] → p.end.index ≡ (stop_of document_start p.codes).index

-- At the start the fields are at rest in which spans, references, autolinks and whitespace behind a check count, with those of literals and of
-- ends of labels. The starts that are kept end between characters, and the content ends with its last code.
pub record TextStartReady (T : Tokenizer) : Type 0 where
  pub spans : RawText.RawTextStartReady T
  pub look : GfmTaskListItemCheck.MayLook T
  pub literals : GfmAutolinkLiteral.LiteralStartReady T
  pub ends : LabelEnd.LabelEndStartReady T
  pub last : EndsWithCodes T.cursor

-- each code of the content where data does not stop is an element by itself
abbrev pub StopsAtElements : Tokenizer → Type 0
StopsAtElements T = AreSingle (text_choice_of T) (stops_of T.tokenize_state) T.cursor.codes

-- besides, data stops where another element may begin
pub record IsReadyWithMarkers (T : Tokenizer) : Type 0 where
  pub stops : StopsAtElements T
  pub spans : RawText.RawTextStartReady T
  pub look : GfmTaskListItemCheck.MayLook T
  pub literals : GfmAutolinkLiteral.LiteralStartReady T
  pub ends : LabelEnd.LabelEndStartReady T
  pub last : EndsWithCodes T.cursor

-- and no check of a list item stands here
pub record TextBeforeReady (T : Tokenizer) : Type 0 where
  pub marked : IsReadyWithMarkers T
  pub unchecked : GfmTaskListItemCheck.check_here T (ahead T) ≡ None

-- the code at hand is an element by itself
abbrev pub StandsAlone : Tokenizer → Type 0
StandsAlone T =
    (earlier : List Element) (previous : Option Code) (c : Code) (cs : List Code) → StandsAfter earlier previous T → ahead T ≡ c ∷ cs
    → text_choice_of T earlier previous (c ∷ cs) ≡ Some (plain (code_leaf c), cs)

-- there is a code at hand
pub record TextDataReady (T : Tokenizer) : Type 0 where
  pub marked : IsReadyWithMarkers T
  pub some_code : current_of T ≢ None

-- a `<` is at hand that begins no autolink
pub record BeforeHtmlReady (T : Tokenizer) : Type 0 where
  pub before : TextBeforeReady T
  pub angle : current_of T ≡ Some (byte "<")
  pub no_autolink : link_here T (ahead T) ≡ None

-- a backslash is at hand that escapes nothing
pub record BeforeBreakReady (T : Tokenizer) : Type 0 where
  pub before : TextBeforeReady T
  pub slash : current_of T ≡ Some (byte "\\")
  pub no_escape : escape_here T (ahead T) ≡ None

-- a `[` is at hand that begins no footnote call
pub record BeforeLinkReady (T : Tokenizer) : Type 0 where
  pub before : TextBeforeReady T
  pub bracket : current_of T ≡ Some (byte "[")
  pub no_footnote : footnote_test T (ahead T) ≡ false

-- How runs end.

-- the codes from T on are those of a row, which is that of their elements as read, but for how data is cut, and U is T past it, with the passes of a
-- text registered
abbrev pub before_ends : Tokenizer → Bool → Tokenizer → Type 0
before_ends T true U = Finishes (text_choice_of T) text_passed T U
before_ends T false U = ⊥

-- where it is not known what element the code at hand begins: data is read, and behind it so
abbrev pub data_ends : Tokenizer → Bool → Tokenizer → Type 0
data_ends T true U = DataFinishes (text_choice_of T) (data_up_to (stops_of T.tokenize_state)) text_passed T U
data_ends T false U = ⊥

abbrev pub start_ends : Tokenizer → Bool → Tokenizer → Type 0
start_ends T ok U = before_ends (text_marked T) ok U

-- The states.

abbrev pub start_words : StateWords
start_words = record { ready = TextStartReady; step = start_step; ends = start_ends; rank = λ T. 9 }

abbrev pub before_words : StateWords
before_words = record { ready = TextBeforeReady; step = before_step; ends = before_ends; rank = λ T. 8 }

abbrev pub before_html_words : StateWords
before_html_words = record { ready = BeforeHtmlReady; step = before_html_step; ends = before_ends; rank = λ T. 6 }

abbrev pub before_hard_break_escape_words : StateWords
before_hard_break_escape_words = record { ready = BeforeBreakReady; step = before_hard_break_escape_step; ends = before_ends; rank = λ T. 6 }

abbrev pub before_label_start_link_words : StateWords
before_label_start_link_words = record { ready = BeforeLinkReady; step = before_label_start_link_step; ends = before_ends; rank = λ T. 6 }

abbrev pub before_data_words : StateWords
before_data_words = record { ready = TextDataReady; step = before_data_step; ends = data_ends; rank = λ T. 5 }

-- a part of what is said of these states, and of any other as it is given
abbrev pub said {ℓ} : {A : Type ℓ} → (StateWords → A) → (StateName → A) → StateName → A
said part other H.TextStart = part start_words
said part other H.TextBefore = part before_words
said part other H.TextBeforeHtml = part before_html_words
said part other H.TextBeforeHardBreakEscape = part before_hard_break_escape_words
said part other H.TextBeforeLabelStartLink = part before_label_start_link_words
said part other H.TextBeforeData = part before_data_words
said part other s = other s

-- all of it
abbrev pub states : (StateName → StateWords) → StateName → StateWords
states other s = said (λ (w : StateWords). w) other s
