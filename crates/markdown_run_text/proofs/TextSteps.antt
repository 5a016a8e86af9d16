-- What is known of a text at a place is known past what is read there.
use Rattle.markdown_model.specs.LeafConstructs.{gfm_task_list_item_check}
use Rattle.markdown_model.specs.CodeTests.{is_value, last_code, next_is}
use Rattle.std.proofs.Common.{◌≡◌, ◌≢◌, ℕ, ◌<◌, ◌≤◌, ◌==◌, Bool, true, false, if◌then◌else◌, Option, Some, None, List, [], ◌∷◌, refl, sym, ap, subst, ◌∙◌, arith, length, length-append, is_none, ◌&&◌, ◌++◌, append-nil}
use Rattle.std.specs.Str.{byte}
use Rattle.markdown_content.specs.Codes.{Code}
use Rattle.markdown_notes.specs.BracketIndex.{brackets_between}
use Rattle.markdown_notes.specs.NameIndex.{names_in_order}
use Rattle.markdown_notes.specs.declared.name_index.Names.{Names}
use Rattle.markdown_content.specs.declared.parser.ParseState.{ParseState}
use Rattle.markdown_engine.specs.Operations.{ahead, current_of, is_registered, registered, scratched, previous_of}
use Rattle.markdown_engine.specs.PastTree.{past, moved_by}
use Rattle.markdown_content.specs.Place.{Place, moved, code_before, last_of, point_of, value_of}
use Rattle.markdown_notes.specs.SequenceIndex.{last_begins}
use Rattle.markdown_notes.specs.TitleIndex.{closers_of}
use Rattle.markdown_content.specs.Tree.{Forest, empty}
use Rattle.markdown_engine.specs.Weights.{codes_left, weight_at}
use Rattle.markdown_event.specs.declared.resolve.ResolveName.TheVariants as R
use Rattle.markdown_engine.specs.declared.tokenizer.TokenizeState.{TokenizeState}
use Rattle.markdown_engine.specs.declared.tokenizer.Tokenizer.{Tokenizer}
use Rattle.markdown_engine.proofs.ReadingSequences.{scratched-same}
use Rattle.markdown_notes.proofs.SequenceIndexLemmas.{right-made}
use Rattle.markdown_engine.proofs.OperationFields.{BeginsWithValue, ahead-some, attempts-registered, left-scratched, left-ahead}
use Rattle.markdown_leaf_gfm.specs.GfmAutolinkLiteral as GfmAutolinkLiteral
use Rattle.markdown_leaf_gfm.specs.GfmTaskListItemCheck as GfmTaskListItemCheck
use Rattle.markdown_leaf_html.specs.HtmlText as HtmlText
use Rattle.markdown_attention.specs.Attention as Attention
use Rattle.markdown_plan.specs.Characters.{ReadsText}
use Rattle.markdown_plan.proofs.CharactersAlongContent.{text-scratched}
use Rattle.markdown_label.specs.LabelEnd as LabelEnd
use Rattle.markdown_label.specs.LabelEnd.{AreStartsWithin}
use Rattle.markdown_model.specs.Setting.{Setting}
use Rattle.markdown_label_names.specs.LabelSetting.{setting_of, AreListed, IsListed}
use Rattle.markdown_label.proofs.KeptStartPlaces.{within-grown}
use Rattle.markdown_label.specs.AfterLabelParts.{PartReady}
use Rattle.markdown_label.proofs.NextCodeTests.{same-codes}
use Rattle.markdown_label.proofs.ResourceLaws.{indexed-same, titled-same}
use Rattle.markdown_leaf.specs.CharacterReference.{IsAtRest}
use Rattle.markdown_leaf.specs.RawText as RawText
use Rattle.markdown_partial.specs.PartialData.{stops_of}
use Rattle.markdown_run_text.specs.RunOverElements.{AreReadAsData, Advances}
use Rattle.markdown_run_text.specs.Row.{EndsRest, Row, loses, row_end, row_then, past_mark, past_row, row_codes, kinds_of, IsRowAt}
use Rattle.markdown_run_text.proofs.LabelSteps.{empty-part, mark-alone}
use Rattle.markdown_run_text.proofs.RowFields.{relisted, row-cursor, row-text, row-fields, made-within}
use Rattle.markdown_run_text.proofs.RowScratch.{row-input}
use Rattle.markdown_run_text.specs.TextContent.{names_for, brackets_pay, titles_pay, marked_fields, text_marked, text_passed, text_choice_of, EndsWithCodes, TextStartReady, IsReadyWithMarkers, StandsAlone, before_ends, data_ends, text_setting, StopsAtElements}
use Rattle.markdown_run_text.proofs.TextDataStops.{stops-where}
use Rattle.markdown_run_text.proofs.TextTries.{end_in, ReadsElements, none-valued, check-reads, no-check-at-end, other-data}
use Rattle.markdown_run_text.proofs.ElementSteps.{last-some, some-ahead, advances-finishes, finishes-end, data-advances}
use Rattle.markdown_model.proofs.GrammarSteps.{if-true, if-false, switched-off}
use Rattle.markdown_run_text.specs.ElementsAsRead.{source_of}

-- Past a row the choice is as it was, and so are the scratch fields but for the lists of labels.

pub same-end : (cs : List Code) (p : Place) → (moved_by cs p).end ≡ p.end
unfolding moved
same-end [] p = refl
same-end (c ∷ cs) p = same-end cs (moved p)

-- what stays as it was
pub record KeepsTheRest (T U : Tokenizer) : Type 0 where
  pub fields : U.tokenize_state ≡ relisted U.tokenize_state T.tokenize_state
  pub input : U.parse_state ≡ T.parse_state
  pub codes : U.cursor.codes ≡ T.cursor.codes
  pub end : U.cursor.end ≡ T.cursor.end
  pub text : ReadsText U

pub ends-rest : (T : Tokenizer) → LabelEnd.LabelEndStartReady T → EndsRest T.tokenize_state
ends-rest T r = record { end = r.resting; seen = sym (ap (λ (s : TokenizeState). s.seen) r.part.rest) }

pub same-row : (row : Row) (T U : Tokenizer) → U ≡ past_row row T → IsRowAt (kinds_of T) row → LabelEnd.LabelEndStartReady T →
    KeepsTheRest T U
same-row row T U left is r = grind (arith, row-fields (kinds_of T) row T, ends-rest T, row-input row T, row-cursor (kinds_of T) row T, same-codes (row_codes row) T.cursor, same-end (row_codes row) T.cursor, row-text (kinds_of T) row T)

pub choice-same : (T U : Tokenizer) → KeepsTheRest T U → text_choice_of U ≡ text_choice_of T
choice-same T U k = grind arith

-- what is known of the runs stays right
pub indexed-past : (T U : Tokenizer) → KeepsTheRest T U → RawText.IsIndexed T → RawText.IsIndexed U
indexed-past T U e k = grind arith

-- and so do what is known of sequences, and of names
pub sequences-past : (T U : Tokenizer) → KeepsTheRest T U → HtmlText.KnowsSequences T → HtmlText.KnowsSequences U
sequences-past T U e k = indexed-same T U e.codes (ap (λ (s : TokenizeState). s.sequences) e.fields) k

pub listed-past : (T U : Tokenizer) → KeepsTheRest T U → IsListed T → IsListed U
listed-past T U e k names known = grind arith

pub domains-past : (T U : Tokenizer) → KeepsTheRest T U → GfmAutolinkLiteral.KnowsDomains T →
    GfmAutolinkLiteral.KnowsDomains U
domains-past T U e k places known = grind arith

pub part-past : (T U : Tokenizer) → KeepsTheRest T U → codes_left U ≤ codes_left T → PartReady T → PartReady U
part-past T U e l k = grind (arith, sequences-past, titled-same)

-- the content ends with its last code
pub last-past : (T U : Tokenizer) → KeepsTheRest T U → EndsWithCodes T.cursor → EndsWithCodes U.cursor
last-past T U e last = grind arith

-- data stops at the same places
pub stops-same : (T U : Tokenizer) → KeepsTheRest T U → stops_of U.tokenize_state ≡ stops_of T.tokenize_state
stops-same T U e = ap (λ (s : TokenizeState). stops_of s) e.fields

pub stops-past : (T U : Tokenizer) → KeepsTheRest T U → StopsAtElements T → StopsAtElements U
stops-past T U e stops front earlier previous c cs w free = grind (arith, choice-same, stops-same)

pub ready-past : (T U : Tokenizer) → KeepsTheRest T U → codes_left U ≤ codes_left T →
    AreStartsWithin U U.tokenize_state.label_starts → TextStartReady T → TextStartReady U
ready-past T U e l within r = grind (arith, part-past, listed-past, last-past)

-- where data stops at elements, all but that is what is asked at the start
pub marked-ready : (T : Tokenizer) → IsReadyWithMarkers T → TextStartReady T
marked-ready T r = record { spans = r.spans; look = r.look; literals = r.literals; ends = r.ends; last = r.last }

pub ready-marked : (T : Tokenizer) → StopsAtElements T → TextStartReady T → IsReadyWithMarkers T
ready-marked T stops r = grind arith

pub marked-past : (T U : Tokenizer) → KeepsTheRest T U → codes_left U ≤ codes_left T →
    AreStartsWithin U U.tokenize_state.label_starts → IsReadyWithMarkers T → IsReadyWithMarkers U
marked-past T U e l within r = grind (arith, ready-marked, stops-past, ready-past, marked-ready)

-- past an element no check may begin

pub some-last : (cs : List Code) → 1 ≤ length cs → is_none (last_code cs) ≡ false
some-last [] h = absurd (omega arith)
some-last (c ∷ []) h = refl
some-last (c ∷ d ∷ cs) h = some-last (d ∷ cs) (omega arith)

pub and-none : (a b : Bool) (o : Option ℕ) → is_none o ≡ false → a && (b && is_none o) ≡ false
and-none a b o e = grind arith

pub no-check-behind : (cs : List Code) (T U : Tokenizer) → U.cursor ≡ moved_by cs T.cursor → ahead T ≡ cs ++ ahead U →
    codes_left U < codes_left T → GfmTaskListItemCheck.check_here U (ahead U) ≡ None
unfolding code_before
no-check-behind cs T U place whole less =
    let size : 1 ≤ length cs = omega (arith, less, left-ahead T, left-ahead U, ap length whole, length-append cs (ahead U)) in
    let before : is_none (previous_of U) ≡ false = ap (λ o. is_none (value_of o)) (ap (λ (p : Place). last_of p.codes p.at) place ∙ last-some cs (ahead U) T.cursor size whole) ∙ none-valued (last_code cs) ∙ some-last cs size in
    switched-off gfm_task_list_item_check (GfmTaskListItemCheck.may_begin U) (ahead U) (and-none U.parse_state.now.options.now.constructs.gfm_task_list_item U.tokenize_state.document_at_first_paragraph_of_list_item (previous_of U) before)

pub no-check-past : (T U : Tokenizer) (a : Advances (text_choice_of T) T U) →
    GfmTaskListItemCheck.check_here U (ahead U) ≡ None
no-check-past T U a = grind (arith, no-check-behind, row-cursor)

-- what follows an element, follows from before it
pub advances-ends : (T U : Tokenizer) → KeepsTheRest T U → Advances (text_choice_of T) T U → (ok : Bool) (V : Tokenizer) →
    before_ends U ok V → before_ends T ok V
advances-ends T U e a h V k = grind (arith, advances-finishes (text_choice_of T) text_passed T U V, choice-same T U)

-- Data, where the code at hand is an element by itself.

pub alone-ends : (T : Tokenizer) → StopsAtElements T → current_of T ≢ None → StandsAlone T →
    (ok : Bool) (V : Tokenizer) → data_ends T ok V → before_ends T ok V
alone-ends T stops some alone true V k =
    let a = some-ahead T (ahead T) refl some in
    advances-finishes (text_choice_of T) text_passed T k.behind V
    (data-advances (text_choice_of T) (stops_of T.tokenize_state) T k.behind a.0 a.1.0 a.1.1 k.data_read (λ earlier previous stands. alone earlier previous a.0 a.1.0 stands a.1.1)
    (subst (λ xs. AreReadAsData (source_of T) (text_choice_of T) (stops_of T.tokenize_state) xs) a.1.1 (other-data T stops)))
    k.finishes
alone-ends T stops some alone false V k = k

-- The starts that are kept, past what holds.

pub tree-kept : (T U : Tokenizer) (t : Forest) → U ≡ past None t T → AreStartsWithin T T.tokenize_state.label_starts →
    AreStartsWithin U U.tokenize_state.label_starts
unfolding past
tree-kept T U t left k = grind (arith, within-grown)

pub registered-within : (b : Bool) (V W : Tokenizer) → W ≡ record V { resolvers = W.resolvers } →
    AreStartsWithin V V.tokenize_state.label_starts →
    AreStartsWithin (if b then V else W) (if b then V else W).tokenize_state.label_starts
registered-within true V W e k = k
registered-within false V W e k =
    subst (λ (x : Tokenizer). AreStartsWithin x x.tokenize_state.label_starts) (sym e) (within-grown V (record V { resolvers = W.resolvers }) [] refl (sym (append-nil V.events)) V.tokenize_state.label_starts k)

pub registered-kept : (T U V : Tokenizer) (t : Forest) → V ≡ past None t T → U ≡ registered R.Attention V →
    AreStartsWithin T T.tokenize_state.label_starts → AreStartsWithin U U.tokenize_state.label_starts
unfolding registered
registered-kept T U V t left e k = grind (arith, registered-within (is_registered R.Attention V.resolvers) V (record V { resolvers = V.resolvers ++ R.Attention ∷ [] }), tree-kept T V t)

pub made-kept : (T U : Tokenizer) → LabelEnd.Ends T U → AreStartsWithin T T.tokenize_state.label_starts →
    AreStartsWithin U U.tokenize_state.label_starts
unfolding past_mark
made-kept T U r k = grind (arith, made-within)

-- Going on where a construct does not hold.

pub some-none : (o : Option ℕ) (v : ℕ) → o ≡ Some v → o ≢ None
some-none o v e = λ h. cc

-- The laws.

pub weight-marked : (T : Tokenizer) → weight_at 9 (text_marked T) ≡ weight_at 9 T
weight-marked T = grind (arith, left-scratched)

pub at-rest-reference : (T : Tokenizer) → RawText.RawTextStartReady T → IsAtRest T
at-rest-reference T r = grind arith

pub run-ready : (T : Tokenizer) → RawText.RawTextStartReady T → Attention.AttentionStartReady T
run-ready T r = r.rest ∙ ap (Attention.with_marker 0) (sym r.rest)

pub passed-attempts : (T : Tokenizer) → T.attempts ≡ [] → (text_passed T).attempts ≡ []
passed-attempts T alone = attempts-registered R.Text (registered R.Data T) ∙ attempts-registered R.Data T ∙ alone

pub at-end : (T : Tokenizer) → current_of T ≡ None → (ok : Bool) (U : Tokenizer) → (ok ≡ true) × (U ≡ text_passed T) →
    before_ends T ok U
at-end T e h U k = grind (arith, finishes-end)

-- Ends of labels.

-- where one makes a label, ends are on
pub ends-on : (T U : Tokenizer) → LabelEnd.Ends T U → LabelEnd.is_on T ≡ true
ends-on T U r = grind (arith, switched-off)

-- where one makes none, its start is used up
pub lost-there : (T : Tokenizer) → current_of T ≡ Some (byte "]") → LabelEnd.is_on T ≡ true →
    scratched (LabelEnd.lost_fields T) T ≡ past_mark loses T
unfolding past_mark
lost-there T d on = ap (λ s. scratched s T) (if-true _ _ _ (ap (λ b. b && next_is (is_value (byte "]")) (ahead T)) on ∙ there))
  where
    there : next_is (is_value (byte "]")) (ahead T) ≡ true
    there =
        let b : BeginsWithValue (byte "]") (ahead T) = ahead-some T (byte "]") d in ap (next_is (is_value (byte "]"))) b.whole ∙ ap (λ v. v == byte "]") b.value

pub not-lost : (T : Tokenizer) → LabelEnd.is_on T ≡ false → scratched (LabelEnd.lost_fields T) T ≡ T
not-lost T off = grind (arith, if-false, scratched-same)

pub lost-left : (T : Tokenizer) → codes_left (past_mark loses T) ≤ codes_left T
unfolding past_mark
lost-left T = omega (arith, left-scratched (LabelEnd.lost_by T.tokenize_state.label_starts T.tokenize_state) T)

pub lost-current : (T : Tokenizer) → current_of (past_mark loses T) ≡ current_of T
unfolding past_mark scratched
lost-current T = refl

pub same-lost : (T : Tokenizer) → LabelEnd.LabelEndStartReady T → KeepsTheRest T (past_mark loses T)
same-lost T r =
    let row : Row = row_then empty loses (row_end empty) in
    same-row row T (past_mark loses T) (mark-alone loses T) (empty-part, (tt, empty-part)) r

pub html-ready : (T : Tokenizer) → TextStartReady T → HtmlText.HtmlStartReady T
html-ready T r = grind arith

pub spans-marked : (T : Tokenizer) → RawText.RawTextStartReady T → RawText.RawTextStartReady (text_marked T)
unfolding scratched
spans-marked T r = grind arith

pub look-marked : (T : Tokenizer) → GfmTaskListItemCheck.MayLook T → GfmTaskListItemCheck.MayLook (text_marked T)
unfolding scratched
look-marked T r = grind arith

-- what is known is what was made, where that pays
pub made-known : {A : Type 0} (pays : Bool) (made known : A) → (if pays then Some made else None) ≡ Some known →
    known ≡ made
made-known pays made known e = grind arith

pub literals-marked : (T : Tokenizer) → GfmAutolinkLiteral.LiteralStartReady T → GfmAutolinkLiteral.LiteralStartReady (text_marked T)
unfolding scratched
literals-marked T r = grind (arith, text-scratched)

-- and of the names, whichever part of the document the brackets are of
pub listed-made : (s : Setting) (start end : ℕ) (names : Names) →
    names ≡ names_in_order s.definitions s.footnotes (brackets_between s.bytes start end) → AreListed s names
listed-made s start end names e = grind arith

-- what is lent is right with the brackets of a part too
lent-known : (s : Setting) (start end : ℕ) (lent known : Names) (pays : Bool) → AreListed s lent →
    Some (record lent { brackets = if pays then brackets_between s.bytes start end else lent.brackets }) ≡ Some known → AreListed s known
lent-known s start end lent known pays h e = grind (arith, listed-made, made-known)

-- and so are the names that a text is read with
pub names-known : (c : Place) (p : ParseState) (lent : Option Names) (known : Names) →
    ((names : Names) → lent ≡ Some names → AreListed (setting_of p) names) → names_for lent c p ≡ Some known → AreListed (setting_of p) known
names-known c p None known h e = grind (arith, listed-made, made-known)
names-known c p (Some lent) known h e =
    lent-known (setting_of p) (point_of (record c { at = 0 })).index c.end.index lent known (brackets_pay c.codes p) (h lent refl) e

pub ends-marked : (T : Tokenizer) → LabelEnd.LabelEndStartReady T → LabelEnd.LabelEndStartReady (text_marked T)
unfolding scratched
ends-marked T r =
    let M : Tokenizer = text_marked T in
    let s : TokenizeState → TokenizeState = marked_fields T.cursor T.parse_state.now in
    record {
      part = record { short = r.part.short; indexed = right-made T.cursor.codes (Some (last_begins T.cursor.codes)) refl; titled = λ closers. made-known (titles_pay T.cursor.codes) (closers_of T.cursor.codes) closers; spaces = record { space = ap s r.part.spaces.space; eol = ap s r.part.spaces.eol }; rest = ap s r.part.rest };
      listed = λ names known. names-known T.cursor T.parse_state.now T.tokenize_state.names names r.listed known;
      text = text-scratched (s T.tokenize_state) T r.text;
      within = within-grown T M [] refl (sym (append-nil T.events)) T.tokenize_state.label_starts r.within;
      resting = r.resting;
    }

pub stops-marked : (T : Tokenizer) → StopsAtElements (text_marked T)
unfolding scratched
stops-marked T = stops-where (text_setting T) (end_in T) T.cursor.codes

pub marked-start : (T : Tokenizer) → TextStartReady T → IsReadyWithMarkers (text_marked T)
unfolding scratched
marked-start T r = grind (arith, stops-marked, spans-marked, look-marked, literals-marked, ends-marked)

pub check-elements : (T : Tokenizer) (o : Option ℕ) → current_of T ≡ o →
    ReadsElements (GfmTaskListItemCheck.check_here T) T
check-elements T o e = grind (arith, no-check-at-end, check-reads)
