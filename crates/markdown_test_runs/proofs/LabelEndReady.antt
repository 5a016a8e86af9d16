-- A tokenizer at rest that keeps one start is ready for the end of its label.
use Rattle.std.proofs.Common.{◌≡◌, ◌≤◌, ◌<◌, ◌++◌, ◌∷◌, false, List, [], Result, Ok, Err, IfOk, OnOk, length, ap, sym, subst, ◌∙◌, arith}
use Rattle.std.specs.Str.{IsCharBoundary}
use Rattle.std.proofs.lemmas.Str.{IsCharBoundary-start}
use Rattle.markdown_inline.specs.markdown_plan.Characters.{bytes_of, ReadsText}
use Rattle.markdown_inline.specs.markdown_engine.RestingFields.{at_rest}
use Rattle.markdown_inline.specs.markdown_engine.Weights.{codes_left}
use Rattle.markdown_inline.specs.markdown_content.Codes.{document_start}
use Rattle.markdown_inline.specs.markdown_content.Tree.{event}
use Rattle.markdown_inline.specs.markdown_event.declared.event.Event.{Event}
use Rattle.markdown_inline.specs.markdown_event.declared.event.Kind.TheVariants as Kind
use Rattle.markdown_inline.specs.markdown_event.declared.event.Name.TheVariants as N
use Rattle.markdown_inline.specs.markdown_content.declared.label_kind.LabelKind.TheVariants as K
use Rattle.markdown_inline.specs.markdown_engine.declared.tokenizer.LabelStart as Kept
use Rattle.markdown_inline.specs.markdown_engine.declared.tokenizer.TokenizeState.{TokenizeState}
use Rattle.markdown_inline.specs.markdown_engine.declared.tokenizer.Tokenizer.{Tokenizer}
use Rattle.markdown_inline.proofs.markdown_notes.SequenceIndexLemmas.{right-unknown}
use Rattle.markdown_inline.proofs.markdown_notes.TitleIndexLemmas as TitleIndexLemmas
use Rattle.markdown_inline.proofs.markdown_label_names.NameIndexSearch.{listed-unknown}
use Rattle.markdown_inline.specs.markdown_label.LabelEnd as LabelEnd
use Rattle.markdown_inline.specs.markdown_label.LabelEnd.{AreStartsWithin}
use Rattle.markdown_inline.specs.markdown_label_names.LabelNames.{place_at}
use Rattle.markdown_inline.specs.markdown_partial.PartialSpaceOrTabEol as PartialSpaceOrTabEol
use Rattle.markdown_inline.specs.markdown_partial.PartialSpaceOrTab as PartialSpaceOrTab
use Rattle.markdown_inline.specs.markdown_partial.PartialSpaceOrTab.{most}
use Rattle.markdown_inline.specs.markdown_label.AfterLabelParts as AfterLabelParts

-- the Enter of the start
abbrev pub opened : Event
opened = event Kind.Enter N.LabelLink document_start

-- the start that is kept
abbrev pub kept : Kept.LabelStart
kept = record { kind = K.Link; start = (0, 0); inactive = false }

-- T with these events and starts
abbrev pub with_start : List Event → List Kept.LabelStart → Tokenizer → Tokenizer
with_start es ls T = record T { events = es; tokenize_state = record T.tokenize_state { label_starts = ls } }

module _ (T : Tokenizer) (es : List Event) (ls : List Kept.LabelStart) (none : T.events ≡ []) (e : T.tokenize_state ≡ at_rest) (fits : codes_left T ≤ most) (text : ReadsText T)
    (events : es ≡ T.events ++ opened ∷ []) (starts : ls ≡ kept ∷ T.tokenize_state.label_starts) where
  abbrev U : Tokenizer
  U = with_start es ls T

  fields : U.tokenize_state ≡ record at_rest { label_starts = ls }
  fields = ap (λ (s : TokenizeState). record s { label_starts = ls }) e

  one : es ≡ opened ∷ []
  one = events ∙ ap (λ (xs : List Event). xs ++ opened ∷ []) none

  only : ls ≡ kept ∷ []
  only = starts ∙ ap (λ (s : TokenizeState). kept ∷ s.label_starts) e

  between : IsCharBoundary (bytes_of T) (place_at es 0).index
  between = subst (λ (xs : List Event). IsCharBoundary (bytes_of T) (place_at xs 0).index) (sym one) (IsCharBoundary-start (bytes_of T) text.text)

  some : 0 < length es
  some = subst (λ (xs : List Event). 0 < length xs) (sym one) (omega arith)

  pub end-ready : LabelEnd.LabelEndStartReady U
  end-ready =
      record {
        part = record { short = fits; indexed = right-unknown T.cursor.codes T.tokenize_state.sequences (ap (λ (s : TokenizeState). s.sequences) e); titled = TitleIndexLemmas.right-unknown T.cursor.codes T.tokenize_state.titles (ap (λ (s : TokenizeState). s.titles) e); spaces = record { space = ap PartialSpaceOrTab.rested fields ∙ sym fields; eol = ap PartialSpaceOrTabEol.eol_rested fields ∙ sym fields }; rest = ap AfterLabelParts.rested fields ∙ sym fields };
        listed = listed-unknown U (ap (λ (s : TokenizeState). s.names) fields);
        text = text;
        within = subst (λ (xs : List Kept.LabelStart). AreStartsWithin U xs) (sym only) ((record { within = some; between = between }, tt), (λ e. tt, tt));
        resting = ap (λ (s : TokenizeState). s.end) fields;
      }

-- what follows from a call that went well
pub on-ok : {A B : Type 0} (r : Result A B) (P Q : Type 0) → OnOk r P → (P → Q) → IfOk r (λ x. Q)
on-ok (Ok x) P Q p f = f p
on-ok (Err x) P Q p f = tt
