-- How the starts that a tokenizer keeps stand for the unused starts of the elements read so far.
use Rattle.std.specs.Prelude.{◌≡◌, ◌<◌, List, [], ◌∷◌, length}
use Rattle.markdown_content.specs.Codes.{stop_of, document_start}
use Rattle.markdown_event.specs.declared.event.Event.{Event}
use Rattle.markdown_engine.specs.declared.tokenizer.LabelStart.{LabelStart}
use Rattle.markdown_engine.specs.declared.tokenizer.Tokenizer.{Tokenizer}
use Rattle.markdown_model.specs.LabelEnd.{Element}
use Rattle.markdown_model.specs.Laws.{UnusedStart, unused_starts}
use Rattle.markdown_label_names.specs.LabelNames.{place_at}

-- a kept start stands for an unused one: of the same kind, marked where a link or a call was made behind it, and its last Exit stands where the start's marker ends
pub record StandsFor (es : List Event) (u : UnusedStart) (l : LabelStart) : Type 0 where
  pub kind : l.kind ≡ u.kind
  pub marked : l.inactive ≡ u.before_link
  pub within : l.start.1 < length es
  pub place : place_at es l.start.1 ≡ stop_of document_start u.marker

-- each stands for one, the last one first
abbrev pub StandFor : List Event → List UnusedStart → List LabelStart → Type 0
StandFor es [] [] = Unit {0}
StandFor es [] (l ∷ ls) = ⊥
StandFor es (u ∷ us) [] = ⊥
StandFor es (u ∷ us) (l ∷ ls) = StandsFor es u l × StandFor es us ls

-- the starts that T keeps are the unused ones of these elements, last one first
abbrev pub KeepsStarts : List Element → Tokenizer → Type 0
KeepsStarts earlier T = StandFor T.events (unused_starts earlier) T.tokenize_state.label_starts
