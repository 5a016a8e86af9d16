-- What a run hands over to the pass of labels.
use Rattle.std.specs.Prelude.{◌≡◌, ℕ, List, [], ◌∷◌, None}
use Rattle.markdown_engine.specs.PastTree.{appended_from}
use Rattle.markdown_event.specs.declared.event.Event.{Event}
use Rattle.markdown_engine.specs.declared.tokenizer.LabelStart.{LabelStart}
use Rattle.markdown_engine.specs.declared.tokenizer.TokenizeState.{TokenizeState}
use Rattle.markdown_engine.specs.declared.tokenizer.Tokenizer.{Tokenizer}
use Rattle.markdown_label.specs.Brackets.{Brackets, flat, IsApart, labels_at, unused_at, failed_at}

-- the numbers of starts
abbrev pub starts_of : List LabelStart → List (ℕ × ℕ)
starts_of [] = []
starts_of (s ∷ ss) = s.start ∷ starts_of ss

-- the events are those of the flat tree of these brackets, and the lists of labels and starts name them
pub record HasBrackets (b : Brackets) (s : TokenizeState) (es : List Event) : Type 0 where
  pub apart : IsApart b
  pub events : es ≡ appended_from 0 None (flat b)
  pub labels : s.labels ≡ labels_at 0 b
  pub unused : starts_of s.label_starts ≡ unused_at 0 b
  pub failed : starts_of s.label_starts_loose ≡ failed_at 0 b

pub record MayGroup (T : Tokenizer) : Type 0 where
  pub map : T.map ≡ []
  pub brackets : (b : Brackets) × HasBrackets b T.tokenize_state T.events

-- without labels and starts
abbrev pub unlabelled : TokenizeState → TokenizeState
unlabelled s = record s { labels = []; label_starts = []; label_starts_loose = [] }
