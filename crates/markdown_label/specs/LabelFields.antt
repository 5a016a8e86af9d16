-- What starts and ends of labels do to the scratch fields.
use Rattle.std.specs.Prelude.{◌≡◌, ℕ, Bool, true, false, map, ◌&&◌, not, if◌then◌else◌, List, [], ◌∷◌, ◌++◌, take}
use Rattle.markdown_content.specs.ListFunctions.{rest_of}
use Rattle.markdown_content.specs.declared.label_kind.LabelKind.{LabelKind}
use Rattle.markdown_engine.specs.declared.tokenizer.LabelStart.{LabelStart}
use Rattle.markdown_engine.specs.declared.tokenizer.TokenizeState.{TokenizeState}
use Rattle.markdown_model.specs.LabelEnd.{is_image, link_kind}

-- with a start of this kind, from its first Enter to its last Exit
abbrev pub begun : LabelKind → ℕ → ℕ → TokenizeState → TokenizeState
begun kind first last s = record s { label_starts = record { kind = kind; start = (first, last); inactive = false } ∷ s.label_starts }

-- the starts, the last of which has another kind
abbrev pub with_kind : LabelKind → List LabelStart → List LabelStart
with_kind kind [] = []
with_kind kind (l ∷ ls) = record l { kind = kind } ∷ ls

-- the starts, the last of which is tried as a link's or an image's
abbrev pub as_link : List LabelStart → List LabelStart
as_link [] = []
as_link (l ∷ ls) = record l { kind = link_kind l.kind } ∷ ls

-- a link or a call was made behind this start, and it is no image's: an end that comes to it makes nothing
abbrev pub bars : LabelStart → Bool
bars l = not (is_image l.kind) && l.inactive

-- these starts, once a link or a call was made behind them
abbrev pub marked : List LabelStart → List LabelStart
marked ls = map (λ (l : LabelStart). record l { inactive = true }) ls

-- a link or a call was made behind each of these starts
abbrev pub AreInactive : List LabelStart → Type 0
AreInactive [] = Unit {0}
AreInactive (l ∷ ls) = (l.inactive ≡ true) × AreInactive ls

-- of these starts, last one first: what was made behind one was made behind all before it
abbrev pub AreOrdered : List LabelStart → Type 0
AreOrdered [] = Unit {0}
AreOrdered (l ∷ ls) = (l.inactive ≡ true → AreInactive ls) × AreOrdered ls

-- the starts before a label of this kind
abbrev pub barred_by : LabelKind → List LabelStart → List LabelStart
barred_by kind ls = if is_image kind then ls else marked ls

-- the last start makes a label whose end reaches from `s.end` to this Exit
abbrev pub labelled : List LabelStart → ℕ → TokenizeState → TokenizeState
labelled [] last s = s
labelled (l ∷ ls) last s = record s {
  label_starts = barred_by l.kind ls;
  labels = s.labels ++ record { kind = l.kind; start = l.start; end = (s.end, last) } ∷ [];
  end = 0;
}

-- the last start is used up in vain
abbrev pub loosened : List LabelStart → TokenizeState → TokenizeState
loosened ls s = record s { label_starts = rest_of ls; label_starts_loose = s.label_starts_loose ++ take 1 ls; end = 0; seen = false }
