-- What is wrong with an input that is refused, and which part of it is to blame.
use Rattle.std.specs.Prelude.{◌≡◌, ◌⊎◌, ℕ, ◌+◌, List, ◌∷◌, ◌++◌, length, None, Some}
use Rattle.std.specs.List.{All}
use Rattle.std.specs.Str.Lossy.{utf8_valid_len}
use Rattle.markdown_content.specs.KnownPlaces.{IsDocument}
use Rattle.markdown_inline_c.specs.FlatHtml.{AreKnownForHtml, AreTargets, IsTarget}
use Rattle.markdown_inline_c.specs.FlatInput.{AreLabels, IsLabelRange}
use Rattle.markdown_inline_c.specs.FlatStrings.{AreStringOptions}
use Rattle.markdown_inline_c.specs.FlatTexts.{AreTextsOptions}
use Rattle.markdown_inline_c.specs.Statuses.{IsDocumentFault}
use Rattle.markdown_inline_c.specs.declared.fault.Fault.{Fault}
use Rattle.markdown_inline_c.specs.declared.flat.FlatContent.{FlatContent}
use Rattle.markdown_inline_c.specs.declared.flat.FlatTarget.{FlatTarget}
use Rattle.markdown_inline_c.specs.declared.flat.Input.{Input}
use Rattle.markdown_inline_c.specs.declared.refusal.Refusal.{Refusal}

abbrev pub blames_none : Fault → Refusal
blames_none fault = record { fault = fault; at = None }

-- the refusal of one of many, by its number; nothing is to blame where memory was refused
abbrev pub blames : Fault → ℕ → Refusal
blames Fault.Memory number = blames_none Fault.Memory
blames fault number = record { fault = fault; at = Some number }

-- the refusal of a document, by the number of its first byte that is not UTF-8
abbrev pub blames_byte : List ℕ → Fault → Refusal
blames_byte bytes Fault.NotUtf8 = blames Fault.NotUtf8 (utf8_valid_len bytes)
blames_byte bytes fault = blames_none fault

-- one of a list, by its number: the first of which this does not hold
pub record IsFirstOther {X : Type 0} (P : X → Type 0) (xs : List X) (number : ℕ) : Type 0 where
  pub before : List X
  pub other : X
  pub after : List X
  pub parts : xs ≡ before ++ other ∷ after
  pub number_is : number ≡ length before
  pub hold : All P before
  pub fails : P other → ⊥

-- the first of which this does not hold is blamed; so many others are counted before the list
pub record IsFirstBlamed {X : Type 0} (P : X → Type 0) (before : ℕ) (xs : List X) (fault : Fault) (refusal : Refusal) : Type 0 where
  pub number : ℕ
  pub first : IsFirstOther P xs number
  pub refusal_is : refusal ≡ blames fault (before + number)

-- of a document: of bytes that are not UTF-8 the first is blamed, by the length of the longest front that is UTF-8
abbrev pub IsDocumentRefused : List ℕ → Refusal → Type 0
IsDocumentRefused bytes r = IsDocumentFault bytes r.fault × (r ≡ blames_byte bytes r.fault)

-- of labels, where footnotes are counted behind the definitions
abbrev pub AreLabelsRefused : Input → Refusal → Type 0
AreLabelsRefused i r =
    IsFirstBlamed (IsLabelRange i.labels.now) 0 i.definitions.now Fault.Definition r
    ⊎ (All (IsLabelRange i.labels.now) i.definitions.now × IsFirstBlamed (IsLabelRange i.labels.now) (length i.definitions.now) i.footnotes.now Fault.Definition r)

-- of where definitions lead: there is not one target for each, which is the fault of none, or one is no text of the labels
abbrev pub AreTargetsRefused : Input → List FlatTarget → Refusal → Type 0
AreTargetsRefused i targets r =
    ((r ≡ blames_none Fault.Definition) × (length targets ≡ length i.definitions.now → ⊥))
    ⊎ ((length targets ≡ length i.definitions.now) × IsFirstBlamed (IsTarget i.labels.now) 0 targets Fault.Definition r)

-- An input, whatever its contents: its options, its document and its labels.

pub record IsReady (options_known : Type 0) (i : Input) : Type 0 where
  pub options : options_known
  pub document : IsDocument i.bytes.now
  pub labels : AreLabels i

-- in this order
abbrev pub IsInputRefused : Type 0 → Input → Refusal → Type 0
IsInputRefused options_known i r =
    ((r ≡ blames_none Fault.UnknownOption) × (options_known → ⊥))
    ⊎ (options_known × (IsDocumentRefused i.bytes.now r
    ⊎ (IsDocument i.bytes.now × AreLabelsRefused i r)))

-- of the options of strings
abbrev pub AreOptionsRefused : (options string_options : ℕ) → Refusal → Type 0
AreOptionsRefused options string_options r = (r ≡ blames_none Fault.UnknownOption) × (AreStringOptions options string_options → ⊥)

-- the options of an input and those of HTML, and the reserved words
abbrev pub AreAllKnown : Input → List FlatTarget → List FlatContent → ℕ → Type 0
AreAllKnown i targets contents options = AreTextsOptions i contents × AreKnownForHtml options targets

-- an input with targets, that is to be written as HTML
pub record IsReadyForHtml (i : Input) (targets : List FlatTarget) (contents : List FlatContent) (options : ℕ) : Type 0 where
  pub input : IsReady (AreAllKnown i targets contents options) i
  pub each_target : AreTargets i targets

abbrev pub IsHtmlInputRefused : Input → List FlatTarget → List FlatContent → ℕ → Refusal → Type 0
IsHtmlInputRefused i targets contents options r =
    IsInputRefused (AreAllKnown i targets contents options) i r
    ⊎ (IsReady (AreAllKnown i targets contents options) i × AreTargetsRefused i targets r)
