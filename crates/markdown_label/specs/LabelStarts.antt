-- What the states of the starts of labels do, and how runs from them end.
use Rattle.std.specs.Prelude.{◌≡◌, ◌≤◌, ℕ, ◌-◌, Bool, true, false, ◌==◌, ◌&&◌, not, if◌then◌else◌, List, [], ◌∷◌, ◌++◌, length, Option, Some, None}
use Rattle.std.specs.Str.{byte}
use Rattle.markdown_content.specs.Codes.{Code}
use Rattle.markdown_engine.specs.FailedRun.{Grown}
use Rattle.markdown_content.specs.ListFunctions.{rest_of}
use Rattle.markdown_engine.specs.Operations.{Op, Enter, Exit, Consume, IsOpen, ahead, current_of, done, registered_before, scratched}
use Rattle.markdown_engine.specs.StateRuns.{Stepped, stepped}
use Rattle.markdown_engine.specs.StateWords.{StateWords}
use Rattle.markdown_event.specs.declared.event.Name.TheVariants as N
use Rattle.markdown_event.specs.declared.resolve.ResolveName.TheVariants as R
use Rattle.markdown_event.specs.declared.state.State.TheVariants.{Next, Ok, Nok}
use Rattle.markdown_event.specs.declared.state.StateName.{StateName}
use Rattle.markdown_event.specs.declared.state.StateName.TheVariants.{GfmLabelStartFootnoteStart, LabelStartImageStart, LabelStartLinkStart, GfmLabelStartFootnoteOpen, LabelStartImageOpen, LabelStartImageAfter}
use Rattle.markdown_content.specs.declared.label_kind.LabelKind.{LabelKind}
use Rattle.markdown_engine.specs.declared.tokenizer.Tokenizer.{Tokenizer}
use Rattle.markdown_model.specs.CodeTests.{is_value, next_is}
use Rattle.markdown_label.specs.LabelFields.{begun}

-- a start is kept whose last events these are, so many
abbrev pub kept_start : LabelKind → ℕ → Tokenizer → Tokenizer
kept_start kind size T = registered_before R.Label (scratched (begun kind (length T.events - size) (length T.events - 1) T.tokenize_state) T)

-- Links.

abbrev pub link_ops : List Op
link_ops = Enter N.LabelLink ∷ Enter N.LabelMarker ∷ Consume ∷ Exit N.LabelMarker ∷ Exit N.LabelLink ∷ []

abbrev pub links_on : Tokenizer → Bool
links_on T = T.parse_state.now.options.now.constructs.label_start_link

abbrev pub link_at : Option ℕ → Tokenizer → Stepped
link_at None T = stepped Nok T
link_at (Some c) T = if links_on T && (c == byte "[") then stepped Ok (kept_start LabelKind.Link 4 (done link_ops T)) else stepped Nok T

abbrev pub link_step : Tokenizer → Stepped
link_step T = link_at (current_of T) T

-- Footnote calls.

abbrev pub footnote_front : List Op
footnote_front = Enter N.GfmFootnoteCallLabel ∷ Enter N.LabelMarker ∷ Consume ∷ Exit N.LabelMarker ∷ []

abbrev pub footnote_back : List Op
footnote_back = Enter N.GfmFootnoteCallMarker ∷ Consume ∷ Exit N.GfmFootnoteCallMarker ∷ Exit N.GfmFootnoteCallLabel ∷ []

abbrev pub footnotes_on : Tokenizer → Bool
footnotes_on T = T.parse_state.now.options.now.constructs.gfm_label_start_footnote

abbrev pub footnote_at : Option ℕ → Tokenizer → Stepped
footnote_at None T = stepped Nok T
footnote_at (Some c) T = if footnotes_on T && (c == byte "[") then stepped (Next GfmLabelStartFootnoteOpen) (done footnote_front T) else stepped Nok T

abbrev pub footnote_step : Tokenizer → Stepped
footnote_step T = footnote_at (current_of T) T

abbrev pub footnote_open_at : Option ℕ → Tokenizer → Stepped
footnote_open_at None T = stepped Nok T
footnote_open_at (Some c) T = if c == byte "^" then stepped Ok (kept_start LabelKind.GfmFootnote 6 (done footnote_back T)) else stepped Nok T

abbrev pub footnote_open_step : Tokenizer → Stepped
footnote_open_step T = footnote_open_at (current_of T) T

-- Images.

abbrev pub image_front : List Op
image_front = Enter N.LabelImage ∷ Enter N.LabelImageMarker ∷ Consume ∷ Exit N.LabelImageMarker ∷ []

abbrev pub image_back : List Op
image_back = Enter N.LabelMarker ∷ Consume ∷ Exit N.LabelMarker ∷ Exit N.LabelImage ∷ []

abbrev pub images_on : Tokenizer → Bool
images_on T = T.parse_state.now.options.now.constructs.label_start_image

abbrev pub image_at : Option ℕ → Tokenizer → Stepped
image_at None T = stepped Nok T
image_at (Some c) T = if images_on T && (c == byte "!") then stepped (Next LabelStartImageOpen) (done image_front T) else stepped Nok T

abbrev pub image_step : Tokenizer → Stepped
image_step T = image_at (current_of T) T

abbrev pub image_open_at : Option ℕ → Tokenizer → Stepped
image_open_at None T = stepped Nok T
image_open_at (Some c) T = if c == byte "[" then stepped (Next LabelStartImageAfter) (done image_back T) else stepped Nok T

abbrev pub image_open_step : Tokenizer → Stepped
image_open_step T = image_open_at (current_of T) T

-- a caret makes it a footnote's, behind a `!` that is data
abbrev pub is_caret : Option ℕ → Bool
is_caret None = false
is_caret (Some c) = c == byte "^"

abbrev pub image_after_step : Tokenizer → Stepped
image_after_step T = if footnotes_on T && is_caret (current_of T) then stepped Nok T else stepped Ok (kept_start LabelKind.Image 6 T)

-- When they may be called.

-- the front of a call's start is there, and its whole is open
pub record FootnoteOpenReady (T : Tokenizer) : Type 0 where
  pub whole : IsOpen N.GfmFootnoteCallLabel T
  pub begun : 3 ≤ length T.events

-- the front of an image's start is there, and its whole is open
pub record ImageOpenReady (T : Tokenizer) : Type 0 where
  pub whole : IsOpen N.LabelImage T
  pub begun : 3 ≤ length T.events

-- the start's six events are there
abbrev pub ImageAfterReady : Tokenizer → Type 0
ImageAfterReady T = 6 ≤ length T.events

-- How runs end.

-- a start of this kind is made, if the codes pass the test
pub record MakesStart (kind : LabelKind) (size : ℕ) (ops : List Op) (test : List Code → Bool) (T U : Tokenizer) : Type 0 where
  pub holds : test (ahead T) ≡ true
  pub left : U ≡ kept_start kind size (done ops T)

pub record BeginsNot (d : ℕ) (test : List Code → Bool) (T U : Tokenizer) : Type 0 where
  pub refused : test (ahead T) ≡ false
  pub grown : Grown d T U
  pub scratch : U.tokenize_state ≡ T.tokenize_state

abbrev pub begins_as : ℕ → LabelKind → ℕ → List Op → (List Code → Bool) → Tokenizer → Bool → Tokenizer → Type 0
begins_as d kind size ops test T true U = MakesStart kind size ops test T U
begins_as d kind size ops test T false U = BeginsNot d test T U

abbrev pub link_test : Tokenizer → List Code → Bool
link_test T cs = links_on T && next_is (is_value (byte "[")) cs

abbrev pub link_ends : Tokenizer → Bool → Tokenizer → Type 0
link_ends T ok U = begins_as 0 LabelKind.Link 4 link_ops (link_test T) T ok U

abbrev pub footnote_open_test : List Code → Bool
footnote_open_test cs = next_is (is_value (byte "^")) cs

abbrev pub footnote_open_ends : Tokenizer → Bool → Tokenizer → Type 0
footnote_open_ends T ok U = begins_as 1 LabelKind.GfmFootnote 6 footnote_back footnote_open_test T ok U

abbrev pub footnote_test : Tokenizer → List Code → Bool
footnote_test T cs = (footnotes_on T && next_is (is_value (byte "[")) cs) && footnote_open_test (rest_of cs)

abbrev pub footnote_ends : Tokenizer → Bool → Tokenizer → Type 0
footnote_ends T ok U = begins_as 0 LabelKind.GfmFootnote 6 (footnote_front ++ footnote_back) (footnote_test T) T ok U

abbrev pub image_after_test : Tokenizer → List Code → Bool
image_after_test T cs = not (footnotes_on T && next_is (is_value (byte "^")) cs)

abbrev pub image_after_ends : Tokenizer → Bool → Tokenizer → Type 0
image_after_ends T ok U = begins_as 0 LabelKind.Image 6 [] (image_after_test T) T ok U

abbrev pub image_open_test : Tokenizer → List Code → Bool
image_open_test T cs = next_is (is_value (byte "[")) cs && image_after_test T (rest_of cs)

abbrev pub image_open_ends : Tokenizer → Bool → Tokenizer → Type 0
image_open_ends T ok U = begins_as 1 LabelKind.Image 6 image_back (image_open_test T) T ok U

abbrev pub image_test : Tokenizer → List Code → Bool
image_test T cs = (images_on T && next_is (is_value (byte "!")) cs) && image_open_test T (rest_of cs)

abbrev pub image_ends : Tokenizer → Bool → Tokenizer → Type 0
image_ends T ok U = begins_as 0 LabelKind.Image 6 (image_front ++ image_back) (image_test T) T ok U

-- The states.

abbrev pub link_words : StateWords
link_words = record { ready = λ T. Unit {0}; step = link_step; ends = link_ends; rank = λ T. 1 }

abbrev pub footnote_words : StateWords
footnote_words = record { ready = λ T. Unit {0}; step = footnote_step; ends = footnote_ends; rank = λ T. 2 }

abbrev pub footnote_open_words : StateWords
footnote_open_words = record { ready = FootnoteOpenReady; step = footnote_open_step; ends = footnote_open_ends; rank = λ T. 1 }

abbrev pub image_words : StateWords
image_words = record { ready = λ T. Unit {0}; step = image_step; ends = image_ends; rank = λ T. 2 }

abbrev pub image_open_words : StateWords
image_open_words = record { ready = ImageOpenReady; step = image_open_step; ends = image_open_ends; rank = λ T. 1 }

abbrev pub image_after_words : StateWords
image_after_words = record { ready = ImageAfterReady; step = image_after_step; ends = image_after_ends; rank = λ T. 1 }

-- a part of what is said of these states, and of any other as it is given
abbrev pub said {ℓ} : {A : Type ℓ} → (StateWords → A) → (StateName → A) → StateName → A
said part other GfmLabelStartFootnoteStart = part footnote_words
said part other LabelStartImageStart = part image_words
said part other LabelStartLinkStart = part link_words
said part other GfmLabelStartFootnoteOpen = part footnote_open_words
said part other LabelStartImageOpen = part image_open_words
said part other LabelStartImageAfter = part image_after_words
said part other s = other s

-- all of it
abbrev pub states : (StateName → StateWords) → StateName → StateWords
states other s = said (λ (w : StateWords). w) other s
