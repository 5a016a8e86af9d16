-- What calls for many contents or strings leave.
use Rattle.std.specs.Prelude.{ℕ, List, Result, length, map}
use Rattle.std.specs.List.{All}
use Rattle.markdown_event.specs.declared.event.Event.{Event}
use Rattle.markdown_model.specs.Setting.{Setting}
use Rattle.markdown_inline_c.specs.FlatHtml.{limit_in, page}
use Rattle.markdown_inline_c.specs.FlatHtmls.{AreWritable, IsHtmlFaultAt, htmls_of, tree_at}
use Rattle.markdown_inline_c.specs.FlatStrings.{AreStringOptions, IsStringAt, string_text, writing_by}
use Rattle.markdown_inline_c.specs.FlatTexts.{AreTextsOptions, IsTextAt, many_setting, text_in}
use Rattle.markdown_inline_c.specs.Many.{EndsByInput, IsAnswerOfMany}
use Rattle.markdown_inline_c.specs.Refusals.{AreOptionsRefused, IsHtmlInputRefused, IsInputRefused, IsReady, IsReadyForHtml}
use Rattle.markdown_inline_c.specs.Statuses.{IsContentAtFault, IsStringAtFault}
use Rattle.markdown_inline_c.specs.declared.flat.FlatContent.{FlatContent}
use Rattle.markdown_inline_c.specs.declared.flat.FlatTarget.{FlatTarget}
use Rattle.markdown_inline_c.specs.declared.flat.Input.{Input}
use Rattle.markdown_inline_c.specs.declared.flat.Range.{Range}
use Rattle.markdown_inline_c.specs.declared.outcome.Outcome.{Outcome}
use Rattle.markdown_inline_c.specs.declared.refusal.Refusal.{Refusal}

-- the events of each content, in a form
abbrev pub texts_of : {X : Type 0} → (Setting → List Event → List X) → Input → List FlatContent → List (List X)
texts_of form i contents = map (text_in form (many_setting i) i.pieces.now) contents

-- so many contents are read as texts, and then the call ends so
abbrev pub EndTexts : {T : Type 0} → Input → List FlatContent → Result T Refusal → ℕ → Type 0
EndTexts i contents end read =
    EndsByInput (IsReady (AreTextsOptions i contents) i) (IsInputRefused (AreTextsOptions i contents) i)
    (All (IsTextAt i.bytes.now i.pieces.now)) (λ before. IsContentAtFault i.bytes.now i.pieces.now) contents read end

abbrev pub AreTexts : {X : Type 0} → (Setting → List Event → List X) → Input → List FlatContent → (old new : List X) (ends_old ends_new : List ℕ) → Outcome → ℕ → Type 0
AreTexts form i contents = IsAnswerOfMany (length contents) (texts_of form i contents) (EndTexts i contents)

-- so many contents are written as HTML, and then the call ends so
abbrev pub EndHtmls : {T : Type 0} → Input → List FlatTarget → List FlatContent → (options limit : ℕ) → Result T Refusal → ℕ → Type 0
EndHtmls i targets contents options limit end read =
    let p = page i targets options in
    let tree = tree_at (many_setting i) i.pieces.now in
    let most = limit_in limit (length i.bytes.now) in
    EndsByInput (IsReadyForHtml i targets contents options) (IsHtmlInputRefused i targets contents options)
    (AreWritable p i.pieces.now tree most) (IsHtmlFaultAt p i.pieces.now tree most) contents read end

-- the HTML of each content
abbrev pub AreHtmls : Input → List FlatTarget → List FlatContent → (options limit : ℕ) (old new ends_old ends_new : List ℕ) → Outcome → ℕ → Type 0
AreHtmls i targets contents options limit = IsAnswerOfMany (length contents) (htmls_of i targets contents options) (EndHtmls i targets contents options limit)

-- the text of each string, by the options
abbrev pub strings_of : (options string_options : ℕ) → List ℕ → (parts strings : List Range) → List (List ℕ)
strings_of options string_options bytes parts strings = map (string_text (writing_by options string_options) bytes parts) strings

-- so many strings are read, and then the call ends so
abbrev pub EndStrings : {T : Type 0} → (options string_options : ℕ) → List ℕ → (parts strings : List Range) → Result T Refusal → ℕ → Type 0
EndStrings options string_options bytes parts strings end read =
    EndsByInput (AreStringOptions options string_options) (AreOptionsRefused options string_options)
    (All (IsStringAt bytes parts)) (λ before. IsStringAtFault bytes parts) strings read end

abbrev pub AreStrings : (options string_options : ℕ) → List ℕ → (parts strings : List Range) (old new ends_old ends_new : List ℕ) → Outcome → ℕ → Type 0
AreStrings options string_options bytes parts strings =
    IsAnswerOfMany (length strings) (strings_of options string_options bytes parts strings) (EndStrings options string_options bytes parts strings)
