-- The laws of the states of a string.
use Rattle.std.proofs.Common.{◌≡◌, ℕ, ◌*◌, ◌<◌, ◌==◌, Bool, true, false, Option, Some, None, [], refl, ap, ◌∙◌, arith}
use Rattle.std.specs.Str.{byte}
use Rattle.std.specs.List.{list_any}
use Rattle.markdown_content.specs.ListFunctions.{rest_of}
use Rattle.markdown_engine.specs.Operations.{ahead, current_of, registered, scratched}
use Rattle.markdown_engine.specs.StateRuns.{Stepped}
use Rattle.markdown_engine.specs.StateWords.{StateWords, Words, GoesIn, Law}
use Rattle.markdown_engine.specs.Weights.{codes_left, weight_at}
use Rattle.markdown_event.specs.declared.resolve.ResolveName.TheVariants as R
use Rattle.markdown_event.specs.declared.state.State.TheVariants.{Next, Retry, Nok}
use Rattle.markdown_event.specs.declared.state.StateName.{StateName}
use Rattle.markdown_event.specs.declared.state.StateName.TheVariants as H
use Rattle.markdown_event.specs.declared.state.StateName.TheVariants.{CharacterEscapeStart, CharacterReferenceStart, DataStart, StringBefore, StringBeforeData}
use Rattle.markdown_engine.specs.declared.tokenizer.Tokenizer.{Tokenizer}
use Rattle.markdown_engine.proofs.ReadingSequences.{scratched-same}
use Rattle.markdown_engine.proofs.LawSteps.{code-step, restored-fails}
use Rattle.markdown_engine.proofs.OperationFields.{BeginsWithValue, ahead-some, attempts-registered, attempts-scratched, left-scratched}
use Rattle.markdown_plan.specs.LayerEquation.{EqualsLayer, AreLawful}
use Rattle.markdown_plan.proofs.LawStepsOfLayer.{FollowsIn, Goes-plain, Goes-end, Goes-attempt, follows}
use Rattle.markdown_leaf.specs.CharacterEscape as CharacterEscape
use Rattle.markdown_leaf.specs.CharacterEscape.{escape_here}
use Rattle.markdown_leaf.specs.CharacterReference as CharacterReference
use Rattle.markdown_leaf.specs.CharacterReference.{reference_here, references_here}
use Rattle.markdown_partial.specs.PartialData as PartialData
use Rattle.markdown_run_text.specs.StringContent.{states, is_on, string_tries, string_markers, string_marked, string_passed, tries_at, StringStartReady, StringBeforeReady, before_ends, start_words, before_words, before_data_words}
use Rattle.markdown_run_text.specs.TryTable.{said_at}
use Rattle.markdown_run_text.proofs.TryTableLemmas.{by-row, none-of}
use Rattle.markdown_run_text.proofs.ElementSteps.{finishes-end}
use Rattle.markdown_run_text.proofs.StringElements.{no-backslash, no-ampersand}
use Rattle.markdown_run_text.proofs.TextElements.{data-holds}
use Rattle.markdown_partial.specs.PartialData.{stops_of}
use Rattle.markdown_run_text.proofs.TextSteps.{some-none}
use Rattle.markdown_run_text.proofs.StringSteps.{PassesElements, passes-ready, passes-ends, escape-past, reference-past, data-past}

-- the starts of what is tried, as they are said, and any other as it is given
abbrev pub called : (StateName → StateWords) → StateName → StateWords
called other CharacterReferenceStart = CharacterReference.start_words
called other CharacterEscapeStart = CharacterEscape.start_words
called other DataStart = PartialData.start_words
called other s = other s

-- these states, and those that they try
abbrev pub states_and_called : (StateName → StateWords) → StateName → StateWords
states_and_called other s = states (called other) s

at-end : (T : Tokenizer) → current_of T ≡ None → (ok : Bool) (U : Tokenizer) → (ok ≡ true) × (U ≡ string_passed T) →
    before_ends T ok U
at-end T e h U k = grind (arith, finishes-end)

no-escape : (T : Tokenizer) (v : ℕ) → current_of T ≡ Some v → v == byte "\\" ≡ false → escape_here T (ahead T) ≡ None
no-escape T v e h =
    let b : BeginsWithValue v (ahead T) = ahead-some T v e in
    ap (escape_here T) b.whole ∙ no-backslash (is_on T).character_escape b.code (rest_of (ahead T)) (ap (λ x. x == byte "\\") b.value ∙ h)

no-reference : (T : Tokenizer) (v : ℕ) → current_of T ≡ Some v → v == byte "&" ≡ false →
    reference_here T (ahead T) ≡ None
no-reference T v e h =
    let b : BeginsWithValue v (ahead T) = ahead-some T v e in
    ap (reference_here T) b.whole ∙ no-ampersand (references_here T) (is_on T).character_reference b.code (rest_of (ahead T)) (ap (λ x. x == byte "&") b.value ∙ h)

passed-attempts : (T : Tokenizer) → T.attempts ≡ [] → (string_passed T).attempts ≡ []
passed-attempts T alone = attempts-registered R.String (registered R.Data T) ∙ attempts-registered R.Data T ∙ alone

marked-ready : (T : Tokenizer) → StringStartReady T → StringBeforeReady (string_marked T)
unfolding scratched
marked-ready T r = grind arith

module _ (W : Words) (within : EqualsLayer states_and_called W) where
  -- past an element the run goes on before the next
  on-before : (n : ℕ) (T U : Tokenizer) → codes_left T * 256 < n → StringBeforeReady T → PassesElements T U →
      FollowsIn W n (before_ends T) (Next StringBefore) U
  on-before n T U room marked p =
      let less : codes_left U < codes_left T = p.less in
      follows W n (before_ends T) (Next StringBefore) (within StringBefore) U (passes-ready T U p marked) (omega (arith, less)) (λ ok V h. passes-ends T U p ok V h)

  module _ (T : Tokenizer) (alone : T.attempts ≡ []) (marked : StringBeforeReady T) where
    abbrev Before : Stepped → Type 0
    Before r = GoesIn W (weight_at 6 T) (before_ends T) r

    to-data : (v : ℕ) → current_of T ≡ Some v → escape_here T (ahead T) ≡ None → reference_here T (ahead T) ≡ None →
        FollowsIn W (weight_at 6 T) (before_ends T) (Next StringBeforeData) T
    to-data v e none plain_code =
        follows W (weight_at 6 T) (before_ends T) (Next StringBeforeData) (within StringBeforeData) T
        (record { before = marked; some_code = some-none (current_of T) v e; no_escape = none; no_reference = plain_code })
        (omega arith) (λ ok V h. h)

    tries-escape : current_of T ≡ Some (byte "\\") → Before (tries_at (Some CharacterEscapeStart) T)
    tries-escape e = grind (arith, Goes-attempt W (weight_at 6 T) (before_ends T), on-before (weight_at 6 T) T, escape-past T, restored-fails false (Next StringBefore) (Next StringBeforeData) T.tokenize_state T, scratched-same T, to-data (byte "\\"), no-reference T (byte "\\"))

    tries-reference : current_of T ≡ Some (byte "&") → Before (tries_at (Some CharacterReferenceStart) T)
    tries-reference e =
        Goes-attempt W (weight_at 6 T) (before_ends T) (Retry CharacterReferenceStart) (within CharacterReferenceStart) (Next StringBefore) (Next StringBeforeData) T alone marked.rest (omega arith)
        (λ U now k. on-before (weight_at 6 T) T U (omega arith) marked (reference-past T U (no-escape T (byte "&") e refl) k))
        (λ U now k. let r : CharacterReference.start_ends T false U = k in
        rw (restored-fails false (Next StringBefore) (Next StringBeforeData) T.tokenize_state T U r.fails, scratched-same T) (to-data (byte "&") e (no-escape T (byte "&") e refl) r.refused))

    tries-none : (v : ℕ) → current_of T ≡ Some v → list_any (λ n. v == n) string_markers ≡ false →
        Before (tries_at None T)
    tries-none v e h =
        Goes-plain W (weight_at 6 T) (before_ends T) (Retry StringBeforeData) (within StringBeforeData) T alone
        (record { before = marked; some_code = some-none (current_of T) v e; no_escape = no-escape T v e (none-of string_markers v (byte "\\") h refl); no_reference = no-reference T v e (none-of string_markers v (byte "&") h refl) })
        (omega arith) (λ ok V k. k)

    tries : (v : ℕ) → current_of T ≡ Some v → Before (tries_at (said_at string_tries v) T)
    tries v = by-row (λ (n : ℕ) (o : Option StateName). current_of T ≡ Some n → Before (tries_at o T)) string_tries v ((tries-reference, tt), ((tries-escape, tt), tt)) (λ h e. tries-none v e h)

  pub before-law : Law W before_words
  before-law T alone marked = grind (arith, code-step (GoesIn W (weight_at 6 T) (before_ends T)) (current_of T), Goes-end W (weight_at 6 T) (before_ends T) true, passed-attempts T, at-end T, tries T)

  pub before_data-law : Law W before_data_words
  before_data-law T alone r =
      Goes-attempt W (weight_at 5 T) (before_ends T) (Retry DataStart) (within DataStart) (Next StringBefore) Nok T alone tt (omega arith)
      (λ U now k. on-before (weight_at 5 T) T U (omega arith) r.before (data-past T U r.before.marked r.some_code r.no_escape r.no_reference k))
      (λ U now k. absurd (data-holds (stops_of T.tokenize_state) (ahead T) k.refused))

  pub start-law : Law W start_words
  start-law T alone rest =
      let M : Tokenizer = string_marked T in
      Goes-plain W (weight_at 7 T) (before_ends M) (Retry StringBefore) (within StringBefore) M (attempts-scratched _ T ∙ alone) (marked-ready T rest)
      (omega (arith, left-scratched (record T.tokenize_state { markers = string_markers }) T)) (λ ok U k. k)

-- of these states, and of any other as it is given
pub laws : (W : Words) → EqualsLayer states_and_called W → (t : StateName → StateWords) → AreLawful W t →
    AreLawful W (states t)
laws W within t other H.StringStart = start-law W within
laws W within t other H.StringBefore = before-law W within
laws W within t other H.StringBeforeData = before_data-law W within
laws W within t other s = other s
