-- A walk past events that change nothing of what is read of the runs.
use Rattle.std.proofs.Common.{◌≡◌, ℕ, zero, suc, ◌+◌, ◌-◌, ◌<◌, ◌≤◌, true, false, List, ◌∷◌, ◌++◌, length, drop, get_or, refl, sym, ap, subst, ◌∙◌, arith, append-nil, inl, inr, []}
use Rattle.std.proofs.lemmas.Bool.{cases_lt}
use Rattle.std.proofs.lemmas.List.{get_or_default}
use Rattle.markdown_content.specs.declared.configuration.ParseOptions.{ParseOptions}
use Rattle.markdown_event.specs.declared.event.Event.{Event}
use Rattle.markdown_event.specs.declared.event.Name.TheVariants as N
use Rattle.markdown_attention.specs.RunsRead.{Container, is_text, opens_run, where_after, first_run}
use Rattle.markdown_attention.specs.RunSteps.{changes_reading, is_run_or_text}
use Rattle.markdown_attention.specs.declared.attention.reading.Where.{Where}
use Rattle.markdown_attention.specs.declared.attention.runs.Sequence.{Sequence}
use Rattle.markdown_attention.proofs.RunsReadLemmas.{RunsSoFar, first-event, reading-more}
use Rattle.markdown_content.specs.Codes.{Code}

pub event-at : (k : ℕ) (es : List Event) → k < length es → (e : Event) × (e ≡ get_or es k e)
event-at k [] l = absurd (omega (arith, l))
event-at zero (x ∷ es) l = (x, refl)
event-at (suc k) (x ∷ es) l = event-at k es (omega (arith, l))

-- no event from a place up to another changes what is read
abbrev pub AreOthers : List Event → ℕ → ℕ → Type 0
AreOthers es i k = (j : ℕ) (e : Event) → i ≤ j → j < k → changes_reading (get_or es j e) ≡ false

-- one event more
pub others-more : (es : List Event) (i k : ℕ) (r : Event) → k < length es → r ≡ get_or es k r → changes_reading r ≡ false →
    AreOthers es i k → AreOthers es i (k + 1)
others-more es i k r l h o none j e low high =
    elim (cases_lt j k) [
      | inl b ↦ none j e low b
      | inr a ↦ let same : j ≡ k = omega arith in ap (λ n. changes_reading (get_or es n e)) same ∙ ap changes_reading (get_or_default es k e r l ∙ sym h) ∙ o
    ]

-- up to a place, and from there up to another
pub others-on : (es : List Event) (i k n : ℕ) → AreOthers es i k → AreOthers es k n → AreOthers es i n
others-on es i k n first more j e low high =
    elim (cases_lt j k) [ inl b ↦ first j e low b | inr a ↦ more j e a high ]

no-run : (e : Event) → changes_reading e ≡ false → opens_run e ≡ false
no-run e h = grind arith

no-text : (e : Event) → changes_reading e ≡ false → is_text e.name ≡ false
no-text e h = grind arith

-- an event of another name changes nothing
pub other-name : (e : Event) → is_run_or_text e.name ≡ false → changes_reading e ≡ false
other-name e h = grind arith

-- the Enter of a run is no event of a text
pub run-no-text : (e : Event) → opens_run e ≡ true → is_text e.name ≡ false
run-no-text e h = grind arith

-- two events at one place
pub one-event : (es : List Event) (i : ℕ) (e x : Event) → i < length es → e ≡ get_or es i e → x ≡ get_or es i x → e ≡ x
one-event es i e x l h k = h ∙ get_or_default es i e x l ∙ sym k

pub first-none : (options : ParseOptions) (bytes : List ℕ) (content : List Code) (n i : ℕ) (k : Container) (e : Event) (es : List Event) → opens_run e ≡ false →
    first_run options bytes content n i k (e ∷ es) ≡ []
first-none options bytes content n i k e [] h = refl
first-none options bytes content n i k e (x ∷ es) h = rw h refl

pub where-same : (i : ℕ) (e : Event) (w : Where) → is_text e.name ≡ false → w ≡ where_after i e w
where-same i e w h = rw h refl

-- they change nothing of what is read
reading-on : (n : ℕ) (options : ParseOptions) (bytes : List ℕ) (content : List Code) (events : List Event) (i : ℕ) (list : List Sequence) (w : Where) → i + n ≤ length events
    → AreOthers events i (i + n) → RunsSoFar options bytes content events i list w → RunsSoFar options bytes content events (i + n) list w
reading-on zero options bytes content events i list w l none r =
    let same : i ≡ i + 0 = omega arith in subst (λ k. RunsSoFar options bytes content events k list w) same r
reading-on (suc n) options bytes content events i list w l none r =
    let below : i < length events = omega (arith, l) in
    let at = event-at i events below in
    let e : Event = at.0 in
    let other : changes_reading e ≡ false = ap changes_reading at.1 ∙ none i e (omega arith) (omega arith) in
    let empty : first_run options bytes content (length list) i w.container (drop i events) ≡ [] =
    ap (first_run options bytes content (length list) i w.container) (first-event events i e below at.1)
    ∙ first-none options bytes content (length list) i w.container e (drop (i + 1) events) (no-run e other) in
    let lists : list ≡ list ++ first_run options bytes content (length list) i w.container (drop i events) =
    sym (append-nil list) ∙ ap (λ xs. list ++ xs) (sym empty) in
    let next = reading-more options bytes content events i list list w w e below at.1 lists (where-same i e w (no-text e other)) r in
    let there : i + 1 + n ≡ i + suc n = omega arith in
    subst (λ k. RunsSoFar options bytes content events k list w) there (reading-on n options bytes content events (i + 1) list w (omega (arith, l)) (λ j x low high. none j x (omega (arith, low)) (omega (arith, high))) next)

pub reading-past : (options : ParseOptions) (bytes : List ℕ) (content : List Code) (events : List Event) (i k : ℕ) (list : List Sequence) (w : Where) → i ≤ k → k ≤ length events
    → AreOthers events i k → RunsSoFar options bytes content events i list w → RunsSoFar options bytes content events k list w
reading-past options bytes content events i k list w low high none r =
    let there : i + (k - i) ≡ k = omega (arith, low) in
    subst (λ m. RunsSoFar options bytes content events m list w) there (reading-on (k - i) options bytes content events i list w (omega (arith, low, high)) (λ j x first last. none j x first (omega (arith, last, low))) r)
