-- A walk past events that begin no data.
use Rattle.std.proofs.Common.{◌≡◌, ℕ, zero, suc, ◌+◌, ◌<◌, ◌≤◌, false, List, [], ◌∷◌, length, get_or, refl, sym, ap, ◌∙◌, arith, inl, inr}
use Rattle.std.proofs.lemmas.Bool.{cases_lt}
use Rattle.markdown_event.specs.declared.event.Event.{Event}
use Rattle.markdown_passes.specs.MergedEvents.{opens_data}

pub event-at : (k : ℕ) (es : List Event) → k < length es → (e : Event) × (e ≡ get_or es k e)
event-at k [] l = absurd (omega (arith, l))
event-at zero (x ∷ es) l = (x, refl)
event-at (suc k) (x ∷ es) l = event-at k es (omega (arith, l))

pub event-same : (k : ℕ) (es : List Event) (e r : Event) → k < length es → r ≡ get_or es k r → get_or es k e ≡ r
event-same k [] e r l h = absurd (omega (arith, l))
event-same zero (x ∷ es) e r l h = sym h
event-same (suc k) (x ∷ es) e r l h = event-same k es e r (omega (arith, l)) h

-- no data begins from a place up to another
abbrev pub BeginsNone : List Event → ℕ → ℕ → Type 0
BeginsNone es i k = (j : ℕ) (e : Event) → i ≤ j → j < k → opens_data (get_or es j e) ≡ false

-- one event more that begins none
pub none-more : (es : List Event) (i k : ℕ) (r : Event) → k < length es → r ≡ get_or es k r → opens_data r ≡ false →
    BeginsNone es i k → BeginsNone es i (k + 1)
none-more es i k r l h o none j e low high =
    elim (cases_lt j k) [
      | inl b ↦ none j e low b
      | inr a ↦ let same : j ≡ k = omega arith in ap (λ n. opens_data (get_or es n e)) same ∙ ap opens_data (event-same k es e r l h) ∙ o
    ]

-- none up to a place, and none from there up to another
pub none-on : (es : List Event) (i k n : ℕ) → BeginsNone es i k → BeginsNone es k n → BeginsNone es i n
none-on es i k n first more j e low high =
    elim (cases_lt j k) [ inl b ↦ first j e low b | inr a ↦ more j e a high ]
