-- The states of a span: when the next one may be called, and what its end says.
use Rattle.std.proofs.Common.{◌≡◌, ℕ, ◌+◌, ◌<◌, ◌≤◌, ◌==◌, Bool, false, List, [], ◌∷◌, length, refl, sym, ap, subst, ◌∙◌, arith}
use Rattle.std.proofs.lemmas.Grind.{common_steps}
use Rattle.markdown_engine.specs.Operations.{Op, Enter, Exit, Consume, ahead, applied, done, scratched, moves}
use Rattle.markdown_engine.specs.Weights.{codes_left}
use Rattle.markdown_event.specs.declared.event.Name.{Name}
use Rattle.markdown_event.specs.declared.event.Name.TheVariants as N
use Rattle.markdown_engine.specs.declared.tokenizer.TokenizeState.{TokenizeState}
use Rattle.markdown_engine.specs.declared.tokenizer.Tokenizer.{Tokenizer}
use Rattle.markdown_engine.proofs.OperationFields.{left-scratched}
use Rattle.markdown_engine.proofs.OperationLemmas.{left-done}
use Rattle.markdown_model.specs.LeafConstructs.{SpanNames}
use Rattle.markdown_plan.proofs.OpenEvents.{second-open}
use Rattle.markdown_plan.proofs.LateNameSteps.{renamed-entered, renamed-consumed, renamed-scratched}
use Rattle.markdown_plan.specs.Plan.{DoesAs}
use Rattle.markdown_leaf.specs.RawText.{begun, rested, RawTextStartReady, SequenceOpenReady, BetweenReady, DataReady, SequenceCloseReady, single_dollar, opening_plan, sequence_open_ends}
use Rattle.markdown_plan.specs.ScratchFields.{with_size, with_size_b, Fits}
use Rattle.markdown_plan.specs.LateNames.{renamed}

-- fewer codes are left
fits-after : (n k : ℕ) (os : List Op) (r : TokenizeState) (X T : Tokenizer) → codes_left X ≡ codes_left T →
    moves os ≤ length (ahead X) → n ≤ k + moves os → Fits k T → Fits n (scratched r (done os X))
fits-after n k os r X T same within less f =
    omega (arith, left-done os X within, left-scratched r (done os X), same, less, f)

pub some-event : (T : Tokenizer) (m : Name) → 0 < length (applied (Enter m) T).events
unfolding applied
some-event T m = grind (arith, common_steps)

pub start-opened : (m : ℕ) (names : SpanNames) (T : Tokenizer) → (m == 10) ≡ false → RawTextStartReady T →
    SequenceOpenReady (scratched (begun m names T.tokenize_state) (done (Enter names.whole ∷ Enter names.sequence ∷ []) T))
unfolding scratched applied
start-opened m names T h k =
    record { marker = h; stand_open = refl; uncounted = ap (λ (s : TokenizeState). s.size_b) k.rest; fits = fits-after T.tokenize_state.size 0 (Enter names.whole ∷ Enter names.sequence ∷ []) (begun m names T.tokenize_state) T T refl (omega arith) (omega (arith, ap (λ (s : TokenizeState). s.size) k.rest)) k.fits }

pub opened-more : (T : Tokenizer) → 1 ≤ length (ahead T) → SequenceOpenReady T →
    SequenceOpenReady (scratched (with_size (T.tokenize_state.size + 1) T.tokenize_state) (done (Consume ∷ []) T))
unfolding scratched applied
opened-more T within k =
    record { marker = k.marker; stand_open = k.stand_open; uncounted = k.uncounted; fits = fits-after (T.tokenize_state.size + 1) T.tokenize_state.size (Consume ∷ []) (with_size (T.tokenize_state.size + 1) T.tokenize_state) T T refl within (omega arith) k.fits }

pub opened-between : (T : Tokenizer) → SequenceOpenReady T → BetweenReady (done (Exit T.tokenize_state.token_2 ∷ []) T)
unfolding applied
opened-between T k =
    record { marker = k.marker; stand_open = second-open T.stack T.tokenize_state.token_2 T.tokenize_state.token_1 k.stand_open; uncounted = k.uncounted; fits = omega (arith, k.fits) }

pub between-ending : (T : Tokenizer) → 1 ≤ length (ahead T) → BetweenReady T →
    BetweenReady (done (Enter N.LineEnding ∷ Consume ∷ Exit N.LineEnding ∷ []) T)
unfolding applied
between-ending T within k =
    record { marker = k.marker; stand_open = k.stand_open; uncounted = k.uncounted; fits = omega (arith, left-done (Enter N.LineEnding ∷ Consume ∷ Exit N.LineEnding ∷ []) T within, k.fits) }

pub between-data : (T : Tokenizer) → BetweenReady T → DataReady (done (Enter T.tokenize_state.token_3 ∷ []) T)
unfolding applied
between-data T k =
    record { marker = k.marker; stand_open = ap (λ ns. T.tokenize_state.token_3 ∷ ns) k.stand_open; uncounted = k.uncounted; fits = k.fits }

pub between-run : (T : Tokenizer) → BetweenReady T → SequenceCloseReady (done (Enter T.tokenize_state.token_2 ∷ []) T)
unfolding applied
between-run T k =
    let n : Name = T.tokenize_state.token_2 in
    record {
      marker = k.marker;
      stand_open = ap (λ ns. n ∷ ns) k.stand_open;
      some = some-event T n;
      entered = renamed-entered n n T;
      fits = omega (arith, k.fits, k.uncounted);
    }

pub data-next : (T : Tokenizer) → 1 ≤ length (ahead T) → DataReady T → DataReady (done (Consume ∷ []) T)
unfolding applied
data-next T within k =
    record { marker = k.marker; stand_open = k.stand_open; uncounted = k.uncounted; fits = omega (arith, left-done (Consume ∷ []) T within, k.fits) }

pub data-between : (T : Tokenizer) → DataReady T → BetweenReady (done (Exit T.tokenize_state.token_3 ∷ []) T)
unfolding applied
data-between T k =
    record { marker = k.marker; stand_open = second-open T.stack T.tokenize_state.token_3 T.tokenize_state.token_1 k.stand_open; uncounted = k.uncounted; fits = k.fits }

pub run-next : (T : Tokenizer) → 1 ≤ length (ahead T) → SequenceCloseReady T →
    SequenceCloseReady (scratched (with_size_b (T.tokenize_state.size_b + 1) T.tokenize_state) (done (Consume ∷ []) T))
unfolding scratched applied
run-next T within k =
    let n : Name = T.tokenize_state.token_2 in
    let r : TokenizeState = with_size_b (T.tokenize_state.size_b + 1) T.tokenize_state in
    record {
      marker = k.marker;
      stand_open = k.stand_open;
      some = k.some;
      entered = renamed-scratched n r (applied Consume T) ∙ ap (λ (x : Tokenizer). scratched r x) (renamed-consumed n T ∙ ap (λ (x : Tokenizer). applied Consume x) k.entered);
      fits = fits-after (T.tokenize_state.size_b + 1) T.tokenize_state.size_b (Consume ∷ []) r T T refl within (omega arith) k.fits;
    }

pub run-between : (T : Tokenizer) → SequenceCloseReady T →
    BetweenReady (scratched (with_size_b 0 T.tokenize_state) (done (Exit T.tokenize_state.token_3 ∷ []) (renamed T.tokenize_state.token_3 T)))
unfolding scratched applied renamed
run-between T k =
    record { marker = k.marker; stand_open = second-open T.stack T.tokenize_state.token_2 T.tokenize_state.token_1 k.stand_open; uncounted = refl; fits = omega (arith, k.fits) }

-- what the opening run's end says, before its first marker
pub opening-says : (m : ℕ) (names : SpanNames) (T : Tokenizer) (ok : Bool) (U : Tokenizer) →
    T.tokenize_state ≡ rested T.tokenize_state →
    sequence_open_ends (scratched (begun m names T.tokenize_state) (done (Enter names.whole ∷ Enter names.sequence ∷ []) T)) ok U →
    DoesAs 2 (opening_plan (single_dollar T) m names 0) T.tokenize_state (scratched (begun m names T.tokenize_state) (done (Enter names.whole ∷ Enter names.sequence ∷ []) T)) ok U
unfolding scratched applied
opening-says m names T ok U e x =
    let V : Tokenizer = scratched (begun m names T.tokenize_state) (done (Enter names.whole ∷ Enter names.sequence ∷ []) T) in
    subst (λ (s : TokenizeState). DoesAs 2 (opening_plan (single_dollar T) m names 0) s V ok U) (sym e)
    (subst (λ n. DoesAs 2 (opening_plan (single_dollar T) m names n) (rested T.tokenize_state) V ok U) (ap (λ (s : TokenizeState). s.size) e) x)
