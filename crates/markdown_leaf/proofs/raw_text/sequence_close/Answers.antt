-- A marker is counted; behind the run what `after_run` answers holds.
use Rattle.std.proofs.Common.{◌≡◌, ◌≢◌, ℕ, ◌+◌, Some, [], ◌∷◌, sym, ap, subst, ◌∙◌, arith}
use Rattle.std.specs.Prelude.{IfOk, OnErr, IsTrue}
use Rattle.std.proofs.lemmas.Bool.{eq-eqb, ne_eqb}
use Rattle.markdown_engine.specs.Operations.{Consume, current_of, done, scratched}
use Rattle.markdown_engine.specs.StateRuns.{Stepped, stepped}
use Rattle.markdown_event.specs.declared.state.State.TheVariants.{Next}
use Rattle.markdown_event.specs.declared.state.StateName.TheVariants.{RawTextSequenceClose}
use Rattle.markdown_engine.specs.declared.tokenizer.Tokenizer.{Tokenizer}
use Rattle.markdown_engine.proofs.OperationFields.{scratch-applied}
use Rattle.markdown_model.proofs.GrammarSteps.{if-true, if-false}
use Rattle.markdown_plan.specs.ScratchFields.{with_size_b}
use Rattle.markdown_plan.proofs.RenameLemmas.{room}
use Rattle.markdown_leaf.specs.RawText.{after_run, sequence_close_at, sequence_close_step}
use Rattle.markdown_leaf.proofs.raw_text.sequence_close.Goals.{in_default-via-in-Some+else-code-tokenizer, in_default-via-in_default}
use Rattle.markdown_leaf.proofs.raw_text.sequence_close.Goals as goal

counted : (T V : Tokenizer) (v : ℕ) → current_of T ≡ Some v → v ≡ T.tokenize_state.marker → V ≡ done (Consume ∷ []) T →
    sequence_close_step T ≡ stepped (Next RawTextSequenceClose) (scratched (with_size_b (T.tokenize_state.size_b + 1) V.tokenize_state) V)
counted T V v here mark passed =
    let kept : T.tokenize_state ≡ V.tokenize_state = sym (ap (λ (X : Tokenizer). X.tokenize_state) passed ∙ scratch-applied Consume T) in
    ap (λ q. sequence_close_at q T) here ∙ if-true _ _ _ (eq-eqb v _ mark)
    ∙ ap (λ s. stepped (Next RawTextSequenceClose) (scratched (with_size_b (T.tokenize_state.size_b + 1) s) (done (Consume ∷ []) T))) kept
    ∙ ap (λ X. stepped (Next RawTextSequenceClose) (scratched (with_size_b (T.tokenize_state.size_b + 1) V.tokenize_state) X)) (sym passed)

behind : (T : Tokenizer) (v : ℕ) → current_of T ≡ Some v → v ≢ T.tokenize_state.marker → sequence_close_step T ≡ after_run T
behind T v here other = ap (λ q. sequence_close_at q T) here ∙ if-false _ _ _ (ne_eqb v _ other)

pub overflow_add-passed : goal.overflow_add-passed
overflow_add-passed c =
    omega (arith, room c.args.tokenizer.now.tokenize_state.size_b c.args.tokenizer.now c.in-Some.code (sym c.current.ensures ∙ c.in-Some.is) c.requires.fits)

pub returns-in-Some : goal.returns-in-Some
unfolding scratched
returns-in-Some c =
    (counted c.args.tokenizer.now c.consume.new.self c.in-Some.code (sym c.current.ensures ∙ c.in-Some.is) c.if-code-tokenizer.true c.consume.ensures, tt)

pub returns-in_default : goal.returns-in_default
returns-in_default c =
    let T : Tokenizer = c.args.tokenizer.now in
    let V : Tokenizer = c.after_run.new.tokenizer in
    let same : sequence_close_step T ≡ after_run T =
    elim c.in_default.branch [
      | in_default-via-in-Some+else-code-tokenizer w ↦ behind T w.in-Some.code (sym c.current.ensures ∙ w.in-Some.is) w.if-code-tokenizer.false
      | in_default-via-in_default w ↦ ap (λ q. sequence_close_at q T) (sym c.current.ensures ∙ w.in_default.is)
    ] in
    subst (λ (X : Stepped). IfOk c.after_run.result (λ s. X ≡ record { state = s; left = V }) × OnErr c.after_run.result (IsTrue V.failed)) (sym same) c.after_run.ensures
