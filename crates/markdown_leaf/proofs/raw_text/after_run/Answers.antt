-- The two ends, from what each step leaves of the fields.
use Rattle.std.proofs.Common.{◌≡◌, ◌≢◌, sym, ap, ◌∙◌}
use Rattle.std.proofs.lemmas.Bool.{eq-eqb, ne_eqb}
use Rattle.markdown_engine.specs.Operations.{Exit, applied, scratched}
use Rattle.markdown_engine.specs.StateRuns.{stepped}
use Rattle.markdown_event.specs.declared.state.State.TheVariants.{Retry}
use Rattle.markdown_event.specs.declared.state.State.TheVariants as State
use Rattle.markdown_event.specs.declared.state.StateName.TheVariants.{RawTextBetween}
use Rattle.markdown_engine.specs.declared.tokenizer.TokenizeState.{TokenizeState}
use Rattle.markdown_engine.specs.declared.tokenizer.Tokenizer.{Tokenizer}
use Rattle.markdown_engine.proofs.OperationFields.{scratch-applied}
use Rattle.markdown_model.proofs.GrammarSteps.{if-true, if-false}
use Rattle.markdown_plan.specs.LateNames.{renamed}
use Rattle.markdown_plan.specs.ScratchFields.{with_size_b}
use Rattle.markdown_plan.proofs.RenameLemmas.{scratch-renamed}
use Rattle.markdown_leaf.specs.RawText.{after_run, rested}
use Rattle.markdown_leaf.proofs.raw_text.after_run.Goals as goal

closed : (T V U W : Tokenizer) → T.tokenize_state.size_b ≡ T.tokenize_state.size → V ≡ applied (Exit T.tokenize_state.token_2) T →
    U ≡ applied (Exit V.tokenize_state.token_1) V → W ≡ scratched (rested U.tokenize_state) U → after_run T ≡ stepped State.Ok W
closed T V U W same one two put =
    let first : V.tokenize_state ≡ T.tokenize_state = ap (λ (X : Tokenizer). X.tokenize_state) one ∙ scratch-applied _ T in
    let second : U.tokenize_state ≡ V.tokenize_state = ap (λ (X : Tokenizer). X.tokenize_state) two ∙ scratch-applied _ V in
    if-true _ _ _ (eq-eqb _ _ same)
    ∙ sym (ap (λ X. stepped State.Ok X) (put ∙ ap (λ s. scratched (rested s) U) (second ∙ first)
    ∙ ap (λ X. scratched (rested T.tokenize_state) X) (two ∙ ap (λ (s : TokenizeState). applied (Exit s.token_1) V) first ∙ ap (λ X. applied (Exit T.tokenize_state.token_1) X) one)))

other : (T R E : Tokenizer) → T.tokenize_state.size_b ≢ T.tokenize_state.size → R ≡ renamed T.tokenize_state.token_3 T →
    E ≡ applied (Exit R.tokenize_state.token_3) R → after_run T ≡ stepped (Retry RawTextBetween) (scratched (with_size_b 0 E.tokenize_state) E)
other T R E differ one two =
    let first : R.tokenize_state ≡ T.tokenize_state = ap (λ (X : Tokenizer). X.tokenize_state) one ∙ scratch-renamed _ T in
    let second : E.tokenize_state ≡ R.tokenize_state = ap (λ (X : Tokenizer). X.tokenize_state) two ∙ scratch-applied _ R in
    if-false _ _ _ (ne_eqb _ _ differ)
    ∙ sym (ap (λ X. stepped (Retry RawTextBetween) X) (ap (λ s. scratched (with_size_b 0 s) E) (second ∙ first)
    ∙ ap (λ X. scratched (with_size_b 0 T.tokenize_state) X) (two ∙ ap (λ (s : TokenizeState). applied (Exit s.token_3) R) first ∙ ap (λ X. applied (Exit T.tokenize_state.token_3) X) one)))

pub returns-in_ok-exit-2 : goal.returns-in_ok-exit-2
returns-in_ok-exit-2 c =
    (closed c.args.tokenizer.now c.exit.new.self c.exit-then-tokenizer.new.self c.rest.new.tokenizer c.if-tokenizer.true c.in_ok-exit.ensures.ok c.in_ok-exit-2.ensures.ok c.rest.ensures, tt)

pub returns-in_ok-exit-3 : goal.returns-in_ok-exit-3
unfolding scratched
returns-in_ok-exit-3 c =
    (other c.args.tokenizer.now c.rename_entered.new.tokenizer c.exit-else-tokenizer.new.self c.if-tokenizer.false c.in_ok-rename_entered.ensures.ok c.in_ok-exit-3.ensures.ok, tt)
