-- The code is passed, and the mark is noted then.
use Rattle.std.proofs.Common.{◌≡◌, ℕ, Option, [], ◌∷◌, sym, ap, ◌∙◌}
use Rattle.markdown_engine.specs.Operations.{Consume, current_of, done, scratched}
use Rattle.markdown_engine.specs.StateRuns.{stepped}
use Rattle.markdown_event.specs.declared.state.State.TheVariants.{Next}
use Rattle.markdown_event.specs.declared.state.StateName.{StateName}
use Rattle.markdown_engine.specs.declared.tokenizer.TokenizeState.{TokenizeState}
use Rattle.markdown_engine.specs.declared.tokenizer.Tokenizer.{Tokenizer}
use Rattle.markdown_engine.proofs.OperationFields.{scratch-applied}
use Rattle.markdown_leaf_gfm.specs.GfmAutolinkLiteral.{marked, domain_on, domain_punctuation_step}
use Rattle.markdown_leaf_gfm.proofs.gfm_autolink_literal.domain_at_punctuation.Goals as goal

noted : (T V : Tokenizer) (code : Option ℕ) (s : TokenizeState) (n : StateName) → code ≡ current_of T → V ≡ done (Consume ∷ []) T →
    s ≡ marked code V.tokenize_state → n ≡ domain_on (scratched s V) → domain_punctuation_step T ≡ stepped (Next n) (scratched s V)
noted T V code s n at passed mark on =
    let kept : V.tokenize_state ≡ T.tokenize_state = ap (λ (X : Tokenizer). X.tokenize_state) passed ∙ scratch-applied Consume T in
    let fields : s ≡ marked (current_of T) T.tokenize_state = mark ∙ ap (λ q. marked q V.tokenize_state) at ∙ ap (marked (current_of T)) kept in
    let whole : scratched s V ≡ scratched (marked (current_of T) T.tokenize_state) (done (Consume ∷ []) T) = ap (λ x. scratched x V) fields ∙ ap (scratched _) passed in
    ap (λ X. stepped (Next (domain_on X)) X) (sym whole) ∙ ap (λ m. stepped (Next m) (scratched s V)) (sym on)

pub returns-clause-ok : goal.returns-clause-ok
unfolding scratched
returns-clause-ok c =
    noted c.args.tokenizer.now c.consume.new.self c.current-code.result c.mark.new.scratch c.domain_on.result c.current-code.ensures c.consume.ensures c.mark.ensures c.domain_on.ensures
