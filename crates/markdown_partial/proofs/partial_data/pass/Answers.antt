-- A line ending is taken whole; before another code a stretch is entered, and the code passed.
use Rattle.std.proofs.Common.{◌≡◌, ℕ, Option, Some, refl, sym, ap, subst, ◌∙◌}
use Rattle.std.specs.Prelude.{IsSome}
use Rattle.std.proofs.lemmas.Bool.{eq-eqb, ne_eqb}
use Rattle.markdown_content.specs.Place.{code_at}
use Rattle.markdown_event.specs.declared.event.Name.TheVariants as N
use Rattle.markdown_engine.specs.Operations.{Enter, Consume, HasCode, applied, current_of}
use Rattle.markdown_engine.specs.StateRuns.{stepped}
use Rattle.markdown_event.specs.declared.state.State.TheVariants.{Next}
use Rattle.markdown_event.specs.declared.state.StateName.TheVariants.{DataAtBreak, DataInside}
use Rattle.markdown_engine.specs.declared.tokenizer.Tokenizer.{Tokenizer}
use Rattle.markdown_engine.proofs.OperationFields.{cursor-applied}
use Rattle.markdown_model.proofs.GrammarSteps.{if-true, if-false}
use Rattle.markdown_partial.proofs.partial_data.pass.Goals as goal

entered-code : (T U : Tokenizer) (v : ℕ) → current_of T ≡ Some v → U ≡ applied (Enter N.Data) T → HasCode U
entered-code T U v here entered =
    subst (λ (q : Option ℕ). IsSome q) (sym (ap current_of entered ∙ ap code_at (cursor-applied (Enter N.Data) T) ∙ here)) refl

pub consume-requires : goal.consume-requires
consume-requires c = entered-code c.args.tokenizer.now c.enter.new.self c.args.byte c.requires c.in_ok-enter.ensures.ok

pub returns-in_ok-take : goal.returns-in_ok-take
returns-in_ok-take c =
    (if-true _ _ _ (eq-eqb c.args.byte 10 c.if-byte-eq10.true) ∙ ap (λ X. stepped (Next DataAtBreak) X) (sym c.in_ok-take.ensures.ok), tt)

pub returns-in_ok-enter : goal.returns-in_ok-enter
returns-in_ok-enter c = (
  if-false _ _ _ (ne_eqb c.args.byte 10 c.if-byte-eq10.false)
      ∙ ap (λ X. stepped (Next DataInside) X) (ap (λ X. applied Consume X) (sym c.in_ok-enter.ensures.ok) ∙ sym c.consume.ensures),
  tt,
)
