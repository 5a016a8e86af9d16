-- The laws of the states of a hard break by a backslash.
use Rattle.std.proofs.Common.{◌≡◌, ◌==◌, ◌&&◌, Bool, true, false, if◌then◌else◌, Some, None, List, [], ◌∷◌, refl, ap, ◌∙◌, arith}
use Rattle.std.proofs.Math.Bool.{and-false}
use Rattle.markdown_content.specs.Codes.{Code, is_line_ending}
use Rattle.markdown_content.specs.ListFunctions.{rest_of}
use Rattle.markdown_engine.specs.Operations.{current_of, ahead}
use Rattle.markdown_engine.specs.StateRuns.{Stepped}
use Rattle.markdown_engine.specs.Weights.{weight_at}
use Rattle.markdown_event.specs.declared.event.Name.TheVariants as N
use Rattle.markdown_event.specs.declared.state.State.TheVariants.{Next}
use Rattle.markdown_event.specs.declared.state.StateName.{StateName}
use Rattle.markdown_event.specs.declared.state.StateName.TheVariants as H
use Rattle.markdown_event.specs.declared.state.StateName.TheVariants.{HardBreakEscapeAfter}
use Rattle.markdown_engine.specs.declared.tokenizer.Tokenizer.{Tokenizer}
use Rattle.markdown_engine.proofs.LawSteps.{if-step, code-step}
use Rattle.markdown_engine.proofs.OperationFields.{law_rules, ahead-none, ahead-some, some-codes}
use Rattle.markdown_model.specs.CodeTests.{is_value, next_is}
use Rattle.markdown_model.specs.Grammar.{◌>>◌, provided, gives}
use Rattle.markdown_model.specs.LeafConstructs.{hard_break_escape}
use Rattle.markdown_leaf.specs.HardBreakEscape.{is_on, opening, closing, start_at, start_step, after_at, break_here, after_plan, start_ends, after_ends, states, after_words, start_words}
use Rattle.markdown_plan.specs.Plan.{Plan, preceded, tree_ops, plan_of, KeepsAs}
use Rattle.markdown_plan.proofs.PlanSteps.{EndsAs-plan}
use Rattle.markdown_model.proofs.GrammarSteps.{bind-some, bind-none, before-some, before-none, before-other, one-here, one-not, switched-on, switched-off, and-left, and-right, if-true, if-false}
use Rattle.markdown_model.proofs.PlainConstructs.{reads_switched, reads_hard_break_escape}
use Rattle.markdown_plan.proofs.SolidReadings.{ReadsSolid, plain-reads}
use Rattle.markdown_engine.specs.StateWords.{StateWords, Words, Law, GoesIn}
use Rattle.markdown_plan.proofs.LawStepsOfLayer.{GoesOn-map, Goes-next, Goes-yes, Goes-no}
use Rattle.markdown_plan.specs.LayerEquation.{EqualsLayer, AreLawful}

-- The reading, by what stands there.

break-slash : (on : Bool) (c : Code) (cs : List Code) → on ≡ true → (c.value == 92) ≡ true →
    plan_of (provided on >> hard_break_escape) (c ∷ cs) ≡ preceded opening (after_plan cs)
unfolding hard_break_escape gives
break-slash on c cs e h =
    ap tree_ops (switched-on hard_break_escape on (c ∷ cs) e)
    ∙ elim (next_is is_line_ending cs) as (λ b. next_is is_line_ending cs ≡ b → tree_ops (hard_break_escape (c ∷ cs)) ≡ preceded opening (if b then Some closing else None)) [
      | true ↦ λ k. ap tree_ops (bind-some _ _ _ _ _ _ (before-some _ _ _ _ _ (one-here (is_value 92) c cs h) k) refl)
      | false ↦ λ k. ap tree_ops (bind-none _ _ _ (before-other _ _ _ _ _ (one-here (is_value 92) c cs h) k))
    ] refl

no-break : (on : Bool) (cs : List Code) → on && next_is (is_value 92) cs ≡ false →
    plan_of (provided on >> hard_break_escape) cs ≡ None
unfolding hard_break_escape
no-break false cs e = ap tree_ops (switched-off hard_break_escape false cs refl)
no-break true cs e =
    ap tree_ops (switched-on hard_break_escape true cs refl ∙ bind-none _ _ _ (before-none _ _ _ (one-not (is_value 92) cs e)))

whole : (on : Bool) → ReadsSolid (provided on >> hard_break_escape)
whole on = plain-reads [] _ (reads_switched [] on hard_break_escape (reads_hard_break_escape []))

-- The states.

pub start-law : (W : Words) → EqualsLayer states W → Law W start_words
start-law W within T alone _ =
    let p : Plan = plan_of (break_here T) in
    let E : Bool → Tokenizer → Type 0 = KeepsAs 0 p T in
    let P : Stepped → Type 0 = GoesIn W (weight_at 2 T) E in
    GoesOn-map W (weight_at 2 T) E (start_ends T) (start_step T) (λ ok U k. EndsAs-plan (break_here T) (whole (is_on T)) T.tokenize_state T ok U k)
    (code-step P (current_of T) (λ o. start_at (is_on T) o T)
    (λ e. Goes-no W 2 0 p T alone (ap p (ahead-none T e) ∙ no-break (is_on T) [] (and-false (is_on T))))
    (λ c e. let b = ahead-some T c e in
    if-step P (is_on T && (c == 92)) _ _
    (λ h. Goes-next W 2 0 p after_plan opening T (Next HardBreakEscapeAfter) (within HardBreakEscapeAfter) alone refl (some-codes T c e) (omega arith)
    (ap p b.whole ∙ break-slash (is_on T) b.code (rest_of (ahead T)) (and-left _ _ h) (ap (λ v. v == 92) b.value ∙ and-right _ _ h))
    (grind (arith, law_rules))
    (λ ok U x. x))
    (λ h. Goes-no W 2 0 p T alone (ap p b.whole ∙ no-break (is_on T) (b.code ∷ rest_of (ahead T)) (ap (λ v. is_on T && (v == 92)) b.value ∙ h)))))

pub after-law : (W : Words) → Law W after_words
after-law W T alone _ =
    let P : Stepped → Type 0 = GoesIn W (weight_at 1 T) (after_ends T) in
    code-step P (current_of T) (λ o. after_at o T)
    (λ e. Goes-no W 1 1 after_plan T alone (ap after_plan (ahead-none T e)))
    (λ c e. let b = ahead-some T c e in
    if-step P (c == 10) _ _
    (λ h. Goes-yes W 1 1 after_plan closing T alone (ap after_plan b.whole ∙ if-true _ _ _ (ap (λ v. v == 10) b.value ∙ h)))
    (λ h. Goes-no W 1 1 after_plan T alone (ap after_plan b.whole ∙ if-false _ _ _ (ap (λ v. v == 10) b.value ∙ h))))

-- of these states, and of any other as it is given
pub laws : (W : Words) → EqualsLayer states W → (t : StateName → StateWords) → AreLawful W t → AreLawful W (states t)
laws W within t other H.HardBreakEscapeStart = start-law W within
laws W within t other H.HardBreakEscapeAfter = after-law W
laws W within t other s = other s
