-- The laws of the states of a character escape.
use Rattle.std.proofs.Common.{◌≡◌, ◌==◌, ◌&&◌, Bool, true, false, if◌then◌else◌, Some, None, List, [], ◌∷◌, refl, ap, ◌∙◌, arith}
use Rattle.std.proofs.Math.Bool.{and-false}
use Rattle.markdown_content.specs.Codes.{Code}
use Rattle.markdown_content.specs.ListFunctions.{rest_of}
use Rattle.markdown_engine.specs.Operations.{current_of, ahead}
use Rattle.markdown_engine.specs.StateRuns.{Stepped}
use Rattle.markdown_engine.specs.Weights.{weight_at}
use Rattle.markdown_event.specs.declared.event.Name.TheVariants as N
use Rattle.markdown_event.specs.declared.state.State.TheVariants.{Next}
use Rattle.markdown_event.specs.declared.state.StateName.{StateName}
use Rattle.markdown_event.specs.declared.state.StateName.TheVariants as H
use Rattle.markdown_event.specs.declared.state.StateName.TheVariants.{CharacterEscapeInside}
use Rattle.markdown_engine.specs.declared.tokenizer.Tokenizer.{Tokenizer}
use Rattle.markdown_engine.proofs.LawSteps.{if-step, code-step}
use Rattle.markdown_engine.proofs.OperationFields.{law_rules, ahead-none, ahead-some, some-codes}
use Rattle.markdown_model.specs.CodeTests.{is_value, is_ascii_punctuation, next_is}
use Rattle.markdown_model.specs.Grammar.{◌>>◌, ◌>>=◌, provided, one, gives}
use Rattle.markdown_model.specs.LeafConstructs.{character_escape, escape_tree}
use Rattle.markdown_leaf.specs.CharacterEscape.{is_punctuation, is_on, opening, value, start_at, start_step, inside_at, escape_here, inside_plan, start_ends, inside_ends, states, inside_words, start_words}
use Rattle.markdown_plan.specs.Plan.{preceded, tree_ops, plan_of, KeepsAs}
use Rattle.markdown_plan.proofs.PlanSteps.{EndsAs-plan}
use Rattle.markdown_model.proofs.GrammarSteps.{bind-some, bind-none, one-here, one-not, switched-on, switched-off, and-left, and-right, if-true, if-false}
use Rattle.markdown_model.proofs.PlainConstructs.{reads_switched, reads_character_escape}
use Rattle.markdown_plan.proofs.SolidReadings.{ReadsSolid, plain-reads}
use Rattle.markdown_engine.specs.StateWords.{StateWords, Words, Law, GoesIn}
use Rattle.markdown_plan.proofs.LawStepsOfLayer.{GoesOn-map, Goes-next, Goes-yes, Goes-no}
use Rattle.markdown_plan.specs.LayerEquation.{EqualsLayer, AreLawful}

-- The reading, by what stands there.

-- after a backslash
escape-value : (slash : Code) (cs : List Code) →
    tree_ops ((one is_ascii_punctuation >>= λ read. gives (escape_tree (slash ∷ []) read)) cs) ≡ preceded opening (inside_plan cs)
unfolding gives
escape-value slash [] = ap tree_ops (bind-none _ _ _ (one-not is_ascii_punctuation [] refl))
escape-value slash (c ∷ cs) =
    elim (is_ascii_punctuation c) as (λ b. is_ascii_punctuation c ≡ b → tree_ops ((one is_ascii_punctuation >>= λ read. gives (escape_tree (slash ∷ []) read)) (c ∷ cs)) ≡ preceded opening (if b then Some value else None)) [
      | true ↦ λ e. ap tree_ops (bind-some _ _ _ _ _ _ (one-here is_ascii_punctuation c cs e) refl)
      | false ↦ λ e. ap tree_ops (bind-none _ _ _ (one-not is_ascii_punctuation (c ∷ cs) e))
    ] refl

escape-slash : (on : Bool) (c : Code) (cs : List Code) → on ≡ true → (c.value == 92) ≡ true →
    plan_of (provided on >> character_escape) (c ∷ cs) ≡ preceded opening (inside_plan cs)
unfolding character_escape
escape-slash on c cs e h =
    ap tree_ops (switched-on character_escape on (c ∷ cs) e ∙ bind-some _ _ _ _ _ _ (one-here (is_value 92) c cs h) refl) ∙ escape-value c cs

no-escape : (on : Bool) (cs : List Code) → on && next_is (is_value 92) cs ≡ false →
    plan_of (provided on >> character_escape) cs ≡ None
unfolding character_escape
no-escape false cs e = ap tree_ops (switched-off character_escape false cs refl)
no-escape true cs e =
    ap tree_ops (switched-on character_escape true cs refl ∙ bind-none _ _ _ (one-not (is_value 92) cs e))

whole : (on : Bool) → ReadsSolid (provided on >> character_escape)
whole on = plain-reads [] _ (reads_switched [] on character_escape (reads_character_escape []))

-- The states.

pub start-law : (W : Words) → EqualsLayer states W → Law W start_words
start-law W within T alone _ =
    let E : Bool → Tokenizer → Type 0 = KeepsAs 0 (plan_of (escape_here T)) T in
    let P : Stepped → Type 0 = GoesIn W (weight_at 2 T) E in
    GoesOn-map W (weight_at 2 T) E (start_ends T) (start_step T) (λ ok U k. EndsAs-plan (escape_here T) (whole (is_on T)) T.tokenize_state T ok U k)
    (code-step P (current_of T) (λ o. start_at (is_on T) o T)
    (λ e. Goes-no W 2 0 (plan_of (escape_here T)) T alone (ap (plan_of (escape_here T)) (ahead-none T e) ∙ no-escape (is_on T) [] (and-false (is_on T))))
    (λ c e. let b = ahead-some T c e in
    if-step P (is_on T && (c == 92)) _ _
    (λ h. Goes-next W 2 0 (plan_of (escape_here T)) inside_plan opening T (Next CharacterEscapeInside) (within CharacterEscapeInside) alone refl (some-codes T c e) (omega arith)
    (ap (plan_of (escape_here T)) b.whole ∙ escape-slash (is_on T) b.code (rest_of (ahead T)) (and-left _ _ h) (ap (λ v. v == 92) b.value ∙ and-right _ _ h))
    (grind (arith, law_rules))
    (λ ok U x. x))
    (λ h. Goes-no W 2 0 (plan_of (escape_here T)) T alone (ap (plan_of (escape_here T)) b.whole ∙ no-escape (is_on T) (b.code ∷ rest_of (ahead T)) (ap (λ v. is_on T && (v == 92)) b.value ∙ h)))))

pub inside-law : (W : Words) → Law W inside_words
inside-law W T alone _ =
    let P : Stepped → Type 0 = GoesIn W (weight_at 1 T) (inside_ends T) in
    code-step P (current_of T) (λ o. inside_at o T)
    (λ e. Goes-no W 1 1 inside_plan T alone (ap inside_plan (ahead-none T e)))
    (λ c e. let b = ahead-some T c e in
    if-step P (is_punctuation c) _ _
    (λ h. Goes-yes W 1 1 inside_plan value T alone (ap inside_plan b.whole ∙ if-true _ _ _ (ap is_punctuation b.value ∙ h)))
    (λ h. Goes-no W 1 1 inside_plan T alone (ap inside_plan b.whole ∙ if-false _ _ _ (ap is_punctuation b.value ∙ h))))

-- of these states, and of any other as it is given
pub laws : (W : Words) → EqualsLayer states W → (t : StateName → StateWords) → AreLawful W t → AreLawful W (states t)
laws W within t other H.CharacterEscapeStart = start-law W within
laws W within t other H.CharacterEscapeInside = inside-law W
laws W within t other s = other s
