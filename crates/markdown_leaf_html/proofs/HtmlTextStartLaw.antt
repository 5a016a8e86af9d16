-- The law of the start of HTML in text.
use Rattle.std.proofs.Common.{◌≡◌, ◌≤◌, ◌==◌, ◌&&◌, Bool, true, [], ◌∷◌, length, refl, ap, ◌∙◌, arith}
use Rattle.std.proofs.Math.Bool.{and-false}
use Rattle.std.proofs.lemmas.Bool.{eqb-true}
use Rattle.markdown_content.specs.ListFunctions.{rest_of}
use Rattle.markdown_engine.specs.Operations.{current_of, ahead, applied}
use Rattle.markdown_engine.specs.StateRuns.{Stepped}
use Rattle.markdown_engine.specs.Weights.{weight_at}
use Rattle.markdown_event.specs.declared.state.State.TheVariants.{Next}
use Rattle.markdown_event.specs.declared.state.StateName.TheVariants as H
use Rattle.markdown_engine.specs.declared.tokenizer.Tokenizer.{Tokenizer}
use Rattle.markdown_engine.proofs.LawSteps.{code-step, if-step}
use Rattle.markdown_engine.proofs.OperationFields.{ahead-none, ahead-some, BeginsWithValue, some-codes}
use Rattle.markdown_plan.specs.Plan.{Plan, plan_of, KeepsAs}
use Rattle.markdown_plan.proofs.PlanSteps.{EndsAs-plan}
use Rattle.markdown_leaf_html.specs.HtmlText.{is_on, slashes_in, opening, start_at, start_step, html_here, start_ends, start_words}
use Rattle.markdown_leaf_html.specs.HtmlLines.{text_of}
use Rattle.markdown_leaf_html.specs.HtmlTextRests.{Open, open_rest}
use Rattle.markdown_leaf_html.proofs.HtmlTextReady.{start-opened}
use Rattle.markdown_leaf_html.proofs.HtmlTextCovers.{whole-html, html-opens, no-html}
use Rattle.markdown_leaf_html.proofs.HtmlLineEndingLaws.{HasHtmlWords}
use Rattle.markdown_model.proofs.GrammarSteps.{and-left, and-right}
use Rattle.markdown_engine.specs.StateWords.{Words, Law, GoesIn}
use Rattle.markdown_plan.proofs.LawStepsOfLayer.{GoesOn-map, Goes-next, Goes-no}

pub start-law : (W : Words) → HasHtmlWords W → Law W start_words
unfolding applied
start-law W within T alone r =
    let p : Plan = plan_of (html_here T) in
    let E : Bool → Tokenizer → Type 0 = KeepsAs 0 p T in
    let P : Stepped → Type 0 = GoesIn W (weight_at 3 T) E in
    GoesOn-map W (weight_at 3 T) E (start_ends T) (start_step T) (λ ok U x. EndsAs-plan (html_here T) (whole-html (slashes_in T) (is_on T)) T.tokenize_state T ok U x)
    (code-step P (current_of T) (λ o. start_at o T)
    (λ e. Goes-no W 3 0 p T alone (ap p (ahead-none T e) ∙ (no-html (slashes_in T)) (is_on T) [] (and-false (is_on T))))
    (λ c e.
    let b : BeginsWithValue c (ahead T) = ahead-some T c e in
    let more : 1 ≤ length (ahead T) = some-codes T c e in
    if-step P (is_on T && (c == 60)) _ _
    (λ h. let bracket : (c == 60) ≡ true = and-right (is_on T) _ h in
    Goes-next W 3 0 p (text_of (open_rest (slashes_in T))) opening T (Next H.HtmlTextOpen) (within.parts Open) alone refl more (omega arith)
    (ap p b.whole ∙ (html-opens (slashes_in T)) (is_on T) b.code (rest_of (ahead T)) (and-left (is_on T) _ h) (ap (λ v. v == 60) b.value ∙ bracket) (ap (λ v. v == 10) (b.value ∙ eqb-true c 60 bracket)))
    (start-opened T more r)
    (λ ok U x. x))
    (λ h. Goes-no W 3 0 p T alone (ap p b.whole ∙ (no-html (slashes_in T)) (is_on T) (b.code ∷ rest_of (ahead T)) (ap (λ v. is_on T && (v == 60)) b.value ∙ h)))))
