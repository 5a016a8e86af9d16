-- The laws of the states in what may be trailing punctuation.
use Rattle.std.proofs.Common.{◌≡◌, ◌==◌, ◌||◌, Bool, true, false, Option, Some, None, List, [], ◌∷◌, refl, sym, ap, ◌∙◌, arith}
use Rattle.std.specs.Prelude.{codes}
use Rattle.std.proofs.lemmas.Bool.{or_left}
use Rattle.markdown_content.specs.Codes.{Code}
use Rattle.markdown_content.specs.ListFunctions.{rest_of, first_of}
use Rattle.markdown_engine.specs.Operations.{Consume, ahead, applied, current_of, done}
use Rattle.markdown_content.specs.Place.{moved, value_of}
use Rattle.markdown_engine.specs.StateRuns.{Stepped}
use Rattle.markdown_engine.specs.Weights.{weight_at}
use Rattle.markdown_event.specs.declared.state.StateName.TheVariants.{GfmAutolinkLiteralTrail, GfmAutolinkLiteralTrailBracketAfter, GfmAutolinkLiteralTrailCharRefInside, GfmAutolinkLiteralTrailCharRefStart}
use Rattle.markdown_engine.specs.declared.tokenizer.Tokenizer.{Tokenizer}
use Rattle.markdown_engine.proofs.LawSteps.{if-step, code-step}
use Rattle.markdown_engine.proofs.OperationFields.{ahead-none, ahead-some, ahead-consumed, current-ahead}
use Rattle.markdown_model.specs.CodeTests.{is_among, is_empty, next_is, is_whitespace_code}
use Rattle.markdown_model.specs.GfmAutolinkLiteral.{is_space}
use Rattle.markdown_leaf_gfm.specs.Trails.{trails_in}
use Rattle.markdown_plan.specs.ByteTests.{letter_value}
use Rattle.markdown_plan.specs.Characters.{bytes_of}
use Rattle.markdown_plan.proofs.CharactersAlongContent.{text-passed}
use Rattle.markdown_leaf_gfm.specs.GfmAutolinkLiteral.{end_of, kind_here, trail_value, trail_at, ends_bracket, reference_start_at, reference_at, trails_on, trail_ends, bracket_after_ends, reference_start_ends, reference_ends, states, bracket_after_words, reference_start_words, reference_words, trail_words}
use Rattle.markdown_leaf_gfm.proofs.TrailChecks.{look-passed, space-here, space-end, trails-mark, trails-and, trails-angle, trails-bracket, trails-else, trails-end, name-letter, name-closed, name-other, name-none, name-end, look-ended, look-next, look-retry, low-by, trail-low}
use Rattle.markdown_engine.specs.StateWords.{Words, Law, GoesIn}
use Rattle.markdown_plan.specs.LayerEquation.{EqualsLayer}

-- past a code the document and the content's end are the same
trails-then : (mode : Option Bool) (T : Tokenizer) →
    trails_in (bytes_of (done (Consume ∷ []) T)) (end_of (done (Consume ∷ []) T)) mode (ahead (done (Consume ∷ []) T)) ≡ trails_in (bytes_of T) (end_of T) mode (rest_of (ahead T))
unfolding applied moved
trails-then mode T = ap (trails_in (bytes_of T) (end_of T) mode) (ahead-consumed T)

on-then : (T : Tokenizer) →
    trails_on (bytes_of (done (Consume ∷ []) T)) (end_of (done (Consume ∷ []) T)) (ahead (done (Consume ∷ []) T)) ≡ trails_on (bytes_of T) (end_of T) (rest_of (ahead T))
unfolding applied moved
on-then T = ap (trails_on (bytes_of T) (end_of T)) (ahead-consumed T)

pub trail-law : (W : Words) → EqualsLayer states W → Law W trail_words
trail-law W within T alone look =
    let P : Stepped → Type 0 = GoesIn W (weight_at 1 T) (trail_ends T) in
    let at : List Code → Bool = trails_in (bytes_of T) (end_of T) None in
    code-step P (current_of T) (λ o. trail_at o T)
    (λ e. let none : ahead T ≡ [] = ahead-none T e in
    look-ended W 1 (at (ahead T)) (is_space (kind_here T)) T alone
    (ap is_space (space-end T none) ∙ sym (trails-end (bytes_of T) (end_of T)) ∙ ap at (sym none)))
    (λ c e. let b = ahead-some T c e in
    let more : List Code = rest_of (ahead T) in
    let back : at (b.code ∷ more) ≡ at (ahead T) = ap at (sym b.whole) in
    if-step P (trail_value c) _ _
    (λ h. look-next W 1 (at (ahead T)) _ GfmAutolinkLiteralTrail (within GfmAutolinkLiteralTrail) T c alone e (omega arith)
    (trails-then None T ∙ sym (trails-mark (bytes_of T) (end_of T) b.code more (ap trail_value b.value ∙ h)) ∙ back)
    (look-passed T c look.text e (trail-low c h)) (λ ok U x. x))
    (λ h1. let m1 : trail_value b.code.value ≡ false = ap trail_value b.value ∙ h1 in
    if-step P (c == 38) _ _
    (λ h. look-next W 1 (at (ahead T)) _ GfmAutolinkLiteralTrailCharRefStart (within GfmAutolinkLiteralTrailCharRefStart) T c alone e (omega arith)
    (trails-then (Some false) T ∙ sym (trails-and (bytes_of T) (end_of T) b.code more m1 (ap (λ v. v == 38) b.value ∙ h)) ∙ back)
    (text-passed T look.text) (λ ok U x. x))
    (λ h2. let m2 : (b.code.value == 38) ≡ false = ap (λ v. v == 38) b.value ∙ h2 in
    if-step P (c == 60) _ _
    (λ h. look-ended W 1 (at (ahead T)) true T alone (sym (trails-angle (bytes_of T) (end_of T) b.code more m1 m2 (ap (λ v. v == 60) b.value ∙ h)) ∙ back))
    (λ h3. let m3 : (b.code.value == 60) ≡ false = ap (λ v. v == 60) b.value ∙ h3 in
    if-step P (c == 93) _ _
    (λ h. look-next W 1 (at (ahead T)) _ GfmAutolinkLiteralTrailBracketAfter (within GfmAutolinkLiteralTrailBracketAfter) T c alone e (omega arith)
    (on-then T ∙ sym (trails-bracket (bytes_of T) (end_of T) b.code more m1 m2 m3 (ap (λ v. v == 93) b.value ∙ h)) ∙ back)
    (look-passed T c look.text e (low-by c 93 h refl)) (λ ok U x. x))
    (λ h4. look-ended W 1 (at (ahead T)) (is_space (kind_here T)) T alone
    (ap is_space (space-here T b.code more b.whole)
    ∙ sym (trails-else (bytes_of T) (end_of T) b.code more m1 m2 m3 (ap (λ v. v == 93) b.value ∙ h4))
    ∙ back))))))

-- whether a bracket ends here, by the codes ahead
bracket-ahead : (cs : List Code) →
    ends_bracket (value_of (first_of cs)) ≡ (is_empty cs || next_is (λ d. is_whitespace_code d || is_among (codes "([") d) cs)
bracket-ahead [] = refl
bracket-ahead (c ∷ cs) = refl

or-rest : (a b : Bool) → a ≡ false → a || b ≡ b
or-rest true b e = cc
or-rest false b e = refl

pub bracket_after-law : (W : Words) → EqualsLayer states W → Law W bracket_after_words
bracket_after-law W within T alone look =
    let P : Stepped → Type 0 = GoesIn W (weight_at 2 T) (bracket_after_ends T) in
    let test : Bool = trails_on (bytes_of T) (end_of T) (ahead T) in
    let here : ends_bracket (current_of T) ≡ _ = ap ends_bracket (current-ahead T) ∙ bracket-ahead (ahead T) in
    if-step P (ends_bracket (current_of T)) _ _
    (λ h. look-ended W 2 test true T alone (sym (or_left _ _ (sym here ∙ h))))
    (λ h. look-retry W 2 test _ GfmAutolinkLiteralTrail (within GfmAutolinkLiteralTrail) T alone (omega arith) (sym (or-rest _ _ (sym here ∙ h))) look (λ ok U x. x))

pub reference_start-law : (W : Words) → EqualsLayer states W → Law W reference_start_words
reference_start-law W within T alone text =
    let P : Stepped → Type 0 = GoesIn W (weight_at 2 T) (reference_start_ends T) in
    let at : Bool → List Code → Bool = λ seen. trails_in (bytes_of T) (end_of T) (Some seen) in
    code-step P (current_of T) (λ o. reference_start_at o T)
    (λ e. look-ended W 2 (at false (ahead T)) false T alone (sym (ap (at false) (ahead-none T e) ∙ name-end (bytes_of T) (end_of T) false)))
    (λ c e. let b = ahead-some T c e in
    let more : List Code = rest_of (ahead T) in
    if-step P (letter_value c) _ _
    (λ h. let letter : letter_value b.code.value ≡ true = ap letter_value b.value ∙ h in
    look-retry W 2 (at false (ahead T)) (at true (ahead T)) GfmAutolinkLiteralTrailCharRefInside (within GfmAutolinkLiteralTrailCharRefInside) T alone (omega arith)
    (ap (at true) b.whole ∙ name-letter (bytes_of T) (end_of T) true b.code more letter ∙ sym (name-letter (bytes_of T) (end_of T) false b.code more letter) ∙ ap (at false) (sym b.whole))
    text (λ ok U x. x))
    (λ h. look-ended W 2 (at false (ahead T)) false T alone (sym (ap (at false) b.whole ∙ name-none (bytes_of T) (end_of T) b.code more (ap letter_value b.value ∙ h)))))

pub reference-law : (W : Words) → EqualsLayer states W → Law W reference_words
reference-law W within T alone text =
    let P : Stepped → Type 0 = GoesIn W (weight_at 1 T) (reference_ends T) in
    let at : List Code → Bool = trails_in (bytes_of T) (end_of T) (Some true) in
    code-step P (current_of T) (λ o. reference_at o T)
    (λ e. look-ended W 1 (at (ahead T)) false T alone (sym (ap at (ahead-none T e) ∙ name-end (bytes_of T) (end_of T) true)))
    (λ c e. let b = ahead-some T c e in
    let more : List Code = rest_of (ahead T) in
    let back : at (b.code ∷ more) ≡ at (ahead T) = ap at (sym b.whole) in
    if-step P (letter_value c) _ _
    (λ h. look-next W 1 (at (ahead T)) _ GfmAutolinkLiteralTrailCharRefInside (within GfmAutolinkLiteralTrailCharRefInside) T c alone e (omega arith)
    (trails-then (Some true) T ∙ sym (name-letter (bytes_of T) (end_of T) true b.code more (ap letter_value b.value ∙ h)) ∙ back)
    (text-passed T text) (λ ok U x. x))
    (λ h1. let letter : letter_value b.code.value ≡ false = ap letter_value b.value ∙ h1 in
    if-step P (c == 59) _ _
    (λ h. look-next W 1 (at (ahead T)) _ GfmAutolinkLiteralTrail (within GfmAutolinkLiteralTrail) T c alone e (omega arith)
    (trails-then None T ∙ sym (name-closed (bytes_of T) (end_of T) b.code more letter (ap (λ v. v == 59) b.value ∙ h)) ∙ back)
    (look-passed T c text e (low-by c 59 h refl)) (λ ok U x. x))
    (λ h. look-ended W 1 (at (ahead T)) false T alone (sym (ap at b.whole ∙ name-other (bytes_of T) (end_of T) b.code more letter (ap (λ v. v == 59) b.value ∙ h))))))
