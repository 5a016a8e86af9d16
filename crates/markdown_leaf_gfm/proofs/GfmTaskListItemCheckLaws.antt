-- The laws of the states of a check of a task list item.
use Rattle.std.proofs.Common.{◌≡◌, ℕ, ◌==◌, ◌&&◌, ◌||◌, ◌<◌, ◌≤◌, not, Bool, true, false, if◌then◌else◌, Option, Some, None, List, [], ◌∷◌, length, refl, sym, ap, subst, ◌∙◌, arith}
use Rattle.std.specs.Prelude.{codes}
use Rattle.std.proofs.Math.Bool.{and-false}
use Rattle.std.proofs.lemmas.Bool.{or_from, or_left, or_right}
use Rattle.markdown_content.specs.Codes.{Code, is_blank, is_line_ending}
use Rattle.markdown_engine.specs.FailedRun.{Grown, Fails}
use Rattle.markdown_content.specs.ListFunctions.{rest_of}
use Rattle.markdown_engine.specs.Operations.{Op, current_of, ahead, IsOpen, done, moves, scratched, frame_of}
use Rattle.markdown_engine.specs.StateRuns.{Stepped, stepped, Goes, restored, going_state, going_in}
use Rattle.markdown_content.specs.Tree.{Forest, ◌⊕◌, leaf, group}
use Rattle.markdown_engine.specs.Weights.{weight_at, codes_left}
use Rattle.markdown_event.specs.declared.event.Name.{Name}
use Rattle.markdown_event.specs.declared.event.Name.TheVariants as N
use Rattle.markdown_event.specs.declared.state.State.{State}
use Rattle.markdown_event.specs.declared.state.State.TheVariants.{Next, Retry, Nok}
use Rattle.markdown_event.specs.declared.state.StateName.{StateName}
use Rattle.markdown_event.specs.declared.state.StateName.TheVariants as H
use Rattle.markdown_event.specs.declared.state.StateName.TheVariants.{GfmTaskListItemCheckInside, GfmTaskListItemCheckClose, GfmTaskListItemCheckAfter, GfmTaskListItemCheckAfterSpaceOrTab, SpaceOrTabStart}
use Rattle.markdown_engine.specs.declared.tokenizer.TokenizeState.{TokenizeState}
use Rattle.markdown_engine.specs.declared.tokenizer.Tokenizer.{Tokenizer}
use Rattle.markdown_engine.proofs.ReadingSequences.{scratched-same, left-read}
use Rattle.markdown_engine.proofs.LawSteps.{if-step, code-step, Grown-refl, restored-fails}
use Rattle.markdown_engine.proofs.OperationFields.{law_rules, ahead-none, ahead-some, attempts-scratched, left-scratched, left-ahead, some-codes}
use Rattle.markdown_engine.proofs.OperationLemmas.{left-done, scratch-done}
use Rattle.markdown_engine.proofs.TreeEvents.{Fails-past}
use Rattle.markdown_model.specs.CodeTests.{is_value, is_among, is_whitespace_code, is_empty, next_is}
use Rattle.markdown_model.specs.Grammar.{Reading, ◌>>◌, ◌>>=◌, provided, one, before, gives, span}
use Rattle.markdown_model.specs.LeafConstructs.{gfm_task_list_item_check, begins_task_text, check_name}
use Rattle.markdown_model.specs.TextLines.{linked_leaf}
use Rattle.markdown_model.specs.Whitespace.{space_or_tab}
use Rattle.markdown_partial.specs.PartialSpaceOrTab as PartialSpaceOrTab
use Rattle.markdown_partial.specs.PartialSpaceOrTab.{most, rested}
use Rattle.markdown_partial.proofs.WhitespaceReadings.{space-all}
use Rattle.markdown_plan.specs.Plan.{Plan, preceded, tree_ops, plan_of, KeepsAs}
use Rattle.markdown_plan.proofs.PlanSteps.{EndsAs-plan}
use Rattle.markdown_model.proofs.PlainConstructs.{reads_switched, reads_gfm_task_list_item_check}
use Rattle.markdown_plan.proofs.SolidReadings.{ReadsSolid, plain-reads}
use Rattle.markdown_leaf_gfm.specs.GfmTaskListItemCheck.{opening, value, closing, is_mark, is_space, may_begin, start_at, start_step, inside_at, close_at, space_asked, looked, after_at, after_space_or_tab_at, MayLook, IsCheckOpened, check_here, start_ends, after_plan}
use Rattle.markdown_leaf_gfm.specs.GfmTaskListItemCheck.{close_plan, inside_plan, inside_ends, close_ends, after_ends, after_space_or_tab_ends, states_and_called, after_space_or_tab_words, after_words, close_words, inside_words, start_words, states}
use Rattle.markdown_leaf_gfm.proofs.CheckSteps.{Goes-looked, goes-then}
use Rattle.markdown_model.proofs.GrammarSteps.{span-takes, bind-some, bind-none, before-some, before-none, before-other, one-here, one-not, switched-on, switched-off, and-left, and-right, if-true, if-false}
use Rattle.markdown_engine.specs.StateWords.{StateWords, Words, Law, GoesIn, weight_in}
use Rattle.markdown_plan.proofs.LawStepsOfLayer.{GoesOn-map, Goes-end, Goes-next, Goes-yes, Goes-no}
use Rattle.markdown_plan.specs.LayerEquation.{EqualsLayer, AreLawful}
use Rattle.markdown_plan.specs.ByteTests.{at_blank}

-- The reading, by what stands there.

-- from the closing bracket on
abbrev closes : Name → List Code → List Code → Reading Forest
closes name front read =
    before (one (is_value 93)) begins_task_text >>= λ back. gives (group N.GfmTaskListItemCheck (leaf N.GfmTaskListItemMarker front ⊕ leaf name read ⊕ leaf N.GfmTaskListItemMarker back))

-- from the value on
abbrev goes_on : List Code → Reading Forest
goes_on front =
    one (λ c. is_whitespace_code c || is_among (codes "xX") c) >>= λ read. closes (check_name read) front read

close-reading : (name : Name) (a v : Code) (cs : List Code) →
    tree_ops (closes name (a ∷ []) (v ∷ []) cs) ≡ preceded opening (preceded (value name) (close_plan cs))
unfolding gives
close-reading name a v [] = ap tree_ops (bind-none _ _ _ (before-none _ _ _ (one-not (is_value 93) [] refl)))
close-reading name a v (c ∷ cs) =
    let P : Bool → Bool → Type 0 = λ b t. tree_ops (closes name (a ∷ []) (v ∷ []) (c ∷ cs)) ≡ preceded opening (preceded (value name) (if b then preceded closing (if t then Some [] else None) else None)) in
    elim (c.value == 93) as (λ b. (c.value == 93) ≡ b → P b (begins_task_text cs)) [
      | true ↦ λ e. elim (begins_task_text cs) as (λ t. begins_task_text cs ≡ t → P true t) [
        | true ↦ λ k. ap tree_ops (bind-some _ _ _ _ _ _ (before-some _ _ _ _ _ (one-here (is_value 93) c cs e) k) refl)
        | false ↦ λ k. ap tree_ops (bind-none _ _ _ (before-other _ _ _ _ _ (one-here (is_value 93) c cs e) k))
      ] refl
      | false ↦ λ e. ap tree_ops (bind-none _ _ _ (before-none _ _ _ (one-not (is_value 93) (c ∷ cs) e)))
    ] refl

name-by : (read : List Code) (b : Bool) → next_is (is_among (codes "xX")) read ≡ b →
    check_name read ≡ (if b then N.GfmTaskListItemValueChecked else N.GfmTaskListItemValueUnchecked)
name-by read true e = rw (e, check_name) refl
name-by read false e = rw (e, check_name) refl

value-here : (a c : Code) (cs : List Code) (b : Bool) → is_among (codes "xX") c ≡ b →
    is_whitespace_code c || is_among (codes "xX") c ≡ true →
    tree_ops (goes_on (a ∷ []) (c ∷ cs)) ≡ preceded opening (preceded (value (if b then N.GfmTaskListItemValueChecked else N.GfmTaskListItemValueUnchecked)) (close_plan cs))
value-here a c cs b e h =
    let name : Name = if b then N.GfmTaskListItemValueChecked else N.GfmTaskListItemValueUnchecked in
    ap tree_ops (bind-some _ _ _ (c ∷ []) cs _ (one-here (λ d. is_whitespace_code d || is_among (codes "xX") d) c cs h) (ap (λ n. closes n (a ∷ []) (c ∷ []) cs) (name-by (c ∷ []) b e))) ∙ close-reading name a c cs

value-reading : (a : Code) (cs : List Code) → tree_ops (goes_on (a ∷ []) cs) ≡ preceded opening (inside_plan cs)
value-reading a [] =
    ap tree_ops (bind-none _ _ _ (one-not (λ d. is_whitespace_code d || is_among (codes "xX") d) [] refl))
value-reading a (c ∷ cs) =
    let checked : Option (List Op) = preceded (value N.GfmTaskListItemValueChecked) (close_plan cs) in
    let unchecked : Option (List Op) = preceded (value N.GfmTaskListItemValueUnchecked) (close_plan cs) in
    let P : Bool → Bool → Type 0 = λ m w. tree_ops (goes_on (a ∷ []) (c ∷ cs)) ≡ preceded opening (if m then checked else (if w then unchecked else None)) in
    elim (is_among (codes "xX") c) as (λ m. is_among (codes "xX") c ≡ m → P m (is_whitespace_code c)) [
      | true ↦ λ e. value-here a c cs true e (or_right _ _ e)
      | false ↦ λ e. elim (is_whitespace_code c) as (λ w. is_whitespace_code c ≡ w → P false w) [
        | true ↦ λ k. value-here a c cs false e (or_left _ _ k)
        | false ↦ λ k. ap tree_ops (bind-none _ _ _ (one-not (λ d. is_whitespace_code d || is_among (codes "xX") d) (c ∷ cs) (or_from _ _ k e)))
      ] refl
    ] refl

check-bracket : (on : Bool) (c : Code) (cs : List Code) → on ≡ true → (c.value == 91) ≡ true →
    plan_of (provided on >> gfm_task_list_item_check) (c ∷ cs) ≡ preceded opening (inside_plan cs)
unfolding gfm_task_list_item_check
check-bracket on c cs e h =
    ap tree_ops (switched-on gfm_task_list_item_check on (c ∷ cs) e ∙ bind-some _ _ _ _ _ _ (one-here (is_value 91) c cs h) refl) ∙ value-reading c cs

no-check : (on : Bool) (cs : List Code) → on && next_is (is_value 91) cs ≡ false →
    plan_of (provided on >> gfm_task_list_item_check) cs ≡ None
unfolding gfm_task_list_item_check
no-check false cs e = ap tree_ops (switched-off gfm_task_list_item_check false cs refl)
no-check true cs e =
    ap tree_ops (switched-on gfm_task_list_item_check true cs refl ∙ bind-none _ _ _ (one-not (is_value 91) cs e))

whole : (on : Bool) → ReadsSolid (provided on >> gfm_task_list_item_check)
whole on =
    plain-reads [] _ (reads_switched [] on gfm_task_list_item_check (reads_gfm_task_list_item_check []))

-- The conditions go on.

look-done : (os : List Op) (T : Tokenizer) → moves os ≤ length (ahead T) → MayLook T → MayLook (done os T)
look-done os T h k =
    record {
      resting = subst (λ (s : TokenizeState). rested s ≡ s) (sym (scratch-done os T)) k.resting;
      short = omega (arith, left-done os T h, k.short);
    }

-- The states.

pub start-law : (W : Words) → EqualsLayer states_and_called W → Law W start_words
start-law W within T alone look =
    let p : Plan = plan_of (check_here T) in
    let E : Bool → Tokenizer → Type 0 = KeepsAs 0 p T in
    let P : Stepped → Type 0 = GoesIn W (weight_at 2 T) E in
    GoesOn-map W (weight_at 2 T) E (start_ends T) (start_step T) (λ ok U k. EndsAs-plan (check_here T) (whole (may_begin T)) T.tokenize_state T ok U k)
    (code-step P (current_of T) (λ o. start_at (may_begin T) o T)
    (λ e. Goes-no W 2 0 p T alone (ap p (ahead-none T e) ∙ no-check (may_begin T) [] (and-false (may_begin T))))
    (λ c e. let b = ahead-some T c e in
    if-step P (may_begin T && (c == 91)) _ _
    (λ h. Goes-next W 2 0 p inside_plan opening T (Next GfmTaskListItemCheckInside) (within GfmTaskListItemCheckInside) alone refl (some-codes T c e) (omega arith)
    (ap p b.whole ∙ check-bracket (may_begin T) b.code (rest_of (ahead T)) (and-left _ _ h) (ap (λ v. v == 91) b.value ∙ and-right _ _ h))
    (record { whole = grind (arith, law_rules); look = look-done opening T (some-codes T c e) look })
    (λ ok U x. x))
    (λ h. Goes-no W 2 0 p T alone (ap p b.whole ∙ no-check (may_begin T) (b.code ∷ rest_of (ahead T)) (ap (λ v. may_begin T && (v == 91)) b.value ∙ h)))))

-- past the value of this name
value-goes : (W : Words) → EqualsLayer states_and_called W → (name : Name) (T : Tokenizer) → T.attempts ≡ [] → IsCheckOpened T →
    1 ≤ length (ahead T) → inside_plan (ahead T) ≡ preceded (value name) (close_plan (rest_of (ahead T))) →
    GoesIn W (weight_at 1 T) (inside_ends T) (stepped (Next GfmTaskListItemCheckClose) (done (value name) T))
value-goes W within name T alone on some e =
    Goes-next W 1 1 inside_plan close_plan (value name) T (Next GfmTaskListItemCheckClose) (within GfmTaskListItemCheckClose) alone refl some (omega arith) e
    (record { whole = (let w : IsOpen N.GfmTaskListItemCheck T = on.whole in grind (arith, law_rules)); look = look-done (value name) T some on.look })
    (λ ok U x. x)

pub inside-law : (W : Words) → EqualsLayer states_and_called W → Law W inside_words
inside-law W within T alone on =
    let P : Stepped → Type 0 = GoesIn W (weight_at 1 T) (inside_ends T) in
    code-step P (current_of T) (λ o. inside_at o T)
    (λ e. Goes-no W 1 1 inside_plan T alone (ap inside_plan (ahead-none T e)))
    (λ c e. let b = ahead-some T c e in
    if-step P (is_mark c) _ _
    (λ h. value-goes W within N.GfmTaskListItemValueChecked T alone on (some-codes T c e)
    (ap inside_plan b.whole ∙ if-true _ _ _ (ap is_mark b.value ∙ h)))
    (λ h. if-step P (is_space c) _ _
    (λ k. value-goes W within N.GfmTaskListItemValueUnchecked T alone on (some-codes T c e)
    (ap inside_plan b.whole ∙ if-false _ _ _ (ap is_mark b.value ∙ h) ∙ if-true _ _ _ (ap is_space b.value ∙ k)))
    (λ k. Goes-no W 1 1 inside_plan T alone (ap inside_plan b.whole ∙ if-false _ _ _ (ap is_mark b.value ∙ h) ∙ if-false _ _ _ (ap is_space b.value ∙ k)))))

pub close-law : (W : Words) → EqualsLayer states_and_called W → Law W close_words
close-law W within T alone on =
    let P : Stepped → Type 0 = GoesIn W (weight_at 1 T) (close_ends T) in
    code-step P (current_of T) (λ o. close_at o T)
    (λ e. Goes-no W 1 1 close_plan T alone (ap close_plan (ahead-none T e)))
    (λ c e. let b = ahead-some T c e in
    if-step P (c == 93) _ _
    (λ h. Goes-next W 1 1 close_plan after_plan closing T (Next GfmTaskListItemCheckAfter) (within GfmTaskListItemCheckAfter) alone refl (some-codes T c e) (omega arith)
    (ap close_plan b.whole ∙ if-true _ _ _ (ap (λ v. v == 93) b.value ∙ h))
    (look-done closing T (some-codes T c e) on.look)
    (λ ok U x. x))
    (λ h. Goes-no W 1 1 close_plan T alone (ap close_plan b.whole ∙ if-false _ _ _ (ap (λ v. v == 93) b.value ∙ h))))

-- After the check.

-- a run that stands where it began, and says whether the text of the item follows
after-keeps : (T : Tokenizer) (ok : Bool) (U : Tokenizer) → ok ≡ begins_task_text (ahead T) → U ≡ T → after_ends T ok U
after-keeps T true U e h = record { ops = []; holds = if-true _ _ _ (sym e); left = h ∙ sym (scratched-same T) }
after-keeps T false U e h =
    record { none = if-false _ _ _ (sym e); grown = subst (λ (x : Tokenizer). Grown 0 T x) (sym h) (Grown-refl 0 T); scratch = ap (λ (x : Tokenizer). x.tokenize_state) h }

-- what the attempt of whitespace leaves, where a blank code stands
record CheckSpaced (T U : Tokenizer) : Type 0 where
  back : restored (frame_of true State.Ok Nok (scratched (space_asked T.tokenize_state) T)) U ≡ T
  after : ahead U ≡ (span is_blank (ahead T)).1
  fewer : codes_left U ≤ codes_left T

space-there : (T : Tokenizer) → next_is is_blank (ahead T) ≡ true → codes_left T ≤ most →
    space_or_tab N.SpaceOrTab None 1 most (ahead T) ≡ Some (linked_leaf N.SpaceOrTab None (span is_blank (ahead T)).0, (span is_blank (ahead T)).1)
space-there T h l = space-all N.SpaceOrTab None most (ahead T) h (omega (arith, left-ahead T, l))

rest_read : Option (Forest × List Code) → List Code
rest_read None = []
rest_read (Some r) = r.1

-- set back, a tokenizer has its scratch fields back too
back-there : (s : TokenizeState) (T : Tokenizer) → rested s ≡ s → T.tokenize_state ≡ s →
    scratched (rested (space_asked s)) (scratched (space_asked s) T) ≡ T
unfolding scratched
back-there s T e h = ap (λ (x : TokenizeState). scratched x T) (e ∙ sym h) ∙ scratched-same T

spaced : (T U : Tokenizer) → MayLook T → next_is is_blank (ahead T) ≡ true →
    PartialSpaceOrTab.start_ends (scratched (space_asked T.tokenize_state) T) true U → CheckSpaced T U
unfolding scratched rest_read
spaced T U look h k =
    let s : TokenizeState = T.tokenize_state in
    let A : Tokenizer = scratched (space_asked s) T in
    let same : Some (k.tree, k.rest) ≡ Some (linked_leaf N.SpaceOrTab None (span is_blank (ahead T)).0, (span is_blank (ahead T)).1) = sym k.holds ∙ space-there T h look.short in
    let f : Fails (rested (space_asked s)) A U = Fails-past None k.tree (rested (space_asked s)) A U k.left in
    record {
      back = restored-fails true State.Ok Nok (rested (space_asked s)) A U f ∙ back-there s T look.resting refl;
      after = k.after ∙ ap rest_read same;
      fewer = left-read _ _ _ A U k;
    }

some-none : (o : Option (Forest × List Code)) (r : Forest × List Code) → o ≡ Some r → o ≡ None → ⊥
some-none o r e h = cc

never-refused : (T U : Tokenizer) → MayLook T → next_is is_blank (ahead T) ≡ true →
    PartialSpaceOrTab.start_ends (scratched (space_asked T.tokenize_state) T) false U → ⊥
unfolding scratched
never-refused T U look h k = some-none _ _ (space-there T h look.short) k.refused

space-ready : (T : Tokenizer) → MayLook T → PartialSpaceOrTab.SpaceOrTabStartReady (scratched (space_asked T.tokenize_state) T)
unfolding scratched
space-ready T look =
    record { none_yet = ap (λ (s : TokenizeState). s.space_or_tab_size) (sym look.resting); linked = λ h. cc }

-- at a blank code the text of the item follows where a further code does
blank-text : (c : Code) (cs : List Code) → is_line_ending c ≡ false → is_blank c ≡ true →
    begins_task_text (c ∷ cs) ≡ not (is_empty (span is_blank (c ∷ cs)).1)
blank-text c cs e h =
    let more : Bool = not (is_empty (span is_blank cs).1) in
    ap (λ b. b || (is_blank c && more)) e ∙ ap (λ b. b && more) h ∙ ap (λ (s : List Code × List Code). not (is_empty s.1)) (sym (span-takes is_blank c cs h))

-- the check ends, whether it holds or not, where it began
check-ended : (W : Words) (n : ℕ) (End : Bool → Tokenizer → Type 0) (ok : Bool) (A V X : Tokenizer) → 0 < n →
    restored (frame_of true State.Ok Nok A) V ≡ X → End ok X →
    Goes W.ready W.ends (weight_in W) n End [] (going_state (frame_of true State.Ok Nok A) ok) (going_in (frame_of true State.Ok Nok A) ok V)
unfolding frame_of
check-ended W n End true A V X some e k =
    (record { goes_on = tt; falls = some }, λ ok U x. subst (λ b. End b U) (sym x.0) (subst (End true) (sym (x.1 ∙ e)) k))
check-ended W n End false A V X some e k =
    (record { goes_on = tt; falls = some }, λ ok U x. subst (λ b. End b U) (sym x.0) (subst (End false) (sym (x.1 ∙ e)) k))

look-law : (W : Words) → EqualsLayer states_and_called W → (T : Tokenizer) → T.attempts ≡ [] → MayLook T →
    next_is is_blank (ahead T) ≡ true → begins_task_text (ahead T) ≡ not (is_empty (span is_blank (ahead T)).1) →
    GoesIn W (weight_at 4 T) (after_ends T) (stepped (Retry SpaceOrTabStart) (looked T))
look-law W within T alone look b text =
    let s : TokenizeState = T.tokenize_state in
    let n : ℕ = weight_at 4 T in
    let A : Tokenizer = scratched (space_asked s) T in
    Goes-looked W n (after_ends T) (Retry SpaceOrTabStart) (within SpaceOrTabStart) (Next GfmTaskListItemCheckAfterSpaceOrTab) Nok State.Ok Nok A (attempts-scratched _ T ∙ alone) (space-ready T look)
    (omega (arith, left-scratched (space_asked s) T))
    (λ U now k. let g : CheckSpaced T U = spaced T U look b k in (
    goes-then W n (after_ends T) (frame_of true State.Ok Nok A) [] (Next GfmTaskListItemCheckAfterSpaceOrTab) (within GfmTaskListItemCheckAfterSpaceOrTab) U tt (omega (arith, g.fewer))
    (λ ok V now m. check-ended W n (after_ends T) ok A V T (omega arith) (ap (restored (frame_of true State.Ok Nok A)) m.1 ∙ g.back) (after-keeps T ok T (m.0 ∙ ap (λ cs. not (is_empty cs)) g.after ∙ sym text) refl))))
    (λ U now k. absurd (never-refused T U look b k))

pub after-law : (W : Words) → EqualsLayer states_and_called W → Law W after_words
after-law W within T alone look =
    let P : Stepped → Type 0 = GoesIn W (weight_at 4 T) (after_ends T) in
    code-step P (current_of T) (λ o. after_at o T)
    (λ e. Goes-no W 4 0 after_plan T alone (ap after_plan (ahead-none T e)))
    (λ c e. let b = ahead-some T c e in
    let more : List Code = rest_of (ahead T) in
    if-step P (c == 10) _ _
    (λ h. Goes-yes W 4 0 after_plan [] T alone (ap after_plan b.whole ∙ if-true _ _ _ (or_left _ _ (ap (λ v. v == 10) b.value ∙ h))))
    (λ h. let line : is_line_ending b.code ≡ false = ap (λ v. v == 10) b.value ∙ h in
    if-step P (at_blank (Some c)) _ _
    (λ k. let blank : is_blank b.code ≡ true = ap (λ v. at_blank (Some v)) b.value ∙ k in
    look-law W within T alone look (ap (next_is is_blank) b.whole ∙ blank)
    (ap begins_task_text b.whole ∙ blank-text b.code more line blank ∙ ap (λ cs. not (is_empty (span is_blank cs).1)) (sym b.whole)))
    (λ k. let blank : is_blank b.code ≡ false = ap (λ v. at_blank (Some v)) b.value ∙ k in
    Goes-no W 4 0 after_plan T alone
    (ap after_plan b.whole ∙ if-false _ _ _ (or_from _ _ line (ap (λ x. x && not (is_empty (span is_blank more).1)) blank))))))

pub after_space_or_tab-law : (W : Words) → Law W after_space_or_tab_words
after_space_or_tab-law W T alone _ =
    let n : ℕ = weight_at 1 T in
    let P : Stepped → Type 0 = GoesIn W n (after_space_or_tab_ends T) in
    code-step P (current_of T) (λ o. after_space_or_tab_at o T)
    (λ e. Goes-end W n (after_space_or_tab_ends T) false T alone (omega arith) (λ ok U k. (k.0 ∙ ap (λ cs. not (is_empty cs)) (sym (ahead-none T e)), k.1)))
    (λ c e. Goes-end W n (after_space_or_tab_ends T) true T alone (omega arith) (λ ok U k. (k.0 ∙ ap (λ cs. not (is_empty cs)) (sym (ahead-some T c e).whole), k.1)))

-- of these states, and of any other as it is given
pub laws : (W : Words) → EqualsLayer states_and_called W → (t : StateName → StateWords) → AreLawful W t →
    AreLawful W (states t)
laws W within t other H.GfmTaskListItemCheckStart = start-law W within
laws W within t other H.GfmTaskListItemCheckInside = inside-law W within
laws W within t other H.GfmTaskListItemCheckClose = close-law W within
laws W within t other H.GfmTaskListItemCheckAfter = after-law W within
laws W within t other H.GfmTaskListItemCheckAfterSpaceOrTab = after_space_or_tab-law W
laws W within t other s = other s
