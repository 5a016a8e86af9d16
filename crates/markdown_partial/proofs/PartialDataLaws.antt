-- the laws of the states of data
use Rattle.std.proofs.Common.{◌≡◌, ℕ, ◌+◌, ◌≤◌, ◌==◌, ◌||◌, if◌then◌else◌, Bool, true, false, Option, Some, None, List, [], ◌∷◌, ◌++◌, length, refl, sym, ap, subst, ◌∙◌, arith, append-nil}
use Rattle.markdown_content.specs.Codes.{Code, is_line_ending}
use Rattle.markdown_content.specs.ListFunctions.{rest_of}
use Rattle.markdown_engine.specs.Operations.{current_of, ahead, exited, consumed, applied, IsOpen, done, Enter, Exit, Consume}
use Rattle.markdown_content.specs.Stretch.{is_free}
use Rattle.markdown_engine.specs.PastTree.{EndsAs, past, passed, behind, last_link}
use Rattle.markdown_engine.specs.StateRuns.{Stepped, stepped}
use Rattle.markdown_content.specs.Tree.{Forest, empty, leaf, leaf_codes}
use Rattle.markdown_engine.specs.Weights.{codes_left, weight_at}
use Rattle.markdown_event.specs.declared.event.Name.TheVariants as N
use Rattle.markdown_event.specs.declared.state.State.TheVariants.{Next, Retry}
use Rattle.markdown_event.specs.declared.state.State.{State}
use Rattle.markdown_event.specs.declared.state.StateName.{StateName}
use Rattle.markdown_event.specs.declared.state.StateName.TheVariants as H
use Rattle.markdown_event.specs.declared.state.StateName.TheVariants.{DataAtBreak, DataInside}
use Rattle.markdown_engine.specs.declared.tokenizer.TokenizeState.{TokenizeState}
use Rattle.markdown_engine.specs.declared.tokenizer.Tokenizer.{Tokenizer}
use Rattle.markdown_engine.proofs.ReadingSequences.{EndsAs-then, scratched-same}
use Rattle.markdown_engine.proofs.LawSteps.{if-step, code-step}
use Rattle.markdown_engine.proofs.SteadyLemmas.{steady-at}
use Rattle.markdown_engine.proofs.OperationFields.{BeginsWithValue, ahead-none, ahead-some, some-codes}
use Rattle.markdown_engine.proofs.OperationLemmas.{ahead-done, left-done, scratch-done}
use Rattle.markdown_engine.proofs.TreeEvents.{done-leaf, leaf-past, ahead-past}
use Rattle.markdown_model.specs.TextLines.{data_up_to}
use Rattle.markdown_partial.specs.PartialData.{inside_step, inside_stops, marks, stops_of, stops_here, ending, opening, entering, passing, rank_at, start_at, at_break_at, leaving, inside_at, more_data, ends_stretch, stretch_of, past_stretch, start_ends, at_break_ends, inside_ends, states, at_break_words, inside_words, start_words}
use Rattle.markdown_partial.proofs.EndLemmas.{EndsAs-same, EndsAs-here}
use Rattle.markdown_partial.proofs.LineCuts.{up_to_break, data-then, ending-then, more-goes, more-stops, break-stops, break-goes}
use Rattle.markdown_model.proofs.LeafCodes.{until-append}
use Rattle.markdown_engine.specs.StateWords.{StateWords, Words, Law, GoesIn}
use Rattle.markdown_plan.proofs.PassedCodes.{passed-none, passed-one}
use Rattle.markdown_plan.proofs.LawStepsOfLayer.{Goes-plain, Goes-end, Goes-ops}
use Rattle.markdown_plan.specs.LayerEquation.{EqualsLayer, AreLawful}

-- whether data stops at the codes ahead, by the value at hand
stops-is : (T : Tokenizer) (v : ℕ) → (e : current_of T ≡ Some v) →
    stops_of T.tokenize_state ((ahead-some T v e).code ∷ rest_of (ahead T)) ≡ stops_here T v
stops-is T v e = ap (marks T.tokenize_state.markers) (ahead-some T v e).value

breaks-is : (T : Tokenizer) (v : ℕ) → (e : current_of T ≡ Some v) →
    (let c : Code = (ahead-some T v e).code in is_line_ending c || stops_of T.tokenize_state (c ∷ rest_of (ahead T))) ≡ ((v == 10) || stops_here T v)
breaks-is T v e = λ i. ((ahead-some T v e).value i == 10) || stops-is T v e i

-- past a leaf the run goes on with more data
scratch-past : (t : Forest) (T V : Tokenizer) → V ≡ past None t T → V.tokenize_state ≡ T.tokenize_state
unfolding past
scratch-past t T V e = ap (λ (x : Tokenizer). x.tokenize_state) e

closes : (t : Forest) (rest : List Code) (T V : Tokenizer) → last_link (length T.events) None t ≡ None →
    V ≡ past None t T → ahead T ≡ leaf_codes t ++ rest →
    data_up_to (stops_of T.tokenize_state) (ahead T) ≡ behind t (more_data (stops_of T.tokenize_state) rest) →
    (ok : Bool) (U : Tokenizer) → at_break_ends V ok U → start_ends T ok U
closes t rest T V unlinked e whole reads ok U k =
    let s : TokenizeState = T.tokenize_state in
    let left : ahead V ≡ rest = ap ahead e ∙ ahead-past None t T rest whole in
    let End : TokenizeState → Type 0 = λ q. EndsAs (more_data (stops_of q)) None q V ok U in
    EndsAs-then (data_up_to (stops_of s)) (more_data (stops_of s)) None None t s s T V
    (e ∙ ap (past None t) (sym (scratched-same T)))
    (whole ∙ ap (λ cs. leaf_codes t ++ cs) (sym left))
    (sym unlinked)
    (reads ∙ ap (λ cs. behind t (more_data (stops_of s) cs)) (sym left))
    ok U (subst End (scratch-past t T V e) k)

ending-closes : (T : Tokenizer) (v : ℕ) → current_of T ≡ Some v → (v == 10) ≡ true → (ok : Bool) (U : Tokenizer) →
    at_break_ends (done ending T) ok U → start_ends T ok U
ending-closes T v e h ok U k =
    let b : BeginsWithValue v (ahead T) = ahead-some T v e in
    let cs : List Code = rest_of (ahead T) in
    closes (leaf N.LineEnding (b.code ∷ [])) cs T (done ending T) refl (done-leaf N.LineEnding None false b.code [] cs T b.whole) b.whole
    (ap (data_up_to (stops_of T.tokenize_state)) b.whole ∙ ending-then (stops_of T.tokenize_state) b.code cs (ap (λ x. x == 10) b.value ∙ h)) ok U k

-- past the first code of a stretch
opened : (T : Tokenizer) → IsOpen N.Data (done opening T)
unfolding applied
opened T = refl

data-past : (c : Code) (cs rest : List Code) (T : Tokenizer) → ahead T ≡ (c ∷ cs) ++ rest →
    exited N.Data (passed cs (done opening T)) ≡ past None (leaf N.Data (c ∷ cs)) T
unfolding passed applied
data-past c cs rest T e = leaf-past N.Data None false c cs rest T e

ahead-opening : (T : Tokenizer) → ahead (done opening T) ≡ rest_of (ahead T)
ahead-opening T = ahead-done opening T

scratch-opening : (T : Tokenizer) → (done opening T).tokenize_state ≡ T.tokenize_state
unfolding applied
scratch-opening T = refl

stretch-opening : (T : Tokenizer) →
    stretch_of (done opening T) ≡ (up_to_break (stops_of T.tokenize_state) (rest_of (ahead T))).0
stretch-opening T =
    ap (λ (q : TokenizeState). (up_to_break (stops_of q) (ahead (done opening T))).0) (scratch-opening T)
    ∙ ap (λ cs. (up_to_break (stops_of T.tokenize_state) cs).0) (ahead-opening T)

opening-closes : (T : Tokenizer) (v : ℕ) → current_of T ≡ Some v → (v == 10) ≡ false → (ok : Bool) (U : Tokenizer) →
    inside_ends (done opening T) ok U → start_ends T ok U
opening-closes T v e h ok U k =
    let b : BeginsWithValue v (ahead T) = ahead-some T v e in
    let cs : List Code = rest_of (ahead T) in
    let w : List Code × List Code = up_to_break (stops_of T.tokenize_state) cs in
    let whole : ahead T ≡ (b.code ∷ w.0) ++ w.1 = b.whole ∙ ap (λ xs. b.code ∷ xs) (sym (until-append (ends_stretch (stops_of T.tokenize_state)) cs)) in
    let V : Tokenizer = exited N.Data (passed (stretch_of (done opening T)) (done opening T)) in
    let is : V ≡ past None (leaf N.Data (b.code ∷ w.0)) T = ap (λ xs. exited N.Data (passed xs (done opening T))) (stretch-opening T) ∙ data-past b.code w.0 w.1 T whole in
    closes (leaf N.Data (b.code ∷ w.0)) w.1 T V refl is (whole ∙ ap (λ xs. xs ++ w.1) (sym (append-nil (b.code ∷ w.0))))
    (ap (data_up_to (stops_of T.tokenize_state)) b.whole ∙ data-then (stops_of T.tokenize_state) b.code cs (ap (λ x. x == 10) b.value ∙ h)) ok U k

-- at one place, between stretches comes behind the start
rank-low : (o : Option ℕ) (T : Tokenizer) → rank_at o T ≤ 3
rank-low None T = omega arith
rank-low (Some v) T =
    elim ((v == 10) || stops_here T v) as (λ b. (if b then 1 else 3) ≤ 3) [ true ↦ omega arith | false ↦ omega arith ]

passing-law : (W : Words) → EqualsLayer states W → (k : ℕ) (T : Tokenizer) → T.attempts ≡ [] → (v : ℕ) → current_of T ≡ Some v →
    GoesIn W (weight_at k T) (start_ends T) (passing v T)
passing-law W within k T alone v e =
    let P : Stepped → Type 0 = GoesIn W (weight_at k T) (start_ends T) in
    let one : 1 ≤ length (ahead T) = some-codes T v e in
    if-step P (v == 10) (stepped (Next DataAtBreak) (done ending T)) (stepped (Next DataInside) (done opening T))
    (λ h. let less : codes_left (done ending T) + 1 ≡ codes_left T = left-done ending T one in
    Goes-ops W (weight_at k T) (start_ends T) (Next DataAtBreak) (within DataAtBreak) ending T alone tt (omega (arith, less, rank-low (current_of (done ending T)) (done ending T))) (λ ok U k. ending-closes T v e h ok U k))
    (λ h. let less : codes_left (done opening T) + 1 ≡ codes_left T = left-done opening T one in
    Goes-ops W (weight_at k T) (start_ends T) (Next DataInside) (within DataInside) opening T alone (opened T) (omega (arith, less)) (λ ok U k. opening-closes T v e h ok U k))

nothing-read : (T : Tokenizer) → ahead T ≡ [] → data_up_to (stops_of T.tokenize_state) (ahead T) ≡ Some (empty, ahead T)
unfolding data_up_to
nothing-read T e = subst (λ cs. data_up_to (stops_of T.tokenize_state) cs ≡ Some (empty, cs)) (sym e) refl

nothing-more : (T : Tokenizer) → ahead T ≡ [] → more_data (stops_of T.tokenize_state) (ahead T) ≡ Some (empty, ahead T)
nothing-more T e = subst (λ cs. more_data (stops_of T.tokenize_state) cs ≡ Some (empty, cs)) (sym e) refl

-- where data does not stop, what comes is data and more of it
reads-more : (T : Tokenizer) (v : ℕ) → current_of T ≡ Some v → stops_here T v ≡ false →
    more_data (stops_of T.tokenize_state) (ahead T) ≡ data_up_to (stops_of T.tokenize_state) (ahead T)
reads-more T v e h =
    let b : BeginsWithValue v (ahead T) = ahead-some T v e in
    let cs : List Code = rest_of (ahead T) in
    ap (more_data (stops_of T.tokenize_state)) b.whole ∙ more-goes (stops_of T.tokenize_state) b.code cs (stops-is T v e ∙ h) ∙ ap (data_up_to (stops_of T.tokenize_state)) (sym b.whole)

more-here : (T : Tokenizer) (v : ℕ) → current_of T ≡ Some v → stops_here T v ≡ false → (ok : Bool) (U : Tokenizer) →
    start_ends T ok U → at_break_ends T ok U
more-here T v e h ok U k =
    EndsAs-same (more_data (stops_of T.tokenize_state)) (data_up_to (stops_of T.tokenize_state)) None T.tokenize_state T (reads-more T v e h) ok U k

pub start-law : (W : Words) → EqualsLayer states W → Law W start_words
start-law W within T alone _ =
    let n : ℕ = weight_at 4 T in
    let P : Stepped → Type 0 = GoesIn W n (start_ends T) in
    let on : more_data (stops_of T.tokenize_state) (ahead T) ≡ data_up_to (stops_of T.tokenize_state) (ahead T) → P (stepped (Retry DataAtBreak) T) = λ same.
    Goes-plain W n (start_ends T) (Retry DataAtBreak) (within DataAtBreak) T alone tt (omega (arith, rank-low (current_of T) T))
    (EndsAs-same (data_up_to (stops_of T.tokenize_state)) (more_data (stops_of T.tokenize_state)) None T.tokenize_state T (sym same)) in
    code-step P (current_of T) (λ o. start_at o T)
    (λ e. on (nothing-more T (ahead-none T e) ∙ sym (nothing-read T (ahead-none T e))))
    (λ v e. if-step P (marks T.tokenize_state.markers v) (passing v T) (stepped (Retry DataAtBreak) T)
    (λ h. passing-law W within 4 T alone v e)
    (λ h. on (reads-more T v e h)))

stop-here : (T : Tokenizer) (v : ℕ) → current_of T ≡ Some v → stops_here T v ≡ true →
    more_data (stops_of T.tokenize_state) (ahead T) ≡ Some (empty, ahead T)
stop-here T v e h =
    let b : BeginsWithValue v (ahead T) = ahead-some T v e in
    ap (more_data (stops_of T.tokenize_state)) b.whole ∙ more-stops (stops_of T.tokenize_state) b.code (rest_of (ahead T)) (stops-is T v e ∙ h) ∙ ap (λ cs. Some (empty, cs)) (sym b.whole)

-- In a stretch.

stack-consumed : (T : Tokenizer) → IsOpen N.Data T → IsOpen N.Data (done (Consume ∷ []) T)
unfolding applied
stack-consumed T h = h

stretch-ends : (T : Tokenizer) → stretch_of T ≡ [] → (ok : Bool) (U : Tokenizer) →
    at_break_ends (done (Exit N.Data ∷ []) T) ok U → inside_ends T ok U
stretch-ends T e ok U k =
    let same : exited N.Data T ≡ past_stretch T = ap (exited N.Data) (sym (passed-none T) ∙ ap (λ cs. passed cs T) (sym e)) in
    subst (λ (V : Tokenizer). at_break_ends V ok U) same k

-- past the rest of a stretch comes the same, one code further
stretch-same : (T : Tokenizer) (v : ℕ) → current_of T ≡ Some v → (v == 10) || stops_here T v ≡ false →
    past_stretch (done (Consume ∷ []) T) ≡ past_stretch T
stretch-same T v e h =
    let b : BeginsWithValue v (ahead T) = ahead-some T v e in
    let stops : List Code → Bool = stops_of T.tokenize_state in
    let X : Tokenizer = done (Consume ∷ []) T in
    let next : stretch_of X ≡ (up_to_break stops (rest_of (ahead T))).0 =
    ap (λ (q : TokenizeState). (up_to_break (stops_of q) (ahead X)).0) (scratch-done (Consume ∷ []) T) ∙ ap (λ cs. (up_to_break stops cs).0) (ahead-done (Consume ∷ []) T) in
    let here : stretch_of T ≡ b.code ∷ stretch_of X =
    ap (λ cs. (up_to_break stops cs).0) b.whole
    ∙ ap (λ (s : List Code × List Code). s.0) (break-goes stops b.code (rest_of (ahead T)) (breaks-is T v e ∙ h))
    ∙ ap (λ cs. b.code ∷ cs) (sym next) in
    ap (exited N.Data) (sym (passed-one b.code (stretch_of X) T) ∙ ap (λ cs. passed cs T) (sym here))

stretch-goes : (T : Tokenizer) (v : ℕ) → current_of T ≡ Some v → (v == 10) || stops_here T v ≡ false →
    (ok : Bool) (U : Tokenizer) → inside_ends (done (Consume ∷ []) T) ok U → inside_ends T ok U
stretch-goes T v e h ok U k = subst (λ (V : Tokenizer). at_break_ends V ok U) (stretch-same T v e h) k

stretch-stops : (T : Tokenizer) (v : ℕ) → current_of T ≡ Some v → (v == 10) || stops_here T v ≡ true → stretch_of T ≡ []
stretch-stops T v e h =
    let b : BeginsWithValue v (ahead T) = ahead-some T v e in
    let stops : List Code → Bool = stops_of T.tokenize_state in
    ap (λ cs. (up_to_break stops cs).0) b.whole ∙ ap (λ (s : List Code × List Code). s.0) (break-stops stops b.code (rest_of (ahead T)) (breaks-is T v e ∙ h))

-- Between stretches.

-- the Enter of a stretch leaves the place and the fields
here-entered : (T : Tokenizer) → current_of (done (Enter N.Data ∷ []) T) ≡ current_of T
unfolding applied
here-entered T = refl

stops-entered : (T : Tokenizer) (v : ℕ) → stops_here (done (Enter N.Data ∷ []) T) v ≡ stops_here T v
unfolding applied
stops-entered T v = refl

open-entered : (T : Tokenizer) → IsOpen N.Data (done (Enter N.Data ∷ []) T)
unfolding applied
open-entered T = refl

entered-closes : (T : Tokenizer) (v : ℕ) → current_of T ≡ Some v → stops_here T v ≡ false → (v == 10) ≡ false → (ok : Bool) (U : Tokenizer) →
    inside_ends (done (Enter N.Data ∷ []) T) ok U → at_break_ends T ok U
entered-closes T v e g h ok U k =
    let X : Tokenizer = done (Enter N.Data ∷ []) T in
    let goes : (v == 10) || stops_here X v ≡ false = ap (λ b. b || stops_here X v) h ∙ stops-entered T v ∙ g in
    more-here T v e g ok U
    (opening-closes T v e h ok U (subst (λ (V : Tokenizer). at_break_ends V ok U) (sym (stretch-same X v (here-entered T ∙ e) goes)) k))

rank-where : (T : Tokenizer) (v : ℕ) → current_of T ≡ Some v → stops_here T v ≡ false → (v == 10) ≡ false →
    rank_at (current_of T) T ≡ 3
rank-where T v e g h =
    ap (λ o. rank_at o T) e ∙ ap (λ b. if b || stops_here T v then 1 else 3) h ∙ ap (λ b. if b then 1 else 3) g

entering-law : (W : Words) → EqualsLayer states W → (T : Tokenizer) → T.attempts ≡ [] → (v : ℕ) → current_of T ≡ Some v → stops_here T v ≡ false →
    GoesIn W (weight_at (rank_at (current_of T) T) T) (at_break_ends T) (entering v T)
entering-law W within T alone v e g =
    let n : ℕ = weight_at (rank_at (current_of T) T) T in
    let P : Stepped → Type 0 = GoesIn W n (at_break_ends T) in
    let X : Tokenizer = done (Enter N.Data ∷ []) T in
    if-step P (v == 10) (stepped (Next DataAtBreak) (done ending T)) (stepped (Retry DataInside) X)
    (λ h. let less : codes_left (done ending T) + 1 ≡ codes_left T = left-done ending T (some-codes T v e) in
    Goes-ops W n (at_break_ends T) (Next DataAtBreak) (within DataAtBreak) ending T alone tt (omega (arith, less, rank-low (current_of (done ending T)) (done ending T)))
    (λ ok U k. more-here T v e g ok U (ending-closes T v e h ok U k)))
    (λ h. Goes-ops W n (at_break_ends T) (Retry DataInside) (within DataInside) (Enter N.Data ∷ []) T alone (open-entered T)
    (omega (arith, rank-where T v e g h, left-done (Enter N.Data ∷ []) T (omega arith)))
    (λ ok U k. entered-closes T v e g h ok U k))

pub at_break-law : (W : Words) → EqualsLayer states W → Law W at_break_words
at_break-law W within T alone _ =
    let n : ℕ = weight_at (rank_at (current_of T) T) T in
    let P : Stepped → Type 0 = GoesIn W n (at_break_ends T) in
    code-step P (current_of T) (λ o. at_break_at o T)
    (λ e. Goes-end W n (at_break_ends T) true T alone (omega arith) (EndsAs-here (more_data (stops_of T.tokenize_state)) T (nothing-more T (ahead-none T e))))
    (λ v e. if-step P (stops_here T v) (stepped State.Ok T) (entering v T)
    (λ h. Goes-end W n (at_break_ends T) true T alone (omega arith) (EndsAs-here (more_data (stops_of T.tokenize_state)) T (stop-here T v e h)))
    (λ h. entering-law W within T alone v e h))

-- Out of a stretch.

here-left : (T : Tokenizer) → current_of (done (Exit N.Data ∷ []) T) ≡ current_of T
unfolding applied
here-left T = refl

stops-left : (T : Tokenizer) (v : ℕ) → stops_here (done (Exit N.Data ∷ []) T) v ≡ stops_here T v
unfolding applied
stops-left T v = refl

-- where the code at hand begins no stretch
rank-stops : (T : Tokenizer) (v : ℕ) → current_of T ≡ Some v → (v == 10) || stops_here T v ≡ true →
    rank_at (current_of (done (Exit N.Data ∷ []) T)) (done (Exit N.Data ∷ []) T) ≡ 1
rank-stops T v e h =
    let X : Tokenizer = done (Exit N.Data ∷ []) T in
    ap (λ o. rank_at o X) (here-left T ∙ e) ∙ ap (λ b. if (v == 10) || b then 1 else 3) (stops-left T v) ∙ ap (λ b. if b then 1 else 3) h

rank-none : (T : Tokenizer) → current_of T ≡ None →
    rank_at (current_of (done (Exit N.Data ∷ []) T)) (done (Exit N.Data ∷ []) T) ≡ 1
rank-none T e = ap (λ o. rank_at o (done (Exit N.Data ∷ []) T)) (here-left T ∙ e)

pub inside-law : (W : Words) → EqualsLayer states W → Law W inside_words
inside-law W within T alone token =
    let n : ℕ = weight_at 2 T in
    let P : Stepped → Type 0 = GoesIn W n (inside_ends T) in
    let X : Tokenizer = done (Exit N.Data ∷ []) T in
    let leave : rank_at (current_of X) X ≡ 1 → stretch_of T ≡ [] → P (leaving T) = λ low h.
    Goes-ops W n (inside_ends T) (Retry DataAtBreak) (within DataAtBreak) (Exit N.Data ∷ []) T alone tt (omega (arith, low, left-done (Exit N.Data ∷ []) T (omega arith))) (λ ok U k. stretch-ends T h ok U k) in
    code-step P (current_of T) (λ o. inside_at o T)
    (λ e. leave (rank-none T e) (ap (λ cs. (up_to_break (stops_of T.tokenize_state) cs).0) (ahead-none T e)))
    (λ v e. if-step P ((v == 10) || stops_here T v) (leaving T) (stepped (Next DataInside) (done (Consume ∷ []) T))
    (λ h. leave (rank-stops T v e h) (stretch-stops T v e h))
    (λ h. let Y : Tokenizer = done (Consume ∷ []) T in
    let less : codes_left Y + 1 ≡ codes_left T = left-done (Consume ∷ []) T (some-codes T v e) in
    Goes-ops W n (inside_ends T) (Next DataInside) (within DataInside) (Consume ∷ []) T alone (stack-consumed T token) (omega (arith, less)) (λ ok U k. stretch-goes T v e h ok U k)))

-- over a code that is neither a line ending nor a marker, a call does no more than pass it
pub inside-steady : (T : Tokenizer) (set : List ℕ) → inside_stops T.tokenize_state ≡ Some set →
    is_free set (current_of T) ≡ true → inside_step T ≡ stepped (Next DataInside) (consumed T)
inside-steady T set known free =
    steady-at set T inside_at (stepped (Next DataInside) (consumed T)) free (λ v a b.
    let same : T.tokenize_state.markers ≡ set = cc in
    let other : stops_here T v ≡ false = ap (λ (m : List ℕ). marks m v) same ∙ b in
    rw (a, other) refl)

-- of these states, and of any other as it is given
pub laws : (W : Words) → EqualsLayer states W → (t : StateName → StateWords) → AreLawful W t → AreLawful W (states t)
laws W within t other H.DataStart = start-law W within
laws W within t other H.DataAtBreak = at_break-law W within
laws W within t other H.DataInside = inside-law W within
laws W within t other s = other s
