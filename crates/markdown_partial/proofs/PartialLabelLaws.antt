-- The laws of the states of a label.
use Rattle.std.proofs.Common.{◌≡◌, ℕ, ◌+◌, ◌≤◌, ◌==◌, ◌&&◌, ◌||◌, not, nat_le, codes, Bool, true, false, if◌then◌else◌, Option, Some, None, List, [], ◌∷◌, length, drop, refl, sym, ap, subst, ◌∙◌, arith}
use Rattle.std.proofs.Math.Bool.{and-true, or-true}
use Rattle.std.proofs.lemmas.Bool.{eqb-true, not-false, not-true, or_parts}
use Rattle.std.proofs.lemmas.Bool.Decides.{nat_tests}
use Rattle.std.proofs.lemmas.Grind.{common_steps}
use Rattle.markdown_content.specs.Codes.{Code, is_line_ending, is_blank}
use Rattle.markdown_content.specs.ListFunctions.{rest_of}
use Rattle.markdown_content.specs.Place.{point_of}
use Rattle.markdown_content.specs.declared.configuration.Rules.{Rules}
use Rattle.markdown_content.proofs.PlaceRules.{point_ahead}
use Rattle.markdown_engine.specs.Operations.{Op, Exit, Consume, current_of, ahead, applied, done, moves, scratched}
use Rattle.markdown_engine.specs.StateRuns.{Stepped, stepped}
use Rattle.markdown_engine.specs.Weights.{weight_at}
use Rattle.markdown_event.specs.declared.event.Name.TheVariants as N
use Rattle.markdown_event.specs.declared.state.State.TheVariants.{Next, Retry}
use Rattle.markdown_event.specs.declared.state.StateName.{StateName}
use Rattle.markdown_event.specs.declared.state.StateName.TheVariants as H
use Rattle.markdown_event.specs.declared.state.StateName.TheVariants.{LabelAtBreak, LabelEolAfter, LabelInside, LabelEscape, LabelNok, SpaceOrTabEolStart}
use Rattle.markdown_engine.specs.declared.tokenizer.TokenizeState.{TokenizeState}
use Rattle.markdown_engine.specs.declared.tokenizer.Tokenizer.{Tokenizer}
use Rattle.markdown_engine.proofs.LawSteps.{if-step, code-step}
use Rattle.markdown_engine.proofs.OperationFields.{ahead-none, ahead-some, BeginsWithValue, attempts-scratched, some-codes}
use Rattle.markdown_model.specs.CodeTests.{is_between, is_value, is_among}
use Rattle.markdown_model.specs.Resource.{StringNames, label}
use Rattle.markdown_plan.specs.Plan.{Plan, preceded, DoesAs, KeepsAs}
use Rattle.markdown_plan.specs.ScratchFields.{with_size}
use Rattle.markdown_plan.proofs.PlanSteps.{preceded-nil, preceded-twice, no-codes}
use Rattle.markdown_partial.specs.PartialSpaceOrTabEol.{WhitespaceAtRest}
use Rattle.markdown_partial.specs.LinkedTreeOps.{plan_of}
use Rattle.markdown_partial.specs.LinkedText.{ending, names_in, rules_in, joined, enter_text, text_entered, TextReady, break_ops, inside_ops}
use Rattle.markdown_partial.specs.PartialLabel.{rested, characters_in, counts_here, counted_up, sized, ending_passed, opening, start_at, start_step, closed, refused, passing, is_short, at_break_at, leaving, inside_at, escapes, escape_at, LabelStartReady, BreakReady, EolAfterReady, LabelInsideReady, EscapeReady, break_rank, start_ends}
use Rattle.markdown_partial.specs.PartialLabel.{text_from, fits, inside_plan, break_plan, at_break_ends, eol_after_ends, nok_ends, inside_ends, escape_ends, states_and_called, at_break_words, eol_after_words, escape_words, inside_words, nok_words, start_words, states}
use Rattle.markdown_partial.proofs.LinkedTreeLemmas.{EndsAs-linked}
use Rattle.markdown_partial.proofs.PartialLabelReadings.{counts, label-plain, fits-data, fits-ending, fits-none, fits-long, fits-seen, fits-unseen, label-here, label-none, label-linked}
use Rattle.markdown_partial.proofs.LinkedTextLineEnding.{PassedEnding, DoesAs-ending, ending-law}
use Rattle.markdown_partial.proofs.LinkedTextReadings.{answer-none, breaks-end, breaks-stop, breaks-unfit, breaks-refused, breaks-data, breaks-ending, breaks-blank, insides-end, insides-next, insides-taken, insides-bare, leave-end, leave-stop, leave-refused, leave-ending}
use Rattle.markdown_partial.proofs.LinkedTextSteps.{open-append, open-closed, open-rest, text-after, text-same, text-kept, rest-joined, DoesAs-fails, state-by, stays-data, moves-data, depth-data}
use Rattle.markdown_partial.proofs.BoolLemmas.{or-by}
use Rattle.markdown_model.proofs.GrammarSteps.{and-left, and-right}
use Rattle.markdown_engine.specs.StateWords.{StateWords, Words, Law, GoesIn}
use Rattle.markdown_plan.proofs.LawStepsOfLayer.{GoesOn-map, Goes-plain, Goes-end, Goes-on, Goes-kept, Goes-ok, Goes-no, FollowsIn, follows}
use Rattle.markdown_plan.specs.LayerEquation.{EqualsLayer, AreLawful}

-- The conditions.

rest-sized : (n : Bool) (c : ℕ) (s : TokenizeState) → WhitespaceAtRest s → WhitespaceAtRest (sized n c s)
rest-sized n c s r = record { space = ap (sized n c) r.space; eol = ap (sized n c) r.eol }

rest-ending : (n : Bool) (s : TokenizeState) → WhitespaceAtRest s → WhitespaceAtRest (ending_passed n s)
rest-ending n s r = record { space = ap (ending_passed n) r.space; eol = ap (ending_passed n) r.eol }

rest-size : (n : ℕ) (s : TokenizeState) → WhitespaceAtRest s → WhitespaceAtRest (with_size n s)
rest-size n s r = record { space = ap (with_size n) r.space; eol = ap (with_size n) r.eol }

opened-ready : (T : Tokenizer) → 1 ≤ length (ahead T) → LabelStartReady T →
    BreakReady (done (opening (names_in T.tokenize_state)) T)
unfolding applied
opened-ready T more k =
    let s : TokenizeState = T.tokenize_state in
    let after : TextReady (done (opening (names_in s)) T) = text-kept (opening (names_in s)) T more refl k.text in
    let none : s.size ≡ 0 = ap (λ (q : TokenizeState). q.size) (sym k.rest) in
    let first : s.connect ≡ false = ap (λ (q : TokenizeState). q.connect) (sym k.rest) in
    record {
      text = record { short = after.short; resting = after.resting };
      stand_open = refl;
      small = omega (arith, none);
      linked = λ h. let no : false ≡ true = sym first ∙ h in cc;
    }

left-ready : (T : Tokenizer) → LabelInsideReady T → BreakReady (done (Exit N.Data ∷ []) T)
unfolding applied
left-ready T k =
    let after : TextReady (done (Exit N.Data ∷ []) T) = text-kept (Exit N.Data ∷ []) T (no-codes T) refl k.text in
    record {
      text = record { short = after.short; resting = after.resting };
      stand_open = open-rest N.Data T.tokenize_state.token_3 T.tokenize_state.token_1 T.stack k.stand_open;
      small = k.small;
      linked = λ h. open-closed T.events _ k.linked refl;
    }

-- at most one counts
counted-low : (b : Bool) (n m : ℕ) → n + 1 ≤ m → counted_up b n ≤ m
counted-low true n m h = h
counted-low false n m h = omega (arith, h)

below : (n : ℕ) → nat_le n 999 ≡ true → n + 1 ≤ 1000
below n h = grind (arith, nat_tests, common_steps)

passed-ready : (n : Bool) (c : ℕ) (T : Tokenizer) → 1 ≤ length (ahead T) → T.tokenize_state.size + 1 ≤ 1000 → LabelInsideReady T →
    LabelInsideReady (scratched (sized n c T.tokenize_state) (done (Consume ∷ []) T))
unfolding applied scratched
passed-ready n c T more h k =
    let after : TextReady (scratched (sized n c T.tokenize_state) (done (Consume ∷ []) T)) = text-after (Consume ∷ []) (sized n c T.tokenize_state) T more k.text (rest-sized n c T.tokenize_state k.text.resting) in
    record { text = record { short = after.short; resting = after.resting }; stand_open = k.stand_open; small = counted-low n T.tokenize_state.size 1001 (omega (arith, h)); connect = k.connect; linked = k.linked }

taken-ready : (n : Bool) (T : Tokenizer) → 1 ≤ length (ahead T) → EscapeReady T →
    LabelInsideReady (scratched (with_size (counted_up n T.tokenize_state.size) T.tokenize_state) (done (Consume ∷ []) T))
unfolding applied scratched
taken-ready n T more k =
    let s : TokenizeState = T.tokenize_state in
    let size : ℕ = counted_up n s.size in
    let after : TextReady (scratched (with_size size s) (done (Consume ∷ []) T)) = text-after (Consume ∷ []) (with_size size s) T more k.inside.text (rest-size size s k.inside.text.resting) in
    record { text = record { short = after.short; resting = after.resting }; stand_open = k.inside.stand_open; small = counted-low n s.size 1001 (omega (arith, k.fits)); connect = k.inside.connect; linked = k.inside.linked }

-- a backslash is no whitespace
slash-seen : (c : ℕ) (seen : Bool) → (c == 92) ≡ true → (seen || not (c == 32 || c == 9)) ≡ true
slash-seen c seen h = ap (λ v. seen || not (v == 32 || v == 9)) (eqb-true c 92 h) ∙ or-true seen

slash-ready : (n : Bool) (c : ℕ) (T : Tokenizer) → 1 ≤ length (ahead T) → T.tokenize_state.size + 1 ≤ 1000 → (c == 92) ≡ true →
    LabelInsideReady T → EscapeReady (scratched (sized n c T.tokenize_state) (done (Consume ∷ []) T))
unfolding scratched
slash-ready n c T more h e k =
    record { inside = passed-ready n c T more h k; fits = counted-low n T.tokenize_state.size 1000 h; seen = slash-seen c T.tokenize_state.seen e }

data-ready : (b : Bool) (T : Tokenizer) → BreakReady T →
    LabelInsideReady (scratched (joined T.tokenize_state) (done (enter_text b ∷ []) T))
unfolding scratched applied
data-ready true T k =
    let r : TokenizeState = joined T.tokenize_state in
    let after : TextReady (scratched r (done (enter_text true ∷ []) T)) = text-after (enter_text true ∷ []) r T (no-codes T) k.text (rest-joined T.tokenize_state k.text.resting) in
    record { text = record { short = after.short; resting = after.resting }; stand_open = ap (λ ns. N.Data ∷ ns) k.stand_open; small = k.small; connect = refl; linked = open-append T.events _ refl }
data-ready false T k =
    let r : TokenizeState = joined T.tokenize_state in
    let after : TextReady (scratched r (done (enter_text false ∷ []) T)) = text-after (enter_text false ∷ []) r T (no-codes T) k.text (rest-joined T.tokenize_state k.text.resting) in
    record { text = record { short = after.short; resting = after.resting }; stand_open = ap (λ ns. N.Data ∷ ns) k.stand_open; small = k.small; connect = refl; linked = open-append T.events _ refl }

few : (n : ℕ) → n ≤ 999 → nat_le n 999 ≡ true
few n h = grind (arith, nat_tests, common_steps)

at-most : (n : ℕ) → nat_le n 999 ≡ true → n ≤ 999
at-most n h = grind (arith, nat_tests, common_steps)

eol-ready : (c : Code) (cs : List Code) (T U : Tokenizer) → BreakReady T → is_short T ≡ true → PassedEnding T.tokenize_state.connect c cs T U →
    EolAfterReady U
eol-ready c cs T U k short j =
    record {
      text = text-same T U k.text j.fewer j.scratch;
      stand_open =
          subst (λ (s : TokenizeState). U.stack ≡ s.token_3 ∷ s.token_1 ∷ drop 2 U.stack) (sym j.scratch) (subst (λ ns. ns ≡ T.tokenize_state.token_3 ∷ T.tokenize_state.token_1 ∷ drop 2 ns) (sym j.stack) k.stand_open);
      small = subst (λ (s : TokenizeState). s.size ≤ 999) (sym j.scratch) (at-most T.tokenize_state.size short);
      linked = j.linked;
    }

joined-ready : (n : Bool) (T : Tokenizer) → EolAfterReady T → BreakReady (scratched (ending_passed n T.tokenize_state) T)
unfolding scratched
joined-ready n T k =
    record { text = record { short = k.text.short; resting = rest-ending n T.tokenize_state k.text.resting }; stand_open = k.stand_open; small = counted-low n T.tokenize_state.size 1001 (omega (arith, k.small)); linked = λ h. k.linked }

-- Tests.

-- what is asked at the place is asked of the code there
same-counts : (T : Tokenizer) (c : ℕ) (b : BeginsWithValue c (ahead T)) → counts_here c T ≡ counts (characters_in T) b.code
same-counts T c b =
    let there : point_of T.cursor ≡ b.code.start = point_ahead T.cursor b.code (rest_of (ahead T)) b.whole in
    (λ i. not (characters_in T) || (not (is_between 128 191 (sym b.value i)) && (there i).vs == 0))

-- one of two tests fails
and-by : {Q : Type 0} (a b : Bool) → a && b ≡ false → (a ≡ false → Q) → (b ≡ false → Q) → Q
and-by false b h f g = f refl
and-by true b h f g = g h

abbrev takes : Code → Bool
takes c = is_among (codes "[\\]") c

-- a label with too many codes does not hold
long-breaks : (characters : Bool) (names : StringNames) (size : ℕ) (seen connect : Bool) (cs : List Code) → nat_le size 999 ≡ false →
    break_plan characters names size seen connect cs ≡ None
long-breaks characters names size seen connect cs h =
    answer-none (fits characters size seen) (break_ops connect) (ending names) [] (text_from false cs) (λ r x. fits-long characters size seen r.0 h)

long-insides : (characters : Bool) (names : StringNames) (size : ℕ) (seen slash : Bool) (cs : List Code) → nat_le size 999 ≡ false →
    inside_plan characters names size seen slash cs ≡ None
long-insides characters names size seen slash cs h =
    answer-none (fits characters size seen) inside_ops (ending names) [] (text_from slash cs) (λ r x. fits-long characters size seen r.0 h)

-- data ends where a break is
leaves-here : (characters : Bool) (names : StringNames) (size : ℕ) (seen : Bool) (c : Code) (cs : List Code) →
    (is_line_ending c || (is_value 91 c || is_value 93 c)) ≡ true →
    inside_plan characters names size seen false (c ∷ cs) ≡ preceded (Exit N.Data ∷ []) (break_plan characters names size seen true (c ∷ cs))
leaves-here characters names size seen c cs h =
    or-by (is_line_ending c) (is_value 91 c || is_value 93 c) h
    (λ g. leave-ending (is_value 93) takes (is_value 91) label-plain (ending names) (fits characters size seen) c cs g)
    (λ g. or-by (is_value 91 c) (is_value 93 c) g
    (λ f. leave-refused (is_value 93) takes (is_value 91) label-plain (ending names) (fits characters size seen) c cs (ap (λ v. v == 93) (eqb-true c.value 91 f)) f)
    (λ f. leave-stop (is_value 93) takes (is_value 91) label-plain (ending names) (fits characters size seen) c cs f))

leaves-long : (characters : Bool) (names : StringNames) (size : ℕ) (seen : Bool) (cs : List Code) → nat_le size 999 ≡ false →
    inside_plan characters names size seen false cs ≡ preceded (Exit N.Data ∷ []) (break_plan characters names size seen true cs)
leaves-long characters names size seen cs h =
    long-insides characters names size seen false cs h ∙ ap (preceded (Exit N.Data ∷ [])) (sym (long-breaks characters names size seen true cs h))

taken-line : (c : Code) → takes c ≡ true → is_line_ending c ≡ false
taken-line c h =
    or-by (c.value == 91) _ h (λ g. ap (λ v. v == 10) (eqb-true c.value 91 g)) (λ g.
    or-by (c.value == 92) _ g (λ f. ap (λ v. v == 10) (eqb-true c.value 92 f)) (λ f.
    or-by (c.value == 93) false f (λ e. ap (λ v. v == 10) (eqb-true c.value 93 e)) (λ e. let no : false ≡ true = e in cc)))

-- The ranks.

break-low : (o : Option ℕ) (T : Tokenizer) → break_rank o T ≤ 11
break-low None T = omega arith
break-low (Some c) T =
    elim (not (c == 10 || (c == 91 || c == 93)) && is_short T) as (λ b. (if b then 11 else 9) ≤ 11) [ true ↦ omega arith | false ↦ omega arith ]

break-high : (o : Option ℕ) (T : Tokenizer) → 9 ≤ break_rank o T
break-high None T = omega arith
break-high (Some c) T =
    elim (not (c == 10 || (c == 91 || c == 93)) && is_short T) as (λ b. 9 ≤ (if b then 11 else 9)) [ true ↦ omega arith | false ↦ omega arith ]

-- behind a stretch
rank-end : (T : Tokenizer) → current_of T ≡ None →
    break_rank (current_of (done (Exit N.Data ∷ []) T)) (done (Exit N.Data ∷ []) T) ≡ 9
unfolding applied
rank-end T e = ap (λ o. break_rank o (done (Exit N.Data ∷ []) T)) e

rank-stop : (T : Tokenizer) (c : ℕ) → current_of T ≡ Some c → not (c == 10 || (c == 91 || c == 93)) && is_short T ≡ false →
    break_rank (current_of (done (Exit N.Data ∷ []) T)) (done (Exit N.Data ∷ []) T) ≡ 9
unfolding applied
rank-stop T c e h = ap (λ o. break_rank o (done (Exit N.Data ∷ []) T)) e ∙ ap (λ b. if b then 11 else 9) h

-- before one
rank-goes : (T : Tokenizer) (c : ℕ) → current_of T ≡ Some c → (c == 91) ≡ false → (c == 93) ≡ false → (c == 10) ≡ false → is_short T ≡ true →
    break_rank (current_of T) T ≡ 11
rank-goes T c e h g f short =
    ap (λ o. break_rank o T) e
    ∙ ap (λ b. if not (b || (c == 91 || c == 93)) && is_short T then 11 else 9) f
    ∙ ap (λ b. if not (b || c == 93) && is_short T then 11 else 9) h
    ∙ ap (λ b. if not b && is_short T then 11 else 9) g
    ∙ ap (λ b. if b then 11 else 9) short

-- The laws.

module _ (W : Words) (within : EqualsLayer states_and_called W) where
  pub nok-law : Law W nok_words
  nok-law T alone _ =
      Goes-end W (weight_at 1 T) (nok_ends T) false (scratched (rested T.tokenize_state) T) (attempts-scratched _ T ∙ alone) (omega arith) (λ ok U k. k)

  eol-says : (n : Bool) (T : Tokenizer) (ok : Bool) (U : Tokenizer) → at_break_ends (scratched (ending_passed n T.tokenize_state) T) ok U →
      DoesAs 2 (break_plan (characters_in T) (names_in T.tokenize_state) (counted_up n T.tokenize_state.size) T.tokenize_state.seen true) (rested T.tokenize_state) (scratched (ending_passed n T.tokenize_state) T) ok U
  unfolding scratched
  eol-says n T ok U k = k

  pub eol_after-law : Law W eol_after_words
  eol_after-law T alone k =
      let s : TokenizeState = T.tokenize_state in
      let n : Bool = characters_in T && is_short T in
      let q : Bool → Plan = λ b. break_plan (characters_in T) (names_in s) (counted_up b s.size) s.seen true in
      let V : Tokenizer = scratched (ending_passed n s) T in
      let counts : characters_in T ≡ n = sym (ap (λ b. characters_in T && b) (few s.size k.small) ∙ and-true (characters_in T)) in
      Goes-on W 12 2 (q (characters_in T)) (q n) [] (rested s) (ending_passed n s) T (Retry LabelAtBreak) (within LabelAtBreak) alone refl (no-codes T) (omega (arith, break-low (current_of V) V))
      (preceded-nil (q (characters_in T) (ahead T)) ∙ ap (λ b. preceded [] (q b (ahead T))) counts)
      (joined-ready n T k)
      (λ ok U x. eol-says n T ok U x)

  -- In a stretch.

  sized-inside : (n : Bool) (c : ℕ) (T : Tokenizer) (ok : Bool) (U : Tokenizer) →
      inside_ends (scratched (sized n c T.tokenize_state) (done (Consume ∷ []) T)) ok U →
      DoesAs 3 (inside_plan (characters_in T) (names_in T.tokenize_state) (counted_up n T.tokenize_state.size) (sized n c T.tokenize_state).seen false) (rested T.tokenize_state) (scratched (sized n c T.tokenize_state) (done (Consume ∷ []) T)) ok U
  unfolding scratched applied
  sized-inside n c T ok U k = k

  sized-escape : (n : Bool) (c : ℕ) (T : Tokenizer) (ok : Bool) (U : Tokenizer) →
      escape_ends (scratched (sized n c T.tokenize_state) (done (Consume ∷ []) T)) ok U →
      DoesAs 3 (inside_plan (characters_in T) (names_in T.tokenize_state) (counted_up n T.tokenize_state.size) (sized n c T.tokenize_state).seen true) (rested T.tokenize_state) (scratched (sized n c T.tokenize_state) (done (Consume ∷ []) T)) ok U
  unfolding scratched applied
  sized-escape n c T ok U k = k

  -- on past a code that passes
  goes-inside : (T : Tokenizer) → T.attempts ≡ [] → LabelInsideReady T → T.tokenize_state.size + 1 ≤ 1000 → (c : ℕ) →
      current_of T ≡ Some c →
      inside_plan (characters_in T) (names_in T.tokenize_state) T.tokenize_state.size T.tokenize_state.seen false (ahead T) ≡ preceded (Consume ∷ []) (inside_plan (characters_in T) (names_in T.tokenize_state) (counted_up (counts_here c T) T.tokenize_state.size) (sized (counts_here c T) c T.tokenize_state).seen (c == 92) (drop 1 (ahead T))) →
      GoesIn W (weight_at 10 T) (inside_ends T) (passing c T)
  goes-inside T alone k small c h same =
      let s : TokenizeState = T.tokenize_state in
      let n : Bool = counts_here c T in
      let p : Plan = inside_plan (characters_in T) (names_in s) s.size s.seen false in
      let q : Bool → Plan = inside_plan (characters_in T) (names_in s) (counted_up n s.size) (sized n c s).seen in
      let V : Tokenizer = scratched (sized n c s) (done (Consume ∷ []) T) in
      let more : 1 ≤ length (ahead T) = some-codes T c h in
      state-by (λ st. GoesIn W (weight_at 10 T) (inside_ends T) (stepped st V)) (c == 92) (Next LabelEscape) (Next LabelInside)
      (λ f. Goes-on W 10 3 p (q true) (Consume ∷ []) (rested s) (sized n c s) T (Next LabelEscape) (within LabelEscape) alone refl more (omega arith)
      (same ∙ ap (λ b. preceded (Consume ∷ []) (q b (drop 1 (ahead T)))) f)
      (slash-ready n c T more small f k)
      (λ ok U x. sized-escape n c T ok U x))
      (λ f. Goes-on W 10 3 p (q false) (Consume ∷ []) (rested s) (sized n c s) T (Next LabelInside) (within LabelInside) alone refl more (omega arith)
      (same ∙ ap (λ b. preceded (Consume ∷ []) (q b (drop 1 (ahead T)))) f)
      (passed-ready n c T more small k)
      (λ ok U x. sized-inside n c T ok U x))

  goes-leave : (T : Tokenizer) → T.attempts ≡ [] → LabelInsideReady T →
      break_rank (current_of (done (Exit N.Data ∷ []) T)) (done (Exit N.Data ∷ []) T) ≡ 9 →
      inside_plan (characters_in T) (names_in T.tokenize_state) T.tokenize_state.size T.tokenize_state.seen false (ahead T) ≡ preceded (Exit N.Data ∷ []) (break_plan (characters_in T) (names_in T.tokenize_state) T.tokenize_state.size T.tokenize_state.seen true (ahead T)) →
      GoesIn W (weight_at 10 T) (inside_ends T) (leaving T)
  unfolding applied
  goes-leave T alone k low same =
      let s : TokenizeState = T.tokenize_state in
      let q : Plan = break_plan (characters_in T) (names_in s) s.size s.seen s.connect in
      Goes-kept W 10 3 (inside_plan (characters_in T) (names_in s) s.size s.seen false) q (Exit N.Data ∷ []) (rested s) T (Retry LabelAtBreak) (within LabelAtBreak) alone refl (no-codes T) (omega (arith, low))
      (same ∙ ap (λ b. preceded (Exit N.Data ∷ []) (break_plan (characters_in T) (names_in s) s.size s.seen b (ahead T))) (sym k.connect))
      (left-ready T k)
      (λ ok U x. x)

  pub inside-law : Law W inside_words
  inside-law T alone k =
      let s : TokenizeState = T.tokenize_state in
      let names : StringNames = names_in s in
      let p : Plan = inside_plan (characters_in T) names s.size s.seen false in
      let P : Stepped → Type 0 = GoesIn W (weight_at 10 T) (inside_ends T) in
      let here : List Code → Type 0 = λ xs. p xs ≡ preceded (Exit N.Data ∷ []) (break_plan (characters_in T) names s.size s.seen true xs) in
      code-step P (current_of T) (λ o. inside_at o T)
      (λ e. goes-leave T alone k (rank-end T e) (subst here (sym (ahead-none T e)) (leave-end (is_value 93) takes (is_value 91) label-plain (ending names) (fits (characters_in T) s.size s.seen))))
      (λ c e.
      let b : BeginsWithValue c (ahead T) = ahead-some T c e in
      let cs : List Code = rest_of (ahead T) in
      if-step P (not (c == 10 || (c == 91 || c == 93)) && is_short T) _ _
      (λ h.
      let goes : (c == 10 || (c == 91 || c == 93)) ≡ false = not-true _ (and-left _ _ h) in
      let line : is_line_ending b.code ≡ false = ap (λ v. v == 10) b.value ∙ (or_parts _ _ goes).0 in
      let n : Bool = counts (characters_in T) b.code in
      goes-inside T alone k (below s.size (and-right _ _ h)) c e
      (ap p b.whole
      ∙ insides-next (is_value 93) takes (is_value 91) label-plain (ending names) (fits (characters_in T) s.size s.seen) (fits (characters_in T) (counted_up n s.size) (s.seen || not (is_blank b.code))) (c == 92) b.code cs (ap (λ v. v == 93) b.value ∙ (or_parts _ _ (or_parts _ _ goes).1).1) (ap (λ v. v == 91) b.value ∙ (or_parts _ _ (or_parts _ _ goes).1).0) line (ap (λ v. v == 92) b.value) (λ text. fits-data (characters_in T) s.size s.seen b.code text line)
      ∙ ap (λ m. preceded (Consume ∷ []) (inside_plan (characters_in T) names (counted_up m s.size) (s.seen || not (is_blank b.code)) (c == 92) cs)) (sym (same-counts T c b))
      ∙ ap (λ v. preceded (Consume ∷ []) (inside_plan (characters_in T) names (counted_up (counts_here c T) s.size) (s.seen || not (v == 32 || v == 9)) (c == 92) cs)) b.value))
      (λ h. and-by (not (c == 10 || (c == 91 || c == 93))) (is_short T) h
      (λ g. goes-leave T alone k (rank-stop T c e h) (subst here (sym b.whole) (leaves-here (characters_in T) names s.size s.seen b.code cs (ap (λ v. v == 10 || (v == 91 || v == 93)) b.value ∙ not-false _ g))))
      (λ g. goes-leave T alone k (rank-stop T c e h) (leaves-long (characters_in T) names s.size s.seen (ahead T) g))))

  escape-goes : (T : Tokenizer) → T.attempts ≡ [] → EscapeReady T →
      inside_plan (characters_in T) (names_in T.tokenize_state) T.tokenize_state.size T.tokenize_state.seen true (ahead T) ≡ inside_plan (characters_in T) (names_in T.tokenize_state) T.tokenize_state.size T.tokenize_state.seen false (ahead T) →
      GoesIn W (weight_at 11 T) (escape_ends T) (stepped (Retry LabelInside) T)
  escape-goes T alone k same =
      let s : TokenizeState = T.tokenize_state in
      let q : Bool → Plan = inside_plan (characters_in T) (names_in s) s.size s.seen in
      Goes-kept W 11 3 (q true) (q false) [] (rested s) T (Retry LabelInside) (within LabelInside) alone refl (no-codes T) (omega arith)
      (same ∙ preceded-nil (q false (ahead T)))
      k.inside
      (λ ok U x. x)

  taken-says : (n : Bool) (T : Tokenizer) (ok : Bool) (U : Tokenizer) →
      inside_ends (scratched (with_size (counted_up n T.tokenize_state.size) T.tokenize_state) (done (Consume ∷ []) T)) ok U →
      DoesAs 3 (inside_plan (characters_in T) (names_in T.tokenize_state) (counted_up n T.tokenize_state.size) T.tokenize_state.seen false) (rested T.tokenize_state) (scratched (with_size (counted_up n T.tokenize_state.size) T.tokenize_state) (done (Consume ∷ []) T)) ok U
  unfolding scratched applied
  taken-says n T ok U k = k

  pub escape-law : Law W escape_words
  escape-law T alone k =
      let s : TokenizeState = T.tokenize_state in
      let names : StringNames = names_in s in
      let p : Plan = inside_plan (characters_in T) names s.size s.seen true in
      let P : Stepped → Type 0 = GoesIn W (weight_at 11 T) (escape_ends T) in
      let same : List Code → Type 0 = λ xs. p xs ≡ inside_plan (characters_in T) names s.size s.seen false xs in
      code-step P (current_of T) (λ o. escape_at o T)
      (λ e. escape-goes T alone k (subst same (sym (ahead-none T e)) (insides-end (is_value 93) takes (is_value 91) label-plain (ending names) (fits (characters_in T) s.size s.seen) true ∙ sym (insides-end (is_value 93) takes (is_value 91) label-plain (ending names) (fits (characters_in T) s.size s.seen) false))))
      (λ c e.
      let b : BeginsWithValue c (ahead T) = ahead-some T c e in
      let cs : List Code = rest_of (ahead T) in
      if-step P (escapes c) _ _
      (λ h.
      let taken : takes b.code ≡ true = ap escapes b.value ∙ h in
      let line : is_line_ending b.code ≡ false = taken-line b.code taken in
      let n : Bool = counts_here c T in
      let q : Plan = inside_plan (characters_in T) names (counted_up n s.size) s.seen false in
      let seen : (s.seen || not (is_blank b.code)) ≡ s.seen = ap (λ x. x || not (is_blank b.code)) k.seen ∙ sym k.seen in
      Goes-on W 11 3 p q (Consume ∷ []) (rested s) (with_size (counted_up n s.size) s) T (Next LabelInside) (within LabelInside) alone refl (some-codes T c e) (omega arith)
      (ap p b.whole ∙ insides-taken (is_value 93) takes (is_value 91) label-plain (ending names) (fits (characters_in T) s.size s.seen) (fits (characters_in T) (counted_up n s.size) s.seen) b.code cs taken line (λ text. fits-data (characters_in T) s.size s.seen b.code text line ∙ (λ i. fits (characters_in T) (counted_up (sym (same-counts T c b) i) s.size) (seen i) text)))
      (taken-ready n T (some-codes T c e) k)
      (λ ok U x. taken-says n T ok U x))
      (λ h. escape-goes T alone k (subst same (sym b.whole) (insides-bare (is_value 93) takes (is_value 91) label-plain (ending names) (fits (characters_in T) s.size s.seen) b.code cs (ap escapes b.value ∙ h)))))

  -- Between two stretches.

  nok-says : (T : Tokenizer) →
      break_plan (characters_in T) (names_in T.tokenize_state) T.tokenize_state.size T.tokenize_state.seen T.tokenize_state.connect (ahead T) ≡ None →
      (ok : Bool) (U : Tokenizer) → nok_ends T ok U → at_break_ends T ok U
  nok-says T e ok U x =
      DoesAs-fails 2 (break_plan (characters_in T) (names_in T.tokenize_state) T.tokenize_state.size T.tokenize_state.seen T.tokenize_state.connect) (rested T.tokenize_state) T e ok U x

  nok-goes : (n : ℕ) → 9 ≤ n → (T : Tokenizer) →
      break_plan (characters_in T) (names_in T.tokenize_state) T.tokenize_state.size T.tokenize_state.seen T.tokenize_state.connect (ahead T) ≡ None →
      FollowsIn W (weight_at n T) (at_break_ends T) (Next LabelNok) T
  nok-goes n high T e = follows W _ _ (Next LabelNok) (within LabelNok) T tt (omega (arith, high)) (nok-says T e)

  refuses-here : (n : ℕ) → 9 ≤ n → (T : Tokenizer) → T.attempts ≡ [] →
      break_plan (characters_in T) (names_in T.tokenize_state) T.tokenize_state.size T.tokenize_state.seen T.tokenize_state.connect (ahead T) ≡ None →
      GoesIn W (weight_at n T) (at_break_ends T) (refused T)
  refuses-here n high T alone e =
      Goes-plain W (weight_at n T) (at_break_ends T) (Retry LabelNok) (within LabelNok) T alone tt (omega (arith, high)) (nok-says T e)

  inside-says : (b : Bool) (T : Tokenizer) (ok : Bool) (U : Tokenizer) →
      inside_ends (scratched (joined T.tokenize_state) (done (enter_text b ∷ []) T)) ok U →
      DoesAs 3 (inside_plan (characters_in T) (names_in T.tokenize_state) T.tokenize_state.size T.tokenize_state.seen false) (rested T.tokenize_state) (scratched (joined T.tokenize_state) (done (enter_text b ∷ []) T)) ok U
  unfolding scratched applied
  inside-says b T ok U k = k

  -- data begins
  data-goes : (n : ℕ) → n ≡ 11 → (T : Tokenizer) → T.attempts ≡ [] → BreakReady T →
      break_plan (characters_in T) (names_in T.tokenize_state) T.tokenize_state.size T.tokenize_state.seen T.tokenize_state.connect (ahead T) ≡ preceded (enter_text T.tokenize_state.connect ∷ []) (inside_plan (characters_in T) (names_in T.tokenize_state) T.tokenize_state.size T.tokenize_state.seen false (ahead T)) →
      GoesIn W (weight_at n T) (at_break_ends T) (stepped (Retry LabelInside) (text_entered T))
  data-goes n high T alone k same =
      let s : TokenizeState = T.tokenize_state in
      let connect : Bool = s.connect in
      let os : List Op = enter_text connect ∷ [] in
      let p : Plan = break_plan (characters_in T) (names_in s) s.size s.seen connect in
      let q : Plan = inside_plan (characters_in T) (names_in s) s.size s.seen false in
      let V : Tokenizer = text_entered T in
      let none : moves os ≡ 0 = moves-data connect in
      Goes-on W n 2 p q os (rested s) (joined s) T (Retry LabelInside) (within LabelInside) alone (stays-data connect) (omega (arith, none)) (omega (arith, none, high))
      (same ∙ ap (λ m. preceded os (q (drop m (ahead T)))) (sym none))
      (data-ready connect T k)
      (λ ok U x. depth-data connect (λ d. DoesAs d q (rested s) V ok U) (inside-says connect T ok U x))

  -- behind a line ending and blank codes
  eol-goes : (n : ℕ) (T : Tokenizer) → BreakReady T → is_short T ≡ true → (c : Code) (cs : List Code) → ahead T ≡ c ∷ cs → is_line_ending c ≡ true →
      (U : Tokenizer) → PassedEnding T.tokenize_state.connect c cs T U →
      FollowsIn W (weight_at n T) (at_break_ends T) (Next LabelEolAfter) U
  eol-goes n T k short c cs whole line U j =
      let s : TokenizeState = T.tokenize_state in
      let names : StringNames = names_in s in
      let p : Plan = break_plan (characters_in T) names s.size s.seen s.connect in
      let q : Plan = break_plan (characters_in T) names (counted_up (characters_in T) s.size) s.seen true in
      let reads : p (ahead T) ≡ _ =
      ap p whole ∙ breaks-ending (is_value 93) takes (is_value 91) label-plain (ending names) (fits (characters_in T) s.size s.seen) (fits (characters_in T) (counted_up (characters_in T) s.size) s.seen) s.connect c cs line j.filled (λ ws text w b. fits-ending (characters_in T) s.size s.seen c ws text line w b) in
      follows W _ _ (Next LabelEolAfter) (within LabelEolAfter) U (eol-ready c cs T U k short j) (omega (arith, j.fewer))
      (λ ok V x. DoesAs-ending p q s.connect c cs (rested s) T U j reads ok V (same-rules U ok V j.scratch j.rules x))
    where
      same-rules : (U : Tokenizer) (ok : Bool) (V : Tokenizer) → U.tokenize_state ≡ T.tokenize_state → rules_in U ≡ rules_in T → eol_after_ends U ok V →
          DoesAs 2 (break_plan (characters_in T) (names_in T.tokenize_state) (counted_up (characters_in T) T.tokenize_state.size) T.tokenize_state.seen true) (rested T.tokenize_state) U ok V
      same-rules U ok V e f x =
          subst (λ (r : TokenizeState). DoesAs 2 (break_plan (characters_in T) (names_in r) (counted_up (characters_in T) r.size) r.seen true) (rested r) U ok V) e
          (subst (λ (z : Rules). DoesAs 2 (break_plan z.labels_by_characters (names_in U.tokenize_state) (counted_up z.labels_by_characters U.tokenize_state.size) U.tokenize_state.seen true) (rested U.tokenize_state) U ok V) f x)

  -- at the closing bracket
  closes-by : (n : ℕ) → 9 ≤ n → (seen : Bool) (T : Tokenizer) → T.attempts ≡ [] → T.tokenize_state.seen ≡ seen →
      nat_le T.tokenize_state.size 999 ≡ true → (c : Code) (cs : List Code) → ahead T ≡ c ∷ cs → is_value 93 c ≡ true →
      GoesIn W (weight_at n T) (at_break_ends T) (if seen then closed T else refused T)
  closes-by n high true T alone e short c cs whole h =
      let s : TokenizeState = T.tokenize_state in
      let p : Plan = break_plan (characters_in T) (names_in s) s.size s.seen s.connect in
      Goes-ok W n 2 p (ending (names_in s)) (rested s) T alone
      (ap p whole ∙ breaks-stop (is_value 93) takes (is_value 91) label-plain (ending (names_in s)) (fits (characters_in T) s.size s.seen) s.connect c cs h (ap (λ x. fits (characters_in T) s.size x []) e ∙ fits-seen (characters_in T) s.size short))
  closes-by n high false T alone e short c cs whole h =
      let s : TokenizeState = T.tokenize_state in
      refuses-here n high T alone (ap (break_plan (characters_in T) (names_in s) s.size s.seen s.connect) whole
      ∙ breaks-unfit (is_value 93) takes (is_value 91) label-plain (ending (names_in s)) (fits (characters_in T) s.size s.seen) s.connect c cs h (ap (λ x. fits (characters_in T) s.size x []) e ∙ fits-unseen (characters_in T) s.size))

  pub at_break-law : Law W at_break_words
  at_break-law T alone k =
      let s : TokenizeState = T.tokenize_state in
      let names : StringNames = names_in s in
      let connect : Bool = s.connect in
      let p : Plan = break_plan (characters_in T) names s.size s.seen connect in
      let n : ℕ = break_rank (current_of T) T in
      let high : 9 ≤ n = break-high (current_of T) T in
      let P : Stepped → Type 0 = GoesIn W (weight_at n T) (at_break_ends T) in
      code-step P (current_of T) (λ o. at_break_at o T)
      (λ e. refuses-here n high T alone (ap p (ahead-none T e) ∙ breaks-end (is_value 93) takes (is_value 91) label-plain (ending names) (fits (characters_in T) s.size s.seen) connect))
      (λ c e.
      let b : BeginsWithValue c (ahead T) = ahead-some T c e in
      let cs : List Code = rest_of (ahead T) in
      if-step P (not (c == 91) && is_short T) _ _
      (λ h.
      let bare : is_value 91 b.code ≡ false = ap (λ v. v == 91) b.value ∙ not-true (c == 91) (and-left (not (c == 91)) (is_short T) h) in
      let short : nat_le s.size 999 ≡ true = and-right (not (c == 91)) (is_short T) h in
      if-step P (c == 93) _ _
      (λ g. closes-by n high s.seen T alone refl short b.code cs b.whole (ap (λ v. v == 93) b.value ∙ g))
      (λ g. if-step P (c == 10) _ _
      (λ f.
      let line : is_line_ending b.code ≡ true = ap (λ v. v == 10) b.value ∙ f in
      ending-law W (within SpaceOrTabEolStart) (weight_at n T) (at_break_ends T) LabelEolAfter LabelNok T c b alone k.text k.linked line (omega (arith, high)) (
        λ U now j. eol-goes n T k short b.code cs b.whole line U j,
        λ u. nok-goes n high T (ap p b.whole ∙ breaks-blank (is_value 93) takes (is_value 91) label-plain (ending names) (fits (characters_in T) s.size s.seen) connect b.code cs line u (λ ws d text w l. fits-none (characters_in T) s.size s.seen b.code ws d text line w l)),
      ))
      (λ f.
      let line : is_line_ending b.code ≡ false = ap (λ v. v == 10) b.value ∙ f in
      let stop : is_value 93 b.code ≡ false = ap (λ v. v == 93) b.value ∙ g in
      let seen : Bool = s.seen || not (is_blank b.code) in
      let m : Bool = counts (characters_in T) b.code in
      data-goes n (rank-goes T c e (not-true (c == 91) (and-left (not (c == 91)) (is_short T) h)) g f short) T alone k
      (ap p b.whole
      ∙ breaks-data (is_value 93) takes (is_value 91) label-plain (ending names) (fits (characters_in T) s.size s.seen) (fits (characters_in T) (counted_up m s.size) seen) connect (c == 92) b.code cs stop bare line (ap (λ v. v == 92) b.value) (λ text. fits-data (characters_in T) s.size s.seen b.code text line)
      ∙ preceded-twice (enter_text connect ∷ []) (Consume ∷ []) (inside_plan (characters_in T) names (counted_up m s.size) seen (c == 92) cs)
      ∙ ap (preceded (enter_text connect ∷ [])) (sym (ap (inside_plan (characters_in T) names s.size s.seen false) b.whole ∙ insides-next (is_value 93) takes (is_value 91) label-plain (ending names) (fits (characters_in T) s.size s.seen) (fits (characters_in T) (counted_up m s.size) seen) (c == 92) b.code cs stop bare line (ap (λ v. v == 92) b.value) (λ text. fits-data (characters_in T) s.size s.seen b.code text line)))))))
      (λ h. refuses-here n high T alone (and-by (not (c == 91)) (is_short T) h
      (λ g.
      let bare : is_value 91 b.code ≡ true = ap (λ v. v == 91) b.value ∙ not-false _ g in
      ap p b.whole ∙ breaks-refused (is_value 93) takes (is_value 91) label-plain (ending names) (fits (characters_in T) s.size s.seen) connect b.code cs (ap (λ v. v == 93) (eqb-true b.code.value 91 bare)) bare)
      (λ g. long-breaks (characters_in T) names s.size s.seen connect (ahead T) g))))

  -- From the start.

  start-says : (T : Tokenizer) → LabelStartReady T → (ok : Bool) (U : Tokenizer) →
      at_break_ends (done (opening (names_in T.tokenize_state)) T) ok U →
      DoesAs 2 (break_plan (characters_in T) (names_in T.tokenize_state) 0 false false) T.tokenize_state (done (opening (names_in T.tokenize_state)) T) ok U
  unfolding applied
  start-says T k ok U x =
      let s : TokenizeState = T.tokenize_state in
      let V : Tokenizer = done (opening (names_in s)) T in
      let R : TokenizeState → Type 0 = λ q. DoesAs 2 (break_plan (characters_in T) (names_in s) q.size q.seen q.connect) (rested s) V ok U in
      let S : TokenizeState → Type 0 = λ q. DoesAs 2 (break_plan (characters_in T) (names_in s) 0 false false) q V ok U in
      subst S k.rest (subst R (sym k.rest) x)

  pub start-law : Law W start_words
  start-law T alone k =
      let s : TokenizeState = T.tokenize_state in
      let names : StringNames = names_in s in
      let p : Plan = plan_of (label (characters_in T) names) in
      let E : Bool → Tokenizer → Type 0 = KeepsAs 0 p T in
      let P : Stepped → Type 0 = GoesIn W (weight_at 11 T) E in
      GoesOn-map W (weight_at 11 T) E (start_ends T) (start_step T) (λ ok U x. EndsAs-linked (label (characters_in T) names) (label-linked (characters_in T) names) s T ok U x)
      (code-step P (current_of T) (λ o. start_at o T)
      (λ e. Goes-no W 11 0 p T alone (ap p (ahead-none T e) ∙ label-none (characters_in T) names [] refl))
      (λ c e.
      let b : BeginsWithValue c (ahead T) = ahead-some T c e in
      let cs : List Code = rest_of (ahead T) in
      let more : 1 ≤ length (ahead T) = some-codes T c e in
      if-step P (c == 91) _ _
      (λ h. Goes-kept W 11 0 p (break_plan (characters_in T) names 0 false false) (opening names) s T (Next LabelAtBreak) (within LabelAtBreak) alone refl more (omega (arith, break-low (current_of (done (opening names) T)) (done (opening names) T)))
      (ap p b.whole ∙ label-here (characters_in T) names b.code cs (ap (λ v. v == 91) b.value ∙ h))
      (opened-ready T more k)
      (λ ok U x. start-says T k ok U x))
      (λ h. Goes-no W 11 0 p T alone (ap p b.whole ∙ label-none (characters_in T) names (b.code ∷ cs) (ap (λ v. v == 91) b.value ∙ h)))))

-- of these states, and of any other as it is given
pub laws : (W : Words) → EqualsLayer states_and_called W → (t : StateName → StateWords) → AreLawful W t →
    AreLawful W (states t)
laws W within t other H.LabelStart = start-law W within
laws W within t other H.LabelAtBreak = at_break-law W within
laws W within t other H.LabelEolAfter = eol_after-law W within
laws W within t other H.LabelInside = inside-law W within
laws W within t other H.LabelEscape = escape-law W within
laws W within t other H.LabelNok = nok-law W within
laws W within t other s = other s
