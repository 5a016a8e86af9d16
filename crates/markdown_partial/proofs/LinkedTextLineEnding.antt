-- The attempt of a line ending in a text, and what it leaves.
use Rattle.std.proofs.Common.{◌≡◌, ℕ, suc, ◌+◌, ◌≤◌, ◌<◌, ◌==◌, ◌||◌, Bool, true, false, if◌then◌else◌, Option, Some, None, List, [], ◌∷◌, ◌++◌, length, drop, refl, sym, ap, subst, ◌∙◌, arith, append_assoc, length-append}
use Rattle.markdown_partial.proofs.PartialSpaceOrTabEolLaws.{linked-append}
use Rattle.markdown_engine_events.specs.EventChains.{has_link}
use Rattle.markdown_content.specs.Codes.{Code, is_line_ending, is_blank}
use Rattle.markdown_engine.specs.FailedRun.{Fails}
use Rattle.markdown_content.specs.ListFunctions.{rest_of}
use Rattle.markdown_engine.specs.Operations.{Op, Exit, current_of, ahead, done, scratched, attempted, frame_of, stays, moves, ends_linked, LinkedBefore}
use Rattle.markdown_engine.specs.PastTree.{EndsAs, Reads, past, link_before, behind, appended_from}
use Rattle.markdown_engine.specs.StateRuns.{stepped, restored}
use Rattle.markdown_content.specs.Tree.{Forest, leaf_codes}
use Rattle.markdown_engine.specs.TreeOps.{consumes}
use Rattle.markdown_engine.specs.Weights.{codes_left, weight_at}
use Rattle.markdown_event.specs.declared.event.Event.{Event}
use Rattle.markdown_event.specs.declared.event.Name.TheVariants as N
use Rattle.markdown_event.specs.declared.state.State.{State}
use Rattle.markdown_event.specs.declared.state.State.TheVariants.{Next, Retry}
use Rattle.markdown_event.specs.declared.state.StateName.TheVariants.{SpaceOrTabEolStart}
use Rattle.markdown_engine.specs.declared.tokenizer.TokenizeState.{TokenizeState}
use Rattle.markdown_engine.specs.declared.tokenizer.Tokenizer.{Tokenizer}
use Rattle.markdown_engine.proofs.ReadingSequences.{scratched-same}
use Rattle.markdown_engine.proofs.LawSteps.{restored-fails}
use Rattle.markdown_engine.proofs.OperationFields.{BeginsWithValue, attempts-scratched, left-scratched, left-ahead}
use Rattle.markdown_engine.proofs.OperationLemmas.{ahead-done}
use Rattle.markdown_model.specs.CodeTests.{next_is}
use Rattle.markdown_model.specs.Grammar.{span}
use Rattle.markdown_model.specs.TextLines.{linked_leaf}
use Rattle.markdown_model.specs.Whitespace.{space_or_tab_eol, begins_filled_line}
use Rattle.markdown_plan.specs.Plan.{Plan, preceded, depth_after, DoesAs}
use Rattle.markdown_plan.proofs.PlanSteps.{DoesAs-then, kept}
use Rattle.markdown_model.proofs.GrammarSteps.{both-parts}
use Rattle.markdown_partial.specs.PartialSpaceOrTabEol as PartialSpaceOrTabEol
use Rattle.markdown_partial.proofs.WhitespaceAttempts.{eol-asked-ready, eol-asked-ends}
use Rattle.markdown_partial.proofs.BlankCodes.{blank-ahead}
use Rattle.markdown_partial.proofs.WhitespaceReadings.{ending-here, spacing-none}
use Rattle.markdown_partial.specs.LinkedTreeOps.{linked_ops}
use Rattle.markdown_partial.specs.LinkedText.{string, rules_in, eol_asked_for, TextReady}
use Rattle.markdown_partial.proofs.LinkedTreeLemmas.{linked-past}
use Rattle.markdown_partial.proofs.LinkedTextLines.{ending_leaves, Row-ending}
use Rattle.markdown_partial.proofs.BoolLemmas.{same-value}
use Rattle.markdown_model.proofs.LeafCodes.{span-append}
use Rattle.markdown_engine.specs.StateWords.{Words, GoesIn, words_in}
use Rattle.markdown_plan.proofs.LawStepsOfLayer.{Goes-attempt, FollowsIn}
use Rattle.markdown_event.specs.declared.state.StateName.{StateName}
use Rattle.markdown_plan.specs.ByteTests.{at_blank}

-- What is read there.

not-blank : (c : Code) → is_line_ending c ≡ true → is_blank c ≡ false
not-blank c e = same-value c.value 10 e (λ v. v == 32 || v == 9)

spacing-by : (b : Bool) (c : Code) (cs : List Code) → is_line_ending c ≡ true →
    begins_filled_line (span is_blank cs).1 ≡ b →
    space_or_tab_eol string (c ∷ cs) ≡ (if b then Some (ending_leaves c (span is_blank cs).0, (span is_blank cs).1) else None)
spacing-by true c cs e h =
    spacing-none string (c ∷ cs) (not-blank c e) ∙ ending-here string false c cs e
    ∙ ap (λ b. behind (linked_leaf N.LineEnding string (c ∷ [])) (if b then Some (linked_leaf N.SpaceOrTab string (span is_blank cs).0, (span is_blank cs).1) else None)) h
spacing-by false c cs e h =
    spacing-none string (c ∷ cs) (not-blank c e) ∙ ending-here string false c cs e
    ∙ ap (λ b. behind (linked_leaf N.LineEnding string (c ∷ [])) (if b then Some (linked_leaf N.SpaceOrTab string (span is_blank cs).0, (span is_blank cs).1) else None)) h

-- U is T past the line ending and the blank codes behind it, in front of another code
pub record PassedEnding (connect : Bool) (c : Code) (cs : List Code) (T U : Tokenizer) : Type 0 where
  pub filled : begins_filled_line (span is_blank cs).1 ≡ true
  pub ops : U ≡ done (linked_ops connect (ending_leaves c (span is_blank cs).0)) T
  pub after : ahead U ≡ (span is_blank cs).1
  pub stack : U.stack ≡ T.stack
  pub scratch : U.tokenize_state ≡ T.tokenize_state
  pub rules : rules_in U ≡ rules_in T
  pub linked : LinkedBefore U
  pub fewer : codes_left U + 1 ≤ codes_left T

linked-twice : (xs : List Event) (a b c d : Event) → has_link c.link ≡ true → has_link d.link ≡ false →
    ends_linked (xs ++ a ∷ b ∷ c ∷ d ∷ []) ≡ true
linked-twice xs a b c d h k =
    ap ends_linked (sym (append_assoc xs (a ∷ b ∷ []) (c ∷ d ∷ []))) ∙ linked-append (xs ++ a ∷ b ∷ []) c d h k

linked-leaves : (xs : List Event) (n : ℕ) (p : Option ℕ) (c : Code) (ws : List Code) →
    ends_linked (xs ++ appended_from n p (ending_leaves c ws)) ≡ true
linked-leaves xs n p c [] = linked-append xs _ _ refl refl
linked-leaves xs n p c (w ∷ ws) = linked-twice xs _ _ _ _ refl refl

past-linked : (p : Option ℕ) (c : Code) (ws : List Code) (T U : Tokenizer) → U ≡ past p (ending_leaves c ws) T →
    LinkedBefore U
unfolding past
past-linked p c ws T U e =
    ap (λ (x : Tokenizer). ends_linked x.events) e ∙ linked-leaves T.events (length T.events) p c ws

past-stack : (p : Option ℕ) (t : Forest) (T U : Tokenizer) → U ≡ past p t T → U.stack ≡ T.stack
unfolding past
past-stack p t T U e = ap (λ (x : Tokenizer). x.stack) e

past-scratch : (p : Option ℕ) (t : Forest) (T U : Tokenizer) → U ≡ past p t T → U.tokenize_state ≡ T.tokenize_state
unfolding past
past-scratch p t T U e = ap (λ (x : Tokenizer). x.tokenize_state) e

past-rules : (p : Option ℕ) (t : Forest) (T U : Tokenizer) → U ≡ past p t T → rules_in U ≡ rules_in T
unfolding past
past-rules p t T U e = ap rules_in e

read-parts : (b : Bool) (c : Code) (cs : List Code) (tree : Forest) (rest : List Code) → is_line_ending c ≡ true →
    begins_filled_line (span is_blank cs).1 ≡ b → space_or_tab_eol string (c ∷ cs) ≡ Some (tree, rest) →
    (b ≡ true) × ((tree ≡ ending_leaves c (span is_blank cs).0) × (rest ≡ (span is_blank cs).1))
read-parts true c cs tree rest e h k =
    let same = both-parts (ending_leaves c (span is_blank cs).0) tree (span is_blank cs).1 rest (sym (spacing-by true c cs e h) ∙ k) in
    (refl, (sym same.0, sym same.1))
read-parts false c cs tree rest e h k =
    let no : ◌≡◌ {A = Option (Forest × List Code)} None (Some (tree, rest)) = sym (spacing-by false c cs e h) ∙ k in cc

unread : (b : Bool) (c : Code) (cs : List Code) → is_line_ending c ≡ true →
    begins_filled_line (span is_blank cs).1 ≡ b → space_or_tab_eol string (c ∷ cs) ≡ None → b ≡ false
unread true c cs e h k =
    let no : ◌≡◌ {A = Option (Forest × List Code)} (Some (ending_leaves c (span is_blank cs).0, (span is_blank cs).1)) None = sym (spacing-by true c cs e h) ∙ k in cc
unread false c cs e h k = refl

passed-read : (connect : Bool) (c : Code) (cs : List Code) (T U : Tokenizer) → is_line_ending c ≡ true →
    ahead T ≡ c ∷ cs → Reads (space_or_tab_eol string) (link_before connect T) T.tokenize_state T U →
    PassedEnding connect c cs T U
passed-read connect c cs T U e here k =
    let s : List Code × List Code = span is_blank cs in
    let parts = read-parts (begins_filled_line s.1) c cs k.tree k.rest e refl (ap (space_or_tab_eol string) (sym here) ∙ k.holds) in
    let p : Option ℕ = link_before connect T in
    let is : U ≡ past p (ending_leaves c s.0) T = k.left ∙ ap (past p k.tree) (scratched-same T) ∙ ap (λ t. past p t T) parts.1.0 in
    let whole : ahead T ≡ leaf_codes (ending_leaves c s.0) ++ k.rest = k.whole ∙ ap (λ t. leaf_codes t ++ k.rest) parts.1.0 in
    let after : ahead U ≡ s.1 = k.after ∙ parts.1.1 in
    record {
      filled = parts.0;
      ops = is ∙ sym (linked-past connect (ending_leaves c s.0) k.rest T (Row-ending connect c s.0) whole);
      after = after;
      stack = past-stack p (ending_leaves c s.0) T U is;
      scratch = past-scratch p (ending_leaves c s.0) T U is;
      rules = past-rules p (ending_leaves c s.0) T U is;
      linked = past-linked p c s.0 T U is;
      fewer = omega (arith, left-ahead T, left-ahead U, ap length here, ap length after, ap length (span-append is_blank cs), length-append s.0 s.1);
    }

-- The operations leave the open events.

stays-consumes : (d : ℕ) (cs : List Code) (os : List Op) → stays (suc d) (consumes cs ++ os) ≡ stays (suc d) os
stays-consumes d [] os = refl
stays-consumes d (c ∷ cs) os = stays-consumes d cs os

depth-consumes : (d : ℕ) (cs : List Code) (os : List Op) →
    depth_after (suc d) (consumes cs ++ os) ≡ depth_after (suc d) os
depth-consumes d [] os = refl
depth-consumes d (c ∷ cs) os = depth-consumes d cs os

pub ending-stays : (connect : Bool) (c : Code) (ws : List Code) →
    stays 2 (linked_ops connect (ending_leaves c ws)) ≡ true
ending-stays true c [] = refl
ending-stays false c [] = refl
ending-stays true c (w ∷ ws) = stays-consumes 2 ws (Exit N.SpaceOrTab ∷ [])
ending-stays false c (w ∷ ws) = stays-consumes 2 ws (Exit N.SpaceOrTab ∷ [])

pub ending-depth : (connect : Bool) (c : Code) (ws : List Code) →
    depth_after 2 (linked_ops connect (ending_leaves c ws)) ≡ 2
ending-depth true c [] = refl
ending-depth false c [] = refl
ending-depth true c (w ∷ ws) = depth-consumes 2 ws (Exit N.SpaceOrTab ∷ [])
ending-depth false c (w ∷ ws) = depth-consumes 2 ws (Exit N.SpaceOrTab ∷ [])

-- a run that goes on behind the line ending
pub DoesAs-ending : (p q : Plan) (connect : Bool) (c : Code) (cs : List Code) (s : TokenizeState) (T U : Tokenizer) →
    PassedEnding connect c cs T U →
    p (ahead T) ≡ preceded (linked_ops connect (ending_leaves c (span is_blank cs).0)) (q (span is_blank cs).1) →
    (ok : Bool) (V : Tokenizer) → DoesAs 2 q s U ok V → DoesAs 2 p s T ok V
DoesAs-ending p q connect c cs s T U j e ok V k =
    let os : List Op = linked_ops connect (ending_leaves c (span is_blank cs).0) in
    let rest : drop (moves os) (ahead T) ≡ (span is_blank cs).1 = sym (ahead-done os T) ∙ sym (ap ahead j.ops) ∙ j.after in
    let there : U ≡ scratched T.tokenize_state (done os T) = j.ops ∙ sym (kept os T) in
    let at : DoesAs 2 q s (scratched T.tokenize_state (done os T)) ok V = subst (λ (x : Tokenizer). DoesAs 2 q s x ok V) there k in
    DoesAs-then 2 p q os s T.tokenize_state T (ending-stays connect c (span is_blank cs).0) (e ∙ ap (λ xs. preceded os (q xs)) (sym rest)) ok V
    (subst (λ d. DoesAs d q s (scratched T.tokenize_state (done os T)) ok V) (sym (ending-depth connect c (span is_blank cs).0)) at)

-- The attempt.

frame-same : (ok nok : State) (q : TokenizeState) (T U : Tokenizer) →
    restored (frame_of false ok nok (scratched q T)) U ≡ restored (frame_of false ok nok T) U
unfolding frame_of scratched
frame-same ok nok q T U = refl

refused-same : (ok nok : State) (q : TokenizeState) (T U : Tokenizer) → Fails T.tokenize_state T U →
    restored (frame_of false ok nok (scratched q T)) U ≡ T
refused-same ok nok q T U f =
    frame-same ok nok q T U ∙ restored-fails false ok nok T.tokenize_state T U f ∙ scratched-same T

module _ (W : Words) (within : words_in W SpaceOrTabEolStart ≡ PartialSpaceOrTabEol.start_words) where
  abbrev pub AtEnding : ℕ → (Bool → Tokenizer → Type 0) → StateName → StateName → Code → Tokenizer → Type 0
  AtEnding n End after none c T =
      ((U : Tokenizer) → U.attempts ≡ [] → PassedEnding T.tokenize_state.connect c (rest_of (ahead T)) T U → FollowsIn W n End (Next after) U)
      × (begins_filled_line (span is_blank (rest_of (ahead T))).1 ≡ false → FollowsIn W n End (Next none) T)

  pub ending-law : (n : ℕ) (End : Bool → Tokenizer → Type 0) (after none : StateName) (T : Tokenizer) (c : ℕ) (b : BeginsWithValue c (ahead T)) →
      T.attempts ≡ [] → TextReady T → (T.tokenize_state.connect ≡ true → LinkedBefore T) →
      is_line_ending b.code ≡ true → weight_at 8 T < n → AtEnding n End after none b.code T →
      GoesIn W n End (stepped (Retry SpaceOrTabEolStart) (attempted false (Next after) (Next none) (scratched (eol_asked_for T.tokenize_state) T)))
  ending-law n End after none T c b alone r linked e less k =
      let s : TokenizeState = T.tokenize_state in
      let connect : Bool = s.connect in
      let A : Tokenizer = scratched (eol_asked_for s) T in
      let blank : at_blank (current_of T) ≡ false = blank-ahead T ∙ ap (next_is is_blank) b.whole ∙ not-blank b.code e in
      let asked : PartialSpaceOrTabEol.SpaceOrTabEolStartReady A = eol-asked-ready connect string T r.short r.resting linked (λ h. refl) (λ h. let no : false ≡ true = sym blank ∙ h in cc) in
      let said : (ok : Bool) (U : Tokenizer) → PartialSpaceOrTabEol.start_ends A ok U → EndsAs (space_or_tab_eol string) (link_before connect T) s T ok U = λ ok U x. eol-asked-ends connect string T r.resting ok U x in
      Goes-attempt W n End (Retry SpaceOrTabEolStart) within (Next after) (Next none) A (attempts-scratched _ T ∙ alone) asked
      (omega (arith, less, left-scratched (eol_asked_for s) T))
      (λ U now x. k.0 U now (passed-read connect b.code (rest_of (ahead T)) T U e b.whole (said true U x)))
      (λ U now x.
      let f = said false U x in
      subst (λ (V : Tokenizer). FollowsIn W n End (Next none) V) (sym (refused-same (Next after) (Next none) (eol_asked_for s) T U f.fails))
      (k.1 (unread (begins_filled_line (span is_blank (rest_of (ahead T))).1) b.code (rest_of (ahead T)) e refl (ap (space_or_tab_eol string) (sym b.whole) ∙ f.refused))))
