-- the laws of the states of whitespace with a line ending
use Rattle.std.proofs.Common.{◌≡◌, ℕ, ◌+◌, ◌-◌, ◌≤◌, Bool, true, false, Option, Some, None, is_some, List, [], ◌∷◌, ◌++◌, length, refl, sym, ap, subst, ◌∙◌, arith, length-append}
use Rattle.markdown_engine_events.specs.EventChains.{has_link}
use Rattle.markdown_content.specs.Codes.{Code, is_blank, is_line_ending}
use Rattle.markdown_engine.specs.Operations.{current_of, consumed, exited, scratched, ahead, applied, ends_linked, LinkedBefore}
use Rattle.markdown_engine.specs.PastTree.{EndsAs, past, passed, link_before, last_link, behind}
use Rattle.markdown_engine.specs.StateRuns.{Stepped}
use Rattle.markdown_content.specs.Tree.{Forest, empty, leaf_codes}
use Rattle.markdown_engine.specs.Weights.{codes_left, weight_at}
use Rattle.markdown_event.specs.declared.event.Content.{Content}
use Rattle.markdown_event.specs.declared.event.Event.{Event}
use Rattle.markdown_event.specs.declared.event.Name.TheVariants as N
use Rattle.markdown_event.specs.declared.state.State.TheVariants.{Next, Retry, Nok}
use Rattle.markdown_event.specs.declared.state.StateName.{StateName}
use Rattle.markdown_event.specs.declared.state.StateName.TheVariants as H
use Rattle.markdown_event.specs.declared.state.StateName.TheVariants.{SpaceOrTabStart, SpaceOrTabEolAfterFirst, SpaceOrTabEolAtEol, SpaceOrTabEolAfterEol, SpaceOrTabEolAfterMore}
use Rattle.markdown_engine.specs.declared.tokenizer.TokenizeState.{TokenizeState}
use Rattle.markdown_engine.specs.declared.tokenizer.Tokenizer.{Tokenizer}
use Rattle.markdown_engine.proofs.ReadingSequences.{EndsAs-scratched, EndsAs-then, left-read}
use Rattle.markdown_engine.proofs.LawSteps.{if-step}
use Rattle.markdown_engine.proofs.OperationFields.{attempts-scratched, left-scratched, left-ahead}
use Rattle.markdown_engine.proofs.TreeEvents.{leaf-past, ahead-past, past-empty, Fails-past}
use Rattle.markdown_model.specs.CodeTests.{next_is}
use Rattle.markdown_model.specs.Grammar.{span}
use Rattle.markdown_model.specs.TextLines.{linked_leaf}
use Rattle.markdown_model.specs.Whitespace.{space_or_tab, space_or_tab_eol, begins_filled_line}
use Rattle.markdown_partial.specs.PartialSpaceOrTab as PartialSpaceOrTab
use Rattle.markdown_partial.specs.PartialSpaceOrTab.{most, rested}
use Rattle.markdown_partial.specs.PartialSpaceOrTabEol.{space_asked, eol_rested, held, joins, joined, at_line_ending, ending_entered, goes_on_line, EolReady, AfterFirstReady, indent, at_ending, start_ends, after_first_ends, at_eol_ends, after_eol_ends, after_more_ends, states_and_called, after_eol_words, after_first_words, after_more_words, at_eol_words, start_words, states}
use Rattle.markdown_partial.proofs.EndLemmas.{EndsAs-same}
use Rattle.markdown_partial.proofs.BlankCodes.{CodePasses, here, blank-ahead, ending-ahead, filled-ahead}
use Rattle.markdown_partial.proofs.WhitespaceReadings.{nothing, space-all, ending-here, ending-none, spacing-then, spacing-none}
use Rattle.markdown_partial.proofs.LinkedLeafLemmas.{entered-attempts}
use Rattle.markdown_model.proofs.LeafCodes.{span-append}
use Rattle.markdown_model.proofs.GrammarSteps.{span-none}
use Rattle.markdown_model.proofs.ReadingsCover.{codes-linked_leaf}
use Rattle.markdown_engine.specs.StateWords.{StateWords, Words, Law, GoesIn}
use Rattle.markdown_plan.proofs.LawStepsOfLayer.{Goes-end, Goes-plain, Goes-attempt, follows}
use Rattle.markdown_plan.specs.LayerEquation.{EqualsLayer, AreLawful}
use Rattle.markdown_plan.specs.ByteTests.{at_blank}

pub after_more-law : (W : Words) → Law W after_more_words
after_more-law W T alone _ =
    Goes-end W (weight_at 4 T) (after_more_ends T) (goes_on_line (current_of T)) (scratched (eol_rested T.tokenize_state) T) (attempts-scratched _ T ∙ alone) (omega arith)
    (λ ok U k. (k.0 ∙ filled-ahead T, k.1))

-- The conditions.

eol-held : (T : Tokenizer) → EolReady T → EolReady (scratched (held T.tokenize_state) T)
unfolding scratched
eol-held T r = record { short = r.short; resting = ap held r.resting; linked = r.linked; contents = r.contents }

space-ready : (T : Tokenizer) → EolReady T → PartialSpaceOrTab.SpaceOrTabStartReady (scratched (space_asked T.tokenize_state) T)
unfolding scratched
space-ready T r =
    record { none_yet = ap (λ (s : TokenizeState). s.space_or_tab_size) (sym r.resting); linked = r.linked }

first-closed : (T : Tokenizer) (ok : Bool) (V : Tokenizer) → at_eol_ends (scratched (held T.tokenize_state) T) ok V →
    after_first_ends T ok V
unfolding scratched
first-closed T ok V k = EndsAs-scratched _ _ _ (held T.tokenize_state) T ok V k

pub after_first-law : (W : Words) → EqualsLayer states_and_called W → Law W after_first_words
after_first-law W within T alone r =
    let U : Tokenizer = scratched (held T.tokenize_state) T in
    Goes-plain W (weight_at 7 T) (after_first_ends T) (Retry SpaceOrTabEolAtEol) (within SpaceOrTabEolAtEol) U (attempts-scratched _ T ∙ alone) (eol-held T r.goes_on)
    (omega (arith, left-scratched (held T.tokenize_state) T))
    (λ ok V k. first-closed T ok V k)

-- What the attempt of whitespace gives, where a blank code stands.

abbrev blank_leaf : TokenizeState → Tokenizer → Forest
blank_leaf s T = linked_leaf N.SpaceOrTab s.space_or_tab_eol_content (span is_blank (ahead T)).0

record EolSpaced (T U : Tokenizer) : Type 0 where
  left : U ≡ past (link_before T.tokenize_state.space_or_tab_eol_connect T) (blank_leaf T.tokenize_state T) (scratched (rested (space_asked T.tokenize_state)) T)
  after : ahead U ≡ (span is_blank (ahead T)).1
  fewer : codes_left U ≤ codes_left T

space-there : (T : Tokenizer) (link : Option Content) → next_is is_blank (ahead T) ≡ true → codes_left T ≤ most →
    space_or_tab N.SpaceOrTab link 1 most (ahead T) ≡ Some (linked_leaf N.SpaceOrTab link (span is_blank (ahead T)).0, (span is_blank (ahead T)).1)
space-there T link h l = space-all N.SpaceOrTab link most (ahead T) h (omega (arith, left-ahead T, l))

read_of : Option (Forest × List Code) → Forest × List Code
read_of None = (empty, [])
read_of (Some r) = r

spaced : (T U : Tokenizer) → EolReady T → next_is is_blank (ahead T) ≡ true →
    PartialSpaceOrTab.start_ends (scratched (space_asked T.tokenize_state) T) true U → EolSpaced T U
unfolding scratched read_of
spaced T U r h k =
    let s : TokenizeState = T.tokenize_state in
    let same : Some (k.tree, k.rest) ≡ Some (blank_leaf s T, (span is_blank (ahead T)).1) = sym k.holds ∙ space-there T s.space_or_tab_eol_content h r.short in
    let tree : k.tree ≡ blank_leaf s T = ap (λ o. (read_of o).0) same in
    let rest : k.rest ≡ (span is_blank (ahead T)).1 = ap (λ o. (read_of o).1) same in
    record { left = k.left ∙ ap (λ t. past (link_before s.space_or_tab_eol_connect T) t (scratched (rested (space_asked s)) T)) tree; after = k.after ∙ rest; fewer = left-read _ _ _ (scratched (space_asked s) T) U k }

some-none : (o : Option (Forest × List Code)) (r : Forest × List Code) → o ≡ Some r → o ≡ None → ⊥
some-none o r e h = cc

never-refused : (T U : Tokenizer) → EolReady T → next_is is_blank (ahead T) ≡ true →
    PartialSpaceOrTab.start_ends (scratched (space_asked T.tokenize_state) T) false U → ⊥
unfolding scratched
never-refused T U r h k = some-none _ _ (space-there T T.tokenize_state.space_or_tab_eol_content h r.short) k.refused

spaced-scratch : (T U : Tokenizer) → EolSpaced T U → U.tokenize_state ≡ rested (space_asked T.tokenize_state)
unfolding scratched past
spaced-scratch T U k = ap (λ (x : Tokenizer). x.tokenize_state) k.left

-- After a line ending.

-- the blank codes of a line, where these are their ends
indent-closed : (link : Option Content) (previous : Option ℕ) (s : TokenizeState) (T : Tokenizer) (ok : Bool) (U : Tokenizer) →
    ok ≡ begins_filled_line (span is_blank (ahead T)).1 →
    U ≡ past previous (linked_leaf N.SpaceOrTab link (span is_blank (ahead T)).0) (scratched s T) →
    EndsAs (indent link) previous s T ok U
unfolding scratched
indent-closed link previous s T true U h k =
    let b : List Code × List Code = span is_blank (ahead T) in
    let whole : ahead T ≡ leaf_codes (linked_leaf N.SpaceOrTab link b.0) ++ b.1 = sym (span-append is_blank (ahead T)) ∙ ap (λ x. x ++ b.1) (sym (codes-linked_leaf N.SpaceOrTab link b.0)) in
    record { tree = linked_leaf N.SpaceOrTab link b.0; rest = b.1; holds = rw (← h) refl; left = k; whole = whole; after = ap ahead k ∙ ahead-past previous _ (scratched s T) _ whole }
indent-closed link previous s T false U h k = record { refused = rw (← h) refl; fails = Fails-past previous _ s T U k }

more-closed : (T U : Tokenizer) → EolReady T → EolSpaced T U → (ok : Bool) (V : Tokenizer) → after_more_ends U ok V →
    after_eol_ends T ok V
unfolding scratched past
more-closed T U r k ok V m =
    let s : TokenizeState = T.tokenize_state in
    let rest : eol_rested U.tokenize_state ≡ eol_rested s = ap eol_rested (spaced-scratch T U k) ∙ ap eol_rested r.resting in
    indent-closed s.space_or_tab_eol_content (link_before s.space_or_tab_eol_connect T) (eol_rested s) T ok V (m.0 ∙ ap begins_filled_line k.after)
    (m.1 ∙ ap (λ (q : TokenizeState). scratched q U) rest ∙ ap (scratched (eol_rested s)) k.left)

none-closed : (T : Tokenizer) → span is_blank (ahead T) ≡ ([], ahead T) → (ok : Bool) (V : Tokenizer) →
    after_more_ends T ok V → after_eol_ends T ok V
none-closed T e ok V m =
    let s : TokenizeState = T.tokenize_state in
    let previous : Option ℕ = link_before s.space_or_tab_eol_connect T in
    indent-closed s.space_or_tab_eol_content previous (eol_rested s) T ok V (m.0 ∙ ap (λ (b : List Code × List Code). begins_filled_line b.1) (sym e))
    (m.1 ∙ sym (past-empty previous (scratched (eol_rested s) T)) ∙ ap (λ (b : List Code × List Code). past previous (linked_leaf N.SpaceOrTab s.space_or_tab_eol_content b.0) (scratched (eol_rested s) T)) (sym e))

pub after_eol-law : (W : Words) → EqualsLayer states_and_called W → Law W after_eol_words
after_eol-law W within T alone r =
    let s : TokenizeState = T.tokenize_state in
    let n : ℕ = weight_at 5 T in
    let P : Stepped → Type 0 = GoesIn W n (after_eol_ends T) in
    let A : Tokenizer = scratched (space_asked s) T in
    if-step P (at_blank (current_of T)) _ _
    (λ h. let b : next_is is_blank (ahead T) ≡ true = sym (blank-ahead T) ∙ h in
    Goes-attempt W n (after_eol_ends T) (Retry SpaceOrTabStart) (within SpaceOrTabStart) (Next SpaceOrTabEolAfterMore) Nok A (attempts-scratched _ T ∙ alone) (space-ready T r)
    (omega (arith, left-scratched (space_asked s) T))
    (λ U now k. let g : EolSpaced T U = spaced T U r b k in
    follows W _ _ (Next SpaceOrTabEolAfterMore) (within SpaceOrTabEolAfterMore) U tt (omega (arith, g.fewer)) (λ ok V m. more-closed T U r g ok V m))
    (λ U now k. absurd (never-refused T U r b k)))
    (λ h. Goes-plain W n (after_eol_ends T) (Retry SpaceOrTabEolAfterMore) (within SpaceOrTabEolAfterMore) T alone tt (omega arith)
    (λ ok V m. none-closed T (span-none is_blank (ahead T) (sym (blank-ahead T) ∙ h)) ok V m))

-- At a line ending.

pub linked-append : (xs : List Event) (a b : Event) → has_link a.link ≡ true → has_link b.link ≡ false →
    ends_linked (xs ++ a ∷ b ∷ []) ≡ true
linked-append [] a b h k = rw (h, k) refl
linked-append (x ∷ []) a b h k = linked-append [] a b h k
linked-append (x ∷ y ∷ []) a b h k = linked-append [] a b h k
linked-append (x ∷ y ∷ z ∷ xs) a b h k = linked-append (y ∷ z ∷ xs) a b h k

joins-some : (content : Option Content) (connect : Bool) → (connect ≡ true → is_some content ≡ true) →
    joins content connect ≡ true → is_some content ≡ true
joins-some None connect h e = h e
joins-some (Some x) connect h e = refl

joined-linked : (content : Option Content) (connect : Bool) (c : Code) (q : TokenizeState) (T U : Tokenizer) →
    (connect ≡ true → is_some content ≡ true) →
    U ≡ past (link_before connect T) (linked_leaf N.LineEnding content (c ∷ [])) (scratched q T) →
    joins content connect ≡ true → LinkedBefore U
unfolding past scratched
joined-linked None connect c q T U h e k = let no : false ≡ true = h k in cc
joined-linked (Some x) connect c q T U h e k =
    ap (λ (t : Tokenizer). ends_linked t.events) e ∙ linked-append T.events _ _ refl refl

joined-previous : (content : Option Content) (connect : Bool) (c : Code) (q : TokenizeState) (T U : Tokenizer) →
    (connect ≡ true → is_some content ≡ true) →
    U ≡ past (link_before connect T) (linked_leaf N.LineEnding content (c ∷ [])) (scratched q T) →
    link_before (joins content connect) U ≡ last_link (length T.events) (link_before connect T) (linked_leaf N.LineEnding content (c ∷ []))
unfolding past scratched
joined-previous None true c q T U h e = let no : false ≡ true = h refl in cc
joined-previous None false c q T U h e = refl
joined-previous (Some x) connect c q T U h e =
    let size : length U.events ≡ length T.events + 2 = ap (λ (t : Tokenizer). length t.events) e ∙ length-append T.events _ in
    let number : length U.events - 2 ≡ length T.events = omega (arith, size) in
    ap Some number

abbrev past_ending : Code → Tokenizer → Tokenizer → Tokenizer
past_ending c T U =
    past (link_before T.tokenize_state.space_or_tab_eol_connect T) (linked_leaf N.LineEnding T.tokenize_state.space_or_tab_eol_content (c ∷ [])) U

ending-passed : (T : Tokenizer) (b : CodePasses is_line_ending T) →
    exited N.LineEnding (consumed (ending_entered T.tokenize_state T)) ≡ past_ending b.code T T
unfolding passed applied past
ending-passed T b =
    leaf-past N.LineEnding T.tokenize_state.space_or_tab_eol_content T.tokenize_state.space_or_tab_eol_connect b.code [] (ahead (consumed T)) T b.whole

abbrev left_by_ending : Tokenizer → Tokenizer
left_by_ending T =
    scratched (joined T.tokenize_state) (exited N.LineEnding (consumed (ending_entered T.tokenize_state T)))

record Joined (c : Code) (T U : Tokenizer) : Type 0 where
  left : U ≡ past_ending c T (scratched (joined T.tokenize_state) T)
  scratch : U.tokenize_state ≡ joined T.tokenize_state
  here : ahead T ≡ c ∷ ahead U

ending-joined : (T : Tokenizer) (b : CodePasses is_line_ending T) →
    left_by_ending T ≡ past_ending b.code T (scratched (joined T.tokenize_state) T)
unfolding scratched past
ending-joined T b = ap (scratched (joined T.tokenize_state)) (ending-passed T b)

joined-here : (T : Tokenizer) (b : CodePasses is_line_ending T) (U : Tokenizer) →
    U ≡ past_ending b.code T (scratched (joined T.tokenize_state) T) → Joined b.code T U
unfolding scratched past applied
joined-here T b U k =
    record { left = k; scratch = ap (λ (x : Tokenizer). x.tokenize_state) k; here = b.whole ∙ ap (λ cs. b.code ∷ cs) (sym (ap ahead k)) }

joined-ready : (c : Code) (T U : Tokenizer) → EolReady T → Joined c T U → EolReady U
joined-ready c T U r j =
    let s : TokenizeState = T.tokenize_state in
    let connect : U.tokenize_state.space_or_tab_eol_connect ≡ joins s.space_or_tab_eol_content s.space_or_tab_eol_connect = ap (λ (q : TokenizeState). q.space_or_tab_eol_connect) j.scratch in
    let content : U.tokenize_state.space_or_tab_eol_content ≡ s.space_or_tab_eol_content = ap (λ (q : TokenizeState). q.space_or_tab_eol_content) j.scratch in
    record {
      short = omega (arith, r.short, left-ahead T, left-ahead U, ap length j.here);
      resting = ap rested j.scratch ∙ ap joined r.resting ∙ sym j.scratch;
      linked = λ h. joined-linked s.space_or_tab_eol_content s.space_or_tab_eol_connect c (joined s) T U r.contents j.left (sym connect ∙ h);
      contents = λ h. ap is_some content ∙ joins-some s.space_or_tab_eol_content s.space_or_tab_eol_connect r.contents (sym connect ∙ h);
    }

ending-closed : (c : Code) (T U : Tokenizer) → is_line_ending c ≡ true → EolReady T → Joined c T U →
    (ok : Bool) (V : Tokenizer) → after_eol_ends U ok V → at_eol_ends T ok V
ending-closed c T U h r j ok V k =
    let s : TokenizeState = T.tokenize_state in
    let t : Forest = linked_leaf N.LineEnding s.space_or_tab_eol_content (c ∷ []) in
    let P : TokenizeState → Type 0 = λ q. EndsAs (indent q.space_or_tab_eol_content) (link_before q.space_or_tab_eol_connect U) (eol_rested q) U ok V in
    EndsAs-then (at_ending s.space_or_tab_eol_content s.space_or_tab_eol_ok) (indent s.space_or_tab_eol_content) (link_before s.space_or_tab_eol_connect T) (link_before (joins s.space_or_tab_eol_content s.space_or_tab_eol_connect) U) t (joined s) (eol_rested s) T U j.left
    (j.here ∙ ap (λ x. x ++ ahead U) (sym (codes-linked_leaf N.LineEnding s.space_or_tab_eol_content (c ∷ []))))
    (joined-previous s.space_or_tab_eol_content s.space_or_tab_eol_connect c (joined s) T U r.contents j.left)
    (ap (at_ending s.space_or_tab_eol_content s.space_or_tab_eol_ok) j.here ∙ ending-here s.space_or_tab_eol_content s.space_or_tab_eol_ok c (ahead U) h)
    ok V (subst P j.scratch k)

stop-closed : (T : Tokenizer) → next_is is_line_ending (ahead T) ≡ false → (ok : Bool) (V : Tokenizer) →
    (ok ≡ T.tokenize_state.space_or_tab_eol_ok) × (V ≡ scratched (eol_rested T.tokenize_state) T) → at_eol_ends T ok V
unfolding scratched
stop-closed T e true V k =
    let s : TokenizeState = T.tokenize_state in
    let holds : at_ending s.space_or_tab_eol_content s.space_or_tab_eol_ok (ahead T) ≡ Some (empty, ahead T) = ending-none s.space_or_tab_eol_content s.space_or_tab_eol_ok (ahead T) e ∙ ap (λ b. nothing b (ahead T)) (sym k.0) in
    record { tree = empty; rest = ahead T; holds = holds; left = k.1 ∙ sym (past-empty _ (scratched (eol_rested s) T)); whole = refl; after = ap ahead k.1 }
stop-closed T e false V k =
    let s : TokenizeState = T.tokenize_state in
    let refused : at_ending s.space_or_tab_eol_content s.space_or_tab_eol_ok (ahead T) ≡ None = ending-none s.space_or_tab_eol_content s.space_or_tab_eol_ok (ahead T) e ∙ ap (λ b. nothing b (ahead T)) (sym k.0) in
    record { refused = refused; fails = Fails-past None empty (eol_rested s) T V (k.1 ∙ sym (past-empty None (scratched (eol_rested s) T))) }

ending-alone : (T : Tokenizer) → T.attempts ≡ [] → (left_by_ending T).attempts ≡ []
unfolding scratched applied
ending-alone T h =
    entered-attempts N.LineEnding T.tokenize_state.space_or_tab_eol_content T.tokenize_state.space_or_tab_eol_connect T ∙ h

pub at_eol-law : (W : Words) → EqualsLayer states_and_called W → Law W at_eol_words
at_eol-law W within T alone r =
    let s : TokenizeState = T.tokenize_state in
    let n : ℕ = weight_at 6 T in
    let P : Stepped → Type 0 = GoesIn W n (at_eol_ends T) in
    let U : Tokenizer = left_by_ending T in
    if-step P (at_line_ending (current_of T)) _ _
    (λ h. let b : CodePasses is_line_ending T = here is_line_ending T (sym (ending-ahead T) ∙ h) in
    let j : Joined b.code T U = joined-here T b U (ending-joined T b) in
    Goes-plain W n (at_eol_ends T) (Next SpaceOrTabEolAfterEol) (within SpaceOrTabEolAfterEol) U (ending-alone T alone) (joined-ready b.code T U r j)
    (omega (arith, left-ahead T, left-ahead U, ap length j.here))
    (λ ok V k. ending-closed b.code T U b.passes r j ok V k))
    (λ h. Goes-end W n (at_eol_ends T) s.space_or_tab_eol_ok (scratched (eol_rested s) T) (attempts-scratched _ T ∙ alone) (omega arith) (stop-closed T (sym (ending-ahead T) ∙ h)))

-- At the start.

no-connect : (b : Bool) → (b ≡ true → false ≡ true) → b ≡ false
no-connect true h = sym (h refl)
no-connect false h = refl

-- blank codes at the start are not linked
unconnected : (T : Tokenizer) → EolReady T → T.tokenize_state.space_or_tab_eol_content ≡ None →
    T.tokenize_state.space_or_tab_eol_connect ≡ false
unconnected T r e = no-connect T.tokenize_state.space_or_tab_eol_connect (λ c. sym (ap is_some e) ∙ r.contents c)

first-ready : (T U : Tokenizer) → EolReady T → T.tokenize_state.space_or_tab_eol_content ≡ None → EolSpaced T U →
    AfterFirstReady U
first-ready T U r e k =
    let s : TokenizeState = T.tokenize_state in
    let scratch : U.tokenize_state ≡ rested (space_asked s) = spaced-scratch T U k in
    let connect : U.tokenize_state.space_or_tab_eol_connect ≡ false = ap (λ (q : TokenizeState). q.space_or_tab_eol_connect) scratch ∙ unconnected T r e in
    let content : U.tokenize_state.space_or_tab_eol_content ≡ s.space_or_tab_eol_content = ap (λ (q : TokenizeState). q.space_or_tab_eol_content) scratch in
    let never : U.tokenize_state.space_or_tab_eol_connect ≡ true → ⊥ = λ h. (let no : false ≡ true = sym connect ∙ h in cc) in
    record { goes_on = record { short = omega (arith, r.short, k.fewer); resting = ap rested scratch ∙ sym scratch; linked = λ h. absurd (never h); contents = λ h. absurd (never h) }; plain = content ∙ e }

plain-previous : (link : Option Content) (connect : Bool) (cs : List Code) (T U : Tokenizer) → link ≡ None →
    connect ≡ false →
    link_before connect U ≡ last_link (length T.events) (link_before connect T) (linked_leaf N.SpaceOrTab link cs)
plain-previous None false [] T U e h = refl
plain-previous None false (c ∷ cs) T U e h = refl
plain-previous None true cs T U e h = cc
plain-previous (Some x) connect cs T U e h = cc

start-first : (T U : Tokenizer) → EolReady T → T.tokenize_state.space_or_tab_eol_content ≡ None →
    next_is is_blank (ahead T) ≡ true → EolSpaced T U → (ok : Bool) (V : Tokenizer) → after_first_ends U ok V →
    start_ends T ok V
start-first T U r e h g ok V k =
    let s : TokenizeState = T.tokenize_state in
    let link : Option Content = s.space_or_tab_eol_content in
    let b : List Code × List Code = span is_blank (ahead T) in
    let t : Forest = linked_leaf N.SpaceOrTab link b.0 in
    let P : TokenizeState → Type 0 = λ q. EndsAs (at_ending q.space_or_tab_eol_content true) (link_before q.space_or_tab_eol_connect U) (eol_rested q) U ok V in
    let Q : TokenizeState → Type 0 = λ q. EndsAs (at_ending link true) (link_before s.space_or_tab_eol_connect U) (eol_rested q) U ok V in
    let now : Q (rested s) = subst P (spaced-scratch T U g) k in
    let rest : Q s = subst Q r.resting now in
    EndsAs-then (space_or_tab_eol link) (at_ending link true) (link_before s.space_or_tab_eol_connect T) (link_before s.space_or_tab_eol_connect U) t (rested (space_asked s)) (eol_rested s) T U g.left
    (sym (span-append is_blank (ahead T)) ∙ ap (λ x. x ++ b.1) (sym (codes-linked_leaf N.SpaceOrTab link b.0)) ∙ ap (λ x. leaf_codes t ++ x) (sym g.after))
    (plain-previous link s.space_or_tab_eol_connect b.0 T U e (unconnected T r e))
    (spacing-then link (ahead T) h ∙ ap (λ cs. behind t (at_ending link true cs)) (sym g.after))
    ok V rest

start-none : (T : Tokenizer) → T.tokenize_state.space_or_tab_eol_ok ≡ false → next_is is_blank (ahead T) ≡ false →
    (ok : Bool) (V : Tokenizer) → at_eol_ends T ok V → start_ends T ok V
start-none T z h ok V k =
    let s : TokenizeState = T.tokenize_state in
    let same : space_or_tab_eol s.space_or_tab_eol_content (ahead T) ≡ at_ending s.space_or_tab_eol_content s.space_or_tab_eol_ok (ahead T) = spacing-none s.space_or_tab_eol_content (ahead T) h ∙ ap (λ b. at_ending s.space_or_tab_eol_content b (ahead T)) (sym z) in
    EndsAs-same (space_or_tab_eol s.space_or_tab_eol_content) (at_ending s.space_or_tab_eol_content s.space_or_tab_eol_ok) _ _ T same ok V k

pub start-law : (W : Words) → EqualsLayer states_and_called W → Law W start_words
start-law W within T alone r =
    let s : TokenizeState = T.tokenize_state in
    let n : ℕ = weight_at 8 T in
    let P : Stepped → Type 0 = GoesIn W n (start_ends T) in
    let A : Tokenizer = scratched (space_asked s) T in
    if-step P (at_blank (current_of T)) _ _
    (λ h. let b : next_is is_blank (ahead T) ≡ true = sym (blank-ahead T) ∙ h in
    Goes-attempt W n (start_ends T) (Retry SpaceOrTabStart) (within SpaceOrTabStart) (Next SpaceOrTabEolAfterFirst) (Next SpaceOrTabEolAtEol) A (attempts-scratched _ T ∙ alone) (space-ready T r.begins)
    (omega (arith, left-scratched (space_asked s) T))
    (λ U now k. let g : EolSpaced T U = spaced T U r.begins b k in
    follows W _ _ (Next SpaceOrTabEolAfterFirst) (within SpaceOrTabEolAfterFirst) U (first-ready T U r.begins (r.plain h) g) (omega (arith, g.fewer)) (λ ok V m. start-first T U r.begins (r.plain h) b g ok V m))
    (λ U now k. absurd (never-refused T U r.begins b k)))
    (λ h. Goes-plain W n (start_ends T) (Retry SpaceOrTabEolAtEol) (within SpaceOrTabEolAtEol) T alone r.begins (omega arith)
    (λ ok V m. start-none T r.none_yet (sym (blank-ahead T) ∙ h) ok V m))

-- of these states, and of any other as it is given
pub laws : (W : Words) → EqualsLayer states_and_called W → (t : StateName → StateWords) → AreLawful W t →
    AreLawful W (states t)
laws W within t other H.SpaceOrTabEolStart = start-law W within
laws W within t other H.SpaceOrTabEolAfterFirst = after_first-law W within
laws W within t other H.SpaceOrTabEolAtEol = at_eol-law W within
laws W within t other H.SpaceOrTabEolAfterEol = after_eol-law W within
laws W within t other H.SpaceOrTabEolAfterMore = after_more-law W
laws W within t other s = other s
