-- The laws of the states of a resource behind its opening.
use Rattle.std.proofs.Common.{◌≡◌, ℕ, ◌<◌, ◌≤◌, ◌==◌, Bool, true, false, ◌||◌, if◌then◌else◌, Option, Some, None, List, [], ◌∷◌, ◌++◌, refl, sym, ap, subst, ◌∙◌, arith, inl, inr}
use Rattle.std.proofs.lemmas.Bool.{eqb-true, or_cases, false≢true, true≢false}
use Rattle.markdown_content.specs.Codes.{Code}
use Rattle.markdown_engine.specs.FailedRun.{Grown, Fails}
use Rattle.markdown_content.specs.ListFunctions.{rest_of}
use Rattle.markdown_engine.specs.Operations.{Exit, ahead, applied, current_of, done, scratched}
use Rattle.markdown_engine.specs.PastTree.{TreeReading, Reads, past, behind}
use Rattle.markdown_content.specs.Place.{ahead_at}
use Rattle.markdown_engine.specs.StateRuns.{stepped}
use Rattle.markdown_notes.specs.SequenceIndex.{closes_twice, last_where, rules_out}
use Rattle.markdown_engine.specs.StateWords.{StateWords, Words, words_in, Law, GoesIn}
use Rattle.markdown_content.specs.Tree.{Forest, leaf, leaf_codes}
use Rattle.markdown_engine.specs.Weights.{codes_left, weight_at}
use Rattle.markdown_event.specs.declared.event.Name.TheVariants as N
use Rattle.markdown_notes.specs.declared.sequence_index.Sequence.TheVariants.{ResourceEnd}
use Rattle.markdown_event.specs.declared.state.State.TheVariants.{Next, Retry}
use Rattle.markdown_event.specs.declared.state.StateName.{StateName}
use Rattle.markdown_event.specs.declared.state.StateName.TheVariants.{DestinationStart, LabelEndResourceBetween, LabelEndResourceDestinationAfter, LabelEndResourceDestinationMissing, LabelEndResourceEnd, LabelEndResourceTitleAfter, TitleStart}
use Rattle.markdown_engine.specs.declared.tokenizer.TokenizeState.{TokenizeState}
use Rattle.markdown_engine.specs.declared.tokenizer.Tokenizer.{Tokenizer}
use Rattle.markdown_engine.proofs.ReadingSequences.{left-read, scratched-same}
use Rattle.markdown_engine.proofs.LawSteps.{Grown-refl, if-step, restored-fails}
use Rattle.markdown_engine.proofs.OperationFields.{BeginsWithValue, ahead-none, ahead-some, attempts-scratched, left-scratched}
use Rattle.markdown_event.proofs.AndParts.{and-left, and-right}
use Rattle.markdown_engine.proofs.OperationLemmas.{attempts-done}
use Rattle.markdown_notes.proofs.SequenceIndexLemmas as SequenceIndexLemmas
use Rattle.markdown_engine.proofs.SolidTrees.{IsSolid-leaf}
use Rattle.markdown_notes.proofs.TitleIndexLemmas.{ruled-out}
use Rattle.markdown_engine.proofs.TreeEvents.{ahead-past, ops-past}
use Rattle.markdown_model.specs.CodeTests.{is_value, next_is}
use Rattle.markdown_model.specs.Grammar.{gives, one}
use Rattle.markdown_model.specs.Resource.{begins_title, destination, resource_names, literal_destination, raw_destination, title, title_names, title_between}
use Rattle.markdown_model.specs.Whitespace.{space_or_tab_eol}
use Rattle.markdown_model.proofs.NoLinkInConstructs.{PassesValue, Yields, yields_either, yields_next, yields_passed, yields_gives, then_any}
use Rattle.markdown_model.proofs.GrammarSteps.{bind-some, one-here, if-true, if-false}
use Rattle.markdown_plan.specs.LayerEquation.{EqualsLayer}
use Rattle.markdown_plan.proofs.LawStepsOfLayer.{FollowsIn, follows, GoesOn-map, Goes-attempt, Goes-end, Goes-plain}
use Rattle.markdown_partial.specs.PartialSpaceOrTabEol.{WhitespaceAtRest}
use Rattle.markdown_partial.specs.PartialDestination as PartialDestination
use Rattle.markdown_partial.specs.PartialTitle as PartialTitle
use Rattle.markdown_label.specs.AfterLabelParts.{PartReady, rested, names_rested}
use Rattle.markdown_label.specs.Resource.{destination_asked, destination_rested, title_asked, front_ops, at_space, at_close, at_title, at_parenthesis, is_hopeless, spaced, destination_put, destination_after_step, title_put, title_after_step, RowReads, RowEnds, closes, or_without, and_then, after_title, between}
use Rattle.markdown_label.specs.Resource.{after_destination_of, after_destination, opened, asks_both, InReady, open_ends, destination_after_ends, missing_ends, between_ends, title_after_ends, end_ends, open_words, destination_after_words, missing_words, between_words, title_after_words, end_words, states_and_called}
use Rattle.markdown_label.proofs.NextCodeTests.{at-value, at-none}
use Rattle.markdown_label.proofs.ResourceWithoutTitleEnd.{no-title, none-twice}
use Rattle.markdown_label.proofs.ResourceLaws.{NoLinks, indexed-same, titled-same, codes-read, row-then, row-scratched, row-same, no-space, closes-here, fields-read, asks-read, in-read, spacing-unlinked, spaced-law}
use Rattle.markdown_label.proofs.ResourceReadings.{closes-none}

-- Names that were set, put to rest.

destination-back : (s : TokenizeState) → rested s ≡ s → destination_rested (destination_asked s) ≡ s
destination-back s e = ap (λ q. destination_rested (destination_asked q)) (sym e) ∙ e

title-back : (s : TokenizeState) → rested s ≡ s → names_rested (title_asked s) ≡ s
title-back s e = ap (λ q. names_rested (title_asked q)) (sym e) ∙ e

missing-back : (s : TokenizeState) → rested s ≡ s → destination_rested (title_asked s) ≡ s
missing-back s e = ap (λ q. destination_rested (title_asked q)) (sym e) ∙ e

-- a part read with names set: past it, and past it with the names put to rest
asked-left : (q : TokenizeState) (r : TreeReading) (T U : Tokenizer) → (k : Reads r None q (scratched q T) U) →
    U ≡ past None k.tree (scratched q T)
unfolding scratched
asked-left q r T U k = k.left

asked-fields : (q : TokenizeState) (r : TreeReading) (T U : Tokenizer) → (k : Reads r None q (scratched q T) U) →
    U.tokenize_state ≡ q
unfolding past scratched
asked-fields q r T U k = ap (λ (x : Tokenizer). x.tokenize_state) k.left

asked-stack : (q : TokenizeState) (r : TreeReading) (T U : Tokenizer) → (k : Reads r None q (scratched q T) U) →
    U.stack ≡ T.stack
unfolding past scratched
asked-stack q r T U k = ap (λ (x : Tokenizer). x.stack) k.left

asked-fewer : (q : TokenizeState) (r : TreeReading) (T U : Tokenizer) → (k : Reads r None q (scratched q T) U) →
    codes_left U ≤ codes_left T
asked-fewer q r T U k = omega (arith, left-read r None q (scratched q T) U k, left-scratched q T)

asked-codes : (q : TokenizeState) (r : TreeReading) (T U : Tokenizer) → (k : Reads r None q (scratched q T) U) →
    U.cursor.codes ≡ T.cursor.codes
unfolding scratched
asked-codes q r T U k = codes-read r q (scratched q T) U k

asked-whole : (q : TokenizeState) (r : TreeReading) (T U : Tokenizer) → (k : Reads r None q (scratched q T) U) →
    ahead T ≡ leaf_codes k.tree ++ ahead U
unfolding scratched
asked-whole q r T U k = k.whole ∙ ap (λ xs. leaf_codes k.tree ++ xs) (sym k.after)

asked-holds : (q : TokenizeState) (r : TreeReading) (T U : Tokenizer) → (k : Reads r None q (scratched q T) U) →
    r (ahead T) ≡ Some (k.tree, ahead U)
unfolding scratched
asked-holds q r T U k = k.holds ∙ ap (λ xs. Some (k.tree, xs)) (sym k.after)

-- the fields are as they were in T
part-back : (put : TokenizeState → TokenizeState) (T U : Tokenizer) → PartReady T → codes_left U ≤ codes_left T →
    U.cursor.codes ≡ T.cursor.codes → put U.tokenize_state ≡ T.tokenize_state →
    PartReady (scratched (put U.tokenize_state) U)
unfolding scratched
part-back put T U p fewer codes e =
    record { short = omega (arith, fewer, p.short); indexed = indexed-same T (scratched (put U.tokenize_state) U) codes (ap (λ (s : TokenizeState). s.sequences) e) p.indexed; titled = titled-same T (scratched (put U.tokenize_state) U) codes (ap (λ (s : TokenizeState). s.titles) e) p.titled; spaces = subst WhitespaceAtRest (sym e) p.spaces; rest = subst (λ (s : TokenizeState). rested s ≡ s) (sym e) p.rest }

-- destinations and titles are groups
destination-yields : Yields NoLinks (destination 32 resource_names)
unfolding destination literal_destination raw_destination
destination-yields =
    yields_next _ _ _ _
    (then_any _ _ _ λ front. then_any _ _ _ λ text. then_any _ _ _ λ back. yields_gives _ _ tt)
    (then_any _ _ _ λ text. yields_passed _ _ _ (yields_gives _ _ tt))

between-yields : (both : Bool) (opener closer : ℕ) → Yields NoLinks (title_between both opener closer title_names)
unfolding title_between
between-yields both opener closer =
    then_any _ _ _ λ front. then_any _ _ _ λ text. then_any _ _ _ λ back. yields_passed _ _ _ (yields_gives _ _ tt)

title-yields : (both : Bool) → Yields NoLinks (title both title_names)
unfolding title
title-yields both = yields_either _ _ _ (between-yields _ _ _) (yields_either _ _ _ (between-yields _ _ _) (between-yields _ _ _))

given-unlinked : (r : TreeReading) → Yields NoLinks r → (cs : List Code) (t : Forest) (rest : List Code) →
    r cs ≡ Some (t, rest) → NoLinks t
given-unlinked r y cs t rest e = subst (λ o. PassesValue NoLinks o) e (y.at cs)

titles-here : (T : Tokenizer) (o : Option ℕ) → current_of T ≡ o → at_title o ≡ begins_title (ahead T)
titles-here T None e = sym (ap begins_title (ahead-none T e))
titles-here T (Some v) e =
    let b : BeginsWithValue v (ahead T) = ahead-some T v e in sym (ap begins_title b.whole ∙ ap (λ x. x == 34 || (x == 39 || (x == 40 || false))) b.value)

parenthesis-here : (T : Tokenizer) (o : Option ℕ) → current_of T ≡ o →
    at_parenthesis o ≡ next_is (is_value 40) (ahead T)
parenthesis-here T None e = sym (at-none T 40 e)
parenthesis-here T (Some v) e = sym (at-value T v 40 (v == 40) e refl)

hopeless-between : (both : Bool) (T : Tokenizer) → InReady T → is_hopeless T ≡ true → between both (ahead T) ≡ None
unfolding ahead_at
hopeless-between both T p h = by-codes (ahead T) refl (sym (parenthesis-here T (current_of T) refl) ∙ and-left (at_parenthesis (current_of T)) _ h)
  where
    s : TokenizeState
    s = T.tokenize_state

    by-codes : (cs : List Code) → ahead T ≡ cs → next_is (is_value 40) cs ≡ true → between both (ahead T) ≡ None
    by-codes [] e here = cc
    by-codes (c ∷ cs) e here =
        ap (between both) e
        ∙ no-title both c cs here (elim (or_cases (rules_out s.sequences ResourceEnd T.cursor.at) _ (and-right (at_parenthesis (current_of T)) _ h)) [
          | inl g ↦ none-twice c cs (ap (last_where closes_twice) (sym e) ∙ SequenceIndexLemmas.ruled-out s.sequences T.cursor.codes ResourceEnd T.cursor.at p.part.indexed g)
          | inr g ↦ ruled-out s.titles T.cursor.codes cs c T.cursor.at p.part.titled g e (eqb-true c.value 40 here)
        ])

asked-both : (q : TokenizeState) (r : TreeReading) (T U : Tokenizer) → (k : Reads r None q (scratched q T) U) →
    asks_both U ≡ asks_both T
unfolding past scratched
asked-both q r T U k = ap asks_both k.left

exited-ahead : (T : Tokenizer) → ahead (applied (Exit N.Resource) T) ≡ ahead T
unfolding applied
exited-ahead T = refl

twice : (q : TokenizeState) (T : Tokenizer) →
    destination_put (scratched q (scratched q T)) ≡ scratched (destination_rested q) T
unfolding scratched
twice q T = refl

size-rest : (T : Tokenizer) → InReady T → (scratched (destination_asked T.tokenize_state) T).tokenize_state.size ≡ 0
unfolding scratched
size-rest T p = ap (λ (s : TokenizeState). s.size) (sym p.part.rest)

title-ready : (T : Tokenizer) → InReady T → PartialTitle.TitleStartReady (scratched (title_asked T.tokenize_state) T)
unfolding scratched
title-ready T p =
    record {
      text = record { short = p.part.short; resting = record { space = ap title_asked p.part.spaces.space; eol = ap title_asked p.part.spaces.eol } };
      rest = ap (λ s. PartialTitle.rested (title_asked s)) (sym p.part.rest) ∙ ap title_asked p.part.rest;
    }

destination-read : (T U : Tokenizer) →
    PartialDestination.start_ends (scratched (destination_asked T.tokenize_state) T) true U →
    Reads (destination 32 resource_names) None (destination_asked T.tokenize_state) (scratched (destination_asked T.tokenize_state) T) U
unfolding scratched
destination-read T U k = k

destination-refused : (T U : Tokenizer) →
    PartialDestination.start_ends (scratched (destination_asked T.tokenize_state) T) false U →
    (destination 32 resource_names (ahead T) ≡ None) × Fails (destination_asked T.tokenize_state) (scratched (destination_asked T.tokenize_state) T) U
unfolding scratched
destination-refused T U k = (k.refused, k.fails)

title-read : (T U : Tokenizer) → PartialTitle.start_ends (scratched (title_asked T.tokenize_state) T) true U →
    Reads (title (asks_both T) title_names) None (title_asked T.tokenize_state) (scratched (title_asked T.tokenize_state) T) U
unfolding scratched
title-read T U k = k

title-refused : (T U : Tokenizer) → PartialTitle.start_ends (scratched (title_asked T.tokenize_state) T) false U →
    (title (asks_both T) title_names (ahead T) ≡ None) × Fails (title_asked T.tokenize_state) (scratched (title_asked T.tokenize_state) T) U
unfolding scratched
title-refused T U k = (k.refused, k.fails)

marker-read : (T U : Tokenizer) (c : Code) (cs : List Code) → ahead T ≡ c ∷ cs → is_value 41 c ≡ true →
    U ≡ done (front_ops ++ Exit N.Resource ∷ []) T → RowReads closes T.tokenize_state T U
unfolding gives
marker-read T U c cs e g left =
    let t : Forest = leaf N.ResourceMarker (c ∷ []) in
    let past-marker : done front_ops T ≡ past None t T = ops-past t cs T (IsSolid-leaf N.ResourceMarker (c ∷ [])) e in
    record {
      tree = t;
      rest = cs;
      holds = ap closes e ∙ bind-some (one (is_value 41)) _ (c ∷ cs) (c ∷ []) cs _ (one-here (is_value 41) c cs g) refl;
      left = left ∙ ap (applied (Exit N.Resource)) (past-marker ∙ ap (past None t) (sym (scratched-same T)));
      whole = e;
      after = ap ahead left ∙ exited-ahead (done front_ops T) ∙ ap ahead past-marker ∙ ahead-past None t T cs e;
    }

-- the closing marker is read
closed-by : (T U : Tokenizer) (cs : List Code) → ahead T ≡ cs → next_is (is_value 41) cs ≡ true →
    U ≡ done (front_ops ++ Exit N.Resource ∷ []) T → RowReads closes T.tokenize_state T U
closed-by T U [] e g left = absurd (false≢true g)
closed-by T U (c ∷ cs) e g left = marker-read T U c cs e g left

closed-so : (T : Tokenizer) (ok : Bool) (U : Tokenizer) → next_is (is_value 41) (ahead T) ≡ true →
    (ok ≡ true) × (U ≡ done (front_ops ++ Exit N.Resource ∷ []) T) → end_ends T ok U
closed-so T false U h x = absurd (false≢true x.0)
closed-so T true U h x = closed-by T U (ahead T) refl h x.1

module _ (W : Words) (within : EqualsLayer states_and_called W) where
  pub missing-law : Law W missing_words
  missing-law T alone _ =
      Goes-end W (weight_at 1 T) (missing_ends T) false (destination_put T) (attempts-scratched _ T ∙ alone) (omega arith) (λ ok U h. h)

  -- on to the closing marker
  end-there : (n : ℕ) (r : TreeReading) (T : Tokenizer) → InReady T → weight_at 1 T < n →
      closes (ahead T) ≡ r (ahead T) → FollowsIn W n (RowEnds r T.tokenize_state T) (Next LabelEndResourceEnd) T
  end-there n r T p room e =
      follows W n (RowEnds r T.tokenize_state T) (Next LabelEndResourceEnd) (within LabelEndResourceEnd) T p room (λ ok V h. row-same closes r T.tokenize_state T e ok V h)

  end-goes : (n : ℕ) (r : TreeReading) (T : Tokenizer) → T.attempts ≡ [] → InReady T → weight_at 1 T < n →
      closes (ahead T) ≡ r (ahead T) → GoesIn W n (RowEnds r T.tokenize_state T) (stepped (Retry LabelEndResourceEnd) T)
  end-goes n r T alone p room e =
      Goes-plain W n (RowEnds r T.tokenize_state T) (Retry LabelEndResourceEnd) (within LabelEndResourceEnd) T alone p room (λ ok V h. row-same closes r T.tokenize_state T e ok V h)

  -- whitespace that may stand there, and what follows it
  space-then : (n : ℕ) (r next : TreeReading) (st : StateName) {w : StateWords} → words_in W st ≡ w →
      (T U : Tokenizer) → (k : Reads (space_or_tab_eol None) None T.tokenize_state T U) →
      r (ahead T) ≡ behind k.tree (next (ahead U)) → w.ready U → weight_at (w.rank U) U < n →
      ((ok : Bool) (V : Tokenizer) → w.ends U ok V → RowEnds next U.tokenize_state U ok V) →
      FollowsIn W n (RowEnds r T.tokenize_state T) (Next st) U
  space-then n r next st {w} say T U k e on falls closed =
      follows W n (RowEnds r T.tokenize_state T) (Next st) {w = w} say U on falls
      (λ ok V h.
      row-then r next k.tree T.tokenize_state T.tokenize_state T U (spacing-unlinked (ahead T) k.tree k.rest k.holds) k.left (k.whole ∙ ap (λ xs. leaf_codes k.tree ++ xs) (sym k.after)) e ok V
      (subst (λ (s : TokenizeState). RowEnds next s U ok V) (fields-read (space_or_tab_eol None) T U k) (closed ok V h)))

  after-title-goes : (n : ℕ) (T : Tokenizer) → T.attempts ≡ [] → InReady T → weight_at 8 T < n →
      GoesIn W n (RowEnds after_title T.tokenize_state T) (if at_space (current_of T) then spaced LabelEndResourceEnd LabelEndResourceEnd T else stepped (Retry LabelEndResourceEnd) T)
  after-title-goes n T alone p room =
      if-step (GoesIn W n (RowEnds after_title T.tokenize_state T)) (at_space (current_of T)) _ _
      (λ h. spaced-law W within n (RowEnds after_title T.tokenize_state T) LabelEndResourceEnd LabelEndResourceEnd T alone p.part room
      (λ U k. space-then n after_title closes LabelEndResourceEnd (within LabelEndResourceEnd) T U k (ap (λ o. or_without o closes (ahead T)) k.holds ∙ ap (λ xs. behind k.tree (closes xs)) (sym k.after)) (in-read (space_or_tab_eol None) T U k p) (omega (arith, room, left-read (space_or_tab_eol None) None T.tokenize_state T U k)) (λ ok V x. x))
      (λ none. end-there n after_title T p (omega (arith, room)) (sym (ap (λ o. or_without o closes (ahead T)) none))))
      (λ h. end-goes n after_title T alone p (omega (arith, room)) (sym (ap (λ o. or_without o closes (ahead T)) (no-space T (current_of T) refl h))))

  pub title_after-law : Law W title_after_words
  unfolding scratched
  title_after-law T alone p =
      GoesOn-map W (weight_at 9 T) (RowEnds after_title (names_rested T.tokenize_state) (title_put T)) (title_after_ends T) (title_after_step T) (λ ok U x. row-scratched after_title (names_rested T.tokenize_state) (names_rested T.tokenize_state) T ok U x)
      (after-title-goes (weight_at 9 T) (title_put T) alone (record { part = p.part; whole = p.whole }) (omega arith))

  after-destination-goes : (n : ℕ) (T : Tokenizer) → T.attempts ≡ [] → InReady T → weight_at 12 T < n →
      GoesIn W n (RowEnds (after_destination (asks_both T)) T.tokenize_state T) (if at_space (current_of T) then spaced LabelEndResourceBetween LabelEndResourceEnd T else stepped (Retry LabelEndResourceEnd) T)
  after-destination-goes n T alone p room =
      if-step (GoesIn W n (RowEnds (after_destination (asks_both T)) T.tokenize_state T)) (at_space (current_of T)) _ _
      (λ h. spaced-law W within n (RowEnds (after_destination (asks_both T)) T.tokenize_state T) LabelEndResourceBetween LabelEndResourceEnd T alone p.part (omega (arith, room))
      (λ U k. space-then n (after_destination (asks_both T)) (between (asks_both T)) LabelEndResourceBetween (within LabelEndResourceBetween) T U k (ap (λ o. after_destination_of (asks_both T) o (ahead T)) k.holds ∙ ap (λ xs. behind k.tree (between (asks_both T) xs)) (sym k.after)) (in-read (space_or_tab_eol None) T U k p) (omega (arith, room, left-read (space_or_tab_eol None) None T.tokenize_state T U k)) (λ ok V x. subst (λ b. RowEnds (between b) U.tokenize_state U ok V) (asks-read (space_or_tab_eol None) T U k) x))
      (λ none. end-there n (after_destination (asks_both T)) T p (omega (arith, room)) (sym (ap (λ o. after_destination_of (asks_both T) o (ahead T)) none))))
      (λ h. end-goes n (after_destination (asks_both T)) T alone p (omega (arith, room)) (sym (ap (λ o. after_destination_of (asks_both T) o (ahead T)) (no-space T (current_of T) refl h))))

  pub destination_after-law : Law W destination_after_words
  unfolding scratched
  destination_after-law T alone p =
      GoesOn-map W (weight_at 13 T) (RowEnds (after_destination (asks_both T)) (destination_rested T.tokenize_state) (destination_put T)) (destination_after_ends T) (destination_after_step T) (λ ok U x. row-scratched (after_destination (asks_both T)) (destination_rested T.tokenize_state) (destination_rested T.tokenize_state) T ok U x)
      (after-destination-goes (weight_at 13 T) (destination_put T) alone (record { part = p.part; whole = p.whole }) (omega arith))

  -- nothing is read
  refuses-so : (r : TreeReading) (T V : Tokenizer) → r (ahead T) ≡ None → V ≡ T → RowEnds r T.tokenize_state T false V
  refuses-so r T V e same =
      record { refused = e; grown = subst (λ (x : Tokenizer). Grown 1 T x) (sym same) (Grown-refl 1 T); scratch = ap (λ (x : Tokenizer). x.tokenize_state) same }

  missing-there : (n : ℕ) (q : TokenizeState) (r : TreeReading) (T : Tokenizer) → weight_at 1 T < n →
      destination_rested q ≡ T.tokenize_state → r (ahead T) ≡ None →
      FollowsIn W n (RowEnds r T.tokenize_state T) (Next LabelEndResourceDestinationMissing) (scratched q (scratched q T))
  missing-there n q r T room back none =
      follows W n (RowEnds r T.tokenize_state T) (Next LabelEndResourceDestinationMissing) (within LabelEndResourceDestinationMissing) (scratched q (scratched q T)) tt
      (omega (arith, room, left-scratched q (scratched q T), left-scratched q T)) lost
    where
      put-back : (V : Tokenizer) → V ≡ destination_put (scratched q (scratched q T)) →
          V ≡ scratched (destination_rested q) T
      put-back V e = e ∙ twice q T

      lost : (ok : Bool) (V : Tokenizer) → missing_ends (scratched q (scratched q T)) ok V →
          RowEnds r T.tokenize_state T ok V
      lost true V h = absurd (true≢false h.0)
      lost false V h = refuses-so r T V none (put-back V h.1 ∙ ap (λ s. scratched s T) back ∙ scratched-same T)

  pub open-law : Law W open_words
  open-law T alone p =
      let s : TokenizeState = T.tokenize_state in
      let q : TokenizeState = destination_asked s in
      let n : ℕ = weight_at 14 T in
      let M : Tokenizer = scratched q T in
      let both : Bool = asks_both T in
      if-step (GoesIn W n (open_ends T)) (at_close (current_of T)) _ _
      (λ h. end-goes n (opened both) T alone p (omega arith) (sym (if-true _ _ _ (sym (closes-here T (current_of T) refl) ∙ h))))
      (λ h.
      let other : opened both (ahead T) ≡ and_then (destination 32 resource_names (ahead T)) (after_destination both) = if-false _ _ _ (sym (closes-here T (current_of T) refl) ∙ h) in
      Goes-attempt W n (open_ends T) (Retry DestinationStart) (within DestinationStart) (Next LabelEndResourceDestinationAfter) (Next LabelEndResourceDestinationMissing) M (attempts-scratched q T ∙ alone)
      (size-rest T p)
      (omega (arith, left-scratched q T))
      (λ U now g. let k = destination-read T U g in
      follows W n (open_ends T) (Next LabelEndResourceDestinationAfter) (within LabelEndResourceDestinationAfter) U (record { part = part-back destination_rested T U p.part (asked-fewer q _ T U k) (asked-codes q _ T U k) (ap destination_rested (asked-fields q _ T U k) ∙ destination-back s p.part.rest); whole = subst (λ ns. ns ≡ N.Resource ∷ rest_of ns) (sym (asked-stack q _ T U k)) p.whole })
      (omega (arith, asked-fewer q _ T U k))
      (λ ok V x.
      row-then (opened both) (after_destination both) k.tree q s T U (given-unlinked (destination 32 resource_names) destination-yields (ahead T) k.tree (ahead U) (asked-holds q _ T U k)) (asked-left q _ T U k) (asked-whole q _ T U k)
      (other ∙ ap (λ o. and_then o (after_destination both)) (asked-holds q _ T U k)) ok V
      (subst (λ (z : TokenizeState). RowEnds (after_destination both) z U ok V) (ap destination_rested (asked-fields q _ T U k) ∙ destination-back s p.part.rest)
      (subst (λ b. RowEnds (after_destination b) (destination_rested U.tokenize_state) U ok V) (asked-both q _ T U k) x))))
      (λ U now g. let k = destination-refused T U g in
      subst (λ (x : Tokenizer). FollowsIn W n (open_ends T) (Next LabelEndResourceDestinationMissing) x) (sym (restored-fails false (Next LabelEndResourceDestinationAfter) (Next LabelEndResourceDestinationMissing) q M U k.1))
      (missing-there n q (opened both) T (omega arith) (destination-back s p.part.rest) (other ∙ ap (λ o. and_then o (after_destination both)) k.0))))

  -- no resource ends behind a title in parentheses
  given-up : (T : Tokenizer) → InReady T → is_hopeless T ≡ true → (ok : Bool) (U : Tokenizer) → (ok ≡ false) × (U ≡ T) →
      between_ends T ok U
  given-up T p h true U x = absurd (true≢false x.0)
  given-up T p h false U x = refuses-so (between (asks_both T)) T U (hopeless-between (asks_both T) T p h) x.1

  pub between-law : Law W between_words
  between-law T alone p =
      let s : TokenizeState = T.tokenize_state in
      let q : TokenizeState = title_asked s in
      let n : ℕ = weight_at 12 T in
      let M : Tokenizer = scratched q T in
      let both : Bool = asks_both T in
      if-step (GoesIn W n (between_ends T)) (is_hopeless T) _ _
      (λ h. Goes-end W n (between_ends T) false T alone (omega arith) (λ ok U x. given-up T p h ok U x))
      (λ h.
      if-step (GoesIn W n (between_ends T)) (at_title (current_of T)) _ _
      (λ h.
      let here : between both (ahead T) ≡ and_then (title both title_names (ahead T)) after_title = if-true _ _ _ (sym (titles-here T (current_of T) refl) ∙ h) in
      Goes-attempt W n (between_ends T) (Retry TitleStart) (within TitleStart) (Next LabelEndResourceTitleAfter) (Next LabelEndResourceDestinationMissing) M (attempts-scratched q T ∙ alone)
      (title-ready T p)
      (omega (arith, left-scratched q T))
      (λ U now g. let k = title-read T U g in
      follows W n (between_ends T) (Next LabelEndResourceTitleAfter) (within LabelEndResourceTitleAfter) U (record { part = part-back names_rested T U p.part (asked-fewer q _ T U k) (asked-codes q _ T U k) (ap names_rested (asked-fields q _ T U k) ∙ title-back s p.part.rest); whole = subst (λ ns. ns ≡ N.Resource ∷ rest_of ns) (sym (asked-stack q _ T U k)) p.whole })
      (omega (arith, asked-fewer q _ T U k))
      (λ ok V x.
      row-then (between both) after_title k.tree q s T U (given-unlinked (title both title_names) (title-yields both) (ahead T) k.tree (ahead U) (asked-holds q _ T U k)) (asked-left q _ T U k) (asked-whole q _ T U k)
      (here ∙ ap (λ o. and_then o after_title) (asked-holds q _ T U k)) ok V
      (subst (λ (z : TokenizeState). RowEnds after_title z U ok V) (ap names_rested (asked-fields q _ T U k) ∙ title-back s p.part.rest) x)))
      (λ U now g. let k = title-refused T U g in
      subst (λ (x : Tokenizer). FollowsIn W n (between_ends T) (Next LabelEndResourceDestinationMissing) x) (sym (restored-fails false (Next LabelEndResourceTitleAfter) (Next LabelEndResourceDestinationMissing) q M U k.1))
      (missing-there n q (between both) T (omega arith) (missing-back s p.part.rest) (here ∙ ap (λ o. and_then o after_title) k.0))))
      (λ h. end-goes n (between both) T alone p (omega arith) (sym (if-false _ _ _ (sym (titles-here T (current_of T) refl) ∙ h)))))

  -- the closing marker
  pub end-law : Law W end_words
  end-law T alone p =
      if-step (GoesIn W (weight_at 1 T) (end_ends T)) (at_close (current_of T)) _ _
      (λ h. Goes-end W (weight_at 1 T) (end_ends T) true (done (front_ops ++ Exit N.Resource ∷ []) T) (attempts-done (front_ops ++ Exit N.Resource ∷ []) T ∙ alone) (omega arith)
      (λ ok U x. closed-so T ok U (sym (closes-here T (current_of T) refl) ∙ h) x))
      (λ h. Goes-end W (weight_at 1 T) (end_ends T) false T alone (omega arith) (λ ok U x. open-so ok U (closes-none (ahead T) (sym (closes-here T (current_of T) refl) ∙ h)) x))
    where
      open-so : (ok : Bool) (U : Tokenizer) → closes (ahead T) ≡ None → (ok ≡ false) × (U ≡ T) → end_ends T ok U
      open-so true U none x = absurd (true≢false x.0)
      open-so false U none x = refuses-so closes T U none x.1
