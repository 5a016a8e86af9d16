-- The laws of the states of a label's end.
use Rattle.std.proofs.Common.{◌≡◌, ℕ, ◌<◌, ◌==◌, Bool, true, false, ◌&&◌, not, None, Option, List, [], ◌∷◌, refl, sym, ap, subst, ◌∙◌, arith}
use Rattle.std.proofs.lemmas.Bool.{false≢true}
use Rattle.std.specs.Prelude.{is_some}
use Rattle.markdown_content.specs.ListFunctions.{rest_of}
use Rattle.markdown_engine.specs.Operations.{ahead, applied, current_of, scratched}
use Rattle.markdown_engine.specs.PastTree.{TreeReading, past}
use Rattle.markdown_engine.specs.StateRuns.{Stepped}
use Rattle.markdown_engine.specs.StateWords.{Words, Law, GoesIn}
use Rattle.markdown_content.specs.Tree.{empty}
use Rattle.markdown_engine.specs.Weights.{codes_left, weight_at}
use Rattle.markdown_event.specs.declared.state.State.TheVariants.{Next, Retry}
use Rattle.markdown_event.specs.declared.state.StateName.TheVariants.{LabelEndOk, LabelEndNok, LabelEndResourceStart, LabelEndReferenceFull, LabelEndReferenceNotFull, LabelEndReferenceCollapsed, LabelEndReferenceCollapsedOpen}
use Rattle.markdown_content.specs.declared.label_kind.LabelKind.{LabelKind}
use Rattle.markdown_engine.specs.declared.tokenizer.LabelStart as Kept
use Rattle.markdown_engine.specs.declared.tokenizer.TokenizeState.{TokenizeState}
use Rattle.markdown_engine.specs.declared.tokenizer.Tokenizer.{Tokenizer}
use Rattle.markdown_engine.proofs.ReadingSequences.{scratched-same}
use Rattle.markdown_engine.proofs.LawSteps.{if-step, code-step}
use Rattle.markdown_engine.proofs.OperationFields.{BeginsWithValue, ahead-some, attempts-scratched, left-scratched, some-codes}
use Rattle.markdown_engine.proofs.OperationLemmas.{Grown-scratched}
use Rattle.markdown_event.proofs.AndParts.{and-left}
use Rattle.markdown_engine.proofs.TreeEvents.{past-empty}
use Rattle.markdown_plan.specs.Plan.{Plan, plan_of, KeepsAs}
use Rattle.markdown_plan.specs.LayerEquation.{EqualsLayer}
use Rattle.markdown_plan.proofs.PlanSteps.{EndsAs-plan}
use Rattle.markdown_plan.proofs.LawStepsOfLayer.{FollowsIn, follows, GoesOn-map, Goes-end, Goes-next, Goes-no, Goes-plain, Goes-yes}
use Rattle.markdown_model.specs.Grammar.{either}
use Rattle.markdown_model.specs.LabelEnd.{is_footnote, full_reference, collapsed_reference, shortcut, reference_after_label, after_label, link_kind, names_footnote, names_definition}
use Rattle.markdown_model.specs.Resource.{resource, label, reference_names}
use Rattle.markdown_model.specs.Setting.{Setting}
use Rattle.markdown_model.proofs.GrammarSteps.{either-some, either-second, if-true, if-false}
use Rattle.markdown_label.specs.AfterLabelParts.{rested}
use Rattle.markdown_label.proofs.NextCodeTests.{at-value, at-none}
use Rattle.markdown_label.specs.LabelFields.{AreOrdered, with_kind, as_link}
use Rattle.markdown_partial.specs.LinkedText.{rules_in}
use Rattle.markdown_label.specs.Resource.{asks_both}
use Rattle.markdown_label.specs.LabelEnd.{by_definition, not_full, tail_at, link_tried, after_by, made_here, lost_here, label_seen, label_matters, may_be_shortcut, collapsed_front, collapsed_back, collapsed_at, reference_collapsed_step, collapsed_open_at, AfterReady, FullReady, tail_ends, kind_set, made, after_reading_of}
use Rattle.markdown_label_names.specs.LabelNames.{label_between}
use Rattle.markdown_label.specs.LabelEnd.{after_reading, after_ends, ok_ends, nok_ends, not_full_reading, reference_collapsed_ends, collapsed_open_plan, reference_collapsed_open_ends, starts_set, states_and_called, ok_words, nok_words, after_words, reference_collapsed_words, reference_collapsed_open_words, reference_not_full_words}
use Rattle.markdown_model.specs.SingleConstructs.{outcome}
use Rattle.markdown_label_names.specs.LabelSetting.{setting_in}
use Rattle.markdown_label.proofs.LabelEndLemmas.{attempts-made, ahead-made, on-definition, goes-definition, goes-tried, tail-same, loses-here}
use Rattle.markdown_label.proofs.LabelEndReadings.{after-paren, after-bracket, after-other, full-first, undefined-none, defined-either, collapsed-whole, collapsed-here, collapsed-none, outcome-call, outcome-tail, outcome-none, footnote-kind}

-- The scratch fields.

seen-rested : (s : TokenizeState) → rested s ≡ s → s.seen ≡ false
seen-rested s e = ap (λ (q : TokenizeState). q.seen) (sym e)

-- seen or not, the fields are as before once that is put to rest
seen-back : (b : Bool) (T : Tokenizer) → T.tokenize_state.seen ≡ false →
    scratched (label_seen false (label_seen b T.tokenize_state)) (scratched (label_seen b T.tokenize_state) T) ≡ T
unfolding scratched
seen-back b T e = ap (λ x. record T { tokenize_state = record T.tokenize_state { seen = x } }) (sym e)

-- where it matters
matters-seen : (o x : Bool) → (o && not (o && x)) ≡ (o && not x)
matters-seen true x = refl
matters-seen false x = refl

-- a lost start puts it to rest
lost-seen : (b : Bool) (T : Tokenizer) → lost_here (scratched (label_seen b T.tokenize_state) T) ≡ lost_here T
unfolding scratched
lost-seen b T = refl

module _ (W : Words) (within : EqualsLayer states_and_called W) where
  -- Where all ends meet.

  seen-ordered : (b : Bool) (T : Tokenizer) → AreOrdered T.tokenize_state.label_starts →
      AreOrdered (scratched (label_seen b T.tokenize_state) T).tokenize_state.label_starts
  unfolding scratched
  seen-ordered b T k = k

  tried-ordered : (ls : List Kept.LabelStart) → AreOrdered ls → AreOrdered (as_link ls)
  tried-ordered [] k = k
  tried-ordered (l ∷ ls) k = k

  pub ok-law : Law W ok_words
  ok-law T alone _ =
      Goes-end W (weight_at 1 T) (ok_ends T) true (made_here T) (attempts-made T alone) (omega arith) (λ ok U h. h)

  pub nok-law : Law W nok_words
  nok-law T alone _ =
      Goes-end W (weight_at 1 T) (nok_ends T) false (lost_here T) (attempts-scratched _ T ∙ alone) (omega arith) (λ ok U h. h)

  -- Collapsed references.

  pub reference_collapsed-law : Law W reference_collapsed_words
  unfolding applied
  reference_collapsed-law T alone _ =
      let p : Plan = plan_of collapsed_reference in
      let P : Stepped → Type 0 = GoesIn W (weight_at 2 T) (KeepsAs 0 p T) in
      GoesOn-map W (weight_at 2 T) (KeepsAs 0 p T) (reference_collapsed_ends T) (reference_collapsed_step T) (λ ok U x. EndsAs-plan collapsed_reference collapsed-whole T.tokenize_state T ok U x)
      (code-step P (current_of T) (λ o. collapsed_at o T)
      (λ e. Goes-no W 2 0 p T alone (collapsed-none (ahead T) (at-none T 91 e)))
      (λ c e.
      let b : BeginsWithValue c (ahead T) = ahead-some T c e in
      if-step P (c == 91) _ _
      (λ h. Goes-next W 2 0 p collapsed_open_plan collapsed_front T (Next LabelEndReferenceCollapsedOpen) (within LabelEndReferenceCollapsedOpen) alone refl (some-codes T c e) (omega arith)
      (ap p b.whole ∙ collapsed-here b.code (rest_of (ahead T)) (ap (λ v. v == 91) b.value ∙ h))
      refl
      (λ ok U x. x))
      (λ h. Goes-no W 2 0 p T alone (collapsed-none (ahead T) (at-value T c 91 false e h)))))

  pub reference_collapsed_open-law : Law W reference_collapsed_open_words
  reference_collapsed_open-law T alone _ =
      let P : Stepped → Type 0 = GoesIn W (weight_at 1 T) (reference_collapsed_open_ends T) in
      code-step P (current_of T) (λ o. collapsed_open_at o T)
      (λ e. Goes-no W 1 1 collapsed_open_plan T alone (if-false _ _ _ (at-none T 93 e)))
      (λ c e. if-step P (c == 93) _ _
      (λ h. Goes-yes W 1 1 collapsed_open_plan collapsed_back T alone (if-true _ _ _ (at-value T c 93 true e h)))
      (λ h. Goes-no W 1 1 collapsed_open_plan T alone (if-false _ _ _ (at-value T c 93 false e h))))

  pub reference_not_full-law : Law W reference_not_full_words
  reference_not_full-law T alone ordered =
      let M : Tokenizer = scratched (label_seen false T.tokenize_state) T in
      let n : ℕ = weight_at 3 T in
      let may : Bool = may_be_shortcut T in
      let same : codes_left M ≡ codes_left T = left-scratched _ T in
      goes-tried W within n (not_full_reading T) LabelEndReferenceCollapsed (within LabelEndReferenceCollapsed) (by_definition may) collapsed_reference M.tokenize_state M (attempts-scratched _ T ∙ alone)
      (seen-ordered false T ordered)
      tt
      (omega (arith, same))
      (omega (arith, same))
      (λ U h. h)
      (λ U h. (h.refused, h.fails))
      (λ tree rest h. either-some collapsed_reference (shortcut may) (ahead M) (tree, rest) h)
      (λ h. subst (λ (x : Tokenizer). FollowsIn W n (tail_ends (not_full_reading T) M) (Next (by_definition may)) x) (sym (scratched-same M))
      (on-definition W within n (not_full_reading T) may M (seen-ordered false T ordered) (omega (arith, same)) (either-second collapsed_reference (shortcut may) (ahead M) h)))

  -- Behind the `]`.

  -- where a `[` follows that begins no full reference
  not-full-goes : (n : ℕ) (defined : Bool) (M : Tokenizer) → AreOrdered M.tokenize_state.label_starts → weight_at 3 M < n → M.tokenize_state.seen ≡ false → after_label (setting_in M) defined (ahead M) ≡ reference_after_label (setting_in M) defined (ahead M) → full_reference (setting_in M) (ahead M) ≡ None
      → FollowsIn W n (tail_ends (after_label (setting_in M) defined) M) (Next (not_full defined)) (scratched (label_seen (label_matters M && is_some (label (rules_in M).labels_by_characters reference_names (ahead M))) M.tokenize_state) M)
  unfolding scratched
  not-full-goes n true M ordered room rest is none =
      let x : Bool = is_some (label (rules_in M).labels_by_characters reference_names (ahead M)) in
      let b : Bool = label_matters M && x in
      let V : Tokenizer = scratched (label_seen b M.tokenize_state) M in
      follows W n (tail_ends (after_label (setting_in M) true) M) (Next LabelEndReferenceNotFull) (within LabelEndReferenceNotFull) V ordered room
      (λ ok U h.
      let back : tail_ends (not_full_reading V) M ok U = subst (λ (x : Tokenizer). tail_ends (not_full_reading V) x ok U) (seen-back b M rest) h in
      tail-same (not_full_reading V) (after_label (setting_in M) true) M (ap (λ o. either collapsed_reference (shortcut o) (ahead M)) (matters-seen (label_matters M) x) ∙ sym (is ∙ defined-either (setting_in M) (ahead M) none)) ok U back)
  not-full-goes n false M ordered room rest is none =
      let b : Bool = label_matters M && is_some (label (rules_in M).labels_by_characters reference_names (ahead M)) in
      let V : Tokenizer = scratched (label_seen b M.tokenize_state) M in
      follows W n (tail_ends (after_label (setting_in M) false) M) (Next LabelEndNok) (within LabelEndNok) V tt (omega (arith, room))
      (λ ok U k. loses-here (after_label (setting_in M) false) M (is ∙ undefined-none (setting_in M) (ahead M) none) ok U (k.0, k.1 ∙ lost-seen b M))

  pub tail-law : (n : ℕ) (defined : Bool) (M : Tokenizer) → M.attempts ≡ [] → AreOrdered M.tokenize_state.label_starts → FullReady M → weight_at 12 M < n →
      GoesIn W n (tail_ends (after_label (setting_in M) defined) M) (tail_at defined (current_of M) M)
  tail-law n defined M alone ordered k room =
      let s : Setting = setting_in M in
      let big : TreeReading = after_label s defined in
      let P : Stepped → Type 0 = GoesIn W n (tail_ends big M) in
      code-step P (current_of M) (λ o. tail_at defined o M)
      (λ e. goes-definition W within n big defined M alone ordered (omega (arith, room)) (after-other s defined (ahead M) (at-none M 40 e) (at-none M 91 e)))
      (λ c e. if-step P (c == 40) _ _
      (λ h.
      let is : big (ahead M) ≡ either (resource (asks_both M)) (shortcut defined) (ahead M) = after-paren s defined (ahead M) (at-value M c 40 true e h) in
      goes-tried W within n big LabelEndResourceStart (within LabelEndResourceStart) (by_definition defined) (resource (asks_both M)) M.tokenize_state M alone
      ordered
      k.part
      room
      (omega (arith, room))
      (λ U x. x)
      (λ U x. (x.refused, x.fails))
      (λ tree rest x. is ∙ either-some (resource (asks_both M)) (shortcut defined) (ahead M) (tree, rest) x)
      (λ x. subst (λ (y : Tokenizer). FollowsIn W n (tail_ends big M) (Next (by_definition defined)) y) (sym (scratched-same M))
      (on-definition W within n big defined M ordered (omega (arith, room)) (is ∙ either-second (resource (asks_both M)) (shortcut defined) (ahead M) x))))
      (λ g. if-step P (c == 91) _ _
      (λ h.
      let is : big (ahead M) ≡ reference_after_label s defined (ahead M) = after-bracket s defined (ahead M) (at-value M c 40 false e g) (at-value M c 91 true e h) in
      goes-tried W within n big LabelEndReferenceFull (within LabelEndReferenceFull) (not_full defined) (full_reference s) (label_seen (label_matters M && is_some (label (rules_in M).labels_by_characters reference_names (ahead M))) M.tokenize_state) M alone
      ordered
      k
      room
      (omega (arith, room))
      (λ U x. x)
      (λ U x. (x.refused, x.fails))
      (λ tree rest x. is ∙ full-first s defined (ahead M) (tree, rest) x)
      (λ x. not-full-goes n defined M ordered (omega (arith, room)) (seen-rested M.tokenize_state k.part.rest) is x))
      (λ h. goes-definition W within n big defined M alone ordered (omega (arith, room)) (after-other s defined (ahead M) (at-value M c 40 false e g) (at-value M c 91 false e h)))))

  -- with the start tried as a link's
  tried-ready : (T : Tokenizer) → AfterReady T → FullReady (link_tried T)
  unfolding scratched
  tried-ready T k =
      let f : TokenizeState → TokenizeState = starts_set (as_link T.tokenize_state.label_starts) in
      record {
        part = record {
          short = k.part.short;
          indexed = k.part.indexed;
          titled = k.part.titled;
          spaces = record { space = ap f k.part.spaces.space; eol = ap f k.part.spaces.eol };
          rest = ap f k.part.rest;
        };
        listed = k.listed;
        text = k.text;
        end = k.end;
      }

  first-kind : (l : Kept.LabelStart) (ls : List Kept.LabelStart) (T : Tokenizer) →
      T.tokenize_state.label_starts ≡ l ∷ ls → link_tried T ≡ kind_set (link_kind l.kind) T
  first-kind l ls T e =
      ap (λ x. scratched (starts_set x T.tokenize_state) T) (ap as_link e ∙ sym (ap (with_kind (link_kind l.kind)) e))

  reads-as : (l : Kept.LabelStart) (ls : List Kept.LabelStart) (T : Tokenizer) →
      T.tokenize_state.label_starts ≡ l ∷ ls →
      after_reading T (ahead T) ≡ outcome (setting_in T) l.kind (label_between T l.kind l.start.1 T.tokenize_state.end) (ahead T)
  reads-as l ls T e = ap (λ x. after_reading_of x T (ahead T)) e

  -- a tail that makes the label or not, of a start tried as a link's
  tail-after : (l : Kept.LabelStart) (ls : List Kept.LabelStart) (T : Tokenizer) →
      T.tokenize_state.label_starts ≡ l ∷ ls → (name : Option (List ℕ)) →
      name ≡ label_between T l.kind l.start.1 T.tokenize_state.end →
      is_footnote l.kind && names_footnote (setting_in T) name ≡ false → (ok : Bool) (U : Tokenizer) →
      tail_ends (after_label (setting_in T) (names_definition (setting_in T) l.kind name)) (link_tried T) ok U →
      after_ends T ok U
  unfolding made scratched
  tail-after l ls T e name named other true U k =
      record {
        kind = link_kind l.kind;
        tail = k.tail;
        rest = k.rest;
        holds = reads-as l ls T e ∙ ap (λ x. outcome (setting_in T) l.kind x (ahead T)) (sym named) ∙ outcome-tail (setting_in T) l.kind name (ahead T) k.tail k.rest other k.holds;
        left = k.left ∙ ap (λ (x : Tokenizer). made_here (past None k.tail x)) (first-kind l ls T e);
        whole = k.whole;
        after = k.after;
      }
  tail-after l ls T e name named other false U k =
      record {
        refused = reads-as l ls T e ∙ ap (λ x. outcome (setting_in T) l.kind x (ahead T)) (sym named) ∙ outcome-none (setting_in T) l.kind name (ahead T) other k.refused;
        fails = record { grown = Grown-scratched 0 _ T U k.fails.grown; scratch = k.fails.scratch };
      }

  -- a call, with nothing behind it
  call-kept : (l : Kept.LabelStart) (ls : List Kept.LabelStart) (T : Tokenizer) →
      T.tokenize_state.label_starts ≡ l ∷ ls → l.kind ≡ LabelKind.GfmFootnote → kind_set LabelKind.GfmFootnote T ≡ T
  call-kept l ls T e h =
      ap (λ x. scratched (starts_set x T.tokenize_state) T) (ap (with_kind LabelKind.GfmFootnote) e ∙ ap (λ x. record l { kind = x } ∷ ls) (sym h) ∙ sym e) ∙ scratched-same T

  call-after : (l : Kept.LabelStart) (ls : List Kept.LabelStart) (T : Tokenizer) →
      T.tokenize_state.label_starts ≡ l ∷ ls →
      is_footnote l.kind && names_footnote (setting_in T) (label_between T l.kind l.start.1 T.tokenize_state.end) ≡ true →
      (ok : Bool) (U : Tokenizer) → ok_ends T ok U → after_ends T ok U
  unfolding made
  call-after l ls T e called true U k =
      let name : Option (List ℕ) = label_between T l.kind l.start.1 T.tokenize_state.end in
      record {
        kind = LabelKind.GfmFootnote;
        tail = empty;
        rest = ahead T;
        holds = reads-as l ls T e ∙ outcome-call (setting_in T) l.kind name (ahead T) called;
        left = k.1 ∙ ap made_here (sym (past-empty None T)) ∙ ap (λ (x : Tokenizer). made_here (past None empty x)) (sym (call-kept l ls T e (footnote-kind l.kind (and-left _ _ called))));
        whole = refl;
        after = ap ahead k.1 ∙ ahead-made T;
      }
  call-after l ls T e called false U k = absurd (false≢true k.0)

  tail-there : (n : ℕ) (defined : Bool) (T : Tokenizer) → T.attempts ≡ [] → AreOrdered T.tokenize_state.label_starts → FullReady (link_tried T) →
      weight_at 12 T < n →
      GoesIn W n (tail_ends (after_label (setting_in T) defined) (link_tried T)) (tail_at defined (current_of T) (link_tried T))
  unfolding scratched
  tail-there n defined T alone ordered k room = tail-law n defined (link_tried T) alone (tried-ordered T.tokenize_state.label_starts ordered) k room

  after-goes : (l : Kept.LabelStart) (ls : List Kept.LabelStart) (T : Tokenizer) → T.attempts ≡ [] → AfterReady T →
      T.tokenize_state.label_starts ≡ l ∷ ls → GoesIn W (weight_at 13 T) (after_ends T) (after_by (l ∷ ls) T)
  after-goes l ls T alone k e =
      let n : ℕ = weight_at 13 T in
      let s : Setting = setting_in T in
      let name : Option (List ℕ) = label_between T l.kind l.start.1 T.tokenize_state.end in
      let defined : Bool = names_definition s l.kind name in
      let P : Stepped → Type 0 = GoesIn W n (after_ends T) in
      if-step P (is_footnote l.kind && names_footnote s name) _ _
      (λ h. Goes-plain W n (after_ends T) (Retry LabelEndOk) (within LabelEndOk) T alone k.ordered (omega arith) (call-after l ls T e h))
      (λ h. GoesOn-map W n (tail_ends (after_label s defined) (link_tried T)) (after_ends T) (tail_at defined (current_of T) (link_tried T)) (λ ok U x. tail-after l ls T e name refl h ok U x)
      (tail-there n defined T alone k.ordered (tried-ready T k) (omega arith)))

  pub after-law : Law W after_words
  after-law T alone k = by-starts T.tokenize_state.label_starts refl
    where
      by-starts : (ls : List Kept.LabelStart) → T.tokenize_state.label_starts ≡ ls →
          GoesIn W (weight_at 13 T) (after_ends T) (after_by ls T)
      by-starts [] e = absurd (k.some e)
      by-starts (l ∷ ls) e = after-goes l ls T alone k e
