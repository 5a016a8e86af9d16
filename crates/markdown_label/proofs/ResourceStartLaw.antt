-- The law of the start of a resource: the group around its row.
use Rattle.std.proofs.Common.{◌≡◌, ◌+◌, ◌==◌, Bool, true, false, if◌then◌else◌, Option, Some, None, List, [], ◌∷◌, ◌++◌, length, refl, sym, ap, subst, ◌∙◌, arith, append-nil}
use Rattle.std.proofs.lemmas.Bool.{true≢false}
use Rattle.markdown_content.proofs.DocumentPlaces.{stop-more}
use Rattle.markdown_content.specs.Codes.{Code, stop_of}
use Rattle.markdown_engine.specs.FailedRun.{Grown, Fails}
use Rattle.markdown_content.specs.ListFunctions.{rest_of}
use Rattle.markdown_engine.specs.Operations.{Enter, Exit, ahead, applied, current_of, done, scratched}
use Rattle.markdown_engine.specs.PastTree.{TreeReading, past, behind, moved_by}
use Rattle.markdown_content.specs.Place.{point_of, exit_point, moved}
use Rattle.markdown_engine.specs.StateRuns.{Stepped, stepped}
use Rattle.markdown_engine.specs.StateWords.{Words, Law, GoesIn}
use Rattle.markdown_content.specs.Tree.{Forest, empty, leaf_then, group_then, leaf, ◌⊕◌, group, leaf_codes, exit_after}
use Rattle.markdown_engine.specs.Weights.{codes_left, weight_at}
use Rattle.markdown_event.specs.declared.event.Name.TheVariants as N
use Rattle.markdown_event.specs.declared.event.Point.{Point}
use Rattle.markdown_event.specs.declared.state.State.TheVariants.{Next, Nok}
use Rattle.markdown_event.specs.declared.state.StateName.TheVariants.{LabelEndResourceBefore}
use Rattle.markdown_engine.specs.declared.tokenizer.Tokenizer.{Tokenizer}
use Rattle.markdown_engine.proofs.ReadingSequences.{scratched-same}
use Rattle.markdown_engine.proofs.LawSteps.{Grown-refl, if-step, code-step}
use Rattle.markdown_engine.proofs.OperationFields.{BeginsWithValue, ahead-some, ahead-applied, left-ahead}
use Rattle.markdown_engine.proofs.OperationLemmas.{Grown-applied}
use Rattle.markdown_engine.proofs.PlaceAfterCodes.{stop-moved}
use Rattle.markdown_content.proofs.PlaceRules.{point_ahead}
use Rattle.markdown_engine.proofs.SolidTrees.{IsSolid-leaf}
use Rattle.markdown_engine.proofs.TreeEvents.{Grown-past, ahead-past, group-past, ops-past}
use Rattle.markdown_content.proofs.TreeCodes.{leaf_codes-row}
use Rattle.markdown_model.specs.CodeTests.{is_value, next_is}
use Rattle.markdown_model.specs.Grammar.{gives, one}
use Rattle.markdown_model.specs.Resource.{begins_title, destination, resource, resource_names, title, title_names}
use Rattle.markdown_model.specs.Whitespace.{space_or_tab_eol}
use Rattle.markdown_model.proofs.NoLinkInConstructs.{PassesValue}
use Rattle.markdown_model.proofs.GrammarSteps.{bind-some, one-here}
use Rattle.markdown_plan.specs.LayerEquation.{EqualsLayer}
use Rattle.markdown_plan.proofs.LawStepsOfLayer.{Goes-end, Goes-plain}
use Rattle.markdown_label.specs.AfterLabelParts.{PartReady}
use Rattle.markdown_label.specs.Resource.{resource_ends, front_ops, start_at, closes, or_without, and_then, after_title, between, after_destination_of, after_destination, opened, inside, asks_both, InReady, before_ends, start_words, states_and_called}
use Rattle.markdown_label.proofs.NextCodeTests.{at-value, at-none}
use Rattle.markdown_label.proofs.ResourceLaws.{past-then}
use Rattle.markdown_label.proofs.ResourceReadings.{row-assoc, closes-none, grouped, resource-inside, resource-none}

-- The row ends with the closing marker.

record EndsIn (t : Forest) : Type 0 where
  front : Forest
  code : Code
  is : t ≡ front ⊕ leaf_then N.ResourceMarker None (code ∷ []) empty

behind-ends : (t : Forest) (o : Option (Forest × List Code)) → PassesValue EndsIn o → PassesValue EndsIn (behind t o)
behind-ends t None k = tt
behind-ends t (Some r) k =
    record { front = t ⊕ k.front; code = k.code; is = ap (λ x. t ⊕ x) k.is ∙ sym (row-assoc t k.front (leaf_then N.ResourceMarker None (k.code ∷ []) empty)) }

closes-here : (c : Code) (cs : List Code) → is_value 41 c ≡ true →
    closes (c ∷ cs) ≡ Some (leaf N.ResourceMarker (c ∷ []), cs)
unfolding gives
closes-here c cs e = bind-some (one (is_value 41)) _ (c ∷ cs) (c ∷ []) cs _ (one-here (is_value 41) c cs e) refl

closes-ends : (cs : List Code) → PassesValue EndsIn (closes cs)
closes-ends [] = subst (λ o. PassesValue EndsIn o) (sym (closes-none [] refl)) tt
closes-ends (c ∷ cs) =
    elim (is_value 41 c) as (λ b. is_value 41 c ≡ b → PassesValue EndsIn (closes (c ∷ cs))) [
      | true ↦ λ e. subst (λ o. PassesValue EndsIn o) (sym (closes-here c cs e)) (record { front = empty; code = c; is = refl })
      | false ↦ λ e. subst (λ o. PassesValue EndsIn o) (sym (closes-none (c ∷ cs) e)) tt
    ] refl

or-ends : (o : Option (Forest × List Code)) (next : TreeReading) (cs : List Code) →
    ((ds : List Code) → PassesValue EndsIn (next ds)) → PassesValue EndsIn (or_without o next cs)
or-ends None next cs h = h cs
or-ends (Some r) next cs h = behind-ends r.0 (next r.1) (h r.1)

and-ends : (o : Option (Forest × List Code)) (next : TreeReading) → ((ds : List Code) → PassesValue EndsIn (next ds)) →
    PassesValue EndsIn (and_then o next)
and-ends None next h = tt
and-ends (Some r) next h = behind-ends r.0 (next r.1) (h r.1)

if-ends : (b : Bool) (x y : Option (Forest × List Code)) → PassesValue EndsIn x → PassesValue EndsIn y →
    PassesValue EndsIn (if b then x else y)
if-ends true x y p q = p
if-ends false x y p q = q

title-ends : (cs : List Code) → PassesValue EndsIn (after_title cs)
title-ends cs = or-ends (space_or_tab_eol None cs) closes cs closes-ends

between-ends : (both : Bool) (cs : List Code) → PassesValue EndsIn (between both cs)
between-ends both cs =
    if-ends (begins_title cs) (and_then (title both title_names cs) after_title) (closes cs) (and-ends (title both title_names cs) after_title title-ends) (closes-ends cs)

destination-ends : (both : Bool) (cs : List Code) (o : Option (Forest × List Code)) →
    PassesValue EndsIn (after_destination_of both o cs)
destination-ends both cs None = closes-ends cs
destination-ends both cs (Some r) = behind-ends r.0 (between both r.1) (between-ends both r.1)

opened-ends : (both : Bool) (cs : List Code) → PassesValue EndsIn (opened both cs)
opened-ends both cs =
    if-ends (next_is (is_value 41) cs) (closes cs) (and_then (destination 32 resource_names cs) (after_destination both)) (closes-ends cs) (and-ends (destination 32 resource_names cs) (after_destination both) (λ ds. destination-ends both ds (space_or_tab_eol None ds)))

inside-ends : (both : Bool) (cs : List Code) (t : Forest) (rest : List Code) → inside both cs ≡ Some (t, rest) → EndsIn t
inside-ends both cs t rest e = subst (λ o. PassesValue EndsIn o) e (or-ends (space_or_tab_eol None cs) (opened both) cs (opened-ends both))

-- So the group ends where its last code ends.

exit-last : (p : Point) (x : Forest) (b : Code) →
    exit_after p (x ⊕ leaf_then N.ResourceMarker None (b ∷ []) empty) ≡ b.stop
exit-last p empty b = refl
exit-last p (leaf_then n l cs rest) b = exit-last (stop_of p cs) rest b
exit-last p (group_then n a e i rest) b = exit-last e rest b

same-exit : (p q : Point) (t : Forest) → EndsIn t → exit_after p t ≡ stop_of q (leaf_codes t)
same-exit p q t k =
    ap (exit_after p) k.is
    ∙ exit-last p k.front k.code
    ∙ sym (ap (λ x. stop_of q (leaf_codes x)) k.is ∙ ap (stop_of q) (leaf_codes-row k.front (leaf_then N.ResourceMarker None (k.code ∷ []) empty)) ∙ stop-more q (leaf_codes k.front) k.code)

-- the whole group is passed
group-made : (x : Code) (t : Forest) (rest : List Code) (T : Tokenizer) → EndsIn t →
    ahead T ≡ (x ∷ leaf_codes t) ++ rest →
    applied (Exit N.Resource) (past None (leaf_then N.ResourceMarker None (x ∷ []) t) (applied (Enter N.Resource) T)) ≡ past None (group N.Resource (leaf N.ResourceMarker (x ∷ []) ⊕ t)) T
group-made x t rest T k e =
    let I : Forest = leaf_then N.ResourceMarker None (x ∷ []) t in
    let first : point_of T.cursor ≡ x.start = point_ahead T.cursor x (leaf_codes t ++ rest) e in
    let last : exit_point (moved_by (x ∷ leaf_codes t) T.cursor) ≡ exit_after x.stop t = stop-moved x.stop x (leaf_codes t) rest T.cursor e ∙ sym (same-exit x.stop x.stop t k) in
    group-past N.Resource None I T ∙ (λ i. past None (group_then N.Resource (first i) (last i) I empty) T)

module _ (T : Tokenizer) (x : Code) (cs : List Code) (whole : ahead T ≡ x ∷ cs) where
  abbrev M : Forest
  M = leaf N.ResourceMarker (x ∷ [])

  abbrev P : Tokenizer
  P = past None M (applied (Enter N.Resource) T)

  entered-ahead : ahead (applied (Enter N.Resource) T) ≡ x ∷ cs
  entered-ahead = ahead-applied (Enter N.Resource) T ∙ whole

  opened-past : done (Enter N.Resource ∷ front_ops) T ≡ P
  opened-past = ops-past M cs (applied (Enter N.Resource) T) (IsSolid-leaf N.ResourceMarker (x ∷ [])) entered-ahead

  ahead-there : ahead P ≡ cs
  ahead-there = ahead-past None M (applied (Enter N.Resource) T) cs entered-ahead

  left-there : codes_left P + 1 ≡ codes_left T
  left-there = omega (arith, left-ahead P, left-ahead T, ap length ahead-there, ap length whole)

  ready-there : PartReady T → InReady P
  unfolding past applied moved
  ready-there p =
      record { part = record { short = omega (arith, left-there, p.short); indexed = p.indexed; titled = p.titled; spaces = p.spaces; rest = p.rest }; whole = refl }

  row-there : (t : Forest) (U : Tokenizer) →
      U ≡ applied (Exit N.Resource) (past None t (scratched P.tokenize_state P)) →
      U ≡ applied (Exit N.Resource) (past None (M ⊕ t) (applied (Enter N.Resource) T))
  unfolding past applied scratched
  row-there t U e =
      e ∙ ap (applied (Exit N.Resource)) (past-then M t T.tokenize_state T.tokenize_state (applied (Enter N.Resource) T) P (refl, tt) refl)

  fields-there : P.tokenize_state ≡ T.tokenize_state
  unfolding past applied
  fields-there = refl

  asks-there : asks_both P ≡ asks_both T
  unfolding past applied
  asks-there = refl

  -- the reading inside is asked for there as here
  inside-there : inside (asks_both P) (ahead P) ≡ inside (asks_both T) cs
  inside-there = ap (λ b. inside b (ahead P)) asks-there ∙ ap (inside (asks_both T)) ahead-there

  grown-there : (U : Tokenizer) → Grown 1 P U → Grown 0 T U
  grown-there U g = Grown-applied 0 (Enter N.Resource) T U refl (Grown-past 1 None M (applied (Enter N.Resource) T) U g)

  ends-there : is_value 40 x ≡ true → (ok : Bool) (U : Tokenizer) → before_ends P ok U → resource_ends T ok U
  ends-there h true U k =
      let inside-is : inside (asks_both T) cs ≡ Some (k.tree, k.rest) = sym inside-there ∙ k.holds in
      let codes : ahead T ≡ (x ∷ leaf_codes k.tree) ++ k.rest = whole ∙ ap (λ ys. x ∷ ys) (sym ahead-there ∙ k.whole) in
      let left : U ≡ past None (group N.Resource (M ⊕ k.tree)) T = row-there k.tree U k.left ∙ group-made x k.tree k.rest T (inside-ends (asks_both T) cs k.tree k.rest inside-is) codes in
      record {
        tree = group N.Resource (M ⊕ k.tree);
        rest = k.rest;
        holds = ap (resource (asks_both T)) whole ∙ resource-inside (asks_both T) x cs h ∙ ap (grouped x) inside-is;
        left = left ∙ ap (past None (group N.Resource (M ⊕ k.tree))) (sym (scratched-same T));
        whole = codes ∙ ap (λ ys. ys ++ k.rest) (sym (append-nil (x ∷ leaf_codes k.tree)));
        after = k.after;
      }
  ends-there h false U k =
      record {
        refused = ap (resource (asks_both T)) whole ∙ resource-inside (asks_both T) x cs h ∙ ap (grouped x) (sym inside-there ∙ k.refused);
        fails = record { grown = grown-there U k.grown; scratch = k.scratch ∙ fields-there };
      }

  attempts-there : T.attempts ≡ [] → P.attempts ≡ []
  unfolding past applied
  attempts-there e = e

module _ (W : Words) (within : EqualsLayer states_and_called W) where
  refuses-here : (T : Tokenizer) → T.attempts ≡ [] → resource (asks_both T) (ahead T) ≡ None →
      GoesIn W (weight_at 12 T) (resource_ends T) (stepped Nok T)
  refuses-here T alone none = Goes-end W (weight_at 12 T) (resource_ends T) false T alone (omega arith) lost
    where
      lost : (ok : Bool) (U : Tokenizer) → (ok ≡ false) × (U ≡ T) → resource_ends T ok U
      lost true U x = absurd (true≢false x.0)
      lost false U x =
          record { refused = none; fails = subst (λ y. Fails T.tokenize_state T y) (sym x.1) (record { grown = Grown-refl 0 T; scratch = refl }) }

  goes-in : (T : Tokenizer) → T.attempts ≡ [] → PartReady T → (x : Code) (cs : List Code) → ahead T ≡ x ∷ cs →
      is_value 40 x ≡ true →
      GoesIn W (weight_at 12 T) (resource_ends T) (stepped (Next LabelEndResourceBefore) (done (Enter N.Resource ∷ front_ops) T))
  goes-in T alone p x cs whole h =
      let A : Tokenizer = past None (leaf N.ResourceMarker (x ∷ [])) (applied (Enter N.Resource) T) in
      subst (λ (y : Tokenizer). GoesIn W (weight_at 12 T) (resource_ends T) (stepped (Next LabelEndResourceBefore) y)) (sym (opened-past T x cs whole))
      (Goes-plain W (weight_at 12 T) (resource_ends T) (Next LabelEndResourceBefore) (within LabelEndResourceBefore) A (attempts-there T x cs whole alone) (ready-there T x cs whole p) (omega (arith, left-there T x cs whole)) (ends-there T x cs whole h))

  pub start-law : Law W start_words
  start-law T alone p =
      let P : Stepped → Type 0 = GoesIn W (weight_at 12 T) (resource_ends T) in
      code-step P (current_of T) (λ o. start_at o T)
      (λ e. refuses-here T alone (resource-none (asks_both T) (ahead T) (at-none T 40 e)))
      (λ c e.
      let b : BeginsWithValue c (ahead T) = ahead-some T c e in
      if-step P (c == 40) _ _
      (λ h. goes-in T alone p b.code (rest_of (ahead T)) b.whole (ap (λ v. v == 40) b.value ∙ h))
      (λ h. refuses-here T alone (resource-none (asks_both T) (ahead T) (at-value T c 40 false e h))))
