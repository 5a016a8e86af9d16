-- What may follow a label: where its reading holds.
use Rattle.std.proofs.Common.{◌≡◌, ◌==◌, inl, inr, ◌&&◌, ◌||◌, Bool, true, false, Option, Some, None, List, [], ◌∷◌, ◌++◌, refl, sym, ap, subst, ◌∙◌, arith}
use Rattle.markdown_partial.proofs.PartialDestinationReadings.{if-here, if-other}
use Rattle.std.proofs.lemmas.Bool.{eqb-true, and_from}
use Rattle.markdown_content.specs.Codes.{Code}
use Rattle.markdown_content.specs.Tree.{Forest, empty, ◌⊕◌, leaf, group, leaf_codes}
use Rattle.markdown_event.specs.declared.event.Name.{Name}
use Rattle.markdown_model.specs.CodeTests.{is_value, next_is}
use Rattle.markdown_model.specs.Grammar.{Reading, ◌>>◌, gives, either, provided, unless}
use Rattle.markdown_model.specs.LabelEnd.{full_reference, collapsed_reference, shortcut, shortcut_before_bracket, reference_after_label, after_label, reference_identifier}
use Rattle.markdown_model.specs.Resource.{reference_names, between_markers, label, resource}
use Rattle.markdown_model.specs.Setting.{Setting, defines, rules}
use Rattle.markdown_model.proofs.LabelsCover.{covers_after_label}
use Rattle.markdown_model.proofs.DefinitionSteps.{read-codes}
use Rattle.markdown_model.proofs.GrammarSteps.{bind-some, after-some, one-here, either-some, either-second, provided-true, switched-on, and-left, and-right}
use Rattle.markdown_model_laws.specs.LinkParts.{IsLabel}
use Rattle.markdown_model_laws.specs.ResourceParts.{Nothing, OneMark, IsResource, NoneHere, ALabel, IsFull, IsCollapsed, IsShortcut, FollowsLabel, WhatFollowsIsFound}
use Rattle.markdown_model_laws.proofs.ReadingsInverted.{Went, WentOne, bind-back, one-back, provided-back, gives-back, either-back}
use Rattle.markdown_model_laws.proofs.LinkTextsFound.{label-back, label-found, marked-found}
use Rattle.markdown_model_laws.proofs.ResourcesFound.{resource-back, resource-found}

abbrev LabelPart : Type 1
LabelPart = List Code → Forest → List Code → Type 0

-- where a reading does not hold no such part stands, and the other way round
none-back : (a : Reading Forest) (Is : LabelPart) (cs : List Code) →
    ((tree : Forest) (rest : List Code) → Is cs tree rest → a cs ≡ Some (tree, rest)) → a cs ≡ None → NoneHere Is cs
none-back a Is cs found e tree rest i =
    let no : ◌≡◌ {A = Option (Forest × List Code)} None (Some (tree, rest)) = sym e ∙ found tree rest i in cc

none-found : (a : Reading Forest) (Is : LabelPart) (cs : List Code) →
    ((tree : Forest) (rest : List Code) → a cs ≡ Some (tree, rest) → Is cs tree rest) → NoneHere Is cs → a cs ≡ None
none-found a Is cs back n = by_answer (a cs) refl
  where
    by_answer : (o : Option (Forest × List Code)) → a cs ≡ o → a cs ≡ None
    by_answer None e = e
    by_answer (Some r) e = absurd (n r.0 r.1 (back r.0 r.1 e))

found-label : (s : Setting) (cs : List Code) (tree : Forest) (rest : List Code) → ALabel s cs tree rest →
    label (rules s).labels_by_characters reference_names cs ≡ Some (tree, rest)
found-label s cs tree rest m =
    marked-found (label (rules s).labels_by_characters reference_names) (IsLabel (rules s).labels_by_characters) (between_markers reference_names) (label-found (rules s).labels_by_characters reference_names) cs tree rest m

-- Full references.

full-back : (s : Setting) (cs : List Code) (tree : Forest) (rest : List Code) →
    full_reference s cs ≡ Some (tree, rest) → IsFull s cs tree rest
unfolding full_reference
full-back s cs tree rest e =
    let a : Went (label (rules s).labels_by_characters reference_names) _ cs (tree, rest) = bind-back (label (rules s).labels_by_characters reference_names) _ cs (tree, rest) e in
    let p : (defines s (reference_identifier s a.value) ≡ true) × (gives a.value a.after ≡ Some (tree, rest)) = provided-back _ _ a.after (tree, rest) a.second in
    let g : (tree ≡ a.value) × (a.after ≡ rest) = gives-back a.value tree a.after rest p.1 in
    record {
      is = subst (λ xs. ALabel s cs tree xs) g.1 (subst (λ t. ALabel s cs t a.after) (sym g.0) (label-back (rules s).labels_by_characters reference_names cs a.value a.after a.first));
      defined = ap (λ t. defines s (reference_identifier s t)) g.0 ∙ p.0;
    }

full-found : (s : Setting) (cs : List Code) (tree : Forest) (rest : List Code) → IsFull s cs tree rest →
    full_reference s cs ≡ Some (tree, rest)
unfolding full_reference gives
full-found s cs tree rest i =
    bind-some _ _ cs tree rest _ (found-label s cs tree rest i.is) (after-some _ _ rest [] rest _ (provided-true _ rest i.defined) refl)

no-full : (s : Setting) (cs : List Code) → NoneHere (ALabel s) cs → full_reference s cs ≡ None
no-full s cs n = none-found (full_reference s) (IsFull s) cs (full-back s cs) (λ tree rest i. n tree rest i.is)

-- Collapsed ones.

collapsed-back : (cs : List Code) (tree : Forest) (rest : List Code) → collapsed_reference cs ≡ Some (tree, rest) →
    IsCollapsed cs tree rest
unfolding collapsed_reference
collapsed-back cs tree rest e =
    let a : WentOne (is_value 91) _ cs (tree, rest) = one-back (is_value 91) _ cs (tree, rest) e in
    let b : WentOne (is_value 93) _ a.after (tree, rest) = one-back (is_value 93) _ a.after (tree, rest) a.second in
    let g : (tree ≡ group Name.Reference (leaf Name.ReferenceMarker (a.code ∷ []) ⊕ leaf Name.ReferenceMarker (b.code ∷ []))) × (b.after ≡ rest) = gives-back _ tree b.after rest b.second in
    record {
      inside = leaf Name.ReferenceMarker (a.code ∷ []) ⊕ leaf Name.ReferenceMarker (b.code ∷ []);
      is = record {
        first = leaf Name.ReferenceMarker (a.code ∷ []);
        second = leaf Name.ReferenceMarker (b.code ∷ []);
        between = a.after;
        is = record { code = a.code; stands = a.is; is = a.passes; tree_is = refl };
        more = record { code = b.code; stands = b.is ∙ ap (λ xs. b.code ∷ xs) g.1; is = b.passes; tree_is = refl };
        tree_is = refl;
      };
      tree_is = g.0;
    }

collapsed-found : (cs : List Code) (tree : Forest) (rest : List Code) → IsCollapsed cs tree rest →
    collapsed_reference cs ≡ Some (tree, rest)
unfolding collapsed_reference gives
collapsed-found cs tree rest r =
    let a : OneMark Name.ReferenceMarker 91 cs r.is.first r.is.between = r.is.is in
    let b : OneMark Name.ReferenceMarker 93 r.is.between r.is.second rest = r.is.more in
    ap collapsed_reference (a.stands ∙ ap (λ xs. a.code ∷ xs) b.stands)
    ∙ bind-some _ _ (a.code ∷ b.code ∷ rest) (a.code ∷ []) (b.code ∷ rest) _ (one-here (is_value 91) a.code (b.code ∷ rest) a.is)
    (bind-some _ _ (b.code ∷ rest) (b.code ∷ []) rest _ (one-here (is_value 93) b.code rest b.is)
    (λ i. Some (sym (r.tree_is ∙ ap (group Name.Reference) (r.is.tree_is ∙ (λ j. a.tree_is j ⊕ b.tree_is j))) i, rest)))

-- `[]` is no label: nothing stands in it
no-label : (s : Setting) (cs : List Code) (tree : Forest) (rest : List Code) → IsCollapsed cs tree rest → NoneHere (ALabel s) cs
no-label s cs tree rest r other more m = by_text m.text m.is (sym m.stands ∙ a.stands ∙ ap (λ xs. a.code ∷ xs) b.stands)
  where
    a : OneMark Name.ReferenceMarker 91 cs r.is.first r.is.between
    a = r.is.is

    b : OneMark Name.ReferenceMarker 93 r.is.between r.is.second rest
    b = r.is.more

    by_text : (text : List Code) → IsLabel (rules s).labels_by_characters m.front text m.back →
        m.front ∷ (text ++ (m.back ∷ more)) ≡ a.code ∷ (b.code ∷ rest) → ⊥
    by_text [] i e = let no : false ≡ true = i.filled in cc
    by_text (c ∷ text) i e =
        let same : c ≡ b.code = cc in
        let closes : is_value 93 c ≡ true = ap (is_value 93) same ∙ b.is in
        let no : false ≡ true = i.escaped.inside [] text c refl (ap (λ v. (v == 91) || ((v == 93) || false)) (eqb-true c.value 93 closes)) in
        cc

-- Shortcuts.

shortcut-back : (defined : Bool) (cs : List Code) (tree : Forest) (rest : List Code) →
    shortcut defined cs ≡ Some (tree, rest) → (defined ≡ true) × Nothing cs tree rest
unfolding shortcut
shortcut-back defined cs tree rest e =
    let p : (defined ≡ true) × (gives empty cs ≡ Some (tree, rest)) = provided-back defined (gives empty) cs (tree, rest) e in
    let g : (tree ≡ empty) × (cs ≡ rest) = gives-back empty tree cs rest p.1 in
    (p.0, (g.1, g.0))

shortcut-found : (defined : Bool) (cs : List Code) (tree : Forest) (rest : List Code) → defined ≡ true →
    Nothing cs tree rest → shortcut defined cs ≡ Some (tree, rest)
unfolding shortcut gives
shortcut-found defined cs tree rest d n = switched-on (gives empty) defined cs d ∙ (λ i. Some (sym n.1 i, n.0 i))

unless-back : (a b : Reading Forest) (cs : List Code) (r : Forest × List Code) →
    ◌≡◌ {A = Option (Forest × List Code)} (unless a b cs) (Some r) → (a cs ≡ None) × (b cs ≡ Some r)
unfolding unless
unless-back a b cs r e = grind arith

unless-found : (a b : Reading Forest) (cs : List Code) → a cs ≡ None → unless a b cs ≡ b cs
unfolding unless
unless-found a b cs e = ap (λ o. elim o as (λ _. Option (Forest × List Code)) [ None ↦ b cs | Some x ↦ None ]) e

either-none : (a b : Reading Forest) (cs : List Code) → either a b cs ≡ None → (a cs ≡ None) × (b cs ≡ None)
unfolding either
either-none a b cs e = grind arith

-- a resource begins with `(`
no-resource : (both : Bool) (cs : List Code) → next_is (is_value 40) cs ≡ false → NoneHere (IsResource both) cs
no-resource both cs e tree rest r =
    let no : true ≡ false = sym (ap (next_is (is_value 40)) r.is.is.stands ∙ r.is.is.is) ∙ e in cc

next-is-one : (cs : List Code) → next_is (is_value 40) cs ≡ true → next_is (is_value 91) cs ≡ false
next-is-one [] e = refl
next-is-one (c ∷ cs) e = ap (λ v. v == 91) (eqb-true c.value 40 e)

module _ (s : Setting) (defined : Bool) where
  abbrev both : Bool
  both = (rules s).escaped_parentheses

  abbrev LabelFollows : LabelPart
  LabelFollows = FollowsLabel s defined

  at-bracket-back : (cs : List Code) (tree : Forest) (rest : List Code) → next_is (is_value 40) cs ≡ false →
      reference_after_label s defined cs ≡ Some (tree, rest) → LabelFollows cs tree rest
  unfolding reference_after_label shortcut_before_bracket
  at-bracket-back cs tree rest n e =
      elim (either-back (full_reference s) _ cs (tree, rest) e) [
        | inl h ↦ inr (inl (full-back s cs tree rest h))
        | inr h ↦ elim (either-back (provided defined >> collapsed_reference) _ cs (tree, rest) h) [
          | inl k ↦ let p : (defined ≡ true) × (collapsed_reference cs ≡ Some (tree, rest)) = provided-back defined collapsed_reference cs (tree, rest) k in inr (inr (p.0, inl (collapsed-back cs tree rest p.1)))
          | inr k ↦
              let u : (either collapsed_reference (label (rules s).labels_by_characters reference_names) cs ≡ None) × (shortcut (defined && (rules s).shortcut_before_bracket) cs ≡ Some (tree, rest)) = unless-back _ _ cs (tree, rest) k in
              let none : (collapsed_reference cs ≡ None) × (label (rules s).labels_by_characters reference_names cs ≡ None) = either-none collapsed_reference (label (rules s).labels_by_characters reference_names) cs u.0 in
              let on : (defined && (rules s).shortcut_before_bracket ≡ true) × Nothing cs tree rest = shortcut-back _ cs tree rest u.1 in
              inr (inr (
                and-left _ _ on.0,
                inr (record {
                  is = on.1;
                  no_resource = no-resource both cs n;
                  before_bracket =
                      λ _. (and-right _ _ on.0, none-back collapsed_reference IsCollapsed cs (collapsed-found cs) none.0, none-back (label (rules s).labels_by_characters reference_names) (ALabel s) cs (found-label s cs) none.1);
                }),
              ))
        ]
      ]

  shortcut-follows : (cs : List Code) (tree : Forest) (rest : List Code) → NoneHere (IsResource both) cs →
      next_is (is_value 91) cs ≡ false → shortcut defined cs ≡ Some (tree, rest) → LabelFollows cs tree rest
  shortcut-follows cs tree rest n b e =
      let on : (defined ≡ true) × Nothing cs tree rest = shortcut-back defined cs tree rest e in
      inr (inr (on.0, inr (record { is = on.1; no_resource = n; before_bracket = λ h. absurd (let no : true ≡ false = sym h ∙ b in cc) })))

  follows-back : (cs : List Code) (tree : Forest) (rest : List Code) → after_label s defined cs ≡ Some (tree, rest) →
      LabelFollows cs tree rest
  unfolding after_label
  follows-back cs tree rest e = by_next (next_is (is_value 40) cs) (next_is (is_value 91) cs) refl refl
    where
      at_paren : next_is (is_value 40) cs ≡ true → either (resource both) (shortcut defined) cs ≡ Some (tree, rest) →
          (o : Option (Forest × List Code)) → resource both cs ≡ o → LabelFollows cs tree rest
      at_paren h k None f =
          shortcut-follows cs tree rest (none-back (resource both) (IsResource both) cs (resource-found both cs) f) (next-is-one cs h) (sym (either-second (resource both) (shortcut defined) cs f) ∙ k)
      at_paren h k (Some r) f =
          inl (resource-back both cs tree rest (f ∙ sym (either-some (resource both) (shortcut defined) cs r f) ∙ k))

      by_next : (x y : Bool) → next_is (is_value 40) cs ≡ x → next_is (is_value 91) cs ≡ y → LabelFollows cs tree rest
      by_next true y h k = at_paren h (sym (if-here (is_value 40) _ _ cs h) ∙ e) (resource both cs) refl
      by_next false true h k =
          at-bracket-back cs tree rest h (sym (if-other (is_value 40) _ _ cs h ∙ if-here (is_value 91) _ _ cs k) ∙ e)
      by_next false false h k =
          shortcut-follows cs tree rest (no-resource both cs h) k (sym (if-other (is_value 40) _ _ cs h ∙ if-other (is_value 91) _ _ cs k) ∙ e)

  -- where a `[` follows
  at-bracket : (cs : List Code) → next_is (is_value 91) cs ≡ true →
      after_label s defined cs ≡ reference_after_label s defined cs
  unfolding after_label
  at-bracket cs h = grind (arith, if-other, if-here, eqb-true)

  full-follows : (cs : List Code) (tree : Forest) (rest : List Code) → IsFull s cs tree rest →
      after_label s defined cs ≡ Some (tree, rest)
  unfolding reference_after_label
  full-follows cs tree rest i =
      at-bracket cs (ap (next_is (is_value 91)) i.is.stands ∙ i.is.is.opens) ∙ either-some (full_reference s) _ cs (tree, rest) (full-found s cs tree rest i)

  collapsed-follows : (cs : List Code) (tree : Forest) (rest : List Code) → defined ≡ true → IsCollapsed cs tree rest →
      after_label s defined cs ≡ Some (tree, rest)
  unfolding reference_after_label
  collapsed-follows cs tree rest d i =
      at-bracket cs (ap (next_is (is_value 91)) i.is.is.stands ∙ i.is.is.is)
      ∙ either-second (full_reference s) _ cs (no-full s cs (no-label s cs tree rest i))
      ∙ either-some (provided defined >> collapsed_reference) _ cs (tree, rest) (switched-on collapsed_reference defined cs d ∙ collapsed-found cs tree rest i)

  shortcut-here : (cs : List Code) (tree : Forest) (rest : List Code) → defined ≡ true → IsShortcut s cs tree rest →
      after_label s defined cs ≡ Some (tree, rest)
  unfolding after_label reference_after_label shortcut_before_bracket
  shortcut-here cs tree rest d i = by_next (next_is (is_value 40) cs) (next_is (is_value 91) cs) refl refl
    where
      here : shortcut defined cs ≡ Some (tree, rest)
      here = shortcut-found defined cs tree rest d i.is

      by_next : (x y : Bool) → next_is (is_value 40) cs ≡ x → next_is (is_value 91) cs ≡ y →
          after_label s defined cs ≡ Some (tree, rest)
      by_next true y h k =
          if-here (is_value 40) _ _ cs h ∙ either-second (resource both) (shortcut defined) cs (none-found (resource both) (IsResource both) cs (resource-back both cs) i.no_resource) ∙ here
      by_next false true h k =
          let b : ((rules s).shortcut_before_bracket ≡ true) × NoneHere IsCollapsed cs × NoneHere (ALabel s) cs = i.before_bracket k in
          let collapsed : collapsed_reference cs ≡ None = none-found collapsed_reference IsCollapsed cs (collapsed-back cs) b.1 in
          let labels : label (rules s).labels_by_characters reference_names cs ≡ None = none-found (label (rules s).labels_by_characters reference_names) (ALabel s) cs (label-back (rules s).labels_by_characters reference_names cs) b.2 in
          at-bracket cs k
          ∙ either-second (full_reference s) _ cs (no-full s cs b.2)
          ∙ either-second (provided defined >> collapsed_reference) _ cs (switched-on collapsed_reference defined cs d ∙ collapsed)
          ∙ unless-found (either collapsed_reference (label (rules s).labels_by_characters reference_names)) _ cs (either-second collapsed_reference (label (rules s).labels_by_characters reference_names) cs collapsed ∙ labels)
          ∙ shortcut-found _ cs tree rest (and_from defined _ d b.0) i.is
      by_next false false h k = if-other (is_value 40) _ _ cs h ∙ if-other (is_value 91) _ _ cs k ∙ here

  resource-follows : (cs : List Code) (tree : Forest) (rest : List Code) → IsResource both cs tree rest →
      after_label s defined cs ≡ Some (tree, rest)
  unfolding after_label
  resource-follows cs tree rest r =
      if-here (is_value 40) _ _ cs (ap (next_is (is_value 40)) r.is.is.stands ∙ r.is.is.is) ∙ either-some (resource both) (shortcut defined) cs (tree, rest) (resource-found both cs tree rest r)

  follows-found : (cs : List Code) (tree : Forest) (rest : List Code) → LabelFollows cs tree rest →
      after_label s defined cs ≡ Some (tree, rest)
  follows-found cs tree rest (inl r) = resource-follows cs tree rest r
  follows-found cs tree rest (inr (inl i)) = full-follows cs tree rest i
  follows-found cs tree rest (inr (inr i)) =
      elim i.1 [ inl k ↦ collapsed-follows cs tree rest i.0 k | inr k ↦ shortcut-here cs tree rest i.0 k ]

pub what_follows_is_found : WhatFollowsIsFound
what_follows_is_found s defined = record {
  found = λ cs tree rest. (follows-back s defined cs tree rest, follows-found s defined cs tree rest);
  covers = λ cs tree rest m. read-codes leaf_codes (after_label s defined) (covers_after_label s defined) cs rest tree (follows-found s defined cs tree rest m);
}
