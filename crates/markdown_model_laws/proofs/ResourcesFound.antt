-- Resources: where their reading holds.
use Rattle.std.proofs.Common.{◌≡◌, ◌==◌, ◌⊎◌, inl, inr, ◌+◌, ◌≤◌, ◌&&◌, ◌||◌, Bool, true, false, if◌then◌else◌, Some, None, List, [], ◌∷◌, ◌++◌, refl, sym, ap, subst, ◌∙◌, arith, codes}
use Rattle.markdown_partial.proofs.PartialDestinationReadings.{if-here, if-other}
use Rattle.std.proofs.lemmas.Bool.{eqb-true, or_parts}
use Rattle.markdown_content.specs.Codes.{Code}
use Rattle.markdown_content.specs.Tree.{Forest, empty, ◌⊕◌, leaf, group, leaf_codes}
use Rattle.markdown_event.specs.declared.event.Name.{Name}
use Rattle.markdown_model.specs.CodeTests.{is_value, is_among, next_is, is_whitespace_code}
use Rattle.markdown_model.specs.Grammar.{Reading, ◌>>=◌, gives, either, before, if_next, one, optional_tree}
use Rattle.markdown_model.specs.Whitespace.{space_or_tab_eol}
use Rattle.markdown_model.specs.Resource.{title_names, resource_names, between_markers, title, destination, resource, begins_title, spaced_title, destination_and_title}
use Rattle.markdown_model.proofs.ReadingsCover.{covers_resource}
use Rattle.markdown_model.proofs.DefinitionSteps.{read-codes}
use Rattle.markdown_model.proofs.GrammarSteps.{bind-some, bind-none, one-here, before-some, before-other, before-none, either-some, either-second}
use Rattle.markdown_model_laws.specs.LinkParts.{IsTitle, IsRaw, Marked, closing, opening, IsDestination}
use Rattle.markdown_model_laws.specs.ResourceParts.{Nothing, EitherOf, InTurn, OneMark, Spacing, SomeSpacing, AfterDestination, IsResource, ResourcesAreFound}
use Rattle.markdown_model_laws.proofs.ReadingsInverted.{Went, WentOne, bind-back, one-back, gives-back, either-back, before-back}
use Rattle.markdown_model_laws.proofs.LinkTextsFound.{title-back, found-title, marked-found}
use Rattle.markdown_model_laws.proofs.DestinationsFound.{destination-back, destination-found}
use Rattle.markdown_model_laws.proofs.WhitespaceFound.{BeginsUnspaced, spacing-back, optional-back, spacing-read, optional-found, spacing-found}

module _ (both : Bool) where
  abbrev ATitle : List Code → Forest → List Code → Type 0
  ATitle = Marked (IsTitle both) (between_markers title_names)

  abbrev ADestination : List Code → Forest → List Code → Type 0
  ADestination = IsDestination 32 resource_names

  -- What the reading gives is a resource.

  spaced-back : (cs : List Code) (tree : Forest) (rest : List Code) → (spaced_title both) cs ≡ Some (tree, rest) →
      InTurn SomeSpacing (InTurn ATitle Spacing) cs tree rest
  unfolding spaced_title
  spaced-back cs tree rest e =
      let a : Went (before (space_or_tab_eol None) begins_title) _ cs (tree, rest) = bind-back (before (space_or_tab_eol None) begins_title) _ cs (tree, rest) e in
      let b : Went (title both title_names) _ a.after (tree, rest) = bind-back (title both title_names) _ a.after (tree, rest) a.second in
      let d : Went (optional_tree (space_or_tab_eol None)) _ b.after (tree, rest) = bind-back (optional_tree (space_or_tab_eol None)) _ b.after (tree, rest) b.second in
      let g : (tree ≡ a.value ⊕ b.value ⊕ d.value) × (d.after ≡ rest) = gives-back _ tree d.after rest d.second in
      record {
        first = a.value;
        second = b.value ⊕ d.value;
        between = a.after;
        is = spacing-back cs a.value a.after (before-back (space_or_tab_eol None) begins_title cs (a.value, a.after) a.first).0;
        more = grind (arith, title-back, optional-back);
        tree_is = g.0;
      }

  parts-back : (cs : List Code) (tree : Forest) (rest : List Code) → (destination_and_title both) cs ≡ Some (tree, rest) →
      InTurn ADestination (AfterDestination both) cs tree rest
  unfolding destination_and_title
  parts-back cs tree rest e =
      let a : Went (destination 32 resource_names) _ cs (tree, rest) = bind-back (destination 32 resource_names) _ cs (tree, rest) e in
      let b : Went (either (spaced_title both) (optional_tree (space_or_tab_eol None))) _ a.after (tree, rest) = bind-back (either (spaced_title both) (optional_tree (space_or_tab_eol None))) _ a.after (tree, rest) a.second in
      let g : (tree ≡ a.value ⊕ b.value) × (b.after ≡ rest) = gives-back _ tree b.after rest b.second in
      let after : (AfterDestination both) a.after b.value b.after =
      elim (either-back (spaced_title both) (optional_tree (space_or_tab_eol None)) a.after (b.value, b.after) b.first) [
        | inl h ↦ inl (spaced-back a.after b.value b.after h)
        | inr h ↦ inr (optional-back a.after b.value b.after h)
      ] in
      record {
        first = a.value;
        second = b.value;
        between = a.after;
        is = destination-back 32 resource_names cs a.value a.after a.first;
        more = subst (λ xs. (AfterDestination both) a.after b.value xs) g.1 after;
        tree_is = g.0;
      }

  abbrev InsideResource : List Code → Forest → List Code → Type 0
  InsideResource = EitherOf Nothing (InTurn ADestination (AfterDestination both))

  abbrev inside : Reading Forest
  inside = if_next (is_value 41) (gives empty) (destination_and_title both)

  inside-back : (cs : List Code) (tree : Forest) (rest : List Code) → inside cs ≡ Some (tree, rest) → InsideResource cs tree rest
  inside-back cs tree rest e = grind (arith, gives-back, if-here, parts-back, if-other)

  pub resource-back : (cs : List Code) (tree : Forest) (rest : List Code) → resource both cs ≡ Some (tree, rest) →
      IsResource both cs tree rest
  unfolding resource
  resource-back cs tree rest e =
      let a : WentOne (is_value 40) _ cs (tree, rest) = one-back (is_value 40) _ cs (tree, rest) e in
      let b : Went (optional_tree (space_or_tab_eol None)) _ a.after (tree, rest) = bind-back (optional_tree (space_or_tab_eol None)) _ a.after (tree, rest) a.second in
      let d : Went inside _ b.after (tree, rest) = bind-back inside _ b.after (tree, rest) b.second in
      let f : WentOne (is_value 41) _ d.after (tree, rest) = one-back (is_value 41) _ d.after (tree, rest) d.second in
      let g : (tree ≡ group Name.Resource (leaf Name.ResourceMarker (a.code ∷ []) ⊕ b.value ⊕ d.value ⊕ leaf Name.ResourceMarker (f.code ∷ []))) × (f.after ≡ rest) = gives-back _ tree f.after rest f.second in
      record {
        inside = leaf Name.ResourceMarker (a.code ∷ []) ⊕ b.value ⊕ d.value ⊕ leaf Name.ResourceMarker (f.code ∷ []);
        is = record {
          first = leaf Name.ResourceMarker (a.code ∷ []);
          second = b.value ⊕ d.value ⊕ leaf Name.ResourceMarker (f.code ∷ []);
          between = a.after;
          is = record { code = a.code; stands = a.is; is = a.passes; tree_is = refl };
          more = grind (arith, optional-back, inside-back);
          tree_is = refl;
        };
        tree_is = g.0;
      }

  -- And each resource is read: each part begins with a code that is no whitespace.

  mark-plain : (name : Name) (cs : List Code) (tree : Forest) (rest : List Code) → OneMark name 41 cs tree rest → BeginsUnspaced cs
  mark-plain name cs tree rest m =
      record { code = m.code; more = rest; is = m.stands; plain = ap (λ v. (v == 32 || v == 9) || v == 10) (eqb-true m.code.value 41 m.is) }

  title-first : (front : Code) (text : List Code) (back : Code) → IsTitle both front text back →
      (is_whitespace_code front ≡ false) × (is_among (codes "\"'(") front ≡ true)
  title-first front text back h0 = grind (arith, eqb-true)

  title-plain : (cs : List Code) (tree : Forest) (rest : List Code) → ATitle cs tree rest → BeginsUnspaced cs
  title-plain cs tree rest m =
      record { code = m.front; more = m.text ++ (m.back ∷ rest); is = m.stands; plain = (title-first m.front m.text m.back m.is).0 }

  title-begins : (cs : List Code) (tree : Forest) (rest : List Code) → ATitle cs tree rest → begins_title cs ≡ true
  title-begins cs tree rest m = ap begins_title m.stands ∙ (title-first m.front m.text m.back m.is).1

  -- a destination begins with a code that is no whitespace and no `)`
  record BeginsDestination (cs : List Code) : Type 0 where
    is : BeginsUnspaced cs
    other : next_is (is_value 41) cs ≡ false

  raw-begins : (text rest : List Code) → IsRaw 32 text rest → BeginsDestination (text ++ rest)
  raw-begins [] rest i = let no : true ≡ false = i.some in cc
  raw-begins (c ∷ text) rest i = record {
    is = record { code = c; more = text ++ rest; is = refl; plain = (or_parts _ _ (or_parts _ _ i.plain).0).0 };
    other = by_test (is_value 41 c) refl;
  }
    where
      by_test : (b : Bool) → is_value 41 c ≡ b → is_value 41 c ≡ false
      by_test false h = h
      by_test true h =
          let one : closing (c ∷ []) ≡ 1 = ap (λ v. (if (v == 41) && true then 1 else 0) + 0) (eqb-true c.value 41 h) in
          let none : opening (c ∷ []) ≡ 0 = ap (λ v. (if (v == 40) && true then 1 else 0) + 0) (eqb-true c.value 41 h) in
          let few : closing (c ∷ []) ≤ opening (c ∷ []) = (i.nested (c ∷ []) text refl).0 in
          absurd (omega (arith, one, none, few))

  destination-begins : (cs : List Code) (tree : Forest) (rest : List Code) → ADestination cs tree rest → BeginsDestination cs
  destination-begins cs tree rest (inl m) = record {
    is = record { code = m.front; more = m.text ++ (m.back ∷ rest); is = m.stands; plain = ap (λ v. (v == 32 || v == 9) || v == 10) (eqb-true m.front.value 60 m.is.opens) };
    other = ap (next_is (is_value 41)) m.stands ∙ ap (λ v. v == 41) (eqb-true m.front.value 60 m.is.opens);
  }
  destination-begins cs tree rest (inr r) = subst BeginsDestination (sym r.stands) (raw-begins r.text rest r.is)

  spaced-found : (cs : List Code) (tree : Forest) (rest : List Code) →
      InTurn SomeSpacing (InTurn ATitle Spacing) cs tree rest → BeginsUnspaced rest → (spaced_title both) cs ≡ Some (tree, rest)
  unfolding spaced_title gives
  spaced-found cs tree rest t p =
      bind-some _ _ cs t.first t.between _ (before-some (space_or_tab_eol None) begins_title cs t.first t.between (spacing-found cs t.first t.between t.is (title-plain t.between t.more.first t.more.between t.more.is)) (title-begins t.between t.more.first t.more.between t.more.is))
      (bind-some _ _ t.between t.more.first t.more.between _ (marked-found (title both title_names) (IsTitle both) (between_markers title_names) (found-title both title_names) t.between t.more.first t.more.between t.more.is)
      (bind-some _ _ t.more.between t.more.second rest _ (optional-found t.more.between t.more.second rest t.more.more p)
      (λ i. Some (sym (t.tree_is ∙ ap (λ f. t.first ⊕ f) t.more.tree_is) i, rest))))

  -- behind whitespace, before a code that begins no title, there is none
  spaced-none : (cs : List Code) (tree : Forest) (rest : List Code) → Spacing cs tree rest → BeginsUnspaced rest →
      begins_title rest ≡ false → (spaced_title both) cs ≡ None
  unfolding spaced_title
  spaced-none cs tree rest s p b = by_read (spacing-read cs tree rest s p).is
    where
      by_read : ((space_or_tab_eol None cs ≡ Some (tree, rest)) ⊎ ((space_or_tab_eol None cs ≡ None) × ((cs ≡ rest) × (tree ≡ empty)))) →
          (spaced_title both) cs ≡ None
      by_read (inl h) = bind-none _ _ cs (before-other (space_or_tab_eol None) begins_title cs tree rest h b)
      by_read (inr h) = bind-none _ _ cs (before-none (space_or_tab_eol None) begins_title cs h.0)

  after-found : (cs : List Code) (tree : Forest) (rest : List Code) → (AfterDestination both) cs tree rest → BeginsUnspaced rest →
      begins_title rest ≡ false → either (spaced_title both) (optional_tree (space_or_tab_eol None)) cs ≡ Some (tree, rest)
  after-found cs tree rest (inl t) p b = either-some _ _ cs (tree, rest) (spaced-found cs tree rest t p)
  after-found cs tree rest (inr s) p b =
      either-second _ _ cs (spaced-none cs tree rest s p b) ∙ optional-found cs tree rest s p

  parts-found : (cs : List Code) (tree : Forest) (rest : List Code) → InTurn ADestination (AfterDestination both) cs tree rest →
      BeginsUnspaced rest → begins_title rest ≡ false → (destination_and_title both) cs ≡ Some (tree, rest)
  unfolding destination_and_title gives
  parts-found cs tree rest t p b =
      bind-some _ _ cs t.first t.between _ (destination-found 32 resource_names cs t.first t.between t.is)
      (bind-some _ _ t.between t.second rest _ (after-found t.between t.second rest t.more p b) (λ i. Some (sym t.tree_is i, rest)))

  inside-found : (cs : List Code) (tree : Forest) (rest : List Code) → InsideResource cs tree rest → BeginsUnspaced rest →
      next_is (is_value 41) rest ≡ true → begins_title rest ≡ false → inside cs ≡ Some (tree, rest)
  unfolding gives
  inside-found cs tree rest (inl h) p n b =
      if-here (is_value 41) (gives empty) (destination_and_title both) cs (ap (next_is (is_value 41)) h.0 ∙ n) ∙ (λ i. Some (sym h.1 i, h.0 i))
  inside-found cs tree rest (inr t) p n b =
      if-other (is_value 41) (gives empty) (destination_and_title both) cs (destination-begins cs t.first t.between t.is).other ∙ parts-found cs tree rest t p b

  inside-plain : (cs : List Code) (tree : Forest) (rest : List Code) → InsideResource cs tree rest → BeginsUnspaced rest → BeginsUnspaced cs
  inside-plain cs tree rest (inl h) p = subst BeginsUnspaced (sym h.0) p
  inside-plain cs tree rest (inr t) p = (destination-begins cs t.first t.between t.is).is

  pub resource-found : (cs : List Code) (tree : Forest) (rest : List Code) → IsResource both cs tree rest →
      resource both cs ≡ Some (tree, rest)
  unfolding resource gives
  resource-found cs tree rest r =
      let a : InTurn (OneMark Name.ResourceMarker 40) (InTurn Spacing (InTurn InsideResource (OneMark Name.ResourceMarker 41))) cs r.inside rest = r.is in
      let b : InTurn Spacing (InTurn InsideResource (OneMark Name.ResourceMarker 41)) a.between a.second rest = a.more in
      let d : InTurn InsideResource (OneMark Name.ResourceMarker 41) b.between b.second rest = b.more in
      let f : OneMark Name.ResourceMarker 41 d.between d.second rest = d.more in
      let plain : BeginsUnspaced d.between = mark-plain Name.ResourceMarker d.between d.second rest f in
      let ends : next_is (is_value 41) d.between ≡ true = ap (next_is (is_value 41)) f.stands ∙ f.is in
      let other : begins_title d.between ≡ false = ap begins_title f.stands ∙ ap (λ v. (v == 34) || ((v == 39) || ((v == 40) || false))) (eqb-true f.code.value 41 f.is) in
      let tree-is : group Name.Resource (leaf Name.ResourceMarker (a.is.code ∷ []) ⊕ b.first ⊕ d.first ⊕ leaf Name.ResourceMarker (f.code ∷ [])) ≡ tree =
      sym (r.tree_is ∙ ap (group Name.Resource) (a.tree_is ∙ (λ i. a.is.tree_is i ⊕ (b.tree_is ∙ ap (λ t. b.first ⊕ t) (d.tree_is ∙ ap (λ t. d.first ⊕ t) f.tree_is)) i))) in
      ap (resource both) a.is.stands
      ∙ bind-some _ _ (a.is.code ∷ a.between) (a.is.code ∷ []) a.between _ (one-here (is_value 40) a.is.code a.between a.is.is)
      (bind-some _ _ a.between b.first b.between _ (optional-found a.between b.first b.between b.is (inside-plain b.between d.first d.between d.is plain))
      (bind-some _ _ b.between d.first d.between _ (inside-found b.between d.first d.between d.is plain ends other)
      (ap (one (is_value 41) >>= λ back. gives (group Name.Resource (leaf Name.ResourceMarker (a.is.code ∷ []) ⊕ b.first ⊕ d.first ⊕ leaf Name.ResourceMarker back))) f.stands
      ∙ bind-some (one (is_value 41)) _ (f.code ∷ rest) (f.code ∷ []) rest _ (one-here (is_value 41) f.code rest f.is) (λ i. Some (tree-is i, rest)))))

pub resources_are_found : ResourcesAreFound
resources_are_found both = record {
  found = λ cs tree rest. (resource-back both cs tree rest, resource-found both cs tree rest);
  covers = λ cs tree rest m. read-codes leaf_codes (resource both) (covers_resource both) cs rest tree (resource-found both cs tree rest m);
}
