-- A resource, read part by part.
use Rattle.std.proofs.Common.{ℕ, inl, inr, ◌≡◌, ◌==◌, Bool, true, false, ◌||◌, if◌then◌else◌, Option, Some, None, List, [], ◌∷◌, refl, sym, ap, ◌∙◌}
use Rattle.markdown_partial.proofs.PartialDestinationReadings.{if-here, if-other}
use Rattle.markdown_partial.proofs.WhitespaceReadings.{behind-empty}
use Rattle.std.proofs.lemmas.Bool.{eqb-true, or_cases}
use Rattle.markdown_content.specs.Codes.{Code}
use Rattle.markdown_engine.specs.PastTree.{behind}
use Rattle.markdown_content.specs.Tree.{Forest, empty, leaf_then, group_then, leaf, ◌⊕◌, group}
use Rattle.markdown_event.specs.declared.event.Name.TheVariants as N
use Rattle.markdown_model.specs.CodeTests.{is_value, next_is}
use Rattle.markdown_model.specs.Grammar.{Reading, ◌>>=◌, gives, either, before, if_next, one, optional_tree}
use Rattle.markdown_model.specs.Resource.{begins_title, destination, resource_names, title, title_names, spaced_title, destination_and_title, resource}
use Rattle.markdown_model.specs.Whitespace.{space_or_tab_eol}
use Rattle.markdown_model.proofs.GrammarSteps.{bind-some, bind-none, one-here, one-not, before-some, before-other, before-none, either-some, either-second}
use Rattle.markdown_label.specs.Resource.{closes, or_without, and_then, after_title, between, after_destination_of, after_destination, opened, inside}

pub row-assoc : (t u v : Forest) → (t ⊕ u) ⊕ v ≡ t ⊕ (u ⊕ v)
row-assoc empty u v = refl
row-assoc (leaf_then n l cs rest) u v = ap (leaf_then n l cs) (row-assoc rest u v)
row-assoc (group_then n a b inside rest) u v = ap (group_then n a b inside) (row-assoc rest u v)

behind-row : (t u : Forest) (o : Option (Forest × List Code)) → behind (t ⊕ u) o ≡ behind t (behind u o)
behind-row t u None = refl
behind-row t u (Some r) = ap (λ x. Some (x, r.1)) (row-assoc t u r.0)

-- a row that is read, and the closing marker behind it
closed : Option (Forest × List Code) → Option (Forest × List Code)
closed None = None
closed (Some r) = behind r.0 (closes r.1)

optional-none : (a : Reading Forest) (cs : List Code) → a cs ≡ None → optional_tree a cs ≡ Some (empty, cs)
unfolding optional_tree gives
optional-none a cs e = either-second a (gives empty) cs e

optional-some : (a : Reading Forest) (cs : List Code) (r : Forest × List Code) → a cs ≡ Some r →
    optional_tree a cs ≡ Some r
unfolding optional_tree
optional-some a cs r e = either-some a (gives empty) cs r e

-- at a title nothing closes
at-number : (v n : ℕ) → (v == n) ≡ true → (n == 41) ≡ false → (v == 41) ≡ false
at-number v n e h = ap (λ x. x == 41) (eqb-true v n e) ∙ h

no-title-closes : (v : ℕ) → (v == 34 || (v == 39 || (v == 40 || false))) ≡ true → (v == 41) ≡ false
no-title-closes v h =
    elim (or_cases (v == 34) _ h) [
      | inl e ↦ at-number v 34 e refl
      | inr k ↦ elim (or_cases (v == 39) _ k) [
        | inl e ↦ at-number v 39 e refl
        | inr l ↦ elim (or_cases (v == 40) false l) [ inl e ↦ at-number v 40 e refl | inr z ↦ cc ]
      ]
    ]

pub closes-none : (cs : List Code) → next_is (is_value 41) cs ≡ false → closes cs ≡ None
closes-none cs e = bind-none (one (is_value 41)) _ cs (one-not (is_value 41) cs e)

title-stays : (cs : List Code) → begins_title cs ≡ true → closes cs ≡ None
title-stays [] e = cc
title-stays (c ∷ cs) e = closes-none (c ∷ cs) (no-title-closes c.value e)

-- the group around the row that stands behind the opening marker
abbrev pub grouped : Code → Option (Forest × List Code) → Option (Forest × List Code)
grouped c None = None
grouped c (Some r) = Some (group N.Resource (leaf N.ResourceMarker (c ∷ []) ⊕ r.0), r.1)

-- `both` says that the opening parenthesis of a title has to be escaped too
module _ (both : Bool) where
  -- Whitespace and a title, by what stands there.

  spaced-none : (cs : List Code) → space_or_tab_eol None cs ≡ None → (spaced_title both) cs ≡ None
  unfolding spaced_title
  spaced-none cs e =
      bind-none (before (space_or_tab_eol None) begins_title) _ cs (before-none (space_or_tab_eol None) begins_title cs e)

  spaced-other : (cs : List Code) (sp : Forest) (r1 : List Code) → space_or_tab_eol None cs ≡ Some (sp, r1) →
      begins_title r1 ≡ false → (spaced_title both) cs ≡ None
  unfolding spaced_title
  spaced-other cs sp r1 e b =
      bind-none (before (space_or_tab_eol None) begins_title) _ cs (before-other (space_or_tab_eol None) begins_title cs sp r1 e b)

  spaced-missing : (cs : List Code) (sp : Forest) (r1 : List Code) → space_or_tab_eol None cs ≡ Some (sp, r1) →
      begins_title r1 ≡ true → title both title_names r1 ≡ None → (spaced_title both) cs ≡ None
  unfolding spaced_title
  spaced-missing cs sp r1 e b n =
      bind-some (before (space_or_tab_eol None) begins_title) _ cs sp r1 _ (before-some (space_or_tab_eol None) begins_title cs sp r1 e b) (bind-none (title both title_names) _ r1 n)

  spaced-some : (cs : List Code) (sp : Forest) (r1 : List Code) (t : Forest) (r2 : List Code) (b : Forest) (r3 : List Code) →
      space_or_tab_eol None cs ≡ Some (sp, r1) → begins_title r1 ≡ true → title both title_names r1 ≡ Some (t, r2) →
      optional_tree (space_or_tab_eol None) r2 ≡ Some (b, r3) → (spaced_title both) cs ≡ Some (sp ⊕ (t ⊕ b), r3)
  unfolding spaced_title gives
  spaced-some cs sp r1 t r2 b r3 e h n o =
      bind-some (before (space_or_tab_eol None) begins_title) _ cs sp r1 _ (before-some (space_or_tab_eol None) begins_title cs sp r1 e h)
      (bind-some (title both title_names) _ r1 t r2 _ n (bind-some (optional_tree (space_or_tab_eol None)) _ r2 b r3 _ o refl))

  -- what follows a destination, and the closing marker
  after-part : List Code → Option (Forest × List Code)
  after-part cs = either (spaced_title both) (optional_tree (space_or_tab_eol None)) cs

  between-title : (r1 : List Code) (b : Bool) → begins_title r1 ≡ b →
      between both r1 ≡ (if b then and_then (title both title_names r1) after_title else closes r1)
  between-title r1 b e = ap (λ x. if x then and_then (title both title_names r1) after_title else closes r1) e

  behind-three : (sp t b : Forest) (r3 : List Code) →
      closed (Some (sp ⊕ (t ⊕ b), r3)) ≡ behind sp (behind t (behind b (closes r3)))
  unfolding closed
  behind-three sp t b r3 = behind-row sp (t ⊕ b) (closes r3) ∙ ap (behind sp) (behind-row t b (closes r3))

  with-title : (cs : List Code) (sp : Forest) (r1 : List Code) → space_or_tab_eol None cs ≡ Some (sp, r1) →
      begins_title r1 ≡ true → (o : Option (Forest × List Code)) → title both title_names r1 ≡ o →
      closed (after-part cs) ≡ behind sp (and_then o after_title)
  unfolding after-part closed
  with-title cs sp r1 e h None n =
      ap closed (either-second (spaced_title both) _ cs (spaced-missing cs sp r1 e h n) ∙ optional-some (space_or_tab_eol None) cs (sp, r1) e) ∙ ap (behind sp) (title-stays r1 h)
  with-title cs sp r1 e h (Some (t, r2)) n = by-space (space_or_tab_eol None r2) refl
    where
      by-space : (q : Option (Forest × List Code)) → space_or_tab_eol None r2 ≡ q →
          closed (after-part cs) ≡ behind sp (behind t (after_title r2))
      by-space None g =
          ap closed (either-some (spaced_title both) _ cs _ (spaced-some cs sp r1 t r2 empty r2 e h n (optional-none (space_or_tab_eol None) r2 g)))
          ∙ behind-three sp t empty r2
          ∙ ap (λ x. behind sp (behind t x)) (behind-empty (closes r2) ∙ sym (ap (λ x. or_without x closes r2) g))
      by-space (Some b) g =
          ap closed (either-some (spaced_title both) _ cs _ (spaced-some cs sp r1 t r2 b.0 b.1 e h n (optional-some (space_or_tab_eol None) r2 b g)))
          ∙ behind-three sp t b.0 b.1
          ∙ ap (λ x. behind sp (behind t x)) (sym (ap (λ x. or_without x closes r2) g))

  after-closed : (cs : List Code) (o : Option (Forest × List Code)) → space_or_tab_eol None cs ≡ o →
      closed (after-part cs) ≡ after_destination_of both o cs
  unfolding after-part closed
  after-closed cs None e =
      ap closed (either-second (spaced_title both) _ cs (spaced-none cs e) ∙ optional-none (space_or_tab_eol None) cs e) ∙ behind-empty (closes cs)
  after-closed cs (Some (sp, r1)) e =
      elim (begins_title r1) as (λ b. begins_title r1 ≡ b → closed (after-part cs) ≡ behind sp (between both r1)) [
        | true ↦ λ h. with-title cs sp r1 e h (title both title_names r1) refl ∙ ap (behind sp) (sym (between-title r1 true h))
        | false ↦ λ h. ap closed (either-second (spaced_title both) _ cs (spaced-other cs sp r1 e h) ∙ optional-some (space_or_tab_eol None) cs (sp, r1) e) ∙ ap (behind sp) (sym (between-title r1 false h))
      ] refl

  -- From the destination on.

  part-by : (cs : List Code) (o : Option (Forest × List Code)) → destination 32 resource_names cs ≡ o →
      closed ((destination_and_title both) cs) ≡ and_then o (after_destination both)
  unfolding destination_and_title closed ◌>>=◌ gives after-part
  part-by cs None e = ap closed (bind-none (destination 32 resource_names) _ cs e)
  part-by cs (Some (t, r)) e =
      ap closed (bind-some (destination 32 resource_names) _ cs t r _ e refl)
      ∙ row-behind (after-part r)
      ∙ ap (behind t) (after-closed r (space_or_tab_eol None r) refl)
    where
      row-behind : (o : Option (Forest × List Code)) →
          closed (elim o as (λ _. Option (Forest × List Code)) [ None ↦ None | Some a ↦ Some (t ⊕ a.0, a.1) ]) ≡ behind t (closed o)
      row-behind None = refl
      row-behind (Some a) = behind-row t a.0 (closes a.1)

  opened-closed : (cs : List Code) → closed (if_next (is_value 41) (gives empty) (destination_and_title both) cs) ≡ opened both cs
  unfolding closed gives
  opened-closed cs =
      elim (next_is (is_value 41) cs) as (λ b. next_is (is_value 41) cs ≡ b → closed (if_next (is_value 41) (gives empty) (destination_and_title both) cs) ≡ (if b then closes cs else and_then (destination 32 resource_names cs) (after_destination both))) [
        | true ↦ λ h. ap closed (if-here (is_value 41) (gives empty) (destination_and_title both) cs h) ∙ behind-empty (closes cs)
        | false ↦ λ h. ap closed (if-other (is_value 41) (gives empty) (destination_and_title both) cs h) ∙ part-by cs (destination 32 resource_names cs) refl
      ] refl

  -- The whole.

  closes-by : (c : Code) (sp ins : Forest) (cs : List Code) →
      (one (is_value 41) >>= λ back. gives (group N.Resource (leaf N.ResourceMarker (c ∷ []) ⊕ sp ⊕ ins ⊕ leaf N.ResourceMarker back))) cs ≡ grouped c (behind sp (behind ins (closes cs)))
  unfolding gives ◌>>=◌
  closes-by c sp ins cs =
      elim (one (is_value 41) cs) as (λ o. elim o as (λ _. Option (Forest × List Code)) [ None ↦ None | Some r ↦ Some (group N.Resource (leaf N.ResourceMarker (c ∷ []) ⊕ sp ⊕ ins ⊕ leaf N.ResourceMarker r.0), r.1) ] ≡ grouped c (behind sp (behind ins (elim o as (λ _. Option (Forest × List Code)) [ None ↦ None | Some r ↦ Some (leaf N.ResourceMarker r.0, r.1) ])))) [ None ↦ refl | Some r ↦ refl ]

  inside-by : (c : Code) (sp : Forest) (cs : List Code) (o : Option (Forest × List Code)) → if_next (is_value 41) (gives empty) (destination_and_title both) cs ≡ o
      → (if_next (is_value 41) (gives empty) (destination_and_title both) >>= λ ins. one (is_value 41) >>= λ back. gives (group N.Resource (leaf N.ResourceMarker (c ∷ []) ⊕ sp ⊕ ins ⊕ leaf N.ResourceMarker back))) cs ≡ grouped c (behind sp (closed o))
  unfolding closed
  inside-by c sp cs None e = bind-none (if_next (is_value 41) (gives empty) (destination_and_title both)) _ cs e
  inside-by c sp cs (Some (t, r)) e =
      bind-some (if_next (is_value 41) (gives empty) (destination_and_title both)) _ cs t r _ e (closes-by c sp t r)

  inside-whole : (c : Code) (sp : Forest) (cs : List Code) →
      (if_next (is_value 41) (gives empty) (destination_and_title both) >>= λ ins. one (is_value 41) >>= λ back. gives (group N.Resource (leaf N.ResourceMarker (c ∷ []) ⊕ sp ⊕ ins ⊕ leaf N.ResourceMarker back))) cs ≡ grouped c (behind sp (opened both cs))
  inside-whole c sp cs =
      inside-by c sp cs (if_next (is_value 41) (gives empty) (destination_and_title both) cs) refl ∙ ap (λ x. grouped c (behind sp x)) (opened-closed cs)

  pub resource-by : (c : Code) (cs : List Code) (o : Option (Forest × List Code)) → is_value 40 c ≡ true →
      space_or_tab_eol None cs ≡ o → resource both (c ∷ cs) ≡ grouped c (or_without o (opened both) cs)
  unfolding resource
  resource-by c cs None h e =
      bind-some (one (is_value 40)) _ (c ∷ cs) (c ∷ []) cs _ (one-here (is_value 40) c cs h)
      (bind-some (optional_tree (space_or_tab_eol None)) _ cs empty cs _ (optional-none (space_or_tab_eol None) cs e) (inside-whole c empty cs ∙ ap (grouped c) (behind-empty (opened both cs))))
  resource-by c cs (Some (sp, r)) h e =
      bind-some (one (is_value 40)) _ (c ∷ cs) (c ∷ []) cs _ (one-here (is_value 40) c cs h)
      (bind-some (optional_tree (space_or_tab_eol None)) _ cs sp r _ (optional-some (space_or_tab_eol None) cs (sp, r) e) (inside-whole c sp r))

  pub resource-inside : (c : Code) (cs : List Code) → is_value 40 c ≡ true → resource both (c ∷ cs) ≡ grouped c (inside both cs)
  resource-inside c cs h = resource-by c cs (space_or_tab_eol None cs) h refl

  pub resource-none : (cs : List Code) → next_is (is_value 40) cs ≡ false → resource both cs ≡ None
  unfolding resource
  resource-none cs e = bind-none (one (is_value 40)) _ cs (one-not (is_value 40) cs e)
