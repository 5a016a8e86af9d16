-- What constructs make: each leaf has a code and is no email literal, each group reaches from where its first tree begins to where its last one ends,
-- none is a pair's, and an autolink holds leaves of its own.
use Rattle.std.proofs.Common.{◌≡◌, ◌≢◌, ◌==◌, ℕ, Bool, true, false, ◌&&◌, ◌||◌, not, List, [], ◌∷◌, refl, ◌∙◌, ap, arith, Option, Some, None}
use Rattle.std.proofs.lemmas.Bool.{eq-eqb}
use Rattle.std.proofs.Math.Bool.{and_assoc, or-true}
use Rattle.markdown_event.specs.declared.event.Name.{Name}
use Rattle.markdown_event.specs.declared.event.Content.{Content}
use Rattle.markdown_event.specs.declared.event.Point.{Point}
use Rattle.markdown_content.specs.Codes.{Code}
use Rattle.markdown_content.specs.Tree.{Forest, empty, leaf_then, group_then, leaf, linked, group, ◌⊕◌, enter_of, exit_after}
use Rattle.markdown_model.specs.CodeTests.{is_empty}
use Rattle.markdown_model.specs.Grammar.{Reading}
use Rattle.markdown_model.specs.TextLines.{linked_leaf, lines}
use Rattle.markdown_model.specs.Resource.{string_group}
use Rattle.markdown_model.specs.Passes.{is_nothing}
use Rattle.markdown_model.specs.Laws.{is_run}
use Rattle.markdown_model.specs.Setting.{Setting}
use Rattle.markdown_model.specs.LabelEnd.{after_label}
use Rattle.markdown_model.proofs.LeafRows.{Leaves, leaves-lines}
use Rattle.markdown_model.proofs.NoLinkInConstructs.{Yields}
use Rattle.markdown_model.proofs.PlainConstructs.{is_own, leaf-own, group-own, IsOwnLeaf, IsPlainTree}
use Rattle.markdown_model_laws.proofs.AfterLabelTrees.{IsSome, PassesAfterLabels, of_after_label}
use Rattle.markdown_model_laws.specs.PairGroups.{is_pair}
use Rattle.markdown_model_laws.specs.EmailsInData.{is_email}
use Rattle.markdown_model_laws.specs.TreesFilled.{is_label_text}
use Rattle.markdown_model_laws.specs.MarkersHeld.{is_data}

-- both stand at one place
abbrev pub is_at : Point → Point → Bool
is_at p q = p.index == q.index && p.vs == q.vs

-- around something, from where it begins to where it ends
abbrev pub reaches : Point → Point → Forest → Bool
reaches enter exit inside =
    not (is_nothing inside) && (is_at enter (enter_of inside) && is_at exit (exit_after (enter_of inside) inside))

abbrev pub is_autolink : Name → Bool
is_autolink Name.Autolink = true
is_autolink _ = false

-- leaves alone, none of them data or a run
abbrev pub is_sealed : Forest → Bool
is_sealed empty = true
is_sealed (leaf_then name link cs rest) = not (is_data name || is_run name) && is_sealed rest
is_sealed (group_then name enter exit inside rest) = false

-- an autolink holds such leaves
abbrev pub is_shut : Name → Forest → Bool
is_shut name inside = not (is_autolink name) || is_sealed inside

-- and no group is a pair's
abbrev pub is_single : Name → Forest → Bool
is_single name inside = not (is_pair name) && is_shut name inside

-- where `texts`, texts of labels stand anywhere and around anything
abbrev pub made : Bool → Forest → Bool
made texts empty = true
made texts (leaf_then name link cs rest) = not (is_empty cs) && (not (is_email name) && made texts rest)
made texts (group_then name enter exit inside rest) =
    ((texts && is_label_text name) || reaches enter exit inside) && (is_single name inside && (made texts inside && made texts rest))

-- Rows.

pub made-join : (texts : Bool) (a b : Forest) → made texts (a ⊕ b) ≡ (made texts a && made texts b)
made-join texts empty b = refl
made-join texts (leaf_then name link cs rest) b = grind (arith, made-join texts rest b, and_assoc)
made-join texts (group_then name enter exit inside rest) b =
    ap (λ x. ((texts && is_label_text name) || reaches enter exit inside) && (is_single name inside && (made texts inside && x))) (made-join texts rest b)
    ∙ regroup ((texts && is_label_text name) || reaches enter exit inside) (is_single name inside) (made texts inside) (made texts rest) (made texts b)
  where
    regroup : (a b c d e : Bool) → (a && (b && (c && (d && e)))) ≡ ((a && (b && (c && d))) && e)
    regroup a b c d e = grind arith

pub made-leaf : (texts : Bool) (name : Name) (cs : List Code) →
    made texts (leaf name cs) ≡ (not (is_email name) || is_empty cs)
made-leaf texts name cs = grind (arith, or-true)

made-linked_leaf : (name : Name) (link : Option Content) (cs : List Code) → is_email name ≡ false →
    made false (linked_leaf name link cs) ≡ true
made-linked_leaf name link [] h = refl
made-linked_leaf name link (c ∷ cs) h = λ i. not (h i) && true

made-space : (link : Option Content) (cs : List Code) → made false (linked_leaf Name.SpaceOrTab link cs) ≡ true
made-space link cs = made-linked_leaf Name.SpaceOrTab link cs refl

made-ending : (link : Option Content) (cs : List Code) → made false (linked_leaf Name.LineEnding link cs) ≡ true
made-ending link cs = made-linked_leaf Name.LineEnding link cs refl

made-linked : (cs : List Code) → made false (linked Name.Data cs) ≡ true
made-linked [] = refl
made-linked (c ∷ cs) = refl

-- of leaves, by each of them
rows-made : (t : Forest) → Leaves (λ name link cs. (is_empty cs ≡ false) × (is_email name ≡ false)) t →
    made false t ≡ true
rows-made empty h = refl
rows-made (leaf_then name link cs rest) h = λ i. not (h.0.0 i) && (not (h.0.1 i) && rows-made rest h.1 i)
rows-made (group_then name enter exit inside rest) h = absurd h

pub some-not-empty : (cs : List Code) → cs ≢ [] → is_empty cs ≡ false
some-not-empty [] h = absurd (h refl)
some-not-empty (c ∷ cs) h = refl

made-lines : (link : Option Content) (cs : List Code) → made false (lines Name.Data link cs) ≡ true
made-lines link cs =
    rows-made _ (leaves-lines _ Name.Data link (λ s h. (some-not-empty s h.0, refl)) (λ s h _. (some-not-empty s h, refl)) (λ s h. (some-not-empty s h.0, refl)) cs)

-- Groups.

at-itself : (p : Point) → is_at p p ≡ true
at-itself p = λ i. eq-eqb p.index p.index refl i && eq-eqb p.vs p.vs refl i

reaches-itself : (f : Forest) → is_nothing f ≡ false → reaches (enter_of f) (exit_after (enter_of f) f) f ≡ true
reaches-itself f h = λ i. not (h i) && (at-itself (enter_of f) i && at-itself (exit_after (enter_of f) f) i)

-- a group around something
pub made-group : (texts : Bool) (name : Name) (f : Forest) → is_single name f ≡ true → is_nothing f ≡ false →
    made texts f ≡ true → made texts (group name f) ≡ true
made-group texts name f h k l = grind (arith, reaches-itself, or-true)

made-string_group : (name : Name) (f : Forest) → ((g : Forest) → is_single name g ≡ true) → made false f ≡ true →
    made false (string_group name f) ≡ true
made-string_group name empty h k = refl
made-string_group name (leaf_then n l c r) h k =
    made-group false name (leaf_then n l c r) (h (leaf_then n l c r)) refl k
made-string_group name (group_then n a b x r) h k =
    made-group false name (group_then n a b x r) (h (group_then n a b x r)) refl k

made-reference_string : (cs : List Code) →
    made false (string_group Name.ReferenceString (lines Name.Data (Some Content.String) cs)) ≡ true
made-reference_string cs = grind (arith, made-string_group, made-lines)

made-title_string : (cs : List Code) →
    made false (string_group Name.ResourceTitleString (lines Name.Data (Some Content.String) cs)) ≡ true
made-title_string cs = grind (arith, made-string_group, made-lines)

made-destination_string : (cs : List Code) →
    made false (string_group Name.ResourceDestinationString (linked Name.Data cs)) ≡ true
made-destination_string cs = grind (arith, made-string_group, made-linked)

pub front-some : (name : Name) (cs : List Code) (f : Forest) → is_empty cs ≡ false →
    is_nothing (leaf name cs ⊕ f) ≡ false
front-some name [] f h = cc
front-some name (c ∷ cs) f h = refl

-- a group that begins with a marker
pub made-front : (name marker : Name) (cs : List Code) (f : Forest) → is_single name (leaf marker cs ⊕ f) ≡ true →
    is_email marker ≡ false → is_empty cs ≡ false → made false f ≡ true →
    made false (group name (leaf marker cs ⊕ f)) ≡ true
made-front name marker cs f h e k l = grind (arith, made-group, front-some marker cs f k, made-join false (leaf marker cs) f, made-leaf false marker cs)

-- Readings.

abbrev pub IsMadeTree : Forest → Type 0
IsMadeTree t = made false t ≡ true

abbrev pub MakesTrees : Reading Forest → Type 0
MakesTrees a = Yields IsMadeTree a

-- What stands by itself.

own-names : (name : Name) → is_own name ≡ true →
    (is_email name ≡ false) × ((is_pair name ≡ false) × ((is_data name || is_run name) ≡ false))
own-names name h0 = grind arith

leaves-made : (bytes : List ℕ) (t : Forest) → Leaves (IsOwnLeaf bytes) t → (made false t ≡ true) × (is_sealed t ≡ true)
leaves-made bytes empty h = (refl, refl)
leaves-made bytes (leaf_then name link cs rest) h = grind (arith, own-names, leaf-own, leaves-made bytes rest h.1, some-not-empty)
leaves-made bytes (group_then name enter exit inside rest) h = absurd h

pub plain-made : (bytes : List ℕ) (t : Forest) → IsPlainTree bytes t → IsMadeTree t
plain-made bytes empty h = absurd h
plain-made bytes (leaf_then name link cs rest) h = grind (arith, own-names, leaf-own, some-not-empty)
plain-made bytes (group_then name enter exit inside rest) h =
    let n = own-names name (group-own name h.0.named) in
    let k = leaves-made bytes inside h.0.leaves in
    let single : is_single name inside ≡ true = (λ i. not (n.1.0 i) && (not (is_autolink name) || k.1 i)) ∙ or-true (not (is_autolink name)) in
    (λ i. made false (group_then name (h.0.enters i) (h.0.exits i) inside (h.1 i))) ∙ made-group false name inside single h.0.some k.0

-- What follows a label.

made-raw : (text : List Code) → IsSome text →
    IsMadeTree (group Name.ResourceDestinationRaw (group Name.ResourceDestinationString (linked Name.Data text)))
made-raw text h0 = grind (arith, made-group)

pub makes_after_label : (s : Setting) (defined : Bool) → MakesTrees (after_label s defined)
makes_after_label s defined = of_after_label IsMadeTree after_labels s defined
  where
    after_labels : PassesAfterLabels IsMadeTree
    after_labels = record {
      none = refl;
      rows = λ t u h k. made-join false t u ∙ (λ i. h i && k i);
      space = made-space None;
      ending = made-ending None;
      label = λ front f e h. made-front Name.Reference Name.ReferenceMarker front f refl refl e h;
      label_text = made-reference_string;
      label_end = λ cs. made-leaf false Name.ReferenceMarker cs;
      titled = λ front f e h. made-front Name.ResourceTitle Name.ResourceTitleMarker front f refl refl e h;
      title_text = made-title_string;
      title_end = λ cs. made-leaf false Name.ResourceTitleMarker cs;
      literal = λ front f e h. made-front Name.ResourceDestinationLiteral Name.ResourceDestinationLiteralMarker front f refl refl e h;
      literal_text = made-destination_string;
      literal_end = λ cs. made-leaf false Name.ResourceDestinationLiteralMarker cs;
      raw = made-raw;
      target = λ f e h. made-group false Name.ResourceDestination f refl e h;
      whole = λ front f e h. made-front Name.Resource Name.ResourceMarker front f refl refl e h;
      whole_end = λ cs. made-leaf false Name.ResourceMarker cs;
    }
