-- What follows a label, by the codes at hand.
use Rattle.std.proofs.Common.{◌≡◌, ℕ, ◌==◌, Bool, true, false, ◌&&◌, not, if◌then◌else◌, Option, Some, None, List, [], ◌∷◌, refl, sym, ap, ◌∙◌}
use Rattle.std.specs.Prelude.{is_some}
use Rattle.markdown_partial.proofs.PartialDestinationReadings.{if-here, if-other}
use Rattle.std.proofs.Math.Bool.{and-true, and-false}
use Rattle.markdown_content.specs.Codes.{Code}
use Rattle.markdown_content.specs.Tree.{Forest, empty, leaf, group, ◌⊕◌}
use Rattle.markdown_event.specs.declared.event.Name.TheVariants as N
use Rattle.markdown_content.specs.declared.label_kind.LabelKind.{LabelKind}
use Rattle.markdown_plan.specs.Plan.{preceded, plan_of, tree_ops}
use Rattle.markdown_engine.proofs.SolidTrees.{IsSolid-leaf}
use Rattle.markdown_model.proofs.LabelsCover.{covers_collapsed}
use Rattle.markdown_model.proofs.NoLinkInConstructs.{yields_bind, yields_gives, then_any}
use Rattle.markdown_model.proofs.OneLineReadings.{IsOneCode, one-one, one-some}
use Rattle.markdown_plan.proofs.SolidReadings.{ReadsSolid, solid-marked}
use Rattle.markdown_model.specs.CodeTests.{is_value, next_is}
use Rattle.markdown_model.specs.Grammar.{Reading, ◌>>=◌, ◌>>◌, gives, either, unless, provided, one}
use Rattle.markdown_model.specs.LabelEnd.{is_footnote, full_reference, collapsed_reference, shortcut, shortcut_before_bracket, reference_after_label, after_label, link_kind, names_footnote, names_definition}
use Rattle.markdown_model.specs.Resource.{resource, label, reference_names}
use Rattle.markdown_model.specs.Setting.{Setting, rules}
use Rattle.markdown_model.proofs.GrammarSteps.{bind-some, bind-none, one-here, one-not, either-some, either-second, switched-on, switched-off}
use Rattle.markdown_label.specs.LabelEnd.{collapsed_front, collapsed_back, collapsed_open_plan}
use Rattle.markdown_model.specs.SingleConstructs.{outcome}

-- at a `(`, at a `[`, and elsewhere

pub after-paren : (s : Setting) (defined : Bool) (cs : List Code) → next_is (is_value 40) cs ≡ true →
    after_label s defined cs ≡ either (resource (rules s).escaped_parentheses) (shortcut defined) cs
unfolding after_label
after-paren s defined cs e = if-here (is_value 40) _ _ cs e

pub after-bracket : (s : Setting) (defined : Bool) (cs : List Code) → next_is (is_value 40) cs ≡ false →
    next_is (is_value 91) cs ≡ true → after_label s defined cs ≡ reference_after_label s defined cs
unfolding after_label
after-bracket s defined cs e h = if-other (is_value 40) _ _ cs e ∙ if-here (is_value 91) _ _ cs h

pub after-other : (s : Setting) (defined : Bool) (cs : List Code) → next_is (is_value 40) cs ≡ false →
    next_is (is_value 91) cs ≡ false → after_label s defined cs ≡ shortcut defined cs
unfolding after_label
after-other s defined cs e h = if-other (is_value 40) _ _ cs e ∙ if-other (is_value 91) _ _ cs h

-- References.

pub full-first : (s : Setting) (defined : Bool) (cs : List Code) (r : Forest × List Code) →
    full_reference s cs ≡ Some r → reference_after_label s defined cs ≡ Some r
unfolding reference_after_label
full-first s defined cs r e = either-some (full_reference s) _ cs r e

unless-none : {A B : Type 0} (a : Reading A) (b : Reading B) (cs : List Code) → a cs ≡ None → unless a b cs ≡ b cs
unfolding unless
unless-none a b cs e = rw (e, unless) refl

unless-some : {A B : Type 0} (a : Reading A) (b : Reading B) (cs : List Code) (r : A × List Code) →
    ◌≡◌ {A = Option (A × List Code)} (a cs) (Some r) → unless a b cs ≡ None
unfolding unless
unless-some a b cs r e = rw (e, unless) refl

-- the label itself is not defined, and no full reference stands there
pub undefined-none : (s : Setting) (cs : List Code) → full_reference s cs ≡ None →
    reference_after_label s false cs ≡ None
unfolding reference_after_label shortcut_before_bracket shortcut
undefined-none s cs e =
    either-second (full_reference s) _ cs e
    ∙ either-second _ _ cs (switched-off collapsed_reference false cs refl)
    ∙ elim (either collapsed_reference (label (rules s).labels_by_characters reference_names) cs) as (λ o. either collapsed_reference (label (rules s).labels_by_characters reference_names) cs ≡ o → unless (either collapsed_reference (label (rules s).labels_by_characters reference_names)) (shortcut (false && (rules s).shortcut_before_bracket)) cs ≡ None) [
      | None ↦ λ h. unless-none _ _ cs h ∙ shortcut-off cs
      | Some r ↦ λ h. unless-some _ _ cs r h
    ] refl
  where
    shortcut-off : (cs : List Code) → shortcut false cs ≡ None
    shortcut-off cs = switched-off (gives empty) false cs refl

-- it is defined: `[]`, or the shortcut that an option allows where no label stands
pub defined-either : (s : Setting) (cs : List Code) → full_reference s cs ≡ None →
    reference_after_label s true cs ≡ either collapsed_reference (shortcut ((rules s).shortcut_before_bracket && not (is_some (label (rules s).labels_by_characters reference_names cs)))) cs
unfolding reference_after_label shortcut_before_bracket shortcut
defined-either s cs e =
    either-second (full_reference s) _ cs e
    ∙ by-collapsed (collapsed_reference cs) refl (label (rules s).labels_by_characters reference_names cs) refl
  where
    option : Bool
    option = (rules s).shortcut_before_bracket

    off : (b : Bool) → b ≡ false → shortcut b cs ≡ None
    off b h = switched-off (gives empty) b cs h

    by-collapsed : (o : Option (Forest × List Code)) → collapsed_reference cs ≡ o → (l : Option (Forest × List Code)) → label (rules s).labels_by_characters reference_names cs ≡ l
        → either (provided true >> collapsed_reference) (unless (either collapsed_reference (label (rules s).labels_by_characters reference_names)) (shortcut (true && option))) cs
        ≡ either collapsed_reference (shortcut (option && not (is_some (label (rules s).labels_by_characters reference_names cs)))) cs
    by-collapsed (Some r) h l k =
        either-some _ _ cs r (switched-on collapsed_reference true cs refl ∙ h) ∙ sym (either-some _ _ cs r h)
    by-collapsed None h None k =
        either-second _ _ cs (switched-on collapsed_reference true cs refl ∙ h)
        ∙ unless-none _ _ cs (either-second _ _ cs h ∙ k)
        ∙ ap (λ b. shortcut b cs) (sym (ap (λ x. option && not (is_some x)) k ∙ and-true option))
        ∙ sym (either-second _ _ cs h)
    by-collapsed None h (Some r) k =
        either-second _ _ cs (switched-on collapsed_reference true cs refl ∙ h)
        ∙ unless-some _ _ cs r (either-second _ _ cs h ∙ k)
        ∙ sym (off _ (ap (λ x. option && not (is_some x)) k ∙ and-false option))
        ∙ sym (either-second _ _ cs h)

-- `[]`

pub collapsed-whole : ReadsSolid collapsed_reference
unfolding collapsed_reference
collapsed-whole = record {
  covers = covers_collapsed;
  solid = yields_bind IsOneCode _ _ _ (one-one _) λ front f. then_any _ _ _ λ back. yields_gives _ _
      (solid-marked N.Reference N.ReferenceMarker front (leaf N.ReferenceMarker back) (one-some front f) (IsSolid-leaf N.ReferenceMarker back));
}

abbrev closes : List Code → Reading Forest
closes front =
    one (is_value 93) >>= λ back. gives (group N.Reference (leaf N.ReferenceMarker front ⊕ leaf N.ReferenceMarker back))

closes-by : (a : Code) (cs : List Code) →
    tree_ops (closes (a ∷ []) cs) ≡ preceded collapsed_front (collapsed_open_plan cs)
unfolding gives
closes-by a [] = ap tree_ops (bind-none _ _ _ (one-not (is_value 93) [] refl))
closes-by a (c ∷ cs) =
    elim (c.value == 93) as (λ b. (c.value == 93) ≡ b → tree_ops (closes (a ∷ []) (c ∷ cs)) ≡ preceded collapsed_front (if b then Some collapsed_back else None)) [
      | true ↦ λ e. ap tree_ops (bind-some _ _ _ _ _ _ (one-here (is_value 93) c cs e) refl)
      | false ↦ λ e. ap tree_ops (bind-none _ _ _ (one-not (is_value 93) (c ∷ cs) e))
    ] refl

pub collapsed-here : (c : Code) (cs : List Code) → is_value 91 c ≡ true →
    plan_of collapsed_reference (c ∷ cs) ≡ preceded collapsed_front (collapsed_open_plan cs)
unfolding collapsed_reference
collapsed-here c cs e =
    ap tree_ops (bind-some _ _ _ (c ∷ []) cs _ (one-here (is_value 91) c cs e) refl) ∙ closes-by c cs

pub collapsed-none : (cs : List Code) → next_is (is_value 91) cs ≡ false → plan_of collapsed_reference cs ≡ None
unfolding collapsed_reference
collapsed-none cs e = ap tree_ops (bind-none _ _ cs (one-not (is_value 91) cs e))

-- Outcomes.

pub outcome-call : (s : Setting) (kind : LabelKind) (name : Option (List ℕ)) (cs : List Code) →
    is_footnote kind && names_footnote s name ≡ true →
    outcome s kind name cs ≡ Some ((LabelKind.GfmFootnote, empty), cs)
unfolding outcome gives
outcome-call s kind name cs e =
    either-some _ _ cs ((LabelKind.GfmFootnote, empty), cs) (switched-on (gives (LabelKind.GfmFootnote, empty)) _ cs e)

abbrev tail_of : Setting → LabelKind → Option (List ℕ) → Reading Forest
tail_of s kind name = after_label s (names_definition s kind name)

pub outcome-tail : (s : Setting) (kind : LabelKind) (name : Option (List ℕ)) (cs : List Code) (tree : Forest) (rest : List Code) →
    is_footnote kind && names_footnote s name ≡ false →
    after_label s (names_definition s kind name) cs ≡ Some (tree, rest) →
    outcome s kind name cs ≡ Some ((link_kind kind, tree), rest)
unfolding outcome gives
outcome-tail s kind name cs tree rest e h =
    either-second _ _ cs (switched-off (gives (LabelKind.GfmFootnote, empty)) _ cs e) ∙ bind-some (tail_of s kind name) (λ t. gives (link_kind kind, t)) cs tree rest _ h refl

pub outcome-none : (s : Setting) (kind : LabelKind) (name : Option (List ℕ)) (cs : List Code) →
    is_footnote kind && names_footnote s name ≡ false →
    after_label s (names_definition s kind name) cs ≡ None → outcome s kind name cs ≡ None
unfolding outcome gives
outcome-none s kind name cs e h =
    either-second _ _ cs (switched-off (gives (LabelKind.GfmFootnote, empty)) _ cs e) ∙ bind-none (tail_of s kind name) (λ t. gives (link_kind kind, t)) cs h

pub footnote-kind : (kind : LabelKind) → is_footnote kind ≡ true → kind ≡ LabelKind.GfmFootnote
footnote-kind LabelKind.GfmFootnote e = refl
footnote-kind _ e = cc
