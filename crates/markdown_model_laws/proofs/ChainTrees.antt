-- Trees in which linked leaves stand among linked leaves alone, each row of them in a group of its own.
use Rattle.std.proofs.Common.{◌≡◌, ℕ, false, ◌⊎◌, inl, List, [], ◌∷◌, Option, Some, None, refl, arith}
use Rattle.markdown_event.specs.declared.event.Name.{Name}
use Rattle.markdown_event.specs.declared.event.Name.TheVariants as N
use Rattle.markdown_event.specs.declared.event.Content.{Content}
use Rattle.markdown_event.specs.declared.event.Point.{Point}
use Rattle.markdown_content.specs.declared.label_kind.LabelKind.{LabelKind}
use Rattle.markdown_content.specs.Codes.{Code}
use Rattle.markdown_content.specs.Tree.{Forest, empty, leaf_then, group_then, leaf, linked, group, ◌⊕◌}
use Rattle.markdown_model.specs.Grammar.{Reading}
use Rattle.markdown_model.specs.Laws.{is_run}
use Rattle.markdown_model.specs.Resource.{string_group}
use Rattle.markdown_model.specs.Setting.{Setting, within}
use Rattle.markdown_model.specs.TextLines.{linked_leaf, lines}
use Rattle.markdown_model.specs.LabelEnd.{Element, plain, starts, ends, label_before, label_end}
use Rattle.markdown_model.specs.Elements.{as_plain, line_ending, data_code, attention_run, text_element, string_element, text_choice, string_choice, elements_of, string_elements_of}
use Rattle.markdown_model.specs.Passes.{start_tree, label_group, labels_of}
use Rattle.markdown_model.proofs.ElementCases.{AllAre, EachConstruct, all_are, outcome_yields, string_has, text_has}
use Rattle.markdown_model.proofs.LabelTreeFacts.{labels-have}
use Rattle.markdown_model.proofs.LeafRows.{Leaves, leaves-lines}
use Rattle.markdown_model.proofs.NoLinkInConstructs.{PassesValue, Yields, yields_bind, yields_gives, yields_either, then_any}
use Rattle.markdown_model.proofs.OneElementList.{text_elements, string_elements}
use Rattle.markdown_model.proofs.PlainConstructs.{IsOwnLeaf, IsPlainTree, ReadsPlain}
use Rattle.markdown_model_laws.proofs.AfterLabelTrees.{PassesAfterLabels, of_after_label}

-- leaves with a link alone, none of them a run
abbrev pub AreLinkedLeaves : Forest → Type 0
AreLinkedLeaves empty = Unit {0}
AreLinkedLeaves (leaf_then name None cs rest) = ⊥
AreLinkedLeaves (leaf_then name (Some link) cs rest) = (is_run name ≡ false) × AreLinkedLeaves rest
AreLinkedLeaves (group_then name a b inside rest) = ⊥

-- leaves without a link, and groups of such rows or of linked leaves alone
abbrev pub HasChains : Forest → Type 0
HasChains empty = Unit {0}
HasChains (leaf_then name link cs rest) = (link ≡ None) × HasChains rest
HasChains (group_then name a b inside rest) = (HasChains inside ⊎ AreLinkedLeaves inside) × HasChains rest

-- Rows.

pub row : (t u : Forest) → HasChains t → HasChains u → HasChains (t ⊕ u)
row empty u h k = k
row (leaf_then name link cs rest) u h k = (h.0, row rest u h.1 k)
row (group_then name a b inside rest) u h k = (h.0, row rest u h.1 k)

pub one-leaf : (name : Name) (cs : List Code) → HasChains (leaf name cs)
one-leaf name [] = tt
one-leaf name (c ∷ cs) = (refl, tt)

pub one-group : (name : Name) (a b : Point) (inside : Forest) → HasChains inside → HasChains (group_then name a b inside empty)
one-group name a b inside h = (inl h, tt)

named-group : (name : Name) (inside : Forest) → HasChains inside → HasChains (group name inside)
named-group name inside h = (inl h, tt)

front-group : (name marker : Name) (front : List Code) (f : Forest) → HasChains f → HasChains (group name (leaf marker front ⊕ f))
front-group name marker front f h = named-group name _ (row (leaf marker front) f (one-leaf marker front) h)

unlinked : (name : Name) (cs : List Code) → HasChains (linked_leaf name None cs)
unlinked name [] = tt
unlinked name (c ∷ cs) = (refl, tt)

string-chain : (name : Name) (t : Forest) → AreLinkedLeaves t → HasChains (string_group name t)
string-chain name t h = grind arith

some-link : (c : Content) → None ≡ Some c → ⊥
some-link c e = cc

linked-leaves : (t : Forest) → Leaves (λ name link cs. (is_run name ≡ false) × (link ≡ Some Content.String)) t → AreLinkedLeaves t
linked-leaves (leaf_then name (Some link) cs rest) h = (h.0.0, linked-leaves rest h.1)
linked-leaves t h = grind (arith, some-link)

linked-lines : (cs : List Code) → AreLinkedLeaves (lines N.Data (Some Content.String) cs)
linked-lines cs =
    linked-leaves (lines N.Data (Some Content.String) cs)
    (leaves-lines (λ name link ds. (is_run name ≡ false) × (link ≡ Some Content.String)) N.Data (Some Content.String) (λ s _. (refl, refl)) (λ s _ _. (refl, refl)) (λ s _. (refl, refl)) cs)

linked-data : (cs : List Code) → AreLinkedLeaves (linked N.Data cs)
linked-data [] = tt
linked-data (c ∷ cs) = (refl, tt)

-- What stands by itself.

own-leaves : (bytes : List ℕ) (t : Forest) → Leaves (IsOwnLeaf bytes) t → HasChains t
own-leaves bytes empty h = tt
own-leaves bytes (leaf_then name link cs rest) h = (h.0.unlinked, own-leaves bytes rest h.1)
own-leaves bytes (group_then name a b inside rest) h = absurd h

plain-chains : (bytes : List ℕ) (t : Forest) → IsPlainTree bytes t → HasChains t
plain-chains bytes t h = grind (arith, own-leaves)

-- What follows a label.

after_labels : PassesAfterLabels HasChains
after_labels = grind (arith, row, unlinked, front-group, string-chain, linked-lines, one-leaf, linked-data, named-group)

-- Elements.

abbrev ElementHasChains : Element → Type 0
ElementHasChains (plain t) = HasChains t
ElementHasChains (starts kind marker) = Unit {0}
ElementHasChains (ends marker None) = Unit {0}
ElementHasChains (ends marker (Some outcome)) = HasChains outcome.1

has-plain : (bytes : List ℕ) (a : Reading Forest) → ReadsPlain bytes a → Yields ElementHasChains (as_plain a)
unfolding as_plain
has-plain bytes a h = yields_bind (IsPlainTree bytes) _ _ _ h.plain λ tree k. yields_gives _ (plain tree) (plain-chains bytes tree k)

has-ending : Yields ElementHasChains line_ending
unfolding line_ending
has-ending = then_any _ _ _ λ c. yields_gives _ (plain (leaf N.LineEnding c)) (one-leaf N.LineEnding c)

has-data : Yields ElementHasChains data_code
unfolding data_code
has-data = then_any _ _ _ λ c. yields_gives _ (plain (leaf N.Data c)) (one-leaf N.Data c)

has-run : (marker : ℕ) → Yields ElementHasChains (attention_run marker)
unfolding attention_run
has-run marker = then_any _ _ _ λ markers. yields_gives _ (plain (leaf N.AttentionSequence markers)) (one-leaf N.AttentionSequence markers)

abbrev OutcomeHasChains : LabelKind × Forest → Type 0
OutcomeHasChains o = HasChains o.1

has-end : (s : Setting) (earlier : List Element) → Yields ElementHasChains (label_end s earlier)
unfolding label_end
has-end s earlier =
    then_any _ _ _ λ back. yields_either _ _ _
    (yields_bind OutcomeHasChains _ _ _ (outcome_yields HasChains tt s (of_after_label HasChains after_labels s) (label_before earlier) back) λ outcome k. yields_gives _ (ends back (Some outcome)) k)
    (yields_gives _ (ends back None) tt)

has-text-element : (s : Setting) (end : ℕ) (earlier : List Element) (previous : Option Code) (cs : List Code) →
    PassesValue ElementHasChains (text_element s end earlier previous cs)
has-text-element s end earlier previous cs = text_has s end earlier previous (PassesValue ElementHasChains) cs each (has-data.at cs)
  where
    each : EachConstruct s end earlier previous (PassesValue ElementHasChains) cs
    each = record {
      none = tt;
      ending = has-ending.at cs;
      plain_has = λ a h. (has-plain s.bytes a h).at cs;
      stars = λ _. (has-run 42).at cs;
      underscores = λ _. (has-run 95).at cs;
      tildes = λ _. (has-run 126).at cs;
      starts_has = λ kind marker rest some whole. tt;
      ended = (has-end s earlier).at cs;
    }

has-string-element : (s : Setting) (cs : List Code) → PassesValue ElementHasChains (string_element s cs)
has-string-element s cs =
    string_has (PassesValue ElementHasChains) tt cs s (λ a h. (has-plain s.bytes a h).at cs) ((yields_either ElementHasChains _ _ has-ending has-data).at cs)

-- Labels.

start-chains : (kind : LabelKind) (cs : List Code) → HasChains (start_tree kind cs)
start-chains kind cs = grind (arith, named-group, row, one-leaf)

label-chains : (kind : LabelKind) (marker : List Code) (inside : Forest) (back : List Code) (tail : Forest) →
    HasChains inside → HasChains tail → HasChains (label_group kind marker inside back tail)
label-chains kind marker inside back tail h k = grind (arith, named-group, row, start-chains, one-group, one-leaf)

labels-chains : (es : List Element) → AllAre ElementHasChains es → HasChains (labels_of es)
labels-chains es h =
    labels-have HasChains ElementHasChains tt row (λ t k. k) (λ kind marker k. one-leaf N.Data marker) (λ marker outcome k. one-leaf N.Data marker)
    (λ kind marker inside back outcome m i e. label-chains outcome.0 marker inside back outcome.1 i e) es h

pub text-labels : (s : Setting) (cs : List Code) → HasChains (labels_of (elements_of s cs))
text-labels s cs =
    labels-chains (elements_of s cs) (all_are ElementHasChains (text_choice s cs) (λ earlier previous ds. has-text-element (within cs s) _ earlier previous ds) (elements_of s cs) [] None cs (text_elements s cs))

pub string-labels : (s : Setting) (cs : List Code) → HasChains (labels_of (string_elements_of s cs))
string-labels s cs =
    labels-chains (string_elements_of s cs) (all_are ElementHasChains (string_choice s) (λ earlier previous ds. has-string-element s ds) (string_elements_of s cs) [] None cs (string_elements s cs))
