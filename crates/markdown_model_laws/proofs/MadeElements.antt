-- What is made of the elements of a content: each leaf has a code and is no email literal, each group but the text of a label reaches from where its first
-- tree begins to where its last one ends, none is a pair's, and an autolink holds leaves of its own.
use Rattle.std.proofs.Common.{◌≡◌, ℕ, true, false, ◌&&◌, ◌||◌, not, List, [], ◌∷◌, length, drop, refl, ◌∙◌, Option, Some, None, ap, arith}
use Rattle.std.proofs.lemmas.Bool.{and_parts}
use Rattle.std.proofs.Math.Bool.{or-true}
use Rattle.markdown_event.specs.declared.event.Name.{Name}
use Rattle.markdown_event.specs.declared.event.Point.{Point}
use Rattle.markdown_content.specs.declared.label_kind.LabelKind.{LabelKind}
use Rattle.markdown_content.specs.Codes.{Code, stop_of, document_start}
use Rattle.markdown_content.specs.Tree.{Forest, empty, leaf_then, group_then, leaf, group, text_group, start_of, ◌⊕◌}
use Rattle.markdown_model.specs.Grammar.{Reading}
use Rattle.markdown_model.specs.Setting.{Setting}
use Rattle.markdown_model.specs.LabelEnd.{Element, plain, starts, ends, Label, label_before, outcome_of, label_end}
use Rattle.markdown_model.specs.Elements.{as_plain, line_ending, data_code, attention_run, text_element, string_element, elements_of, string_elements_of}
use Rattle.markdown_model.specs.Passes.{End, start_marker, start_tree, label_name, label_group, labels_of, is_nothing}
use Rattle.markdown_model.proofs.ElementCases.{AllAre, EachConstruct, all_are, outcome_yields, string_has, text_has}
use Rattle.markdown_model.proofs.OneElementList.{text_elements, string_elements}
use Rattle.markdown_model.proofs.LabelTreeFacts.{labels-have}
use Rattle.markdown_model.proofs.NoLinkInConstructs.{PassesValue, Yields, yields_bind, yields_gives, yields_either, then_any}
use Rattle.markdown_model.specs.CodeTests.{is_empty}
use Rattle.markdown_model_laws.specs.EmailsInData.{is_email}
use Rattle.markdown_model_laws.specs.TreesFilled.{is_label_text}
use Rattle.markdown_model_laws.proofs.AfterLabelTrees.{IsSome, one-gives}
use Rattle.markdown_model_laws.proofs.MadeConstructs.{is_single, made, reaches, made-join, made-leaf, made-group, IsMadeTree, some-not-empty, plain-made, makes_after_label}
use Rattle.markdown_model.proofs.PlainConstructs.{IsPlainTree, ReadsPlain}

-- Elements.

abbrev pub IsGoodEnd : End → Type 0
IsGoodEnd (back, None) = IsSome back
IsGoodEnd (back, Some outcome) = IsSome back × IsMadeTree outcome.1

abbrev pub IsMadeElement : Element → Type 0
IsMadeElement (plain tree) = IsMadeTree tree
IsMadeElement (starts kind marker) = IsSome marker
IsMadeElement (ends back outcome) = IsGoodEnd (back, outcome)

abbrev IsGoodOutcome : LabelKind × Forest → Type 0
IsGoodOutcome o = IsMadeTree o.1

good_plain : (bytes : List ℕ) (a : Reading Forest) → ReadsPlain bytes a → Yields IsMadeElement (as_plain a)
unfolding as_plain
good_plain bytes a h =
    yields_bind (IsPlainTree bytes) _ _ _ h.plain λ tree k. yields_gives _ (plain tree) (plain-made bytes tree k)

good_line_ending : Yields IsMadeElement line_ending
unfolding line_ending
good_line_ending =
    then_any _ _ _ λ c. yields_gives _ (plain (leaf Name.LineEnding c)) (made-leaf false Name.LineEnding c)

good_data_code : Yields IsMadeElement data_code
unfolding data_code
good_data_code = then_any _ _ _ λ c. yields_gives _ (plain (leaf Name.Data c)) (made-leaf false Name.Data c)

good_run : (marker : ℕ) → Yields IsMadeElement (attention_run marker)
unfolding attention_run
good_run marker =
    then_any _ _ _ λ markers. yields_gives _ (plain (leaf Name.AttentionSequence markers)) (made-leaf false Name.AttentionSequence markers)

good_outcome : (s : Setting) (l : Option Label) (back : List Code) → Yields IsGoodOutcome (outcome_of s l back)
good_outcome s l back = outcome_yields IsMadeTree refl s (makes_after_label s) l back

good_label_end : (s : Setting) (earlier : List Element) → Yields IsMadeElement (label_end s earlier)
unfolding label_end
good_label_end s earlier =
    yields_bind IsSome _ _ _ (one-gives _) λ back h.
    yields_either _ _ _ (yields_bind IsGoodOutcome _ _ _ (good_outcome s (label_before earlier) back) λ outcome k. yields_gives _ (ends back (Some outcome)) (h, k)) (yields_gives _ (ends back None) h)

good_text_element : (s : Setting) (end : ℕ) (earlier : List Element) (previous : Option Code) (cs : List Code) →
    PassesValue IsMadeElement (text_element s end earlier previous cs)
good_text_element s end earlier previous cs = text_has s end earlier previous (PassesValue IsMadeElement) cs each (good_data_code.at cs)
  where
    each : EachConstruct s end earlier previous (PassesValue IsMadeElement) cs
    each = record {
      none = tt;
      ending = good_line_ending.at cs;
      plain_has = λ a h. (good_plain s.bytes a h).at cs;
      stars = λ _. (good_run 42).at cs;
      underscores = λ _. (good_run 95).at cs;
      tildes = λ _. (good_run 126).at cs;
      starts_has = λ kind marker rest some whole. some-not-empty marker some.0;
      ended = (good_label_end s earlier).at cs;
    }

good_string_element : (s : Setting) (cs : List Code) → PassesValue IsMadeElement (string_element s cs)
good_string_element s cs =
    string_has (PassesValue IsMadeElement) tt cs s (λ a h. (good_plain s.bytes a h).at cs)
    ((yields_either IsMadeElement _ _ good_line_ending good_data_code).at cs)

abbrev pub AllGood : List Element → Type 0
AllGood es = AllAre IsMadeElement es

-- Groups of labels.

abbrev pub IsLabelled : Forest → Type 0
IsLabelled t = made true t ≡ true

-- what constructs make, among groups of labels
made-labelled-tree : (t : Forest) → IsMadeTree t → IsLabelled t
made-labelled-tree empty h = refl
made-labelled-tree (leaf_then name link cs rest) h =
    let p = and_parts (not (is_empty cs)) (not (is_email name) && made false rest) h in
    let q = and_parts (not (is_email name)) (made false rest) p.1 in
    λ i. p.0 i && (q.0 i && made-labelled-tree rest q.1 i)
made-labelled-tree (group_then name enter exit inside rest) h =
    let p = and_parts (reaches enter exit inside) (is_single name inside && (made false inside && made false rest)) h in
    let q = and_parts (is_single name inside) (made false inside && made false rest) p.1 in
    let r = and_parts (made false inside) (made false rest) q.1 in
    λ i. (ap (λ b. is_label_text name || b) p.0 ∙ or-true (is_label_text name)) i && (q.0 i && (made-labelled-tree inside r.0 i && made-labelled-tree rest r.1 i))

made-both : (a b : Forest) → IsLabelled a → IsLabelled b → IsLabelled (a ⊕ b)
made-both a b h k = made-join true a b ∙ (λ i. h i && k i)

single-label : (kind : LabelKind) (f : Forest) → is_single (label_name kind) f ≡ true
single-label kind f = grind arith

made-start : (kind : LabelKind) (c : Code) (cs : List Code) → IsLabelled (start_tree kind (start_marker kind (c ∷ cs)))
made-start kind c cs = grind (arith, made-group, made-leaf)

made-end : (back : List Code) → IsSome back → IsLabelled (group Name.LabelEnd (leaf Name.LabelMarker back))
made-end [] h = cc
made-end (c ∷ cs) h = made-group true Name.LabelEnd (leaf_then Name.LabelMarker None (c ∷ cs) empty) refl refl refl

start-some : (kind : LabelKind) (cs : List Code) (g : Forest) → is_nothing (start_tree kind cs ⊕ g) ≡ false
start-some kind cs g = grind arith

made-text : (a b : Point) (f : Forest) → IsLabelled f → IsLabelled (text_group Name.LabelText a b f)
made-text a b f h = λ i. h i && true

made-label : (kind : LabelKind) (marker : List Code) (inside : Forest) (back : List Code) (tail : Forest) →
    IsSome marker → IsLabelled inside → IsSome back → IsLabelled tail →
    IsLabelled (label_group kind marker inside back tail)
made-label kind [] inside back tail h k l m = cc
made-label kind (c ∷ cs) inside back tail h k l m =
    made-group true (label_name kind) (group Name.Label row ⊕ tail) (single-label kind (group Name.Label row ⊕ tail)) refl
    (made-both (group Name.Label row) tail (made-group true Name.Label row refl (start-some kind front rest) made-row) m)
  where
    front : List Code
    front = start_marker kind (c ∷ cs)

    text : Forest
    text = leaf Name.Data (drop (length front) (c ∷ cs)) ⊕ inside

    rest : Forest
    rest = text_group Name.LabelText (stop_of document_start front) (start_of back) text ⊕ group Name.LabelEnd (leaf Name.LabelMarker back)

    row : Forest
    row = start_tree kind front ⊕ rest

    made-row : IsLabelled row
    made-row = grind (arith, made-both, made-start, made-text, made-leaf, made-end)

made-labels : (es : List Element) → AllGood es → IsLabelled (labels_of es)
made-labels es h =
    labels-have IsLabelled IsMadeElement refl made-both made-labelled-tree (λ kind marker _. made-leaf true Name.Data marker) (λ marker outcome _. made-leaf true Name.Data marker)
    (λ kind marker inside back outcome m i e. made-label outcome.0 marker inside back outcome.1 m i e.0 (made-labelled-tree outcome.1 e.1)) es h

pub good-text : (s : Setting) (cs : List Code) → AllGood (elements_of s cs)
good-text s cs = grind (arith, all_are, good_text_element, text_elements s cs)

pub made-text-labels : (s : Setting) (cs : List Code) → IsLabelled (labels_of (elements_of s cs))
made-text-labels s cs = made-labels (elements_of s cs) (good-text s cs)

pub good-string : (s : Setting) (cs : List Code) → AllGood (string_elements_of s cs)
good-string s cs = grind (arith, all_are, good_string_element, string_elements s cs)

pub made-string-labels : (s : Setting) (cs : List Code) → IsLabelled (labels_of (string_elements_of s cs))
made-string-labels s cs = made-labels (string_elements_of s cs) (good-string s cs)
