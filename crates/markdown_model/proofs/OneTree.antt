-- A content has exactly one inline tree, whose leaves cover it and whose events nest.
use Rattle.std.proofs.Common.{◌≡◌, ℕ, ◌+◌, Bool, true, false, List, [], ◌∷◌, ◌++◌, refl, sym, ◌∙◌, ap, subst, Option, Some, None, arith}
use Rattle.std.proofs.lemmas.List.{append_assoc, append-nil}
use mathlib.Core.Path.{fun_ext}
use Rattle.markdown_event.specs.declared.event.Name.{Name}
use Rattle.markdown_event.specs.declared.event.Event.{Event}
use Rattle.markdown_content.specs.Codes.{Code}
use Rattle.markdown_content.specs.Tree.{Forest, empty, leaf_then, group_then, leaf_codes, event_count, events_from, events_of}
use Rattle.markdown_model.specs.Grammar.{Reading}
use Rattle.markdown_content.specs.declared.configuration.Rules.{Rules}
use Rattle.markdown_model.specs.Setting.{Setting, rules, within}
use Rattle.markdown_model.specs.LabelEnd.{Element}
use Rattle.markdown_model.specs.Elements.{elements_of, string_elements_of, text_choice, string_choice}
use Rattle.markdown_model.specs.Runs.{Run}
use Rattle.markdown_model.specs.Pairs.{Pair, pair_list}
use Rattle.markdown_model.specs.Passes.{breaks, no_breaks, labels_of, merged, trimmed, with_emails_apart}
use Rattle.markdown_model.specs.InlineTree.{IsTextTree, IsStringTree, raw_tree, finished_text, finished_string, text_tree, string_tree, paired_whole}
use Rattle.markdown_model.specs.Laws.{OnePairList, OneElementList, OneTree, AreNestedIn, EventsNest, LeavesCover, HasOneEnd, OneEnd}
use Rattle.markdown_model.proofs.ReadingsCover.{At, Covers, covers_label, covers_title, covers_destination, covers_resource}
use Rattle.markdown_model.proofs.PassesKeepCodes.{codes-merged, codes-trimmed, codes-mailed, codes-paired}
use Rattle.markdown_model.proofs.LabelsCover.{elements_codes, codes-labels_of, covers_after_label, unused}
use Rattle.markdown_model.proofs.ElementsCover.{codes-elements, covers_text_element, covers_string_element}
use Rattle.markdown_model.proofs.OneElementList.{text_elements, same_text_elements, string_elements, same_string_elements}
use Rattle.markdown_model.proofs.OnePairList.{same_pair_list, some_pair_list}

pub one_pair_list : OnePairList
one_pair_list s runs =
    (some_pair_list s runs, λ pairs h. same_pair_list s runs pairs (pair_list s runs) h (some_pair_list s runs))

pub one_element_list : OneElementList
one_element_list s cs = (
  (text_elements s cs, λ es h. same_text_elements s cs es (elements_of s cs) h (text_elements s cs)),
  (string_elements s cs, λ es h. same_string_elements s cs es (string_elements_of s cs) h (string_elements s cs)),
)

-- Trees.

the_text_tree : (s : Setting) (cs : List Code) → IsTextTree s cs (text_tree s cs)
unfolding text_tree
the_text_tree s cs =
    record { elements = elements_of s cs; pairs_of = pair_list s; are_elements = text_elements s cs; are_pairs = some_pair_list s; finished = refl }

the_string_tree : (s : Setting) (cs : List Code) → IsStringTree s cs (string_tree s cs)
unfolding string_tree
the_string_tree s cs =
    record { elements = string_elements_of s cs; are_elements = string_elements s cs; finished = refl }

same_text_tree : (s : Setting) (cs : List Code) (t u : Forest) → IsTextTree s cs t → IsTextTree s cs u → t ≡ u
same_text_tree s cs t u a b = a.finished ∙ (λ i. finished_text s (pairs i) (elements i)) ∙ sym b.finished
  where
    elements : a.elements ≡ b.elements
    elements = same_text_elements s cs a.elements b.elements a.are_elements b.are_elements

    pairs : a.pairs_of ≡ b.pairs_of
    pairs = fun_ext (λ runs. same_pair_list s runs (a.pairs_of runs) (b.pairs_of runs) (a.are_pairs runs) (b.are_pairs runs))

same_string_tree : (s : Setting) (cs : List Code) (t u : Forest) → IsStringTree s cs t → IsStringTree s cs u → t ≡ u
same_string_tree s cs t u a b =
    a.finished ∙ ap (finished_string (rules s)) (same_string_elements s cs a.elements b.elements a.are_elements b.are_elements) ∙ sym b.finished

pub one_tree : OneTree
one_tree s cs = (
  (the_text_tree s cs, λ tree h. same_text_tree s cs tree (text_tree s cs) h (the_text_tree s cs)),
  (the_string_tree s cs, λ tree h. same_string_tree s cs tree (string_tree s cs) h (the_string_tree s cs)),
)

-- Leaves.

codes-of_elements : (s : Setting) (cs : List Code) → elements_codes 0 (elements_of s cs) ≡ cs
codes-of_elements s cs =
    codes-elements (text_choice s cs) (λ earlier previous. covers_text_element (within cs s) _ earlier previous) (elements_of s cs) [] None cs (text_elements s cs)

codes-of_string_elements : (s : Setting) (cs : List Code) → elements_codes 0 (string_elements_of s cs) ≡ cs
codes-of_string_elements s cs =
    codes-elements (string_choice s) (λ earlier previous. covers_string_element s (unused earlier)) (string_elements_of s cs) [] None cs (string_elements s cs)

pub codes-finished_text : (s : Setting) (pairs_of : List Run → List Pair) (es : List Element) →
    leaf_codes (finished_text s pairs_of es) ≡ elements_codes 0 es
unfolding finished_text raw_tree
codes-finished_text s pairs_of es = by_test s.options.constructs.gfm_autolink_literal ∙ codes-trimmed _ true true _ ∙ codes-merged _ ∙ codes-paired (within (leaf_codes (labels_of es)) s) pairs_of _ ∙ codes-labels_of es
  where
    trimmed_tree : Forest
    trimmed_tree =
        trimmed (breaks s) true true (merged (paired_whole s pairs_of (labels_of es)))

    by_test : (b : Bool) →
        leaf_codes (elim b [ true ↦ with_emails_apart trimmed_tree | false ↦ trimmed_tree ]) ≡ leaf_codes trimmed_tree
    by_test true = codes-mailed trimmed_tree
    by_test false = refl

pub codes-finished_string : (rules : Rules) (es : List Element) → leaf_codes (finished_string rules es) ≡ elements_codes 0 es
unfolding finished_string
codes-finished_string rules es = codes-trimmed (no_breaks rules) false false _ ∙ codes-merged _ ∙ codes-labels_of es

pub leaves_cover : LeavesCover
unfolding text_tree string_tree
leaves_cover s cs = grind (arith, codes-finished_text, codes-of_elements, codes-finished_string, codes-of_string_elements)

-- Events.

-- the events of a row leave what is open as it was
nest_before : (n : ℕ) (previous : Option ℕ) (tree : Forest) (outer : List Name) (more : List Event) →
    AreNestedIn outer more → AreNestedIn outer (events_from n previous tree ++ more)
nest_before n previous empty outer more h = h
nest_before n previous (leaf_then name None codes rest) outer more h =
    (outer, refl, nest_before (n + 2) previous rest outer more h)
nest_before n previous (leaf_then name (Some content) codes rest) outer more h =
    (outer, refl, nest_before (n + 2) (Some n) rest outer more h)
nest_before n previous (group_then name enter exit inside rest) outer more h =
    subst (λ es. AreNestedIn (name ∷ outer) es) (sym (append_assoc (events_from (n + 1) None inside) _ more))
    (nest_before (n + 1) None inside (name ∷ outer) _ (outer, refl, nest_before (n + 2 + event_count inside) previous rest outer more h))

pub events_nest : EventsNest
events_nest tree = subst (λ es. AreNestedIn [] es) (append-nil (events_of tree)) (nest_before 0 None tree [] [] refl)

-- Ends.

one_end_of : (a : Reading Forest) → Covers leaf_codes [] a → HasOneEnd a
one_end_of a h cs tree other rest more x y = (ap trees both, ap rests both, covered (a cs) x (h.at cs))
  where
    trees : Forest × List Code → Forest
    trees r = r.0

    rests : Forest × List Code → List Code
    rests r = r.1

    read : Option (Forest × List Code) → Forest × List Code
    read None = (tree, rest)
    read (Some r) = r

    both : ◌≡◌ {A = Forest × List Code} (tree, rest) (other, more)
    both = ap read (sym x ∙ y)

    covered : (r : Option (Forest × List Code)) → r ≡ Some (tree, rest) → At leaf_codes [] cs r →
        leaf_codes tree ++ rest ≡ cs
    covered r e k = subst (λ z. At leaf_codes [] cs z) e k

pub one_end : OneEnd
one_end = grind (arith, one_end_of, covers_label, covers_title, covers_destination, covers_resource, covers_after_label)
