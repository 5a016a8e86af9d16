-- No construct reads a run, the text of a label, a link or a footnote call, and none that stands by itself a linked leaf.
use Rattle.std.proofs.Common.{◌≡◌, ℕ, Bool, true, false, ◌&&◌, ◌||◌, not, List, [], ◌∷◌, refl, sym, ◌∙◌, ap, Option, Some, None, arith}
use Rattle.std.proofs.lemmas.Bool.{or_parts}
use Rattle.std.proofs.Math.Bool.{and-true, and-false, or-false}
use Rattle.markdown_event.specs.declared.event.Name.{Name}
use Rattle.markdown_event.specs.declared.event.Content.{Content}
use Rattle.markdown_content.specs.Codes.{Code}
use Rattle.markdown_content.specs.Tree.{Forest, empty, leaf_then, group_then, leaf, linked, ◌⊕◌}
use Rattle.markdown_model.specs.CodeTests.{is_empty}
use Rattle.markdown_model.specs.Grammar.{Reading, optional_tree}
use Rattle.markdown_model.specs.TextLines.{linked_leaf, lines}
use Rattle.markdown_model.specs.Whitespace.{space_or_tab_eol, spaces_across, spaces_on_line}
use Rattle.markdown_model.specs.Resource.{string_group, label, reference_names, title, title_between, title_names, literal_destination, raw_destination, destination, resource_names, spaced_title, destination_and_title, resource}
use Rattle.markdown_model.specs.Setting.{Setting}
use Rattle.markdown_model.specs.LabelEnd.{full_reference, collapsed_reference, shortcut, shortcut_before_bracket, reference_after_label, after_label}
use Rattle.markdown_model.specs.Laws.{is_link, is_run, holds_link}
use Rattle.markdown_model.proofs.LeafRows.{Leaves, leaves-lines}
use Rattle.markdown_model.proofs.NoLinkInConstructs.{Yields, yields_bind, yields_gives, yields_passed, yields_either, yields_before, yields_next, yields_unless, then_any, or_assoc}
use Rattle.markdown_model.proofs.PlainConstructs.{is_own, leaf-own, group-own, IsOwnLeaf, IsPlainTree}

abbrev pub is_text : Name → Bool
is_text Name.LabelText = true
is_text _ = false

abbrev pub is_mark : Name → Bool
is_mark name = (is_run name || is_text name) || is_link name

abbrev pub is_linked : Option Content → Bool
is_linked None = false
is_linked (Some c) = true

-- a run, the text of a label, a link or a footnote call stands in a row or inside it; where `strict`, so counts a linked leaf
abbrev pub marks : Bool → Forest → Bool
marks strict empty = false
marks strict (leaf_then name link cs rest) = (is_mark name || (is_linked link && strict)) || marks strict rest
marks strict (group_then name enter exit inside rest) = is_mark name || (marks strict inside || marks strict rest)

abbrev pub IsQuiet : Bool → Forest → Type 0
IsQuiet strict t = marks strict t ≡ false

-- so no link does
pub quiet-free : (b : Bool) (t : Forest) → marks b t ≡ false → holds_link t ≡ false
quiet-free b empty h = refl
quiet-free b (leaf_then name link cs rest) h =
    quiet-free b rest (or_parts (is_mark name || (is_linked link && b)) (marks b rest) h).1
quiet-free b (group_then name enter exit inside rest) h =
    let p = or_parts (is_mark name) (marks b inside || marks b rest) h in
    let q = or_parts (marks b inside) (marks b rest) p.1 in
    λ i. (or_parts (is_run name || is_text name) (is_link name) p.0).1 i || (quiet-free b inside q.0 i || quiet-free b rest q.1 i)

module _ (b : Bool) where
  pub marks-join : (x y : Forest) → marks b (x ⊕ y) ≡ (marks b x || marks b y)
  marks-join empty y = refl
  marks-join (leaf_then name link cs rest) y =
      ap (λ x. (is_mark name || (is_linked link && b)) || x) (marks-join rest y) ∙ sym (or_assoc (is_mark name || (is_linked link && b)) (marks b rest) (marks b y))
  marks-join (group_then name enter exit inside rest) y =
      ap (λ x. is_mark name || (marks b inside || x)) (marks-join rest y)
      ∙ ap (λ x. is_mark name || x) (sym (or_assoc (marks b inside) (marks b rest) (marks b y)))
      ∙ sym (or_assoc (is_mark name) (marks b inside || marks b rest) (marks b y))

  pub marks-linked_leaf : (name : Name) (link : Option Content) (cs : List Code) →
      marks b (linked_leaf name link cs) ≡ ((is_mark name || (is_linked link && b)) && not (is_empty cs))
  marks-linked_leaf name link [] = sym (and-false (is_mark name || (is_linked link && b)))
  marks-linked_leaf name link (c ∷ cs) =
      or-false (is_mark name || (is_linked link && b)) ∙ sym (and-true (is_mark name || (is_linked link && b)))

  pub marks-leaf : (name : Name) (cs : List Code) → marks b (leaf name cs) ≡ (is_mark name && not (is_empty cs))
  marks-leaf name [] = sym (and-false (is_mark name))
  marks-leaf name (c ∷ cs) = or-false (is_mark name || false) ∙ or-false (is_mark name) ∙ sym (and-true (is_mark name))

  pub marks-linked : (name : Name) (cs : List Code) →
      marks b (linked name cs) ≡ ((is_mark name || b) && not (is_empty cs))
  marks-linked name [] = sym (and-false (is_mark name || b))
  marks-linked name (c ∷ cs) = or-false (is_mark name || b) ∙ sym (and-true (is_mark name || b))

  quiet-string_group : (name : Name) (f : Forest) → is_mark name ≡ false → marks b (string_group name f) ≡ marks b f
  quiet-string_group name empty h = refl
  quiet-string_group name (leaf_then n l c r) h = (λ i. h i || or-false (marks b (leaf_then n l c r)) i)
  quiet-string_group name (group_then n x y i r) h = (λ k. h k || or-false (marks b (group_then n x y i r)) k)

  pub marks-reference_string : (f : Forest) → marks b (string_group Name.ReferenceString f) ≡ marks b f
  marks-reference_string f = quiet-string_group Name.ReferenceString f refl

  pub marks-title_string : (f : Forest) → marks b (string_group Name.ResourceTitleString f) ≡ marks b f
  marks-title_string f = quiet-string_group Name.ResourceTitleString f refl

  pub marks-destination_string : (f : Forest) → marks b (string_group Name.ResourceDestinationString f) ≡ marks b f
  marks-destination_string f = quiet-string_group Name.ResourceDestinationString f refl

-- of leaves, by each of them
rows-quiet : (t : Forest) → Leaves (λ name link cs. is_mark name ≡ false) t → IsQuiet false t
rows-quiet empty h = refl
rows-quiet (leaf_then name link cs rest) h =
    (λ i. (h.0 i || is_linked link && false) || rows-quiet rest h.1 i) ∙ ap (λ x. x || false) (and-false (is_linked link))
rows-quiet (group_then name enter exit inside rest) h = absurd h

pub marks-data_lines : (cs : List Code) → marks false (lines Name.Data (Some Content.String) cs) ≡ false
marks-data_lines cs =
    rows-quiet _ (leaves-lines _ Name.Data (Some Content.String) (λ s _. refl) (λ s _ _. refl) (λ s _. refl) cs)

pub ruleset mark_laws =
    (marks-reference_string, marks-title_string, marks-destination_string, marks-join, marks-leaf, marks-linked, marks-linked_leaf, marks-data_lines)

-- What stands by itself.

own-unmarked : (name : Name) → is_own name ≡ true → is_mark name ≡ false
own-unmarked Name.AttentionSequence e = cc
own-unmarked Name.LabelText e = cc
own-unmarked Name.Link e = cc
own-unmarked Name.GfmFootnoteCall e = cc
own-unmarked _ e = refl

leaves-quiet : (bytes : List ℕ) (t : Forest) → Leaves (IsOwnLeaf bytes) t → IsQuiet true t
leaves-quiet bytes empty h = refl
leaves-quiet bytes (leaf_then name link cs rest) h =
    λ i. (own-unmarked name (leaf-own name h.0.named) i || (is_linked (h.0.unlinked i) && true)) || leaves-quiet bytes rest h.1 i
leaves-quiet bytes (group_then name enter exit inside rest) h = absurd h

pub plain-quiet : (bytes : List ℕ) (t : Forest) → IsPlainTree bytes t → IsQuiet true t
plain-quiet bytes empty h = absurd h
plain-quiet bytes (leaf_then name link cs rest) h =
    λ i. (own-unmarked name (leaf-own name h.0.named) i || (is_linked (h.0.unlinked i) && true)) || marks true (h.1 i)
plain-quiet bytes (group_then name enter exit inside rest) h =
    λ i. own-unmarked name (group-own name h.0.named) i || (leaves-quiet bytes inside h.0.leaves i || marks true (h.1 i))

-- What may follow a label.

abbrev pub TailFree : Reading Forest → Type 0
TailFree a = Yields (IsQuiet false) a

quiet_optional : (a : Reading Forest) → TailFree a → TailFree (optional_tree a)
unfolding optional_tree
quiet_optional a h = yields_either _ _ _ h (yields_gives _ _ refl)

quiet_spacing : TailFree (space_or_tab_eol None)
unfolding space_or_tab_eol spaces_across spaces_on_line
quiet_spacing = yields_either _ _ _
    (then_any _ _ _ λ front. then_any _ _ _ λ ending. then_any _ _ _ λ back. yields_gives _ _ (simp mark_laws))
    (then_any _ _ _ λ blank. yields_gives _ _ (simp mark_laws))

quiet_label : (characters : Bool) → TailFree (label characters reference_names)
unfolding label
quiet_label characters =
    then_any _ _ _ λ front. then_any _ _ _ λ text. yields_passed _ _ _ (yields_passed _ _ _ (then_any _ _ _ λ back. yields_passed _ _ _ (yields_gives _ _ (simp mark_laws))))

quiet_title_between : (both : Bool) (opener closer : ℕ) → TailFree (title_between both opener closer title_names)
unfolding title_between
quiet_title_between both opener closer =
    then_any _ _ _ λ front. then_any _ _ _ λ text. then_any _ _ _ λ back. yields_passed _ _ _ (yields_gives _ _ (simp mark_laws))

quiet_title : (both : Bool) → TailFree (title both title_names)
unfolding title
quiet_title both =
    yields_either _ _ _ (quiet_title_between _ _ _) (yields_either _ _ _ (quiet_title_between _ _ _) (quiet_title_between _ _ _))

quiet_literal_destination : TailFree (literal_destination resource_names)
unfolding literal_destination
quiet_literal_destination =
    then_any _ _ _ λ front. then_any _ _ _ λ text. then_any _ _ _ λ back. yields_gives _ _ (simp mark_laws)

quiet_raw_destination : (max : ℕ) → TailFree (raw_destination max resource_names)
unfolding raw_destination
quiet_raw_destination max = then_any _ _ _ λ text. yields_passed _ _ _ (yields_gives _ _ (simp mark_laws))

quiet_destination : (max : ℕ) → TailFree (destination max resource_names)
unfolding destination
quiet_destination max = yields_next _ _ _ _ quiet_literal_destination (quiet_raw_destination max)

quiet_spaced_title : (both : Bool) → TailFree (spaced_title both)
unfolding spaced_title
quiet_spaced_title both =
    yields_bind (IsQuiet false) _ _ _ (yields_before _ _ _ quiet_spacing) λ space h. yields_bind (IsQuiet false) _ _ _ (quiet_title both) λ text k.
    yields_bind (IsQuiet false) _ _ _ (quiet_optional _ quiet_spacing) λ back l. yields_gives _ _ (simp (mark_laws, h, k, l))

quiet_destination_and_title : (both : Bool) → TailFree (destination_and_title both)
unfolding destination_and_title
quiet_destination_and_title both =
    yields_bind (IsQuiet false) _ _ _ (quiet_destination 32) λ target h.
    yields_bind (IsQuiet false) _ _ _ (yields_either _ _ _ (quiet_spaced_title both) (quiet_optional _ quiet_spacing)) λ after k. yields_gives _ _ (simp (mark_laws, h, k))

quiet_resource : (both : Bool) → TailFree (resource both)
unfolding resource
quiet_resource both =
    then_any _ _ _ λ front. yields_bind (IsQuiet false) _ _ _ (quiet_optional _ quiet_spacing) λ space h.
    yields_bind (IsQuiet false) _ _ _ (yields_next _ _ _ _ (yields_gives _ _ refl) (quiet_destination_and_title both)) λ inside k.
    then_any _ _ _ λ back. yields_gives _ _ (simp (mark_laws, h, k))

quiet_full_reference : (s : Setting) → TailFree (full_reference s)
unfolding full_reference
quiet_full_reference s =
    yields_bind (IsQuiet false) _ _ _ (quiet_label _) λ tree h. yields_passed _ _ _ (yields_gives _ _ h)

quiet_collapsed_reference : TailFree collapsed_reference
unfolding collapsed_reference
quiet_collapsed_reference = then_any _ _ _ λ front. then_any _ _ _ λ back. yields_gives _ _ (simp mark_laws)

quiet_shortcut : (defined : Bool) → TailFree (shortcut defined)
unfolding shortcut
quiet_shortcut defined = yields_passed _ _ _ (yields_gives _ _ refl)

pub quiet_after_label : (s : Setting) (defined : Bool) → TailFree (after_label s defined)
unfolding after_label reference_after_label shortcut_before_bracket
quiet_after_label s defined = grind (arith, yields_next, yields_either, quiet_resource, quiet_shortcut, quiet_full_reference, yields_passed, quiet_collapsed_reference, yields_unless)
