-- What may follow the end of a label is nothing or one group, all data of which is linked.
use Rattle.std.proofs.Common.{◌≡◌, ℕ, Bool, true, false, ◌&&◌, not, Option, Some, None, List, [], ◌∷◌, refl}
use Rattle.std.proofs.lemmas.Bool.{both_ways}
use Rattle.markdown_content.specs.Codes.{Code, is_line_ending, is_blank}
use Rattle.markdown_content.specs.Tree.{Forest, empty, leaf_then, group_then, leaf, linked, ◌⊕◌}
use Rattle.markdown_event.specs.declared.event.Content.{Content}
use Rattle.markdown_event.specs.declared.event.Name.{Name}
use Rattle.markdown_event.specs.declared.event.Name.TheVariants as N
use Rattle.markdown_model.specs.CodeTests.{next_is}
use Rattle.markdown_model.specs.Grammar.{Reading, span, optional_tree}
use Rattle.markdown_model.specs.LabelEnd.{full_reference, collapsed_reference, shortcut, shortcut_before_bracket, reference_after_label, after_label}
use Rattle.markdown_model.specs.TextLines.{linked_leaf, line_leaf, lines_from, lines_of, lines}
use Rattle.markdown_model.specs.Resource.{StringNames, string_group, between_markers, label, reference_names, title, title_between, title_names, literal_destination, raw_destination, destination, resource_names, spaced_title, destination_and_title, resource}
use Rattle.markdown_model.specs.Setting.{Setting}
use Rattle.markdown_model.specs.Whitespace.{space_or_tab_eol, spaces_across, spaces_on_line}
use Rattle.markdown_model.proofs.NoLinkInConstructs.{Yields, yields_bind, yields_gives, yields_passed, yields_either, yields_before, yields_next, yields_unless, then_any}
use Rattle.markdown_passes.specs.DataOnLines.{HasLines}
use Rattle.markdown_passes.specs.MergedEvents.{is_data}
use Rattle.markdown_passes.specs.TrimmedEvents.{is_ending}
use Rattle.markdown_passes.proofs.DataOnLinesLemmas.{HasLines-row}
use Rattle.markdown_label.specs.AfterLabel.{IsSoundTail}

-- Leaves and groups.

some-none : {A : Type 0} (c : Content) → Some c ≡ None → A
some-none c e = cc

leaf-lines : (name : Name) (cs : List Code) → is_data name ≡ false → HasLines (leaf name cs)
leaf-lines name [] d = tt
leaf-lines name (c ∷ cs) d = (λ e l. absurd (both_ways (is_data name) d e), tt)

plain-lines : (name : Name) (link : Option Content) (cs : List Code) → is_data name ≡ false →
    HasLines (linked_leaf name link cs)
plain-lines name link [] d = tt
plain-lines name link (c ∷ cs) d = (λ e l. absurd (both_ways (is_data name) d e), tt)

linked-lines : (name : Name) (k : Content) (cs : List Code) → HasLines (linked_leaf name (Some k) cs)
linked-lines name k [] = tt
linked-lines name k (c ∷ cs) = (λ e l. some-none k l, tt)

string-leaf : (name : Name) (cs : List Code) → HasLines (linked name cs)
string-leaf name [] = tt
string-leaf name (c ∷ cs) = (λ e l. some-none _ l, tt)

line-lines : (name : Name) (k : Content) (s : List Code) → HasLines (line_leaf name (Some k) s)
line-lines name k s = by_test (next_is is_line_ending s)
  where
    by_test : (b : Bool) →
        HasLines (elim b as (λ _. Forest) [ true ↦ linked_leaf N.LineEnding (Some k) s | false ↦ linked_leaf name (Some k) s ])
    by_test true = linked-lines N.LineEnding k s
    by_test false = linked-lines name k s

from-lines : (name : Name) (k : Content) (later : Bool) (ss : List (List Code)) →
    HasLines (lines_from name (Some k) later ss)
from-lines name k later [] = tt
from-lines name k later (s ∷ ss) =
    elim (later && not (next_is is_line_ending s)) as (λ b. HasLines (elim b as (λ _. Forest) [ true ↦ linked_leaf N.SpaceOrTab (Some k) (span is_blank s).0 ⊕ linked_leaf name (Some k) (span is_blank s).1 ⊕ lines_from name (Some k) false ss | false ↦ line_leaf name (Some k) s ⊕ lines_from name (Some k) (next_is is_line_ending s) ss ])) [
      | true ↦ HasLines-row _ _ (linked-lines N.SpaceOrTab k (span is_blank s).0) (HasLines-row _ _ (linked-lines name k (span is_blank s).1) (from-lines name k false ss))
      | false ↦ HasLines-row _ _ (line-lines name k s) (from-lines name k (next_is is_line_ending s) ss)
    ]

string-lines : (name : Name) (f : Forest) → is_data name ≡ false → is_ending name ≡ false → HasLines f →
    HasLines (string_group name f)
string-lines name empty d e h = tt
string-lines name (leaf_then n l c r) d e h = ((d, e), (h, tt))
string-lines name (group_then n a b i r) d e h = ((d, e), (h, tt))

record PlainNames (names : StringNames) : Type 0 where
  whole : (is_data names.whole ≡ false) × (is_ending names.whole ≡ false)
  marker : is_data names.marker ≡ false
  text : (is_data names.text ≡ false) × (is_ending names.text ≡ false)

between-lines : (names : StringNames) → PlainNames names → (front text back : List Code) →
    HasLines (between_markers names front text back)
between-lines names k front text back =
    (k.whole, (HasLines-row _ _ (leaf-lines names.marker front k.marker) (HasLines-row _ _ (string-lines names.text (lines N.Data (Some Content.String) text) k.text.0 k.text.1 (from-lines N.Data Content.String false (lines_of text))) (leaf-lines names.marker back k.marker)), tt))

references-plain : PlainNames reference_names
references-plain = record { whole = (refl, refl); marker = refl; text = (refl, refl) }

titles-plain : PlainNames title_names
titles-plain = record { whole = (refl, refl); marker = refl; text = (refl, refl) }

-- Readings.

abbrev Lined : Reading Forest → Type 0
Lined a = Yields HasLines a

lined-optional : (a : Reading Forest) → Lined a → Lined (optional_tree a)
unfolding optional_tree
lined-optional a h = yields_either _ _ _ h (yields_gives _ _ tt)

lined-spacing : Lined (space_or_tab_eol None)
unfolding space_or_tab_eol spaces_across spaces_on_line
lined-spacing =
    yields_either _ _ _
    (then_any _ _ _ λ front. then_any _ _ _ λ ending. then_any _ _ _ λ back. yields_gives _ _ (HasLines-row _ _ (plain-lines N.SpaceOrTab None front refl) (HasLines-row _ _ (plain-lines N.LineEnding None ending refl) (plain-lines N.SpaceOrTab None back refl))))
    (then_any _ _ _ λ blank. yields_gives _ _ (plain-lines N.SpaceOrTab None blank refl))

sound-label : (characters : Bool) → Yields IsSoundTail (label characters reference_names)
unfolding label
sound-label characters =
    then_any _ _ _ λ front. then_any _ _ _ λ text. yields_passed _ _ _ (yields_passed _ _ _ (then_any _ _ _ λ back. yields_passed _ _ _ (yields_gives _ _ (record { tail = (refl, refl); lines = between-lines reference_names references-plain front text back }))))

lined-between : (both : Bool) (opener closer : ℕ) → Lined (title_between both opener closer title_names)
unfolding title_between
lined-between both opener closer =
    then_any _ _ _ λ front. then_any _ _ _ λ text. then_any _ _ _ λ back. yields_passed _ _ _ (yields_gives _ _ (between-lines title_names titles-plain front text back))

lined-title : (both : Bool) → Lined (title both title_names)
unfolding title
lined-title both = yields_either _ _ _ (lined-between _ _ _) (yields_either _ _ _ (lined-between _ _ _) (lined-between _ _ _))

lined-literal : Lined (literal_destination resource_names)
unfolding literal_destination
lined-literal =
    then_any _ _ _ λ front. then_any _ _ _ λ text. then_any _ _ _ λ back. yields_gives _ _
    ((refl, refl), (((refl, refl), (HasLines-row _ _ (leaf-lines N.ResourceDestinationLiteralMarker front refl) (HasLines-row _ _ (string-lines N.ResourceDestinationString (linked N.Data text) refl refl (string-leaf N.Data text)) (leaf-lines N.ResourceDestinationLiteralMarker back refl)), tt)), tt))

lined-raw : (max : ℕ) → Lined (raw_destination max resource_names)
unfolding raw_destination
lined-raw max =
    then_any _ _ _ λ text. yields_passed _ _ _ (yields_gives _ _ ((refl, refl), (((refl, refl), (((refl, refl), (string-leaf N.Data text, tt)), tt)), tt)))

lined-destination : (max : ℕ) → Lined (destination max resource_names)
unfolding destination
lined-destination max = yields_next _ _ _ _ lined-literal (lined-raw max)

lined-spaced : (both : Bool) → Lined (spaced_title both)
unfolding spaced_title
lined-spaced both =
    yields_bind HasLines _ _ _ (yields_before _ _ _ lined-spacing) λ space h. yields_bind HasLines _ _ _ (lined-title both) λ text k.
    yields_bind HasLines _ _ _ (lined-optional _ lined-spacing) λ back l. yields_gives _ _ (HasLines-row space (text ⊕ back) h (HasLines-row text back k l))

lined-both : (both : Bool) → Lined (destination_and_title both)
unfolding destination_and_title
lined-both both =
    yields_bind HasLines _ _ _ (lined-destination 32) λ target h.
    yields_bind HasLines _ _ _ (yields_either _ _ _ (lined-spaced both) (lined-optional _ lined-spacing)) λ after k. yields_gives _ _ (HasLines-row target after h k)

-- What may follow a label.

sound-resource : (both : Bool) → Yields IsSoundTail (resource both)
unfolding resource
sound-resource both =
    then_any _ _ _ λ front. yields_bind HasLines _ _ _ (lined-optional _ lined-spacing) λ space h.
    yields_bind HasLines _ _ _ (yields_next _ _ _ _ (yields_gives _ _ tt) (lined-both both)) λ inside k.
    then_any _ _ _ λ back. yields_gives _ _
    (record {
      tail = (refl, refl);
      lines = ((refl, refl), (HasLines-row _ _ (leaf-lines N.ResourceMarker front refl) (HasLines-row space _ h (HasLines-row inside _ k (leaf-lines N.ResourceMarker back refl))), tt));
    })

sound-full : (s : Setting) → Yields IsSoundTail (full_reference s)
unfolding full_reference
sound-full s = yields_bind IsSoundTail _ _ _ (sound-label _) λ tree h. yields_passed _ _ _ (yields_gives _ tree h)

sound-collapsed : Yields IsSoundTail collapsed_reference
unfolding collapsed_reference
sound-collapsed =
    then_any _ _ _ λ front. then_any _ _ _ λ back. yields_gives _ _
    (record { tail = (refl, refl); lines = ((refl, refl), (HasLines-row _ _ (leaf-lines N.ReferenceMarker front refl) (leaf-lines N.ReferenceMarker back refl), tt)) })

sound-shortcut : (defined : Bool) → Yields IsSoundTail (shortcut defined)
unfolding shortcut
sound-shortcut defined = yields_passed _ _ _ (yields_gives _ empty (record { tail = tt; lines = tt }))

pub sound-after : (s : Setting) (defined : Bool) → Yields IsSoundTail (after_label s defined)
unfolding after_label reference_after_label shortcut_before_bracket
sound-after s defined =
    yields_next _ _ _ _ (yields_either _ _ _ (sound-resource _) (sound-shortcut defined))
    (yields_next _ _ _ _ (yields_either _ _ _ (sound-full s) (yields_either _ _ _ (yields_passed _ _ _ sound-collapsed) (yields_unless _ _ _ (sound-shortcut _)))) (sound-shortcut defined))
