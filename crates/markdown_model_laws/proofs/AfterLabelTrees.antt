-- What follows a label, read: what holds of its leaves, and passes to rows and groups of them, holds of the whole.
use Rattle.std.proofs.Common.{◌≡◌, ℕ, Bool, false, List, Some, None, refl, arith}
use Rattle.std.proofs.lemmas.Bool.{not-true}
use Rattle.markdown_event.specs.declared.event.Name.TheVariants as N
use Rattle.markdown_event.specs.declared.event.Content.{Content}
use Rattle.markdown_content.specs.Codes.{Code}
use Rattle.markdown_content.specs.Tree.{Forest, empty, leaf, linked, group, ◌⊕◌}
use Rattle.markdown_model.specs.CodeTests.{is_empty}
use Rattle.markdown_model.specs.Grammar.{Reading, one, optional_tree}
use Rattle.markdown_model.specs.LabelEnd.{full_reference, collapsed_reference, shortcut, shortcut_before_bracket, reference_after_label, after_label}
use Rattle.markdown_model.specs.Passes.{is_nothing}
use Rattle.markdown_model.specs.Resource.{string_group, label, title_between, title, title_names, literal_destination, raw_destination, destination, resource_names, spaced_title, destination_and_title, resource, reference_names}
use Rattle.markdown_model.specs.Setting.{Setting}
use Rattle.markdown_model.specs.TextLines.{linked_leaf, lines}
use Rattle.markdown_model.specs.Whitespace.{space_or_tab_eol, spaces_across, spaces_on_line}
use Rattle.markdown_model.proofs.DefinitionSteps.{read-codes, read-shorter}
use Rattle.markdown_model.proofs.LinksDoNotNest.{yields_passed_if}
use Rattle.markdown_model.proofs.NoLinkInConstructs.{Yields, yields_bind, yields_gives, yields_passed, yields_either, yields_before, yields_next, yields_unless, then_any}
use Rattle.markdown_model.proofs.ReadingsCover.{Takes, takes_one}
use Rattle.markdown_model.proofs.ReadsACode.{Consumes, one_takes}

abbrev pub IsSome : List Code → Type 0
IsSome cs = is_empty cs ≡ false

-- a reading that takes a code at least gives one
gives-some : (a : Reading (List Code)) → Takes a → Consumes 1 a → Yields IsSome a
gives-some a h k = grind (arith, read-codes, read-shorter)

pub one-gives : (p : Code → Bool) → Yields IsSome (one p)
one-gives p = gives-some (one p) (takes_one p) (one_takes p)

-- what is asked of leaves, of rows and of groups: one that begins with a marker has a code of it
pub record PassesAfterLabels (P : Forest → Type 0) : Type 0 where
  pub none : P empty
  pub rows : (t u : Forest) → P t → P u → P (t ⊕ u)
  pub space : (cs : List Code) → P (linked_leaf N.SpaceOrTab None cs)
  pub ending : (cs : List Code) → P (linked_leaf N.LineEnding None cs)
  pub label : (front : List Code) (f : Forest) → IsSome front → P f → P (group N.Reference (leaf N.ReferenceMarker front ⊕ f))
  pub label_text : (cs : List Code) → P (string_group N.ReferenceString (lines N.Data (Some Content.String) cs))
  pub label_end : (cs : List Code) → P (leaf N.ReferenceMarker cs)
  pub titled : (front : List Code) (f : Forest) → IsSome front → P f → P (group N.ResourceTitle (leaf N.ResourceTitleMarker front ⊕ f))
  pub title_text : (cs : List Code) → P (string_group N.ResourceTitleString (lines N.Data (Some Content.String) cs))
  pub title_end : (cs : List Code) → P (leaf N.ResourceTitleMarker cs)
  pub literal : (front : List Code) (f : Forest) → IsSome front → P f
      → P (group N.ResourceDestinationLiteral (leaf N.ResourceDestinationLiteralMarker front ⊕ f))
  pub literal_text : (cs : List Code) → P (string_group N.ResourceDestinationString (linked N.Data cs))
  pub literal_end : (cs : List Code) → P (leaf N.ResourceDestinationLiteralMarker cs)
  pub raw : (cs : List Code) → IsSome cs → P (group N.ResourceDestinationRaw (group N.ResourceDestinationString (linked N.Data cs)))
  pub target : (f : Forest) → is_nothing f ≡ false → P f → P (group N.ResourceDestination f)
  pub whole : (front : List Code) (f : Forest) → IsSome front → P f → P (group N.Resource (leaf N.ResourceMarker front ⊕ f))
  pub whole_end : (cs : List Code) → P (leaf N.ResourceMarker cs)

module _ (P : Forest → Type 0) (h : PassesAfterLabels P) where
  of_optional : (a : Reading Forest) → Yields P a → Yields P (optional_tree a)
  unfolding optional_tree
  of_optional a k = yields_either _ _ _ k (yields_gives _ _ h.none)

  of_spacing : Yields P (space_or_tab_eol None)
  unfolding space_or_tab_eol spaces_across spaces_on_line
  of_spacing = yields_either _ _ _
      (then_any _ _ _ λ front. then_any _ _ _ λ ending. then_any _ _ _ λ back. yields_gives _ _
      (h.rows (linked_leaf N.SpaceOrTab None front) _ (h.space front) (h.rows (linked_leaf N.LineEnding None ending) _ (h.ending ending) (h.space back))))
      (then_any _ _ _ λ blank. yields_gives _ _ (h.space blank))

  of_label : (characters : Bool) → Yields P (label characters reference_names)
  unfolding label
  of_label characters =
      yields_bind IsSome _ _ _ (one-gives _) λ front e. then_any _ _ _ λ text. yields_passed _ _ _ (yields_passed _ _ _ (then_any _ _ _ λ back. yields_passed _ _ _
      (yields_gives _ _ (h.label front _ e (h.rows (string_group N.ReferenceString (lines N.Data (Some Content.String) text)) _ (h.label_text text) (h.label_end back))))))

  of_title_between : (both : Bool) (opener closer : ℕ) → Yields P (title_between both opener closer title_names)
  unfolding title_between
  of_title_between both opener closer =
      yields_bind IsSome _ _ _ (one-gives _) λ front e. then_any _ _ _ λ text. then_any _ _ _ λ back. yields_passed _ _ _
      (yields_gives _ _ (h.titled front _ e (h.rows (string_group N.ResourceTitleString (lines N.Data (Some Content.String) text)) _ (h.title_text text) (h.title_end back))))

  of_title : (both : Bool) → Yields P (title both title_names)
  unfolding title
  of_title both =
      yields_either _ _ _ (of_title_between _ _ _) (yields_either _ _ _ (of_title_between _ _ _) (of_title_between _ _ _))

  of_literal_destination : Yields P (literal_destination resource_names)
  unfolding literal_destination
  of_literal_destination =
      yields_bind IsSome _ _ _ (one-gives _) λ front e. then_any _ _ _ λ text. then_any _ _ _ λ back. yields_gives _ _
      (h.target _ refl (h.literal front _ e (h.rows (string_group N.ResourceDestinationString (linked N.Data text)) _ (h.literal_text text) (h.literal_end back))))

  of_raw_destination : (max : ℕ) → Yields P (raw_destination max resource_names)
  unfolding raw_destination
  of_raw_destination max =
      then_any _ _ _ λ text. yields_passed_if _ _ _ λ e. yields_gives _ _ (h.target _ refl (h.raw text (not-true (is_empty text) e)))

  of_spaced_title : (both : Bool) → Yields P (spaced_title both)
  unfolding spaced_title
  of_spaced_title both =
      yields_bind P _ _ _ (yields_before _ _ _ of_spacing) λ space k. yields_bind P _ _ _ (of_title both) λ text l.
      yields_bind P _ _ _ (of_optional _ of_spacing) λ back m. yields_gives _ _ (h.rows space _ k (h.rows text back l m))

  of_destination_and_title : (both : Bool) → Yields P (destination_and_title both)
  unfolding destination_and_title destination
  of_destination_and_title both =
      yields_bind P _ _ _ (yields_next _ _ _ _ of_literal_destination (of_raw_destination 32)) λ to k.
      yields_bind P _ _ _ (yields_either _ _ _ (of_spaced_title both) (of_optional _ of_spacing)) λ after l. yields_gives _ _ (h.rows to after k l)

  of_resource : (both : Bool) → Yields P (resource both)
  unfolding resource
  of_resource both =
      yields_bind IsSome _ _ _ (one-gives _) λ front e. yields_bind P _ _ _ (of_optional _ of_spacing) λ space k.
      yields_bind P _ _ _ (yields_next _ _ _ _ (yields_gives _ _ h.none) (of_destination_and_title both)) λ inside l. then_any _ _ _ λ back. yields_gives _ _
      (h.whole front _ e (h.rows space _ k (h.rows inside _ l (h.whole_end back))))

  of_full_reference : (s : Setting) → Yields P (full_reference s)
  unfolding full_reference
  of_full_reference s = yields_bind P _ _ _ (of_label _) λ tree k. yields_passed _ _ _ (yields_gives _ _ k)

  of_collapsed_reference : Yields P collapsed_reference
  unfolding collapsed_reference
  of_collapsed_reference =
      yields_bind IsSome _ _ _ (one-gives _) λ front e. then_any _ _ _ λ back. yields_gives _ _ (h.label front _ e (h.label_end back))

  of_shortcut : (defined : Bool) → Yields P (shortcut defined)
  unfolding shortcut
  of_shortcut defined = yields_passed _ _ _ (yields_gives _ _ h.none)

  pub of_after_label : (s : Setting) (defined : Bool) → Yields P (after_label s defined)
  unfolding after_label reference_after_label shortcut_before_bracket
  of_after_label s defined =
      yields_next _ _ _ _ (yields_either _ _ _ (of_resource _) (of_shortcut defined))
      (yields_next _ _ _ _
      (yields_either _ _ _ (of_full_reference s) (yields_either _ _ _ (yields_passed _ _ _ of_collapsed_reference) (yields_unless _ _ _ (of_shortcut _))))
      (of_shortcut defined))
