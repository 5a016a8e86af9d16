-- What constructs read has references as they are read.
use Rattle.std.proofs.Common.{◌≡◌, ◌≢◌, ℕ, Bool, true, false, ◌&&◌, List, [], ◌++◌, length, Option, Some, None, refl, arith, rules}
use Rattle.std.specs.List.{list_all}
use Rattle.std.specs.Str.{byte}
use Rattle.std.specs.Prelude.{codes, nat_le}
use Rattle.std.proofs.lemmas.Bool.{leb-true}
use Rattle.markdown_event.specs.declared.event.Name.{Name}
use Rattle.markdown_event.specs.declared.event.Name.TheVariants as N
use Rattle.markdown_event.specs.declared.event.Content.{Content}
use Rattle.markdown_content.specs.Codes.{Code}
use Rattle.markdown_content.specs.declared.configuration.Rules.{Rules}
use Rattle.markdown_content.specs.Tree.{Forest, leaf, group, ◌⊕◌}
use Rattle.markdown_util.specs.Reference.{Table}
use Rattle.markdown_model.specs.CodeTests.{is_among, is_digit, is_hex_digit, is_alphanumeric, next_is}
use Rattle.markdown_model.specs.Grammar.{Reading, ◌>>◌, provided, some}
use Rattle.markdown_model.specs.GfmAutolinkLiteral.{gfm_autolink_literal_protocol, www_from_here, gfm_autolink_literal_www, may_precede_www, begins_with_www}
use Rattle.markdown_model.specs.HtmlText.{html_text}
use Rattle.markdown_model.specs.LeafConstructs.{Parts, named_parts, decimal_parts, hexadecimal_parts, character_reference, SpanNames, code_names, math_names, span_of, span_here, in_angle_brackets, autolink, gfm_task_list_item_check}
use Rattle.markdown_model.specs.LabelEnd.{after_label}
use Rattle.markdown_model.specs.Resource.{string_group}
use Rattle.markdown_model.specs.Setting.{Setting}
use Rattle.markdown_model.specs.TextLines.{line_leaves, lines}
use Rattle.markdown_model.proofs.DefinitionSteps.{span-all}
use Rattle.markdown_model.proofs.LinksDoNotNest.{yields_passed_if}
use Rattle.markdown_model.proofs.NoLinkInConstructs.{Yields, yields_bind, yields_gives, yields_passed, yields_either, then_any}
use Rattle.markdown_model.proofs.OneLineReadings.{IsOneCode, one-one}
use Rattle.markdown_model_laws.proofs.ReferenceTrees.{is_free, IsReference, HasReferences}
use Rattle.markdown_model_laws.proofs.ReferenceRows.{row, free-leaf, free-linked_leaf, free-linked, free-group, free-string, free-lines, free-line_leaves}
use Rattle.markdown_model_laws.proofs.AfterLabelTrees.{PassesAfterLabels, of_after_label}

abbrev pub Refers : Reading Forest → Type 0
Refers a = Yields HasReferences a

-- Character references.

-- codes that pass, one at least
record ArePassed (p : Code → Bool) (cs : List Code) : Type 0 where
  some : cs ≢ []
  all : list_all p cs ≡ true

some-passed : (p : Code → Bool) → Yields (ArePassed p) (some p)
unfolding some
some-passed p = grind (arith, span-all)

abbrev row_of : Parts → Forest
row_of p =
    leaf N.CharacterReferenceMarker p.front
    ⊕ leaf N.CharacterReferenceMarkerNumeric p.number
    ⊕ leaf N.CharacterReferenceMarkerHexadecimal p.hexadecimal
    ⊕ leaf N.CharacterReferenceValue p.value
    ⊕ leaf N.CharacterReferenceMarkerSemi p.back

abbrev AreRight : Parts → Type 0
AreRight p = IsReference (row_of p)

abbrev parts : List Code → List Code → List Code → List Code → List Code → Parts
parts front number x value back =
    record { front = front; number = number; hexadecimal = x; value = value; back = back }

named-right : (front value back : List Code) → IsOneCode front → ArePassed is_alphanumeric value → IsOneCode back →
    AreRight (parts front [] [] value back)
named-right front value back h0 h1 h2 = grind (arith, row)

decimal-right : (front number value back : List Code) → IsOneCode front → IsOneCode number → ArePassed is_digit value →
    nat_le (length value) 7 ≡ true → IsOneCode back → AreRight (parts front number [] value back)
decimal-right front number value back h0 h1 h2 h3 h4 = grind (arith, row, leb-true)

hexadecimal-right : (front number x value back : List Code) → IsOneCode front → IsOneCode number → IsOneCode x →
    ArePassed is_hex_digit value → nat_le (length value) 6 ≡ true → IsOneCode back →
    AreRight (parts front number x value back)
hexadecimal-right front number x value back h0 h1 h2 h3 h4 h5 = grind (arith, row, leb-true)

named-read : (table : Table) → Yields AreRight (named_parts table)
unfolding named_parts
named-read table =
    yields_bind IsOneCode _ _ _ (one-one _) λ front f. yields_bind (ArePassed is_alphanumeric) _ _ _ (some-passed _) λ value v.
    yields_passed _ _ _ (yields_bind IsOneCode _ _ _ (one-one _) λ back b. yields_gives _ _ (named-right front value back f v b))

decimal-read : Yields AreRight decimal_parts
unfolding decimal_parts
decimal-read =
    yields_bind IsOneCode _ _ _ (one-one _) λ front f. yields_bind IsOneCode _ _ _ (one-one _) λ number n.
    yields_bind (ArePassed is_digit) _ _ _ (some-passed _) λ value v. yields_passed_if _ _ _ λ l.
    yields_bind IsOneCode _ _ _ (one-one _) λ back b. yields_gives _ _ (decimal-right front number value back f n v l b)

hexadecimal-read : Yields AreRight hexadecimal_parts
unfolding hexadecimal_parts
hexadecimal-read =
    yields_bind IsOneCode _ _ _ (one-one _) λ front f. yields_bind IsOneCode _ _ _ (one-one _) λ number n. yields_bind IsOneCode _ _ _ (one-one _) λ x k.
    yields_bind (ArePassed is_hex_digit) _ _ _ (some-passed _) λ value v. yields_passed_if _ _ _ λ l.
    yields_bind IsOneCode _ _ _ (one-one _) λ back b. yields_gives _ _ (hexadecimal-right front number x value back f n k v l b)

pub refers_character_reference : (table : Table) → Refers (character_reference table)
unfolding character_reference
refers_character_reference table =
    yields_bind AreRight _ _ _ (yields_either _ _ _ (named-read table) (yields_either _ _ _ decimal-read hexadecimal-read)) λ p h. yields_gives _ _ (h, tt)

-- What else stands by itself.

refers_in_angle_brackets : (inside : Reading (List Code)) (name : Name) → is_free name ≡ true →
    Refers (in_angle_brackets inside name)
unfolding in_angle_brackets
refers_in_angle_brackets inside name h =
    then_any _ _ _ λ front. then_any _ _ _ λ text. then_any _ _ _ λ back. yields_gives _ _
    (free-group N.Autolink _ refl (row (leaf N.AutolinkMarker front) _ (free-leaf N.AutolinkMarker front refl) (row (leaf name text) _ (free-leaf name text h) (free-leaf N.AutolinkMarker back refl))))

pub refers_autolink : (rules : Rules) → Refers (autolink rules)
unfolding autolink
refers_autolink rules =
    yields_either _ _ _ (refers_in_angle_brackets _ N.AutolinkProtocol refl) (refers_in_angle_brackets _ N.AutolinkEmail refl)

record AreFreeNames (names : SpanNames) : Type 0 where
  whole : is_free names.whole ≡ true
  sequence : is_free names.sequence ≡ true
  text : is_free names.text ≡ true

refers_span : (marker : ℕ) (names : SpanNames) (allowed : ℕ → Bool) (escaped : Bool) (previous : Option Code) →
    AreFreeNames names → Refers (span_here marker names allowed escaped previous)
unfolding span_here span_of
refers_span marker names allowed escaped previous n =
    yields_passed _ _ _ (then_any _ _ _ λ front. yields_passed _ _ _ (then_any _ _ _ λ inside. yields_gives _ _
    (free-group names.whole _ n.whole (row (leaf names.sequence front) _ (free-leaf names.sequence front n.sequence) (row (line_leaves names.text inside.0) _ (free-line_leaves names.text inside.0 n.text) (free-leaf names.sequence inside.1 n.sequence))))))

pub refers_code_text : (allowed : ℕ → Bool) (escaped : Bool) (previous : Option Code) →
    Refers (span_here (byte "`") code_names allowed escaped previous)
refers_code_text allowed escaped previous =
    refers_span (byte "`") code_names allowed escaped previous (record { whole = refl; sequence = refl; text = refl })

pub refers_math_text : (allowed : ℕ → Bool) (escaped : Bool) (previous : Option Code) →
    Refers (span_here (byte "$") math_names allowed escaped previous)
refers_math_text allowed escaped previous =
    refers_span (byte "$") math_names allowed escaped previous (record { whole = refl; sequence = refl; text = refl })

pub refers_html_text : (slashes : Bool) → Refers (html_text slashes)
unfolding html_text
refers_html_text slashes =
    then_any _ _ _ λ text. yields_gives _ _ (free-group N.HtmlText _ refl (free-lines N.HtmlTextData None text refl))

check-leaf : (b : Bool) (cs : List Code)
    → HasReferences (leaf (elim b as (λ _. Name) [ true ↦ N.GfmTaskListItemValueChecked | false ↦ N.GfmTaskListItemValueUnchecked ]) cs)
check-leaf true cs = free-leaf N.GfmTaskListItemValueChecked cs refl
check-leaf false cs = free-leaf N.GfmTaskListItemValueUnchecked cs refl

pub refers_gfm_task_list_item_check : Refers gfm_task_list_item_check
unfolding gfm_task_list_item_check
refers_gfm_task_list_item_check =
    then_any _ _ _ λ front. then_any _ _ _ λ value. then_any _ _ _ λ back. yields_gives _ _
    (free-group N.GfmTaskListItemCheck _ refl (row (leaf N.GfmTaskListItemMarker front) _ (free-leaf N.GfmTaskListItemMarker front refl) (row _ (leaf N.GfmTaskListItemMarker back) (check-leaf (next_is (is_among (codes "xX")) value) value) (free-leaf N.GfmTaskListItemMarker back refl))))

module _ (bytes : List ℕ) (end : ℕ) (previous : Option Code) where
  pub refers_gfm_autolink_literal_protocol : Refers (gfm_autolink_literal_protocol bytes end previous)
  unfolding gfm_autolink_literal_protocol
  refers_gfm_autolink_literal_protocol =
      yields_passed _ _ _ (then_any _ _ _ λ scheme. then_any _ _ _ λ host. then_any _ _ _ λ further. yields_gives _ _
      (free-leaf N.GfmAutolinkLiteralProtocol (scheme ++ host ++ further) refl))

  refers_www_from_here : Refers (www_from_here bytes end)
  unfolding www_from_here
  refers_www_from_here =
      then_any _ _ _ λ host. then_any _ _ _ λ further. yields_gives _ _ (free-leaf N.GfmAutolinkLiteralWww (host ++ further) refl)

  pub refers_gfm_autolink_literal_www : Refers (gfm_autolink_literal_www bytes end previous)
  unfolding gfm_autolink_literal_www
  refers_gfm_autolink_literal_www = record { at = λ cs. (here cs).at cs }
    where
      here : (cs : List Code) → Refers (provided (may_precede_www previous && begins_with_www cs) >> www_from_here bytes end)
      here cs = yields_passed _ _ _ refers_www_from_here

-- What follows a label.

front-group : (name marker : Name) (front : List Code) (f : Forest) → is_free name ≡ true → is_free marker ≡ true → HasReferences f →
    HasReferences (group name (leaf marker front ⊕ f))
front-group name marker front f h k l = free-group name _ h (row (leaf marker front) f (free-leaf marker front k) l)

text-references : (name : Name) (cs : List Code) → is_free name ≡ true →
    HasReferences (string_group name (lines N.Data (Some Content.String) cs))
text-references name cs h = free-string name _ h (free-lines N.Data (Some Content.String) cs refl)

pub refers_after_label : (s : Setting) (defined : Bool) → Refers (after_label s defined)
refers_after_label s defined = of_after_label HasReferences after_labels s defined
  where
    after_labels : PassesAfterLabels HasReferences
    after_labels = search (rules, row, free-linked_leaf, front-group, text-references, free-leaf, free-string, free-linked, free-group)
