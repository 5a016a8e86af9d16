-- The tree of labels of a content has references as they are read.
use Rattle.std.proofs.Common.{◌≡◌, ℕ, Bool, true, List, [], ◌∷◌, Option, Some, None, refl, arith}
use Rattle.markdown_event.specs.declared.event.Name.TheVariants as N
use Rattle.markdown_content.specs.declared.label_kind.LabelKind.{LabelKind}
use Rattle.markdown_content.specs.Codes.{Code}
use Rattle.markdown_content.specs.Tree.{Forest, leaf}
use Rattle.markdown_model.specs.Grammar.{Reading, either}
use Rattle.markdown_model.specs.Setting.{Setting, within}
use Rattle.markdown_model.specs.LabelEnd.{Element, plain, starts, ends, label_before, label_end}
use Rattle.markdown_model.specs.Elements.{as_plain, switched, line_ending, data_code, attention_run, label_start_image, gfm_label_start_footnote, label_start_link, code_text, math_text, tries, first_check, text_element, string_element, text_choice, string_choice, elements_of, string_elements_of}
use Rattle.markdown_model.specs.Passes.{start_tree, label_name, label_group, labels_of}
use Rattle.markdown_model.proofs.ElementCases.{AllAre, all_are, outcome_yields}
use Rattle.markdown_model.proofs.LabelTreeFacts.{labels-have}
use Rattle.markdown_model.proofs.NoLinkInConstructs.{PassesValue, Yields, yields_bind, yields_gives, yields_passed, yields_either, then_any}
use Rattle.markdown_model.proofs.OneElementList.{text_elements, string_elements}
use Rattle.markdown_model_laws.proofs.ReferenceTrees.{is_free, HasReferences}
use Rattle.markdown_model_laws.proofs.ReferenceRows.{row, free-leaf, free-group, free-between}
use Rattle.markdown_model_laws.proofs.EachRow.{EachRow, OfConstructs, tried-has}
use Rattle.markdown_model_laws.proofs.ReferenceConstructs.{Refers, refers_character_reference, refers_gfm_task_list_item_check, refers_after_label}
use Rattle.markdown_model_laws.proofs.ConstructLaws.{refers_character_escape, refers_constructs}

-- Elements.

abbrev ElementHasReferences : Element → Type 0
ElementHasReferences (plain t) = HasReferences t
ElementHasReferences (starts kind marker) = Unit {0}
ElementHasReferences (ends marker None) = Unit {0}
ElementHasReferences (ends marker (Some outcome)) = HasReferences outcome.1

abbrev HaveReferences : Reading Element → Type 0
HaveReferences a = Yields ElementHasReferences a

alone : (a : Reading Forest) → Refers a → HaveReferences (as_plain a)
unfolding as_plain
alone a h = yields_bind HasReferences _ _ _ h λ tree k. yields_gives _ (plain tree) k

on : (b : Bool) (a : Reading Element) → HaveReferences a → HaveReferences (switched b a)
unfolding switched
on b a h = yields_passed _ b a h

own : (b : Bool) (a : Reading Forest) → Refers a → HaveReferences (switched b (as_plain a))
own b a h = on b (as_plain a) (alone a h)

ending : HaveReferences line_ending
unfolding line_ending
ending = then_any _ _ _ λ c. yields_gives _ (plain (leaf N.LineEnding c)) (free-leaf N.LineEnding c refl)

data-read : HaveReferences data_code
unfolding data_code
data-read = then_any _ _ _ λ c. yields_gives _ (plain (leaf N.Data c)) (free-leaf N.Data c refl)

run-read : (marker : ℕ) → HaveReferences (attention_run marker)
unfolding attention_run
run-read marker =
    then_any _ _ _ λ markers. yields_gives _ (plain (leaf N.AttentionSequence markers)) (free-leaf N.AttentionSequence markers refl)

image-read : (footnotes : Bool) → HaveReferences (label_start_image footnotes)
unfolding label_start_image
image-read footnotes = then_any _ _ _ λ marker. yields_gives _ (starts LabelKind.Image marker) tt

footnote-read : HaveReferences gfm_label_start_footnote
unfolding gfm_label_start_footnote
footnote-read = then_any _ _ _ λ marker. yields_gives _ (starts LabelKind.GfmFootnote marker) tt

link-read : HaveReferences label_start_link
unfolding label_start_link
link-read = then_any _ _ _ λ marker. yields_gives _ (starts LabelKind.Link marker) tt

abbrev OutcomeHasReferences : LabelKind × Forest → Type 0
OutcomeHasReferences o = HasReferences o.1

end-read : (s : Setting) (earlier : List Element) → HaveReferences (label_end s earlier)
unfolding label_end
end-read s earlier =
    then_any _ _ _ λ back. yields_either _ _ _
    (yields_bind OutcomeHasReferences _ _ _ (outcome_yields HasReferences tt s (refers_after_label s) (label_before earlier) back) λ outcome k. yields_gives _ (ends back (Some outcome)) k)
    (yields_gives _ (ends back None) tt)

both : (a b : Reading Element) → HaveReferences a → HaveReferences b → HaveReferences (either a b)
both a b h k = yields_either _ a b h k

module _ (s : Setting) (end : ℕ) (earlier : List Element) (previous : Option Code) where
  rows-have : (H : Reading Element → Type 0) → OfConstructs Refers H s earlier → EachRow H (tries s end earlier previous)
  unfolding tries code_text math_text
  rows-have H r = search (r.ending, r.on, r.own, r.both, r.image, r.footnote, r.link, r.stars, r.underscores, r.tildes, r.last, refers_constructs) parts 20 depth 30 fits 5000

  each-has : EachRow HaveReferences (tries s end earlier previous)
  each-has = rows-have HaveReferences (grind (arith, ending, on, own, both, image-read, footnote-read, link-read, run-read, end-read))

  text-has : (cs : List Code) → PassesValue ElementHasReferences (text_element s end earlier previous cs)
  unfolding text_element first_check
  text-has [] = tt
  text-has (c ∷ cs) =
      (both _ _ (own _ _ refers_gfm_task_list_item_check) (both _ _ (tried-has HaveReferences (tries s end earlier previous) c.value each-has data-read) data-read)).at (c ∷ cs)

string-has : (s : Setting) → HaveReferences (string_element s)
unfolding string_element
string-has s =
    both _ _ (own _ _ refers_character_escape) (both _ _ (own _ _ (refers_character_reference _)) (both _ _ ending data-read))

-- Labels.

start-has : (kind : LabelKind) (cs : List Code) → HasReferences (start_tree kind cs)
start-has kind cs = grind (arith, free-group, row, free-leaf)

name-free : (kind : LabelKind) → is_free (label_name kind) ≡ true
name-free kind = grind arith

label-has : (kind : LabelKind) (marker : List Code) (inside : Forest) (back : List Code) (tail : Forest) →
    HasReferences inside → HasReferences tail → HasReferences (label_group kind marker inside back tail)
label-has kind marker inside back tail h k = grind (arith, free-group, name-free, row, start-has, free-between, free-leaf)

labels-refer : (es : List Element) → AllAre ElementHasReferences es → HasReferences (labels_of es)
labels-refer es h =
    labels-have HasReferences ElementHasReferences tt row (λ t k. k) (λ kind marker k. free-leaf N.Data marker refl)
    (λ marker outcome k. free-leaf N.Data marker refl)
    (λ kind marker inside back outcome m i e. label-has outcome.0 marker inside back outcome.1 i e) es h

pub text-labels : (s : Setting) (cs : List Code) → HasReferences (labels_of (elements_of s cs))
text-labels s cs =
    labels-refer (elements_of s cs) (all_are ElementHasReferences (text_choice s cs) (λ earlier previous ds. text-has (within cs s) _ earlier previous ds) (elements_of s cs) [] None cs (text_elements s cs))

pub string-labels : (s : Setting) (cs : List Code) → HasReferences (labels_of (string_elements_of s cs))
string-labels s cs =
    labels-refer (string_elements_of s cs) (all_are ElementHasReferences (string_choice s) (λ earlier previous ds. (string-has s).at ds) (string_elements_of s cs) [] None cs (string_elements s cs))
