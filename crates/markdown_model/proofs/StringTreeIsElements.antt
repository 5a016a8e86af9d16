-- A string's tree is the row of its elements.
use Rattle.std.proofs.Common.{◌≡◌, List, [], ◌∷◌, ◌++◌, map, refl, ◌∙◌, ap, Option}
use Rattle.std.proofs.lemmas.List.{append-nil}
use Rattle.markdown_event.specs.declared.event.Name.{Name}
use Rattle.markdown_content.specs.Codes.{Code}
use Rattle.markdown_content.specs.Tree.{Forest, empty, leaf, ◌⊕◌}
use Rattle.markdown_model.specs.Grammar.{Reading}
use Rattle.markdown_model.specs.TextLines.{code_leaf}
use Rattle.markdown_model.specs.Setting.{Setting}
use Rattle.markdown_model.specs.LabelEnd.{Element, plain, starts, ends}
use Rattle.markdown_model.specs.Elements.{as_plain, line_ending, data_code, string_element, AreElementsFrom, string_choice}
use Rattle.markdown_model.specs.BracketGroups.{nest, after_loose, joined}
use Rattle.markdown_model.specs.Passes.{End, as_bracket, loose_start, loose_end, labelled, labels_of}
use Rattle.markdown_model.proofs.NoLinkInConstructs.{PassesValue, Yields, yields_gives, yields_either, then_any}
use Rattle.markdown_model.proofs.ElementCases.{AllAre, all_are, string_has}

abbrev pub code_leaves : List Code → Forest
code_leaves [] = empty
code_leaves (c ∷ cs) = code_leaf c ⊕ code_leaves cs

-- The elements of a string stand by themselves.

abbrev pub IsPlainElement : Element → Type 0
IsPlainElement (plain tree) = Unit {0}
IsPlainElement (starts kind marker) = ⊥
IsPlainElement (ends marker outcome) = ⊥

abbrev pub ArePlainElements : List Element → Type 0
ArePlainElements es = AllAre IsPlainElement es

plain_yields : (a : Reading Forest) → Yields IsPlainElement (as_plain a)
unfolding as_plain
plain_yields a = then_any _ _ _ λ tree. yields_gives _ (plain tree) tt

string_passes : (s : Setting) (cs : List Code) → PassesValue IsPlainElement (string_element s cs)
unfolding line_ending data_code
string_passes s cs =
    string_has (PassesValue IsPlainElement) tt cs s (λ a _. (plain_yields a).at cs)
    ((yields_either _ _ _ (then_any _ _ _ λ c. yields_gives _ (plain (leaf Name.LineEnding c)) tt) (then_any _ _ _ λ c. yields_gives _ (plain (leaf Name.Data c)) tt)).at cs)

pub string_are_plain : (s : Setting) (es earlier : List Element) (previous : Option Code) (cs : List Code) →
    AreElementsFrom (string_choice s) earlier previous cs es → ArePlainElements es
string_are_plain s es earlier previous cs h =
    all_are IsPlainElement (string_choice s) (λ _ _ ds. string_passes s ds) es earlier previous cs h

-- the row of such elements
abbrev pub row_of : List Element → Forest
row_of [] = empty
row_of (plain tree ∷ es) = tree ⊕ row_of es
row_of (starts kind marker ∷ es) = row_of es
row_of (ends marker outcome ∷ es) = row_of es

abbrev nest_labels : List Element → List Forest × List (End × List Forest)
nest_labels es = nest labelled loose_start loose_end (map as_bracket es)

plain_nest : (es : List Element) → ArePlainElements es → (joined (nest_labels es).0 ≡ row_of es) × ((nest_labels es).1 ≡ [])
plain_nest [] h = (refl, refl)
plain_nest (plain tree ∷ es) h = let r = plain_nest es h.1 in (ap (λ x. tree ⊕ x) r.0, r.1)
plain_nest (starts kind marker ∷ es) h = absurd h.0
plain_nest (ends marker outcome ∷ es) h = absurd h.0

-- no labels to group
pub labels_of-plain : (es : List Element) → ArePlainElements es → labels_of es ≡ row_of es
unfolding labels_of
labels_of-plain es h =
    let r = plain_nest es h in
    ap (λ x. joined ((nest_labels es).0 ++ after_loose labelled loose_start loose_end x)) r.1 ∙ ap joined (append-nil (nest_labels es).0) ∙ r.0
