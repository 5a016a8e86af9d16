-- The inline tree of a string, by its elements.
use Rattle.std.proofs.Common.{◌≡◌, ℕ, false, Option, List, [], ◌∷◌, None, refl, ap, arith}
use Rattle.markdown_content.specs.Codes.{Code}
use Rattle.markdown_content.specs.Tree.{Forest, leaf}
use Rattle.markdown_event.specs.declared.event.Name.TheVariants as N
use Rattle.markdown_model.specs.Grammar.{Reading}
use Rattle.markdown_model.proofs.NoLinkInConstructs.{PassesValue, Yields, yields_bind, yields_gives, yields_either, then_any}
use Rattle.markdown_model.proofs.ElementCases.{string_has}
use Rattle.markdown_model.proofs.PlainConstructs.{ReadsPlain}
use Rattle.markdown_run_text.proofs.ConstructNodes.{plain-node}
use Rattle.markdown_run_text.specs.Row.{row_has_run, row_of_elements}
use Rattle.markdown_run_text.proofs.PastTrees.{quiet-runless, leaf-runless}
use Rattle.markdown_run.proofs.RowsWithoutRuns.{IsRunlessElement, still-first}
use Rattle.markdown_model.specs.Elements.{AreStringElements, string_elements_of, AreElementsFrom, string_choice, string_element, as_plain, line_ending, data_code, code_before}
use Rattle.markdown_model.specs.InlineTree.{finished_string, string_tree}
use Rattle.markdown_model.specs.LabelEnd.{Element, plain}
use Rattle.markdown_model.specs.Passes.{no_breaks, labels_of, merged, trimmed}
use Rattle.markdown_model.specs.Setting.{Setting, rules}
use Rattle.markdown_model.proofs.StringTreeIsElements.{labels_of-plain, row_of, string_are_plain}
use Rattle.markdown_model.proofs.OneElementList.{same_string_elements, string_elements}

-- the labels of a string are the row of its elements
labels-of-string : (s : Setting) (cs : List Code) (es : List Element) → AreStringElements s cs es →
    labels_of (string_elements_of s cs) ≡ row_of es
labels-of-string s cs es h = grind (arith, same_string_elements s cs (string_elements_of s cs) es, string_elements s cs, labels_of-plain es, string_are_plain s es)

pub string-labels : (s : Setting) (cs : List Code) (es : List Element) → AreStringElements s cs es →
    labels_of es ≡ row_of es
string-labels s cs es h = labels_of-plain es (string_are_plain s es [] None cs h)

-- the tree of a string with these elements
pub string-finished : (s : Setting) (cs : List Code) (es : List Element) → AreStringElements s cs es →
    string_tree s cs ≡ trimmed (no_breaks (rules s)) false false (merged (row_of es))
unfolding string_tree finished_string
string-finished s cs es h = ap (λ t. trimmed (no_breaks (rules s)) false false (merged t)) (labels-of-string s cs es h)

-- No run of markers stands among the elements of a string.

still_plain : (bytes : List ℕ) (a : Reading Forest) → ReadsPlain bytes a → Yields IsRunlessElement (as_plain a)
unfolding as_plain
still_plain bytes a h = grind (arith, yields_bind, yields_gives, quiet-runless, plain-node)

string_passes : (s : Setting) (cs : List Code) → PassesValue IsRunlessElement (string_element s cs)
unfolding line_ending data_code
string_passes s cs =
    string_has (PassesValue IsRunlessElement) tt cs s (λ a h. (still_plain s.bytes a h).at cs)
    ((yields_either _ _ _ (then_any _ _ _ λ c. yields_gives _ (plain (leaf N.LineEnding c)) (leaf-runless N.LineEnding c refl)) (then_any _ _ _ λ c. yields_gives _ (plain (leaf N.Data c)) (leaf-runless N.Data c refl))).at cs)

-- no run stands in the row of the elements of a string
pub string-still : (s : Setting) (es earlier : List Element) (previous : Option Code) (cs : List Code) →
    AreElementsFrom (string_choice s) earlier previous cs es → row_has_run (row_of_elements es) ≡ false
string-still s [] earlier previous cs h = refl
string-still s (e ∷ es) earlier previous cs h = grind (arith, still-first, string_passes, string-still s es (e ∷ earlier) (code_before cs h.0) h.0)
