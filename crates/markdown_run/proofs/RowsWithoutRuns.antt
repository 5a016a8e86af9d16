-- Rows in which no run of markers stands.
use Rattle.std.proofs.Common.{◌≡◌, false, ◌||◌, List, sym, ap, ◌∙◌, arith}
use Rattle.markdown_content.specs.Tree.{Forest}
use Rattle.markdown_attention.specs.RunsOfTree.{has_run}
use Rattle.markdown_model.specs.LabelEnd.{Element, plain, starts, ends}
use Rattle.markdown_run_text.specs.Row.{Row, row_end, row_then, tree_onto, element_onto, row_has_run, row_of_elements, split_row}
use Rattle.markdown_run_text.specs.RowTreeNames.{IsRunless}
use Rattle.markdown_run_text.proofs.PastTrees.{has_run-row, leaf-runless, runless-no-run}
use Rattle.markdown_run.proofs.MayPairOfCutData.{has_run-split}

-- no run stands in an element
abbrev pub IsRunlessElement : Element → Type 0
IsRunlessElement (plain tree) = IsRunless tree
IsRunlessElement (starts kind marker) = Unit {0}
IsRunlessElement (ends marker outcome) = Unit {0}

onto-still : (t : Forest) (r : Row) → has_run t ≡ false → row_has_run r ≡ false → row_has_run (tree_onto t r) ≡ false
onto-still t r h k = grind (arith, has_run-row)

-- such an element before such a row
pub still-first : (e : Element) (r : Row) → IsRunlessElement e → row_has_run r ≡ false → row_has_run (element_onto e r) ≡ false
still-first e r h k = grind (arith, onto-still, runless-no-run, leaf-runless)

-- how data is cut is no matter to runs
split-runs : (r : Row) → row_has_run (split_row r) ≡ row_has_run r
split-runs (row_end t) = has_run-split t
split-runs (row_then t mark rest) = λ i. has_run-split t i || split-runs rest i

pub row-still : (row : Row) (es : List Element) → split_row row ≡ split_row (row_of_elements es) →
    row_has_run (row_of_elements es) ≡ false → row_has_run row ≡ false
row-still row es e h = sym (split-runs row) ∙ ap row_has_run e ∙ split-runs (row_of_elements es) ∙ h
