-- Where a row begins no label and makes none, its trees stand as they are.
use Rattle.std.proofs.Common.{◌≡◌, false, refl, arith}
use Rattle.markdown_content.specs.Tree.{Forest}
use Rattle.markdown_label.specs.Brackets.{Brackets, nothing, tree_then, flat, grouped}
use Rattle.markdown_label.specs.BracketsJoined.{behind}
use Rattle.markdown_label.proofs.BracketJoinLemmas.{flat-behind, grouped-behind}
use Rattle.markdown_run_text.specs.RowStart.{row_registers}
use Rattle.markdown_run_text.specs.OpenStarts.{none_waits, assembled, opened_by, brackets_of}
use Rattle.markdown_run_text.specs.Row.{begins, makes, loses, Row, row_end, row_then}

flat-put : (b : Brackets) (t : Forest) → flat b ≡ grouped b →
    flat (behind b (tree_then t nothing)) ≡ grouped (behind b (tree_then t nothing))
flat-put b t e = grind (arith, flat-behind, grouped-behind)

flat-opened : (row : Row) (b : Brackets) → row_registers row ≡ false → flat b ≡ grouped b →
    flat (assembled (opened_by row (none_waits b))) ≡ grouped (assembled (opened_by row (none_waits b)))
flat-opened (row_end t) b none e = flat-put b t e
flat-opened (row_then t (begins kind marker) rest) b none e = cc
flat-opened (row_then t (makes back kind tail) rest) b none e = cc
flat-opened (row_then t loses rest) b none e = flat-opened rest (behind b (tree_then t nothing)) none (flat-put b t e)

pub flat-grouped : (row : Row) → row_registers row ≡ false → flat (brackets_of row) ≡ grouped (brackets_of row)
flat-grouped row none = flat-opened row nothing none refl
