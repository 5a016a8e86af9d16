-- The brackets of a row, read from the left, with the starts that still wait for an end.
use Rattle.std.specs.Prelude.{List, [], ◌∷◌}
use Rattle.markdown_content.specs.Codes.{Code}
use Rattle.markdown_content.specs.Tree.{Forest, group_then}
use Rattle.markdown_content.specs.declared.label_kind.LabelKind.{LabelKind}
use Rattle.markdown_label.specs.Brackets.{Front, link_front, image_front, call_front, caret_front, Tail, no_tail, one_tail, Brackets, nothing, tree_then, label_then, unused_then, failed_then}
use Rattle.markdown_label.specs.BracketsJoined.{behind}
use Rattle.markdown_run_text.specs.Row.{Mark, begins, makes, loses, Row, row_end, row_then}

-- brackets before all starts that wait; or a start that waits behind others, and the brackets behind it
pub data Opened : Type 0 where
  none_waits : Brackets → Opened
  waits : Opened → Front → Brackets → Opened

-- all in one, with the starts that wait as unused ones
abbrev pub assembled : Opened → Brackets
assembled (none_waits b) = b
assembled (waits o f inside) = behind (assembled o) (unused_then f inside)

-- brackets behind all
abbrev pub put : Brackets → Opened → Opened
put c (none_waits b) = none_waits (behind b c)
put c (waits o f inside) = waits o f (behind inside c)

abbrev pub put_tree : Forest → Opened → Opened
put_tree t o = put (tree_then t nothing) o

-- a start of this kind with these codes, if a start has such
abbrev pub begun_with : LabelKind → List Code → Opened → Opened
begun_with LabelKind.Link (c ∷ []) o = waits o (link_front c) nothing
begun_with LabelKind.Image (c ∷ d ∷ []) o = waits o (image_front c d) nothing
begun_with LabelKind.GfmFootnote (c ∷ d ∷ []) o = waits o (call_front c d) nothing
begun_with _ _ o = o

-- the start of a label that is made as this kind: a call's becomes a link's whose text begins with the caret
abbrev pub made_front : LabelKind → Front → Front
made_front LabelKind.GfmUndefinedFootnote (call_front c d) = caret_front c d
made_front _ f = f

abbrev pub tail_of : Forest → Tail
tail_of (group_then name a b inside rest) = one_tail name a b inside
tail_of _ = no_tail

-- the last start that waits makes a label
abbrev pub made_with : List Code → LabelKind → Forest → Opened → Opened
made_with (c ∷ []) kind tail (waits o f inside) = put (label_then (made_front kind f) inside c (tail_of tail) nothing) o
made_with _ _ _ o = o

-- it makes none
abbrev pub lost_with : Opened → Opened
lost_with (waits o f inside) = put (failed_then f inside nothing) o
lost_with (none_waits b) = none_waits b

abbrev pub marked_with : Mark → Opened → Opened
marked_with (begins kind marker) o = begun_with kind marker o
marked_with (makes back kind tail) o = made_with back kind tail o
marked_with loses o = lost_with o

abbrev pub opened_by : Row → Opened → Opened
opened_by (row_end t) o = put_tree t o
opened_by (row_then t mark rest) o = opened_by rest (marked_with mark (put_tree t o))

abbrev pub brackets_of : Row → Brackets
brackets_of row = assembled (opened_by row (none_waits nothing))
