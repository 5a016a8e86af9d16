-- Past one row and then another.
use Rattle.std.proofs.Common.{◌≡◌, ℕ, ◌+◌, List, ◌++◌, length, None, sym, ap, ◌∙◌, append_assoc, arith}
use Rattle.markdown_label.proofs.EventsOfBrackets.{last-join}
use Rattle.markdown_engine.specs.PastTree.{last_link}
use Rattle.markdown_content.specs.Tree.{Forest, empty, leaf_then, group_then, ◌⊕◌, leaf_codes, event_count}
use Rattle.markdown_content.specs.declared.label_kind.LabelKind.{LabelKind}
use Rattle.markdown_engine.specs.declared.tokenizer.Tokenizer.{Tokenizer}
use Rattle.markdown_content.proofs.TreeCodes.{leaf_codes-row}
use Rattle.markdown_run_text.specs.CutData.{split}
use Rattle.markdown_run_text.proofs.CutDataLemmas.{row-assoc, split-join}
use Rattle.markdown_run_text.specs.RowTreeNames.{HasRowLines, IsRowPart}
use Rattle.markdown_run_text.specs.Row.{Row, row_end, row_then, tree_onto, joined_rows, past_tree, past_mark, past_row, mark_codes, row_codes, kinds_past, kinds_after, IsRowAt, split_row}
use Rattle.markdown_run_text.proofs.PastTrees.{past-both, outer-row}

-- Trees of rows.

pub HasLines-row : (t u : Forest) → HasRowLines t → HasRowLines u → HasRowLines (t ⊕ u)
HasLines-row empty u h k = k
HasLines-row (leaf_then n l cs rest) u h k = (h.0, HasLines-row rest u h.1 k)
HasLines-row (group_then n a b inside rest) u h k = (h.0, (h.1.0, HasLines-row rest u h.1.1 k))

-- Past a tree and then a row.

pub past-onto : (t : Forest) (q : Row) (T : Tokenizer) → last_link (length T.events) None t ≡ None →
    past_row q (past_tree t T) ≡ past_row (tree_onto t q) T
past-onto t (row_end u) T e = past-both t u T e
past-onto t (row_then u mark rest) T e = ap (λ (x : Tokenizer). past_row rest (past_mark mark x)) (past-both t u T e)

-- one row and then another
pub past-joined : (ks : List LabelKind) (r q : Row) (T : Tokenizer) → IsRowAt ks r →
    past_row q (past_row r T) ≡ past_row (joined_rows r q) T
past-joined ks (row_end t) q T h = past-onto t q T (h.apart (length T.events))
past-joined ks (row_then t mark rest) q T h = grind (arith, past-joined (kinds_past mark ks) rest q (past_mark mark (past_tree t T)))

-- The codes of rows.

pub codes-onto : (t : Forest) (q : Row) → row_codes (tree_onto t q) ≡ leaf_codes t ++ row_codes q
codes-onto t (row_end u) = leaf_codes-row t u
codes-onto t (row_then u mark rest) =
    ap (λ xs. xs ++ (mark_codes mark ++ row_codes rest)) (leaf_codes-row t u) ∙ append_assoc (leaf_codes t) (leaf_codes u) (mark_codes mark ++ row_codes rest)

pub codes-joined : (r q : Row) → row_codes (joined_rows r q) ≡ row_codes r ++ row_codes q
codes-joined (row_end t) q = codes-onto t q
codes-joined (row_then t mark rest) q =
    ap (λ xs. leaf_codes t ++ (mark_codes mark ++ xs)) (codes-joined rest q)
    ∙ ap (λ xs. leaf_codes t ++ xs) (sym (append_assoc (mark_codes mark) (row_codes rest) (row_codes q)))
    ∙ sym (append_assoc (leaf_codes t) (mark_codes mark ++ row_codes rest) (row_codes q))

-- How rows are cut.

pub split-onto : (t : Forest) (q : Row) → split_row (tree_onto t q) ≡ tree_onto (split t) (split_row q)
split-onto t q = grind (arith, split-join)

pub split-joined : (r q : Row) → split_row (joined_rows r q) ≡ joined_rows (split_row r) (split_row q)
split-joined (row_end t) q = split-onto t q
split-joined (row_then t mark rest) q = ap (row_then (split t) mark) (split-joined rest q)

pub onto-twice : (t u : Forest) (q : Row) → tree_onto t (tree_onto u q) ≡ tree_onto (t ⊕ u) q
onto-twice t u q = grind (arith, row-assoc)

pub onto-joined : (t : Forest) (r q : Row) → joined_rows (tree_onto t r) q ≡ tree_onto t (joined_rows r q)
onto-joined t r q = grind (arith, onto-twice)

-- Which rows runs leave.

row-apart : (t u : Forest) (n : ℕ) → ((n : ℕ) → last_link n None t ≡ None) → ((n : ℕ) → last_link n None u ≡ None) →
    last_link n None (t ⊕ u) ≡ None
row-apart t u n h k = last-join n None t u ∙ ap (λ q. last_link (n + event_count t) q u) (h n) ∙ k (n + event_count t)

pub part-row : (t u : Forest) → IsRowPart t → IsRowPart u → IsRowPart (t ⊕ u)
part-row t u h k = grind (arith, HasLines-row, outer-row, row-apart)

pub row-onto : (ks : List LabelKind) (t : Forest) (q : Row) → IsRowPart t → IsRowAt ks q → IsRowAt ks (tree_onto t q)
row-onto ks t q h k = grind (arith, part-row)

pub row-joined : (ks : List LabelKind) (r q : Row) → IsRowAt ks r → IsRowAt (kinds_after r ks) q →
    IsRowAt ks (joined_rows r q)
row-joined ks (row_end t) q h k = row-onto ks t q h k
row-joined ks (row_then t mark rest) q h k = (h.0, (h.1.0, row-joined (kinds_past mark ks) rest q h.1.1 k))
