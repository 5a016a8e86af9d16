-- The tree of labels of the elements of a content is the grouped tree of a row that is cut as they are.
use Rattle.std.proofs.Common.{◌≡◌, Some, None, List, [], ◌∷◌, map, refl, sym, ap, subst, ◌∙◌, arith}
use Rattle.markdown_engine.proofs.ReadingSequences.{row-empty}
use Rattle.markdown_content.specs.Codes.{Code}
use Rattle.markdown_content.specs.Tree.{Forest, empty, leaf, ◌⊕◌}
use Rattle.markdown_event.specs.declared.event.Name.TheVariants as N
use Rattle.markdown_content.specs.declared.label_kind.LabelKind.{LabelKind}
use Rattle.markdown_run_text.specs.CutData.{split}
use Rattle.markdown_label.specs.Brackets.{grouped}
use Rattle.markdown_label.proofs.BracketJoinLemmas.{row-assoc, joined-append}
use Rattle.markdown_model.specs.BracketGroups.{Bracketed, item, opens, closes, onto, nest, after_loose, joined}
use Rattle.markdown_model.specs.LabelEnd.{Element, plain, starts, ends}
use Rattle.markdown_model.specs.Passes.{Start, End, as_bracket, labelled, loose_start, loose_end, label_group, labels_of}
use Rattle.markdown_run_text.specs.Row.{loses, Row, row_end, row_then, tree_onto, kinds_past, IsRowAt, split_row, row_of_elements}
use Rattle.markdown_run_text.specs.OpenStarts.{brackets_of}
use Rattle.markdown_run_text.proofs.OpenStartTrees.{OpenTrees, outside, within, whole, put_row, made_row, lost_row, filled, AreMarksAt, marks-of, IsFor, for-put, not-made, for-marked, grouped-filled}
use Rattle.markdown_run_text.proofs.RowDataCut.{filled-alike}

-- Rows.

pub whole-put : (t : Forest) (o : OpenTrees) → whole (put_row t o) ≡ whole o ⊕ t
whole-put t o = grind (arith, row-assoc)

put-empty : (o : OpenTrees) → put_row empty o ≡ o
put-empty o = grind (arith, row-empty)

put-put : (t u : Forest) (o : OpenTrees) → put_row u (put_row t o) ≡ put_row (t ⊕ u) o
put-put t u o = grind (arith, row-assoc)

filled-onto : (t : Forest) (r : Row) (o : OpenTrees) → filled (tree_onto t r) o ≡ filled r (put_row t o)
filled-onto t r o = grind (arith, put-put)

-- Brackets in words, with trees in place of lists of trees.

abbrev pub FoundLabels : Type 0
FoundLabels = Forest × List (End × Forest)

abbrev pub wrapped : List Code → Forest → End → Forest
wrapped m x end =
    elim (end.1) [ None ↦ leaf N.Data m ⊕ (x ⊕ leaf N.Data end.0) | Some outcome ↦ label_group outcome.0 m x end.0 outcome.1 ]

abbrev pub opened : List Code → Forest → List (End × Forest) → FoundLabels
opened m x [] = (leaf N.Data m ⊕ x, [])
opened m x (c ∷ more) = (wrapped m x c.0 ⊕ c.1, more)

abbrev pub Word : Type 0
Word = List (Bracketed Start End Forest)

abbrev pub read : Word → FoundLabels
read [] = (empty, [])
read (item t ∷ w) = let r = read w in (t ⊕ r.0, r.1)
read (closes c ∷ w) = let r = read w in (empty, (c, r.0) ∷ r.1)
read (opens s ∷ w) = let r = read w in opened s.1 r.0 r.1

abbrev pub word_of : List Element → Word
word_of es = map as_bracket es

abbrev found : Word → List Forest × List (End × List Forest)
found w = nest labelled loose_start loose_end w

abbrev joins : List (End × List Forest) → List (End × Forest)
joins [] = []
joins (c ∷ more) = (c.0, joined c.1) ∷ joins more

wrapped-is : (s : Start) (inside : List Forest) (end : End) →
    wrapped s.1 (joined inside) end ≡ joined (labelled s inside end)
wrapped-is s inside end = grind (arith, row-empty, joined-append)

opened-is : (s : Start) (inside : List Forest) (more : List (End × List Forest))
    → opened s.1 (joined inside) (joins more) ≡ (joined (onto labelled loose_start loose_end s inside more).0, joins (onto labelled loose_start loose_end s inside more).1)
opened-is s inside more = grind (arith, wrapped-is, joined-append)

read-is : (w : Word) → read w ≡ (joined (found w).0, joins (found w).1)
read-is [] = refl
read-is (item t ∷ w) = ap (λ (r : FoundLabels). (t ⊕ r.0, r.1)) (read-is w)
read-is (closes c ∷ w) = ap (λ (r : FoundLabels). (empty, (c, r.0) ∷ r.1)) (read-is w)
read-is (opens s ∷ w) = ap (λ (r : FoundLabels). opened s.1 r.0 r.1) (read-is w) ∙ opened-is s (found w).0 (found w).1

abbrev pub finish : List (End × Forest) → Forest
finish [] = empty
finish (c ∷ more) = leaf N.Data c.0.0 ⊕ (c.1 ⊕ finish more)

finish-is : (more : List (End × List Forest)) →
    joined (after_loose labelled loose_start loose_end more) ≡ finish (joins more)
finish-is [] = refl
finish-is (c ∷ more) = grind (arith, joined-append, finish-is more)

pub labels-read : (es : List Element) → labels_of es ≡ (read (word_of es)).0 ⊕ finish (read (word_of es)).1
unfolding labels_of
labels-read es = grind (arith, joined-append, finish-is, read-is)

-- Behind starts that wait.

abbrev closed : OpenTrees → Forest → List (End × Forest) → Forest
closed (outside u) x more = u ⊕ (x ⊕ finish more)
closed (within o m y) x more = let r = opened m (y ⊕ x) more in closed o r.0 r.1

closed-end : (o : OpenTrees) (x : Forest) → closed o x [] ≡ whole o ⊕ x
closed-end (outside u) x = ap (λ y. u ⊕ y) (row-empty x)
closed-end (within o m y) x = grind (arith, row-assoc, closed-end o (leaf N.Data m ⊕ (y ⊕ x)))

closed-put : (t : Forest) (o : OpenTrees) (x : Forest) (more : List (End × Forest)) →
    closed o (t ⊕ x) more ≡ closed (put_row t o) x more
closed-put t o x more = grind (arith, row-assoc)

closed-made : (m : List Code) (o : OpenTrees) (y : Forest) (back : List Code) (outcome : LabelKind × Forest) (x : Forest) (more : List (End × Forest))
    → closed (within o m y) empty (((back, Some outcome), x) ∷ more) ≡ closed (made_row back outcome.0 outcome.1 (within o m y)) x more
closed-made m o y back outcome x more = grind (arith, row-empty y, closed-put (label_group outcome.0 m y back outcome.1) o x more)

closed-lost : (o : OpenTrees) (back : List Code) (x : Forest) (more : List (End × Forest)) →
    closed o empty (((back, None), x) ∷ more) ≡ closed (put_row (leaf N.Data back) (lost_row o)) x more
closed-lost o back x more = grind (arith, row-assoc, row-empty, closed-put, put-put)

-- The marks of elements.

marks-onto : (ks : List LabelKind) (t : Forest) (r : Row) → AreMarksAt ks (tree_onto t r) → AreMarksAt ks r
marks-onto ks t r h = grind arith

element-read : (es : List Element) (ks : List LabelKind) (o : OpenTrees) → IsFor ks o → AreMarksAt ks (row_of_elements es) →
    closed o (read (word_of es)).0 (read (word_of es)).1 ≡ whole (filled (row_of_elements es) o)
element-read [] ks o h at = closed-end o empty ∙ sym (whole-put empty o)
element-read (plain t ∷ es) ks o h at = grind (arith, closed-put, for-put, marks-onto, filled-onto, element-read es ks (put_row t o))
element-read (starts kind marker ∷ es) ks o h at = grind (arith, put-empty, element-read es (kind ∷ ks) (within o marker empty))
element-read (ends back (Some outcome) ∷ es) [] o h at = absurd (not-made back outcome.0 outcome.1 at.0)
element-read (ends back (Some outcome) ∷ es) (k ∷ ks) (outside u) h at = absurd h
element-read (ends back (Some outcome) ∷ es) (k ∷ ks) (within o m y) h at = grind (arith, closed-made m o y back outcome, for-put ks (label_group outcome.0 m y back outcome.1) o, put-empty (within o m y), element-read es ks (made_row back outcome.0 outcome.1 (within o m y)))
element-read (ends back None ∷ es) ks o h at = grind (arith, closed-lost, for-put, for-marked, marks-onto, filled-onto, put-empty, element-read es (kinds_past loses ks))

-- Rows that are cut as the elements are.

marks-split : (ks : List LabelKind) (r : Row) → AreMarksAt ks r → AreMarksAt ks (split_row r)
marks-split ks (row_end t) h = tt
marks-split ks (row_then t mark rest) h = (h.0, marks-split (kinds_past mark ks) rest h.1)

marks-whole : (ks : List LabelKind) (r : Row) → AreMarksAt ks (split_row r) → AreMarksAt ks r
marks-whole ks (row_end t) h = tt
marks-whole ks (row_then t mark rest) h = (h.0, marks-whole (kinds_past mark ks) rest h.1)

-- the grouped tree of a row is cut as the tree of labels
pub grouped-alike : (row : Row) (es : List Element) → IsRowAt [] row → split_row row ≡ split_row (row_of_elements es) →
    split (grouped (brackets_of row)) ≡ split (labels_of es)
grouped-alike row es at e =
    let marks : AreMarksAt [] row = marks-of [] row at in
    let others : AreMarksAt [] (row_of_elements es) = marks-whole [] (row_of_elements es) (subst (AreMarksAt []) e (marks-split [] row marks)) in
    ap split (grouped-filled row marks)
    ∙ filled-alike row (row_of_elements es) e
    ∙ ap split (sym (element-read es [] (outside empty) tt others) ∙ sym (labels-read es))
