-- The grouped tree of a row, read from the left: the tree so far, and behind each start that waits the tree behind it.
use Rattle.std.proofs.Common.{◌≡◌, List, [], ◌∷◌, refl, arith}
use Rattle.markdown_engine.proofs.ReadingSequences.{row-empty}
use Rattle.markdown_content.specs.Codes.{Code}
use Rattle.markdown_content.specs.Tree.{Forest, empty, leaf, ◌⊕◌}
use Rattle.markdown_event.specs.declared.event.Name.TheVariants as N
use Rattle.markdown_content.specs.declared.label_kind.LabelKind.{LabelKind}
use Rattle.markdown_model.specs.Passes.{label_group}
use Rattle.markdown_label.specs.Brackets.{codes_of, Brackets, nothing, tree_then, grouped}
use Rattle.markdown_label.proofs.BracketJoinLemmas.{grouped-behind}
use Rattle.markdown_run_text.specs.Row.{Mark, begins, makes, loses, Row, row_end, row_then, kinds_past, IsMade, IsMarkAt, IsRowAt}
use Rattle.markdown_run_text.specs.OpenStarts.{Opened, none_waits, waits, assembled, put, marked_with, opened_by, brackets_of}
use Rattle.markdown_run_text.proofs.OpenStartLemmas.{no-kinds, kinds_in, kinds-put, begins-as, makes-as, kinds-marked}

pub data OpenTrees : Type 0 where
  outside : Forest → OpenTrees
  within : OpenTrees → List Code → Forest → OpenTrees

-- all in one row, with the starts that wait as data
abbrev pub whole : OpenTrees → Forest
whole (outside u) = u
whole (within o m x) = whole o ⊕ (leaf N.Data m ⊕ x)

abbrev pub put_row : Forest → OpenTrees → OpenTrees
put_row t (outside u) = outside (u ⊕ t)
put_row t (within o m x) = within o m (x ⊕ t)

-- an end that makes a label, and one that makes none
abbrev pub made_row : List Code → LabelKind → Forest → OpenTrees → OpenTrees
made_row back kind tail (within o m x) = put_row (label_group kind m x back tail) o
made_row back kind tail (outside u) = outside u

abbrev pub lost_row : OpenTrees → OpenTrees
lost_row (within o m x) = put_row (leaf N.Data m ⊕ x) o
lost_row (outside u) = outside u

abbrev pub marked_row : Mark → OpenTrees → OpenTrees
marked_row (begins kind marker) o = within o marker empty
marked_row (makes back kind tail) o = made_row back kind tail o
marked_row loses o = lost_row o

abbrev pub filled : Row → OpenTrees → OpenTrees
filled (row_end t) o = put_row t o
filled (row_then t mark rest) o = filled rest (marked_row mark (put_row t o))

-- The marks of a row.

abbrev pub AreMarksAt : List LabelKind → Row → Type 0
AreMarksAt ks (row_end t) = Unit {0}
AreMarksAt ks (row_then t mark rest) = IsMarkAt ks mark × AreMarksAt (kinds_past mark ks) rest

pub marks-of : (ks : List LabelKind) (row : Row) → IsRowAt ks row → AreMarksAt ks row
marks-of ks (row_end t) h = tt
marks-of ks (row_then t mark rest) h = (h.1.0, marks-of (kinds_past mark ks) rest h.1.1)

-- a start waits for each of these kinds
abbrev pub IsFor : List LabelKind → OpenTrees → Type 0
IsFor [] (outside u) = Unit {0}
IsFor [] (within o m x) = ⊥
IsFor (k ∷ ks) (outside u) = ⊥
IsFor (k ∷ ks) (within o m x) = IsFor ks o

pub for-put : (ks : List LabelKind) (t : Forest) (o : OpenTrees) → IsFor ks o → IsFor ks (put_row t o)
for-put [] t (outside u) h = tt
for-put [] t (within o m x) h = absurd h
for-put (k ∷ ks) t (outside u) h = absurd h
for-put (k ∷ ks) t (within o m x) h = h

pub not-made : (back : List Code) (kind : LabelKind) (tail : Forest) → IsMade [] back kind tail → ⊥
not-made back kind tail h = no-kinds h.start h.before h.waits

pub for-marked : (ks : List LabelKind) (mark : Mark) (o : OpenTrees) → IsMarkAt ks mark → IsFor ks o →
    IsFor (kinds_past mark ks) (marked_row mark o)
for-marked ks (begins kind marker) o at h = h
for-marked [] (makes back kind tail) o at h = absurd (not-made back kind tail at)
for-marked (k ∷ ks) (makes back kind tail) (outside u) at h = absurd h
for-marked (k ∷ ks) (makes back kind tail) (within o m x) at h = for-put ks (label_group kind m x back tail) o h
for-marked [] loses (outside u) at h = tt
for-marked [] loses (within o m x) at h = absurd h
for-marked (k ∷ ks) loses (outside u) at h = absurd h
for-marked (k ∷ ks) loses (within o m x) at h = for-put ks (leaf N.Data m ⊕ x) o h

-- The brackets' grouped tree is so read.

abbrev pub tree_of : Opened → OpenTrees
tree_of (none_waits b) = outside (grouped b)
tree_of (waits o f inside) = within (tree_of o) (codes_of f) (grouped inside)

pub whole-tree : (o : Opened) → grouped (assembled o) ≡ whole (tree_of o)
whole-tree (none_waits b) = refl
whole-tree (waits o f inside) = grind (arith, grouped-behind, whole-tree o)

tree-put : (c : Brackets) (t : Forest) (o : Opened) → grouped c ≡ t → tree_of (put c o) ≡ put_row t (tree_of o)
tree-put c t o e = grind (arith, grouped-behind)

tree-marked : (mark : Mark) (o : Opened) → IsMarkAt (kinds_in o) mark →
    tree_of (marked_with mark o) ≡ marked_row mark (tree_of o)
tree-marked (begins kind marker) o at = grind (arith, begins-as)
tree-marked (makes back kind tail) o at = grind (arith, makes-as, tree-put, row-empty)
tree-marked loses (none_waits b) at = refl
tree-marked loses (waits o f inside) at = grind (arith, tree-put, row-empty)

pub tree-opened : (row : Row) (o : Opened) → AreMarksAt (kinds_in o) row →
    tree_of (opened_by row o) ≡ filled row (tree_of o)
tree-opened (row_end t) o at = tree-put (tree_then t nothing) t o (row-empty t)
tree-opened (row_then t mark rest) o at = grind (arith, kinds-put, kinds-marked, tree-marked, tree-put, row-empty, tree-opened rest)

-- from a run's start on
abbrev pub filled_from_start : Row → OpenTrees
filled_from_start row = filled row (outside empty)

pub grouped-filled : (row : Row) → AreMarksAt [] row → grouped (brackets_of row) ≡ whole (filled_from_start row)
grouped-filled row at = grind (arith, whole-tree, tree-opened)
