-- How data is cut is no matter to the grouped tree of a row.
use Rattle.std.proofs.Common.{◌≡◌, List, refl, arith}
use Rattle.markdown_content.specs.Codes.{Code}
use Rattle.markdown_content.specs.Tree.{Forest, empty, leaf, ◌⊕◌}
use Rattle.markdown_event.specs.declared.event.Name.TheVariants as N
use Rattle.markdown_content.specs.declared.label_kind.LabelKind.{LabelKind}
use Rattle.markdown_run_text.specs.CutData.{split}
use Rattle.markdown_run_text.proofs.PairsOfCutData.{enter-same, exit-same}
use Rattle.markdown_run_text.proofs.CutDataLemmas.{split-join, split-twice}
use Rattle.markdown_model.specs.Passes.{label_group, start_marker}
use Rattle.markdown_run_text.specs.Row.{Mark, begins, makes, loses, Row, row_end, row_then, split_row}
use Rattle.markdown_run_text.proofs.OpenStartTrees.{OpenTrees, outside, within, whole, put_row, marked_row, filled, filled_from_start}

-- the group of a label looks at the tree inside only as it is cut
module _ (kind : LabelKind) (marker : List Code) (back : List Code) (tail : Forest) where
  abbrev front : List Code
  front = start_marker kind marker

  label-same : (x y : Forest) → split x ≡ split y →
      split (label_group kind marker x back tail) ≡ split (label_group kind marker y back tail)
  label-same x y h = grind (arith, enter-same, exit-same, split-join)

-- Rows as they are cut.

abbrev split_open : OpenTrees → OpenTrees
split_open (outside u) = outside (split u)
split_open (within o m x) = within (split_open o) m (split x)

abbrev cut_whole : OpenTrees → Forest
cut_whole (outside u) = u
cut_whole (within o m x) = cut_whole o ⊕ (split (leaf N.Data m) ⊕ x)

whole-cut : (o : OpenTrees) → split (whole o) ≡ cut_whole (split_open o)
whole-cut (outside u) = refl
whole-cut (within o m x) = grind (arith, split-join, whole-cut o)

put-cut : (t : Forest) (o : OpenTrees) → split_open (put_row t o) ≡ put_row (split t) (split_open o)
put-cut t o = grind (arith, split-join)

abbrev cut_marked : Mark → OpenTrees → OpenTrees
cut_marked (begins kind marker) o = within o marker empty
cut_marked (makes back kind tail) (within o m x) = put_row (split (label_group kind m x back tail)) o
cut_marked (makes back kind tail) (outside u) = outside u
cut_marked loses (within o m x) = put_row (split (leaf N.Data m) ⊕ x) o
cut_marked loses (outside u) = outside u

marked-cut : (mark : Mark) (o : OpenTrees) → split_open (marked_row mark o) ≡ cut_marked mark (split_open o)
marked-cut (begins kind marker) o = refl
marked-cut (makes back kind tail) (outside u) = refl
marked-cut (makes back kind tail) (within o m x) = grind (arith, put-cut, label-same, split-twice)
marked-cut loses (outside u) = refl
marked-cut loses (within o m x) = grind (arith, put-cut, split-join)

abbrev cut_filled : Row → OpenTrees → OpenTrees
cut_filled (row_end t) o = put_row t o
cut_filled (row_then t mark rest) o = cut_filled rest (cut_marked mark (put_row t o))

filled-cut : (row : Row) (o : OpenTrees) → split_open (filled row o) ≡ cut_filled (split_row row) (split_open o)
filled-cut (row_end t) o = put-cut t o
filled-cut (row_then t mark rest) o = grind (arith, marked-cut, put-cut, filled-cut rest (marked_row mark (put_row t o)))

-- rows that are cut alike have grouped trees that are
pub filled-alike : (r q : Row) → split_row r ≡ split_row q →
    split (whole (filled_from_start r)) ≡ split (whole (filled_from_start q))
filled-alike r q e = grind (arith, whole-cut, filled-cut)
