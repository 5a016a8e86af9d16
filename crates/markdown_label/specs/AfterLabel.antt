-- What may follow a label, as the rows of a text ask for it.
use Rattle.std.specs.Prelude.{◌≡◌, false}
use Rattle.markdown_content.specs.Tree.{Forest, empty, leaf_then, group_then}
use Rattle.markdown_model.specs.SingleConstructs.{is_escape}
use Rattle.markdown_passes.specs.DataOnLines.{HasLines}

-- nothing, or one group that is no escape
abbrev pub IsTail : Forest → Type 0
IsTail empty = Unit {0}
IsTail (leaf_then name link cs rest) = ⊥
IsTail (group_then name a b inside rest) = (is_escape name ≡ false) × (rest ≡ empty)

-- and its data, where it is not linked, stands on single lines
pub record IsSoundTail (t : Forest) : Type 0 where
  pub tail : IsTail t
  pub lines : HasLines t
