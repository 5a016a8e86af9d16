-- Rows of trees whose data stands on single lines.
use Rattle.markdown_content.specs.Tree.{Forest, empty, leaf_then, group_then, ◌⊕◌}
use Rattle.markdown_passes.specs.DataOnLines.{HasLines}

pub HasLines-row : (t u : Forest) → HasLines t → HasLines u → HasLines (t ⊕ u)
HasLines-row empty u h k = k
HasLines-row (leaf_then n l cs rest) u h k = (h.0, HasLines-row rest u h.1 k)
HasLines-row (group_then n a b inside rest) u h k = (h.0, (h.1.0, HasLines-row rest u h.1.1 k))
