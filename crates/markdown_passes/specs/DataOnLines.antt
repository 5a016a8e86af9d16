-- Trees whose data stands on single lines.
use Rattle.std.specs.Prelude.{◌≡◌, ◌≢◌, true, false, [], None}
use Rattle.std.specs.List.{list_any}
use Rattle.markdown_content.specs.Codes.{is_line_ending}
use Rattle.markdown_content.specs.Tree.{Forest, empty, leaf_then, group_then}
use Rattle.markdown_passes.specs.MergedEvents.{is_data}
use Rattle.markdown_passes.specs.TrimmedEvents.{is_ending}

-- no data without a link is empty or holds a line ending, and no group has the name of data or of a line ending
abbrev pub HasLines : Forest → Type 0
HasLines empty = Unit {0}
HasLines (leaf_then name link cs rest) = (is_data name ≡ true → link ≡ None → (cs ≢ []) × (list_any is_line_ending cs ≡ false)) × HasLines rest
HasLines (group_then name enter exit inside rest) = ((is_data name ≡ false) × (is_ending name ≡ false)) × (HasLines inside × HasLines rest)
