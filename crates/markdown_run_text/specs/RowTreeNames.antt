-- What is said of the trees of a row.
use Rattle.std.specs.Prelude.{◌≡◌, ◌≢◌, ◌≤◌, ℕ, true, false, [], length, None}
use Rattle.std.specs.List.{list_any}
use Rattle.markdown_content.specs.Codes.{is_line_ending}
use Rattle.markdown_engine.specs.PastTree.{last_link}
use Rattle.markdown_content.specs.Tree.{Forest, empty, leaf_then, group_then, leaf_codes}
use Rattle.markdown_attention.specs.RunsRead.{is_run}
use Rattle.markdown_attention.specs.RunsOfTree.{has_run}
use Rattle.markdown_model.specs.SingleConstructs.{is_escape}
use Rattle.markdown_innermost.specs.OneLineLeaves.{makes_data}
use Rattle.markdown_passes.specs.MergedEvents.{is_data}
use Rattle.markdown_passes.specs.TrimmedEvents.{is_ending}

-- no data without a link and no run is empty or holds a line ending, and no group has the name of data or of a line ending
abbrev pub HasRowLines : Forest → Type 0
HasRowLines empty = Unit {0}
HasRowLines (leaf_then name link cs rest) = (makes_data name ≡ true → link ≡ None → (cs ≢ []) × (list_any is_line_ending cs ≡ false)) × HasRowLines rest
HasRowLines (group_then name enter exit inside rest) = ((is_data name ≡ false) × (is_ending name ≡ false)) × (HasRowLines inside × HasRowLines rest)

-- neither data nor a run of markers stands in it, and no group has the name of data or of a line ending
abbrev pub HasNoDataOrRuns : Forest → Type 0
HasNoDataOrRuns empty = Unit {0}
HasNoDataOrRuns (leaf_then name link cs rest) = (is_data name ≡ false) × ((is_run name ≡ false) × HasNoDataOrRuns rest)
HasNoDataOrRuns (group_then name enter exit inside rest) = ((is_data name ≡ false) × (is_ending name ≡ false)) × (HasNoDataOrRuns inside × HasNoDataOrRuns rest)

-- no run of markers stands in it
abbrev pub IsRunless : Forest → Type 0
IsRunless empty = Unit {0}
IsRunless (leaf_then name link cs rest) = (is_run name ≡ false) × IsRunless rest
IsRunless (group_then name enter exit inside rest) = IsRunless inside × IsRunless rest

-- runs of markers stand among the siblings, none inside their groups
abbrev pub HasOuterRuns : Forest → Type 0
HasOuterRuns empty = Unit {0}
HasOuterRuns (leaf_then name link cs rest) = HasOuterRuns rest
HasOuterRuns (group_then name enter exit inside rest) = IsRunless inside × HasOuterRuns rest

-- one leaf without a link, or one group
abbrev pub IsSingle : Forest → Type 0
IsSingle empty = ⊥
IsSingle (leaf_then name link cs rest) = (link ≡ None) × ((is_escape name ≡ false) × (rest ≡ empty))
IsSingle (group_then name enter exit inside rest) = rest ≡ empty

-- the tree of a construct that stands by itself
pub record IsNode (t : Forest) : Type 0 where
  pub single : IsSingle t
  pub quiet : HasNoDataOrRuns t

-- the tree of a run of markers: one leaf that stands by itself
pub record IsRunLeaf (t : Forest) : Type 0 where
  pub single : IsSingle t
  pub has_lines : HasRowLines t
  pub outer : HasOuterRuns t
  pub runs : has_run t ≡ true
  pub some : 1 ≤ length (leaf_codes t)

-- a tree of a row: its data stands on single lines, its runs in the row itself, and it is linked with nothing behind it
pub record IsRowPart (t : Forest) : Type 0 where
  pub lines : HasRowLines t
  pub outer : HasOuterRuns t
  pub apart : (n : ℕ) → last_link n None t ≡ None
