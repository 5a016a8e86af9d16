-- Of which trees the pass is said.
use Rattle.std.specs.Prelude.{◌≡◌, ◌≢◌, ℕ, ◌+◌, true, false, [], None}
use Rattle.markdown_content.specs.Tree.{Forest, empty, leaf_then, group_then, start_of, event_count}
use Rattle.markdown_event.specs.declared.event.Point.{Point}
use Rattle.markdown_model.specs.Runs.{marker_of}
use Rattle.markdown_attention.specs.RunsRead.{is_run}
use Rattle.markdown_attention.specs.RunsOfTree.{has_run}
use Rattle.markdown_attention.specs.RunEvents.{IsStripe}
use Rattle.markdown_attention.specs.TokenWord.{IsUnlinkedRow}

-- each run is a leaf over markers one after another, and no leaf among its siblings is linked
abbrev pub HasStripes : Forest → Type 0
HasStripes empty = Unit {0}
HasStripes (leaf_then name link cs rest) = (is_run name ≡ true → (link ≡ None) × ((cs ≢ []) × IsStripe (marker_of cs) (start_of cs) cs)) × HasStripes rest
HasStripes (group_then name enter exit inside rest) =
    ((is_run name ≡ false) × (has_run inside ≡ true → IsUnlinkedRow inside)) × (HasStripes inside × HasStripes rest)

abbrev pub IsStriped : Forest → Type 0
IsStriped tree = (has_run tree ≡ true → IsUnlinkedRow tree) × HasStripes tree

-- the runs among siblings, and those inside them, stand where `at` says; n events come before
abbrev pub HavePoints : (ℕ → Point) → ℕ → Forest → Type 0
HavePoints at n empty = Unit {0}
HavePoints at n (leaf_then name link cs rest) = (is_run name ≡ true → at n ≡ start_of cs) × HavePoints at (n + 2) rest
HavePoints at n (group_then name enter exit inside rest) = HavePoints at (n + 1) inside × HavePoints at (n + 2 + event_count inside) rest
