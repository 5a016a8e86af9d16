-- Each pair of a container's list is a group of the tree.
use Rattle.std.specs.Prelude.{◌≡◌, ℕ, ◌+◌, Bool, true, false, List, ◌++◌, length, Contains, None, if◌then◌else◌}
use Rattle.markdown_event.specs.declared.event.Name.{Name}
use Rattle.markdown_content.specs.Codes.{Code}
use Rattle.markdown_content.specs.Tree.{Forest, empty, leaf_then, group_then}
use Rattle.markdown_model.specs.Setting.{Setting}
use Rattle.markdown_model.specs.Runs.{Run, containers_of}
use Rattle.markdown_model.specs.Pairs.{Pair, run_at, pair_list}
use Rattle.markdown_model.specs.InlineTree.{label_tree, text_tree, pair_count}

-- emphasis, strong emphasis and strikethrough
abbrev pub is_pair : Name → Bool
is_pair Name.Emphasis = true
is_pair Name.Strong = true
is_pair Name.GfmStrikethrough = true
is_pair _ = false

-- the groups of pairs among siblings and inside them
abbrev pub pair_groups : Forest → ℕ
pair_groups empty = 0
pair_groups (leaf_then name link cs rest) = pair_groups rest
pair_groups (group_then name enter exit inside rest) = (if is_pair name then 1 else 0) + pair_groups inside + pair_groups rest

-- The inline tree of a text has as many such groups as there are pairs in the lists of its containers. So no marker that a
-- pair takes is left without its partner.
abbrev pub EachPairIsAGroup : Type 0
EachPairIsAGroup = (s : Setting) (cs : List Code) → pair_groups (text_tree s cs) ≡ pair_count s (label_tree s cs)

-- the markers of a pair
abbrev pub is_sequence : Name → Bool
is_sequence Name.EmphasisSequence = true
is_sequence Name.StrongSequence = true
is_sequence Name.GfmStrikethroughSequence = true
is_sequence _ = false

-- a group of a pair holds two sequences of one name, of whose codes this is said, with a text between them
abbrev pub HasSides : (List Code → List Code → Type 0) → Forest → Type 0
HasSides P (leaf_then name None front (group_then text enter exit inside (leaf_then other None back empty))) =
    (is_sequence name ≡ true) × (name ≡ other) × P front back
HasSides P _ = ⊥

-- each group of a pair, among siblings and inside them, is so
abbrev pub EachPairHas : (List Code → List Code → Type 0) → Forest → Type 0
EachPairHas P empty = Unit {0}
EachPairHas P (leaf_then name link cs rest) = EachPairHas P rest
EachPairHas P (group_then name enter exit inside rest) = (is_pair name ≡ true → HasSides P inside) × EachPairHas P inside × EachPairHas P rest

-- in the inline tree of a text what closes a pair is as long as what opens it
abbrev pub PairsAreEven : Type 0
PairsAreEven = (s : Setting) (cs : List Code) → EachPairHas (λ front back. length front ≡ length back) (text_tree s cs)

-- the first codes stand one after another among the others
abbrev pub IsPartOf : List Code → List Code → Type 0
IsPartOf part whole = (before : List Code) × (after : List Code) × (whole ≡ before ++ (part ++ after))

-- they are markers of the two runs of a pair of one container, as many of each as the pair takes
pub record AreOfPair (s : Setting) (tree : Forest) (front back : List Code) : Type 0 where
  pub runs : List Run
  pub pair : Pair
  pub container : Contains (containers_of s tree) runs
  pub listed : Contains (pair_list s runs) pair
  pub opener : IsPartOf front (run_at runs pair.opener).codes
  pub closer : IsPartOf back (run_at runs pair.closer).codes
  pub opener_size : length front ≡ pair.size
  pub closer_size : length back ≡ pair.size

-- in the inline tree of a text the group of each pair has markers of its opener's run in front, and of its closer's at its back
abbrev pub PairsTakeTheirMarkers : Type 0
PairsTakeTheirMarkers = (s : Setting) (cs : List Code) → EachPairHas (AreOfPair s (label_tree s cs)) (text_tree s cs)
