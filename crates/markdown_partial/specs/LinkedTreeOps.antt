-- The operations that pass a tree with linked leaves.
use Rattle.std.specs.Prelude.{◌≡◌, ◌≢◌, Bool, true, false, List, [], ◌∷◌, ◌++◌, Option, Some, None, if◌then◌else◌}
use Rattle.markdown_content.specs.Codes.{Code, stop_of, document_start}
use Rattle.markdown_engine.specs.Operations.{Op, Enter, Exit, EnterLink, EnterConnected}
use Rattle.markdown_engine.specs.PastTree.{TreeReading}
use Rattle.markdown_content.specs.Tree.{Forest, empty, leaf_then, group_then, leaf_codes, start_of}
use Rattle.markdown_engine.specs.TreeOps.{consumes}
use Rattle.markdown_event.specs.declared.event.Content.{Content}
use Rattle.markdown_event.specs.declared.event.Name.{Name}
use Rattle.markdown_plan.specs.Plan.{Plan}

-- the Enter of a leaf; `linked` says that a linked sibling stands just before
abbrev pub enter_op : Bool → Name → Option Content → Op
enter_op linked name None = Enter name
enter_op linked name (Some c) = if linked then EnterConnected name c else EnterLink name c

abbrev pub has_content : Option Content → Bool
has_content None = false
has_content (Some c) = true

-- the operations of siblings
abbrev pub linked_ops : Bool → Forest → List Op
linked_ops linked empty = []
linked_ops linked (leaf_then name link cs rest) = enter_op linked name link ∷ (consumes cs ++ Exit name ∷ linked_ops (has_content link) rest)
linked_ops linked (group_then name enter exit inside rest) = Enter name ∷ (linked_ops false inside ++ Exit name ∷ linked_ops false rest)

abbrev pub tree_ops : Option (Forest × List Code) → Option (List Op)
tree_ops None = None
tree_ops (Some r) = Some (linked_ops false r.0)

-- the plan of the trees that a reading gives
abbrev pub plan_of : TreeReading → Plan
plan_of reading cs = tree_ops (reading cs)

-- Behind a linked leaf stand linked leaves alone as siblings; no leaf is empty, and each group reaches from its first code to its last.
abbrev pub IsLinkedInOrder : Bool → Forest → Type 0
IsLinkedInOrder linked empty = Unit {0}
IsLinkedInOrder linked (leaf_then name link cs rest) = (linked ≡ true → has_content link ≡ true) × ((cs ≢ []) × IsLinkedInOrder (has_content link) rest)
IsLinkedInOrder linked (group_then name enter exit inside rest) =
    (linked ≡ false)
    × ((leaf_codes inside ≢ [])
    × ((enter ≡ start_of (leaf_codes inside)) ×
    ((exit ≡ stop_of document_start (leaf_codes inside)) × (IsLinkedInOrder false inside × IsLinkedInOrder false rest))))
