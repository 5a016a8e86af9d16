-- The nodes of a forest, and how they stand in its events.
use Rattle.std.specs.Prelude.{◌≡◌, ℕ, suc, ◌+◌, List, [], ◌∷◌, ◌++◌, Option, None, Some, map, take, drop}
use Rattle.std.specs.List.{All}
use Rattle.markdown_content.specs.Codes.{Code, stop_of, document_start}
use Rattle.markdown_content.specs.Tree.{Forest, empty, leaf_then, group_then, start_of, event_count, events_from, events_of}
use Rattle.markdown_event.specs.declared.event.Content.{Content}
use Rattle.markdown_event.specs.declared.event.Event.{Event}
use Rattle.markdown_event.specs.declared.event.Kind.{Kind}
use Rattle.markdown_event.specs.declared.event.Kind.TheVariants.{Enter, Exit}
use Rattle.markdown_event.specs.declared.event.Name.{Name}
use Rattle.markdown_event.specs.declared.event.Point.{Point}
use Rattle.markdown_tree.specs.declared.node.Node.{Node}
use Rattle.markdown_tree.specs.Nodes.{enter_at, parent_at, first_child_at, next_sibling_at, node_at}

-- A tree of a forest: its node, the numbers of the nodes beside it, the linked sibling before it, and the tree itself, followed by its later
-- siblings.
pub record Placed : Type 0 where
  pub node : Node
  pub parent : Option ℕ
  pub child : Option ℕ
  pub next : Option ℕ
  pub linked : Option ℕ
  pub trees : Forest

-- the number of the first tree, where siblings begin with event n
abbrev pub first_of : ℕ → Forest → Option ℕ
first_of n empty = None
first_of n (leaf_then name link codes rest) = Some n
first_of n (group_then name enter exit inside rest) = Some n

-- the linked sibling before what follows a leaf
abbrev pub linked_behind : ℕ → Option ℕ → Option Content → Option ℕ
linked_behind n linked None = linked
linked_behind n linked (Some content) = Some n

abbrev pub placed_leaf : ℕ → Option ℕ → Option ℕ → Name → Option Content → List Code → Forest → Placed
placed_leaf n parent linked name link codes rest = record {
  node = record { enter = n; exit = n + 1; name = name; start = start_of codes; end = stop_of document_start codes };
  parent = parent;
  child = None;
  next = first_of (n + 2) rest;
  linked = linked;
  trees = leaf_then name link codes rest;
}

abbrev pub placed_group : ℕ → Option ℕ → Option ℕ → Name → Point → Point → Forest → Forest → Placed
placed_group n parent linked name enter exit inside rest = record {
  node = record { enter = n; exit = n + 1 + event_count inside; name = name; start = enter; end = exit };
  parent = parent;
  child = first_of (n + 1) inside;
  next = first_of (n + 2 + event_count inside) rest;
  linked = linked;
  trees = group_then name enter exit inside rest;
}

-- all trees of siblings that begin with event n, each before those inside it
abbrev pub placed_from : ℕ → Option ℕ → Option ℕ → Forest → List Placed
placed_from n parent linked empty = []
placed_from n parent linked (leaf_then name link codes rest) =
    placed_leaf n parent linked name link codes rest ∷ placed_from (n + 2) parent (linked_behind n linked link) rest
placed_from n parent linked (group_then name enter exit inside rest) =
    placed_group n parent linked name enter exit inside rest
    ∷ placed_from (n + 1) (Some n) None inside
    ++ placed_from (n + 2 + event_count inside) parent linked rest

-- all trees of a forest
abbrev pub placed_of : Forest → List Placed
placed_of f = placed_from 0 None None f

-- a tree's node in these events, the nodes beside it, and its events, followed by those of its later siblings
pub record StandsIn (es : List Event) (t : Placed) : Type 0 where
  pub enter : enter_at es t.node.enter ≡ Some t.node.enter
  pub node : node_at es t.node.enter ≡ Some t.node
  pub parent : parent_at es t.node.enter ≡ t.parent
  pub child : first_child_at es t.node.enter ≡ t.child
  pub next : next_sibling_at es t.node.enter ≡ t.next
  pub events : take (event_count t.trees) (drop t.node.enter es) ≡ events_from t.node.enter t.linked t.trees

abbrev pub enter_before : Kind → ℕ → List ℕ → List ℕ
enter_before Enter n ns = n ∷ ns
enter_before Exit n ns = ns

-- the numbers of the Enters, where the first event has number n
abbrev pub enters_from : ℕ → List Event → List ℕ
enters_from n [] = []
enters_from n (e ∷ es) = enter_before e.kind n (enters_from (suc n) es)

-- The nodes of a forest's events are its trees, in order, and each is where the tree stands.
abbrev pub NodesAreTrees : Type 0
NodesAreTrees =
    (f : Forest)
    → (enters_from 0 (events_of f) ≡ map (λ t. t.node.enter) (placed_of f)) × All (StandsIn (events_of f)) (placed_of f)
