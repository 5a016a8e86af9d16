use Rattle.markdown_tree.proofs.ForestNodesLemmas.{nodes-are-trees}
use Rattle.markdown_tree.proofs.laws.nodes_are_trees.Goals as goal

pub returns : goal.returns
returns c = nodes-are-trees
