-- The definitions of siblings behind siblings are those of the first, and then those of the second.
use Rattle.std.proofs.Common.{◌≡◌, refl, sym, ap, ◌∙◌, ◌++◌, append-nil, append_assoc}
use Rattle.markdown_block_model.specs.BlockTree.{Tree, nothing, and_leaf, and_container}
use Rattle.markdown_block_model.specs.LinkDefinitions.{text_of_leaf, resolved, definitions_in, definitions_within}
use Rattle.markdown_block_model.specs.SiblingTrees.{joined, DefinitionsStand}

resolved-joined : (a t : Tree) → resolved (joined a t) ≡ joined (resolved a) (resolved t)
resolved-joined a nothing = refl
resolved-joined a (and_leaf before l) = ap (λ s. and_leaf s (text_of_leaf l)) (resolved-joined a before)
resolved-joined a (and_container before c inside) = ap (λ s. and_container s c (resolved inside)) (resolved-joined a before)

within-joined : (a t : Tree) → definitions_within (joined a t) ≡ definitions_within a ++ definitions_within t
within-joined a nothing = sym (append-nil (definitions_within a))
within-joined a (and_leaf before l) =
    ap (λ ds. ds ++ definitions_in l) (within-joined a before) ∙ append_assoc (definitions_within a) (definitions_within before) (definitions_in l)
within-joined a (and_container before c inside) =
    ap (λ ds. ds ++ definitions_within inside) (within-joined a before) ∙ append_assoc (definitions_within a) (definitions_within before) (definitions_within inside)

pub definitions_stand : DefinitionsStand
definitions_stand = record { trees = resolved-joined; definitions = within-joined }
