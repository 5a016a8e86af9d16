-- Trees by depth: how many of the newest containers, one inside another, stand round a place.
use Rattle.std.specs.Prelude.{ℕ, zero, suc, List, [], ◌∷◌}
use Rattle.markdown_block_model.specs.BlockTree.{Container, Tree, nothing, and_leaf, and_container}

-- the newest containers, one inside another, the outermost first
abbrev pub spine : Tree → List Container
spine nothing = []
spine (and_leaf before leaf) = []
spine (and_container before c inside) = c ∷ spine inside

-- the siblings that stand so deep in the newest containers
abbrev pub inside_at : ℕ → Tree → Tree
inside_at zero t = t
inside_at (suc n) nothing = nothing
inside_at (suc n) (and_leaf before leaf) = and_leaf before leaf
inside_at (suc n) (and_container before c inside) = inside_at n inside

-- the tree with these siblings changed
abbrev pub at_depth : ℕ → (Tree → Tree) → Tree → Tree
at_depth zero f t = f t
at_depth (suc n) f nothing = nothing
at_depth (suc n) f (and_leaf before leaf) = and_leaf before leaf
at_depth (suc n) f (and_container before c inside) = and_container before c (at_depth n f inside)
