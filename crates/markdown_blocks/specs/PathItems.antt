-- Items at the end of a path.
use Rattle.std.specs.Prelude.{ℕ, suc, zero, ◌+◌, ◌<◌, ◌≤◌, ◌≡◌, List, [], ◌∷◌, length, Bool, true, false}
use Rattle.markdown_block_line.specs.declared.containers.Container.{Container}
use Rattle.markdown_block_line.specs.declared.containers.Container.TheVariants.{Quote, Item}

abbrev pub is_item : Container → Bool
is_item Quote = false
is_item (Item m columns) = true

abbrev pub is_item_at : ℕ → List Container → Bool
is_item_at n [] = false
is_item_at zero (c ∷ cs) = is_item c
is_item_at (suc n) (c ∷ cs) = is_item_at n cs

-- the last containers, so many, are items
pub record EndsWithItems (row : ℕ) (cs : List Container) : Type 0 where
  pub within : row ≤ length cs
  pub items : (k : ℕ) → length cs ≤ k + row → k < length cs → is_item_at k cs ≡ true
