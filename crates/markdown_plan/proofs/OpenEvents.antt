-- Events that stand open.
use Rattle.std.proofs.Common.{◌≡◌, List, [], ◌∷◌, drop}
use Rattle.markdown_content.specs.ListFunctions.{rest_of}
use Rattle.markdown_event.specs.declared.event.Name.{Name}

-- where the innermost is closed, the next is open
pub second-open : (xs : List Name) (a b : Name) → xs ≡ a ∷ b ∷ drop 2 xs → rest_of xs ≡ b ∷ rest_of (rest_of xs)
second-open [] a b e = cc
second-open (x ∷ []) a b e = cc
second-open (x ∷ y ∷ ys) a b e = cc
