-- Readings of trees without empty or linked leaves, whose groups reach from their first code to their last. What stands by itself is read so.
use Rattle.std.proofs.Common.{◌≢◌, ℕ, ◌≤◌, List, [], ◌∷◌, length, refl, sym, subst, ◌∙◌, arith}
use Rattle.markdown_event.specs.declared.event.Name.{Name}
use Rattle.markdown_content.specs.Codes.{Code}
use Rattle.markdown_content.specs.Tree.{Forest, empty, leaf_then, group_then, leaf, group, ◌⊕◌, leaf_codes}
use Rattle.markdown_engine.specs.TreeOps.{IsSolid}
use Rattle.markdown_engine.proofs.SolidTrees.{IsSolid-leaf, IsSolid-row, IsSolid-group}
use Rattle.markdown_model.specs.Grammar.{Reading}
use Rattle.markdown_model.proofs.ReadingsCover.{Covers}
use Rattle.markdown_model.proofs.NoLinkInConstructs.{Yields}
use Rattle.markdown_model.proofs.OneLineReadings.{yields-weaker}
use Rattle.markdown_model.proofs.LeafRows.{Leaves}
use Rattle.markdown_model.proofs.PlainConstructs.{IsOwnLeaf, IsPlainTree, ReadsPlain, leaves-some}

-- the leaves of such a tree cover the codes that are passed
pub record ReadsSolid (r : Reading Forest) : Type 0 where
  pub covers : Covers leaf_codes [] r
  pub solid : Yields IsSolid r

-- a group that begins with a leaf over some codes
pub solid-marked : (n m : Name) (cs : List Code) (more : Forest) → cs ≢ [] → IsSolid more → IsSolid (group n (leaf m cs ⊕ more))
solid-marked n m [] more some h = absurd (some refl)
solid-marked n m (c ∷ cs) more some h =
    IsSolid-group n (leaf m (c ∷ cs) ⊕ more) (λ e. cc) (IsSolid-row (leaf m (c ∷ cs)) more (IsSolid-leaf m (c ∷ cs)) h)

leaves-solid : (bytes : List ℕ) (t : Forest) → Leaves (IsOwnLeaf bytes) t → IsSolid t
leaves-solid bytes empty h = tt
leaves-solid bytes (leaf_then name link cs rest) h = (h.0.unlinked, (h.0.some, leaves-solid bytes rest h.1))
leaves-solid bytes (group_then name enter exit inside rest) h = absurd h

some-codes : (cs : List Code) → 1 ≤ length cs → cs ≢ []
some-codes [] h = absurd (omega (arith, h))
some-codes (c ∷ cs) h = λ e. cc

plain-solid : (bytes : List ℕ) (t : Forest) → IsPlainTree bytes t → IsSolid t
plain-solid bytes empty h = absurd h
plain-solid bytes (leaf_then name link cs rest) h = (h.0.unlinked, (h.0.some, subst IsSolid (sym h.1) tt))
plain-solid bytes (group_then name enter exit inside rest) h =
    let some : leaf_codes inside ≢ [] = some-codes (leaf_codes inside) (leaves-some bytes inside h.0.leaves h.0.some) in
    let g : IsSolid (group name inside) = IsSolid-group name inside some (leaves-solid bytes inside h.0.leaves) in
    (g.0, (h.0.enters ∙ g.1.0, (h.0.exits ∙ g.1.1.0, (g.1.1.1.0, subst IsSolid (sym h.1) tt))))

pub plain-reads : (bytes : List ℕ) (r : Reading Forest) → ReadsPlain bytes r → ReadsSolid r
plain-reads bytes r h =
    record { covers = h.covers; solid = yields-weaker (IsPlainTree bytes) IsSolid (plain-solid bytes) r h.plain }
