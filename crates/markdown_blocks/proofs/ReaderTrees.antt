-- What rows and open blocks mean.
use Rattle.std.proofs.Common.{◌≡◌, ℕ, zero, suc, ◌≤◌, ◌<◌, refl, ap, ◌∙◌, List, [], ◌∷◌, ◌++◌, length, take, map, true, false, Option, Some, None, arith, length-append, get_or}
use Rattle.std.proofs.lemmas.List.{map-append, length-map}
use Rattle.markdown_block_model.specs.BlockTree.{Tree, nothing, and_leaf, and_container}
use Rattle.markdown_block_model.specs.DocumentBlocks.{is_nothing}
use Rattle.markdown_block_line.specs.LineBlocks.{container_of}
use Rattle.markdown_block_line.specs.declared.containers.Container.{Container}
use Rattle.markdown_blocks.specs.TreeDepth.{spine, inside_at, at_depth}
use Rattle.markdown_blocks.specs.BlockRows.{with_row, rows_from, leaf_of, container_in, with_open, whole_tree, closed_tree, depth, IsNewestPath, IsBetween, IsStanding, IsDeeper}
use Rattle.markdown_blocks.specs.declared.reader.Reader.{Reader}
use Rattle.markdown_blocks.specs.declared.block.Row.{Row}
use Rattle.markdown_blocks.specs.declared.block.Row.TheVariants.{LeafAt, ContainerAt}
use Rattle.markdown_blocks.specs.declared.block.Leaf.{Leaf}
use Rattle.markdown_blocks.proofs.ContainerWalks.{filled-outside}
use Rattle.markdown_blocks.proofs.DepthLemmas.{take-spine, take-spine-deeper, length-front, inside-deeper, inside-at_depth}

pub rows_from-push : (bytes : List ℕ) (rs : List Row) (r : Row) (t : Tree) → rows_from bytes t (rs ++ r ∷ []) ≡ with_row bytes r (rows_from bytes t rs)
rows_from-push bytes [] r t = refl
rows_from-push bytes (q ∷ rs) r t = rows_from-push bytes rs r (with_row bytes q t)

pub put-leaf : (bytes : List ℕ) (rs ps : List Row) (n m : ℕ) (l : Leaf) → ps ≡ rs ++ LeafAt n l ∷ [] → n ≡ m
    → rows_from bytes nothing ps ≡ at_depth m (λ s. and_leaf s (leaf_of bytes l)) (rows_from bytes nothing rs)
put-leaf bytes rs ps n m l h e = rw (h, e) (rows_from-push bytes rs (LeafAt m l) nothing)

put-container : (bytes : List ℕ) (rs ps : List Row) (n m : ℕ) (d : Container) → ps ≡ rs ++ ContainerAt n d ∷ [] → n ≡ m
    → rows_from bytes nothing ps ≡ at_depth m (λ s. and_container s (container_of d) nothing) (rows_from bytes nothing rs)
put-container bytes rs ps n m d h e = rw (h, e) (rows_from-push bytes rs (ContainerAt m d) nothing)

-- the path is as long as the spine at most
front-le : (ps : List Container) (t : Tree) → take (length ps) (spine t) ≡ map container_of ps → length ps ≤ length (spine t)
front-le ps t h = length-front (length ps) (spine t) (map container_of ps) h (simp length-map)

front-container : (ps : List Container) (d : Container) (t : Tree) → take (length ps) (spine t) ≡ map container_of ps
    → take (length (ps ++ d ∷ [])) (spine (at_depth (length ps) (λ s. and_container s (container_of d) nothing) t)) ≡ map container_of (ps ++ d ∷ [])
front-container ps d t h =
    let e : length (ps ++ d ∷ []) ≡ suc (length ps) = omega (arith, length-append ps (d ∷ [])) in
    rw (e, map-append container_of ps (d ∷ [])) (take-spine-deeper (length ps) (container_of d) t (front-le ps t h) ∙ ap (λ s. s ++ container_of d ∷ []) h)

empty-container : (ps : List Container) (d : Container) (t : Tree) → take (length ps) (spine t) ≡ map container_of ps
    → inside_at (length (ps ++ d ∷ [])) (at_depth (length ps) (λ s. and_container s (container_of d) nothing) t) ≡ nothing
empty-container ps d t h =
    let e : length (ps ++ d ∷ []) ≡ suc (length ps) = omega (arith, length-append ps (d ∷ [])) in
    rw e (inside-deeper (length ps) (container_of d) t (front-le ps t h))

-- a leaf is closed
pub standing-leaf : (bytes : List ℕ) (r a : Reader) (l : Leaf) → closed_tree bytes a ≡ at_depth (depth r) (λ s. and_leaf s (leaf_of bytes l)) (closed_tree bytes r) → a.path ≡ r.path → a.open ≡ r.open
    → IsStanding bytes r → IsStanding bytes a
standing-leaf bytes r a l t p o h = record {
  is_front = record { front = rw (t, p) (take-spine (depth r) (λ s. and_leaf s (leaf_of bytes l)) (closed_tree bytes r) ∙ h.is_front.front) };
  open_none = o ∙ h.open_none;
}

-- a container is opened
pub deeper : (bytes : List ℕ) (r a : Reader) (d : Container) (n : ℕ) → a.rows.items ≡ r.rows.items ++ ContainerAt n d ∷ [] → n ≡ depth r → a.path ≡ r.path ++ d ∷ [] → a.open ≡ r.open
    → IsStanding bytes r → IsDeeper bytes (container_of d) r a
deeper bytes r a d n h e p o s =
    let t : closed_tree bytes a ≡ at_depth (depth r) (λ x. and_container x (container_of d) nothing) (closed_tree bytes r) = put-container bytes r.rows.items a.rows.items n (depth r) d h e in
    record {
      tree = t;
      deeper = rw p (omega (arith, length-append r.path (d ∷ [])));
      standing = record { is_front = record { front = rw (t, p) (front-container r.path d (closed_tree bytes r) s.is_front.front) }; open_none = o ∙ s.open_none };
      empty = rw (t, p) (empty-container r.path d (closed_tree bytes r) s.is_front.front);
    }

open-spine : (bytes : List ℕ) (n : ℕ) (o : Option Leaf) (t : Tree) → take n (spine (with_open bytes n o t)) ≡ take n (spine t)
open-spine bytes n None t = refl
open-spine bytes n (Some l) t = take-spine n (λ s. and_leaf s (leaf_of bytes l)) t

pub whole-front : (bytes : List ℕ) (r : Reader) → IsBetween bytes r → take (depth r) (spine (whole_tree bytes r)) ≡ map container_of r.path
whole-front bytes r h = open-spine bytes (depth r) r.open (closed_tree bytes r) ∙ h.is_front.front

pub whole-le : (bytes : List ℕ) (r : Reader) → IsBetween bytes r → depth r ≤ length (spine (whole_tree bytes r))
whole-le bytes r h = front-le r.path (whole_tree bytes r) (whole-front bytes r h)

pub closed-le : (bytes : List ℕ) (r : Reader) → IsNewestPath bytes r → depth r ≤ length (spine (closed_tree bytes r))
closed-le bytes r h = front-le r.path (closed_tree bytes r) h.front

pub nothing-outside : (bytes : List ℕ) (r : Reader) (n : ℕ) → IsBetween bytes r → suc n < depth r → is_nothing (inside_at (suc n) (whole_tree bytes r)) ≡ false
nothing-outside bytes r n h k = let e : depth r ≤ length (spine (whole_tree bytes r)) = whole-le bytes r h in filled-outside (suc n) (whole_tree bytes r) (omega arith)

pub nothing-none : (bytes : List ℕ) (r : Reader) (n : ℕ) → IsBetween bytes r → suc n ≡ depth r → r.open ≡ None → is_nothing (inside_at (suc n) (whole_tree bytes r)) ≡ true
nothing-none bytes r n h k o = rw (k, o) (ap is_nothing (h.empty o))

pub nothing-some : (bytes : List ℕ) (r : Reader) (n : ℕ) (l : Leaf) → IsBetween bytes r → suc n ≡ depth r → r.open ≡ Some l → is_nothing (inside_at (suc n) (whole_tree bytes r)) ≡ false
nothing-some bytes r n l h k o = rw (k, o) (ap is_nothing (inside-at_depth (depth r) (λ s. and_leaf s (leaf_of bytes l)) (closed_tree bytes r) (closed-le bytes r h.is_front)))

pub container-at : (ps : List Container) (n : ℕ) (d : Container) → n < length ps → container_in n ps ≡ container_of (get_or ps n d)
container-at [] n d h = absurd (omega arith)
container-at (p ∷ ps) zero d h = refl
container-at (p ∷ ps) (suc n) d h = container-at ps n d (omega arith)

close-front : (ps : List Container) (o : ℕ) (t : Tree) → o ≤ length ps → take (length ps) (spine t) ≡ map container_of ps → take (length (take o ps)) (spine t) ≡ map container_of (take o ps)
close-front ps zero t h e = refl
close-front [] (suc o) t h e = absurd (omega arith)
close-front (p ∷ ps) (suc o) nothing h e = absurd (omega (arith, ap length e))
close-front (p ∷ ps) (suc o) (and_leaf b l) h e = absurd (omega (arith, ap length e))
close-front (p ∷ ps) (suc o) (and_container b c i) h e =
    let d : c ≡ container_of p = cc in
    let k : take (length ps) (spine i) ≡ map container_of ps = cc in
    let r : take (length (take o ps)) (spine i) ≡ map container_of (take o ps) = close-front ps o i (omega arith) k in
    rw (d, r) refl

-- containers are closed
pub standing-cut : (bytes : List ℕ) (r a : Reader) (o : ℕ) → o ≤ depth r → a.rows ≡ r.rows → a.path ≡ take o r.path → a.open ≡ r.open → IsStanding bytes r → IsStanding bytes a
standing-cut bytes r a o h rs p q s = record {
  is_front = record { front = rw (rs, p) (close-front r.path o (closed_tree bytes r) h s.is_front.front) };
  open_none = q ∙ s.open_none;
}
