-- How many blocks a reader has.
use Rattle.std.proofs.Common.{◌≡◌, ℕ, zero, suc, ◌+◌, ◌≤◌, refl, subst, sym, List, [], ◌∷◌, length, map, Option, Some, None, is_some, if◌then◌else◌, arith}
use Rattle.std.proofs.lemmas.List.{length-map}
use Rattle.markdown_block_model.specs.BlockTree.{Leaf, Container, Tree, nothing, and_leaf, and_container}
use Rattle.markdown_block_model.specs.BlockLines.{block_count}
use Rattle.markdown_block_line.specs.LineBlocks.{container_of}
use Rattle.markdown_blocks.specs.TreeDepth.{spine, at_depth}
use Rattle.markdown_blocks.specs.BlockRows.{leaf_of, with_row, rows_from, closed_tree, with_open, whole_tree, depth, row_count, IsBetween}
use Rattle.markdown_blocks.specs.NestedRows.{AreNested}
use Rattle.markdown_blocks.specs.declared.block.Leaf as declared
use Rattle.markdown_blocks.specs.declared.block.Row.{Row}
use Rattle.markdown_blocks.specs.declared.block.Row.TheVariants.{LeafAt, ContainerAt}
use Rattle.markdown_blocks.specs.declared.reader.Reader.{Reader}
use Rattle.markdown_blocks.proofs.DepthLemmas.{length-front}
use Rattle.markdown_blocks.proofs.NestedRowLemmas.{spine-leaf, spine-container}

-- one more sibling inside the newest containers
count-deeper : (f : Tree → Tree) → ((s : Tree) → block_count (f s) ≡ suc (block_count s)) → (n : ℕ) (t : Tree) → n ≤ length (spine t) → block_count (at_depth n f t) ≡ suc (block_count t)
count-deeper f h zero t l = h t
count-deeper f h (suc n) nothing l = absurd (omega arith)
count-deeper f h (suc n) (and_leaf b m) l = absurd (omega arith)
count-deeper f h (suc n) (and_container b c i) l = omega (arith, count-deeper f h n i (omega arith))

count-leaf : (n : ℕ) (l : Leaf) (t : Tree) → n ≤ length (spine t) → block_count (at_depth n (λ s. and_leaf s l) t) ≡ suc (block_count t)
count-leaf n l t h = count-deeper (λ s. and_leaf s l) (λ s. refl) n t h

count-container : (n : ℕ) (c : Container) (t : Tree) → n ≤ length (spine t) → block_count (at_depth n (λ s. and_container s c nothing) t) ≡ suc (block_count t)
count-container n c t h = count-deeper (λ s. and_container s c nothing) (λ s. omega arith) n t h

pub count-rows : (bytes : List ℕ) (rs : List Row) (t : Tree) → AreNested (length (spine t)) rs → block_count (rows_from bytes t rs) ≡ block_count t + length rs
count-rows bytes [] t h = omega arith
count-rows bytes (LeafAt d l ∷ rs) t h =
    let e : length (spine (with_row bytes (LeafAt d l) t)) ≡ d = spine-leaf d (leaf_of bytes l) t h.0 in
    omega (arith, count-leaf d (leaf_of bytes l) t h.0, count-rows bytes rs (with_row bytes (LeafAt d l) t) (subst (λ n. AreNested n rs) (sym e) h.1))
count-rows bytes (ContainerAt d c ∷ rs) t h =
    let e : length (spine (with_row bytes (ContainerAt d c) t)) ≡ suc d = spine-container d (container_of c) t h.0 in
    omega (arith, count-container d (container_of c) t h.0, count-rows bytes rs (with_row bytes (ContainerAt d c) t) (subst (λ n. AreNested n rs) (sym e) h.1))

pub count-read : (bytes : List ℕ) (r : Reader) → IsBetween bytes r → AreNested 0 r.rows.items → block_count (whole_tree bytes r) ≡ row_count r
count-read bytes r h nested = by_open r.open refl
  where
    closed : block_count (closed_tree bytes r) ≡ length r.rows.items
    closed = omega (arith, count-rows bytes r.rows.items nothing nested)

    by_open : (o : Option declared.Leaf) → r.open ≡ o → block_count (with_open bytes (depth r) o (closed_tree bytes r)) ≡ length r.rows.items + (if is_some o then 1 else 0)
    by_open None e = omega (arith, closed)
    by_open (Some l) e = omega (arith, closed, count-leaf (depth r) (leaf_of bytes l) (closed_tree bytes r) (length-front (depth r) (spine (closed_tree bytes r)) (map container_of r.path) h.is_front.front (simp length-map)))
