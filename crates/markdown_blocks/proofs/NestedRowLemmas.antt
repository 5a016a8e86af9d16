-- Rows that are nested, with more behind them.
use Rattle.std.proofs.Common.{◌≡◌, ℕ, zero, suc, ◌≤◌, refl, ap, sym, subst, List, [], ◌∷◌, ◌++◌, length, arith}
use Rattle.markdown_block_model.specs.BlockTree.{Leaf, Container, Tree, nothing, and_leaf, and_container}
use Rattle.markdown_block_line.specs.LineBlocks.{container_of}
use Rattle.markdown_blocks.specs.TreeDepth.{spine, at_depth}
use Rattle.markdown_blocks.specs.BlockRows.{leaf_of, with_row, rows_from}
use Rattle.markdown_blocks.specs.NestedRows.{AreNested}
use Rattle.markdown_blocks.specs.declared.block.Row.{Row}
use Rattle.markdown_blocks.specs.declared.block.Row.TheVariants.{LeafAt, ContainerAt}

pub spine-leaf : (n : ℕ) (l : Leaf) (t : Tree) → n ≤ length (spine t) → length (spine (at_depth n (λ s. and_leaf s l) t)) ≡ n
spine-leaf zero l t h = refl
spine-leaf (suc n) l nothing h = absurd (omega arith)
spine-leaf (suc n) l (and_leaf b m) h = absurd (omega arith)
spine-leaf (suc n) l (and_container b c i) h = ap suc (spine-leaf n l i (omega arith))

pub spine-container : (n : ℕ) (c : Container) (t : Tree) → n ≤ length (spine t) → length (spine (at_depth n (λ s. and_container s c nothing) t)) ≡ suc n
spine-container zero c t h = refl
spine-container (suc n) c nothing h = absurd (omega arith)
spine-container (suc n) c (and_leaf b m) h = absurd (omega arith)
spine-container (suc n) c (and_container b d i) h = ap suc (spine-container n c i (omega arith))

pub nested-append : (bytes : List ℕ) (rs qs : List Row) (t : Tree) → AreNested (length (spine t)) rs → AreNested (length (spine (rows_from bytes t rs))) qs → AreNested (length (spine t)) (rs ++ qs)
nested-append bytes [] qs t h k = k
nested-append bytes (LeafAt d l ∷ rs) qs t h k =
    let e : length (spine (with_row bytes (LeafAt d l) t)) ≡ d = spine-leaf d (leaf_of bytes l) t h.0 in
    (h.0, subst (λ n. AreNested n (rs ++ qs)) e (nested-append bytes rs qs (with_row bytes (LeafAt d l) t) (subst (λ n. AreNested n rs) (sym e) h.1) k))
nested-append bytes (ContainerAt d c ∷ rs) qs t h k =
    let e : length (spine (with_row bytes (ContainerAt d c) t)) ≡ suc d = spine-container d (container_of c) t h.0 in
    (h.0, subst (λ n. AreNested n (rs ++ qs)) e (nested-append bytes rs qs (with_row bytes (ContainerAt d c) t) (subst (λ n. AreNested n rs) (sym e) h.1) k))
