-- What definitions bring to the tree of the rows so far, and how it is taken from a limit.
use Rattle.std.proofs.Common.{◌≡◌, ℕ, zero, suc, ◌+◌, ◌-◌, ◌≤◌, ap, refl, Bool, false, List, [], ◌∷◌, length, Option, Some, None, arith}
use Rattle.markdown_model.specs.Setting.{Setting}
use Rattle.markdown_html_model.specs.Html.{Page}
use Rattle.markdown_block_model.specs.BlockTree.{Container, Leaf}
use Rattle.markdown_block_line.specs.LineBlocks.{container_of}
use Rattle.markdown_blocks.specs.BlockRows.{leaf_of}
use Rattle.markdown_blocks.specs.NestedRows.{AreNested}
use Rattle.markdown_blocks.specs.declared.block.Row.{Row}
use Rattle.markdown_blocks.specs.declared.block.Row.TheVariants.{LeafAt, ContainerAt}
use Rattle.markdown_page_model.specs.PageHtml.{leaf_setting}
use Rattle.markdown_page.specs.declared.lists.Place.{Place}
use Rattle.markdown_page.specs.DocumentBrought.{IsBeyond, leaf_brought, tree_brought}
use Rattle.markdown_page.specs.BroughtSoFar.{IsSpent}
use Rattle.markdown_page.specs.ListPlaces.{no_place}
use Rattle.markdown_page.specs.PlacedTree.{PlacedTree, nothing, and_leaf, and_container, without_places, is_item, is_first_at, spine, at_depth, with_placed_row, placed_rows}
use Rattle.markdown_page.proofs.PlacedRows.{spine-leaf, spine-container}

-- Rows.

pub leaf-brought : (s : Setting) (p : Page) (i : Bool) (n : ℕ) (l : Leaf) (at : Place) (t : PlacedTree) → n ≤ length (spine t)
    → tree_brought s p i (without_places (at_depth n (λ x. and_leaf x l at) t)) ≡ tree_brought s p i (without_places t) + leaf_brought (leaf_setting s (is_first_at i n t) l) p l
leaf-brought s p i zero l at t le = refl
leaf-brought s p i (suc n) l at nothing le = absurd (omega arith)
leaf-brought s p i (suc n) l at (and_leaf b m place) le = absurd (omega arith)
leaf-brought s p i (suc n) l at (and_container b c place inside) le = let e = leaf-brought s p (is_item c) n l at inside (omega arith) in omega (arith, e)

pub container-brought : (s : Setting) (p : Page) (i : Bool) (n : ℕ) (c : Container) (at : Place) (t : PlacedTree) → n ≤ length (spine t)
    → tree_brought s p i (without_places (at_depth n (λ x. and_container x c at nothing) t)) ≡ tree_brought s p i (without_places t)
container-brought s p i zero c at t le = omega arith
container-brought s p i (suc n) c at nothing le = absurd (omega arith)
container-brought s p i (suc n) c at (and_leaf b m place) le = absurd (omega arith)
container-brought s p i (suc n) c at (and_container b d place inside) le = let e = container-brought s p (is_item d) n c at inside (omega arith) in omega (arith, e)

row-more : (s : Setting) (p : Page) (bytes : List ℕ) (n : ℕ) (r : Row) (rs : List Row) (at : Place) (t : PlacedTree) → AreNested n (r ∷ rs) → n ≤ length (spine t)
    → tree_brought s p false (without_places t) ≤ tree_brought s p false (without_places (with_placed_row bytes r at t))
row-more s p bytes n (LeafAt d l) rs at t nested le =
    let e = leaf-brought s p false d (leaf_of bytes l) at t (let h = nested.0 in omega arith) in omega (arith, e)
row-more s p bytes n (ContainerAt d c) rs at t nested le =
    let e = container-brought s p false d (container_of c) at t (let h = nested.0 in omega arith) in omega (arith, e)

-- further rows take nothing away
pub rows-more : (s : Setting) (p : Page) (bytes : List ℕ) (n : ℕ) (rs : List Row) (ats : List Place) (t : PlacedTree) → AreNested n rs → n ≤ length (spine t)
    → tree_brought s p false (without_places t) ≤ tree_brought s p false (without_places (placed_rows bytes t rs ats))
rows-more s p bytes n [] ats t nested le = omega arith
rows-more s p bytes n (LeafAt d l ∷ rs) [] t nested le =
    let e = row-more s p bytes n (LeafAt d l) rs no_place t nested le in
    let f = rows-more s p bytes d rs [] (with_placed_row bytes (LeafAt d l) no_place t) nested.1 (spine-leaf d (leaf_of bytes l) no_place t (let h = nested.0 in omega arith)) in
    omega (arith, e, f)
rows-more s p bytes n (LeafAt d l ∷ rs) (at ∷ ats) t nested le =
    let e = row-more s p bytes n (LeafAt d l) rs at t nested le in
    let f = rows-more s p bytes d rs ats (with_placed_row bytes (LeafAt d l) at t) nested.1 (spine-leaf d (leaf_of bytes l) at t (let h = nested.0 in omega arith)) in
    omega (arith, e, f)
rows-more s p bytes n (ContainerAt d c ∷ rs) [] t nested le =
    let e = row-more s p bytes n (ContainerAt d c) rs no_place t nested le in
    let f = rows-more s p bytes (suc d) rs [] (with_placed_row bytes (ContainerAt d c) no_place t) nested.1 (spine-container d (container_of c) no_place t (let h = nested.0 in omega arith)) in
    omega (arith, e, f)
rows-more s p bytes n (ContainerAt d c ∷ rs) (at ∷ ats) t nested le =
    let e = row-more s p bytes n (ContainerAt d c) rs at t nested le in
    let f = rows-more s p bytes (suc d) rs ats (with_placed_row bytes (ContainerAt d c) at t) nested.1 (spine-container d (container_of c) at t (let h = nested.0 in omega arith)) in
    omega (arith, e, f)

-- A limit.

pub spent_nothing : (left : Option ℕ) → IsSpent left 0 left
spent_nothing None = refl
spent_nothing (Some n) = let e : n ≡ n - 0 = omega arith in (omega arith, ap Some e)

pub spent_more : (limit left rest : Option ℕ) (m n : ℕ) → IsSpent limit m left → IsSpent left n rest → IsSpent limit (m + n) rest
spent_more limit left rest m n h k = grind arith

pub stop_more : (limit left : Option ℕ) (m n all : ℕ) → IsSpent limit m left → m + n ≤ all → IsBeyond left n → IsBeyond limit all
stop_more limit left m n all h le k = grind arith

pub beyond_more : (limit : Option ℕ) (m n : ℕ) → m ≤ n → IsBeyond limit m → IsBeyond limit n
beyond_more limit m n le h = grind arith

pub not_beyond : (limit left : Option ℕ) (n : ℕ) → IsSpent limit n left → IsBeyond limit n → ⊥
not_beyond limit left n h k = grind arith
