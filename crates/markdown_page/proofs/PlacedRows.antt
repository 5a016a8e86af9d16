-- A tree whose blocks know their places is known by the tree of blocks and the places: so rows and places make it.
use Rattle.std.proofs.Common.{◌≡◌, refl, sym, ap, ◌∙◌, ℕ, zero, suc, ◌+◌, ◌≤◌, List, [], ◌∷◌, ◌++◌, length, map, None, append_assoc, arith, length-append}
use Rattle.std.proofs.lemmas.List.{append-nil, length-map}
use Rattle.markdown_model.specs.Setting.{Setting}
use Rattle.markdown_html_model.specs.Html.{Page}
use Rattle.markdown_block_model.specs.BlockTree as model
use Rattle.markdown_block_model.specs.BlockTree.{Container, Leaf, Tree}
use Rattle.markdown_block_line.specs.LineBlocks.{container_of}
use Rattle.markdown_blocks.specs.TreeDepth as blocks
use Rattle.markdown_blocks.specs.BlockRows.{leaf_of, with_row, rows_from}
use Rattle.markdown_blocks.specs.declared.block.Row.{Row}
use Rattle.markdown_blocks.specs.declared.block.Row.TheVariants.{LeafAt, ContainerAt}
use Rattle.markdown_page_model.specs.PageHtml.{no_item, tree_html}
use Rattle.markdown_page.specs.declared.lists.Place.{Place}
use Rattle.markdown_blocks.specs.NestedRows.{AreNested}
use Rattle.markdown_page.specs.ListPlaces.{no_place, places_in}
use Rattle.markdown_page.specs.PlacedTree.{PlacedTree, nothing, and_leaf, and_container, without_places, places_of, with_places, placed_html, spine, at_depth, with_placed_row, placed_rows}
use Rattle.markdown_page.proofs.PlacedHtml.{without-with, places-with, html-placed}

abbrev pub blocks_in : Tree → ℕ
blocks_in model.nothing = 0
blocks_in (model.and_leaf b l) = blocks_in b + 1
blocks_in (model.and_container b c i) = blocks_in b + (blocks_in i + 1)

length-places : (t : PlacedTree) → length (places_of t) ≡ blocks_in (without_places t)
length-places nothing = refl
length-places (and_leaf b l at) = let e = length-places b in omega (arith, length-append (places_of b) (at ∷ []))
length-places (and_container b c at i) =
    let e = length-places b in let f = length-places i in omega (arith, length-append (places_of b) (at ∷ places_of i))

cut : (xs ys us vs : List Place) → length xs ≡ length ys → xs ++ us ≡ ys ++ vs → (xs ≡ ys) × (us ≡ vs)
cut [] [] us vs n e = (refl, e)
cut [] (y ∷ ys) us vs n e = absurd (omega arith)
cut (x ∷ xs) [] us vs n e = absurd (omega arith)
cut (x ∷ xs) (y ∷ ys) us vs n e =
    let h : x ≡ y = cc in
    let r : xs ++ us ≡ ys ++ vs = cc in
    let k = cut xs ys us vs (omega arith) r in
    (rw (h, k.0) refl, k.1)

same-count : (a b : PlacedTree) → without_places a ≡ without_places b → length (places_of a) ≡ length (places_of b)
same-count a b e = length-places a ∙ ap blocks_in e ∙ sym (length-places b)

known : (a b : PlacedTree) → without_places a ≡ without_places b → places_of a ≡ places_of b → a ≡ b
known nothing nothing e f = refl
known nothing (and_leaf b l at) e f = absurd (cc)
known nothing (and_container b c at i) e f = absurd (cc)
known (and_leaf b l at) nothing e f = absurd (cc)
known (and_leaf a k at) (and_leaf b l to) e f =
    let t : without_places a ≡ without_places b = cc in
    let same : k ≡ l = cc in
    let ps = cut (places_of a) (places_of b) (at ∷ []) (to ∷ []) (same-count a b t) f in
    let place : at ≡ to = let h = ps.1 in cc in
    rw (same, place, known a b t ps.0) refl
known (and_leaf a k at) (and_container b c to i) e f = absurd (cc)
known (and_container a c at i) nothing e f = absurd (cc)
known (and_container a c at i) (and_leaf b l to) e f = absurd (cc)
known (and_container a c at i) (and_container b d to j) e f =
    let t : without_places a ≡ without_places b = cc in
    let same : c ≡ d = cc in
    let inside : without_places i ≡ without_places j = cc in
    let ps = cut (places_of a) (places_of b) (at ∷ places_of i) (to ∷ places_of j) (same-count a b t) f in
    let place : at ≡ to = let h = ps.1 in cc in
    let places : places_of i ≡ places_of j = let h = ps.1 in cc in
    rw (same, place, known a b t ps.0, known i j inside places) refl

without-leaf : (n : ℕ) (l : Leaf) (at : Place) (t : PlacedTree) → without_places (at_depth n (λ x. and_leaf x l at) t) ≡ blocks.at_depth n (λ x. model.and_leaf x l) (without_places t)
without-leaf zero l at t = refl
without-leaf (suc n) l at nothing = refl
without-leaf (suc n) l at (and_leaf b k place) = refl
without-leaf (suc n) l at (and_container b c place i) = ap (λ x. model.and_container (without_places b) c x) (without-leaf n l at i)

without-container : (n : ℕ) (c : Container) (at : Place) (t : PlacedTree)
    → without_places (at_depth n (λ x. and_container x c at nothing) t) ≡ blocks.at_depth n (λ x. model.and_container x c model.nothing) (without_places t)
without-container zero c at t = refl
without-container (suc n) c at nothing = refl
without-container (suc n) c at (and_leaf b k place) = refl
without-container (suc n) c at (and_container b d place i) = ap (λ x. model.and_container (without_places b) d x) (without-container n c at i)

without-row : (bytes : List ℕ) (r : Row) (at : Place) (t : PlacedTree) → without_places (with_placed_row bytes r at t) ≡ with_row bytes r (without_places t)
without-row bytes (LeafAt d l) at t = without-leaf d (leaf_of bytes l) at t
without-row bytes (ContainerAt d c) at t = without-container d (container_of c) at t

pub without-rows : (bytes : List ℕ) (rs : List Row) (ats : List Place) (t : PlacedTree) → without_places (placed_rows bytes t rs ats) ≡ rows_from bytes (without_places t) rs
without-rows bytes [] ats t = refl
without-rows bytes (r ∷ rs) [] t =
    without-rows bytes rs [] (with_placed_row bytes r no_place t) ∙ ap (λ x. rows_from bytes x rs) (without-row bytes r no_place t)
without-rows bytes (r ∷ rs) (at ∷ ats) t = without-rows bytes rs ats (with_placed_row bytes r at t) ∙ ap (λ x. rows_from bytes x rs) (without-row bytes r at t)

places-leaf : (n : ℕ) (l : Leaf) (at : Place) (t : PlacedTree) → n ≤ length (spine t) → places_of (at_depth n (λ x. and_leaf x l at) t) ≡ places_of t ++ at ∷ []
places-leaf zero l at t le = refl
places-leaf (suc n) l at nothing le = absurd (omega arith)
places-leaf (suc n) l at (and_leaf b k place) le = absurd (omega arith)
places-leaf (suc n) l at (and_container b c place i) le = rw (places-leaf n l at i (omega arith)) (simp append_assoc)

places-container : (n : ℕ) (c : Container) (at : Place) (t : PlacedTree) → n ≤ length (spine t)
    → places_of (at_depth n (λ x. and_container x c at nothing) t) ≡ places_of t ++ at ∷ []
places-container zero c at t le = refl
places-container (suc n) c at nothing le = absurd (omega arith)
places-container (suc n) c at (and_leaf b k place) le = absurd (omega arith)
places-container (suc n) c at (and_container b d place i) le = rw (places-container n c at i (omega arith)) (simp append_assoc)

pub spine-leaf : (n : ℕ) (l : Leaf) (at : Place) (t : PlacedTree) → n ≤ length (spine t) → n ≤ length (spine (at_depth n (λ x. and_leaf x l at) t))
spine-leaf zero l at t le = omega arith
spine-leaf (suc n) l at nothing le = absurd (omega arith)
spine-leaf (suc n) l at (and_leaf b k place) le = absurd (omega arith)
spine-leaf (suc n) l at (and_container b d place i) le = let h = spine-leaf n l at i (omega arith) in omega arith

pub spine-container : (n : ℕ) (c : Container) (at : Place) (t : PlacedTree) → n ≤ length (spine t) → suc n ≤ length (spine (at_depth n (λ x. and_container x c at nothing) t))
spine-container zero c at t le = omega arith
spine-container (suc n) c at nothing le = absurd (omega arith)
spine-container (suc n) c at (and_leaf b k place) le = absurd (omega arith)
spine-container (suc n) c at (and_container b d place i) le = let h = spine-container n c at i (omega arith) in omega arith

places-rows : (bytes : List ℕ) (n : ℕ) (rs : List Row) (ats : List Place) (t : PlacedTree) → AreNested n rs → n ≤ length (spine t) → length ats ≡ length rs
    → places_of (placed_rows bytes t rs ats) ≡ places_of t ++ ats
places-rows bytes n [] [] t nested le e = sym (append-nil (places_of t))
places-rows bytes n [] (at ∷ ats) t nested le e = absurd (omega arith)
places-rows bytes n (r ∷ rs) [] t nested le e = absurd (omega arith)
places-rows bytes n (LeafAt d l ∷ rs) (at ∷ ats) t nested le e =
    let le2 : d ≤ length (spine t) = let h = nested.0 in omega arith in
    places-rows bytes d rs ats (with_placed_row bytes (LeafAt d l) at t) nested.1 (spine-leaf d (leaf_of bytes l) at t le2) (omega arith)
    ∙ ap (λ x. x ++ ats) (places-leaf d (leaf_of bytes l) at t le2) ∙ simp append_assoc
places-rows bytes n (ContainerAt d c ∷ rs) (at ∷ ats) t nested le e =
    let le2 : d ≤ length (spine t) = let h = nested.0 in omega arith in
    places-rows bytes (suc d) rs ats (with_placed_row bytes (ContainerAt d c) at t) nested.1 (spine-container d (container_of c) at t le2) (omega arith)
    ∙ ap (λ x. x ++ ats) (places-container d (container_of c) at t le2) ∙ simp append_assoc

-- a block for each row
count-rows : (bytes : List ℕ) (rs : List Row) → AreNested 0 rs → blocks_in (rows_from bytes model.nothing rs) ≡ length rs
count-rows bytes rs nested =
    let ats : List Place = let f : Row → Place = λ r. no_place in map f rs in
    let e : length ats ≡ length rs = simp length-map in
    sym (ap blocks_in (without-rows bytes rs ats nothing)) ∙ sym (length-places (placed_rows bytes nothing rs ats))
    ∙ ap length (places-rows bytes 0 rs ats nothing nested (omega arith) e) ∙ e

pub count-places : (bytes : List ℕ) (rs : List Row) (ats : List Place) → AreNested 0 rs → ats ≡ places_in None (rows_from bytes model.nothing rs) → length ats ≡ length rs
count-places bytes rs ats nested e =
    let t = rows_from bytes model.nothing rs in
    ap length e ∙ sym (ap length (places-with None t)) ∙ length-places (with_places None t) ∙ ap blocks_in (without-with None t) ∙ count-rows bytes rs nested

placed : (bytes : List ℕ) (rs : List Row) (ats : List Place) → AreNested 0 rs → ats ≡ places_in None (rows_from bytes model.nothing rs)
    → placed_rows bytes nothing rs ats ≡ with_places None (rows_from bytes model.nothing rs)
placed bytes rs ats nested e =
    let t = rows_from bytes model.nothing rs in
    known (placed_rows bytes nothing rs ats) (with_places None t) (without-rows bytes rs ats nothing ∙ sym (without-with None t)) (
    places-rows bytes 0 rs ats nothing nested (omega arith) (count-places bytes rs ats nested e) ∙ e ∙ sym (places-with None t)
    )

pub rows-html : (s : Setting) (p : Page) (bytes : List ℕ) (rs : List Row) (ats : List Place) → AreNested 0 rs → ats ≡ places_in None (rows_from bytes model.nothing rs)
    → placed_html s p no_item (placed_rows bytes nothing rs ats) ≡ tree_html s p no_item None (rows_from bytes model.nothing rs)
rows-html s p bytes rs ats nested e =
    ap (λ x. placed_html s p no_item x) (placed bytes rs ats nested e) ∙ sym (html-placed s p no_item None (rows_from bytes model.nothing rs))
