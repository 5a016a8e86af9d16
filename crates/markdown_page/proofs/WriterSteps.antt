-- What is written, step by step.
use Rattle.std.proofs.Common.{◌≡◌, refl, sym, ap, ◌∙◌, ℕ, zero, suc, ◌+◌, ◌-◌, ◌≤◌, ◌<◌, Bool, false, List, [], ◌∷◌, ◌++◌, length, take, drop, map, arith, length-append, subst, get_or, drop-cons, add-one, Option, Result, Ok, Err, IfErr, IsErrAnd}
use Rattle.std.proofs.lemmas.List.{map-append, length-map, drop_all}
use Rattle.markdown_model.specs.Setting.{Setting}
use Rattle.markdown_html_model.specs.Html.{Page}
use Rattle.markdown_block_model.specs.BlockTree as model
use Rattle.markdown_block_model.specs.BlockTree.{Container}
use Rattle.markdown_block_line.specs.LineBlocks.{container_of}
use Rattle.markdown_blocks.specs.BlockRows.{leaf_of, rows_from}
use Rattle.markdown_blocks.specs.NestedRows.{AreNested}
use Rattle.markdown_blocks.specs.declared.block.Leaf.{Leaf}
use Rattle.markdown_blocks.specs.declared.block.Row.{Row}
use Rattle.markdown_blocks.specs.declared.block.Row.TheVariants.{LeafAt, ContainerAt}
use Rattle.markdown_page_model.specs.PageHtml.{Holder, no_item, leaf_setting}
use Rattle.markdown_page.specs.declared.lists.Place.{Place}
use Rattle.markdown_page.specs.declared.write.OpenContainer.{OpenContainer}
use Rattle.markdown_page.specs.declared.write.Writer.{Writer}
use Rattle.markdown_page.specs.PlacedTree.{PlacedTree, nothing, and_leaf, and_container, without_places, placed_html, with_placed_row, placed_rows, PlacedContainer, spine, at_depth, open_html, is_in_line_at, is_first_at, holder_in, holder_of, is_tight, is_item, is_in_line_behind, is_first_after, leaf_written, opening, closing}
use Rattle.markdown_page.specs.BroughtSoFar.{IsSpent, IsStop}
use Rattle.markdown_page.specs.DocumentBrought.{IsBeyond, leaf_brought, tree_brought}
use Rattle.markdown_page.specs.declared.limit.Stop.{Stop}
use Rattle.markdown_page.specs.WriterStates.{IsWrittenSoFar, IsReached, placed_of, depth, row_depth, depth_behind}
use Rattle.markdown_page.proofs.BroughtRows.{leaf-brought, container-brought, rows-more, spent_more, stop_more, beyond_more, not_beyond}
use Rattle.markdown_page.proofs.PlacedRows.{spine-leaf, spine-container, without-rows}
use Rattle.markdown_page.proofs.PlacedWalk.{leaf-more, container-more, close-one, line-leaf, line-container, line-outside, first-leaf, first-container, first-outside, spine-same, spine-deeper}

-- what an error is that is handed on
pub stopped-by : {T : Type 0} (r : Result T Stop) (stop : Stop) (P : Stop → Type 0) → IsErrAnd r (λ y. y ≡ stop) → P stop → IfErr r P
stopped-by (Ok x) stop P h holds = absurd h
stopped-by (Err y) stop P h holds = subst P (sym h) holds

-- the outermost containers, as many as there are others
front-le : (s : List PlacedContainer) (os : List OpenContainer) → take (length os) s ≡ map placed_of os → length os ≤ length s
front-le s [] e = omega arith
front-le [] (o ∷ os) e = absurd (cc)
front-le (x ∷ s) (o ∷ os) e = let k : take (length os) s ≡ map placed_of os = cc in let h = front-le s os k in omega arith

front-shorter : (s : List PlacedContainer) (os : List OpenContainer) (o : OpenContainer) → take (length (os ++ o ∷ [])) s ≡ map placed_of (os ++ o ∷ []) → take (length os) s ≡ map placed_of os
front-shorter s [] o e = refl
front-shorter [] (p ∷ os) o e = absurd (cc)
front-shorter (x ∷ s) (p ∷ os) o e =
    let k : take (length (os ++ o ∷ [])) s ≡ map placed_of (os ++ o ∷ []) = cc in
    let h : x ≡ placed_of p = cc in
    rw (h, front-shorter s os o k) refl

one-more : (os : List OpenContainer) (o : OpenContainer) → length (os ++ o ∷ []) ≡ suc (length os)
one-more os o = omega (arith, length-append os (o ∷ []))

module _ (s : Setting) (p : Page) (limit : Option ℕ) (t : PlacedTree) (w v : Writer) (h : IsWrittenSoFar s p limit t w) where
  pub within : depth w ≤ length (spine t)
  within = front-le (spine t) w.opened.items h.containers

  -- the innermost container is closed
  pub closed : (o : OpenContainer) → w.opened.items ≡ v.opened.items ++ o ∷ [] → v.out.items ≡ w.out.items ++ closing p (container_of o.container) o.place → v.in_line ≡ false → v.is_first ≡ false → v.left ≡ w.left
      → IsWrittenSoFar s p limit t v
  closed o e f g i left =
      let n : ℕ = depth v in
      let front : take (length (v.opened.items ++ o ∷ [])) (spine t) ≡ map placed_of (v.opened.items ++ o ∷ []) =
      ap (λ (os : List OpenContainer). take (length os) (spine t)) (sym e) ∙ h.containers ∙ ap (map placed_of) e in
      let many : depth w ≡ suc n = ap length e ∙ one-more v.opened.items o in
      let last : take (suc n) (spine t) ≡ map placed_of v.opened.items ++ placed_of o ∷ [] =
      ap (λ (k : ℕ). take k (spine t)) (sym (one-more v.opened.items o)) ∙ front ∙ map-append placed_of v.opened.items (o ∷ []) in
      let count : n ≡ length (map placed_of v.opened.items) = simp length-map in
      record {
        containers = front-shorter (spine t) v.opened.items o front;
        html = f ∙ ap (λ (xs : List ℕ). xs ++ closing p (container_of o.container) o.place) (h.html ∙ ap (λ (k : ℕ). open_html s p no_item k t) many)
            ∙ sym (close-one s p no_item n (map placed_of v.opened.items) (placed_of o) t count last);
        line = g ∙ sym (line-outside no_item n t (let k = within in omega (arith, many, k)));
        first = i ∙ sym (first-outside false n t (let k = within in omega (arith, many, k)));
        spent = subst (λ (l : Option ℕ). IsSpent limit (tree_brought s p false (without_places t)) l) (sym left) h.spent;
      }

  -- a container is opened
  pub begun : (o : OpenContainer) → v.opened.items ≡ w.opened.items ++ o ∷ [] → v.out.items ≡ w.out.items ++ opening p w.in_line (container_of o.container) o.place → v.in_line ≡ is_item (container_of o.container)
      → v.is_first ≡ is_item (container_of o.container) → v.left ≡ w.left → IsWrittenSoFar s p limit (at_depth (depth w) (λ x. and_container x (container_of o.container) o.place nothing) t) v
  begun o e f g i left =
      let n : ℕ = depth w in
      let many : depth v ≡ suc n = ap length e ∙ one-more w.opened.items o in
      let deeper : PlacedTree = at_depth n (λ x. and_container x (container_of o.container) o.place nothing) t in
      record {
        containers = ap (λ (k : ℕ). take k (spine deeper)) many ∙ spine-deeper n (container_of o.container) o.place t within
            ∙ ap (λ (cs : List PlacedContainer). cs ++ placed_of o ∷ []) h.containers ∙ sym (map-append placed_of w.opened.items (o ∷ [])) ∙ ap (map placed_of) (sym e);
        html = f ∙ ap (λ (xs : List ℕ). xs ++ opening p w.in_line (container_of o.container) o.place) h.html
            ∙ ap (λ (b : Bool). open_html s p no_item n t ++ opening p b (container_of o.container) o.place) h.line
            ∙ sym (container-more s p no_item n (container_of o.container) o.place t within) ∙ ap (λ (k : ℕ). open_html s p no_item k deeper) (sym many);
        line = g ∙ sym (line-container no_item n (container_of o.container) o.place t within) ∙ ap (λ (k : ℕ). is_in_line_at no_item k deeper) (sym many);
        first = i ∙ sym (first-container false n (container_of o.container) o.place t within) ∙ ap (λ (k : ℕ). is_first_at false k deeper) (sym many);
        spent = subst (λ (m : ℕ). IsSpent limit m v.left) (sym (container-brought s p false n (container_of o.container) o.place t within))
            (subst (λ (l : Option ℕ). IsSpent limit (tree_brought s p false (without_places t)) l) (sym left) h.spent);
      }

  -- what definitions bring to the tree with a leaf more
  leaf-more-brought : (l : model.Leaf) (place : Place) → tree_brought s p false (without_places (at_depth (depth w) (λ x. and_leaf x l place) t))
      ≡ tree_brought s p false (without_places t) + leaf_brought (leaf_setting s w.is_first l) p l
  leaf-more-brought l place = leaf-brought s p false (depth w) l place t within
      ∙ ap (λ (b : Bool). tree_brought s p false (without_places t) + leaf_brought (leaf_setting s b l) p l) (sym h.first)

  -- they are beyond the limit
  pub leaf-stop : (l : model.Leaf) (place : Place) (stop : Stop) → IsStop w.left (leaf_brought (leaf_setting s w.is_first l) p l) stop
      → IsStop limit (tree_brought s p false (without_places (at_depth (depth w) (λ x. and_leaf x l place) t))) stop
  leaf-stop l place stop f is =
      let e = leaf-more-brought l place in
      stop_more limit w.left (tree_brought s p false (without_places t)) (leaf_brought (leaf_setting s w.is_first l) p l) _ h.spent (omega (arith, e)) (f is)

  -- a leaf is written
  pub leaf-written : (l : model.Leaf) (place : Place) (tight : Bool) → tight ≡ is_tight (holder_of no_item (map placed_of w.opened.items)) → v.opened.items ≡ w.opened.items
      → v.out.items ≡ w.out.items ++ leaf_written s p tight w.in_line w.is_first l → v.in_line ≡ is_in_line_behind tight w.in_line l
      → v.is_first ≡ is_first_after w.is_first l → IsSpent w.left (leaf_brought (leaf_setting s w.is_first l) p l) v.left
      → IsWrittenSoFar s p limit (at_depth (depth w) (λ x. and_leaf x l place) t) v
  leaf-written l place tight i e f g k spent =
      let n : ℕ = depth w in
      let many : depth v ≡ n = ap length e in
      let more : PlacedTree = at_depth n (λ x. and_leaf x l place) t in
      let same : tight ≡ is_tight (holder_of no_item (take n (spine t))) = i ∙ ap (λ (cs : List PlacedContainer). is_tight (holder_of no_item cs)) (sym h.containers) in
      record {
        containers = ap (λ (k : ℕ). take k (spine more)) many ∙ spine-same n (λ x. and_leaf x l place) t ∙ h.containers ∙ ap (map placed_of) (sym e);
        html = f ∙ ap (λ (xs : List ℕ). xs ++ leaf_written s p tight w.in_line w.is_first l) h.html
            ∙ ap (λ (b : Bool). open_html s p no_item n t ++ leaf_written s p b w.in_line w.is_first l) same
            ∙ ap (λ (b : Bool). open_html s p no_item n t ++ leaf_written s p (is_tight (holder_of no_item (take n (spine t)))) b w.is_first l) h.line
            ∙ ap (λ (b : Bool). open_html s p no_item n t ++ leaf_written s p (is_tight (holder_of no_item (take n (spine t)))) (is_in_line_at no_item n t) b l) h.first
            ∙ sym (leaf-more s p no_item n l place t within) ∙ ap (λ (k : ℕ). open_html s p no_item k more) (sym many);
        line = g ∙ ap (λ (b : Bool). is_in_line_behind b w.in_line l) same ∙ ap (λ (b : Bool). is_in_line_behind (is_tight (holder_of no_item (take n (spine t)))) b l) h.line
            ∙ sym (line-leaf no_item n l place t within) ∙ ap (λ (k : ℕ). is_in_line_at no_item k more) (sym many);
        first = k ∙ ap (λ (b : Bool). is_first_after b l) h.first ∙ sym (first-leaf false n l place t within) ∙ ap (λ (k : ℕ). is_first_at false k more) (sym many);
        spent = subst (λ (m : ℕ). IsSpent limit m v.left) (sym (leaf-more-brought l place)) (spent_more limit w.left v.left _ _ h.spent spent);
      }

-- what stands right in the innermost container
last-holder : (h : Holder) (os : List OpenContainer) (o : OpenContainer) (k : ℕ) → suc k ≡ length os → o ≡ get_or os k o → holder_in (container_of o.container) o.place ≡ holder_of h (map placed_of os)
last-holder h [] o k e f = absurd (omega arith)
last-holder h (x ∷ []) o zero e f = ap (λ (y : OpenContainer). holder_in (container_of y.container) y.place) f
last-holder h (x ∷ []) o (suc k) e f = absurd (omega arith)
last-holder h (x ∷ y ∷ os) o zero e f = absurd (omega arith)
last-holder h (x ∷ y ∷ os) o (suc k) e f = last-holder (holder_in (container_of x.container) x.place) (y ∷ os) o k (omega arith) f

pub tight-last : (os : List OpenContainer) (o : OpenContainer) → 0 < length os → o ≡ get_or os (length os - 1) o → is_tight (holder_in (container_of o.container) o.place) ≡ is_tight (holder_of no_item (map placed_of os))
tight-last os o l e = ap is_tight (last-holder no_item os o (length os - 1) (omega arith) e)

-- Rows.

pub here : {A : Type 0} (xs : List A) (n : ℕ) (d : A) → n < length xs → drop n xs ≡ get_or xs n d ∷ drop (n + 1) xs
here xs n d lt = drop-cons xs n d lt ∙ ap (λ (k : ℕ). get_or xs n d ∷ drop k xs) (sym (add-one n))

pub item-here : {A : Type 0} (xs : List A) (n : ℕ) (x : A) → n < length xs → x ≡ get_or xs n x → drop n xs ≡ x ∷ drop (n + 1) xs
item-here xs n x lt e = here xs n x lt ∙ ap (λ y. y ∷ drop (n + 1) xs) (sym e)

-- a leaf that stands as deep as containers are open
pub leaf-row : (s : Setting) (p : Page) (limit : Option ℕ) (bytes : List ℕ) (r : Row) (d : ℕ) (l : Leaf) (at : Place) (w v : Writer) (t : PlacedTree) → r ≡ LeafAt d l → depth w ≡ d
    → IsWrittenSoFar s p limit (at_depth (depth w) (λ x. and_leaf x (leaf_of bytes l) at) t) v → IsWrittenSoFar s p limit (with_placed_row bytes r at t) v
leaf-row s p limit bytes r d l at w v t e f h = rw e (subst (λ (k : ℕ). IsWrittenSoFar s p limit (at_depth k (λ x. and_leaf x (leaf_of bytes l) at) t) v) f h)

pub leaf-row-stop : (s : Setting) (p : Page) (limit : Option ℕ) (bytes : List ℕ) (r : Row) (d : ℕ) (l : Leaf) (at : Place) (w : Writer) (t : PlacedTree) (stop : Stop) → r ≡ LeafAt d l
    → depth w ≡ d → IsStop limit (tree_brought s p false (without_places (at_depth (depth w) (λ x. and_leaf x (leaf_of bytes l) at) t))) stop
    → IsStop limit (tree_brought s p false (without_places (with_placed_row bytes r at t))) stop
leaf-row-stop s p limit bytes r d l at w t stop e f h =
    rw e (subst (λ (k : ℕ). IsStop limit (tree_brought s p false (without_places (at_depth k (λ x. and_leaf x (leaf_of bytes l) at) t))) stop) f h)

nested-first : (n : ℕ) (r : Row) (rs : List Row) → AreNested n (r ∷ rs) → (row_depth r ≤ n) × AreNested (depth_behind r) rs
nested-first n (LeafAt d l) rs h = (h.0, h.1)
nested-first n (ContainerAt d c) rs h = (h.0, h.1)

row-in : (bytes : List ℕ) (r : Row) (at : Place) (t : PlacedTree) → row_depth r ≤ length (spine t) → depth_behind r ≤ length (spine (with_placed_row bytes r at t))
row-in bytes (LeafAt d l) at t le = spine-leaf d (leaf_of bytes l) at t le
row-in bytes (ContainerAt d c) at t le = spine-container d (container_of c) at t le

-- what definitions bring to the tree of all rows
all-brought : (s : Setting) (p : Page) (bytes : List ℕ) (rows : List Row) (places : List Place) → tree_brought s p false (without_places (placed_rows bytes nothing rows places)) ≡ tree_brought s p false (rows_from bytes model.nothing rows)
all-brought s p bytes rows places = ap (tree_brought s p false) (without-rows bytes rows places nothing)

module _ (s : Setting) (p : Page) (limit : Option ℕ) (bytes : List ℕ) (rows : List Row) (places : List Place) (w : Writer) (n : ℕ) (h : IsReached s p limit bytes rows places w n) (r : Row) (at : Place)
    (row : drop n rows ≡ r ∷ drop (n + 1) rows) where
  next-row : (row_depth r ≤ depth w) × AreNested (depth_behind r) (drop (n + 1) rows)
  next-row = nested-first (depth w) r (drop (n + 1) rows) (subst (λ (rs : List Row). AreNested (depth w) rs) row h.nested)

  pub row-within : row_depth r ≤ depth w
  row-within = next-row.0

  pub reached-more : (v : Writer) → drop n places ≡ at ∷ drop (n + 1) places → ((l : Option ℕ) (t : PlacedTree) → IsWrittenSoFar s p l t w → IsWrittenSoFar s p l (with_placed_row bytes r at t) v) → depth v ≡ depth_behind r
      → IsReached s p limit bytes rows places v (n + 1)
  reached-more v e f d = record {
    tree = with_placed_row bytes r at h.tree;
    written = f limit h.tree h.written;
    rest = sym (rw (row, e) refl) ∙ h.rest;
    nested = subst (λ (k : ℕ). AreNested k (drop (n + 1) rows)) (sym d) next-row.1;
  }

  -- they bring at least as much to all rows as to those up to this one
  pub reached-stop : drop n places ≡ at ∷ drop (n + 1) places → (stop : Stop) → IsStop limit (tree_brought s p false (without_places (with_placed_row bytes r at h.tree))) stop
      → IsStop limit (tree_brought s p false (rows_from bytes model.nothing rows)) stop
  reached-stop e stop f is =
      let t : PlacedTree = with_placed_row bytes r at h.tree in
      let rest : placed_rows bytes t (drop (n + 1) rows) (drop (n + 1) places) ≡ placed_rows bytes nothing rows places = sym (rw (row, e) refl) ∙ h.rest in
      let deep : row_depth r ≤ length (spine h.tree) = let k = row-within in let m = within s p limit h.tree w w h.written in omega (arith, k, m) in
      let more = rows-more s p bytes (depth_behind r) (drop (n + 1) rows) (drop (n + 1) places) t next-row.1 (row-in bytes r at h.tree deep) in
      let all = ap (λ (x : PlacedTree). tree_brought s p false (without_places x)) rest ∙ all-brought s p bytes rows places in
      beyond_more limit (tree_brought s p false (without_places t)) (tree_brought s p false (rows_from bytes model.nothing rows)) (omega (arith, more, all)) (f is)

-- all rows are written
all-reached : (s : Setting) (p : Page) (limit : Option ℕ) (bytes : List ℕ) (rows : List Row) (places : List Place) (w : Writer) (n : ℕ) (h : IsReached s p limit bytes rows places w n) → length rows ≤ n
    → h.tree ≡ placed_rows bytes nothing rows places
all-reached s p limit bytes rows places w n h le =
    ap (λ (rs : List Row). placed_rows bytes h.tree rs (drop n places)) (sym (drop_all n rows le)) ∙ h.rest

pub all-within : (s : Setting) (p : Page) (limit : Option ℕ) (bytes : List ℕ) (rows : List Row) (places : List Place) (w : Writer) (n : ℕ) → IsReached s p limit bytes rows places w n → length rows ≤ n
    → IsBeyond limit (tree_brought s p false (rows_from bytes model.nothing rows)) → ⊥
all-within s p limit bytes rows places w n h le beyond =
    let all = ap (λ (x : PlacedTree). tree_brought s p false (without_places x)) (all-reached s p limit bytes rows places w n h le) ∙ all-brought s p bytes rows places in
    not_beyond limit w.left _ h.written.spent (subst (λ (k : ℕ). IsBeyond limit k) (sym all) beyond)

pub all-written : (s : Setting) (p : Page) (limit : Option ℕ) (bytes : List ℕ) (rows : List Row) (places : List Place) (w v : Writer) (n : ℕ) → IsReached s p limit bytes rows places w n → length rows ≤ n
    → ((l : Option ℕ) (t : PlacedTree) → IsWrittenSoFar s p l t w → IsWrittenSoFar s p l t v) → depth v ≡ 0 → v.out.items ≡ placed_html s p no_item (placed_rows bytes nothing rows places)
all-written s p limit bytes rows places w v n h le f d =
    let g : IsWrittenSoFar s p limit h.tree v = f limit h.tree h.written in
    g.html ∙ ap (λ (k : ℕ). open_html s p no_item k h.tree) d ∙ ap (placed_html s p no_item) (all-reached s p limit bytes rows places w n h le)
