-- The items that stand next, from the last row to the first.
use Rattle.std.proofs.Common.{◌≡◌, ◌≤◌, ◌<◌, ◌+◌, ℕ, zero, suc, refl, sym, ap, subst, ◌∙◌, List, [], ◌∷◌, ◌++◌, length, take, drop, set, get_or, map, false, not, Option, Some, None, arith, length-append, append_assoc, if◌then◌else◌, nat_lt, ◌==◌}
use Rattle.std.proofs.lemmas.List.{append-nil, length-map, drop_more, get_or-map, take_more, set_at, get_or_at, length-take-le}
use Rattle.std.proofs.lemmas.Bool.Decides.{nat_tests}
use Rattle.markdown_block_model.specs.BlockTree as model
use Rattle.markdown_block_model.specs.BlockTree.{Marker, Container, quote, item, footnote, blank, Tree, nothing, and_leaf, and_container}
use Rattle.markdown_block_model.specs.LooseLists.{goes_on_list, is_loose}
use Rattle.markdown_block_line.specs.LineBlocks.{container_of}
use Rattle.markdown_block_line.specs.declared.containers.Container.{Container as RowContainer}
use Rattle.markdown_block_line.specs.declared.containers.Container.TheVariants.{Quote, Item}
use Rattle.markdown_blocks.specs.TreeDepth.{spine, at_depth}
use Rattle.markdown_blocks.specs.BlockRows.{leaf_of, rows_from}
use Rattle.markdown_blocks.specs.declared.block.Leaf.{Leaf as RowLeaf}
use Rattle.markdown_blocks.specs.declared.block.Leaf.TheVariants.{Blank, ThematicBreak, Heading, Underlined, Paragraph, IndentedCode, FencedCode, Html, FrontMatter}
use Rattle.markdown_blocks.specs.declared.block.Row.{Row}
use Rattle.markdown_blocks.specs.declared.block.Row.TheVariants.{LeafAt, ContainerAt}
use Rattle.markdown_page_model.specs.PageHtml.{NextItem, goes_on, is_of_loose_list}
use Rattle.markdown_page.specs.declared.lists.Place.{Place}
use Rattle.markdown_page.specs.declared.lists.ListItem.{ListItem}
use Rattle.markdown_blocks.specs.NestedRows.{AreNested}
use Rattle.markdown_page.specs.ListPlaces.{no_place, places_in}
use Rattle.markdown_page.specs.ListWalks.{places_so_far, is_loose_item, RowKind, passes, parts, is_item, leaf_kind, row_kind, row_depth, next_at, with_next, place_before, nexts_before}

-- What the rows of a tree are to the items before them.

abbrev tree_leaf_kind : model.Leaf → RowKind
tree_leaf_kind blank = passes
tree_leaf_kind l = parts

abbrev container_kind : Container → RowKind
container_kind quote = parts
container_kind (footnote label) = parts
container_kind (item m c) = is_item m

abbrev kinds : ℕ → Tree → List (ℕ × RowKind)
kinds d nothing = []
kinds d (and_leaf s l) = kinds d s ++ (d, tree_leaf_kind l) ∷ []
kinds d (and_container s c i) = kinds d s ++ (d, container_kind c) ∷ kinds (suc d) i

abbrev pub of_row : Row → ℕ × RowKind
of_row r = (row_depth r, row_kind r)

kinds-more : (n d : ℕ) (f : Tree → Tree) (k : RowKind) (t : Tree) → ((e : ℕ) (s : Tree) → kinds e (f s) ≡ kinds e s ++ (e, k) ∷ []) → n ≤ length (spine t) → kinds d (at_depth n f t) ≡ kinds d t ++ (d + n, k) ∷ []
kinds-more zero d f k t h l = let e : d ≡ d + 0 = omega arith in h d t ∙ ap (λ x. kinds d t ++ (x, k) ∷ []) e
kinds-more (suc n) d f k nothing h l = absurd (omega arith)
kinds-more (suc n) d f k (and_leaf s x) h l = absurd (omega arith)
kinds-more (suc n) d f k (and_container s c i) h l =
    let e : suc d + n ≡ d + suc n = omega arith in
    ap (λ v. kinds d s ++ (d, container_kind c) ∷ v) (kinds-more n (suc d) f k i h (omega arith) ∙ ap (λ x. kinds (suc d) i ++ (x, k) ∷ []) e)
    ∙ sym (append_assoc (kinds d s) ((d, container_kind c) ∷ kinds (suc d) i) ((d + suc n, k) ∷ []))

spine-more : (n k : ℕ) (f : Tree → Tree) (t : Tree) → n ≤ length (spine t) → ((s : Tree) → k ≤ length (spine (f s))) → n + k ≤ length (spine (at_depth n f t))
spine-more zero k f t l h = omega (arith, h t)
spine-more (suc n) k f nothing l h = absurd (omega arith)
spine-more (suc n) k f (and_leaf s x) l h = absurd (omega arith)
spine-more (suc n) k f (and_container s c i) l h = omega (arith, spine-more n k f i (omega arith) h)

row-leaf : (bytes : List ℕ) (l : RowLeaf) → leaf_kind l ≡ tree_leaf_kind (leaf_of bytes l)
row-leaf bytes Blank = refl
row-leaf bytes ThematicBreak = refl
row-leaf bytes (Heading n x) = refl
row-leaf bytes (Underlined n x) = refl
row-leaf bytes (Paragraph x) = refl
row-leaf bytes (IndentedCode x) = refl
row-leaf bytes (FencedCode f i x e) = refl
row-leaf bytes (Html k x e) = refl
row-leaf bytes (FrontMatter ls) = refl

row-container : (d : ℕ) (c : RowContainer) → row_kind (ContainerAt d c) ≡ container_kind (container_of c)
row-container d Quote = refl
row-container d (Item m n) = refl

kinds-rows : (bytes : List ℕ) (rs : List Row) (t : Tree) (n : ℕ) → AreNested n rs → n ≤ length (spine t) → kinds 0 (rows_from bytes t rs) ≡ kinds 0 t ++ map of_row rs
kinds-rows bytes [] t n h l = sym (append-nil (kinds 0 t))
kinds-rows bytes (LeafAt d x ∷ rs) t n h l =
    let f : Tree → Tree = λ s. and_leaf s (leaf_of bytes x) in
    let k = tree_leaf_kind (leaf_of bytes x) in
    let le : d ≤ length (spine t) = omega (arith, h.0) in
    let e : 0 + d ≡ d = omega arith in
    kinds-rows bytes rs (at_depth d f t) d h.1 (omega (arith, spine-more d 0 f t le (λ s. omega arith)))
    ∙ ap (λ v. v ++ map of_row rs) (kinds-more d 0 f k t (λ e s. refl) le ∙ ap (λ x. kinds 0 t ++ (x, k) ∷ []) e ∙ ap (λ x. kinds 0 t ++ (d, x) ∷ []) (sym (row-leaf bytes x)))
    ∙ append_assoc (kinds 0 t) ((d, leaf_kind x) ∷ []) (map of_row rs)
kinds-rows bytes (ContainerAt d c ∷ rs) t n h l =
    let f : Tree → Tree = λ s. and_container s (container_of c) nothing in
    let k = container_kind (container_of c) in
    let le : d ≤ length (spine t) = omega (arith, h.0) in
    let e : 0 + d ≡ d = omega arith in
    kinds-rows bytes rs (at_depth d f t) (suc d) h.1 (omega (arith, spine-more d 1 f t le (λ s. omega arith)))
    ∙ ap (λ v. v ++ map of_row rs) (kinds-more d 0 f k t (λ e s. refl) le ∙ ap (λ x. kinds 0 t ++ (x, k) ∷ []) e ∙ ap (λ x. kinds 0 t ++ (d, x) ∷ []) (sym (row-container d c)))
    ∙ append_assoc (kinds 0 t) (of_row (ContainerAt d c) ∷ []) (map of_row rs)

kinds-length : (d : ℕ) (t : Tree) → length (kinds d t) ≡ length (places_so_far t)
kinds-length d nothing = refl
kinds-length d (and_leaf s l) = omega (arith, kinds-length d s, length-append (kinds d s) ((d, tree_leaf_kind l) ∷ []), length-append (places_so_far s) (no_place ∷ []))
kinds-length d (and_container s quote i) =
    omega (arith, kinds-length d s, kinds-length (suc d) i, length-append (kinds d s) ((d, parts) ∷ kinds (suc d) i), length-append (places_so_far s) (no_place ∷ places_so_far i))
kinds-length d (and_container s (footnote label) i) =
    omega (arith, kinds-length d s, kinds-length (suc d) i, length-append (kinds d s) ((d, parts) ∷ kinds (suc d) i), length-append (places_so_far s) (no_place ∷ places_so_far i))
kinds-length d (and_container s (item m c) i) =
    omega (
      arith,
      kinds-length d s,
      kinds-length (suc d) i,
      length-append (kinds d s) ((d, is_item m) ∷ kinds (suc d) i),
      length-append (places_so_far s) (record { is_loose = is_loose (and_container s (item m c) i); begins = not (goes_on_list m s); ends = false } ∷ places_so_far i),
    )

-- The rows from the last to the first.

-- what is known before a row: the item that stands next at each depth, and the places from there on
pub record Backed : Type 0 where
  pub next : ℕ → Option NextItem
  pub places : List Place

abbrev pub start : Backed
start = record { next = λ k. None; places = [] }

abbrev pub step : ℕ × RowKind → Place → Backed → Backed
step k p s = record { next = nexts_before s.next k.0 k.1 p; places = place_before (s.next k.0) k.1 p ∷ s.places }

abbrev pub back : List (ℕ × RowKind) → List Place → Backed → Backed
back [] ps s = s
back (k ∷ ks) [] s = s
back (k ∷ ks) (p ∷ ps) s = step k p (back ks ps s)

back-append : (ks ls : List (ℕ × RowKind)) (ps qs : List Place) (s : Backed) → length ks ≡ length ps → back (ks ++ ls) (ps ++ qs) s ≡ back ks ps (back ls qs s)
back-append [] ls [] qs s e = refl
back-append [] ls (p ∷ ps) qs s e = absurd (omega arith)
back-append (k ∷ ks) ls [] qs s e = absurd (omega arith)
back-append (k ∷ ks) ls (p ∷ ps) qs s e = ap (step k p) (back-append ks ls ps qs s (omega arith))

next-here : (n : ℕ → Option NextItem) (d : ℕ) (x : Option NextItem) → with_next n d x d ≡ x
next-here n d x = grind (arith, nat_tests)

next-below : (n : ℕ → Option NextItem) (d k : ℕ) (x : Option NextItem) → k < d → with_next n d x k ≡ n k
next-below n d k x h = grind (arith, nat_tests)

next-above : (n : ℕ → Option NextItem) (d k : ℕ) (x : Option NextItem) → d < k → with_next n d x k ≡ None
next-above n d k x h = grind (arith, nat_tests)

pub record IsDone (d : ℕ) (t : Tree) (s r : Backed) : Type 0 where
  pub places : r.places ≡ places_in (s.next d) t ++ s.places
  pub below : (k : ℕ) → k < d → r.next k ≡ s.next k
  pub above : (k : ℕ) → d < k → r.next k ≡ None

pub list-loose : (next : Option NextItem) (m : Marker) (t : Tree) → (if goes_on next m then is_loose_item next else is_loose t) ≡ is_of_loose_list next m t
list-loose None m t = refl
list-loose (Some next) m t = refl

tree-back : (d : ℕ) (t : Tree) (s : Backed) → ((k : ℕ) → d < k → s.next k ≡ None) → IsDone d t s (back (kinds d t) (places_so_far t) s)
tree-back d nothing s h = record { places = refl; below = λ k l. refl; above = h }
tree-back d (and_leaf b blank) s h =
    let s1 = step (d, passes) no_place s in
    let done : IsDone d b s1 (back (kinds d b) (places_so_far b) s1) = tree-back d b s1 h in
    subst (λ r. IsDone d (and_leaf b blank) s r) (sym (back-append (kinds d b) ((d, passes) ∷ []) (places_so_far b) (no_place ∷ []) s (kinds-length d b))) (record {
      places = done.places ∙ sym (append_assoc (places_in (s.next d) b) (no_place ∷ []) s.places);
      below = done.below;
      above = done.above;
    })
tree-back d (and_leaf b l) s h =
    let s1 = step (d, parts) no_place s in
    let done : IsDone d b s1 (back (kinds d b) (places_so_far b) s1) = tree-back d b s1 (λ k x. next-above s.next d k None x) in
    subst (λ r. IsDone d (and_leaf b l) s r) (sym (back-append (kinds d b) ((d, parts) ∷ []) (places_so_far b) (no_place ∷ []) s (kinds-length d b))) (record {
      places = done.places ∙ ap (λ n. places_in n b ++ no_place ∷ s.places) (next-here s.next d None) ∙ sym (append_assoc (places_in None b) (no_place ∷ []) s.places);
      below = λ k x. done.below k x ∙ next-below s.next d k None x;
      above = done.above;
    })
tree-back d (and_container b quote i) s h =
    let s0 = back (kinds (suc d) i) (places_so_far i) s in
    let inner : IsDone (suc d) i s s0 = tree-back (suc d) i s (λ k x. h k (omega arith)) in
    let s1 = step (d, parts) no_place s0 in
    let done : IsDone d b s1 (back (kinds d b) (places_so_far b) s1) = tree-back d b s1 (λ k x. next-above s0.next d k None x) in
    subst (λ r. IsDone d (and_container b quote i) s r)
    (sym (back-append (kinds d b) ((d, parts) ∷ kinds (suc d) i) (places_so_far b) (no_place ∷ places_so_far i) s (kinds-length d b))) (record {
      places = done.places ∙ ap (λ n. places_in n b ++ no_place ∷ s0.places) (next-here s0.next d None)
          ∙ ap (λ v. places_in None b ++ no_place ∷ v) (inner.places ∙ ap (λ n. places_in n i ++ s.places) (h (suc d) (omega arith)))
          ∙ sym (append_assoc (places_in None b) (no_place ∷ places_in None i) s.places);
      below = λ k x. done.below k x ∙ next-below s0.next d k None x ∙ inner.below k (omega arith);
      above = done.above;
    })
tree-back d (and_container b (footnote label) i) s h =
    let s0 = back (kinds (suc d) i) (places_so_far i) s in
    let inner : IsDone (suc d) i s s0 = tree-back (suc d) i s (λ k x. h k (omega arith)) in
    let s1 = step (d, parts) no_place s0 in
    let done : IsDone d b s1 (back (kinds d b) (places_so_far b) s1) = tree-back d b s1 (λ k x. next-above s0.next d k None x) in
    subst (λ r. IsDone d (and_container b (footnote label) i) s r)
    (sym (back-append (kinds d b) ((d, parts) ∷ kinds (suc d) i) (places_so_far b) (no_place ∷ places_so_far i) s (kinds-length d b))) (record {
      places = done.places ∙ ap (λ n. places_in n b ++ no_place ∷ s0.places) (next-here s0.next d None)
          ∙ ap (λ v. places_in None b ++ no_place ∷ v) (inner.places ∙ ap (λ n. places_in n i ++ s.places) (h (suc d) (omega arith)))
          ∙ sym (append_assoc (places_in None b) (no_place ∷ places_in None i) s.places);
      below = λ k x. done.below k x ∙ next-below s0.next d k None x ∙ inner.below k (omega arith);
      above = done.above;
    })
tree-back d (and_container b (item m c) i) s h =
    let t = and_container b (item m c) i in
    let p : Place = record { is_loose = is_loose t; begins = not (goes_on_list m b); ends = false } in
    let s0 = back (kinds (suc d) i) (places_so_far i) s in
    let inner : IsDone (suc d) i s s0 = tree-back (suc d) i s (λ k x. h k (omega arith)) in
    let s1 = step (d, is_item m) p s0 in
    let next : s0.next d ≡ s.next d = inner.below d (omega arith) in
    let loose : (place_before (s0.next d) (is_item m) p).is_loose ≡ is_of_loose_list (s.next d) m t = ap (λ n. (place_before n (is_item m) p).is_loose) next ∙ list-loose (s.next d) m t in
    let x : Option NextItem = Some (record { marker = m; is_loose = (place_before (s0.next d) (is_item m) p).is_loose }) in
    let done : IsDone d b s1 (back (kinds d b) (places_so_far b) s1) = tree-back d b s1 (λ k l. next-above s0.next d k x l) in
    subst (λ r. IsDone d (and_container b (item m c) i) s r) (sym (back-append (kinds d b) ((d, is_item m) ∷ kinds (suc d) i) (places_so_far b) (p ∷ places_so_far i) s (kinds-length d b))) (record {
      places = done.places ∙ ap (λ n. places_in n b ++ place_before (s0.next d) (is_item m) p ∷ s0.places) (next-here s0.next d x)
          ∙ ap (λ v. places_in (Some (record { marker = m; is_loose = v })) b ++ record { is_loose = v; begins = not (goes_on_list m b); ends = not (goes_on (s0.next d) m) } ∷ s0.places) loose
          ∙ ap (λ n. places_in (Some (record { marker = m; is_loose = is_of_loose_list (s.next d) m t })) b
          ++ record { is_loose = is_of_loose_list (s.next d) m t; begins = not (goes_on_list m b); ends = not (goes_on n m) } ∷ s0.places) next
          ∙ ap (λ v. places_in (Some (record { marker = m; is_loose = is_of_loose_list (s.next d) m t })) b
          ++ record { is_loose = is_of_loose_list (s.next d) m t; begins = not (goes_on_list m b); ends = not (goes_on (s.next d) m) } ∷ v)
          (inner.places ∙ ap (λ n. places_in n i ++ s.places) (h (suc d) (omega arith)))
          ∙ sym (append_assoc (places_in (Some (record { marker = m; is_loose = is_of_loose_list (s.next d) m t })) b)
          (record { is_loose = is_of_loose_list (s.next d) m t; begins = not (goes_on_list m b); ends = not (goes_on (s.next d) m) } ∷ places_in None i) s.places);
      below = λ k l. done.below k l ∙ next-below s0.next d k x l ∙ inner.below k (omega arith);
      above = done.above;
    })

-- The loop.

pub record IsBack (rows : List Row) (first : List Place) (index : ℕ) (nexts : List (Option ListItem)) (places : List Place) : Type 0 where
  pub within : index ≤ length rows
  pub next : (k : ℕ) → next_at nexts k ≡ (back (drop index (map of_row rows)) (drop index first) start).next k
  pub done : places ≡ take index first ++ (back (drop index (map of_row rows)) (drop index first) start).places

with-next-same : (n m : ℕ → Option NextItem) (d k : ℕ) (x y : Option NextItem) → n k ≡ m k → x ≡ y → with_next n d x k ≡ with_next m d y k
with-next-same n m d k x y h e = ap (λ v. if nat_lt k d then v else (if k == d then x else None)) h ∙ ap (λ v. if nat_lt k d then m k else (if k == d then v else None)) e

nexts-same : (n m : ℕ → Option NextItem) (d : ℕ) (kind : RowKind) (p : Place) (k : ℕ) → ((j : ℕ) → n j ≡ m j) → nexts_before n d kind p k ≡ nexts_before m d kind p k
nexts-same n m d passes p k h = h k
nexts-same n m d parts p k h = with-next-same n m d k None None (h k) refl
nexts-same n m d (is_item x) p k h =
    with-next-same n m d k (Some (record { marker = x; is_loose = (place_before (n d) (is_item x) p).is_loose })) (Some (record { marker = x; is_loose = (place_before (m d) (is_item x) p).is_loose }))
    (h k) (ap (λ v. Some (record { marker = x; is_loose = (place_before v (is_item x) p).is_loose })) (h d))

back-cons : (rows : List Row) (first : List Place) (i : ℕ) (r : Row) (p : Place) → i < length rows → length first ≡ length rows
    → back (drop i (map of_row rows)) (drop i first) start ≡ step (of_row (get_or rows i r)) (get_or first i p) (back (drop (i + 1) (map of_row rows)) (drop (i + 1) first) start)
back-cons rows first i r p h l =
    let m : i < length (map of_row rows) = omega (arith, length-map rows of_row) in
    ap (λ v. back v (drop i first) start) (drop_more (map of_row rows) i (of_row r) m) ∙ ap (λ v. back (get_or (map of_row rows) i (of_row r) ∷ drop (i + 1) (map of_row rows)) v start) (drop_more first i p (omega arith))
    ∙ ap (λ v. step v (get_or first i p) (back (drop (i + 1) (map of_row rows)) (drop (i + 1) first) start)) (get_or-map of_row rows i r (of_row r) h)

pub back-step : (rows : List Row) (first places after : List Place) (nexts ns : List (Option ListItem)) (i : ℕ) (r : Row) (p q : Place) → IsBack rows first (i + 1) nexts places → length first ≡ length rows
    → r ≡ get_or rows i r → p ≡ get_or places i p → q ≡ place_before (next_at nexts (row_depth r)) (row_kind r) p
    → ((k : ℕ) → next_at ns k ≡ nexts_before (next_at nexts) (row_depth r) (row_kind r) p k) → after ≡ set places i q → IsBack rows first i ns after
back-step rows first places after nexts ns i r p q h l er ep eq en ea =
    let b = back (drop (i + 1) (map of_row rows)) (drop (i + 1) first) start in
    let lt : i < length rows = omega (arith, h.within) in
    let len : length (take i first) ≡ i = length-take-le i first (omega arith) in
    let front : take (i + 1) first ≡ take i first ++ get_or first i p ∷ [] = take_more first i p (omega arith) in
    let split : places ≡ take i first ++ (get_or first i p ∷ b.places) =
    h.done ∙ ap (λ v. v ++ b.places) front ∙ append_assoc (take i first) (get_or first i p ∷ []) b.places in
    let same : p ≡ get_or first i p = ep ∙ ap (λ v. get_or v i p) split ∙ get_or_at (take i first) (get_or first i p) b.places p i len in
    let now : back (drop i (map of_row rows)) (drop i first) start ≡ step (of_row r) p b =
    back-cons rows first i r p lt l ∙ ap (λ v. step (of_row v) (get_or first i p) b) (sym er) ∙ ap (λ v. step (of_row r) v b) (sym same) in
    let placed : q ≡ place_before (b.next (row_depth r)) (row_kind r) p = eq ∙ ap (λ v. place_before v (row_kind r) p) (h.next (row_depth r)) in
    record {
      within = omega arith;
      next = λ k. en k ∙ nexts-same (next_at nexts) b.next (row_depth r) (row_kind r) p k h.next ∙ ap (λ (v : Backed). v.next k) (sym now);
      done = ea ∙ ap (λ v. set v i q) split ∙ set_at (take i first) (get_or first i p) b.places q i len ∙ ap (λ v. take i first ++ v ∷ b.places) placed
          ∙ ap (λ (v : Backed). take i first ++ v.places) (sym now);
    }

pub back-end : (bytes : List ℕ) (rows : List Row) (first places : List Place) (nexts : List (Option ListItem)) (n : ℕ) → IsBack rows first n nexts places → n ≡ 0 → AreNested 0 rows
    → first ≡ places_so_far (rows_from bytes nothing rows) → places ≡ places_in None (rows_from bytes nothing rows)
back-end bytes rows first places nexts n h z nested e =
    let t = rows_from bytes nothing rows in
    let k : kinds 0 t ≡ map of_row rows = kinds-rows bytes rows nothing 0 nested (omega arith) in
    let done = tree-back 0 t start (λ k l. refl) in
    h.done ∙ ap (λ i. take i first ++ (back (drop i (map of_row rows)) (drop i first) start).places) z ∙ ap (λ v. (back (map of_row rows) v start).places) e
    ∙ ap (λ v. (back v (places_so_far t) start).places) (sym k) ∙ done.places ∙ append-nil (places_in None t)

pub places-length : (bytes : List ℕ) (rows : List Row) → AreNested 0 rows → length (places_so_far (rows_from bytes nothing rows)) ≡ length rows
places-length bytes rows nested =
    omega (arith, kinds-length 0 (rows_from bytes nothing rows), ap length (kinds-rows bytes rows nothing 0 nested (omega arith)), length-map rows of_row)
