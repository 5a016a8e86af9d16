-- What a walk knows behind a row more.
use Rattle.std.proofs.Common.{◌≡◌, ◌≤◌, ◌<◌, ◌+◌, ◌-◌, ℕ, zero, suc, refl, sym, ap, subst, ◌∙◌, List, [], ◌∷◌, ◌++◌, length, take, set, get_or, map, Bool, true, false, ◌||◌, ◌&&◌, not, Option, Some, None, arith, length-append, if◌then◌else◌, ◌==◌}
use Rattle.std.specs.Prelude.{option_map, is_some}
use Rattle.std.proofs.lemmas.Bool.Decides.{nat_tests}
use Rattle.std.proofs.Math.Bool.{or-false, and-false, and-true}
use Rattle.std.proofs.lemmas.List.{get_or_at, get_or_read, length-map, map-append, length-take, take_at, take-take, get_or-take, take_more, take_all}
use Rattle.markdown_block_model.specs.BlockTree.{Marker, bullet, ordered, Container, quote, item, footnote, blank, Tree, nothing, and_leaf, and_container, Leaf}
use Rattle.markdown_block_model.specs.LooseLists.{are_alike, goes_on_list, ends_with_blank, are_apart, is_loose}
use Rattle.markdown_block_line.specs.LineBlocks.{marker_of}
use Rattle.markdown_block_line.specs.declared.containers.Marker.{Marker as RowMarker}
use Rattle.markdown_blocks.specs.TreeDepth.{spine, inside_at, at_depth}
use Rattle.markdown_blocks.proofs.DepthLemmas.{inside-at_depth, inside-deeper}
use Rattle.markdown_page_model.specs.PageHtml.{NextItem, goes_on}
use Rattle.markdown_page.specs.declared.lists.Place.{Place}
use Rattle.markdown_page.specs.declared.lists.OpenContainer.{OpenContainer}
use Rattle.markdown_page.specs.declared.lists.Walk.{Walk}
use Rattle.markdown_page.specs.ListPlaces.{no_place}
use Rattle.markdown_page.specs.ListWalks.{is_footnote, IsPlain, places_so_far, marker_in, open_containers, last_item, opened, item_of, is_loose_item, is_blank_leaf, passed_item, IsAppended, IsWalked}
use Rattle.markdown_page.proofs.ListTrees.{with_apart, apart-none, places-inside, open-length, open-same, open-more, open-within, passed-last, passed-blank}

-- The path.

pub path-within : (t : Tree) (w : Walk) → IsWalked t w → length w.path.items ≤ length (spine t)
path-within t w h =
    omega (arith, ap length h.path, length-map w.path.items opened, length-take (length w.path.items) (open_containers 0 t), open-length 0 t)

front-length : (t : Tree) (w : Walk) (os : List OpenContainer) (o : OpenContainer) → IsWalked t w → w.path.items ≡ os ++ o ∷ [] → length w.path.items ≡ suc (length os)
front-length t w os o h e = omega (arith, ap length e, length-append os (o ∷ []))

split-path : (t : Tree) (w : Walk) (os : List OpenContainer) (o : OpenContainer) → IsWalked t w → w.path.items ≡ os ++ o ∷ [] → map opened os ++ opened o ∷ [] ≡ take (suc (length os)) (open_containers 0 t)
split-path t w os o h e =
    sym (map-append opened os (o ∷ [])) ∙ ap (map opened) (sym e) ∙ h.path ∙ ap (λ n. take n (open_containers 0 t)) (front-length t w os o h e)

newest-open : (t : Tree) (w : Walk) (os : List OpenContainer) (o : OpenContainer) (d : ℕ × Option Marker) → IsWalked t w → w.path.items ≡ os ++ o ∷ [] → get_or (open_containers 0 t) (length os) d ≡ opened o
newest-open t w os o d h e =
    sym (get_or-take (suc (length os)) (open_containers 0 t) (length os) d (omega arith)) ∙ ap (λ v. get_or v (length os) d) (sym (split-path t w os o h e))
    ∙ get_or_at (map opened os) (opened o) [] d (length os) (length-map os opened)

outer-open : (t : Tree) (w : Walk) (os : List OpenContainer) (o : OpenContainer) → IsWalked t w → w.path.items ≡ os ++ o ∷ [] → map opened os ≡ take (length os) (open_containers 0 t)
outer-open t w os o h e =
    sym (take_at (map opened os) (opened o ∷ []) (length os) (length-map os opened)) ∙ ap (take (length os)) (split-path t w os o h e)
    ∙ take-take (length os) (suc (length os)) (open_containers 0 t) (omega arith)

inner-within : (t : Tree) (w : Walk) (os : List OpenContainer) (o : OpenContainer) → IsWalked t w → w.path.items ≡ os ++ o ∷ [] → length os < length (spine t)
inner-within t w os o h e = omega (arith, path-within t w h, front-length t w os o h e)

pub row-within : (t : Tree) (w : Walk) (os : List OpenContainer) (o : OpenContainer) → IsWalked t w → w.path.items ≡ os ++ o ∷ [] → o.row < length w.places.items
row-within t w os o h e =
    omega (arith, open-within (length os) 0 t (opened o) (inner-within t w os o h e), ap (λ (v : ℕ × Option Marker). v.0) (newest-open t w os o (opened o) h e), ap length h.places)

pub last-split : (xs : List OpenContainer) (n : ℕ) (d : OpenContainer) → n + 1 ≡ length xs → xs ≡ take n xs ++ get_or xs n d ∷ []
last-split xs n d e = sym (take_all (n + 1) xs (omega (arith, e))) ∙ take_more xs n d (omega (arith, e))

-- The innermost container is left.

pub walked-pass : (t : Tree) (w v : Walk) (os : List OpenContainer) (o : OpenContainer) → IsWalked t w → w.path.items ≡ os ++ o ∷ [] → v.path.items ≡ os → v.places.items ≡ w.places.items
    → option_map item_of v.last ≡ passed_item w.places.items (opened o) → v.ends_with_blank ≡ (is_some o.marker && w.ends_with_blank) → IsWalked t v
walked-pass t w v os o h e p ps l b =
    let n = length os in
    let d : ℕ × Option Marker = opened o in
    let lt : n < length (spine t) = inner-within t w os o h e in
    let newest : get_or (open_containers 0 t) n d ≡ opened o = newest-open t w os o d h e in
    let len : length w.path.items ≡ suc n = front-length t w os o h e in
    let some : is_some (option_map marker_of o.marker) ≡ is_some o.marker = some-same o.marker in
    record {
      places = ps ∙ h.places;
      path = rw p (outer-open t w os o h e);
      last = rw p (l ∙ ap (λ v. passed_item v (opened o)) h.places ∙ sym (passed-last n 0 t [] d refl lt ∙ ap (passed_item (places_so_far t)) newest));
      blank = rw p (b ∙ ap (λ x. is_some o.marker && x) (h.blank ∙ ap (λ k. ends_with_blank (inside_at k t)) len) ∙ ap (λ x. x && ends_with_blank (inside_at (suc n) t)) (sym some)
          ∙ sym (passed-blank n 0 t d lt h.plain ∙ ap (λ (v : ℕ × Option Marker). is_some v.1 && ends_with_blank (inside_at (suc n) t)) newest));
      plain = h.plain;
    }
  where
    some-same : (m : Option RowMarker) → is_some (option_map marker_of m) ≡ is_some m
    some-same None = refl
    some-same (Some m) = refl

-- The place of a row more.

pub apart-some : (o : OpenContainer) (b : Bool) (ps : List Place) → b ≡ true → is_some o.marker ≡ true → with_apart (opened o) b ps ≡ set ps o.row (record (get_or ps o.row no_place) { is_loose = true })
apart-some o b ps h k = rw h (by_marker o.marker k)
  where
    by_marker : (m : Option RowMarker) → is_some m ≡ true → with_apart (o.row, option_map marker_of m) true ps ≡ set ps o.row (record (get_or ps o.row no_place) { is_loose = true })
    by_marker None e = absurd (cc)
    by_marker (Some m) e = refl

pub apart-not : (o : OpenContainer) (b : Bool) (ps : List Place) → is_some o.marker ≡ false → with_apart (opened o) b ps ≡ ps
apart-not o b ps k = by_marker o.marker k
  where
    by_marker : (m : Option RowMarker) → is_some m ≡ false → with_apart (o.row, option_map marker_of m) b ps ≡ ps
    by_marker None e = apart-none o.row b ps
    by_marker (Some m) e = absurd (cc)

pub walked-put : (t : Tree) (f : Tree → Tree) (w : Walk) (p : Place) (b : Bool) (os : List OpenContainer) (o : OpenContainer) → IsWalked t w → w.path.items ≡ os ++ o ∷ []
    → IsAppended f p b (inside_at (length w.path.items) t) → with_apart (opened o) b w.places.items ++ p ∷ [] ≡ places_so_far (at_depth (length w.path.items) f t)
walked-put t f w p b os o h e a =
    let n = length os in
    let len : length w.path.items ≡ suc n = front-length t w os o h e in
    let inside : IsAppended f p b (inside_at (suc n) t) = subst (λ k. IsAppended f p b (inside_at k t)) len a in
    ap (λ v. with_apart (opened o) b v ++ p ∷ []) h.places ∙ ap (λ v. with_apart v b (places_so_far t) ++ p ∷ []) (sym (newest-open t w os o (opened o) h e))
    ∙ sym (places-inside n f t [] 0 p b (opened o) refl (inner-within t w os o h e) inside) ∙ ap (λ k. places_so_far (at_depth k f t)) (sym len)

pub walked-first : (t : Tree) (f : Tree → Tree) (w : Walk) (p : Place) (b : Bool) → IsWalked t w → length w.path.items ≡ 0
    → IsAppended f p b (inside_at (length w.path.items) t) → w.places.items ++ p ∷ [] ≡ places_so_far (at_depth (length w.path.items) f t)
walked-first t f w p b h e a =
    let outside : IsAppended f p b t = subst (λ k. IsAppended f p b (inside_at k t)) e a in
    ap (λ v. v ++ p ∷ []) h.places ∙ sym outside.places ∙ ap (λ k. places_so_far (at_depth k f t)) (sym e)

-- A leaf.

leaf-last : (s : Tree) (l : Leaf) → last_item (and_leaf s l) ≡ (if is_blank_leaf l then last_item s else None)
leaf-last s blank = refl
leaf-last s l = refl

leaf-blank : (s : Tree) (l : Leaf) → ends_with_blank (and_leaf s l) ≡ ends_with_blank (and_leaf nothing l)
leaf-blank s blank = refl
leaf-blank s l = refl

leaf-apart : (s : Tree) (l : Leaf) → are_apart (and_leaf s l) ≡ (are_apart s || (ends_with_blank s && not (is_blank_leaf l)))
leaf-apart s blank = sym (ap (λ v. are_apart s || v) (and-false (ends_with_blank s)) ∙ or-false (are_apart s))
leaf-apart s l = ap (λ v. are_apart s || v) (sym (and-true (ends_with_blank s)))

pub appended-leaf : (s : Tree) (l : Leaf) (b : Bool) → b ≡ (ends_with_blank s && not (is_blank_leaf l)) → IsAppended (λ x. and_leaf x l) no_place b s
appended-leaf s l b e = record { places = refl; apart = rw e (leaf-apart s l) }

plain-leaf : (n : ℕ) (l : Leaf) (t : Tree) → IsPlain t → IsPlain (at_depth n (λ s. and_leaf s l) t)
plain-leaf zero l t h = tt
plain-leaf (suc n) l nothing h = tt
plain-leaf (suc n) l (and_leaf s k) h = tt
plain-leaf (suc n) l (and_container s c i) h = (h.0, plain-leaf n l i h.1)

plain-container : (n : ℕ) (c : Container) (t : Tree) → is_footnote c ≡ false → IsPlain t → IsPlain (at_depth n (λ s. and_container s c nothing) t)
plain-container zero c t e h = (e, tt)
plain-container (suc n) c nothing e h = tt
plain-container (suc n) c (and_leaf s k) e h = tt
plain-container (suc n) c (and_container s d i) e h = (h.0, plain-container n c i e h.1)

pub walked-leaf : (t : Tree) (w v : Walk) (l : Leaf) → IsWalked t w → v.path.items ≡ w.path.items → v.places.items ≡ places_so_far (at_depth (length w.path.items) (λ s. and_leaf s l) t)
    → option_map item_of v.last ≡ (if is_blank_leaf l then option_map item_of w.last else None) → v.ends_with_blank ≡ ends_with_blank (and_leaf nothing l)
    → IsWalked (at_depth (length w.path.items) (λ s. and_leaf s l) t) v
walked-leaf t w v l h p ps la b =
    let n = length w.path.items in
    let f : Tree → Tree = λ s. and_leaf s l in
    let inside : inside_at n (at_depth n f t) ≡ f (inside_at n t) = inside-at_depth n f t (path-within t w h) in
    record {
      places = ps;
      path = rw p (h.path ∙ sym (open-same n 0 f t));
      last = rw p (la ∙ ap (λ x. if is_blank_leaf l then x else None) h.last ∙ sym (ap last_item inside ∙ leaf-last (inside_at n t) l));
      blank = rw p (b ∙ sym (ap ends_with_blank inside ∙ leaf-blank (inside_at n t) l));
      plain = plain-leaf n l t h.plain;
    }

-- A container.

pub appended-quote : (s : Tree) (b : Bool) → b ≡ ends_with_blank s → IsAppended (λ x. and_container x quote nothing) no_place b s
appended-quote s b e = record { places = refl; apart = rw e refl }

pub walked-container : (t : Tree) (w v : Walk) (o : OpenContainer) (c : Container) → IsWalked t w → v.path.items ≡ w.path.items ++ o ∷ [] → o.row ≡ length w.places.items → option_map marker_of o.marker ≡ marker_in c
    → v.places.items ≡ places_so_far (at_depth (length w.path.items) (λ s. and_container s c nothing) t) → v.last ≡ None → v.ends_with_blank ≡ false → is_footnote c ≡ false
    → IsWalked (at_depth (length w.path.items) (λ s. and_container s c nothing) t) v
walked-container t w v o c h p r m ps l b note =
    let n = length w.path.items in
    let f : Tree → Tree = λ s. and_container s c nothing in
    let le : n ≤ length (spine t) = path-within t w h in
    let len : length v.path.items ≡ suc n = omega (arith, ap length p, length-append w.path.items (o ∷ [])) in
    let row : o.row ≡ 0 + length (places_so_far t) = omega (arith, r, ap length h.places) in
    let none : inside_at (suc n) (at_depth n f t) ≡ nothing = inside-deeper n c t le in
    record {
      places = ps;
      path = ap (map opened) p ∙ map-append opened w.path.items (o ∷ []) ∙ ap (λ v. v ++ opened o ∷ []) h.path ∙ ap (λ x. take n (open_containers 0 t) ++ (x, option_map marker_of o.marker) ∷ []) row
          ∙ ap (λ x. take n (open_containers 0 t) ++ (0 + length (places_so_far t), x) ∷ []) m ∙ sym (open-more n 0 c t le) ∙ ap (λ k. take k (open_containers 0 (at_depth n f t))) (sym len);
      last = ap (option_map item_of) l ∙ sym (ap (λ k. last_item (inside_at k (at_depth n f t))) len ∙ ap last_item none);
      blank = b ∙ sym (ap (λ k. ends_with_blank (inside_at k (at_depth n f t))) len ∙ ap ends_with_blank none);
      plain = plain-container n c t note h.plain;
    }

-- An item.

same-tests : (n m : ℕ) → (n == m) ≡ (m == n)
same-tests n m = grind (arith, nat_tests)

alike-other : (m k : Marker) → are_alike m k ≡ are_alike k m
alike-other (bullet n) (bullet m) = same-tests n m
alike-other (ordered n i) (ordered m j) = same-tests n m
alike-other (bullet n) (ordered m j) = refl
alike-other (ordered n i) (bullet m) = refl

goes-on : (m : Marker) (s : Tree) → goes_on (last_item s) m ≡ goes_on_list m s
goes-on m nothing = refl
goes-on m (and_leaf s blank) = goes-on m s
goes-on m (and_leaf s l) = refl
goes-on m (and_container s quote i) = refl
goes-on m (and_container s (footnote label) i) = refl
goes-on m (and_container s (item k c) i) = alike-other k m

loose-last : (s : Tree) → is_loose_item (last_item s) ≡ is_loose s
loose-last nothing = refl
loose-last (and_leaf s blank) = loose-last s
loose-last (and_leaf s l) = refl
loose-last (and_container s quote i) = refl
loose-last (and_container s (footnote label) i) = refl
loose-last (and_container s (item k c) i) = refl

pub appended-item : (s : Tree) (m : Marker) (c : ℕ) (last : Option NextItem) (blanks apart : Bool) (p : Place) → last ≡ last_item s → blanks ≡ ends_with_blank s
    → p ≡ record { is_loose = goes_on last m && (blanks || is_loose_item last); begins = not (goes_on last m); ends = false } → apart ≡ (blanks && p.begins)
    → IsAppended (λ x. and_container x (item m c) nothing) p apart s
appended-item s m c last blanks apart p e b k a =
    let on : goes_on last m ≡ goes_on_list m s = ap (λ v. goes_on v m) e ∙ goes-on m s in
    let lo : is_loose_item last ≡ is_loose s = ap is_loose_item e ∙ loose-last s in
    record { places = rw (k, on, lo, b) refl; apart = rw (a, k, on, b) refl }

-- The innermost container.

pub last-within : (t : Tree) (w : Walk) (o : OpenContainer) → IsWalked t w → 0 < length w.path.items → o ≡ get_or w.path.items (length w.path.items - 1) o → o.row < length w.places.items
last-within t w o h l e =
    let n = length w.path.items - 1 in
    row-within t w (take n w.path.items) o h (last-split w.path.items n o (omega arith) ∙ ap (λ v. take n w.path.items ++ v ∷ []) (sym e))

pub walked-last : (t : Tree) (f : Tree → Tree) (w : Walk) (p : Place) (b : Bool) (o : OpenContainer) → IsWalked t w → 0 < length w.path.items → o ≡ get_or w.path.items (length w.path.items - 1) o
    → IsAppended f p b (inside_at (length w.path.items) t) → with_apart (opened o) b w.places.items ++ p ∷ [] ≡ places_so_far (at_depth (length w.path.items) f t)
walked-last t f w p b o h l e a =
    let n = length w.path.items - 1 in
    walked-put t f w p b (take n w.path.items) o h (last-split w.path.items n o (omega arith) ∙ ap (λ v. take n w.path.items ++ v ∷ []) (sym e)) a

pub loose-put : (t : Tree) (f : Tree → Tree) (w : Walk) (p x : Place) (b : Bool) (o : OpenContainer) → IsWalked t w → 0 < length w.path.items → o ≡ get_or w.path.items (length w.path.items - 1) o
    → IsAppended f p b (inside_at (length w.path.items) t) → b ≡ true → is_some o.marker ≡ true → x ≡ get_or w.places.items o.row x
    → set w.places.items o.row (record x { is_loose = true }) ++ p ∷ [] ≡ places_so_far (at_depth (length w.path.items) f t)
loose-put t f w p x b o h l e a bt some ex =
    ap (λ (v : Place). set w.places.items o.row (record v { is_loose = true }) ++ p ∷ []) (get_or_read w.places.items o.row x (last-within t w o h l e) ex no_place)
    ∙ ap (λ v. v ++ p ∷ []) (sym (apart-some o b w.places.items bt some)) ∙ walked-last t f w p b o h l e a

pub plain-put : (t : Tree) (f : Tree → Tree) (w : Walk) (p : Place) (b : Bool) (o : OpenContainer) → IsWalked t w → 0 < length w.path.items → o ≡ get_or w.path.items (length w.path.items - 1) o
    → IsAppended f p b (inside_at (length w.path.items) t) → with_apart (opened o) b w.places.items ≡ w.places.items → w.places.items ++ p ∷ [] ≡ places_so_far (at_depth (length w.path.items) f t)
plain-put t f w p b o h l e a same = ap (λ v. v ++ p ∷ []) (sym same) ∙ walked-last t f w p b o h l e a

pub apart-false : (o : OpenContainer) (b : Bool) (ps : List Place) → b ≡ false → with_apart (opened o) b ps ≡ ps
apart-false o b ps h = rw h refl
