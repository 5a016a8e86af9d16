-- The places of a tree with a row more.
use Rattle.std.proofs.Common.{◌≡◌, ◌≤◌, ◌<◌, ◌+◌, ℕ, zero, suc, refl, sym, ap, ◌∙◌, List, [], ◌∷◌, ◌++◌, length, take, set, get_or, Bool, true, false, ◌||◌, ◌&&◌, not, Option, Some, None, arith, length-append, append_assoc}
use Rattle.std.specs.Prelude.{is_some}
use Rattle.std.proofs.Math.Bool.{or-false, or-true}
use Rattle.std.proofs.lemmas.List.{set_at, get_or_at}
use Rattle.markdown_block_model.specs.BlockTree.{Marker, Container, quote, item, footnote, Tree, nothing, and_leaf, and_container}
use Rattle.markdown_block_model.specs.LooseLists.{goes_on_list, ends_with_blank, are_apart, is_loose}
use Rattle.markdown_blocks.specs.TreeDepth.{spine, inside_at, at_depth}
use Rattle.markdown_page.specs.declared.lists.Place.{Place}
use Rattle.markdown_page.specs.ListPlaces.{no_place}
use Rattle.markdown_page.specs.ListWalks.{IsPlain, places_so_far, marker_in, open_containers, last_item, passed_item, IsAppended}

-- what is inside the newest container does not set its siblings apart
apart-inside : (n : ℕ) (f : Tree → Tree) (t : Tree) → are_apart (at_depth (suc n) f t) ≡ are_apart t
apart-inside n f nothing = refl
apart-inside n f (and_leaf b l) = refl
apart-inside n f (and_container b quote i) = refl
apart-inside n f (and_container b (footnote label) i) = refl
apart-inside n f (and_container b (item m c) i) = refl

-- an item behind siblings, by whether its own blocks are apart
abbrev item_place : Bool → Marker → Tree → Place
item_place a m s = record { is_loose = a || (goes_on_list m s && (ends_with_blank s || is_loose s)); begins = not (goes_on_list m s); ends = false }

-- the list of this container, if it is an item, becomes loose where a blank line stands between its blocks
abbrev pub with_apart : ℕ × Option Marker → Bool → List Place → List Place
with_apart container false ps = ps
with_apart (row, None) true ps = ps
with_apart (row, Some m) true ps = set ps row (record (get_or ps row no_place) { is_loose = true })

pub apart-none : (row : ℕ) (b : Bool) (ps : List Place) → with_apart (row, None) b ps ≡ ps
apart-none row true ps = refl
apart-none row false ps = refl

deep : (front s ys : List Place) (x : Place) → front ++ (s ++ x ∷ ys) ≡ (front ++ (s ++ x ∷ [])) ++ ys
deep front s ys x = simp append_assoc

deep-push : (front s xs ys : List Place) (x p : Place) → ys ≡ xs ++ p ∷ [] → front ++ (s ++ x ∷ ys) ≡ (front ++ (s ++ x ∷ xs)) ++ p ∷ []
deep-push front s xs ys x p h = rw h (simp append_assoc)

joined-length : (front s : List Place) (row : ℕ) → length front ≡ row → length (front ++ s) ≡ row + length s
joined-length front s row e = omega (arith, length-append front s)

deep-length : (front s : List Place) (x : Place) (row : ℕ) → length front ≡ row → length (front ++ (s ++ x ∷ [])) ≡ row + length s + 1
deep-length front s x row e = omega (arith, length-append front (s ++ x ∷ []), length-append s (x ∷ []))

deep-get : (front s ys : List Place) (x d : Place) (row : ℕ) → length front ≡ row → get_or (front ++ (s ++ x ∷ ys)) (row + length s) d ≡ x
deep-get front s ys x d row e = ap (λ v. get_or v (row + length s) d) (sym (append_assoc front s (x ∷ ys))) ∙ get_or_at (front ++ s) x ys d (row + length s) (joined-length front s row e)

deep-set : (front s ys : List Place) (x y : Place) (row : ℕ) → length front ≡ row → set (front ++ (s ++ x ∷ ys)) (row + length s) y ≡ front ++ (s ++ y ∷ ys)
deep-set front s ys x y row e =
    ap (λ v. set v (row + length s) y) (sym (append_assoc front s (x ∷ ys))) ∙ set_at (front ++ s) x ys y (row + length s) (joined-length front s row e)
    ∙ append_assoc front s (y ∷ ys)

deep-apart : (front s ys : List Place) (row : ℕ) (a b : Bool) (m : Marker) (t : Tree) → length front ≡ row
    → with_apart (row + length s, Some m) b (front ++ (s ++ item_place a m t ∷ ys)) ≡ front ++ (s ++ item_place (a || b) m t ∷ ys)
deep-apart front s ys row a false m t e = ap (λ v. front ++ (s ++ item_place v m t ∷ ys)) (sym (or-false a))
deep-apart front s ys row a true m t e =
    ap (λ (v : Place). set (front ++ (s ++ item_place a m t ∷ ys)) (row + length s) (record v { is_loose = true })) (deep-get front s ys (item_place a m t) no_place row e)
    ∙ deep-set front s ys (item_place a m t) (item_place true m t) row e
    ∙ ap (λ v. front ++ (s ++ item_place v m t ∷ ys)) (sym (or-true a))

-- A row more inside the newest containers: the list of the innermost item may become loose, and the row is the last one.
pub places-inside : (n : ℕ) (f : Tree → Tree) (t : Tree) (front : List Place) (row : ℕ) (p : Place) (b : Bool) (o : ℕ × Option Marker) → length front ≡ row → n < length (spine t) → IsAppended f p b (inside_at (suc n) t)
    → front ++ places_so_far (at_depth (suc n) f t) ≡ with_apart (get_or (open_containers row t) n o) b (front ++ places_so_far t) ++ p ∷ []
places-inside n f nothing front row p b o e h g = absurd (omega arith)
places-inside n f (and_leaf s l) front row p b o e h g = absurd (omega arith)
places-inside zero f (and_container s quote i) front row p b o e h g =
    deep-push front (places_so_far s) (places_so_far i) (places_so_far (f i)) no_place p g.places
    ∙ ap (λ v. v ++ p ∷ []) (sym (apart-none (row + length (places_so_far s)) b (front ++ (places_so_far s ++ no_place ∷ places_so_far i))))
places-inside zero f (and_container s (footnote label) i) front row p b o e h g =
    deep-push front (places_so_far s) (places_so_far i) (places_so_far (f i)) no_place p g.places
    ∙ ap (λ v. v ++ p ∷ []) (sym (apart-none (row + length (places_so_far s)) b (front ++ (places_so_far s ++ no_place ∷ places_so_far i))))
places-inside zero f (and_container s (item m c) i) front row p b o e h g =
    ap (λ v. front ++ (places_so_far s ++ item_place v m s ∷ places_so_far (f i))) g.apart
    ∙ deep-push front (places_so_far s) (places_so_far i) (places_so_far (f i)) (item_place (are_apart i || b) m s) p g.places
    ∙ ap (λ v. v ++ p ∷ []) (sym (deep-apart front (places_so_far s) (places_so_far i) row (are_apart i) b m s e))
places-inside (suc n) f (and_container s quote i) front row p b o e h g =
    let front' = front ++ (places_so_far s ++ no_place ∷ []) in
    let row' = row + length (places_so_far s) + 1 in
    deep front (places_so_far s) (places_so_far (at_depth (suc n) f i)) no_place
    ∙ places-inside n f i front' row' p b o (deep-length front (places_so_far s) no_place row e) (omega arith) g
    ∙ ap (λ v. with_apart (get_or (open_containers row' i) n o) b v ++ p ∷ []) (sym (deep front (places_so_far s) (places_so_far i) no_place))
places-inside (suc n) f (and_container s (footnote label) i) front row p b o e h g =
    let front' = front ++ (places_so_far s ++ no_place ∷ []) in
    let row' = row + length (places_so_far s) + 1 in
    deep front (places_so_far s) (places_so_far (at_depth (suc n) f i)) no_place
    ∙ places-inside n f i front' row' p b o (deep-length front (places_so_far s) no_place row e) (omega arith) g
    ∙ ap (λ v. with_apart (get_or (open_containers row' i) n o) b v ++ p ∷ []) (sym (deep front (places_so_far s) (places_so_far i) no_place))
places-inside (suc n) f (and_container s (item m c) i) front row p b o e h g =
    let x = item_place (are_apart i) m s in
    let front' = front ++ (places_so_far s ++ x ∷ []) in
    let row' = row + length (places_so_far s) + 1 in
    ap (λ v. front ++ (places_so_far s ++ item_place v m s ∷ places_so_far (at_depth (suc n) f i))) (apart-inside n f i)
    ∙ deep front (places_so_far s) (places_so_far (at_depth (suc n) f i)) x
    ∙ places-inside n f i front' row' p b o (deep-length front (places_so_far s) x row e) (omega arith) g
    ∙ ap (λ v. with_apart (get_or (open_containers row' i) n o) b v ++ p ∷ []) (sym (deep front (places_so_far s) (places_so_far i) x))

-- The open containers.

pub open-length : (row : ℕ) (t : Tree) → length (open_containers row t) ≡ length (spine t)
open-length row nothing = refl
open-length row (and_leaf s l) = refl
open-length row (and_container s c i) = ap suc (open-length (row + length (places_so_far s) + 1) i)

pub open-same : (n row : ℕ) (f : Tree → Tree) (t : Tree) → take n (open_containers row (at_depth n f t)) ≡ take n (open_containers row t)
open-same zero row f t = refl
open-same (suc n) row f nothing = refl
open-same (suc n) row f (and_leaf s l) = refl
open-same (suc n) row f (and_container s c i) = ap (λ v. (row + length (places_so_far s), marker_in c) ∷ v) (open-same n (row + length (places_so_far s) + 1) f i)

place-of : (s : Tree) (c : Container) (i : Tree) → length (places_so_far (and_container s c i)) ≡ length (places_so_far s) + 1 + length (places_so_far i)
place-of s quote i = omega (arith, length-append (places_so_far s) (no_place ∷ places_so_far i))
place-of s (footnote label) i = omega (arith, length-append (places_so_far s) (no_place ∷ places_so_far i))
place-of s (item m c) i = omega (arith, length-append (places_so_far s) (item_place (are_apart i) m s ∷ places_so_far i))

pub open-more : (n row : ℕ) (c : Container) (t : Tree) → n ≤ length (spine t)
    → take (suc n) (open_containers row (at_depth n (λ s. and_container s c nothing) t)) ≡ take n (open_containers row t) ++ (row + length (places_so_far t), marker_in c) ∷ []
open-more zero row c t h = refl
open-more (suc n) row c nothing h = absurd (omega arith)
open-more (suc n) row c (and_leaf s l) h = absurd (omega arith)
open-more (suc n) row c (and_container s d i) h =
    let row' = row + length (places_so_far s) + 1 in
    let e : row' + length (places_so_far i) ≡ row + length (places_so_far (and_container s d i)) = omega (arith, place-of s d i) in
    ap (λ v. (row + length (places_so_far s), marker_in d) ∷ v) (open-more n row' c i (omega arith))
    ∙ ap (λ v. (row + length (places_so_far s), marker_in d) ∷ take n (open_containers row' i) ++ (v, marker_in c) ∷ []) e

pub open-within : (n row : ℕ) (t : Tree) (o : ℕ × Option Marker) → n < length (spine t) → (get_or (open_containers row t) n o).0 < row + length (places_so_far t)
open-within n row nothing o h = absurd (omega arith)
open-within n row (and_leaf s l) o h = absurd (omega arith)
open-within zero row (and_container s c i) o h = omega (arith, place-of s c i)
open-within (suc n) row (and_container s c i) o h =
    omega (arith, place-of s c i, open-within n (row + length (places_so_far s) + 1) i o (omega arith))

-- The siblings round an open container: it is the newest one among them.

pub passed-last : (n row : ℕ) (t : Tree) (front : List Place) (o : ℕ × Option Marker) → length front ≡ row → n < length (spine t)
    → last_item (inside_at n t) ≡ passed_item (front ++ places_so_far t) (get_or (open_containers row t) n o)
passed-last n row nothing front o e h = absurd (omega arith)
passed-last n row (and_leaf s l) front o e h = absurd (omega arith)
passed-last zero row (and_container s quote i) front o e h = refl
passed-last zero row (and_container s (footnote label) i) front o e h = refl
passed-last zero row (and_container s (item m c) i) front o e h =
    ap (λ (v : Place). Some (record { marker = m; is_loose = v.is_loose })) (sym (deep-get front (places_so_far s) (places_so_far i) (item_place (are_apart i) m s) no_place row e))
passed-last (suc n) row (and_container s quote i) front o e h =
    let row' = row + length (places_so_far s) + 1 in
    passed-last n row' i (front ++ (places_so_far s ++ no_place ∷ [])) o (deep-length front (places_so_far s) no_place row e) (omega arith)
    ∙ ap (λ v. passed_item v (get_or (open_containers row' i) n o)) (sym (deep front (places_so_far s) (places_so_far i) no_place))
passed-last (suc n) row (and_container s (footnote label) i) front o e h =
    let row' = row + length (places_so_far s) + 1 in
    passed-last n row' i (front ++ (places_so_far s ++ no_place ∷ [])) o (deep-length front (places_so_far s) no_place row e) (omega arith)
    ∙ ap (λ v. passed_item v (get_or (open_containers row' i) n o)) (sym (deep front (places_so_far s) (places_so_far i) no_place))
passed-last (suc n) row (and_container s (item m c) i) front o e h =
    let row' = row + length (places_so_far s) + 1 in
    let x = item_place (are_apart i) m s in
    passed-last n row' i (front ++ (places_so_far s ++ x ∷ [])) o (deep-length front (places_so_far s) x row e) (omega arith)
    ∙ ap (λ v. passed_item v (get_or (open_containers row' i) n o)) (sym (deep front (places_so_far s) (places_so_far i) x))

pub passed-blank : (n row : ℕ) (t : Tree) (o : ℕ × Option Marker) → n < length (spine t)
    → IsPlain t → ends_with_blank (inside_at n t) ≡ (is_some (get_or (open_containers row t) n o).1 && ends_with_blank (inside_at (suc n) t))
passed-blank n row nothing o h plain = absurd (omega arith)
passed-blank n row (and_leaf s l) o h plain = absurd (omega arith)
passed-blank zero row (and_container s quote i) o h plain = refl
passed-blank zero row (and_container s (footnote label) i) o h plain = absurd (no plain.0)
  where
    no : true ≡ false → ⊥
    no e = cc
passed-blank zero row (and_container s (item m c) i) o h plain = refl
passed-blank (suc n) row (and_container s c i) o h plain = passed-blank n (row + length (places_so_far s) + 1) i o (omega arith) plain.1
