-- What a row more, and the end of a container, add to the HTML.
use Rattle.std.proofs.Common.{◌≡◌, refl, ap, ◌∙◌, ℕ, zero, suc, ◌≤◌, ◌<◌, Bool, true, false, ◌&&◌, List, [], ◌∷◌, ◌++◌, length, take, append_assoc, arith}
use Rattle.std.proofs.lemmas.List.{append-nil}
use Rattle.markdown_model.specs.Setting.{Setting}
use Rattle.markdown_html_model.specs.Html.{Page}
use Rattle.markdown_block_model.specs.BlockTree as model
use Rattle.markdown_block_model.specs.BlockTree.{Container, quote, item, footnote, Leaf, blank, thematic_break, heading, underlined, paragraph, indented_code, fenced_code, html, table, front_matter}
use Rattle.markdown_page_model.specs.PageHtml.{Holder, no_item, loose_item, tight_item, item_of, is_in_line, is_in_item, is_first_block}
use Rattle.markdown_page.specs.declared.lists.Place.{Place}
use Rattle.markdown_page.specs.PlacedTree.{PlacedTree, nothing, and_leaf, and_container, without_places, leaf_written, opening, closing, holder_in, placed_html, PlacedContainer, spine, at_depth, open_html, is_in_line_at, is_first_at, is_tight, is_in_line_behind, is_first_after, is_item, holder_of}

in-item : (c : Container) (at : Place) → is_in_item (holder_in c at) ≡ is_item c
in-item quote at = refl
in-item (footnote label) at = refl
in-item (item m columns) at = elim (at.is_loose) as (λ b. is_in_item (item_of b) ≡ true) [ true ↦ refl | false ↦ refl ]

pub leaf-more : (s : Setting) (p : Page) (h : Holder) (n : ℕ) (l : Leaf) (at : Place) (t : PlacedTree) → n ≤ length (spine t)
    → open_html s p h n (at_depth n (λ x. and_leaf x l at) t) ≡ open_html s p h n t ++ leaf_written s p (is_tight (holder_of h (take n (spine t)))) (is_in_line_at h n t) (is_first_at (is_in_item h) n t) l
leaf-more s p h zero l at t le = refl
leaf-more s p h (suc n) l at nothing le = absurd (omega arith)
leaf-more s p h (suc n) l at (and_leaf b k place) le = absurd (omega arith)
leaf-more s p h (suc n) l at (and_container b c place i) le =
    ap (λ x. placed_html s p h b ++ opening p (is_in_line h (without_places b)) c place ++ x) (rw in-item at (leaf-more s p (holder_in c place) n l at i (omega arith))) ∙ simp append_assoc

pub container-more : (s : Setting) (p : Page) (h : Holder) (n : ℕ) (c : Container) (at : Place) (t : PlacedTree) → n ≤ length (spine t)
    → open_html s p h (suc n) (at_depth n (λ x. and_container x c at nothing) t) ≡ open_html s p h n t ++ opening p (is_in_line_at h n t) c at
container-more s p h zero c at t le = append-nil _
container-more s p h (suc n) c at nothing le = absurd (omega arith)
container-more s p h (suc n) c at (and_leaf b k place) le = absurd (omega arith)
container-more s p h (suc n) c at (and_container b d place i) le =
    ap (λ x. placed_html s p h b ++ opening p (is_in_line h (without_places b)) d place ++ x) (container-more s p (holder_in d place) n c at i (omega arith)) ∙ simp append_assoc

pub close-one : (s : Setting) (p : Page) (h : Holder) (n : ℕ) (front : List PlacedContainer) (d : PlacedContainer) (t : PlacedTree) → n ≡ length front
    → take (suc n) (spine t) ≡ front ++ d ∷ [] → open_html s p h n t ≡ open_html s p h (suc n) t ++ closing p d.container d.place
close-one s p h zero [] d nothing z e = absurd (cc)
close-one s p h zero [] d (and_leaf b l at) z e = absurd (cc)
close-one s p h zero [] d (and_container b c at i) z e = let f : d ≡ record { container = c; place = at } = cc in rw f refl
close-one s p h zero (f ∷ fs) d t z e = absurd (omega arith)
close-one s p h (suc n) [] d t z e = absurd (omega arith)
close-one s p h (suc n) (f ∷ fs) d nothing z e = absurd (cc)
close-one s p h (suc n) (f ∷ fs) d (and_leaf b l at) z e = absurd (cc)
close-one s p h (suc n) (f ∷ fs) d (and_container b c at i) z e =
    let k : take (suc n) (spine i) ≡ fs ++ d ∷ [] = cc in
    ap (λ x. placed_html s p h b ++ opening p (is_in_line h (without_places b)) c at ++ x) (close-one s p (holder_in c at) n fs d i (omega arith) k) ∙ simp append_assoc

line-here : (h : Holder) (b : PlacedTree) (l : Leaf) (at : Place) → is_in_line h (without_places (and_leaf b l at)) ≡ is_in_line_behind (is_tight h) (is_in_line h (without_places b)) l
line-here h b blank at = refl
line-here h b (paragraph []) at = refl
line-here no_item b (paragraph (c ∷ cs)) at = refl
line-here loose_item b (paragraph (c ∷ cs)) at = refl
line-here tight_item b (paragraph (c ∷ cs)) at = refl
line-here h b thematic_break at = refl
line-here h b (heading n cs) at = refl
line-here h b (underlined n cs) at = refl
line-here h b (indented_code ls) at = refl
line-here h b (fenced_code f info ls ended) at = refl
line-here h b (html kind cs ended) at = refl
line-here h b (table columns rows) at = refl
line-here h b (front_matter ls) at = refl

pub line-leaf : (h : Holder) (n : ℕ) (l : Leaf) (at : Place) (t : PlacedTree) → n ≤ length (spine t)
    → is_in_line_at h n (at_depth n (λ x. and_leaf x l at) t) ≡ is_in_line_behind (is_tight (holder_of h (take n (spine t)))) (is_in_line_at h n t) l
line-leaf h zero l at t le = line-here h t l at
line-leaf h (suc n) l at nothing le = absurd (omega arith)
line-leaf h (suc n) l at (and_leaf b k place) le = absurd (omega arith)
line-leaf h (suc n) l at (and_container b c place i) le = line-leaf (holder_in c place) n l at i (omega arith)

line-first : (c : Container) (at : Place) → is_in_line (holder_in c at) model.nothing ≡ is_item c
line-first quote at = refl
line-first (footnote label) at = refl
line-first (item m columns) at = elim (at.is_loose) as (λ b. is_in_line (item_of b) model.nothing ≡ true) [ true ↦ refl | false ↦ refl ]

pub line-container : (h : Holder) (n : ℕ) (c : Container) (at : Place) (t : PlacedTree) → n ≤ length (spine t)
    → is_in_line_at h (suc n) (at_depth n (λ x. and_container x c at nothing) t) ≡ is_item c
line-container h zero c at t le = line-first c at
line-container h (suc n) c at nothing le = absurd (omega arith)
line-container h (suc n) c at (and_leaf b k place) le = absurd (omega arith)
line-container h (suc n) c at (and_container b d place i) le = line-container (holder_in d place) n c at i (omega arith)

-- inside a container that is not closed no line begins but behind what stands in it
pub line-outside : (h : Holder) (n : ℕ) (t : PlacedTree) → n < length (spine t) → is_in_line_at h n t ≡ false
line-outside h zero nothing le = absurd (omega arith)
line-outside h zero (and_leaf b l at) le = absurd (omega arith)
line-outside no_item zero (and_container b c at i) le = refl
line-outside loose_item zero (and_container b c at i) le = refl
line-outside tight_item zero (and_container b c at i) le = refl
line-outside h (suc n) nothing le = absurd (omega arith)
line-outside h (suc n) (and_leaf b l at) le = absurd (omega arith)
line-outside h (suc n) (and_container b c at i) le = line-outside (holder_in c at) n i (omega arith)

-- The first block of an item.

none-first : (i : Bool) → (i && false) ≡ false
none-first true = refl
none-first false = refl

first-here : (i : Bool) (b : PlacedTree) (l : Leaf) (at : Place) → is_first_block i (without_places (and_leaf b l at)) ≡ is_first_after (is_first_block i (without_places b)) l
first-here i b blank at = refl
first-here i b (paragraph []) at = refl
first-here i b (paragraph (c ∷ cs)) at = none-first i
first-here i b thematic_break at = none-first i
first-here i b (heading n cs) at = none-first i
first-here i b (underlined n cs) at = none-first i
first-here i b (indented_code ls) at = none-first i
first-here i b (fenced_code f info ls ended) at = none-first i
first-here i b (html kind cs ended) at = none-first i
first-here i b (table columns rows) at = none-first i
first-here i b (front_matter ls) at = none-first i

pub first-leaf : (i : Bool) (n : ℕ) (l : Leaf) (at : Place) (t : PlacedTree) → n ≤ length (spine t) → is_first_at i n (at_depth n (λ x. and_leaf x l at) t) ≡ is_first_after (is_first_at i n t) l
first-leaf i zero l at t le = first-here i t l at
first-leaf i (suc n) l at nothing le = absurd (omega arith)
first-leaf i (suc n) l at (and_leaf b k place) le = absurd (omega arith)
first-leaf i (suc n) l at (and_container b c place inside) le = first-leaf (is_item c) n l at inside (omega arith)

first-inside : (c : Container) → is_first_block (is_item c) model.nothing ≡ is_item c
first-inside quote = refl
first-inside (footnote label) = refl
first-inside (item m columns) = refl

pub first-container : (i : Bool) (n : ℕ) (c : Container) (at : Place) (t : PlacedTree) → n ≤ length (spine t) → is_first_at i (suc n) (at_depth n (λ x. and_container x c at nothing) t) ≡ is_item c
first-container i zero c at t le = first-inside c
first-container i (suc n) c at nothing le = absurd (omega arith)
first-container i (suc n) c at (and_leaf b k place) le = absurd (omega arith)
first-container i (suc n) c at (and_container b d place inside) le = first-container (is_item d) n c at inside (omega arith)

-- a container is a block
pub first-outside : (i : Bool) (n : ℕ) (t : PlacedTree) → n < length (spine t) → is_first_at i n t ≡ false
first-outside i zero nothing le = absurd (omega arith)
first-outside i zero (and_leaf b l at) le = absurd (omega arith)
first-outside i zero (and_container b c at inside) le = none-first i
first-outside i (suc n) nothing le = absurd (omega arith)
first-outside i (suc n) (and_leaf b l at) le = absurd (omega arith)
first-outside i (suc n) (and_container b c at inside) le = first-outside (is_item c) n inside (omega arith)

pub spine-same : (n : ℕ) (f : PlacedTree → PlacedTree) (t : PlacedTree) → take n (spine (at_depth n f t)) ≡ take n (spine t)
spine-same zero f t = refl
spine-same (suc n) f nothing = refl
spine-same (suc n) f (and_leaf b l at) = refl
spine-same (suc n) f (and_container b c at i) = ap (λ x. record { container = c; place = at } ∷ x) (spine-same n f i)

pub spine-deeper : (n : ℕ) (c : Container) (at : Place) (t : PlacedTree) → n ≤ length (spine t)
    → take (suc n) (spine (at_depth n (λ x. and_container x c at nothing) t)) ≡ take n (spine t) ++ record { container = c; place = at } ∷ []
spine-deeper zero c at t le = refl
spine-deeper (suc n) c at nothing le = absurd (omega arith)
spine-deeper (suc n) c at (and_leaf b l place) le = absurd (omega arith)
spine-deeper (suc n) c at (and_container b d place i) le = ap (λ x. record { container = d; place = place } ∷ x) (spine-deeper n c at i (omega arith))
