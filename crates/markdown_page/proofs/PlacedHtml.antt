-- The HTML of siblings is that of the tree in which each block has its place.
use Rattle.std.proofs.Common.{◌≡◌, refl, sym, ap, ◌∙◌, ℕ, Bool, true, false, not, List, [], ◌∷◌, ◌++◌, codes, Option, Some, None, append_assoc, if◌then◌else◌}
use Rattle.std.proofs.lemmas.List.{append-nil}
use Rattle.markdown_model.specs.Setting.{Setting}
use Rattle.markdown_html_model.specs.Html.{Page}
use Rattle.markdown_block_model.specs.BlockTree as model
use Rattle.markdown_block_model.specs.BlockTree.{Marker, quote, item, footnote, Leaf, blank, thematic_break, heading, underlined, paragraph, indented_code, fenced_code, html, table, front_matter, Tree}
use Rattle.markdown_block_model.specs.LooseLists.{goes_on_list}
use Rattle.markdown_page_model.specs.PageTexts.{own_ending}
use Rattle.markdown_page_model.specs.PageHtml.{Holder, no_item, loose_item, tight_item, item_of, is_in_line, is_in_item, is_first_block, on_line, line_begun, leaf_behind, list_opening, list_closing, NextItem, goes_on, is_of_loose_list, tree_html}
use Rattle.markdown_page.specs.ListPlaces.{no_place, places_in}
use Rattle.markdown_page.specs.PlacedTree.{without_places, places_of, with_places, is_tight, leaf_written, placed_html}

pub without-with : (next : Option NextItem) (t : Tree) → without_places (with_places next t) ≡ t
without-with next model.nothing = refl
without-with next (model.and_leaf b blank) = ap (λ x. model.and_leaf x blank) (without-with next b)
without-with next (model.and_leaf b thematic_break) = ap (λ x. model.and_leaf x thematic_break) (without-with None b)
without-with next (model.and_leaf b (heading n cs)) = ap (λ x. model.and_leaf x (heading n cs)) (without-with None b)
without-with next (model.and_leaf b (underlined n cs)) = ap (λ x. model.and_leaf x (underlined n cs)) (without-with None b)
without-with next (model.and_leaf b (paragraph cs)) = ap (λ x. model.and_leaf x (paragraph cs)) (without-with None b)
without-with next (model.and_leaf b (indented_code ls)) = ap (λ x. model.and_leaf x (indented_code ls)) (without-with None b)
without-with next (model.and_leaf b (fenced_code f info ls ended)) = ap (λ x. model.and_leaf x (fenced_code f info ls ended)) (without-with None b)
without-with next (model.and_leaf b (html kind cs ended)) = ap (λ x. model.and_leaf x (html kind cs ended)) (without-with None b)
without-with next (model.and_leaf b (table columns rows)) = ap (λ x. model.and_leaf x (table columns rows)) (without-with None b)
without-with next (model.and_leaf b (front_matter ls)) = ap (λ x. model.and_leaf x (front_matter ls)) (without-with None b)
without-with next (model.and_container b quote i) =
    ap (λ x. model.and_container x quote (without_places (with_places None i))) (without-with None b) ∙ ap (λ x. model.and_container b quote x) (without-with None i)
without-with next (model.and_container b (footnote label) i) =
    ap (λ x. model.and_container x (footnote label) (without_places (with_places None i))) (without-with None b) ∙ ap (λ x. model.and_container b (footnote label) x) (without-with None i)
without-with next (model.and_container b (item m k) i) =
    let before : Option NextItem = Some (record { marker = m; is_loose = is_of_loose_list next m (model.and_container b (item m k) i) }) in
    ap (λ x. model.and_container x (item m k) (without_places (with_places None i))) (without-with before b)
    ∙ ap (λ x. model.and_container b (item m k) x) (without-with None i)

pub places-with : (next : Option NextItem) (t : Tree) → places_of (with_places next t) ≡ places_in next t
places-with next model.nothing = refl
places-with next (model.and_leaf b blank) = ap (λ x. x ++ no_place ∷ []) (places-with next b)
places-with next (model.and_leaf b thematic_break) = ap (λ x. x ++ no_place ∷ []) (places-with None b)
places-with next (model.and_leaf b (heading n cs)) = ap (λ x. x ++ no_place ∷ []) (places-with None b)
places-with next (model.and_leaf b (underlined n cs)) = ap (λ x. x ++ no_place ∷ []) (places-with None b)
places-with next (model.and_leaf b (paragraph cs)) = ap (λ x. x ++ no_place ∷ []) (places-with None b)
places-with next (model.and_leaf b (indented_code ls)) = ap (λ x. x ++ no_place ∷ []) (places-with None b)
places-with next (model.and_leaf b (fenced_code f info ls ended)) = ap (λ x. x ++ no_place ∷ []) (places-with None b)
places-with next (model.and_leaf b (html kind cs ended)) = ap (λ x. x ++ no_place ∷ []) (places-with None b)
places-with next (model.and_leaf b (table columns rows)) = ap (λ x. x ++ no_place ∷ []) (places-with None b)
places-with next (model.and_leaf b (front_matter ls)) = ap (λ x. x ++ no_place ∷ []) (places-with None b)
places-with next (model.and_container b quote i) = rw (places-with None b, places-with None i) refl
places-with next (model.and_container b (footnote label) i) = rw (places-with None b, places-with None i) refl
places-with next (model.and_container b (item m k) i) =
    rw (places-with (Some (record { marker = m; is_loose = is_of_loose_list next m (model.and_container b (item m k) i) })) b, places-with None i) refl

leaf-behind : (s : Setting) (p : Page) (h : Holder) (b : Tree) (l : Leaf) → leaf_behind s p h b l ≡ leaf_written s p (is_tight h) (is_in_line h b) (is_first_block (is_in_item h) b) l
leaf-behind s p h b blank = refl
leaf-behind s p h b (paragraph []) = refl
leaf-behind s p tight_item b (paragraph (c ∷ cs)) = refl
leaf-behind s p no_item b (paragraph (c ∷ cs)) = refl
leaf-behind s p loose_item b (paragraph (c ∷ cs)) = refl
leaf-behind s p h b thematic_break = refl
leaf-behind s p h b (heading n cs) = refl
leaf-behind s p h b (underlined n cs) = refl
leaf-behind s p h b (indented_code ls) = refl
leaf-behind s p h b (fenced_code f info ls ended) = refl
leaf-behind s p h b (html kind cs ended) = refl
leaf-behind s p h b (table columns rows) = refl
leaf-behind s p h b (front_matter ls) = refl

one-leaf : (s : Setting) (p : Page) (h : Holder) (b : Tree) (l : Leaf) → tree_html s p h None b ≡ placed_html s p h (with_places None b)
    → tree_html s p h None b ++ leaf_behind s p h b l ≡ placed_html s p h (with_places None b) ++ leaf_written s p (is_tight h) (is_in_line h (without_places (with_places None b))) (is_first_block (is_in_item h) (without_places (with_places None b))) l
one-leaf s p h b l e = rw (without-with None b, leaf-behind s p h b l, e) refl

either : (b : Bool) (x : List ℕ) → (if b then [] else x) ≡ (if not b then x else [])
either true x = refl
either false x = refl

-- where the parts of a quote and of an item stand
quote-parts : (a l o x e : List ℕ) → (a ++ l) ++ ((o ++ x) ++ e) ≡ ((a ++ (l ++ o)) ++ x) ++ e
quote-parts a l o x e = simp append_assoc

footnote-parts : (a l x : List ℕ) → (a ++ l) ++ x ≡ ((a ++ l) ++ x) ++ []
footnote-parts a l x = sym (append-nil ((a ++ l) ++ x))

item-parts : (a l o x e n c : List ℕ) → ((a ++ l) ++ (((o ++ x) ++ e) ++ n)) ++ c ≡ ((a ++ (l ++ o)) ++ x) ++ ((e ++ n) ++ c)
item-parts a l o x e n c = simp append_assoc

pub html-placed : (s : Setting) (p : Page) (h : Holder) (next : Option NextItem) (t : Tree) → tree_html s p h next t ≡ placed_html s p h (with_places next t)
html-placed s p h next model.nothing = refl
html-placed s p h next (model.and_leaf b blank) = rw append-nil (html-placed s p h next b)
html-placed s p h next (model.and_leaf b thematic_break) = one-leaf s p h b thematic_break (html-placed s p h None b)
html-placed s p h next (model.and_leaf b (heading n cs)) = one-leaf s p h b (heading n cs) (html-placed s p h None b)
html-placed s p h next (model.and_leaf b (underlined n cs)) = one-leaf s p h b (underlined n cs) (html-placed s p h None b)
html-placed s p h next (model.and_leaf b (paragraph cs)) = one-leaf s p h b (paragraph cs) (html-placed s p h None b)
html-placed s p h next (model.and_leaf b (indented_code ls)) = one-leaf s p h b (indented_code ls) (html-placed s p h None b)
html-placed s p h next (model.and_leaf b (fenced_code f info ls ended)) = one-leaf s p h b (fenced_code f info ls ended) (html-placed s p h None b)
html-placed s p h next (model.and_leaf b (html kind cs ended)) = one-leaf s p h b (html kind cs ended) (html-placed s p h None b)
html-placed s p h next (model.and_leaf b (table columns rows)) = one-leaf s p h b (table columns rows) (html-placed s p h None b)
html-placed s p h next (model.and_leaf b (front_matter ls)) = one-leaf s p h b (front_matter ls) (html-placed s p h None b)
html-placed s p h next (model.and_container b quote i) =
    rw (without-with None b, html-placed s p h None b, html-placed s p no_item None i) (
    quote-parts (placed_html s p h (with_places None b)) (line_begun p h b) (on_line p (codes "<blockquote>")) (placed_html s p no_item (with_places None i)) (on_line p (codes "</blockquote>"))
    )
html-placed s p h next (model.and_container b (footnote label) i) =
    rw (without-with None b, html-placed s p h None b, html-placed s p no_item None i) (
    footnote-parts (placed_html s p h (with_places None b)) (line_begun p h b) (placed_html s p no_item (with_places None i))
    )
html-placed s p h next (model.and_container b (item m k) i) =
    let loose = is_of_loose_list next m (model.and_container b (item m k) i) in
    let before : Option NextItem = Some (record { marker = m; is_loose = loose }) in
    rw (without-with before b, html-placed s p h before b, html-placed s p (item_of loose) None i, either (goes_on_list m b), either (goes_on next m)) (
    item-parts (placed_html s p h (with_places before b)) (if not (goes_on_list m b) then line_begun p h b ++ on_line p (list_opening m) else []) (codes "<li>")
    (placed_html s p (item_of loose) (with_places None i)) (codes "</li>") (own_ending p) (if not (goes_on next m) then on_line p (list_closing m) else [])
    )
