-- Trees whose blocks know their places in lists, and their HTML: so far as it is written while containers are open.
use Rattle.std.specs.Prelude.{ℕ, zero, suc, Bool, true, false, not, List, [], ◌∷◌, ◌++◌, codes, Option, Some, None, if◌then◌else◌}
use Rattle.markdown_model.specs.Setting.{Setting}
use Rattle.markdown_html_model.specs.Html.{Page}
use Rattle.markdown_block_model.specs.BlockTree as model
use Rattle.markdown_block_model.specs.BlockTree.{Marker, Container, quote, item, footnote, Leaf, blank, paragraph, Tree}
use Rattle.markdown_block_model.specs.LooseLists.{goes_on_list}
use Rattle.markdown_block_line.specs.LineBlocks.{container_of}
use Rattle.markdown_blocks.specs.BlockRows.{leaf_of}
use Rattle.markdown_blocks.specs.declared.block.Row.{Row}
use Rattle.markdown_blocks.specs.declared.block.Row.TheVariants.{LeafAt, ContainerAt}
use Rattle.markdown_page_model.specs.PageTexts.{own_ending}
use Rattle.markdown_page_model.specs.PageHtml.{Holder, no_item, loose_item, tight_item, item_of, is_in_line, is_in_item, is_first_block, leaf_setting, on_line, text_html, leaf_html, list_opening, list_closing, NextItem, goes_on, is_of_loose_list}
use Rattle.markdown_page.specs.declared.lists.Place.{Place}
use Rattle.markdown_page.specs.ListPlaces.{no_place}

-- siblings as those of a tree of blocks, each with its place
pub data PlacedTree : Type 0 where
  nothing : PlacedTree
  and_leaf : PlacedTree → Leaf → Place → PlacedTree
  and_container : PlacedTree → Container → Place → PlacedTree → PlacedTree

abbrev pub without_places : PlacedTree → Tree
without_places nothing = model.nothing
without_places (and_leaf before l at) = model.and_leaf (without_places before) l
without_places (and_container before c at inside) = model.and_container (without_places before) c (without_places inside)

-- the places, in the document's order
abbrev pub places_of : PlacedTree → List Place
places_of nothing = []
places_of (and_leaf before l at) = places_of before ++ at ∷ []
places_of (and_container before c at inside) = places_of before ++ at ∷ places_of inside

-- each block with its place in the tree
abbrev pub with_places : Option NextItem → Tree → PlacedTree
with_places next model.nothing = nothing
with_places next (model.and_leaf before blank) = and_leaf (with_places next before) blank no_place
with_places next (model.and_leaf before leaf) = and_leaf (with_places None before) leaf no_place
with_places next (model.and_container before quote inside) = and_container (with_places None before) quote no_place (with_places None inside)
with_places next (model.and_container before (footnote label) inside) = and_container (with_places None before) (footnote label) no_place (with_places None inside)
with_places next (model.and_container before (item m columns) inside) =
    let loose = is_of_loose_list next m (model.and_container before (item m columns) inside) in
    and_container (with_places (Some (record { marker = m; is_loose = loose })) before) (item m columns) (record { is_loose = loose; begins = not (goes_on_list m before); ends = not (goes_on next m) }) (with_places None inside)

-- HTML.

-- a block begins a line
abbrev pub line_start : Page → Bool → List ℕ
line_start p in_line = if in_line then own_ending p else []

abbrev pub is_tight : Holder → Bool
is_tight no_item = false
is_tight loose_item = false
is_tight tight_item = true

-- A leaf, where it stands right in an item of a tight list, or elsewhere. Of the siblings before, `in_line` says that no line begins behind them, and `first`
-- that they are no block of the item that they are in.
abbrev pub leaf_written : Setting → Page → (tight in_line first : Bool) → Leaf → List ℕ
leaf_written s p tight in_line first blank = []
leaf_written s p tight in_line first (paragraph []) = []
leaf_written s p true in_line first (paragraph (c ∷ cs)) = text_html (leaf_setting s first (paragraph (c ∷ cs))) p (c ∷ cs)
leaf_written s p tight in_line first leaf = line_start p in_line ++ leaf_html (leaf_setting s first leaf) p leaf

-- whether no line begins behind it
abbrev pub is_in_line_behind : (tight in_line : Bool) → Leaf → Bool
is_in_line_behind tight in_line blank = in_line
is_in_line_behind tight in_line (paragraph []) = in_line
is_in_line_behind tight in_line (paragraph (c ∷ cs)) = tight
is_in_line_behind tight in_line leaf = false

-- whether the next block after it is the first one of an item, where it may be this itself
abbrev pub is_first_after : (first : Bool) → Leaf → Bool
is_first_after first blank = first
is_first_after first (paragraph []) = first
is_first_after first leaf = false

-- what stands before the inside of a container, and behind it
abbrev pub opening : Page → Bool → Container → Place → List ℕ
opening p in_line quote at = line_start p in_line ++ on_line p (codes "<blockquote>")
opening p in_line (footnote label) at = line_start p in_line
opening p in_line (item m columns) at = (if at.begins then line_start p in_line ++ on_line p (list_opening m) else []) ++ codes "<li>"

abbrev pub closing : Page → Container → Place → List ℕ
closing p quote at = on_line p (codes "</blockquote>")
closing p (footnote label) at = []
closing p (item m columns) at = on_line p (codes "</li>") ++ (if at.ends then on_line p (list_closing m) else [])

abbrev pub is_item : Container → Bool
is_item quote = false
is_item (footnote label) = false
is_item (item m columns) = true

-- what the inside of a container stands in
abbrev pub holder_in : Container → Place → Holder
holder_in quote at = no_item
holder_in (footnote label) at = no_item
holder_in (item m columns) at = item_of at.is_loose

abbrev pub placed_html : Setting → Page → Holder → PlacedTree → List ℕ
placed_html s p holder nothing = []
placed_html s p holder (and_leaf before l at) =
    placed_html s p holder before ++ leaf_written s p (is_tight holder) (is_in_line holder (without_places before)) (is_first_block (is_in_item holder) (without_places before)) l
placed_html s p holder (and_container before c at inside) =
    placed_html s p holder before ++ opening p (is_in_line holder (without_places before)) c at ++ placed_html s p (holder_in c at) inside ++ closing p c at

-- By depth.

-- a container, and its place
pub record PlacedContainer : Type 0 where
  pub container : Container
  pub place : Place

-- the newest containers, one inside another, the outermost first
abbrev pub spine : PlacedTree → List PlacedContainer
spine nothing = []
spine (and_leaf before l at) = []
spine (and_container before c at inside) = record { container = c; place = at } ∷ spine inside

-- the tree with the siblings changed that stand so deep in the newest containers
abbrev pub at_depth : ℕ → (PlacedTree → PlacedTree) → PlacedTree → PlacedTree
at_depth zero f t = f t
at_depth (suc n) f nothing = nothing
at_depth (suc n) f (and_leaf before l at) = and_leaf before l at
at_depth (suc n) f (and_container before c at inside) = and_container before c at (at_depth n f inside)

-- the HTML without what closes the outermost of the newest containers, so many
abbrev pub open_html : Setting → Page → Holder → ℕ → PlacedTree → List ℕ
open_html s p holder zero t = placed_html s p holder t
open_html s p holder (suc n) nothing = []
open_html s p holder (suc n) (and_leaf before l at) = placed_html s p holder (and_leaf before l at)
open_html s p holder (suc n) (and_container before c at inside) =
    placed_html s p holder before ++ opening p (is_in_line holder (without_places before)) c at ++ open_html s p (holder_in c at) n inside

-- whether no line begins behind the siblings that stand so deep
abbrev pub is_in_line_at : Holder → ℕ → PlacedTree → Bool
is_in_line_at holder zero t = is_in_line holder (without_places t)
is_in_line_at holder (suc n) nothing = false
is_in_line_at holder (suc n) (and_leaf before l at) = false
is_in_line_at holder (suc n) (and_container before c at inside) = is_in_line_at (holder_in c at) n inside

-- whether the next block at this depth is the first one of an item
abbrev pub is_first_at : (in_item : Bool) → ℕ → PlacedTree → Bool
is_first_at in_item zero t = is_first_block in_item (without_places t)
is_first_at in_item (suc n) nothing = false
is_first_at in_item (suc n) (and_leaf before l at) = false
is_first_at in_item (suc n) (and_container before c at inside) = is_first_at (is_item c) n inside

-- what the siblings in these containers stand in
abbrev pub holder_of : Holder → List PlacedContainer → Holder
holder_of holder [] = holder
holder_of holder (c ∷ cs) = holder_of (holder_in c.container c.place) cs

-- Rows.

abbrev pub with_placed_row : List ℕ → Row → Place → PlacedTree → PlacedTree
with_placed_row bytes (LeafAt d l) at t = at_depth d (λ x. and_leaf x (leaf_of bytes l) at) t
with_placed_row bytes (ContainerAt d c) at t = at_depth d (λ x. and_container x (container_of c) at nothing) t

-- the tree of rows with these places, behind others
abbrev pub placed_rows : List ℕ → PlacedTree → List Row → List Place → PlacedTree
placed_rows bytes t [] ats = t
placed_rows bytes t (r ∷ rs) [] = placed_rows bytes (with_placed_row bytes r no_place t) rs []
placed_rows bytes t (r ∷ rs) (at ∷ ats) = placed_rows bytes (with_placed_row bytes r at t) rs ats
