-- What is known of lists when the rows so far are read, and when those behind a row are.
use Rattle.std.specs.Prelude.{◌≡◌, ℕ, ◌+◌, Bool, true, false, not, ◌||◌, List, [], ◌∷◌, ◌++◌, length, map, take, get_or, Option, Some, None, option_map, if◌then◌else◌, nat_lt, ◌==◌}
use Rattle.markdown_block_model.specs.BlockTree.{Marker, Container, quote, item, footnote, Leaf, blank, Tree, nothing, and_leaf, and_container}
use Rattle.markdown_block_model.specs.LooseLists.{goes_on_list, ends_with_blank, are_apart, is_loose}
use Rattle.markdown_block_line.specs.LineBlocks.{marker_of}
use Rattle.markdown_block_line.specs.declared.containers.Container.TheVariants.{Quote, Item}
use Rattle.markdown_blocks.specs.TreeDepth.{inside_at}
use Rattle.markdown_blocks.specs.declared.block.Leaf.{Leaf as RowLeaf}
use Rattle.markdown_blocks.specs.declared.block.Leaf.TheVariants as rows
use Rattle.markdown_blocks.specs.declared.block.Row.{Row}
use Rattle.markdown_blocks.specs.declared.block.Row.TheVariants.{LeafAt, ContainerAt}
use Rattle.markdown_page_model.specs.PageHtml.{NextItem, goes_on}
use Rattle.markdown_page.specs.declared.lists.Place.{Place}
use Rattle.markdown_page.specs.declared.lists.ListItem.{ListItem}
use Rattle.markdown_page.specs.declared.lists.OpenContainer.{OpenContainer}
use Rattle.markdown_page.specs.declared.lists.Walk.{Walk}
use Rattle.markdown_page.specs.ListPlaces.{no_place}

-- the places in lists that end with these items: each list may still become loose, and ends nowhere yet
abbrev pub places_so_far : Tree → List Place
places_so_far nothing = []
places_so_far (and_leaf before leaf) = places_so_far before ++ no_place ∷ []
places_so_far (and_container before quote inside) = places_so_far before ++ no_place ∷ places_so_far inside
places_so_far (and_container before (footnote label) inside) = places_so_far before ++ no_place ∷ places_so_far inside
places_so_far (and_container before (item m columns) inside) =
    places_so_far before
    ++ record { is_loose = is_loose (and_container before (item m columns) inside); begins = not (goes_on_list m before); ends = false } ∷ places_so_far inside

-- an item's marker
abbrev pub marker_in : Container → Option Marker
marker_in quote = None
marker_in (footnote label) = None
marker_in (item m columns) = Some m

-- the newest containers, one inside another, the outermost first: the number of its row, counted from the first row of these siblings on, and an item's marker
abbrev pub open_containers : ℕ → Tree → List (ℕ × Option Marker)
open_containers first nothing = []
open_containers first (and_leaf before leaf) = []
open_containers first (and_container before c inside) =
    let row = first + length (places_so_far before) in
    (row, marker_in c) ∷ open_containers (row + 1) inside

-- the newest sibling, but for blank lines, if it is an item, with whether its list is loose so far
abbrev pub last_item : Tree → Option NextItem
last_item nothing = None
last_item (and_leaf before blank) = last_item before
last_item (and_leaf before leaf) = None
last_item (and_container before quote inside) = None
last_item (and_container before (footnote label) inside) = None
last_item (and_container before (item m columns) inside) = Some (record { marker = m; is_loose = is_loose (and_container before (item m columns) inside) })

-- what the walk's open containers and items are in the tree
abbrev pub opened : OpenContainer → ℕ × Option Marker
opened o = (o.row, option_map marker_of o.marker)

abbrev pub item_of : ListItem → NextItem
item_of i = record { marker = marker_of i.marker; is_loose = i.is_loose }

abbrev pub is_loose_item : Option NextItem → Bool
is_loose_item None = false
is_loose_item (Some newest) = newest.is_loose

abbrev pub is_blank_leaf : Leaf → Bool
is_blank_leaf blank = true
is_blank_leaf leaf = false

-- an open container as the last item of the siblings that it stands among
abbrev pub passed_item : List Place → ℕ × Option Marker → Option NextItem
passed_item ps container = option_map (λ m. record { marker = m; is_loose = (get_or ps container.0 no_place).is_loose }) container.1

-- a row behind siblings has this place, and `is_apart` says that a blank line stands between it and a block before it
pub record IsAppended (f : Tree → Tree) (place : Place) (is_apart : Bool) (siblings : Tree) : Type 0 where
  pub places : places_so_far (f siblings) ≡ places_so_far siblings ++ place ∷ []
  pub apart : are_apart (f siblings) ≡ (are_apart siblings || is_apart)

-- a footnote definition, which no row is
abbrev pub is_footnote : Container → Bool
is_footnote quote = false
is_footnote (item m columns) = false
is_footnote (footnote label) = true

-- none of the newest containers is one
abbrev pub IsPlain : Tree → Type 0
IsPlain nothing = Unit {0}
IsPlain (and_leaf before leaf) = Unit {0}
IsPlain (and_container before c inside) = (is_footnote c ≡ false) × IsPlain inside

-- what a walk knows behind the siblings that stand as deep as its path is long
pub record IsWalked (t : Tree) (w : Walk) : Type 0 where
  pub places : w.places.items ≡ places_so_far t
  pub path : map opened w.path.items ≡ take (length w.path.items) (open_containers 0 t)
  pub last : option_map item_of w.last ≡ last_item (inside_at (length w.path.items) t)
  pub blank : w.ends_with_blank ≡ ends_with_blank (inside_at (length w.path.items) t)
  pub plain : IsPlain t

-- From the last row to the first.

-- what a row is to the items before it: one that passes the next item on, one that parts lists, or an item
pub data RowKind : Type 0 where
  passes : RowKind
  parts : RowKind
  is_item : Marker → RowKind

abbrev pub leaf_kind : RowLeaf → RowKind
leaf_kind rows.Blank = passes
leaf_kind leaf = parts

abbrev pub row_kind : Row → RowKind
row_kind (LeafAt depth leaf) = leaf_kind leaf
row_kind (ContainerAt depth Quote) = parts
row_kind (ContainerAt depth (Item m columns)) = is_item (marker_of m)

abbrev pub row_depth : Row → ℕ
row_depth (LeafAt depth leaf) = depth
row_depth (ContainerAt depth c) = depth

-- the item that stands next at a depth
abbrev pub next_at : List (Option ListItem) → ℕ → Option NextItem
next_at nexts depth = option_map item_of (get_or nexts depth None)

-- with another one at this depth, and none deeper
abbrev pub with_next : (ℕ → Option NextItem) → ℕ → Option NextItem → ℕ → Option NextItem
with_next nexts depth next k = if nat_lt k depth then nexts k else (if k == depth then next else None)

-- the place of a row before the next item, if any, of which the place in a list that ends with it is known
abbrev pub place_before : Option NextItem → RowKind → Place → Place
place_before next passes place = place
place_before next parts place = place
place_before next (is_item m) place =
    record { is_loose = if goes_on next m then is_loose_item next else place.is_loose; begins = place.begins; ends = not (goes_on next m) }

-- the items that stand next before a row
abbrev pub nexts_before : (ℕ → Option NextItem) → ℕ → RowKind → Place → ℕ → Option NextItem
nexts_before nexts depth passes place = nexts
nexts_before nexts depth parts place = with_next nexts depth None
nexts_before nexts depth (is_item m) place =
    with_next nexts depth (Some (record { marker = m; is_loose = (place_before (nexts depth) (is_item m) place).is_loose }))
