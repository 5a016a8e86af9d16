-- What the writer of a page has.
use Rattle.std.specs.Prelude.{◌≡◌, ℕ, suc, false, List, length, take, drop, map, Option}
use Rattle.markdown_model.specs.Setting.{Setting}
use Rattle.markdown_html_model.specs.Html.{Page}
use Rattle.markdown_block_line.specs.LineBlocks.{container_of}
use Rattle.markdown_blocks.specs.declared.block.Row.{Row}
use Rattle.markdown_blocks.specs.declared.block.Row.TheVariants.{LeafAt, ContainerAt}
use Rattle.markdown_page_model.specs.PageHtml.{no_item}
use Rattle.markdown_page.specs.BroughtSoFar.{IsSpent}
use Rattle.markdown_page.specs.DocumentBrought.{tree_brought}
use Rattle.markdown_page.specs.PlacedTree.{PlacedTree, nothing, PlacedContainer, without_places, spine, open_html, is_in_line_at, is_first_at, placed_rows}
use Rattle.markdown_blocks.specs.NestedRows.{AreNested}
use Rattle.markdown_page.specs.declared.lists.Place.{Place}
use Rattle.markdown_page.specs.declared.write.OpenContainer.{OpenContainer}
use Rattle.markdown_page.specs.declared.write.Writer.{Writer}

abbrev pub placed_of : OpenContainer → PlacedContainer
placed_of c = record { container = container_of c.container; place = c.place }

abbrev pub depth : Writer → ℕ
depth w = length w.opened.items

-- the tree is written with this limit, but for what closes the containers that are open
pub record IsWrittenSoFar (s : Setting) (p : Page) (limit : Option ℕ) (t : PlacedTree) (w : Writer) : Type 0 where
  pub containers : take (depth w) (spine t) ≡ map placed_of w.opened.items
  pub html : w.out.items ≡ open_html s p no_item (depth w) t
  pub line : w.in_line ≡ is_in_line_at no_item (depth w) t
  pub first : w.is_first ≡ is_first_at false (depth w) t
  pub spent : IsSpent limit (tree_brought s p false (without_places t)) w.left

-- how deep a row stands, and how deep what follows it may
abbrev pub row_depth : Row → ℕ
row_depth (LeafAt d l) = d
row_depth (ContainerAt d c) = d

abbrev pub depth_behind : Row → ℕ
depth_behind (LeafAt d l) = d
depth_behind (ContainerAt d c) = suc d

-- So many rows are written. With the others behind it, the tree is that of all.
pub record IsReached (s : Setting) (p : Page) (limit : Option ℕ) (bytes : List ℕ) (rows : List Row) (places : List Place) (w : Writer) (n : ℕ) : Type 0 where
  pub tree : PlacedTree
  pub written : IsWrittenSoFar s p limit tree w
  pub rest : placed_rows bytes tree (drop n rows) (drop n places) ≡ placed_rows bytes nothing rows places
  pub nested : AreNested (depth w) (drop n rows)
