-- Where the items of a document stand in their lists (CommonMark 5.3).
use Rattle.std.specs.Prelude.{false, not, List, [], ◌∷◌, ◌++◌, Option, Some, None}
use Rattle.markdown_block_model.specs.BlockTree.{quote, item, footnote, blank, Tree, nothing, and_leaf, and_container}
use Rattle.markdown_block_model.specs.LooseLists.{goes_on_list}
use Rattle.markdown_page_model.specs.PageHtml.{NextItem, goes_on, is_of_loose_list}
use Rattle.markdown_page.specs.declared.lists.Place.{Place}

-- what is no item
abbrev pub no_place : Place
no_place = record { is_loose = false; begins = false; ends = false }

-- Each leaf and each container of siblings, in the document's order: a container stands before what is inside it. The item stands next behind them, if any.
abbrev pub places_in : Option NextItem → Tree → List Place
places_in next nothing = []
places_in next (and_leaf before blank) = places_in next before ++ no_place ∷ []
places_in next (and_leaf before leaf) = places_in None before ++ no_place ∷ []
places_in next (and_container before quote inside) = places_in None before ++ no_place ∷ places_in None inside
places_in next (and_container before (footnote label) inside) = places_in None before ++ no_place ∷ places_in None inside
places_in next (and_container before (item m columns) inside) =
    let loose = is_of_loose_list next m (and_container before (item m columns) inside) in
    places_in (Some (record { marker = m; is_loose = loose })) before
    ++ record { is_loose = loose; begins = not (goes_on_list m before); ends = not (goes_on next m) } ∷ places_in None inside
