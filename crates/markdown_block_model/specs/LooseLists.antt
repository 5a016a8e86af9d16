-- Lists (CommonMark 5.3): neighbours among items of one kind are one list. A list is loose if a blank line stands between two of its items, or between two
-- blocks that stand right in one of them.
use Rattle.std.specs.Prelude.{Bool, true, false, ◌&&◌, ◌||◌, not, ◌==◌, List, [], ◌∷◌}
use Rattle.markdown_content.specs.Codes.{Code}
use Rattle.markdown_block_model.specs.LineRests.{is_blank_line}
use Rattle.markdown_block_model.specs.BlockTree.{Marker, bullet, ordered, quote, item, footnote, blank, indented_code, Tree, nothing, and_leaf, and_container}

-- one bullet, or one delimiter
abbrev pub are_alike : Marker → Marker → Bool
are_alike (bullet n) (bullet m) = n == m
are_alike (ordered n i) (ordered m j) = n == m
are_alike (bullet n) (ordered m j) = false
are_alike (ordered n i) (bullet m) = false

-- the newest sibling, but for blank lines, is an item of this kind
abbrev pub goes_on_list : Marker → Tree → Bool
goes_on_list m nothing = false
goes_on_list m (and_leaf before blank) = goes_on_list m before
goes_on_list m (and_leaf before leaf) = false
goes_on_list m (and_container before quote inside) = false
goes_on_list m (and_container before (footnote label) inside) = false
goes_on_list m (and_container before (item k columns) inside) = are_alike m k

abbrev pub last_is_blank : List (List Code) → Bool
last_is_blank [] = false
last_is_blank (l ∷ []) = is_blank_line l
last_is_blank (l ∷ k ∷ ls) = last_is_blank (k ∷ ls)

-- siblings end with a blank line, perhaps with one inside the last items and footnote definitions
abbrev pub ends_with_blank : Tree → Bool
ends_with_blank nothing = false
ends_with_blank (and_leaf before blank) = true
ends_with_blank (and_leaf before (indented_code ls)) = last_is_blank ls
ends_with_blank (and_leaf before leaf) = false
ends_with_blank (and_container before quote inside) = false
ends_with_blank (and_container before (footnote label) inside) = ends_with_blank inside
ends_with_blank (and_container before (item m columns) inside) = ends_with_blank inside

-- a blank line stands between two of the siblings, where the items of a list count as one
abbrev pub are_apart : Tree → Bool
are_apart nothing = false
are_apart (and_leaf before blank) = are_apart before
are_apart (and_leaf before leaf) = are_apart before || ends_with_blank before
are_apart (and_container before quote inside) = are_apart before || ends_with_blank before
are_apart (and_container before (footnote label) inside) = are_apart before || ends_with_blank before
are_apart (and_container before (item m columns) inside) = are_apart before || (ends_with_blank before && not (goes_on_list m before))

-- the list whose last item is the newest sibling, but for blank lines, is loose
abbrev pub is_loose : Tree → Bool
is_loose nothing = false
is_loose (and_leaf before blank) = is_loose before
is_loose (and_leaf before leaf) = false
is_loose (and_container before quote inside) = false
is_loose (and_container before (footnote label) inside) = false
is_loose (and_container before (item m columns) inside) = are_apart inside || (goes_on_list m before && (ends_with_blank before || is_loose before))
