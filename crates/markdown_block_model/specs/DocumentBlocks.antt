-- A document's blocks (CommonMark 3 to 5, and the extensions), but for what definitions take of a paragraph: its lines one after another, each on the tree of those
-- before it.
--
-- The open blocks are the newest ones, one inside another. A line goes on with them as far as each lets it, and begins new blocks there. Or it goes on
-- lazily with a paragraph.
use Rattle.std.specs.Prelude.{ℕ, Bool, true, false, ◌&&◌, ◌||◌, not, nat_le, List, [], ◌∷◌, ◌++◌, Option, Some, None, is_some, if◌then◌else◌}
use Rattle.markdown_content.specs.Codes.{Code}
use Rattle.markdown_block_model.specs.ByteOrderMark.{document_codes}
use Rattle.markdown_block_model.specs.LineRests.{lines_of, indent, trimmed, is_blank_line, skip, trimmed_end, only_if}
use Rattle.markdown_block_model.specs.BlockTree.{Extensions, Container, quote, item, footnote, Fence, Alignment, Leaf, blank, thematic_break, heading, underlined, paragraph, indented_code, fenced_code, html, table, front_matter, Tree, nothing, and_leaf, and_container}
use Rattle.markdown_block_model.specs.LeafStarts.{underline, is_closing}
use Rattle.markdown_block_model.specs.HtmlStarts.{ends_html}
use Rattle.markdown_block_model.specs.ContainerStarts.{behind_quote}
use Rattle.markdown_block_model.specs.Tables.{cells_of, table_at, with_cells}
use Rattle.markdown_block_model.specs.FrontMatter.{matter_at}
use Rattle.markdown_block_model.specs.BlockStarts.{Begun, begun, with_begun, with_line}

-- Leaves that a line goes on with.

-- fenced code: the line ends it, or is a line of it without the columns that stand before the fence (4.5)
abbrev pub with_fenced_line : Bool → Fence → List Code → List (List Code) → List Code → Leaf
with_fenced_line true f info ls cs = fenced_code f info ls true
with_fenced_line false f info ls cs = fenced_code f info (ls ++ (skip f.columns cs ∷ [])) false

-- indented code: a line that is indented by four columns, or a blank one (4.4); by whether it is indented so
abbrev pub with_indented_line : Bool → List (List Code) → List Code → Option Leaf
with_indented_line true ls cs = Some (indented_code (ls ++ (skip 4 cs ∷ [])))
with_indented_line false ls cs = only_if (is_blank_line cs) (indented_code (ls ++ (trimmed cs ∷ [])))

-- a table: the line is a further row, if it begins no block (GFM 4.10); by what it begins
abbrev pub with_table_line : List Alignment → List (List (List Code)) → List Code → Option Begun → Option Leaf
with_table_line columns rows cs (Some b) = None
with_table_line columns rows cs None = with_cells columns rows (cells_of cs)

-- a leaf with a further line, where it goes on with it; a paragraph goes on in another way
abbrev pub with_next : Extensions → Leaf → List Code → Option Leaf
with_next e (table columns rows) cs = with_table_line columns rows cs (begun e false false cs)
with_next e (front_matter ls) cs = None
with_next e (fenced_code f info ls ended) cs = only_if (not ended) (with_fenced_line (is_closing f cs) f info ls cs)
with_next e (indented_code ls) cs = with_indented_line (nat_le 4 (indent cs)) ls cs
with_next e (html k text ended) cs = only_if (not (ended || (nat_le 6 k && is_blank_line cs))) (html k (text ++ cs) (ends_html k cs))
with_next e blank cs = None
with_next e thematic_break cs = None
with_next e (heading n text) cs = None
with_next e (underlined n text) cs = None
with_next e (paragraph text) cs = None

-- a leaf that is no paragraph with the further line, or the line behind it
abbrev pub with_next_or_line : Extensions → List Code → Tree → Leaf → Option Leaf → Tree
with_next_or_line e cs before leaf (Some next) = and_leaf before next
with_next_or_line e cs before leaf None = with_line e cs (and_leaf before leaf)

-- A paragraph and a line: the line ends it, makes it a heading, begins a block behind it, makes its last line the header of a table, or is a line of it (4.3, 4.8,
-- GFM 4.10). `has_text` says whether text is
-- left behind the definitions at its front; else there is nothing to underline.

-- the codes of all lines but the last, and the last line
abbrev pub split_last : List (List Code) → List Code × List Code
split_last [] = ([], [])
split_last (l ∷ []) = ([], l)
split_last (l ∷ k ∷ ls) = let rest = split_last (k ∷ ls) in (l ++ rest.0, rest.1)

-- a table, after what is left of the paragraph: its lines before the header, if there are some
abbrev pub with_table : Tree → List Code → Leaf → Tree
with_table before [] t = and_leaf before t
with_table before (c ∷ cs) t = and_leaf (and_leaf before (paragraph (c ∷ cs))) t

-- by the table that the line makes with the last line of the paragraph
abbrev pub with_text_table : List Code → Tree → List Code → Option Leaf → Tree
with_text_table cs before text (Some t) = with_table before (split_last (lines_of text)).0 t
with_text_table cs before text None = and_leaf before (paragraph (text ++ trimmed cs))

-- by what the line begins
abbrev pub with_text_begun : Extensions → List Code → Tree → List Code → Option Begun → Tree
with_text_begun e cs before text (Some b) = with_begun e b (and_leaf before (paragraph text))
with_text_begun e cs before text None = with_text_table cs before text (if e.tables then table_at (split_last (lines_of text)).1 cs else None)

-- by the level of the heading that the line makes of it
abbrev pub with_text_level : Extensions → List Code → Tree → List Code → Option ℕ → Tree
with_text_level e cs before text (Some level) = and_leaf before (underlined level (trimmed_end text))
with_text_level e cs before text None = with_text_begun e cs before text (begun e true true cs)

abbrev pub heading_level : (List Code → Bool) → List Code → List Code → Option ℕ
heading_level has_text cs text = if has_text text then underline cs else None

abbrev pub with_text_line : Extensions → (List Code → Bool) → List Code → Tree → List Code → Tree
with_text_line e has_text cs before text =
    if is_blank_line cs then and_leaf (and_leaf before (paragraph text)) blank else with_text_level e cs before text (heading_level has_text cs text)

abbrev pub with_leaf_line : Extensions → (List Code → Bool) → List Code → Tree → Leaf → Tree
with_leaf_line e has_text cs before (paragraph text) = with_text_line e has_text cs before text
with_leaf_line e has_text cs before leaf = with_next_or_line e cs before leaf (with_next e leaf cs)

-- Containers that a line goes on with.

abbrev pub is_nothing : Tree → Bool
is_nothing nothing = true
is_nothing (and_leaf before leaf) = false
is_nothing (and_container before c inside) = false

-- An item can begin with at most one blank line (5.2), so it does not go on with a further one while it holds nothing.
abbrev pub is_further_blank : Tree → List Code → Bool
is_further_blank inside cs = is_nothing inside && is_blank_line cs

-- an item: a line that is indented by its columns, or else a blank one (5.2); a footnote definition likewise, with four columns; by whether it is indented so
abbrev pub rest_in_item : Bool → ℕ → List Code → Option (List Code)
rest_in_item true columns cs = Some (skip columns cs)
rest_in_item false columns cs = only_if (is_blank_line cs) (trimmed cs)

-- the rest of a line inside a container, where it goes on with it
abbrev pub rest_inside : Container → Tree → List Code → Option (List Code)
rest_inside quote inside cs = behind_quote cs
rest_inside (footnote label) inside cs = rest_in_item (nat_le 4 (indent cs)) 4 cs
rest_inside (item m columns) inside cs = if is_further_blank inside cs then None else rest_in_item (nat_le columns (indent cs)) columns cs

-- Laziness (5.1): a line that begins no block goes on with the paragraph that stands newest inside all containers.

abbrev pub ends_in_text : Tree → Bool
ends_in_text nothing = false
ends_in_text (and_leaf before (paragraph text)) = true
ends_in_text (and_leaf before leaf) = false
ends_in_text (and_container before c inside) = ends_in_text inside

abbrev pub with_lazy_line : List Code → Tree → Tree
with_lazy_line cs nothing = nothing
with_lazy_line cs (and_leaf before (paragraph text)) = and_leaf before (paragraph (text ++ trimmed cs))
with_lazy_line cs (and_leaf before leaf) = and_leaf before leaf
with_lazy_line cs (and_container before c inside) = and_container before c (with_lazy_line cs inside)

abbrev pub is_lazy : Extensions → List Code → Tree → Bool
is_lazy e cs inside = ends_in_text inside && not (is_blank_line cs || is_some (begun e false true cs))

-- A container with a line: what the rest makes of its inside, where the line goes on with it. Else the line goes on lazily with what is inside, or stands
-- behind the container.
abbrev pub with_rest_inside : Extensions → (List Code → Tree) → List Code → Tree → Container → Tree → Option (List Code) → Tree
with_rest_inside e inner cs before c inside (Some rest) = and_container before c (inner rest)
with_rest_inside e inner cs before c inside None =
    if is_lazy e cs inside then and_container before c (with_lazy_line cs inside) else with_line e cs (and_container before c inside)

-- a line on the tree of the lines before it
abbrev pub read_line : Extensions → (List Code → Bool) → List Code → Tree → Tree
read_line e has_text cs nothing = with_line e cs nothing
read_line e has_text cs (and_leaf before leaf) = with_leaf_line e has_text cs before leaf
read_line e has_text cs (and_container before c inside) =
    with_rest_inside e (λ rest. read_line e has_text rest inside) cs before c inside (rest_inside c inside cs)

abbrev pub read_lines : Extensions → (List Code → Bool) → List (List Code) → Tree → Tree
read_lines e has_text [] t = t
read_lines e has_text (l ∷ ls) t = read_lines e has_text ls (read_line e has_text l t)

-- the lines of a document, by its front matter, if there is some
abbrev pub read_behind : Extensions → (List Code → Bool) → List (List Code) → Option (List (List Code) × List (List Code)) → Tree
read_behind e has_text ls None = read_lines e has_text ls nothing
read_behind e has_text ls (Some r) = read_lines e has_text r.1 (and_leaf nothing (front_matter r.0))

-- the tree of a document's lines
abbrev pub blocks_of : Extensions → (List Code → Bool) → List ℕ → Tree
blocks_of e has_text bytes =
    let ls = lines_of (document_codes bytes) in
    read_behind e has_text ls (if e.front_matter then matter_at ls else None)
