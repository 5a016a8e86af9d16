-- The HTML of a document (CommonMark 0.31.2, sections 4 and 5), over its tree of blocks. Each block begins a line and ends it, but for paragraphs in items
-- of a tight list.
use Rattle.std.specs.Prelude.{ℕ, Bool, true, false, ◌==◌, ◌&&◌, List, [], ◌∷◌, ◌++◌, codes, decimal, map, Option, Some, None, option_map, if◌then◌else◌}
use Rattle.std.specs.Str.{byte}
use Rattle.markdown_content.specs.Codes.{Code}
use Rattle.markdown_content.specs.CommonMark.{rules_of}
use Rattle.markdown_content.specs.DefaultOptions.{default_options}
use Rattle.markdown_content.specs.declared.configuration.ParseOptions.{ParseOptions}
use Rattle.markdown_util.specs.declared.decoding.Decoding.{Decoding}
use Rattle.markdown_model.specs.Setting.{Setting, references_of}
use Rattle.markdown_model.specs.InlineTree.{text_tree}
use Rattle.markdown_html_model.specs.Escaped.{escaped}
use Rattle.markdown_html_model.specs.Resolved.{resolved, decoding_of}
use Rattle.markdown_html_model.specs.Html.{Defined, Page, page_of_content, raw_html, html as inline_html}
use Rattle.markdown_html_model.specs.declared.options.HtmlOptions.{HtmlOptions}
use Rattle.markdown_html_model.specs.declared.role.Within.{Within}
use Rattle.markdown_block_model.specs.LineRests.{lines_of}
use Rattle.markdown_block_model.specs.BlockTree.{Extensions, Marker, bullet, ordered, quote, item, footnote, Leaf, blank, thematic_break, heading, underlined, paragraph, indented_code, fenced_code, html, table, front_matter, Tree, nothing, and_leaf, and_container}
use Rattle.markdown_block_model.specs.LinkDefinitions.{Definition, definitions, document_tree, identifier}
use Rattle.markdown_block_model.specs.LooseLists.{are_alike, goes_on_list, is_loose}
use Rattle.markdown_page_model.specs.PageTexts.{text_of, own_ending, lines_html, filled, first_word}

-- Leaves (4).

-- the text of a paragraph or a heading: the HTML of its inline tree (6)
abbrev pub text_html : Setting → Page → List Code → List ℕ
text_html s p text = inline_html (page_of_content text p) [] (text_tree s text)

-- with the page's line ending behind it
abbrev pub on_line : Page → List ℕ → List ℕ
on_line p written = written ++ own_ending p

-- a heading of this level (4.2, 4.3)
abbrev pub heading_html : Page → ℕ → List ℕ → List ℕ
heading_html p level inside = on_line p (codes "<h" ++ decimal level ++ codes ">" ++ inside ++ codes "</h" ++ decimal level ++ codes ">")

-- the first word of an info string names the language of the code (4.5)
abbrev pub language_class : List ℕ → List ℕ
language_class [] = []
language_class (b ∷ bs) = codes " class=\"language-" ++ escaped (b ∷ bs) ++ codes "\""

-- lines of code in this language, if any (4.4, 4.5)
abbrev pub code_html : Page → List ℕ → List (List Code) → List ℕ
code_html p language ls = on_line p (codes "<pre><code" ++ language_class language ++ codes ">" ++ lines_html p escaped ls ++ codes "</code></pre>")

-- fenced code, or math, whose fence is of dollars: no language is named for it
abbrev pub fenced_html : Page → ℕ → List ℕ → List (List Code) → List ℕ
fenced_html p value language ls = code_html p (if value == byte "$" then codes "math math-display" else language) ls

-- front matter is left out, and a table, which the tree of a document without this extension has not
abbrev pub leaf_html : Setting → Page → Leaf → List ℕ
leaf_html s p blank = []
leaf_html s p thematic_break = on_line p (codes "<hr />")
leaf_html s p (heading level text) = heading_html p level (text_html s p text)
leaf_html s p (underlined level text) = heading_html p level (text_html s p text)
leaf_html s p (paragraph text) = on_line p (codes "<p>" ++ text_html s p text ++ codes "</p>")
leaf_html s p (indented_code ls) = code_html p [] (filled ls)
leaf_html s p (fenced_code f info ls ended) = fenced_html p f.value (first_word (resolved p.decoding (text_of info))) ls
leaf_html s p (html kind text ended) = lines_html p (raw_html p Within.Outside) (lines_of text)
leaf_html s p (table columns rows) = []
leaf_html s p (front_matter ls) = []

-- Siblings.

-- what they stand right in: the document or a quote, or an item of a list, which is loose or tight (5.3)
pub data Holder : Type 0 where
  no_item : Holder
  loose_item : Holder
  tight_item : Holder

-- an item, by whether its list is loose
abbrev pub item_of : Bool → Holder
item_of true = loose_item
item_of false = tight_item

-- Behind these siblings no line begins: they are nothing behind `<li>`, or a paragraph without tags stands last.
abbrev pub is_in_line : Holder → Tree → Bool
is_in_line no_item nothing = false
is_in_line loose_item nothing = true
is_in_line tight_item nothing = true
is_in_line holder (and_leaf before blank) = is_in_line holder before
is_in_line holder (and_leaf before (paragraph [])) = is_in_line holder before
is_in_line tight_item (and_leaf before (paragraph (c ∷ cs))) = true
is_in_line holder (and_leaf before leaf) = false
is_in_line holder (and_container before c inside) = false

-- a block behind these siblings begins a line
abbrev pub line_begun : Page → Holder → Tree → List ℕ
line_begun p holder before = if is_in_line holder before then own_ending p else []

-- Task list items (GFM 5.3): the first block of an item may be a paragraph that begins with a task list item marker.

abbrev pub is_in_item : Holder → Bool
is_in_item no_item = false
is_in_item loose_item = true
is_in_item tight_item = true

-- there is no block among these siblings: blank lines (4.9) and definitions (4.7) are none
abbrev pub has_no_block : Tree → Bool
has_no_block nothing = true
has_no_block (and_leaf before blank) = has_no_block before
has_no_block (and_leaf before (paragraph [])) = has_no_block before
has_no_block (and_leaf before leaf) = false
has_no_block (and_container before c inside) = false

-- the next block after these siblings is the first one of an item, if they are in one
abbrev pub is_first_block : (in_item : Bool) → Tree → Bool
is_first_block in_item before = in_item && has_no_block before

-- the setting of the text of a leaf, which may be the first block of an item
abbrev pub leaf_setting : Setting → (first : Bool) → Leaf → Setting
leaf_setting s first (paragraph text) = record s { first_of_item = first }
leaf_setting s first leaf = s

-- that of a leaf behind these siblings
abbrev pub setting_behind : Setting → Holder → Tree → Leaf → Setting
setting_behind s holder before leaf = leaf_setting s (is_first_block (is_in_item holder) before) leaf

-- A leaf behind these siblings. A paragraph right in an item of a tight list is its text alone (5.3); one of definitions alone is nothing (4.7).
abbrev pub leaf_behind : Setting → Page → Holder → Tree → Leaf → List ℕ
leaf_behind s p holder before blank = []
leaf_behind s p holder before (paragraph []) = []
leaf_behind s p tight_item before (paragraph (c ∷ cs)) = text_html (setting_behind s tight_item before (paragraph (c ∷ cs))) p (c ∷ cs)
leaf_behind s p holder before leaf = line_begun p holder before ++ leaf_html (setting_behind s holder before leaf) p leaf

abbrev pub quote_html : Page → List ℕ → List ℕ
quote_html p inside = on_line p (codes "<blockquote>") ++ inside ++ on_line p (codes "</blockquote>")

-- Lists (5.3).

-- the item that stands next behind siblings: its marker, and whether its list is loose
pub record NextItem : Type 0 where
  pub marker : Marker
  pub is_loose : Bool

-- it is of the list of an item with this marker
abbrev pub goes_on : Option NextItem → Marker → Bool
goes_on None m = false
goes_on (Some next) m = are_alike next.marker m

-- whether the list of an item is loose: that which goes on with the next item, or that which ends with the newest sibling
abbrev pub is_of_loose_list : Option NextItem → Marker → Tree → Bool
is_of_loose_list None m t = is_loose t
is_of_loose_list (Some next) m t = if are_alike next.marker m then next.is_loose else is_loose t

-- a list begins with the number of its first item
abbrev pub start_attribute : ℕ → List ℕ
start_attribute n = if n == 1 then [] else codes " start=\"" ++ decimal n ++ codes "\""

abbrev pub list_opening : Marker → List ℕ
list_opening (bullet b) = codes "<ul>"
list_opening (ordered d n) = codes "<ol" ++ start_attribute n ++ codes ">"

abbrev pub list_closing : Marker → List ℕ
list_closing (bullet b) = codes "</ul>"
list_closing (ordered d n) = codes "</ol>"

-- what stands before an item behind these siblings, and behind it
abbrev pub before_item : Page → Holder → Tree → Marker → List ℕ
before_item p holder before m = if goes_on_list m before then [] else line_begun p holder before ++ on_line p (list_opening m)

abbrev pub behind_item : Page → Option NextItem → Marker → List ℕ
behind_item p next m = if goes_on next m then [] else on_line p (list_closing m)

abbrev pub item_html : Page → List ℕ → List ℕ
item_html p inside = on_line p (codes "<li>" ++ inside ++ codes "</li>")

-- siblings in this holder, before this item if one is next; a footnote definition, which the tree of a document without this extension has not, is its blocks
abbrev pub tree_html : Setting → Page → Holder → Option NextItem → Tree → List ℕ
tree_html s p holder next nothing = []
tree_html s p holder next (and_leaf before blank) = tree_html s p holder next before
tree_html s p holder next (and_leaf before leaf) = tree_html s p holder None before ++ leaf_behind s p holder before leaf
tree_html s p holder next (and_container before quote inside) =
    tree_html s p holder None before ++ line_begun p holder before ++ quote_html p (tree_html s p no_item None inside)
tree_html s p holder next (and_container before (footnote label) inside) = tree_html s p holder None before ++ line_begun p holder before ++ tree_html s p no_item None inside
tree_html s p holder next (and_container before (item m columns) inside) =
    let loose = is_of_loose_list next m (and_container before (item m columns) inside) in
    tree_html s p holder (Some (record { marker = m; is_loose = loose })) before
    ++ before_item p holder before m ++ item_html p (tree_html s p (item_of loose) None inside) ++ behind_item p next m

-- Documents.

-- the options of the inline layer for CommonMark
abbrev pub commonmark : ParseOptions
commonmark = record default_options { commonmark = true }

-- what a link reference definition defines, with escapes and references resolved (4.7)
abbrev pub defined_by : Decoding → Definition → Defined
defined_by how d = record { identifier = identifier d; destination = resolved how (text_of d.destination); title = option_map (λ t. resolved how (text_of t)) d.title }

-- What is beside the inline tree of each text, with these options of the inline layer: of several definitions with one identifier the first counts. There are
-- no footnote definitions.
abbrev pub setting_of : ParseOptions → Extensions → List ℕ → Setting
setting_of reading extensions bytes = record {
  bytes = bytes;
  options = reading;
  references = references_of reading;
  definitions = map identifier (definitions extensions bytes);
  footnotes = [];
  first_of_item = false;
  content = [];
}

abbrev pub page_of : ParseOptions → Extensions → HtmlOptions → List ℕ → Page
page_of reading extensions options bytes = record {
  bytes = bytes;
  content = [];
  rules = rules_of reading;
  footnotes_on = reading.constructs.gfm_label_start_footnote;
  decoding = decoding_of reading;
  definitions = map (defined_by (decoding_of reading)) (definitions extensions bytes);
  options = options;
}

-- the HTML of a document whose texts are read with these options, and its blocks with these extensions
unfoldable pub document_html : ParseOptions → Extensions → HtmlOptions → List ℕ → List ℕ
document_html reading extensions options bytes = tree_html (setting_of reading extensions bytes) (page_of reading extensions options bytes) no_item None (document_tree extensions bytes)
