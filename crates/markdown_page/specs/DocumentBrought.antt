-- How many bytes definitions bring to a document, and what a limit on them makes of its HTML.
use Rattle.std.specs.Prelude.{◌≡◌, ℕ, ◌+◌, ◌<◌, Bool, false, List, [], Option, None, Some}
use Rattle.markdown_content.specs.Codes.{Code}
use Rattle.markdown_content.specs.KnownPlaces.{IsDocument}
use Rattle.markdown_content.specs.declared.configuration.ParseOptions.{ParseOptions}
use Rattle.markdown_model.specs.Setting.{Setting}
use Rattle.markdown_model.specs.InlineTree.{text_tree}
use Rattle.markdown_html_model.specs.Html as inline
use Rattle.markdown_html_model.specs.Html.{page_of_content}
use Rattle.markdown_html_model.specs.declared.options.HtmlOptions.{HtmlOptions}
use Rattle.markdown_html.specs.Brought.{brought}
use Rattle.markdown_block_model.specs.BlockTree.{Extensions, Leaf, heading, underlined, paragraph, Tree, nothing, and_leaf, and_container}
use Rattle.markdown_block_model.specs.LinkDefinitions.{document_tree}
use Rattle.markdown_page_model.specs.PageHtml.{is_first_block, leaf_setting, setting_of, page_of, document_html}
use Rattle.markdown_page.specs.PlacedTree.{is_item}
use Rattle.markdown_page.specs.declared.document.Page.{Page}

-- what definitions bring to the text of a paragraph or a heading: to its inline tree
abbrev pub text_brought : Setting → inline.Page → List Code → ℕ
text_brought s p text = brought (page_of_content text p) (text_tree s text)

-- what they bring to the text of a leaf, if it has one
abbrev pub block_brought : Setting → inline.Page → Leaf → ℕ
block_brought s p (heading level text) = text_brought s p text
block_brought s p (underlined level text) = text_brought s p text
block_brought s p (paragraph text) = text_brought s p text
block_brought s p leaf = 0

-- A paragraph of definitions alone is nothing (4.7).
abbrev pub leaf_brought : Setting → inline.Page → Leaf → ℕ
leaf_brought s p (paragraph []) = 0
leaf_brought s p leaf = block_brought s p leaf

-- the sum over all texts of siblings, which may be in an item
abbrev pub tree_brought : Setting → inline.Page → (in_item : Bool) → Tree → ℕ
tree_brought s p in_item nothing = 0
tree_brought s p in_item (and_leaf before leaf) = tree_brought s p in_item before + leaf_brought (leaf_setting s (is_first_block in_item before) leaf) p leaf
tree_brought s p in_item (and_container before c inside) = tree_brought s p in_item before + tree_brought s p (is_item c) inside

-- what definitions bring to a document whose texts are read with these options, and its blocks with these extensions
unfoldable pub document_brought : ParseOptions → Extensions → HtmlOptions → List ℕ → ℕ
document_brought reading extensions options bytes = tree_brought (setting_of reading extensions bytes) (page_of reading extensions options bytes) false (document_tree extensions bytes)

-- so many bytes are more than the limit, if there is one
abbrev pub IsBeyond : Option ℕ → ℕ → Type 0
IsBeyond None n = ⊥
IsBeyond (Some limit) n = limit < n

-- what holds of the HTML, if there is any
abbrev pub HoldsOfHtml : (List ℕ → Type 0) → Page → Type 0
HoldsOfHtml P (Page.Html html) = P html.items
HoldsOfHtml P page = Unit {0}

-- the HTML of a document to which definitions bring no more than the limit, or why there is none
abbrev pub IsPage : ParseOptions → Extensions → HtmlOptions → List ℕ → Option ℕ → Page → Type 0
IsPage reading extensions options bytes limit (Page.Html html) =
    IsDocument bytes × (IsBeyond limit (document_brought reading extensions options bytes) → ⊥) × (html.items ≡ document_html reading extensions options bytes)
IsPage reading extensions options bytes limit Page.NoDocument = IsDocument bytes → ⊥
IsPage reading extensions options bytes limit Page.BeyondLimit = IsDocument bytes × IsBeyond limit (document_brought reading extensions options bytes)
