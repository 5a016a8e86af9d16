-- The words of examples of HTML.
use Rattle.std.specs.Prelude.{ℕ, List, [], ◌∷◌, length}
use Rattle.markdown_content.specs.Codes.{Code}
use Rattle.markdown_content.specs.CommonMark.{rules_of}
use Rattle.markdown_content.specs.Content.{content_of}
use Rattle.markdown_content.specs.Tree.{Forest}
use Rattle.markdown_html_model.specs.Html.{Defined, Page, calls_behind, html, plain_text_by}
use Rattle.markdown_html_model.specs.Resolved.{decoding_of}
use Rattle.markdown_html_model.specs.declared.options.HtmlOptions.{HtmlOptions}
use Rattle.markdown_model.specs.InlineTree.{text_tree}
use Rattle.markdown_worked_examples.specs.ExampleNotation.{RowSetting, piece, setting}

-- the content that a document is, and the tree of its text
abbrev pub whole : List ℕ → List Code
whole bytes = content_of bytes (piece 0 0 (length bytes) 0 ∷ [])

abbrev pub tree_of : RowSetting → List ℕ → Forest
tree_of r bytes = text_tree (setting r bytes) (whole bytes)

abbrev pub page_of : RowSetting → HtmlOptions → List Defined → List ℕ → Page
page_of r options definitions bytes =
    let on = r.options.constructs in
    record { bytes = bytes; content = whole bytes; rules = rules_of r.options; footnotes_on = on.gfm_label_start_footnote; decoding = decoding_of r.options; definitions = definitions; options = options }

-- the HTML of the text that a document is
abbrev pub html_answer : RowSetting → HtmlOptions → List Defined → List ℕ → List ℕ
html_answer r options definitions bytes = html (page_of r options definitions bytes) [] (tree_of r bytes)

-- the same behind footnote calls, and the calls up to its end
abbrev pub html_behind : List (List ℕ) → RowSetting → HtmlOptions → List ℕ → List ℕ
html_behind before r options bytes = html (page_of r options [] bytes) before (tree_of r bytes)

abbrev pub calls_answer : List (List ℕ) → RowSetting → HtmlOptions → List ℕ → List (List ℕ)
calls_answer before r options bytes = calls_behind (page_of r options [] bytes) before (tree_of r bytes)

-- the plain text of the text that a document is
abbrev pub text_answer : RowSetting → List ℕ → List ℕ
text_answer r bytes = plain_text_by (decoding_of r.options) bytes (tree_of r bytes)
