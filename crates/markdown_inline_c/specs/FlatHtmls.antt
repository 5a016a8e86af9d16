-- What a caller in C hands in to write many contents of one document as HTML, and what it gets.
use Rattle.std.specs.Prelude.{◌≡◌, ◌⊎◌, ℕ, List, [], ◌∷◌, ◌++◌, map, Option}
use Rattle.std.specs.List.{All, sum_by}
use Rattle.markdown_content.specs.Codes.{Code}
use Rattle.markdown_content.specs.Content.{content_of}
use Rattle.markdown_content.specs.Tree.{Forest}
use Rattle.markdown_html.specs.Brought.{brought}
use Rattle.markdown_html_model.specs.Html.{Page, calls_behind, html, page_of_content}
use Rattle.markdown_model.specs.InlineTree.{text_tree}
use Rattle.markdown_model.specs.Setting.{Setting}
use Rattle.markdown_inline_c.specs.FlatHtml.{IsWithinLimit, page}
use Rattle.markdown_inline_c.specs.FlatTexts.{IsTextAt, is_first_of_item, many_setting, pieces_at}
use Rattle.markdown_inline_c.specs.Statuses.{IsContentAtFault}
use Rattle.markdown_inline_c.specs.declared.fault.Fault.{Fault}
use Rattle.markdown_inline_c.specs.declared.flat.FlatContent.{FlatContent}
use Rattle.markdown_inline_c.specs.declared.flat.FlatPiece.{FlatPiece}
use Rattle.markdown_inline_c.specs.declared.flat.FlatTarget.{FlatTarget}
use Rattle.markdown_inline_c.specs.declared.flat.Input.{Input}

-- Contents that are read with one setting.

-- a content and its tree
pub record Read : Type 0 where
  pub content : List Code
  pub tree : Forest

abbrev pub tree_at : Setting → List FlatPiece → FlatContent → Read
tree_at s pieces c =
    let cs = content_of s.bytes (pieces_at pieces c) in
    record { content = cs; tree = text_tree (record s { first_of_item = is_first_of_item c }) cs }

-- Their HTML.

-- of one, behind these footnote calls, and the calls behind it
abbrev pub html_of_one : Page → List (List ℕ) → Read → List ℕ
html_of_one p before r = html (page_of_content r.content p) before r.tree

abbrev pub calls_of_one : Page → List (List ℕ) → Read → List (List ℕ)
calls_of_one p before r = calls_behind (page_of_content r.content p) before r.tree

-- of each tree by itself, where it stands behind these footnote calls and behind those of the trees before it
abbrev pub html_of_each : Page → List (List ℕ) → List Read → List (List ℕ)
html_of_each p before [] = []
html_of_each p before (r ∷ reads) = html_of_one p before r ∷ html_of_each p (calls_of_one p before r) reads

-- What definitions bring to them.

abbrev pub brought_to_one : Page → Read → ℕ
brought_to_one p r = brought (page_of_content r.content p) r.tree

abbrev pub brought_to : Page → List Read → ℕ
brought_to p reads = sum_by (brought_to_one p) reads

-- Contents that can be written, and one that cannot, where they are read so.

abbrev pub AreWritable : Page → List FlatPiece → (FlatContent → Read) → Option ℕ → List FlatContent → Type 0
AreWritable p pieces tree limit contents = All (IsTextAt p.bytes pieces) contents × IsWithinLimit limit (brought_to p (map tree contents))

-- it is no text, or definitions bring more than the limit to it with those before it
abbrev pub IsHtmlFaultAt : Page → List FlatPiece → (FlatContent → Read) → Option ℕ → List FlatContent → FlatContent → Fault → Type 0
IsHtmlFaultAt p pieces tree limit before at fault =
    IsContentAtFault p.bytes pieces at fault
    ⊎ ((fault ≡ Fault.References) × (IsTextAt p.bytes pieces at × (IsWithinLimit limit (brought_to p (map tree (before ++ at ∷ []))) → ⊥)))

-- the HTML of each content, with no footnote calls before the first one
abbrev pub htmls_of : Input → List FlatTarget → List FlatContent → ℕ → List (List ℕ)
htmls_of i targets contents options = html_of_each (page i targets options) [] (map (tree_at (many_setting i) i.pieces.now) contents)
