-- What stands beside the rows of a document is what its HTML is defined by.
use Rattle.std.proofs.Common.{◌≡◌, ℕ, refl, ap, ◌∙◌, List, [], map, string_bytes, None, false}
use Rattle.markdown_content.specs.declared.parser.ParseState.{ParseState}
use Rattle.markdown_run_text.specs.RunSetting.{text_setting_of}
use Rattle.markdown_html.specs.View.{page_from}
use Rattle.markdown_html_model.specs.Html.{Defined, Page}
use Rattle.markdown_html_model.specs.Resolved.{decoding_of}
use Rattle.markdown_html_model.specs.declared.options.HtmlOptions.{HtmlOptions}
use Rattle.markdown_model.specs.Setting.{Setting}
use Rattle.markdown_block_model.specs.BlockTree as model
use Rattle.markdown_block_model.specs.BlockTree.{Tree}
use Rattle.markdown_block_model.specs.LinkDefinitions.{definitions, document_tree, identifier}
use Rattle.markdown_page.specs.DocumentBrought.{document_brought, tree_brought}
use Rattle.markdown_page_model.specs.PageHtml.{defined_by, setting_of, page_of, no_item, tree_html, document_html}

module _ (x : model.Extensions) (s : ParseState) where
  same-setting : map string_bytes s.definitions.items ≡ map identifier (definitions x s.bytes.now) → map string_bytes s.gfm_footnote_definitions.items ≡ []
      → text_setting_of s false ≡ setting_of s.options.now x s.bytes.now
  same-setting names footnotes = rw (names, footnotes) refl

  same-page : (targets : List Defined) (o : HtmlOptions) → targets ≡ map (defined_by (decoding_of s.options.now)) (definitions x s.bytes.now) → page_from s [] targets o ≡ page_of s.options.now x o s.bytes.now
  same-page targets o e = rw e refl

  -- the HTML of the tree of the document
  pub same-html : (targets : List Defined) (o : HtmlOptions) (t : Tree) (html : List ℕ)
      → map string_bytes s.definitions.items ≡ map identifier (definitions x s.bytes.now) → map string_bytes s.gfm_footnote_definitions.items ≡ []
      → targets ≡ map (defined_by (decoding_of s.options.now)) (definitions x s.bytes.now) → t ≡ document_tree x s.bytes.now
      → html ≡ tree_html (text_setting_of s false) (page_from s [] targets o) no_item None t → html ≡ document_html s.options.now x o s.bytes.now
  unfolding document_html
  same-html targets o t html names footnotes e tree h =
      h ∙ ap (λ (y : Setting). tree_html y (page_from s [] targets o) no_item None t) (same-setting names footnotes)
      ∙ ap (λ (y : Page). tree_html (setting_of s.options.now x s.bytes.now) y no_item None t) (same-page targets o e)
      ∙ ap (tree_html (setting_of s.options.now x s.bytes.now) (page_of s.options.now x o s.bytes.now) no_item None) tree

  -- what definitions bring to it
  pub same-brought : (targets : List Defined) (o : HtmlOptions) (t : Tree)
      → map string_bytes s.definitions.items ≡ map identifier (definitions x s.bytes.now) → map string_bytes s.gfm_footnote_definitions.items ≡ []
      → targets ≡ map (defined_by (decoding_of s.options.now)) (definitions x s.bytes.now) → t ≡ document_tree x s.bytes.now
      → tree_brought (text_setting_of s false) (page_from s [] targets o) false t ≡ document_brought s.options.now x o s.bytes.now
  unfolding document_brought
  same-brought targets o t names footnotes e tree =
      ap (λ (y : Setting). tree_brought y (page_from s [] targets o) false t) (same-setting names footnotes)
      ∙ ap (λ (y : Page). tree_brought (setting_of s.options.now x s.bytes.now) y false t) (same-page targets o e)
      ∙ ap (tree_brought (setting_of s.options.now x s.bytes.now) (page_of s.options.now x o s.bytes.now) false) tree
