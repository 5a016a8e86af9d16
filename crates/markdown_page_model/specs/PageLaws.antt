-- Laws on texts, and what options promise of the HTML of a document.
use Rattle.std.specs.Prelude.{◌≡◌, ℕ, List, true, false}
use Rattle.std.specs.List.{list_any}
use Rattle.markdown_event.specs.declared.event.Point.{Point}
use Rattle.markdown_content.specs.Codes.{codes_from, is_line_ending_byte}
use Rattle.markdown_content.specs.declared.configuration.ParseOptions.{ParseOptions}
use Rattle.markdown_html_model.specs.declared.options.HtmlOptions.{HtmlOptions}
use Rattle.markdown_block_model.specs.BlockTree.{Extensions}
use Rattle.markdown_page_model.specs.PageTexts.{text_of}
use Rattle.markdown_page_model.specs.PageHtml.{document_html}
use Rattle.markdown_page_model.specs.PageMarkup.{IsOwnPage}

-- from a place in no tab the text of the codes is the bytes themselves, where no line ending is among them
abbrev pub TextsAreBytes : Type 0
TextsAreBytes =
    (before : ℕ) (p : Point) (bytes : List ℕ) → p.vs ≡ 0 → list_any is_line_ending_byte bytes ≡ false → text_of (codes_from before p bytes) ≡ bytes

-- with raw HTML off the page is the writer's own markup, whatever the options by which texts and blocks are read
abbrev pub NoMarkupFromDocument : Type 0
NoMarkupFromDocument =
    (reading : ParseOptions) (extensions : Extensions) (options : HtmlOptions) (bytes : List ℕ) → options.raw_html ≡ false → IsOwnPage true (document_html reading extensions options bytes)

-- where links may not lead anywhere either, each address in it is relative or of a listed scheme, as a browser reads it
abbrev pub NoScriptFromDocument : Type 0
NoScriptFromDocument =
    (reading : ParseOptions) (extensions : Extensions) (options : HtmlOptions) (bytes : List ℕ) → options.raw_html ≡ false → options.any_link ≡ false
    → IsOwnPage false (document_html reading extensions options bytes)
