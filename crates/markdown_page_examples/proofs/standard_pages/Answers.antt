-- The HTML of the examples of CommonMark: both sides of each row compute to one list. Written by tools/pages.py.
use Rattle.std.proofs.Common.{refl}
use Rattle.markdown_page_examples.proofs.PageComputed.{page_computed}
use Rattle.markdown_page_examples.specs.StandardPages.{PagesOfTabs, PagesOfBackslashEscapes, PagesOfReferences, PagesOfPrecedence, PagesOfThematicBreaks, PagesOfAtxHeadings, PagesOfSetextHeadings, PagesOfIndentedCode, PagesOfFencedCode, PagesOfHtmlBlocks}
use Rattle.markdown_page_examples.specs.StandardPages.{PagesOfDefinitions, PagesOfParagraphs, PagesOfBlankLines, PagesOfBlockQuotes, PagesOfListItems, PagesOfLists, PagesOfInlines, PagesOfCodeSpans, PagesOfEmphasis, PagesOfLinks}
use Rattle.markdown_page_examples.specs.StandardPages.{PagesOfImages, PagesOfAutolinks, PagesOfRawHtml, PagesOfHardBreaks, PagesOfSoftBreaks, PagesOfTextualContent}
use Rattle.markdown_page_examples.proofs.standard_pages.Goals as goal

pages_of_tabs : PagesOfTabs
unfolding page_computed
pages_of_tabs = (refl, refl, refl, refl, refl, refl, refl, refl, refl, refl, refl)

pages_of_backslash_escapes : PagesOfBackslashEscapes
unfolding page_computed
pages_of_backslash_escapes = (refl, refl, refl, refl, refl, refl, refl, refl, refl, refl, refl, refl, refl)

pages_of_references : PagesOfReferences
unfolding page_computed
pages_of_references = (refl, refl, refl, refl, refl, refl, refl, refl, refl, refl, refl, refl, refl, refl, refl, refl, refl)

pages_of_precedence : PagesOfPrecedence
unfolding page_computed
pages_of_precedence = (refl)

pages_of_thematic_breaks : PagesOfThematicBreaks
unfolding page_computed
pages_of_thematic_breaks = (refl, refl, refl, refl, refl, refl, refl, refl, refl, refl, refl, refl, refl, refl, refl, refl, refl, refl, refl)

pages_of_atx_headings : PagesOfAtxHeadings
unfolding page_computed
pages_of_atx_headings = (refl, refl, refl, refl, refl, refl, refl, refl, refl, refl, refl, refl, refl, refl, refl, refl, refl, refl)

pages_of_setext_headings : PagesOfSetextHeadings
unfolding page_computed
pages_of_setext_headings = (refl, refl, refl, refl, refl, refl, refl, refl, refl, refl, refl, refl, refl, refl, refl, refl, refl, refl, refl, refl, refl, refl, refl, refl, refl, refl, refl)

pages_of_indented_code : PagesOfIndentedCode
unfolding page_computed
pages_of_indented_code = (refl, refl, refl, refl, refl, refl, refl, refl, refl, refl, refl, refl)

pages_of_fenced_code : PagesOfFencedCode
unfolding page_computed
pages_of_fenced_code = (refl, refl, refl, refl, refl, refl, refl, refl, refl, refl, refl, refl, refl, refl, refl, refl, refl, refl, refl, refl, refl, refl, refl, refl, refl, refl, refl, refl, refl)

pages_of_html_blocks : PagesOfHtmlBlocks
unfolding page_computed
pages_of_html_blocks = (refl, refl, refl, refl, refl, refl, refl, refl, refl, refl, refl, refl, refl, refl, refl, refl, refl, refl, refl, refl, refl, refl, refl, refl, refl, refl, refl, refl, refl, refl, refl, refl, refl, refl, refl, refl, refl, refl, refl, refl, refl, refl, refl, refl)

pages_of_definitions : PagesOfDefinitions
unfolding page_computed
pages_of_definitions = (refl, refl, refl, refl, refl, refl, refl, refl, refl, refl, refl, refl, refl, refl, refl, refl, refl, refl, refl, refl, refl, refl, refl, refl, refl, refl, refl)

pages_of_paragraphs : PagesOfParagraphs
unfolding page_computed
pages_of_paragraphs = (refl, refl, refl, refl, refl, refl, refl, refl)

pages_of_blank_lines : PagesOfBlankLines
unfolding page_computed
pages_of_blank_lines = (refl)

pages_of_block_quotes : PagesOfBlockQuotes
unfolding page_computed
pages_of_block_quotes = (refl, refl, refl, refl, refl, refl, refl, refl, refl, refl, refl, refl, refl, refl, refl, refl, refl, refl, refl, refl, refl, refl, refl, refl, refl)

pages_of_list_items : PagesOfListItems
unfolding page_computed
pages_of_list_items = (refl, refl, refl, refl, refl, refl, refl, refl, refl, refl, refl, refl, refl, refl, refl, refl, refl, refl, refl, refl, refl, refl, refl, refl, refl, refl, refl, refl, refl, refl, refl, refl, refl, refl, refl, refl, refl, refl, refl, refl, refl, refl, refl, refl, refl, refl, refl, refl)

pages_of_lists : PagesOfLists
unfolding page_computed
pages_of_lists = (refl, refl, refl, refl, refl, refl, refl, refl, refl, refl, refl, refl, refl, refl, refl, refl, refl, refl, refl, refl, refl, refl, refl, refl, refl, refl)

pages_of_inlines : PagesOfInlines
unfolding page_computed
pages_of_inlines = (refl)

pages_of_code_spans : PagesOfCodeSpans
unfolding page_computed
pages_of_code_spans = (refl, refl, refl, refl, refl, refl, refl, refl, refl, refl, refl, refl, refl, refl, refl, refl, refl, refl, refl, refl, refl, refl)

pages_of_emphasis : PagesOfEmphasis
unfolding page_computed
pages_of_emphasis = (refl, refl, refl, refl, refl, refl, refl, refl, refl, refl, refl, refl, refl, refl, refl, refl, refl, refl, refl, refl, refl, refl, refl, refl, refl, refl, refl, refl, refl, refl, refl, refl, refl, refl, refl, refl, refl, refl, refl, refl, refl, refl, refl, refl, refl, refl, refl, refl, refl, refl, refl, refl, refl, refl, refl, refl, refl, refl, refl, refl, refl, refl, refl, refl, refl, refl, refl, refl, refl, refl, refl, refl, refl, refl, refl, refl, refl, refl, refl, refl, refl, refl, refl, refl, refl, refl, refl, refl, refl, refl, refl, refl, refl, refl, refl, refl, refl, refl, refl, refl, refl, refl, refl, refl, refl, refl, refl, refl, refl, refl, refl, refl, refl, refl, refl, refl, refl, refl, refl, refl, refl, refl, refl, refl, refl, refl, refl, refl, refl, refl, refl)

pages_of_links : PagesOfLinks
unfolding page_computed
pages_of_links = (refl, refl, refl, refl, refl, refl, refl, refl, refl, refl, refl, refl, refl, refl, refl, refl, refl, refl, refl, refl, refl, refl, refl, refl, refl, refl, refl, refl, refl, refl, refl, refl, refl, refl, refl, refl, refl, refl, refl, refl, refl, refl, refl, refl, refl, refl, refl, refl, refl, refl, refl, refl, refl, refl, refl, refl, refl, refl, refl, refl, refl, refl, refl, refl, refl, refl, refl, refl, refl, refl, refl, refl, refl, refl, refl, refl, refl, refl, refl, refl, refl, refl, refl, refl, refl, refl, refl, refl, refl, refl)

pages_of_images : PagesOfImages
unfolding page_computed
pages_of_images = (refl, refl, refl, refl, refl, refl, refl, refl, refl, refl, refl, refl, refl, refl, refl, refl, refl, refl, refl, refl, refl, refl)

pages_of_autolinks : PagesOfAutolinks
unfolding page_computed
pages_of_autolinks = (refl, refl, refl, refl, refl, refl, refl, refl, refl, refl, refl, refl, refl, refl, refl, refl, refl, refl, refl)

pages_of_raw_html : PagesOfRawHtml
unfolding page_computed
pages_of_raw_html = (refl, refl, refl, refl, refl, refl, refl, refl, refl, refl, refl, refl, refl, refl, refl, refl, refl, refl, refl, refl, refl)

pages_of_hard_breaks : PagesOfHardBreaks
unfolding page_computed
pages_of_hard_breaks = (refl, refl, refl, refl, refl, refl, refl, refl, refl, refl, refl, refl, refl, refl, refl)

pages_of_soft_breaks : PagesOfSoftBreaks
unfolding page_computed
pages_of_soft_breaks = (refl, refl)

pages_of_textual_content : PagesOfTextualContent
unfolding page_computed
pages_of_textual_content = (refl, refl, refl)

pub returns : goal.returns
returns c = (pages_of_tabs, pages_of_backslash_escapes, pages_of_references, pages_of_precedence, pages_of_thematic_breaks, pages_of_atx_headings, pages_of_setext_headings, pages_of_indented_code, pages_of_fenced_code, pages_of_html_blocks, pages_of_definitions, pages_of_paragraphs, pages_of_blank_lines, pages_of_block_quotes, pages_of_list_items, pages_of_lists, pages_of_inlines, pages_of_code_spans, pages_of_emphasis, pages_of_links, pages_of_images, pages_of_autolinks, pages_of_raw_html, pages_of_hard_breaks, pages_of_soft_breaks, pages_of_textual_content)
