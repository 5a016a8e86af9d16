-- The blocks of the examples of CommonMark: both sides of each row compute to one list. Written by tools/blocks.py.
use Rattle.std.proofs.Common.{refl}
use Rattle.markdown_block_examples.proofs.BlocksComputed.{blocks_computed}
use Rattle.markdown_block_examples.specs.StandardBlocks.{Tabs, BackslashEscapes, References, Precedence, ThematicBreaks, AtxHeadings, SetextHeadings, IndentedCode, FencedCode, HtmlBlocks, Definitions, Paragraphs, BlankLines, BlockQuotes, ListItems, Lists, Inlines, CodeSpans, Emphasis, Links, Images, Autolinks, RawHtml, HardBreaks, SoftBreaks, TextualContent}
use Rattle.markdown_block_examples.proofs.standard_blocks.Goals as goal

tabs : Tabs
unfolding blocks_computed
tabs = (refl, refl, refl, refl, refl, refl, refl, refl, refl, refl, refl)

backslash_escapes : BackslashEscapes
unfolding blocks_computed
backslash_escapes = (refl, refl, refl, refl, refl, refl, refl, refl, refl, refl, refl, refl, refl)

references : References
unfolding blocks_computed
references = (refl, refl, refl, refl, refl, refl, refl, refl, refl, refl, refl, refl, refl, refl, refl, refl, refl)

precedence : Precedence
unfolding blocks_computed
precedence = (refl)

thematic_breaks : ThematicBreaks
unfolding blocks_computed
thematic_breaks = (refl, refl, refl, refl, refl, refl, refl, refl, refl, refl, refl, refl, refl, refl, refl, refl, refl, refl, refl)

atx_headings : AtxHeadings
unfolding blocks_computed
atx_headings = (refl, refl, refl, refl, refl, refl, refl, refl, refl, refl, refl, refl, refl, refl, refl, refl, refl, refl)

setext_headings : SetextHeadings
unfolding blocks_computed
setext_headings = (refl, refl, refl, refl, refl, refl, refl, refl, refl, refl, refl, refl, refl, refl, refl, refl, refl, refl, refl, refl, refl, refl, refl, refl, refl, refl, refl)

indented_code : IndentedCode
unfolding blocks_computed
indented_code = (refl, refl, refl, refl, refl, refl, refl, refl, refl, refl, refl, refl)

fenced_code : FencedCode
unfolding blocks_computed
fenced_code = (refl, refl, refl, refl, refl, refl, refl, refl, refl, refl, refl, refl, refl, refl, refl, refl, refl, refl, refl, refl, refl, refl, refl, refl, refl, refl, refl, refl, refl)

html_blocks : HtmlBlocks
unfolding blocks_computed
html_blocks = (refl, refl, refl, refl, refl, refl, refl, refl, refl, refl, refl, refl, refl, refl, refl, refl, refl, refl, refl, refl, refl, refl, refl, refl, refl, refl, refl, refl, refl, refl, refl, refl, refl, refl, refl, refl, refl, refl, refl, refl, refl, refl, refl, refl)

definitions : Definitions
unfolding blocks_computed
definitions = (refl, refl, refl, refl, refl, refl, refl, refl, refl, refl, refl, refl, refl, refl, refl, refl, refl, refl, refl, refl, refl, refl, refl, refl, refl, refl, refl)

paragraphs : Paragraphs
unfolding blocks_computed
paragraphs = (refl, refl, refl, refl, refl, refl, refl, refl)

blank_lines : BlankLines
unfolding blocks_computed
blank_lines = (refl)

block_quotes : BlockQuotes
unfolding blocks_computed
block_quotes = (refl, refl, refl, refl, refl, refl, refl, refl, refl, refl, refl, refl, refl, refl, refl, refl, refl, refl, refl, refl, refl, refl, refl, refl, refl)

list_items : ListItems
unfolding blocks_computed
list_items = (refl, refl, refl, refl, refl, refl, refl, refl, refl, refl, refl, refl, refl, refl, refl, refl, refl, refl, refl, refl, refl, refl, refl, refl, refl, refl, refl, refl, refl, refl, refl, refl, refl, refl, refl, refl, refl, refl, refl, refl, refl, refl, refl, refl, refl, refl, refl, refl)

lists : Lists
unfolding blocks_computed
lists = (refl, refl, refl, refl, refl, refl, refl, refl, refl, refl, refl, refl, refl, refl, refl, refl, refl, refl, refl, refl, refl, refl, refl, refl, refl, refl)

inlines : Inlines
unfolding blocks_computed
inlines = (refl)

code_spans : CodeSpans
unfolding blocks_computed
code_spans = (refl, refl, refl, refl, refl, refl, refl, refl, refl, refl, refl, refl, refl, refl, refl, refl, refl, refl, refl, refl, refl, refl)

emphasis : Emphasis
unfolding blocks_computed
emphasis = (refl, refl, refl, refl, refl, refl, refl, refl, refl, refl, refl, refl, refl, refl, refl, refl, refl, refl, refl, refl, refl, refl, refl, refl, refl, refl, refl, refl, refl, refl, refl, refl, refl, refl, refl, refl, refl, refl, refl, refl, refl, refl, refl, refl, refl, refl, refl, refl, refl, refl, refl, refl, refl, refl, refl, refl, refl, refl, refl, refl, refl, refl, refl, refl, refl, refl, refl, refl, refl, refl, refl, refl, refl, refl, refl, refl, refl, refl, refl, refl, refl, refl, refl, refl, refl, refl, refl, refl, refl, refl, refl, refl, refl, refl, refl, refl, refl, refl, refl, refl, refl, refl, refl, refl, refl, refl, refl, refl, refl, refl, refl, refl, refl, refl, refl, refl, refl, refl, refl, refl, refl, refl, refl, refl, refl, refl, refl, refl, refl, refl, refl)

links : Links
unfolding blocks_computed
links = (refl, refl, refl, refl, refl, refl, refl, refl, refl, refl, refl, refl, refl, refl, refl, refl, refl, refl, refl, refl, refl, refl, refl, refl, refl, refl, refl, refl, refl, refl, refl, refl, refl, refl, refl, refl, refl, refl, refl, refl, refl, refl, refl, refl, refl, refl, refl, refl, refl, refl, refl, refl, refl, refl, refl, refl, refl, refl, refl, refl, refl, refl, refl, refl, refl, refl, refl, refl, refl, refl, refl, refl, refl, refl, refl, refl, refl, refl, refl, refl, refl, refl, refl, refl, refl, refl, refl, refl, refl, refl)

images : Images
unfolding blocks_computed
images = (refl, refl, refl, refl, refl, refl, refl, refl, refl, refl, refl, refl, refl, refl, refl, refl, refl, refl, refl, refl, refl, refl)

autolinks : Autolinks
unfolding blocks_computed
autolinks = (refl, refl, refl, refl, refl, refl, refl, refl, refl, refl, refl, refl, refl, refl, refl, refl, refl, refl, refl)

raw_html : RawHtml
unfolding blocks_computed
raw_html = (refl, refl, refl, refl, refl, refl, refl, refl, refl, refl, refl, refl, refl, refl, refl, refl, refl, refl, refl, refl, refl)

hard_breaks : HardBreaks
unfolding blocks_computed
hard_breaks = (refl, refl, refl, refl, refl, refl, refl, refl, refl, refl, refl, refl, refl, refl, refl)

soft_breaks : SoftBreaks
unfolding blocks_computed
soft_breaks = (refl, refl)

textual_content : TextualContent
unfolding blocks_computed
textual_content = (refl, refl, refl)

pub returns : goal.returns
returns c = (tabs, backslash_escapes, references, precedence, thematic_breaks, atx_headings, setext_headings, indented_code, fenced_code, html_blocks, definitions, paragraphs, blank_lines, block_quotes, list_items, lists, inlines, code_spans, emphasis, links, images, autolinks, raw_html, hard_breaks, soft_breaks, textual_content)
