-- What CommonMark's examples do not show of blocks: both sides of each row compute to one list. Written by tools/blocks.py.
use Rattle.std.proofs.Common.{refl}
use Rattle.markdown_block_examples.proofs.BlocksComputed.{blocks_computed}
use Rattle.markdown_block_examples.specs.ChosenBlocks.{LinesAndTabs, ByteOrderMarks, BreaksAndHeadings, CodeLines, HtmlKinds, DefinitionRules, QuotesAndLaziness, ItemRules, LooseRules, WithoutExtensions}
use Rattle.markdown_block_examples.proofs.chosen_blocks.Goals as goal

lines_and_tabs : LinesAndTabs
unfolding blocks_computed
lines_and_tabs = (refl, refl, refl, refl, refl, refl, refl)

byte_order_marks : ByteOrderMarks
unfolding blocks_computed
byte_order_marks = (refl, refl, refl, refl, refl, refl, refl)

breaks_and_headings : BreaksAndHeadings
unfolding blocks_computed
breaks_and_headings = (refl, refl, refl, refl, refl, refl)

code_lines : CodeLines
unfolding blocks_computed
code_lines = (refl, refl, refl, refl, refl, refl, refl, refl, refl)

html_kinds : HtmlKinds
unfolding blocks_computed
html_kinds = (refl, refl, refl, refl, refl, refl, refl, refl, refl, refl, refl, refl, refl, refl, refl, refl, refl, refl, refl, refl)

definition_rules : DefinitionRules
unfolding blocks_computed
definition_rules = (refl, refl, refl, refl, refl, refl, refl, refl, refl, refl, refl, refl, refl, refl, refl, refl, refl, refl, refl, refl, refl)

quotes_and_laziness : QuotesAndLaziness
unfolding blocks_computed
quotes_and_laziness = (refl, refl, refl, refl, refl, refl, refl, refl, refl, refl, refl)

item_rules : ItemRules
unfolding blocks_computed
item_rules = (refl, refl, refl, refl, refl, refl, refl, refl, refl, refl, refl, refl, refl, refl, refl, refl, refl, refl, refl)

loose_rules : LooseRules
unfolding blocks_computed
loose_rules = (refl, refl, refl, refl, refl, refl, refl, refl, refl, refl, refl, refl, refl, refl, refl)

without_extensions : WithoutExtensions
unfolding blocks_computed
without_extensions = (refl, refl, refl, refl)

pub returns : goal.returns
returns c = (lines_and_tabs, byte_order_marks, breaks_and_headings, code_lines, html_kinds, definition_rules, quotes_and_laziness, item_rules, loose_rules, without_extensions)
