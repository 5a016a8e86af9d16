-- Blocks of GFM, math and front matter: both sides of each row compute to one list. Written by tools/blocks.py.
use Rattle.std.proofs.Common.{refl}
use Rattle.markdown_block_examples.proofs.BlocksComputed.{blocks_computed}
use Rattle.markdown_block_examples.specs.ExtendedBlocks.{SpecTables, ExtensionTables, TableRows, FootnoteDefinitions, Math, FrontMatterLines}
use Rattle.markdown_block_examples.proofs.extended_blocks.Goals as goal

spec_tables : SpecTables
unfolding blocks_computed
spec_tables = (refl, refl, refl, refl, refl, refl, refl, refl)

extension_tables : ExtensionTables
unfolding blocks_computed
extension_tables = (refl, refl, refl, refl, refl, refl, refl, refl, refl, refl, refl, refl, refl, refl)

table_rows : TableRows
unfolding blocks_computed
table_rows = (refl, refl, refl, refl, refl, refl, refl, refl, refl, refl, refl, refl, refl, refl, refl, refl, refl, refl, refl, refl, refl, refl, refl, refl, refl, refl, refl, refl, refl, refl, refl, refl, refl, refl, refl, refl, refl, refl, refl, refl, refl, refl, refl, refl, refl, refl)

footnote_definitions : FootnoteDefinitions
unfolding blocks_computed
footnote_definitions = (refl, refl, refl, refl, refl, refl, refl, refl, refl, refl, refl, refl, refl, refl, refl, refl, refl, refl, refl, refl, refl, refl, refl, refl, refl, refl, refl, refl, refl, refl, refl, refl, refl, refl, refl, refl, refl, refl, refl, refl, refl, refl)

math : Math
unfolding blocks_computed
math = (refl, refl, refl, refl, refl, refl, refl, refl)

front_matter_lines : FrontMatterLines
unfolding blocks_computed
front_matter_lines = (refl, refl, refl, refl, refl, refl, refl, refl, refl, refl, refl, refl)

pub returns : goal.returns
returns c = (spec_tables, extension_tables, table_rows, footnote_definitions, math, front_matter_lines)
