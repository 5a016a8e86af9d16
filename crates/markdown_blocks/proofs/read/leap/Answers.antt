use Rattle.std.proofs.Common.{◌≡◌, ◌∙◌, ◌≤◌, ◌+◌, ◌-◌, arith, ap}
use Rattle.markdown_block_model.specs.DocumentBlocks.{read_line}
use Rattle.markdown_blocks.specs.TreeDepth.{at_depth}
use Rattle.markdown_blocks.specs.BlockRows.{depth, whole_tree}
use Rattle.markdown_blocks.proofs.ItemRowLemmas.{leap}
use Rattle.markdown_block_line.specs.LineBlocks.{extensions_of}
use Rattle.markdown_blocks.proofs.read.leap.Goals as goal

pub returns-clause-same : goal.returns-clause-same
returns-clause-same c = λ has_text.
    let r = c.args.reader.now in
    let bytes = c.args.rest.now.bytes in
    let m : depth r ≤ c.args.outside + c.row-row.result = omega arith in
    let e : depth r - 1 ≡ c.len-len.result - 1 = omega arith in
    leap c.args.rest.now.extensions has_text bytes r c.args.rest.now.codes c.args.outside c.row-row.result c.requires.between (c.is_bare.ensures c.if-not-is_bare.false) c.row-row.ensures c.requires.within m
    ∙ ap (λ k. at_depth k (read_line (extensions_of c.args.rest.now.extensions) has_text c.args.rest.now.codes) (whole_tree bytes r)) e
