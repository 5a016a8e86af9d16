use Rattle.std.proofs.Common.{drop}
use Rattle.markdown_block_line.specs.LineStarts.{begun_of}
use Rattle.markdown_blocks.proofs.BeginLines.{all-container}
use Rattle.markdown_blocks.proofs.read.begin_all.Goals as goal

pub returns-in_ok-begin_rest-in-Some-clause-tree : goal.returns-in_ok-begin_rest-in-Some-clause-tree
returns-in_ok-begin_rest-in-Some-clause-tree c =
    let bytes = c.args.rest.now.bytes in
    let codes = c.args.rest.now.codes in
    let begun = rw c.in-Some.is at c.in_ok-begin.ensures.begun in
    all-container c.args.rest.now.extensions bytes (drop c.in-Some.outside codes) c.args.reader.now c.begin.new.reader c.begin_rest.new.reader (begun_of codes c.args.begun) begun.2 (rw c.behind.ensures at c.in_ok-begin_rest-in-Some.ensures.tree)

pub behind-requires-clause-outer : goal.behind-requires-clause-outer
behind-requires-clause-outer c = rw c.in-Some.is at c.in_ok-begin.ensures.outer
