use Rattle.std.proofs.Common.{◌≡◌, ◌<◌, sym, arith, suc}
use Rattle.markdown_blocks.specs.BlockRows.{depth}
use Rattle.markdown_blocks.proofs.ReaderTrees.{nothing-outside, nothing-none, nothing-some}
use Rattle.markdown_blocks.proofs.read.holds_nothing.Goals as goal

pub returns-then-outside-len : goal.returns-then-outside-len
returns-then-outside-len c = λ bytes h.
    let k : suc c.args.outside < depth c.args.reader.now = omega arith in
    sym (nothing-outside bytes c.args.reader.now c.args.outside h k)

pub returns-in-None : goal.returns-in-None
returns-in-None c = λ bytes h.
    let k : suc c.args.outside ≡ depth c.args.reader.now = omega arith in
    sym (nothing-none bytes c.args.reader.now c.args.outside h k c.in-None.is)

pub returns-in-Some : goal.returns-in-Some
returns-in-Some c = λ bytes h.
    let k : suc c.args.outside ≡ depth c.args.reader.now = omega arith in
    sym (nothing-some bytes c.args.reader.now c.args.outside _ h k c.in-Some.is)
