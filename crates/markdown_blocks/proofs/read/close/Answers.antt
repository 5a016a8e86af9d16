use Rattle.std.proofs.Common.{◌≤◌, refl}
use Rattle.markdown_blocks.specs.BlockRows.{depth}
use Rattle.markdown_blocks.proofs.ReaderTrees.{standing-cut}
use Rattle.markdown_blocks.proofs.read.close.Goals as goal

pub returns-clause-standing : goal.returns-clause-standing
returns-clause-standing c = λ bytes h.
    let r = c.put_open.new.reader in
    let le : c.args.outside ≤ depth r = rw c.put_open.ensures.path c.requires.within in
    standing-cut bytes r _ c.args.outside le refl c.truncate.ensures refl (c.in_ok-put_open.ensures.standing bytes h)
