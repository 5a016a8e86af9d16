use Rattle.std.proofs.Common.{sym, subst, arith}
use Rattle.markdown_blocks.specs.TextRows.{ArePlaced}
use Rattle.markdown_blocks.proofs.TextEndLemmas.{rotated, placed-behind}
use Rattle.markdown_blocks.proofs.ends.cut_lines.Goals as goal

pub returns-clause-pieces : goal.returns-clause-pieces
returns-clause-pieces c = rw (c.truncate.ensures.items, c.rotate_left.ensures.items) (rotated c.len-len.result c.args.count c.args.text.now.items (omega arith))

pub returns-clause-placed : goal.returns-clause-placed
returns-clause-placed c = λ bytes h.
    rw (c.truncate.ensures.items, c.rotate_left.ensures.items)
    (subst (λ xs. ArePlaced bytes xs) (sym (rotated c.len-len.result c.args.count c.args.text.now.items (omega arith))) (placed-behind bytes c.args.count c.args.text.now.items h))
