use Rattle.std.proofs.Common.{arith}
use Rattle.markdown_engine_events.proofs.EditOrder.{next-from, next-rest}
use Rattle.markdown_engine_events.proofs.util.edit_map.next_place.Goals as goal

pub returns-then-passed-edits-clause-from : goal.returns-then-passed-edits-clause-from
returns-then-passed-edits-clause-from c = λ n l h.
    let low = next-from c.args.edits.now.comes.now c.args.edits.now.entries.now c.args.passed n c.if-passed-edits.true h in
    omega (arith, c.min.ensures)

pub returns-then-passed-edits-clause-rest : goal.returns-then-passed-edits-clause-rest
returns-then-passed-edits-clause-rest c =
    next-rest c.args.edits.now.comes.now c.args.edits.now.entries.now c.args.passed c.min.result c.if-passed-edits.true (omega (arith, c.min.ensures))
