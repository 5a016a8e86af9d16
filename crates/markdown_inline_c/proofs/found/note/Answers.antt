use Rattle.std.proofs.Common.{◌∙◌, ap, arith, slice_set}
use Rattle.markdown_inline_c.specs.FlatEvents.{telling}
use Rattle.markdown_inline_c.proofs.Noted.{changed_in}
use Rattle.markdown_inline_c.proofs.found.note.Goals as goal

pub returns-then-number-array : goal.returns-then-number-array
returns-then-number-array c =
    ap (slice_set c.args.array.now c.args.number) c.telling.ensures
    ∙ changed_in (telling c.args.told) c.args.number c.args.array.now _ (omega (arith, c.if-number-array.true))
