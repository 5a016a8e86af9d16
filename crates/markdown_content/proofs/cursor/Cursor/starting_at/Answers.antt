use Rattle.std.proofs.Common.{ap}
use Rattle.markdown_event.specs.declared.event.Point.{Point}
use Rattle.markdown_content.proofs.CursorSteps.{cursor_start, start_is}
use Rattle.markdown_content.proofs.cursor.Cursor.starting_at.Goals as goal

pub invariant_of-result : goal.invariant_of-result
invariant_of-result c =
    (cursor_start c.args.bytes.now c.args.pieces.now c.args.point c.requires.content c.requires.first, record { line = ap (λ (p : Point). p.line) c.requires.first; column = ap (λ (p : Point). p.column) c.requires.first })

pub returns : goal.returns
returns c = start_is c.args.bytes.now c.args.pieces.now
