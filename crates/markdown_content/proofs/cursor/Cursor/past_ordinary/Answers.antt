use Rattle.std.proofs.Common.{ap, arith}
use Rattle.markdown_content.specs.Stretch.{is_free}
use Rattle.markdown_content.proofs.StretchLemmas.{past-none}
use Rattle.markdown_content.proofs.cursor.Cursor.past_ordinary.Goals as goal

pub returns-then-stands_at_stop-clause-past : goal.returns-then-stands_at_stop-clause-past
returns-then-stands_at_stop-clause-past c = grind (arith, past-none)

pub returns-clause-past : goal.returns-clause-past
returns-clause-past c = grind (arith, past-none)

pub returns-clause-stop : goal.returns-clause-stop
returns-clause-stop c = ap (is_free c.args.stops.now) (c.pass_last.ensures.end c.if-not-pass_last.false)
