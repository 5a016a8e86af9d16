use Rattle.std.proofs.Common.{◌∙◌, ap, arith}
use Rattle.std.specs.Option.{option_and_then}
use Rattle.markdown_content.specs.Nesting.{point_at}
use Rattle.markdown_content.proofs.NestingLemmas.{reached-start, reached-past_enter, reached-past_exit, reached-end, point-read}
use Rattle.markdown_content.proofs.util.slice.Position.from_exit_event.Goals as goal

pub loop-awaited-preserved-in-Enter : goal.loop-awaited-preserved-in-Enter
loop-awaited-preserved-in-Enter c = grind (arith, reached-start, reached-past_enter)

pub loop-awaited-preserved : goal.loop-awaited-preserved
loop-awaited-preserved c = grind (arith, reached-start, reached-past_exit)

pub returns-clause-start : goal.returns-clause-start
returns-clause-start c =
    ap (option_and_then (point_at c.args.events.now)) (reached-end c.args.events.now c.loop-awaited.at c.loop-awaited.awaited _ c.loop-awaited.invariant.own c.loop-awaited-test.false) ∙ point-read c.args.events.now c.loop-awaited.at _ (omega arith)

pub returns-clause-end : goal.returns-clause-end
returns-clause-end c = point-read c.args.events.now c.args.index _ c.requires.within
