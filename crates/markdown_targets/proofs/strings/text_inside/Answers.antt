use Rattle.std.proofs.Common.{ap, length}
use Rattle.markdown_targets.proofs.StringParts.{text_more, text_end}
use Rattle.markdown_targets.proofs.strings.text_inside.Goals as goal

pub loop-event-preserved : goal.loop-event-preserved
loop-event-preserved c =
    text_more c.args.bytes.now c.args.string _ c.loop-event.out.items _ c.loop-event.is_in _ c.loop-event.left c.in-Some.event c.in-Some.rest c.loop-event.invariant
    c.in-Some.ensures c.in_ok-push_part.ensures c.is_in_behind-is_in.ensures

pub returns : goal.returns
returns c = text_end c.args.bytes.now c.args.string _ c.loop-event.out.items c.loop-event.is_in c.loop-event.left c.loop-event.invariant (ap length c.in_default.ensures)
