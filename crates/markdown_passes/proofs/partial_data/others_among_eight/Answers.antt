use Rattle.std.proofs.Common.{◌<◌, ◌+◌, length, arith, sym, ap, ◌∙◌}
use Rattle.markdown_passes.specs.MergedEvents.{opens_data}
use Rattle.markdown_passes.proofs.DataSearch.{event-same, none-more}
use Rattle.markdown_passes.proofs.LentEvents.{lent-length, seen}
use Rattle.markdown_passes.proofs.partial_data.others_among_eight.Goals as goal

pub at-requires : goal.at-requires
at-requires c = omega (arith, lent-length _ _ c.requires.lent, c.loop-count-test.true, c.requires.within)

pub loop-count-preserved : goal.loop-count-preserved
loop-count-preserved c =
    let at = c.args.at in
    let count = c.loop-count.count in
    let here : at + count < length c.args.events.now = omega (arith, c.loop-count-test.true, c.requires.within) in
    let s = seen c.args.events.now c.args.items.now (at + count) c.at.result c.requires.lent here c.at.ensures in
    let more = none-more c.args.events.now at (at + count) s.event here s.at (sym s.opens ∙ sym c.opens_data.ensures ∙ c.if-opens_data.false) c.loop-count.invariant in
    λ j e low high. more j e low (omega (arith, high))

pub returns-then-opens_data-clause-here : goal.returns-then-opens_data-clause-here
returns-then-opens_data-clause-here c = λ e l.
    let here : c.args.at + c.loop-count.count < length c.args.events.now = omega (arith, c.loop-count-test.true, c.requires.within) in
    let s = seen c.args.events.now c.args.items.now (c.args.at + c.loop-count.count) c.at.result c.requires.lent here c.at.ensures in
    ap opens_data (event-same (c.args.at + c.loop-count.count) c.args.events.now e s.event here s.at) ∙ sym s.opens ∙ sym c.opens_data.ensures ∙ c.if-opens_data.true
