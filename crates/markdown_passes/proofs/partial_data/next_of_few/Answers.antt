use Rattle.std.proofs.Common.{◌<◌, length, arith, sym, ap, ◌∙◌}
use Rattle.markdown_passes.specs.MergedEvents.{opens_data}
use Rattle.markdown_passes.proofs.DataSearch.{event-same, none-more}
use Rattle.markdown_passes.proofs.LentEvents.{lent-length, seen}
use Rattle.markdown_passes.proofs.partial_data.next_of_few.Goals as goal

pub at-requires : goal.at-requires
at-requires c = omega (arith, lent-length _ _ c.requires.lent, c.loop-at-test.true, c.lent_len-count.ensures)

pub loop-at-preserved : goal.loop-at-preserved
loop-at-preserved c =
    let here : c.loop-at.at < length c.args.events.now = omega (arith, c.loop-at-test.true, c.lent_len-count.ensures) in
    let s = seen c.args.events.now c.args.items.now c.loop-at.at c.at.result c.requires.lent here c.at.ensures in
    record {
      from = omega (arith, c.loop-at.invariant.from);
      within = omega (arith, here);
      none = none-more c.args.events.now c.args.from c.loop-at.at s.event here s.at (sym s.opens ∙ sym c.opens_data.ensures ∙ c.if-not-opens_data.true) c.loop-at.invariant.none;
    }

pub returns-else-not-opens_data-clause-here : goal.returns-else-not-opens_data-clause-here
returns-else-not-opens_data-clause-here c = λ e l.
    let s = seen c.args.events.now c.args.items.now c.loop-at.at c.at.result c.requires.lent l c.at.ensures in
    ap opens_data (event-same c.loop-at.at c.args.events.now e s.event l s.at) ∙ sym s.opens ∙ sym c.opens_data.ensures ∙ c.if-not-opens_data.false

pub returns-after-loop-at-clause-here : goal.returns-after-loop-at-clause-here
returns-after-loop-at-clause-here c = λ e l. absurd (omega (arith, l, c.loop-at-test.false, c.lent_len-count.ensures))
