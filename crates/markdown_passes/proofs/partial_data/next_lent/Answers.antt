use Rattle.std.proofs.Common.{arith}
use Rattle.markdown_passes.proofs.DataSearch.{none-on}
use Rattle.markdown_passes.proofs.partial_data.next_lent.Goals as goal

pub loop-at-preserved : goal.loop-at-preserved
loop-at-preserved c =
    let o = c.others_among_eight-others.ensures in
    record {
      from = omega (arith, c.loop-at.invariant.from);
      within = omega (arith, c.loop-at-test.true, o.within, c.lent_len-count.ensures);
      none = none-on c.args.events.now c.args.from c.loop-at.at _ c.loop-at.invariant.none o.none;
    }
