use Rattle.markdown_attention.specs.declared.attention.pairing.Pair.{Pair}
use Rattle.markdown_attention.proofs.PairSizeSteps.{sizes-before, sizes-long}
use Rattle.markdown_attention.proofs.attention.sizes.Sizes.over.Goals as goal

pub loop-index-preserved : goal.loop-index-preserved
loop-index-preserved c =
    let no : Pair = record { opener = 0; closer = 0; size = 0 } in
    record {
      sizes = sizes-before c.args.pairs.now c.args.count c.loop-index.index no c.loop-index.sizes c.push_first.new.self c.loop-index-test.true c.loop-index.auto.index c.requires c.loop-index.invariant.len c.in_ok-push_first.ensures c.loop-index.invariant.sizes;
      len = sizes-long c.args.pairs.now c.args.count c.loop-index.index no c.loop-index.sizes c.push_first.new.self c.loop-index-test.true c.loop-index.auto.index c.requires c.loop-index.invariant.len c.in_ok-push_first.ensures;
    }
