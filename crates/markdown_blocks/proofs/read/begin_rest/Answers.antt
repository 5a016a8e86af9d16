use Rattle.std.proofs.Common.{refl}
use Rattle.markdown_blocks.proofs.BeginLines.{begins-all, begins-entered, begins-finished}
use Rattle.markdown_blocks.proofs.read.begin_rest.Goals as goal

pub loop-outside-init : goal.loop-outside-init
loop-outside-init c =
    rw c.behind-inner.ensures (record {
      same_bytes = refl;
      same_start = refl;
      same_extensions = refl;
      texts = c.requires.texts;
      begins = begins-all c.args.rest.now.extensions c.args.rest.now.bytes c.args.rest.now.codes c.args.reader.now c.requires.standing c.requires.empty;
    })

pub loop-outside-preserved : goal.loop-outside-preserved
loop-outside-preserved c =
    let l = c.loop-outside in
    let entered = rw (c.in-Some.is, l.invariant.same_bytes, l.invariant.same_extensions) at c.in_ok-outside.ensures.begun in
    rw c.behind-inner-in-Some.ensures (record {
      same_bytes = l.invariant.same_bytes;
      same_extensions = l.invariant.same_extensions;
      same_start = l.invariant.same_start;
      texts = (rw l.invariant.same_bytes at c.in_ok-outside.ensures.texts).0;
      begins = begins-entered c.args.rest.now.extensions _ _ _ _ _ _ l.invariant.begins entered.1;
    })

pub returns-clause-tree : goal.returns-clause-tree
returns-clause-tree c =
    let l = c.loop-outside in
    begins-finished c.args.rest.now.extensions _ _ _ _ _ l.invariant.begins (rw (c.in_default.is, l.invariant.same_bytes, l.invariant.same_extensions) at c.in_ok-outside.ensures.begun)

pub behind-inner-requires-in-Some-clause-outer : goal.behind-inner-requires-in-Some-clause-outer
behind-inner-requires-in-Some-clause-outer c = rw c.in-Some.is at c.in_ok-outside.ensures.outer

pub returns-clause-texts : goal.returns-clause-texts
returns-clause-texts c =
    let l = c.loop-outside in
    rw (l.invariant.same_bytes, l.invariant.same_start) at c.in_ok-outside.ensures.texts
