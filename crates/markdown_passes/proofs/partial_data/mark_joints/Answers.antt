use Rattle.std.proofs.Common.{◌<◌, length, arith}
use Rattle.markdown_passes.proofs.MergeEdits.{marks-begin, marks-past, marks-end}
use Rattle.markdown_passes.proofs.partial_data.mark_joints.Goals as goal

pub loop-index-init : goal.loop-index-init
loop-index-init c =
    let r = c.next_lent-index in
    record {
      within = r.ensures.within;
      opens = r.ensures.here;
      joints = marks-begin 0 r.result c.args.events.now c.args.map.now (omega arith) (omega arith) r.ensures.within r.ensures.none c.requires;
    }

pub mark_lent-requires-clause-opens : goal.mark_lent-requires-clause-opens
mark_lent-requires-clause-opens c = λ e. c.loop-index.invariant.opens e (omega (arith, c.loop-index-test.true, c.lent_len-count.ensures))

pub loop-index-preserved : goal.loop-index-preserved
loop-index-preserved c =
    let r = c.next_lent-index-in-loop-index in
    let here : c.loop-index.index < length c.args.events.now = omega (arith, c.loop-index-test.true, c.lent_len-count.ensures) in
    record {
      within = r.ensures.within;
      opens = r.ensures.here;
      joints = marks-past c.loop-index.index r.result c.args.events.now c.loop-index.map c.mark_lent.new.map here r.ensures.from r.ensures.within r.ensures.none c.in_ok-mark_lent.ensures.ok c.loop-index.invariant.joints;
    }

pub returns : goal.returns
returns c =
    marks-end c.loop-index.index c.args.events.now c.loop-index.map (omega (arith, c.loop-index-test.false, c.lent_len-count.ensures)) c.loop-index.invariant.joints
