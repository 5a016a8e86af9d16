use Rattle.std.proofs.Common.{◌∙◌, sym, arith}
use Rattle.markdown_block_definitions.proofs.SpotReads.{spot-small}
use Rattle.markdown_block_definitions.proofs.TextPushes.{still-behind}
use Rattle.markdown_page.proofs.LineTexts.{spot-in, column-written, column-passed, columns-done}
use Rattle.markdown_page.proofs.lines.push_columns.Goals as goal

pub read-value-requires-clause-begins : goal.read-value-requires-clause-begins
read-value-requires-clause-begins c = spot-in c.args.bytes.now c.loop-spot.spot c.loop-spot.invariant.stands c.loop-spot-test.true

pub loop-spot-smaller-in_ok-push_as : goal.loop-spot-smaller-in_ok-push_as
loop-spot-smaller-in_ok-push_as c =
    let lt = spot-in c.args.bytes.now c.loop-spot.spot c.loop-spot.invariant.stands c.loop-spot-test.true in
    omega (arith, lt, c.read-value.ensures.later, (spot-small c.args.bytes.now c.loop-spot.spot c.loop-spot.invariant.stands).0)

pub loop-spot-smaller : goal.loop-spot-smaller
loop-spot-smaller c =
    let lt = spot-in c.args.bytes.now c.loop-spot.spot c.loop-spot.invariant.stands c.loop-spot-test.true in
    omega (arith, lt, c.read-value.ensures.later, (spot-small c.args.bytes.now c.loop-spot.spot c.loop-spot.invariant.stands).0)

pub loop-spot-preserved-in_ok-push_as : goal.loop-spot-preserved-in_ok-push_as
loop-spot-preserved-in_ok-push_as c =
    let l = c.loop-spot in
    let lt = spot-in c.args.bytes.now l.spot l.invariant.stands c.loop-spot-test.true in
    let r = c.read-value.ensures in
    let on = l.invariant.started lt in
    let w = column-written c.args.bytes.now c.args.piece c.args.raw l.spot c.read-value.result.1 c.read-value.result.0 l.invariant.stands c.loop-spot-test.true r on (sym c.is_before.ensures ∙ c.if-is_before.true)
    _ _ c.in_ok-push_as.ensures in
    record {
      stands = r.stands;
      started = λ k. still-behind c.args.bytes.now c.args.piece l.spot c.read-value.result.1 c.read-value.result.0 r c.args.piece.start on;
      text = w.0 ∙ l.invariant.text;
      ending = w.1 ∙ l.invariant.ending;
    }

pub loop-spot-preserved : goal.loop-spot-preserved
loop-spot-preserved c =
    let l = c.loop-spot in
    let lt = spot-in c.args.bytes.now l.spot l.invariant.stands c.loop-spot-test.true in
    let r = c.read-value.ensures in
    let e = column-passed c.args.bytes.now c.args.piece l.spot c.read-value.result.1 c.read-value.result.0 r (sym c.is_before.ensures ∙ c.if-is_before.false) in
    record {
      stands = r.stands;
      started = λ k. still-behind c.args.bytes.now c.args.piece l.spot c.read-value.result.1 c.read-value.result.0 r c.args.piece.start (l.invariant.started lt);
      text = rw e l.invariant.text;
      ending = rw e l.invariant.ending;
    }

pub returns : goal.returns
returns c = columns-done c.args.bytes.now c.args.piece c.args.raw c.loop-spot.spot _ _ _ c.loop-spot.invariant.stands c.loop-spot-test.false c.loop-spot.invariant.started c.loop-spot.invariant.text c.loop-spot.invariant.ending
