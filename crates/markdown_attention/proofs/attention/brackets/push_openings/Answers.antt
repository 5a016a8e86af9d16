use Rattle.std.proofs.Common.{◌≡◌, ◌+◌, ◌-◌, ◌<◌, ℕ, length, get_or, refl, arith}
use Rattle.markdown_attention.proofs.BracketAppends.{opened-none, opened-more, opened-all, room-open}
use Rattle.markdown_attention.proofs.attention.brackets.push_openings.Goals as goal

pub loop-index-init : goal.loop-index-init
loop-index-init c =
    let p = opened-none c.args.marker c.args.from c.args.sizes.now _ c.args.events.now.items (omega arith) in
    record { place = p.place; events = p.events }

pub push_opening-requires-clause-column : goal.push_opening-requires-clause-column
push_opening-requires-clause-column c =
    let j : ℕ = c.loop-index.index - 1 in
    let step : c.loop-index.index ≡ j + 1 = omega (arith, c.loop-index-test.true) in
    let low : j < length c.args.sizes.now = omega (arith, c.loop-index-test.true, c.loop-index.auto.index) in
    let r = room-open c.args.from c.loop-index.point c.args.sizes.now c.loop-index.index j (get_or c.args.sizes.now j 0) step low refl c.loop-index.invariant.place in
    let a = r.0 in
    omega (arith, a, c.requires.column)

pub push_opening-requires-clause-index : goal.push_opening-requires-clause-index
push_opening-requires-clause-index c =
    let j : ℕ = c.loop-index.index - 1 in
    let step : c.loop-index.index ≡ j + 1 = omega (arith, c.loop-index-test.true) in
    let low : j < length c.args.sizes.now = omega (arith, c.loop-index-test.true, c.loop-index.auto.index) in
    let r = room-open c.args.from c.loop-index.point c.args.sizes.now c.loop-index.index j (get_or c.args.sizes.now j 0) step low refl c.loop-index.invariant.place in
    let a = r.1 in
    omega (arith, a, c.requires.index)

pub loop-index-preserved : goal.loop-index-preserved
loop-index-preserved c =
    let j : ℕ = c.loop-index.index - 1 in
    let step : c.loop-index.index ≡ j + 1 = omega (arith, c.loop-index-test.true) in
    let low : j < length c.args.sizes.now = omega (arith, c.loop-index-test.true, c.loop-index.auto.index) in
    let p = opened-more c.args.marker c.args.from c.loop-index.point c.in_ok-point.point c.args.sizes.now c.loop-index.index j (get_or c.args.sizes.now j 0) c.args.events.now.items c.loop-index.events.items c.push_opening.new.events.items
    step low refl (record { place = c.loop-index.invariant.place; events = c.loop-index.invariant.events }) c.in_ok-point.ensures.end c.in_ok-point.ensures.events in
    record { place = p.place; events = p.events }

pub returns : goal.returns
returns c =
    opened-all c.args.marker c.args.from c.loop-index.point c.args.sizes.now c.loop-index.index c.args.events.now.items c.loop-index.events.items (omega (arith, c.loop-index-test.false))
    (record { place = c.loop-index.invariant.place; events = c.loop-index.invariant.events })
