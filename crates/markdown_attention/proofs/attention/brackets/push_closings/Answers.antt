use Rattle.std.proofs.Common.{get_or, refl, arith, ap, ◌∙◌, ◌++◌}
use Rattle.std.proofs.lemmas.List.{take_all}
use Rattle.markdown_attention.specs.RunEvents.{shifted, total, closings_from}
use Rattle.markdown_attention.proofs.BracketAppends.{pushed-none, pushed-more, room-more}
use Rattle.markdown_attention.proofs.attention.brackets.push_closings.Goals as goal

pub loop-size-init : goal.loop-size-init
loop-size-init c =
    let p = pushed-none c.args.marker c.args.from c.args.sizes.now c.args.events.now.items in
    record { place = p.place; events = p.events }

pub push_closing-requires-clause-column : goal.push_closing-requires-clause-column
push_closing-requires-clause-column c =
    let r = room-more c.args.from c.loop-size.point c.args.sizes.now c.loop-size.size-index (get_or c.args.sizes.now c.loop-size.size-index 0) c.loop-size-test.true refl c.loop-size.invariant.place in
    let a = r.0 in
    omega (arith, a, c.requires.column)

pub push_closing-requires-clause-index : goal.push_closing-requires-clause-index
push_closing-requires-clause-index c =
    let r = room-more c.args.from c.loop-size.point c.args.sizes.now c.loop-size.size-index (get_or c.args.sizes.now c.loop-size.size-index 0) c.loop-size-test.true refl c.loop-size.invariant.place in
    let a = r.1 in
    omega (arith, a, c.requires.index)

pub loop-size-preserved : goal.loop-size-preserved
loop-size-preserved c =
    let p = pushed-more c.args.marker c.args.from c.loop-size.point c.in_ok-point.point c.args.sizes.now c.loop-size.size-index (get_or c.args.sizes.now c.loop-size.size-index 0) c.args.events.now.items c.loop-size.events.items c.push_closing.new.events.items
    c.loop-size-test.true refl (record { place = c.loop-size.invariant.place; events = c.loop-size.invariant.events }) c.in_ok-point.ensures.end c.in_ok-point.ensures.events in
    record { place = p.place; events = p.events }

pub returns-clause-end : goal.returns-clause-end
returns-clause-end c =
    c.loop-size.invariant.place ∙ ap (λ xs. shifted c.args.from (total xs)) (take_all c.loop-size.size-index c.args.sizes.now c.loop-size-test.false)

pub returns-clause-events : goal.returns-clause-events
returns-clause-events c =
    c.loop-size.invariant.events ∙ ap (λ xs. c.args.events.now.items ++ closings_from c.args.marker c.args.from xs) (take_all c.loop-size.size-index c.args.sizes.now c.loop-size-test.false)
