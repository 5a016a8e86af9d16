use Rattle.std.proofs.Common.{◌+◌, List, drop, arith, sym, ap, ◌∙◌}
use Rattle.markdown_event.specs.declared.event.Event.{Event}
use Rattle.markdown_passes.specs.MergedEvents.{opens_data}
use Rattle.markdown_passes.specs.TrimmedEvents.{ClosesAt, flag, loses}
use Rattle.markdown_passes.proofs.TrimEdits.{data-closes, next-within, stretch-first, loses-none, loses-is}
use Rattle.markdown_passes.proofs.partial_whitespace.data_loses.Goals as goal

pub overflow_add-index : goal.overflow_add-index
overflow_add-index c =
    omega (arith, c.requires.counted, next-within c.args.bytes.now c.args.index c.args.events.now c.bare_at-enter.result (data-closes c.args.bytes.now c.args.index c.args.events.now c.bare_at-enter.result c.requires.within c.bare_at-enter.ensures.event c.requires.opens c.requires.places))

pub goes_before-back-requires : goal.goes_before-back-requires
goes_before-back-requires c =
    omega (arith, next-within c.args.bytes.now c.args.index c.args.events.now c.bare_at-enter.result (data-closes c.args.bytes.now c.args.index c.args.events.now c.bare_at-enter.result c.requires.within c.bare_at-enter.ensures.event c.requires.opens c.requires.places))

pub returns-then-not-back : goal.returns-then-not-back
returns-then-not-back c =
    sym (loses-none c.args.bytes.now c.args.whole _ c.args.index c.args.events.now (sym c.front_goes-front.ensures ∙ c.if-not-front.true) (sym c.goes_before-back.ensures ∙ c.if-not-back.true))

pub overflow_add-index-2 : goal.overflow_add-index-2
overflow_add-index-2 c = omega (arith, c.requires.within, c.requires.counted)

pub bare_at-exit-requires : goal.bare_at-exit-requires
bare_at-exit-requires c =
    next-within c.args.bytes.now c.args.index c.args.events.now c.bare_at-enter.result (data-closes c.args.bytes.now c.args.index c.args.events.now c.bare_at-enter.result c.requires.within c.bare_at-enter.ensures.event c.requires.opens c.requires.places)

pub loses_blank-requires : goal.loses_blank-requires
loses_blank-requires c =
    let es : List Event = c.args.events.now in
    let e : Event = c.bare_at-enter.result in
    let closes : ClosesAt c.args.bytes.now e (drop (c.args.index + 1) es) = data-closes c.args.bytes.now c.args.index es e c.requires.within c.bare_at-enter.ensures.event c.requires.opens c.requires.places in
    record { stretch = stretch-first c.args.bytes.now c.args.index es e c.bare_at-exit.result (next-within c.args.bytes.now c.args.index es e closes) c.bare_at-exit.ensures.event closes }

pub returns : goal.returns
returns c =
    let es : List Event = c.args.events.now in
    let e : Event = c.bare_at-enter.result in
    let x : Event = c.bare_at-exit.result in
    let closes : ClosesAt c.args.bytes.now e (drop (c.args.index + 1) es) = data-closes c.args.bytes.now c.args.index es e c.requires.within c.bare_at-enter.ensures.event c.requires.opens c.requires.places in
    c.loses_blank.ensures
    ∙ ap (λ f. loses f c.goes_before-back.result c.args.bytes.now e.point x.point) c.front_goes-front.ensures
    ∙ ap (λ b. loses (flag c.args.index c.args.whole es) b c.args.bytes.now e.point x.point) c.goes_before-back.ensures
    ∙ sym (loses-is c.args.bytes.now c.args.whole _ c.args.index es e x (next-within c.args.bytes.now c.args.index es e closes) c.bare_at-enter.ensures.event c.bare_at-exit.ensures.event (ap opens_data c.bare_at-enter.ensures.event ∙ c.requires.opens e))
