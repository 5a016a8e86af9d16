use Rattle.std.proofs.Common.{◌<◌, ◌-◌, ◌&&◌, length, arith, sym, ap, refl, ◌∙◌}
use Rattle.std.proofs.Math.Bool.{and-true}
use Rattle.markdown_passes.proofs.LentEvents.{lent-length, seen}
use Rattle.markdown_passes.proofs.MergeEdits.{ends-few, ends-is, ends-not}
use Rattle.markdown_passes.proofs.partial_data.is_joint.Goals as goal

pub at-requires : goal.at-requires
at-requires c = omega (arith, lent-length _ _ c.requires.lent, c.requires.within)

pub at-requires-2 : goal.at-requires-2
at-requires-2 c = omega (arith, lent-length _ _ c.requires.lent, c.requires.within)

pub returns-then-index-lt2 : goal.returns-then-index-lt2
returns-then-index-lt2 c = ends-few c.args.index c.args.events.now (omega (arith, c.if-index-lt2.true))

pub returns-then-not-closes_data : goal.returns-then-not-closes_data
returns-then-not-closes_data c =
    let near : c.args.index - 1 < length c.args.events.now = omega (arith, c.requires.within) in
    let s = seen c.args.events.now c.args.items.now (c.args.index - 1) c.at.result c.requires.lent near c.at.ensures in
    ends-not (c.args.index - 1) c.args.index c.args.events.now s.event c.closes_data.result (omega (arith, c.if-index-lt2.false)) refl c.requires.within c.requires.opens s.at (c.closes_data.ensures ∙ s.closes) c.if-not-closes_data.true

pub returns : goal.returns
returns c =
    let near : c.args.index - 1 < length c.args.events.now = omega (arith, c.requires.within) in
    let far : c.args.index - 2 < length c.args.events.now = omega (arith, c.requires.within) in
    let s = seen c.args.events.now c.args.items.now (c.args.index - 1) c.at.result c.requires.lent near c.at.ensures in
    let t = seen c.args.events.now c.args.items.now (c.args.index - 2) c.at-2.result c.requires.lent far c.at-2.ensures in
    sym (and-true c.opens_data.result)
    ∙ ap (λ y. c.opens_data.result && y) (sym c.if-not-closes_data.false)
    ∙ ends-is (c.args.index - 2) (c.args.index - 1) c.args.index c.args.events.now t.event s.event c.opens_data.result c.closes_data.result (omega (arith, c.if-index-lt2.false)) refl refl c.requires.within c.requires.opens t.at s.at (c.opens_data.ensures ∙ t.opens) (c.closes_data.ensures ∙ s.closes)
