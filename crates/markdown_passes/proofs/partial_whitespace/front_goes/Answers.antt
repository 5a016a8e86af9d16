use Rattle.std.proofs.Common.{◌≡◌, ◌∙◌, ◌-◌, sym, ap, suc, arith}
use Rattle.markdown_passes.specs.TrimmedEvents.{flag}
use Rattle.markdown_passes.proofs.TrimEdits.{flag-next}
use Rattle.markdown_passes.proofs.partial_whitespace.front_goes.Goals as goal

pub returns : goal.returns
returns c =
    let i = c.args.index - 1 in
    let next : c.args.index ≡ suc i = omega arith in
    c.closes_ending.ensures
    ∙ sym (ap (λ k. flag k c.args.whole c.args.events.now) next ∙ flag-next i c.args.whole c.args.events.now c.bare_at.result (omega arith) c.bare_at.ensures.event)
