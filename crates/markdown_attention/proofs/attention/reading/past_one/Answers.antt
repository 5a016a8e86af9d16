use Rattle.std.proofs.Common.{◌≡◌, ◌<◌, false, length, arith}
use Rattle.markdown_attention.specs.RunSteps.{changes_reading}
use Rattle.markdown_attention.proofs.RunSearch.{others-more}
use Rattle.markdown_attention.proofs.attention.reading.past_one.Goals as goal

pub returns-then-not-changes_reading-clause-none : goal.returns-then-not-changes_reading-clause-none
returns-then-not-changes_reading-clause-none c =
    let within : c.args.at < length c.args.events.now = omega (arith, c.if-at-len.true, c.len.ensures) in
    let other : changes_reading c.bare_at.result ≡ false = grind (arith, c.if-not-changes_reading.true, c.if-not-changes_reading.ensures, c.changes_reading.ensures) in
    others-more c.args.events.now c.args.at c.args.at c.bare_at.result within c.bare_at.ensures.event other (λ j e low high. absurd (omega (arith, low, high)))
