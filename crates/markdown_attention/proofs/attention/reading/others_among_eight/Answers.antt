use Rattle.std.proofs.Common.{◌<◌, ◌+◌, length, arith, sym, ◌∙◌}
use Rattle.markdown_attention.proofs.RunSearch.{other-name, others-more}
use Rattle.markdown_attention.proofs.attention.reading.others_among_eight.Goals as goal

pub loop-count-preserved : goal.loop-count-preserved
loop-count-preserved c =
    let at = c.args.at in
    let count = c.loop-count.count in
    let here : at + count < length c.args.events.now = omega (arith, c.loop-count-test.true, c.requires.within) in
    let more = others-more c.args.events.now at (at + count) c.bare_at.result here c.bare_at.ensures.event (other-name c.bare_at.result (sym c.is_run_or_text.ensures ∙ c.if-is_run_or_text.false)) c.loop-count.invariant in
    λ j e low high. more j e low (omega (arith, high))
