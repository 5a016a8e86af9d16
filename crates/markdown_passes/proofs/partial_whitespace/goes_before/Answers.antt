use Rattle.std.proofs.Common.{◌<◌, length, sym, ap, ◌∙◌, arith}
use Rattle.std.proofs.lemmas.List.{drop_all}
use Rattle.markdown_passes.specs.TrimmedEvents.{goes_before}
use Rattle.markdown_passes.proofs.TrimEdits.{head-drop}
use Rattle.markdown_passes.proofs.partial_whitespace.goes_before.Goals as goal

pub bare_at-requires : goal.bare_at-requires
bare_at-requires c = omega (arith, c.requires, c.if-index-len.false, c.len.ensures)

pub returns-then-index-len : goal.returns-then-index-len
returns-then-index-len c =
    sym (ap (goes_before c.args.whole) (drop_all c.args.index c.args.events.now (omega (arith, c.if-index-len.true, c.len.ensures))))

pub returns-else-index-len : goal.returns-else-index-len
returns-else-index-len c =
    let within : c.args.index < length c.args.events.now = omega (arith, c.requires, c.if-index-len.false, c.len.ensures) in
    c.opens_ending.ensures ∙ sym (ap (goes_before c.args.whole) (head-drop c.args.index c.args.events.now c.bare_at.result within c.bare_at.ensures.event))
