use Rattle.std.proofs.Common.{sym, ap, ◌∙◌}
use Rattle.markdown_passes.specs.MergedEvents.{opens_data}
use Rattle.markdown_passes.proofs.DataSearch.{event-same}
use Rattle.markdown_passes.proofs.TrimEdits.{loses-other}
use Rattle.markdown_passes.proofs.partial_whitespace.loses_first.Goals as goal

pub data_loses-requires-clause-opens : goal.data_loses-requires-clause-opens
data_loses-requires-clause-opens c = λ e.
    ap opens_data (event-same c.args.index c.args.events.now e c.bare_at-enter.result c.requires.within c.bare_at-enter.ensures.event) ∙ sym c.opens_data.ensures ∙ c.if-not-opens_data.false

pub returns-then-not-opens_data : goal.returns-then-not-opens_data
returns-then-not-opens_data c =
    sym (loses-other c.args.bytes.now c.args.whole _ c.args.index c.args.events.now c.bare_at-enter.result c.requires.within c.bare_at-enter.ensures.event (sym c.opens_data.ensures ∙ c.if-not-opens_data.true))
