use Rattle.std.proofs.Common.{drop, sym, ◌∙◌}
use Rattle.markdown_passes.specs.TrimmedEvents.{breaks_of}
use Rattle.markdown_passes.proofs.TrimEdits.{keeps-first}
use Rattle.markdown_passes.proofs.partial_whitespace.trim_first.Goals as goal

pub returns-then-not-loses_first : goal.returns-then-not-loses_first
returns-then-not-loses_first c =
    keeps-first c.args.bytes.now (breaks_of c.args.trimming.hard) c.args.trimming.whole c.args.index _ (drop c.args.index c.args.events.now) c.args.map.now (sym c.loses_first.ensures ∙ c.if-not-loses_first.true)
