use Rattle.std.proofs.Common.{◌∙◌, ap}
use Rattle.markdown_innermost.specs.InnermostEvents.{covered}
use Rattle.markdown_innermost.proofs.InnermostEventsLaws.{lent-leaves, lent-covers}
use Rattle.markdown_innermost.proofs.leaves.Goals as goal

pub returns-clause-leaves : goal.returns-clause-leaves
returns-clause-leaves c t e = c.new.ensures ∙ lent-leaves c.args.bytes.now t c.args.events.now e

pub returns-clause-covers : goal.returns-clause-covers
returns-clause-covers c t h e =
    ap (covered c.args.bytes.now) c.new.ensures ∙ lent-covers c.args.bytes.now t c.args.events.now h e
