use Rattle.std.proofs.Common.{◌∙◌, sym}
use Rattle.markdown_engine_events.proofs.EditRules.{edited-empty}
use Rattle.markdown_engine_events.proofs.util.edit_map.EditMap.consume.Goals as goal

pub returns-then-is_empty-clause-ok : goal.returns-then-is_empty-clause-ok
returns-then-is_empty-clause-ok c =
    edited-empty c.args.self.now c.args.events.now (sym c.is_empty.ensures ∙ c.if-is_empty.true)
