use Rattle.std.proofs.Common.{◌∙◌, sym}
use Rattle.markdown_content.proofs.StretchLemmas.{past-none}
use Rattle.markdown_content.proofs.cursor.Cursor.consume_stretch.Goals as goal

pub returns-then-not-stands_at_stop : goal.returns-then-not-stands_at_stop
returns-then-not-stands_at_stop c = c.consume_rest.ensures ∙ c.pass_plain.ensures.past

pub returns-else-not-stands_at_stop : goal.returns-else-not-stands_at_stop
returns-else-not-stands_at_stop c =
    sym (past-none c.args.stops.now c.pass_plain.new.self (c.stands_at_stop.ensures c.if-not-stands_at_stop.false)) ∙ c.pass_plain.ensures.past
