use Rattle.std.proofs.Common.{sym, ◌∙◌, arith}
use Rattle.markdown_run_text.proofs.PassedData.{goes-none, goes-some}
use Rattle.markdown_run_text.proofs.readers.partial_data.goes_on.Goals as goal

pub returns-in-Some : goal.returns-in-Some
returns-in-Some c = grind (arith, goes-some, c.stops.ensures, c.current.ensures)

pub returns-in-None : goal.returns-in-None
returns-in-None c = sym (goes-none c.args.literals c.args.cursor.now (sym c.current.ensures ∙ c.in-None.is))
