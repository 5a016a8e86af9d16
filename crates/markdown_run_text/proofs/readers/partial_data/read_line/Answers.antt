use Rattle.std.proofs.Common.{arith}
use Rattle.markdown_run_text.proofs.DataReads.{ending-tells}
use Rattle.markdown_run_text.proofs.readers.partial_data.read_line.Goals as goal

pub returns-in-Some-eq10-clause-on : goal.returns-in-Some-eq10-clause-on
returns-in-Some-eq10-clause-on c = grind (arith, ending-tells c.args.literals c.args.tokenizer.now c.read_ending.new.tokenizer c.read_ending.result, c.current.ensures, c.read_ending.ensures.ok, c.read_ending.ensures.on)
