use Rattle.std.proofs.Common.{sym, ◌∙◌}
use Rattle.markdown_run.proofs.ElementsRead.{none-tried}
use Rattle.markdown_run.proofs.elements.read_sole.Goals as goal

pub try_sole-requires-clause-tried : goal.try_sole-requires-clause-tried
try_sole-requires-clause-tried c = sym c.sole_try.ensures ∙ c.in-Some.is

pub returns-in-None-clause-reads : goal.returns-in-None-clause-reads
returns-in-None-clause-reads c =
    none-tried c.args.tokenizer.now c.args.byte c.requires.ready c.requires.here c.requires.sole (sym c.sole_try.ensures ∙ c.in-None.is)
