use Rattle.std.proofs.Common.{sym, ◌∙◌}
use Rattle.markdown_run.proofs.ElementsRead.{next-some, next-none}
use Rattle.markdown_run.proofs.elements.comes_next.Goals as goal

pub returns-in-Some : goal.returns-in-Some
returns-in-Some c = next-some c.args.tokenizer.now c.args.byte c.in-Some.next (sym c.next.ensures ∙ c.in-Some.is)

pub returns-in-None : goal.returns-in-None
returns-in-None c = next-none c.args.tokenizer.now c.args.byte (sym c.next.ensures ∙ c.in-None.is)
