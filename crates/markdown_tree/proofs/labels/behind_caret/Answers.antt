use Rattle.markdown_tree.proofs.TextLemmas.{caret_stripped, no_caret}
use Rattle.markdown_tree.proofs.labels.behind_caret.Goals as goal

pub returns-in-Some : goal.returns-in-Some
returns-in-Some c = caret_stripped c.args.label.now c.in-Some.text.now c.in-Some.ensures.cases

pub returns-in-None : goal.returns-in-None
returns-in-None c = no_caret c.args.label.now c.in-None.ensures.cases
