use Rattle.markdown_run.proofs.TextEnds.{check-goes, check-off}
use Rattle.markdown_run.proofs.elements.read_check.Goals as goal

pub returns-in_ok-_held-clause-ok : goal.returns-in_ok-_held-clause-ok
returns-in_ok-_held-clause-ok c =
    check-goes c.args.tokenizer.now c.construct.new.tokenizer c.in_ok-_held._held c.requires c.in_ok-_held.ensures.reads

pub returns-else-tokenizer-clause-ok : goal.returns-else-tokenizer-clause-ok
returns-else-tokenizer-clause-ok c = check-off c.args.tokenizer.now c.requires c.if-tokenizer.false
