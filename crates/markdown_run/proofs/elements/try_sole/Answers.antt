use Rattle.std.proofs.Common.{sym, ◌∙◌}
use Rattle.std.proofs.lemmas.Result.{IfOk-weaker}
use Rattle.markdown_run.proofs.ElementsRead.{data-stays, sole-asks, sole-ends}
use Rattle.markdown_run.proofs.elements.try_sole.Goals as goal

pub returns-then-is_in_data-clause-reads : goal.returns-then-is_in_data-clause-reads
returns-then-is_in_data-clause-reads c =
    data-stays c.args.tokenizer.now c.args.byte c.requires.ready c.requires.here (sym c.is_in_data.ensures ∙ c.if-is_in_data.true)

pub construct-requires-clause-construct : goal.construct-requires-clause-construct
construct-requires-clause-construct c = λ _.
    sole-asks c.args.tokenizer.now c.args.byte c.requires.ready c.requires.here c.requires.sole c.args.start c.requires.tried

pub returns-clause-reads : goal.returns-clause-reads
returns-clause-reads c =
    IfOk-weaker c.construct.result _ _
    (λ ok k. sole-ends c.args.tokenizer.now c.args.byte c.requires.ready c.requires.here c.requires.sole c.args.start c.construct.new.tokenizer ok c.requires.tried k)
    c.construct.ensures.reads
