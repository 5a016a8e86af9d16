use Rattle.std.proofs.Common.{sym, ◌∙◌}
use Rattle.std.proofs.lemmas.Result.{IfOk-weaker}
use Rattle.markdown_run.proofs.ElementsRead.{data-stays, www-ends, www-ruled}
use Rattle.markdown_run.proofs.elements.read_www.Goals as goal

pub returns-then-is_in_data-clause-reads : goal.returns-then-is_in_data-clause-reads
returns-then-is_in_data-clause-reads c =
    data-stays c.args.tokenizer.now c.args.letter c.requires.ready c.requires.here (sym c.is_in_data.ensures ∙ c.if-is_in_data.true)

pub returns-then-is_ruled_out-clause-reads : goal.returns-then-is_ruled_out-clause-reads
returns-then-is_ruled_out-clause-reads c =
    www-ruled c.args.tokenizer.now c.args.letter c.requires.ready c.requires.here c.requires.begins (sym c.is_ruled_out.ensures ∙ c.if-is_ruled_out.true)

pub returns-clause-reads : goal.returns-clause-reads
returns-clause-reads c =
    IfOk-weaker c.construct.result _ _ (λ ok k. www-ends c.args.tokenizer.now c.construct.new.tokenizer ok c.args.letter c.requires.ready c.requires.here c.requires.begins k) c.construct.ensures.reads
