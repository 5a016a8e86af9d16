use Rattle.std.proofs.lemmas.Result.{on_ok_weaker}
use Rattle.markdown_run.proofs.TextEnds.{data-read-on}
use Rattle.markdown_run.proofs.elements.read_data.Goals as goal

pub returns-clause-ok : goal.returns-clause-ok
returns-clause-ok c =
    on_ok_weaker c.read.result (λ k. data-read-on c.args.tokenizer.now c.read.new.tokenizer c.requires.ready c.requires.some_code k) c.read.ensures.ok
