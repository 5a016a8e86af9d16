use Rattle.markdown_engine.specs.declared.tokenizer.Tokenizer.{Tokenizer}
use Rattle.markdown_run.proofs.run.put_back.Goals as goal

pub returns : goal.returns
returns c =
    let T : Tokenizer = c.args.tokenizer.now in
    λ i. record T { events = c.truncate.ensures i; map = c.truncate-2.ensures i; stack = c.truncate-3.ensures i; cursor = c.args.cursor }
