use Rattle.std.proofs.Common.{None}
use Rattle.markdown_engine.specs.Operations.{scratched}
use Rattle.markdown_engine.specs.declared.tokenizer.Tokenizer.{Tokenizer}
use Rattle.markdown_run.proofs.elements.forget.Goals as goal

pub returns : goal.returns
unfolding scratched
returns c =
    let T : Tokenizer = c.args.tokenizer.now in
    λ i. scratched (record T.tokenize_state { runs = c.new.ensures i; sequences = c.new-tokenizer.ensures i; titles = None; no_domains = None }) T
