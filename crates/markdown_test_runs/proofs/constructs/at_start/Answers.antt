use Rattle.std.proofs.Common.{ap}
use Rattle.markdown_inline.specs.markdown_engine.declared.tokenizer.Tokenizer.{Tokenizer}
use Rattle.markdown_inline.proofs.markdown_run.ConstructsAtStart.{start-fits, start-reads}
use Rattle.markdown_test_runs.proofs.constructs.at_start.Goals as goal

pub returns-clause-fits : goal.returns-clause-fits
returns-clause-fits c =
    start-fits c.args.parse_state.now.bytes.now c.args.pieces.now c.new.result c.requires (ap (λ (x : Tokenizer). x.cursor) c.new.ensures)

pub returns-clause-text : goal.returns-clause-text
returns-clause-text c =
    start-reads c.args.parse_state.now.bytes.now c.args.pieces.now c.new.result c.requires (ap (λ (x : Tokenizer). x.parse_state.now.bytes.now) c.new.ensures) (ap (λ (x : Tokenizer). x.cursor) c.new.ensures)
