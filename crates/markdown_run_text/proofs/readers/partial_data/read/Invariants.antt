use Rattle.std.proofs.Common.{◌≡◌, length}
use Rattle.markdown_engine.specs.Operations.{HasCode, ahead}
use Rattle.markdown_run_text.proofs.DataReads.{Continues}
use Rattle.markdown_run_text.proofs.readers.partial_data.read.Given as goal

-- what is read from here on goes on with what is read
abbrev pub invariant-loop-on : goal.invariant-loop-on
invariant-loop-on l =
    Continues l.fn.tokenizer.cursor.codes l.literals l.fn.tokenizer l.tokenizer
    × ((l.tokenizer.tokenize_state ≡ l.fn.tokenizer.tokenize_state)
    × ((l.tokenizer.cursor.codes ≡ l.fn.tokenizer.cursor.codes) × HasCode l.tokenizer))

abbrev pub decreases-loop-on : goal.decreases-loop-on
decreases-loop-on l = length (ahead l.tokenizer)
