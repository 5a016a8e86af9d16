use Rattle.markdown_engine.specs.Weights.{codes_left}
use Rattle.markdown_run.specs.ElementsOfText.{PassesAny}
use Rattle.markdown_run.proofs.elements.read_elements.Given as goal

abbrev pub invariant-loop-byte : goal.invariant-loop-byte
invariant-loop-byte l = PassesAny l.fn.tokenizer l.tokenizer

abbrev pub decreases-loop-byte : goal.decreases-loop-byte
decreases-loop-byte l = codes_left l.tokenizer
