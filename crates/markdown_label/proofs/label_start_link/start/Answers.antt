-- The four events of a link's start are there.
use Rattle.std.proofs.Common.{◌≤◌, length, sym, subst, arith}
use Rattle.markdown_engine.specs.declared.tokenizer.Tokenizer.{Tokenizer}
use Rattle.markdown_label.proofs.LabelStartOps.{long-link}
use Rattle.markdown_engine.specs.Operations.{scratched}
use Rattle.markdown_engine.proofs.OperationFields.{law_rules}
use Rattle.markdown_label.proofs.label_start_link.start.Goals as goal

pub keep_start-requires-clause-within : goal.keep_start-requires-clause-within
keep_start-requires-clause-within c =
    subst (λ (T : Tokenizer). 4 ≤ length T.events) (sym c.in_ok-whole_of_one.ensures.ok) (long-link c.args.tokenizer.now)
