-- The six events of a footnote call's start are there.
use Rattle.std.proofs.Common.{◌≤◌, length, sym, subst, arith}
use Rattle.markdown_engine.specs.declared.tokenizer.Tokenizer.{Tokenizer}
use Rattle.markdown_label.proofs.LabelStartOps.{long-footnote}
use Rattle.markdown_engine.specs.Operations.{scratched}
use Rattle.markdown_engine.proofs.OperationFields.{law_rules}
use Rattle.markdown_label.proofs.gfm_label_start_footnote.open.Goals as goal

pub keep_start-requires-clause-within : goal.keep_start-requires-clause-within
keep_start-requires-clause-within c =
    subst (λ (T : Tokenizer). 6 ≤ length T.events) (sym c.in_ok-close-in-Some-eq94.ensures.ok) (long-footnote c.args.tokenizer.now c.requires.begun)
