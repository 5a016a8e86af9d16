use Rattle.std.proofs.Common.{◌∙◌, ◌++◌, ap, sym, arith, drop, List, ℕ}
use Rattle.markdown_model.specs.CodeTests.{values_of}
use Rattle.markdown_block_line.proofs.RestValues.{rest-values}
use Rattle.markdown_block_definitions.specs.TextReadings.{first_columns}
use Rattle.markdown_block_definitions.proofs.CodesAt.{rest-firsts}
use Rattle.markdown_block_definitions.proofs.FrontTexts.{part-of}
use Rattle.markdown_block_definitions.proofs.front.said.Goals as goal

pub returns : goal.returns
returns c = λ cs h b.
    let k = c.later_len-later.result in
    c.in_ok-push_firsts.ensures (drop k cs) (rest-values k cs c.args.values.now h) (rest-firsts k cs c.args.firsts.now b)
    ∙ ap (λ (vs : List ℕ). vs ++ values_of (first_columns (drop k cs))) (c.in_ok-text.ensures ∙ sym (part-of cs c.args.values.now 0 k _ h (omega arith))) ∙ sym (c.later_len-later.ensures.text cs b)
