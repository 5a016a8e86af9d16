use Rattle.std.proofs.Common.{sym, ◌∙◌, arith}
use Rattle.markdown_plan.proofs.RenameLemmas.{room}
use Rattle.markdown_leaf.proofs.raw_text.sequence_open.Goals as goal

pub overflow_add-passed : goal.overflow_add-passed
overflow_add-passed c =
    omega (arith, room c.args.tokenizer.now.tokenize_state.size c.args.tokenizer.now c.in-Some.code (sym c.current.ensures ∙ c.in-Some.is) c.requires.fits)
