use Rattle.markdown_inline_c.proofs.Told.{nowhere_behind, nowhere_rest}
use Rattle.markdown_inline_c.proofs.form.next_sign.Goals as goal

pub returns-in-Some-clause-others : goal.returns-in-Some-clause-others
returns-in-Some-clause-others c = nowhere_behind c.args.bytes.now c.bytes_from.result.now c.args.from c.in-Some.before c.bytes_from.ensures c.in-Some.ensures.0.before

pub returns-in-None-clause-others : goal.returns-in-None-clause-others
returns-in-None-clause-others c = nowhere_rest c.args.bytes.now c.bytes_from.result.now c.args.from c.bytes_from.ensures c.in-None.ensures
