use Rattle.std.proofs.Common.{Some, ap, ◌∙◌}
use Rattle.markdown_program.proofs.DefiningWords.{defined-yes, defined-no}
use Rattle.markdown_program.proofs.words.defined_word.Goals as goal

pub returns-in_ok-normalize_identifier-in-Some : goal.returns-in_ok-normalize_identifier-in-Some
returns-in_ok-normalize_identifier-in-Some c =
    ap Some c.in_ok-normalize_identifier-in-Some.ensures ∙ defined-yes c.args.prefix.now c.args.word.now c.in-Some.text.now c.in-Some.ensures.cases

pub returns-in-None : goal.returns-in-None
returns-in-None c = defined-no c.args.prefix.now c.args.word.now c.in-None.ensures.cases
