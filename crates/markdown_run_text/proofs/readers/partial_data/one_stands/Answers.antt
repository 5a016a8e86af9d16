use Rattle.std.proofs.Common.{arith}
use Rattle.markdown_model.specs.GfmAutolinkLiteral.{literal_words, schemes, www}
use Rattle.markdown_run_text.proofs.WordLetters.{one-behind, one-read}
use Rattle.markdown_run_text.proofs.readers.partial_data.one_stands.Goals as goal

pub returns-then-one_of : goal.returns-then-one_of
returns-then-one_of c = grind (arith, one-behind schemes www c.args.cursor.now, one-read literal_words c.args.cursor.now, c.if-one_of.true, c.one_of.ensures)

pub returns-else-one_of : goal.returns-else-one_of
returns-else-one_of c = grind (arith, one-behind schemes www c.args.cursor.now, one-read literal_words c.args.cursor.now, c.stands.ensures, c.if-one_of.false, c.one_of.ensures)
