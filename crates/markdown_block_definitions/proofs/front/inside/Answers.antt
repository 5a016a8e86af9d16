use Rattle.std.proofs.Common.{arith}
use Rattle.markdown_block_definitions.proofs.FrontTexts.{inside-few, inside-more}
use Rattle.markdown_block_definitions.proofs.front.inside.Goals as goal

pub returns-then-stretch-lt2-clause-is : goal.returns-then-stretch-lt2-clause-is
returns-then-stretch-lt2-clause-is c = λ cs l. inside-few cs c.args.stretch.start c.args.stretch.len c.if-stretch-lt2.true

pub returns-clause-is : goal.returns-clause-is
returns-clause-is c = λ cs l. inside-more cs c.args.stretch.start c.args.stretch.len _ l (omega (arith, c.if-stretch-lt2.false))
