use Rattle.std.proofs.Common.{arith}
use Rattle.std.proofs.lemmas.Bool.{eqb-true}
use Rattle.markdown_blocks.proofs.ItemRowLemmas.{bare-none, bare-one}
use Rattle.markdown_blocks.proofs.rest.is_bare.Goals as goal

pub returns-then-values-eq0 : goal.returns-then-values-eq0
returns-then-values-eq0 c = λ _ cs v. bare-none cs c.args.values.now (omega arith) v

pub returns-then-values-eq1 : goal.returns-then-values-eq1
returns-then-values-eq1 c = λ h cs v. bare-one cs c.args.values.now 0 (omega arith) (eqb-true _ _ h) v
