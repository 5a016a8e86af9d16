use Rattle.std.proofs.Common.{◌≡◌, ◌==◌, ℕ, not, true, arith}
use Rattle.std.proofs.lemmas.Bool.Decides.{nat_tests}
use Rattle.markdown_block_definitions.proofs.DefinitionReads.{text-other}
use Rattle.markdown_block_definitions.proofs.front.begins_otherwise.Goals as goal

other : (v : ℕ) → not (v == 91) ≡ true → v ≡ 91 → ⊥
other v e f = grind (arith, nat_tests, e, f)

pub returns-in-Some-clause-none : goal.returns-in-Some-clause-none
returns-in-Some-clause-none c = λ e. (text-other c.args.document.now c.args.text.now _ c.in-Some.value c.if-text-eq0.false c.in-Some.ensures (other c.in-Some.value e)).0

pub returns-in-Some-clause-text : goal.returns-in-Some-clause-text
returns-in-Some-clause-text c = λ e. (text-other c.args.document.now c.args.text.now _ c.in-Some.value c.if-text-eq0.false c.in-Some.ensures (other c.in-Some.value e)).1
