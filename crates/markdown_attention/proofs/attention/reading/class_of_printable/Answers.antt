use Rattle.std.proofs.Common.{◌∙◌, arith, refl, sym, true, false}
use Rattle.std.proofs.lemmas.Bool.{eq-eqb, ne_eqb}
use Rattle.std.specs.Char.{is_ascii_punctuation}
use Rattle.markdown_attention.proofs.PrintableClasses.{class-is, letter-unmarked}
use Rattle.markdown_attention.proofs.attention.reading.class_of_printable.Goals as goal

pub returns-then-c-le122 : goal.returns-then-c-le122
returns-then-c-le122 c = λ rules.
    sym (class-is c.args.c c.requires.low c.requires.high rules false false (ne_eqb c.args.c 32 (λ e. omega (arith, e, c.if-c-ge97.true))) (letter-unmarked c.args.c c.if-c-ge97.true c.if-c-le122.true))

pub returns-then-c-eq32 : goal.returns-then-c-eq32
returns-then-c-eq32 c = λ rules. sym (class-is c.args.c c.requires.low c.requires.high rules true (is_ascii_punctuation c.args.c) (eq-eqb c.args.c 32 c.if-c-eq32.true) refl)

pub returns-then-is_ascii_punctuation : goal.returns-then-is_ascii_punctuation
returns-then-is_ascii_punctuation c = λ rules.
    sym (class-is c.args.c c.requires.low c.requires.high rules false true (ne_eqb c.args.c 32 c.if-c-eq32.false) (sym c.is_ascii_punctuation.ensures.value ∙ c.if-is_ascii_punctuation.true))

pub returns-else-is_ascii_punctuation : goal.returns-else-is_ascii_punctuation
returns-else-is_ascii_punctuation c = λ rules.
    sym (class-is c.args.c c.requires.low c.requires.high rules false false (ne_eqb c.args.c 32 c.if-c-eq32.false) (sym c.is_ascii_punctuation.ensures.value ∙ c.if-is_ascii_punctuation.false))
