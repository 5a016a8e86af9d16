use Rattle.std.proofs.Common.{refl, sym, ◌∙◌, arith}
use Rattle.markdown_run_text.proofs.DataReads.{Line, has-code, last-line, line-is, more-lines, on-past}
use Rattle.markdown_run_text.proofs.readers.partial_data.read.Goals as goal

pub loop-on-init : goal.loop-on-init
loop-on-init c = (λ V k. k, (refl, (refl, c.requires)))

pub read_line-requires : goal.read_line-requires
read_line-requires c = c.loop-on.invariant.1.1.1

pub loop-on-smaller : goal.loop-on-smaller
loop-on-smaller c = grind (arith, line-is c.args.tokenizer.now.cursor.codes c.args.literals, c.loop-on.invariant.1.1.0, c.loop-on.invariant.1.1.1, c.in_ok-on.ensures.ok)

pub loop-on-preserved : goal.loop-on-preserved
loop-on-preserved c =
    let codes = c.args.tokenizer.now.cursor.codes in
    let line : Line codes c.args.literals c.loop-on.tokenizer c.read_line.new.tokenizer = line-is codes c.args.literals c.loop-on.tokenizer c.read_line.new.tokenizer c.loop-on.invariant.1.1.0 c.loop-on.invariant.1.1.1 c.in_ok-on.ensures.ok in
    let on = sym (on-past codes c.args.literals c.loop-on.tokenizer c.read_line.new.tokenizer _ c.loop-on.invariant.1.1.0 line c.in_ok-on.ensures.on) ∙ c.if-not-on.false in (
      more-lines codes c.args.literals c.args.tokenizer.now c.loop-on.tokenizer c.read_line.new.tokenizer c.loop-on.invariant.0 on line,
      (line.scratch ∙ c.loop-on.invariant.1.0, (line.codes ∙ c.loop-on.invariant.1.1.0, has-code codes c.args.literals c.read_line.new.tokenizer on)),
    )

pub returns-then-not-on-clause-ok : goal.returns-then-not-on-clause-ok
returns-then-not-on-clause-ok c =
    let codes = c.args.tokenizer.now.cursor.codes in
    let line : Line codes c.args.literals c.loop-on.tokenizer c.read_line.new.tokenizer = line-is codes c.args.literals c.loop-on.tokenizer c.read_line.new.tokenizer c.loop-on.invariant.1.1.0 c.loop-on.invariant.1.1.1 c.in_ok-on.ensures.ok in
    last-line codes c.args.literals c.args.tokenizer.now c.loop-on.tokenizer c.read_line.new.tokenizer c.loop-on.invariant.0 c.loop-on.invariant.1.0 line
    (sym (on-past codes c.args.literals c.loop-on.tokenizer c.read_line.new.tokenizer _ c.loop-on.invariant.1.1.0 line c.in_ok-on.ensures.on) ∙ c.if-not-on.true)
