use Rattle.std.proofs.Common.{◌<◌, ◌+◌, arith, drop, length, refl}
use Rattle.std.proofs.lemmas.Bool.Decides.{nat_tests}
use Rattle.markdown_block_line.proofs.RestValues.{rest-values}
use Rattle.markdown_block_line.proofs.RestStarts.{quote-deep, quote-end, quote-other, quote-here}
use Rattle.markdown_block_line.proofs.starts.behind_quote.Goals as goal

pub returns-then-at-eq4-clause-found : goal.returns-then-at-eq4-clause-found
returns-then-at-eq4-clause-found c = λ cs h. quote-deep cs c.indent_to-at.result (c.indent_to-at.ensures.count cs h) c.if-at-eq4.true

pub returns-then-at-line-clause-found : goal.returns-then-at-line-clause-found
returns-then-at-line-clause-found c = λ cs h.
    let e = c.indent_to-at.ensures.count cs h in
    let k : c.indent_to-at.result < 4 = omega (arith, e) in
    quote-end cs c.args.line.now c.indent_to-at.result h e k (omega arith)

pub returns-then-line-at-ne62-clause-found : goal.returns-then-line-at-ne62-clause-found
returns-then-line-at-ne62-clause-found c = λ cs h.
    let e = c.indent_to-at.ensures.count cs h in
    let k : c.indent_to-at.result < 4 = omega (arith, e) in
    let l : c.indent_to-at.result < length c.args.line.now = omega (arith, c.indent_to-at.ensures.within) in
    quote-other cs c.args.line.now c.indent_to-at.result 0 h e k l (grind (arith, nat_tests, c.if-line-at-ne62.true))

pub returns-clause-found : goal.returns-clause-found
returns-clause-found c = λ cs h.
    let at = c.indent_to-at.result in
    let e = c.indent_to-at.ensures.count cs h in
    let k : at < 4 = omega (arith, e) in
    let l : at < length c.args.line.now = omega (arith, c.indent_to-at.ensures.within) in
    quote-here cs c.args.line.now at (at + 1) c.indent_to.result 0 h e k l (grind (arith, nat_tests, c.if-line-at-ne62.false)) refl
    (c.indent_to.ensures.count (drop (at + 1) cs) (rest-values (at + 1) cs c.args.line.now h))
