use Rattle.std.proofs.Common.{◌∙◌, ◌<◌, sym, arith, length, refl}
use Rattle.markdown_block_line.proofs.RestNumbers.{ordered-none, ordered-end, ordered-not, ordered-here}
use Rattle.markdown_block_line.proofs.starts.ordered_at.Goals as goal

pub returns-then-digits-eq0-clause-found : goal.returns-then-digits-eq0-clause-found
returns-then-digits-eq0-clause-found c = λ cs h. ordered-none cs c.args.line.now c.digits_at-digits.result.count h c.digits_at-digits.ensures.count c.if-digits-eq0.true

pub returns-then-digits-line-clause-found : goal.returns-then-digits-line-clause-found
returns-then-digits-line-clause-found c = λ cs h. ordered-end cs c.args.line.now c.digits_at-digits.result.count h c.digits_at-digits.ensures.count c.if-digits-line.true

pub returns-then-not-is_delimiter-clause-found : goal.returns-then-not-is_delimiter-clause-found
returns-then-not-is_delimiter-clause-found c = λ cs h.
    let l : c.digits_at-digits.result.count < length c.args.line.now = omega (arith, c.digits_at-digits.ensures.within, c.if-digits-line.false) in
    ordered-not cs c.args.line.now c.digits_at-digits.result.count 0 _ h c.digits_at-digits.ensures.count l refl (sym c.is_delimiter.ensures ∙ c.if-not-is_delimiter.true)

pub returns-clause-found : goal.returns-clause-found
returns-clause-found c = λ cs h.
    let l : c.digits_at-digits.result.count < length c.args.line.now = omega (arith, c.digits_at-digits.ensures.within, c.if-digits-line.false) in
    ordered-here cs c.args.line.now c.digits_at-digits.result.count 0 _ c.digits_at-digits.result.number h c.digits_at-digits.ensures.count c.if-digits-eq0.false l refl
    (sym c.is_delimiter.ensures ∙ c.if-not-is_delimiter.false) c.digits_at-digits.ensures.number
