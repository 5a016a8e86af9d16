use Rattle.std.proofs.Common.{◌∙◌, sym, refl}
use Rattle.markdown_block_definitions.proofs.TextWalks.{does-escaped, does-end, does-fail, does-pass}
use Rattle.markdown_block_definitions.proofs.texts.read_code.Goals as goal

pub returns-then-is_escaped : goal.returns-then-is_escaped
returns-then-is_escaped c = does-escaped c.args.text c.args.slash c.args.value (sym c.is_escaped.ensures ∙ c.if-is_escaped.true)

pub returns-then-value-closer : goal.returns-then-value-closer
returns-then-value-closer c = does-end c.args.text c.args.slash c.args.value (sym c.is_escaped.ensures ∙ c.if-is_escaped.false) (c.if-value-closer.true ∙ c.closer.ensures)

pub returns-then-is_refused : goal.returns-then-is_refused
returns-then-is_refused c = does-fail c.args.text c.args.slash c.args.value (sym c.is_escaped.ensures ∙ c.if-is_escaped.false) (λ e. c.if-value-closer.false (e ∙ sym c.closer.ensures)) (sym c.is_refused.ensures ∙ c.if-is_refused.true)

pub returns : goal.returns
returns c = does-pass c.args.text c.args.slash c.args.value (sym c.is_escaped.ensures ∙ c.if-is_escaped.false) _ (λ e. c.if-value-closer.false (e ∙ sym c.closer.ensures)) (sym c.is_refused.ensures ∙ c.if-is_refused.false) refl
