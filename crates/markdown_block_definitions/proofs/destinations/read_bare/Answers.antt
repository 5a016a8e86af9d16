use Rattle.std.proofs.Common.{◌∙◌, sym, refl}
use Rattle.markdown_block_definitions.proofs.RawWalks.{does-stop, does-break, does-control, does-open, does-deep, does-stop-closer, does-close, does-go}
use Rattle.markdown_block_definitions.proofs.destinations.read_bare.Goals as goal

pub returns-then-depth-eq0 : goal.returns-then-depth-eq0
returns-then-depth-eq0 c = does-stop c.args.depth c.args.value (sym c.is_whitespace.ensures ∙ c.if-is_whitespace.true) c.if-depth-eq0.true

pub returns-then-is_whitespace : goal.returns-then-is_whitespace
returns-then-is_whitespace c = does-break c.args.depth c.args.value (sym c.is_whitespace.ensures ∙ c.if-is_whitespace.true) c.if-depth-eq0.false

pub returns-then-is_control : goal.returns-then-is_control
returns-then-is_control c = does-control c.args.depth c.args.value (sym c.is_whitespace.ensures ∙ c.if-is_whitespace.false) (sym c.is_control.ensures ∙ c.if-is_control.true)

pub returns-then-depth-lt32 : goal.returns-then-depth-lt32
returns-then-depth-lt32 c = does-open c.args.depth c.args.value (sym c.is_whitespace.ensures ∙ c.if-is_whitespace.false) (sym c.is_control.ensures ∙ c.if-is_control.false) c.if-value-eq40.true c.if-depth-lt32.true

pub returns-then-value-eq40 : goal.returns-then-value-eq40
returns-then-value-eq40 c = does-deep c.args.depth c.args.value (sym c.is_whitespace.ensures ∙ c.if-is_whitespace.false) (sym c.is_control.ensures ∙ c.if-is_control.false) c.if-value-eq40.true c.if-depth-lt32.false

pub returns-then-depth-eq0-2 : goal.returns-then-depth-eq0-2
returns-then-depth-eq0-2 c = does-stop-closer c.args.depth c.args.value (sym c.is_whitespace.ensures ∙ c.if-is_whitespace.false) c.if-value-eq41.true c.if-depth-eq0-2.true

pub returns-then-value-eq41 : goal.returns-then-value-eq41
returns-then-value-eq41 c = does-close c.args.depth c.args.value (sym c.is_whitespace.ensures ∙ c.if-is_whitespace.false) (sym c.is_control.ensures ∙ c.if-is_control.false) c.if-value-eq41.true c.if-depth-eq0-2.false

pub returns : goal.returns
returns c = does-go c.args.depth c.args.value (sym c.is_whitespace.ensures ∙ c.if-is_whitespace.false) (sym c.is_control.ensures ∙ c.if-is_control.false) _ c.if-value-eq40.false c.if-value-eq41.false refl
