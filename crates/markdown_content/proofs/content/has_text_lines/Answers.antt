use Rattle.std.proofs.Common.{◌∙◌, true, sym, arith, is_some}
use Rattle.markdown_content.proofs.PlaceRules.{ahead_restarted, left_moved}
use Rattle.markdown_content.proofs.ContentLines.{not-swap, text-start, text-next, text-blank, text-end}
use Rattle.markdown_content.proofs.content.has_text_lines.Goals as goal

pub loop-filled-init : goal.loop-filled-init
loop-filled-init c = grind (arith, ahead_restarted, text-start, not-swap, is_some)

pub returns-in_default : goal.returns-in_default
returns-in_default c =
    sym (c.loop-filled.invariant ∙ text-end c.loop-filled.cursor c.loop-filled.filled (sym c.current-in-loop-filled.ensures ∙ c.in_default.is))

pub returns-then-not-filled : goal.returns-then-not-filled
returns-then-not-filled c =
    sym (c.loop-filled.invariant ∙ text-blank c.loop-filled.cursor c.in-Some.code c.loop-filled.filled (sym c.current-in-loop-filled.ensures ∙ c.in-Some.is) c.if-code-eq10.true c.if-not-filled.true)

pub loop-filled-smaller : goal.loop-filled-smaller
loop-filled-smaller c = grind (arith, left_moved)

pub loop-filled-preserved : goal.loop-filled-preserved
loop-filled-preserved c = grind (arith, text-next)
