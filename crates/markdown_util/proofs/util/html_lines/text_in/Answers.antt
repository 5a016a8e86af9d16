use Rattle.std.proofs.Common.{rules, refl, arith}
use Rattle.std.specs.Str.{IsUtf8}
use Rattle.markdown_util.specs.Reference.{html_rows}
use Rattle.markdown_util.proofs.HalvedText.{left-before, left-behind, found, none-left, before-shorter, behind-shorter}
use Rattle.markdown_util.proofs.util.html_lines.text_in.Goals as goal

pub loop-line-init : goal.loop-line-init
loop-line-init c = record { utf8 = c.utf8.lines; left = record { rows = html_rows; text = c.requires; same = refl } }

pub loop-line-smaller-in-Less : goal.loop-line-smaller-in-Less
loop-line-smaller-in-Less c =
    let left = c.loop-line.invariant.left in
    behind-shorter left (c.in-Some.ensures left.rows left.text.lines)

pub loop-line-preserved-in-Less : goal.loop-line-preserved-in-Less
loop-line-preserved-in-Less c =
    let utf8 : IsUtf8 c.in-Some.line.behind.now = search rules in
    let left = c.loop-line.invariant.left in
    record { utf8 = utf8; left = left-behind left (c.in-Some.ensures left.rows left.text.lines) c.in-Less.ensures }

pub returns-in-Equal : goal.returns-in-Equal
returns-in-Equal c =
    let left = c.loop-line.invariant.left in
    found left (c.in-Some.ensures left.rows left.text.lines) c.in-Equal.ensures

pub loop-line-smaller : goal.loop-line-smaller
loop-line-smaller c =
    let left = c.loop-line.invariant.left in
    before-shorter left (c.in-Some.ensures left.rows left.text.lines)

pub loop-line-preserved : goal.loop-line-preserved
loop-line-preserved c =
    let utf8 : IsUtf8 c.in-Some.line.before.now = search rules in
    let left = c.loop-line.invariant.left in
    record { utf8 = utf8; left = left-before left (c.in-Some.ensures left.rows left.text.lines) c.in-Greater.ensures }

pub returns : goal.returns
returns c = grind (arith, none-left)
