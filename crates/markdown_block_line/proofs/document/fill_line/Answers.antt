use Rattle.std.proofs.Common.{◌≡◌, ◌∙◌, ◌<◌, sym, ap, subst, ℕ, List, Some}
use Rattle.markdown_content.specs.DocumentWalk.{value_from}
use Rattle.markdown_block_line.specs.DocumentLines.{IsLineOf}
use Rattle.markdown_block_line.proofs.LinesOfDocument.{IsLinePart, part-next, part-ends, part-stops, ending-forward, next-fewer}
use Rattle.markdown_block_line.proofs.document.fill_line.Goals as goal

pub returns-then-value-eq10 : goal.returns-then-value-eq10
returns-then-value-eq10 c =
    let q = c.loop-point.point in
    let r = c.past_code-point.result in
    let v = c.code_from-value.result in
    let h = c.loop-point.invariant in
    let x : value_from c.args.bytes.now q ≡ Some 10 = c.code_from-value.ensures ∙ ap (λ (n : ℕ). Some n) c.if-value-eq10.true in
    let f : q.index < r.index = ending-forward c.args.bytes.now q r h.point c.loop-point-test.true x c.past_code-point.ensures.next in
    subst (λ (vs : List ℕ). IsLineOf c.args.bytes.now c.args.start r vs) (sym c.in_ok-push.ensures.items)
    (part-ends c.args.bytes.now c.args.start q r c.loop-point.buffer.items v h c.loop-point-test.true c.code_from-value.ensures c.if-value-eq10.true c.past_code-point.ensures.next f)

pub loop-point-smaller : goal.loop-point-smaller
loop-point-smaller c =
    next-fewer c.args.bytes.now c.loop-point.point c.past_code-point.result c.loop-point.invariant.point c.loop-point-test.true c.past_code-point.ensures.next

pub loop-point-preserved : goal.loop-point-preserved
loop-point-preserved c =
    subst (λ (vs : List ℕ). IsLinePart c.args.bytes.now c.args.start c.past_code-point.result vs) (sym c.in_ok-push.ensures.items)
    (part-next c.args.bytes.now c.args.start c.loop-point.point c.past_code-point.result c.loop-point.buffer.items c.code_from-value.result c.loop-point.invariant c.loop-point-test.true
    c.code_from-value.ensures c.if-value-eq10.false c.past_code-point.ensures.next)

pub returns : goal.returns
returns c = part-stops c.args.bytes.now c.args.start c.loop-point.point c.loop-point.buffer.items c.loop-point.invariant c.requires.begins c.loop-point-test.false
