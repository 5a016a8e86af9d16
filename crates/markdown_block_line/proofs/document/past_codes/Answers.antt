use Rattle.std.proofs.Common.{◌<◌, ◌+◌, sym, subst, arith, ℕ, length, add-one}
use Rattle.markdown_content.specs.Codes.{place_of}
use Rattle.markdown_content.specs.DocumentWalk.{codes_after}
use Rattle.markdown_block_line.proofs.LinesOfDocument.{IsBehind, behind-begins, behind-next, plain-behind, column-fits}
use Rattle.markdown_block_line.proofs.document.past_codes.Goals as goal

pub past_code-point-requires-clause-begins : goal.past_code-point-requires-clause-begins
past_code-point-requires-clause-begins c =
    let l : c.loop.counter < length (codes_after c.args.bytes.now (place_of c.args.start)) = omega (arith, c.loop-test.true, c.requires.within) in
    behind-begins c.args.bytes.now c.args.start c.loop.point c.loop.counter c.loop.invariant l

pub loop-preserved : goal.loop-preserved
loop-preserved c =
    let l : c.loop.counter < length (codes_after c.args.bytes.now (place_of c.args.start)) = omega (arith, c.loop-test.true, c.requires.within) in
    subst (λ (k : ℕ). IsBehind c.args.bytes.now c.args.start c.past_code-point.result k) (sym (add-one c.loop.counter))
    (behind-next c.args.bytes.now c.args.start c.loop.point c.past_code-point.result c.loop.counter c.loop.invariant l c.past_code-point.ensures.next)

pub loop-init : goal.loop-init
loop-init c = plain-behind c.args.bytes.now c.args.start c.plain_len-plain.result c.requires.is_point c.plain_len-plain.ensures.inside c.plain_len-plain.ensures.plain

pub overflow_add-point : goal.overflow_add-point
overflow_add-point c =
    let f = column-fits c.args.bytes.now c.args.start (c.args.start.index + c.plain_len-plain.result) c.requires.is_point c.requires.fits c.plain_len-plain.ensures.inside in
    grind (arith, f)
