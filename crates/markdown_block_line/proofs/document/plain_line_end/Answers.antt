use Rattle.std.proofs.Common.{◌≡◌, ◌<◌, arith, get_or, length}
use Rattle.std.proofs.lemmas.Bool.Decides.{nat_tests}
use Rattle.markdown_block_line.proofs.LinesOfDocument.{column-fits, plain-to, plain-line, part-stops}
use Rattle.markdown_block_line.proofs.document.plain_line_end.Goals as goal

pub overflow_add-stop : goal.overflow_add-stop
overflow_add-stop c = grind (arith, column-fits)

pub returns-then-end-bytes : goal.returns-then-end-bytes
returns-then-end-bytes c =
    let end = c.plain_end-end.result in
    part-stops c.args.bytes.now c.args.start _ _
    (plain-to _ c.args.bytes.now c.args.start end c.requires.is_point c.requires.begins c.plain_end-end.ensures.from c.plain_end-end.ensures.to c.plain_end-end.ensures.plain
    (λ e. absurd (omega (arith, e, c.requires.begins, c.if-end-bytes.true))))
    c.requires.begins (omega (arith, c.if-end-bytes.true))

pub past_code-requires-clause-is_point : goal.past_code-requires-clause-is_point
past_code-requires-clause-is_point c =
    (plain-to _ c.args.bytes.now c.args.start c.plain_end-end.result c.requires.is_point c.requires.begins c.plain_end-end.ensures.from c.plain_end-end.ensures.to c.plain_end-end.ensures.plain
    (λ e. grind (arith, nat_tests, c.if-bytes-end-ne10.false))).point

pub returns : goal.returns
returns c =
    let end = c.plain_end-end.result in
    let f : get_or c.args.bytes.now end 0 ≡ 10 = grind (arith, nat_tests, c.if-bytes-end-ne10.false) in
    let l : end < length c.args.bytes.now = omega (arith, c.plain_end-end.ensures.to, c.if-end-bytes.false) in
    plain-line c.args.bytes.now c.args.start _ c.past_code.result
    (plain-to _ c.args.bytes.now c.args.start end c.requires.is_point c.requires.begins c.plain_end-end.ensures.from c.plain_end-end.ensures.to c.plain_end-end.ensures.plain (λ e. f))
    l f c.past_code.ensures.next
