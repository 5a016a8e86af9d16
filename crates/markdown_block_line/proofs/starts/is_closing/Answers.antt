use Rattle.std.proofs.Common.{◌≡◌, sym, arith, drop, refl, true, false}
use Rattle.std.specs.Prelude.{nat_le}
use Rattle.std.proofs.lemmas.Bool.Decides.{nat_tests}
use Rattle.markdown_block_line.specs.LineBlocks.{fence_of}
use Rattle.markdown_block_line.proofs.RestValues.{rest-values}
use Rattle.markdown_block_line.proofs.RestStarts.{closing-deep, closing-by}
use Rattle.markdown_block_line.proofs.starts.is_closing.Goals as goal

pub returns-then-at-eq4 : goal.returns-then-at-eq4
returns-then-at-eq4 c = λ cs h.
    sym (closing-deep (fence_of c.args.fence) cs c.indent_to-at.result (c.indent_to-at.ensures.count cs h) c.if-at-eq4.true)

pub returns-then-len-fence : goal.returns-then-len-fence
returns-then-len-fence c = λ cs h.
    let k = c.indent_to-at.result in
    let len = c.count_first-len.result in
    let x : nat_le c.args.fence.count len ≡ false = grind (arith, nat_tests, c.if-len-fence.true) in
    sym (closing-by (fence_of c.args.fence) cs k len false _ (c.indent_to-at.ensures.count cs h) c.if-at-eq4.false
    (c.count_first-len.ensures.count (drop k cs) (rest-values k cs c.args.line.now h)) x refl)

pub returns : goal.returns
returns c = λ cs h.
    let k = c.indent_to-at.result in
    let len = c.count_first-len.result in
    let r = rest-values k cs c.args.line.now h in
    let x : nat_le c.args.fence.count len ≡ true = grind (arith, nat_tests, c.if-len-fence.false) in
    sym (closing-by (fence_of c.args.fence) cs k len true _ (c.indent_to-at.ensures.count cs h) c.if-at-eq4.false
    (c.count_first-len.ensures.count (drop k cs) r) x (sym (c.is_blank_line.ensures (drop len (drop k cs)) (rest-values len (drop k cs) _ r))))
