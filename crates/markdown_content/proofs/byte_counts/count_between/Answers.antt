use Rattle.std.proofs.Common.{◌<◌, ◌≤◌, true, false, length, get_or, ℕ, arith}
use Rattle.std.proofs.lemmas.Bool.{eq-eqb, ne_eqb}
use Rattle.markdown_content.proofs.CodeCounts.{hits-more}
use Rattle.markdown_content.proofs.byte_counts.count_between.Goals.{then-bytes-at, else-bytes-at}
use Rattle.markdown_content.proofs.byte_counts.count_between.Goals as goal

pub loop-at-preserved : goal.loop-at-preserved
loop-at-preserved c =
    let at : ℕ = c.loop-at.at in
    let low : c.args.from ≤ at = omega (arith, c.loop-at.auto.at) in
    let high : at < length c.args.bytes.now = omega (arith, c.loop-at-test.true, c.requires.within) in
    elim c.if-bytes-at.branch [
      | then-bytes-at w ↦ omega (arith, w.count-is, c.loop-at.invariant, hits-more c.args.bytes.now c.args.byte c.args.from at true low high (eq-eqb (get_or c.args.bytes.now at 0) c.args.byte w.if-bytes-at.true))
      | else-bytes-at w ↦ omega (arith, w.count-is, c.loop-at.invariant, hits-more c.args.bytes.now c.args.byte c.args.from at false low high (ne_eqb (get_or c.args.bytes.now at 0) c.args.byte w.if-bytes-at.false))
    ]
