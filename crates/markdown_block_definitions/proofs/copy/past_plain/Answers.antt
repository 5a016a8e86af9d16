use Rattle.std.proofs.Common.{◌≤◌, arith, length}
use Rattle.std.proofs.Math.Nat.{min-le_left, min-le_right}
use Rattle.markdown_content.proofs.ByteSetLemmas.{plain-parts}
use Rattle.markdown_block_definitions.proofs.PlainRuns.{plain-run}
use Rattle.markdown_block_definitions.proofs.copy.past_plain.Goals as goal

pub returns : goal.returns
returns c =
    let stop = c.min-stop.result in
    let index = c.plain_end-index.result in
    let high : index ≤ length c.args.bytes.now = omega (arith, c.plain_end-index.ensures.to, c.min-stop.ensures, min-le_right c.args.piece.end.0 (length c.args.bytes.now)) in
    let within : index ≤ c.args.piece.end.0 = omega (arith, c.plain_end-index.ensures.to, c.min-stop.ensures, min-le_left c.args.piece.end.0 (length c.args.bytes.now)) in
    plain-run c.args.bytes.now c.args.piece c.args.spot index c.requires.is_spot c.requires.started c.plain_end-index.ensures.from high within
    (λ i l k. (plain-parts _ _ (c.plain_end-index.ensures.plain i l k)).0)
