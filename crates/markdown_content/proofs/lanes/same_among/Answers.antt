use Rattle.std.proofs.Common.{ℕ, ◌≡◌, ◌==◌, List, length, count_ones, ap, ◌∙◌, arith, w8}
use Rattle.std.proofs.lemmas.Simd.{length-chunk, bitmask_splat, ones-mask_l}
use lib.Lanes.{chunk}
use Rattle.markdown_content.proofs.lanes.same_among.Goals as goal

pub returns : goal.returns
returns c =
    let v : List ℕ = chunk c.args.at 16 c.args.bytes.now in
    let long : length v ≡ 16 = length-chunk c.args.at 16 c.args.bytes.now c.requires in
    ap (λ (m : ℕ). count_ones m) (bitmask_splat w8 (◌==◌) v 16 c.args.byte long (omega arith)) ∙ ones-mask_l (λ b. b == c.args.byte) v
