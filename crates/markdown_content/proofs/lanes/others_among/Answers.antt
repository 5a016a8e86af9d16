use Rattle.std.proofs.Common.{ℕ, ◌≡◌, List, length}
use Rattle.std.proofs.lemmas.Simd.{zip2_splat, zip2_of_maps, length-chunk}
use lib.Lanes.{chunk}
use Rattle.markdown_content.proofs.LaneLemmas.{lane_of_three, run-within, run-fails, three-plain}
use Rattle.markdown_content.proofs.lanes.others_among.Goals as goal

pub returns-clause-within : goal.returns-clause-within
returns-clause-within c =
    let v : List ℕ = chunk c.args.at 16 c.args.bytes.now in
    let long : length v ≡ 16 = length-chunk c.args.at 16 c.args.bytes.now c.requires in
    run-within c.args.bytes.now c.args.at _ _ c.requires c.type_inv.bytes c.first_set.ensures (lane_of_three c.args.one c.args.two)
    (zip2_of_maps _ _ _ v (zip2_splat {Y = ℕ} _ v 16 13 long) (zip2_of_maps _ _ _ v (zip2_splat {Y = ℕ} _ v 16 c.args.one long) (zip2_splat {Y = ℕ} _ v 16 c.args.two long)))

pub returns-clause-others : goal.returns-clause-others
returns-clause-others c i low high =
    let v : List ℕ = chunk c.args.at 16 c.args.bytes.now in
    let long : length v ≡ 16 = length-chunk c.args.at 16 c.args.bytes.now c.requires in
    three-plain c.args.one c.args.two _
    (run-fails c.args.bytes.now c.args.at _ _ c.requires c.type_inv.bytes c.first_set.ensures (lane_of_three c.args.one c.args.two)
    (zip2_of_maps _ _ _ v (zip2_splat {Y = ℕ} _ v 16 13 long) (zip2_of_maps _ _ _ v (zip2_splat {Y = ℕ} _ v 16 c.args.one long) (zip2_splat {Y = ℕ} _ v 16 c.args.two long))) i low high)
