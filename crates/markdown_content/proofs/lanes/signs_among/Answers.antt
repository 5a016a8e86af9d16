use Rattle.std.proofs.Common.{ℕ, ◌≡◌, List, length, leb, cond, refl}
use Rattle.std.proofs.lemmas.Simd.{zip2_splat, zip2_of_maps, splat_is_map, length-chunk}
use lib.Lanes.{chunk}
use Rattle.markdown_content.specs.PlainBytes.{is_word}
use Rattle.markdown_content.proofs.LaneLemmas.{mask-few, bits-pass}
use Rattle.markdown_content.proofs.lanes.signs_among.Goals as goal

pub returns-clause-few : goal.returns-clause-few
returns-clause-few c =
    let v : List ℕ = chunk c.args.at 16 c.args.bytes.now in
    let long : length v ≡ 16 = length-chunk c.args.at 16 c.args.bytes.now c.requires in
    let from_a = zip2_of_maps {Y = ℕ} _ _ _ v (zip2_splat {Y = ℕ} _ v 16 32 long) (splat_is_map v 16 97 long) in
    mask-few c.args.bytes.now c.args.at _ _ c.requires c.type_inv.bytes refl _
    (zip2_of_maps _ _ _ v (zip2_of_maps _ _ _ v (zip2_of_maps (λ a b. cond (leb a b) 255 0) _ _ v (splat_is_map v 16 26 long) from_a) (zip2_splat {Y = ℕ} _ v 16 32 long)) (zip2_splat {Y = ℕ} _ v 16 128 long))

pub returns-clause-words : goal.returns-clause-words
returns-clause-words c =
    let v : List ℕ = chunk c.args.at 16 c.args.bytes.now in
    let long : length v ≡ 16 = length-chunk c.args.at 16 c.args.bytes.now c.requires in
    let from_a = zip2_of_maps {Y = ℕ} _ _ _ v (zip2_splat {Y = ℕ} _ v 16 32 long) (splat_is_map v 16 97 long) in
    bits-pass c.args.bytes.now c.args.at _ _ c.requires c.type_inv.bytes refl _
    (zip2_of_maps _ _ _ v (zip2_of_maps _ _ _ v (zip2_of_maps (λ a b. cond (leb a b) 255 0) _ _ v (splat_is_map v 16 26 long) from_a) (zip2_splat {Y = ℕ} _ v 16 32 long)) (zip2_splat {Y = ℕ} _ v 16 128 long)) is_word refl
