use Rattle.std.proofs.Common.{ℕ, ◌≡◌, List, length, refl}
use Rattle.std.proofs.lemmas.Simd.{zip2_splat, zip2_of_maps, splat_is_map, length-chunk}
use lib.Lanes.{chunk}
use Rattle.markdown_content.proofs.LaneLemmas.{run-within, run-passes}
use Rattle.markdown_html_model.specs.Escaped.{is_kept}
use Rattle.markdown_html_model.proofs.kept.kept_among.Goals as goal

pub returns-clause-within : goal.returns-clause-within
returns-clause-within c =
    let v : List ℕ = chunk c.args.at 16 c.args.bytes.now in
    let long : length v ≡ 16 = length-chunk c.args.at 16 c.args.bytes.now c.requires in
    run-within c.args.bytes.now c.args.at _ _ c.requires c.type_inv.bytes c.first_set.ensures _
    (zip2_of_maps _ _ _ v (zip2_of_maps _ _ _ v (zip2_of_maps {Y = ℕ} _ _ _ v (zip2_splat {Y = ℕ} _ v 16 253 long) (splat_is_map v 16 60 long)) (zip2_of_maps {Y = ℕ} _ _ _ v (zip2_splat {Y = ℕ} _ v 16 251 long) (splat_is_map v 16 34 long))) (zip2_splat {Y = ℕ} _ v 16 0 long))

pub returns-clause-kept : goal.returns-clause-kept
returns-clause-kept c =
    let v : List ℕ = chunk c.args.at 16 c.args.bytes.now in
    let long : length v ≡ 16 = length-chunk c.args.at 16 c.args.bytes.now c.requires in
    run-passes c.args.bytes.now c.args.at _ _ c.requires c.type_inv.bytes c.first_set.ensures _
    (zip2_of_maps _ _ _ v (zip2_of_maps _ _ _ v (zip2_of_maps {Y = ℕ} _ _ _ v (zip2_splat {Y = ℕ} _ v 16 253 long) (splat_is_map v 16 60 long)) (zip2_of_maps {Y = ℕ} _ _ _ v (zip2_splat {Y = ℕ} _ v 16 251 long) (splat_is_map v 16 34 long))) (zip2_splat {Y = ℕ} _ v 16 0 long)) is_kept refl
