use Rattle.std.proofs.Common.{ℕ, ◌≡◌, ◌==◌, List, length, ◌∙◌, refl, arith, w8}
use Rattle.std.proofs.lemmas.Simd.{zip2_splat, zip2_of_maps, length-chunk, bitmask_splat}
use lib.Lanes.{chunk}
use Rattle.markdown_content.specs.PlainBytes.{is_of_line}
use Rattle.markdown_content.proofs.LaneLemmas.{run-within, run-passes}
use Rattle.markdown_content.proofs.GroupWalk.{feeds-mask}
use Rattle.markdown_content.proofs.lanes.feeds_among.Goals as goal

pub returns-clause-within : goal.returns-clause-within
returns-clause-within c =
    let v : List ℕ = chunk c.args.at 16 c.args.bytes.now in
    let long : length v ≡ 16 = length-chunk c.args.at 16 c.args.bytes.now c.requires in
    run-within c.args.bytes.now c.args.at _ _ c.requires c.type_inv.bytes c.first_set.ensures _
    (zip2_of_maps _ _ _ v (zip2_splat {Y = ℕ} _ v 16 13 long) (zip2_splat {Y = ℕ} _ v 16 10 long))

pub returns-clause-of_lines : goal.returns-clause-of_lines
returns-clause-of_lines c =
    let v : List ℕ = chunk c.args.at 16 c.args.bytes.now in
    let long : length v ≡ 16 = length-chunk c.args.at 16 c.args.bytes.now c.requires in
    run-passes c.args.bytes.now c.args.at _ _ c.requires c.type_inv.bytes c.first_set.ensures _
    (zip2_of_maps _ _ _ v (zip2_splat {Y = ℕ} _ v 16 13 long) (zip2_splat {Y = ℕ} _ v 16 10 long)) is_of_line refl

pub returns-clause-feeds : goal.returns-clause-feeds
returns-clause-feeds c =
    let v : List ℕ = chunk c.args.at 16 c.args.bytes.now in
    let long : length v ≡ 16 = length-chunk c.args.at 16 c.args.bytes.now c.requires in
    bitmask_splat w8 (◌==◌) v 16 10 long (omega arith) ∙ feeds-mask v
