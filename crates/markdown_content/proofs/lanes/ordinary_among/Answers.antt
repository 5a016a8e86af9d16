use Rattle.std.proofs.Common.{refl, length, ◌+◌, ◌≤◌, []}
use Rattle.std.proofs.lemmas.Simd.{zip2_splat, length-chunk}
use lib.Lanes.{chunk}
use Rattle.markdown_content.specs.PlainBytes.{is_plain}
use Rattle.markdown_content.proofs.LaneLemmas.{run-within, run-passes}
use Rattle.markdown_content.proofs.lanes.ordinary_among.Goals as goal

pub returns-clause-within : goal.returns-clause-within
returns-clause-within c =
    let room : c.args.at + 16 ≤ length c.args.bytes.now = c.requires in
    let v = chunk c.args.at 16 c.args.bytes.now in
    run-within c.args.bytes.now c.args.at _ _ room c.type_inv.bytes c.first_set.ensures _
    (zip2_splat _ v 16 13 (length-chunk c.args.at 16 c.args.bytes.now room))

pub returns-clause-ordinary : goal.returns-clause-ordinary
returns-clause-ordinary c =
    let room : c.args.at + 16 ≤ length c.args.bytes.now = c.requires in
    let v = chunk c.args.at 16 c.args.bytes.now in
    run-passes c.args.bytes.now c.args.at _ _ room c.type_inv.bytes c.first_set.ensures _
    (zip2_splat _ v 16 13 (length-chunk c.args.at 16 c.args.bytes.now room)) (is_plain []) refl
