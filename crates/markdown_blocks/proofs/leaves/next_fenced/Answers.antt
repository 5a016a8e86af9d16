use Rattle.std.proofs.Common.{◌≤◌, length, refl, []}
use Rattle.markdown_block_line.specs.LineBlocks.{fence_of}
use Rattle.markdown_blocks.proofs.LinePieces.{rest-len}
use Rattle.markdown_blocks.proofs.OuterCodes.{outside-fenced}
use Rattle.markdown_blocks.proofs.PlacedTexts.{further-line}
use Rattle.markdown_blocks.proofs.leaves.next_fenced.Goals as goal

pub piece_from-requires : goal.piece_from-requires
piece_from-requires c = rw (rest-len _ _ c.values.ensures) c.in-Some.ensures.within

pub returns-in_ok-push-in-Some-clause-text : goal.returns-in_ok-push-in-Some-clause-text
returns-in_ok-push-in-Some-clause-text c =
    let codes = c.args.rest.now.codes in
    let w : c.in-Some.outside ≤ length codes = rw (rest-len _ _ c.values.ensures) c.in-Some.ensures.within in
    let o = outside-fenced (fence_of c.args.fence) codes c.in-Some.outside w (rw c.in-Some.is at (c.fenced_line.ensures.next codes [] [] c.values.ensures)) in
    let t = further-line c.args.rest.now.bytes c.args.rest.now.start c.args.lines.items _ _ c.in_ok-push-in-Some.ensures.items c.requires.0.1 (c.requires.1 refl) (c.piece_from.ensures.rest o) in
    ((c.requires.0.0, t.0), λ _. t.1)
