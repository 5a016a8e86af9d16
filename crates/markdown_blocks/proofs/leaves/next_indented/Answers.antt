use Rattle.std.proofs.Common.{◌≤◌, length, []}
use Rattle.markdown_blocks.proofs.LinePieces.{rest-len}
use Rattle.markdown_blocks.proofs.OuterCodes.{outside-further}
use Rattle.markdown_blocks.proofs.PlacedTexts.{further-line}
use Rattle.markdown_blocks.proofs.leaves.next_indented.Goals as goal

pub piece_from-requires : goal.piece_from-requires
piece_from-requires c = rw (rest-len _ _ c.values.ensures) c.in-Some.ensures.within

pub returns-in_ok-push-in-Some-clause-text : goal.returns-in_ok-push-in-Some-clause-text
returns-in_ok-push-in-Some-clause-text c =
    let codes = c.args.rest.now.codes in
    let w : c.in-Some.outside ≤ length codes = rw (rest-len _ _ c.values.ensures) c.in-Some.ensures.within in
    let o = outside-further codes c.in-Some.outside w (c.in-Some.ensures.next codes [] c.values.ensures) in
    further-line c.args.rest.now.bytes c.args.rest.now.start c.args.lines.items _ _ c.in_ok-push-in-Some.ensures.items c.requires.0 c.requires.1 (c.piece_from.ensures.rest o)
