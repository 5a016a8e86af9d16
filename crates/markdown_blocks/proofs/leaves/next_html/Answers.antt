use Rattle.std.proofs.Common.{refl, arith}
use Rattle.markdown_blocks.proofs.PlacedTexts.{further-line, next-filled}
use Rattle.markdown_blocks.proofs.leaves.next_html.Goals as goal

pub returns-in_ok-push-in-Some-clause-text : goal.returns-in_ok-push-in-Some-clause-text
returns-in_ok-push-in-Some-clause-text c =
    let bytes = c.args.rest.now.bytes in
    let ps = c.args.text.items in
    let more = further-line bytes c.args.rest.now.start ps _ _ c.in_ok-push-in-Some.ensures.items c.requires.0.0 c.requires.1 (c.piece_from-piece.ensures.rest refl) in
    ((more.0, next-filled bytes ps _ _ _ c.in_ok-push-in-Some.ensures.items c.requires.0.1 c.piece_from-piece.ensures.codes (omega arith)), more.1)
