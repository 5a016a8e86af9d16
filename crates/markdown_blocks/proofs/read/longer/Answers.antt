use Rattle.std.proofs.Common.{ap, List}
use Rattle.markdown_content.specs.Codes.{Code}
use Rattle.markdown_block_model.specs.BlockTree.{paragraph}
use Rattle.markdown_blocks.proofs.TextPieces.{text-more, trimmed-is}
use Rattle.markdown_blocks.proofs.PlacedTexts.{opened-more}
use Rattle.markdown_blocks.proofs.read.longer.Goals as goal

pub returns-in_ok-push-in-Paragraph-clause-leaf : goal.returns-in_ok-push-in-Paragraph-clause-leaf
returns-in_ok-push-in-Paragraph-clause-leaf c =
    rw c.in-Paragraph.is (ap (λ (cs : List Code). paragraph cs) (text-more c.args.rest.now.bytes _ _ _ _ c.in_ok-push-in-Paragraph.ensures.items (trimmed-is c.args.rest.now.codes _ c.trimmed_piece.ensures.codes)))

pub returns-in_ok-push-in-Paragraph-clause-text : goal.returns-in_ok-push-in-Paragraph-clause-text
returns-in_ok-push-in-Paragraph-clause-text c =
    opened-more c.args.rest.now.bytes c.args.rest.now.start _ _ _ c.in_ok-push-in-Paragraph.ensures.items (rw c.in-Paragraph.is at c.requires.text) (c.trimmed_piece.ensures.line c.requires.filled)
