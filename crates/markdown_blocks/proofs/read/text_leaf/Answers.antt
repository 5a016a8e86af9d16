use Rattle.std.proofs.Common.{ap, List}
use Rattle.markdown_content.specs.Codes.{Code}
use Rattle.markdown_block_model.specs.BlockTree.{paragraph}
use Rattle.markdown_blocks.proofs.TextPieces.{one-text, trimmed-is}
use Rattle.markdown_blocks.proofs.PlacedTexts.{opened-one}
use Rattle.markdown_blocks.proofs.read.text_leaf.Goals as goal

pub returns-clause-leaf : goal.returns-clause-leaf
returns-clause-leaf c =
    ap (λ (cs : List Code). paragraph cs) (one-text c.args.rest.now.bytes _ _ _ c.in_ok-text.ensures (trimmed-is c.args.rest.now.codes _ c.trimmed_piece.ensures.codes))

pub returns-clause-text : goal.returns-clause-text
returns-clause-text c = opened-one c.args.rest.now.bytes c.args.rest.now.start _ _ c.in_ok-text.ensures (c.trimmed_piece.ensures.line c.requires)
