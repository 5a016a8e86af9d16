use Rattle.std.proofs.Common.{◌≡◌, ◌<◌, length, arith, ◌∙◌, sym, ap, true}
use Rattle.markdown_block_model.specs.LineRests.{indent}
use Rattle.markdown_block_model.specs.TextStarts.{lines_begin}
use Rattle.markdown_block_model.proofs.TextsAreContents.{filled-starts}
use Rattle.markdown_block_line.proofs.RestValues.{trimmed-drop}
use Rattle.markdown_blocks.proofs.LinePieces.{rest-len}
use Rattle.markdown_blocks.proofs.OuterCodes.{outside-trimmed, filled-indent}
use Rattle.markdown_blocks.proofs.rest.Rest.trimmed_piece.Goals as goal

pub piece_from-requires : goal.piece_from-requires
piece_from-requires c = rw (rest-len _ _ c.values.ensures) c.indent.ensures.within

pub returns-clause-line : goal.returns-clause-line
returns-clause-line c = λ h.
    let codes = c.args.self.now.codes in
    let e : c.indent.result ≡ indent codes = c.indent.ensures.count codes c.values.ensures in
    let k : indent codes < length codes = filled-indent codes h in
    c.piece_from.ensures.line (rw e (outside-trimmed codes (omega (arith, k)))) (omega (arith, e, k)) (rw e (ap (lines_begin true) (sym (trimmed-drop codes)) ∙ filled-starts codes c.piece_from.ensures.is_line h))
