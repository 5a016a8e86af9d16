use Rattle.std.proofs.Common.{◌≡◌, ◌∙◌, sym, ap, []}
use Rattle.markdown_content.specs.Codes.{place_of}
use Rattle.markdown_content.specs.DocumentWalk.{codes_after}
use Rattle.markdown_content.proofs.DocumentPlaces.{codes-point, stands-point}
use Rattle.markdown_content.proofs.DocumentWalkLemmas.{past-end}
use Rattle.markdown_block_model.specs.LineRests.{lines_of}
use Rattle.markdown_block_model.specs.FrontMatter.{matter_at}
use Rattle.markdown_blocks.proofs.PlacedPieces.{line-between}
use Rattle.markdown_blocks.proofs.matter.matter_at.Goals as goal

pub returns-then-start-bytes : goal.returns-then-start-bytes
returns-then-start-bytes c =
    let bytes = c.args.bytes.now in
    let none : codes_after bytes (place_of c.args.start) ≡ [] = sym (codes-point bytes c.args.start c.requires.is_point) ∙ past-end bytes c.args.start (stands-point bytes c.args.start c.requires.is_point) c.if-start-bytes.true in
    ap (λ cs. matter_at (lines_of cs)) none

pub lines_before-requires-clause-between : goal.lines_before-requires-clause-between
lines_before-requires-clause-between c = line-between c.args.bytes.now c.args.start c.in_ok-line.line.stop c.requires.is_point c.in_ok-line.ensures.line
