use Rattle.std.proofs.Common.{◌≡◌, ◌+◌, ◌-◌, ◌≤◌, ◌<◌, length, map}
use Rattle.markdown_content.specs.Codes.{codes_of, place_of}
use Rattle.markdown_content.specs.Content.{piece_codes}
use Rattle.markdown_content.specs.DocumentWalk.{IsPoint, codes_after}
use Rattle.markdown_block_model.specs.LineRests.{lines_of}
use Rattle.markdown_block_model.specs.FrontMatter.{matter_before}
use Rattle.markdown_blocks.specs.TextRows.{StandsBetween, AreLinePieces, LinesEnd}
use Rattle.markdown_blocks.proofs.MatterLemmas.{onto_lines}
use Rattle.markdown_blocks.proofs.matter.lines_before.Given as goal

abbrev pub invariant-loop-point : goal.invariant-loop-point
invariant-loop-point l = record {
  is_point : IsPoint l.bytes l.point;
  between : StandsBetween l.bytes l.point;
  placed : AreLinePieces l.bytes l.lines.items;
  ends : l.point.index < length l.bytes → LinesEnd l.bytes l.point l.lines.items;
  counted : l.initial.point.index + length l.lines.items ≤ l.point.index;
  same : matter_before l.marker (lines_of (codes_after l.bytes (place_of l.initial.point))) ≡ onto_lines (map (piece_codes (codes_of l.bytes)) l.lines.items) (matter_before l.marker (lines_of (codes_after l.bytes (place_of l.point))));
}

abbrev pub decreases-loop-point : goal.decreases-loop-point
decreases-loop-point l = length l.bytes - l.point.index
