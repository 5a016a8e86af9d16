use Rattle.std.proofs.Common.{◌≡◌, ◌<◌, ◌+◌, ◌-◌, ◌*◌, ◌++◌, length, false}
use Rattle.markdown_content.specs.Codes.{codes_of}
use Rattle.markdown_content.specs.Content.{piece_codes}
use Rattle.markdown_block_definitions.specs.TextCopies.{IsSpot, is_spot_before, spot_place, codes_left}
use Rattle.markdown_page_model.specs.PageTexts.{text_of}
use Rattle.markdown_page.specs.CodeLines.{text_behind}
use Rattle.markdown_page.proofs.lines.push_piece_text.Given as goal

abbrev pub invariant-loop-spot : goal.invariant-loop-spot
invariant-loop-spot l = record {
  stands : IsSpot l.bytes l.spot;
  started : l.spot.index < length l.bytes → is_spot_before l.spot l.piece.start ≡ false;
  text : l.out.items ++ text_behind l.leading (codes_left l.bytes l.piece (spot_place l.spot)) ≡ l.initial.out.items ++ text_of (piece_codes (codes_of l.bytes) l.piece);
}

abbrev pub decreases-loop-spot : goal.decreases-loop-spot
decreases-loop-spot l = 4 * length l.bytes - (4 * l.spot.index + l.spot.vs)
