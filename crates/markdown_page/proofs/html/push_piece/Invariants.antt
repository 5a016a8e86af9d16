use Rattle.std.proofs.Common.{◌≡◌, ◌<◌, ◌+◌, ◌-◌, ◌*◌, ◌++◌, List, length, false}
use Rattle.markdown_content.specs.Codes.{Code, codes_of}
use Rattle.markdown_content.specs.Content.{piece_codes}
use Rattle.markdown_block_definitions.specs.TextCopies.{IsSpot, is_spot_before, spot_place, codes_left}
use Rattle.markdown_page.specs.GivenPage.{page_of, bytes_of}
use Rattle.markdown_page.specs.LinesByCode.{lines_from}
use Rattle.markdown_page.proofs.html.push_piece.Given as goal

abbrev pub invariant-loop-spot : goal.invariant-loop-spot
invariant-loop-spot l = record {
  stands : IsSpot l.bytes l.spot;
  started : l.spot.index < length l.bytes → is_spot_before l.spot l.piece.start ≡ false;
  text : (cs : List Code) → l.out.items ++ lines_from (page_of l.given) l.given.options.raw_html l.line (codes_left l.bytes l.piece (spot_place l.spot) ++ cs)
      ≡ l.initial.out.items ++ lines_from (page_of l.given) l.given.options.raw_html l.fn.line (piece_codes (codes_of (bytes_of l.given)) l.piece ++ cs);
}

abbrev pub decreases-loop-spot : goal.decreases-loop-spot
decreases-loop-spot l = 4 * length l.bytes - (4 * l.spot.index + l.spot.vs)
