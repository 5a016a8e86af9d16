use Rattle.std.proofs.Common.{◌≡◌, ◌<◌, ◌+◌, ◌-◌, ◌*◌, ◌++◌, length, false}
use Rattle.markdown_block_definitions.specs.TextCopies.{IsSpot, is_spot_before, spot_place, codes_left}
use Rattle.markdown_page_model.specs.PageTexts.{text_of}
use Rattle.markdown_page.specs.CodeLines.{text_as, before_ending, from_ending}
use Rattle.markdown_page.proofs.lines.push_columns.Given as goal

abbrev pub invariant-loop-spot : goal.invariant-loop-spot
invariant-loop-spot l = record {
  stands : IsSpot l.bytes l.spot;
  started : l.spot.index < length l.bytes → is_spot_before l.spot l.piece.start ≡ false;
  text : l.out.items ++ text_as l.raw (text_of (before_ending (codes_left l.bytes l.piece (spot_place l.spot))))
      ≡ l.initial.out.items ++ text_as l.raw (text_of (before_ending (codes_left l.bytes l.piece (spot_place l.fn.from))));
  ending : from_ending (codes_left l.bytes l.piece (spot_place l.spot)) ≡ from_ending (codes_left l.bytes l.piece (spot_place l.fn.from));
}

abbrev pub decreases-loop-spot : goal.decreases-loop-spot
decreases-loop-spot l = 4 * length l.bytes - (4 * l.spot.index + l.spot.vs)
