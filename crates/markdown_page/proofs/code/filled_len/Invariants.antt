use Rattle.std.proofs.Common.{◌≡◌, ◌≤◌, length, take}
use Rattle.markdown_page_model.specs.PageTexts.{filled}
use Rattle.markdown_page.specs.CodeLines.{lines_in}
use Rattle.markdown_page.proofs.code.filled_len.Given as goal

abbrev pub invariant-loop-len : goal.invariant-loop-len
invariant-loop-len l = record {
  within : l.len ≤ length l.lines;
  left : filled (lines_in l.bytes (take l.len l.lines)) ≡ filled (lines_in l.bytes l.lines);
}

abbrev pub decreases-loop-len : goal.decreases-loop-len
decreases-loop-len l = l.len
