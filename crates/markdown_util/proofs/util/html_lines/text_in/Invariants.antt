use Rattle.std.proofs.Common.{length}
use Rattle.std.specs.Str.{IsUtf8}
use Rattle.markdown_util.specs.Reference.{html_rows}
use Rattle.markdown_util.proofs.HalvedText.{IsLeft}
use Rattle.markdown_util.proofs.util.html_lines.text_in.Given as goal

-- the lines that are left are a text, and say of the name what all do
abbrev pub invariant-loop-line : goal.invariant-loop-line
invariant-loop-line l = record {
  utf8 : IsUtf8 l.lines;
  left : IsLeft html_rows l.name l.lines;
}

abbrev pub decreases-loop-line : goal.decreases-loop-line
decreases-loop-line l = length l.lines
