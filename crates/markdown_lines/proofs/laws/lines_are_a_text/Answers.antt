use Rattle.markdown_lines.proofs.LinesAreText.{lines_are_a_text}
use Rattle.markdown_lines.proofs.laws.lines_are_a_text.Goals as goal

pub returns : goal.returns
returns c = lines_are_a_text
