use Rattle.std.proofs.Common.{◌≡◌, ◌++◌, take}
use Rattle.markdown_page_model.specs.PageTexts.{lines_html}
use Rattle.markdown_page.specs.CodeLines.{text_as, lines_in}
use Rattle.markdown_page.specs.GivenPage.{bytes_of, page_of}
use Rattle.markdown_page.proofs.lines.push_lines.Given as goal

abbrev pub invariant-loop-line : goal.invariant-loop-line
invariant-loop-line l = l.out.items ≡ l.initial.out.items ++ lines_html (page_of l.given) (text_as l.raw) (lines_in (bytes_of l.given) (take l.line-index l.lines))
