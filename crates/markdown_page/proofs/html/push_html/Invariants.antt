use Rattle.std.proofs.Common.{◌≡◌, ◌++◌, drop, true, false}
use Rattle.markdown_content.specs.Content.{content_of}
use Rattle.markdown_page.specs.GivenPage.{page_of, bytes_of}
use Rattle.markdown_page.specs.LinesByCode.{lines_from}
use Rattle.markdown_page.proofs.html.push_html.Given as goal

abbrev pub invariant-loop-piece : goal.invariant-loop-piece
invariant-loop-piece l =
    l.out.items ++ lines_from (page_of l.given) l.given.options.raw_html l.line (content_of (bytes_of l.given) (drop l.piece-index l.text))
    ≡ l.initial.out.items ++ lines_from (page_of l.given) l.given.options.raw_html (record { has_begun = false; is_leading = true }) (content_of (bytes_of l.given) l.text)
