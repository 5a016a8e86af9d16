use Rattle.std.proofs.Common.{◌≡◌, ◌∙◌, ◌++◌, ap, sym, List, ℕ}
use Rattle.std.proofs.lemmas.List.{drop_all}
use Rattle.std.proofs.lemmas.Result.{on_ok_weaker}
use Rattle.markdown_content.specs.Content.{content_of}
use Rattle.markdown_content.specs.declared.parser.Piece.{Piece}
use Rattle.markdown_page.specs.GivenPage.{page_of, bytes_of}
use Rattle.markdown_page.specs.LinesByCode.{lines_from}
use Rattle.markdown_page.specs.PlacedTree.{line_start}
use Rattle.markdown_page.proofs.HtmlCodes.{lines-by-code}
use Rattle.markdown_page.proofs.html.push_html.Goals as goal

pub returns : goal.returns
returns c =
    let g = c.args.given.now in
    let l = c.loop-piece in
    on_ok_weaker c.push_line_start.result
    (λ (e : c.push_line_start.new.out.items ≡ l.out.items ++ line_start (page_of g) l.line.has_begun).
    e ∙ ap (λ (ps : List Piece). l.out.items ++ lines_from (page_of g) g.options.raw_html l.line (content_of (bytes_of g) ps)) (sym (drop_all l.piece-index c.args.text.now c.loop-piece-test.false))
    ∙ l.invariant ∙ ap (λ (xs : List ℕ). c.args.out.now.items ++ xs) (lines-by-code (page_of g) g.options.raw_html (content_of (bytes_of g) c.args.text.now)))
    c.push_line_start.ensures
