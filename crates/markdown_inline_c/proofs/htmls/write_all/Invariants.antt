use Rattle.markdown_inline_c.specs.FlatHtmls.{tree_at}
use Rattle.markdown_inline_c.specs.HtmlsState.{page_of, setting}
use Rattle.markdown_inline_c.proofs.WrittenContents.{AreWritten}
use Rattle.markdown_inline_c.proofs.htmls.write_all.Given as goal

abbrev pub invariant-loop-at : goal.invariant-loop-at
invariant-loop-at l =
    let pieces = l.given.contents.pieces.now in
    AreWritten (page_of l.given) pieces (tree_at (setting l.given) pieces) l.fn.limit l.contents l.initial.html l.html l.initial.ends l.ends l.outcome l.carried.calls l.carried.left l.at
