use Rattle.markdown_page.specs.GivenPage.{setting_of, page_of, bytes_of}
use Rattle.markdown_page.specs.WriterStates.{IsReached}
use Rattle.markdown_page.proofs.write.write.Given as goal

abbrev pub invariant-loop-index : goal.invariant-loop-index
invariant-loop-index l = IsReached (setting_of l.given) (page_of l.given) l.fn.limit (bytes_of l.given) l.rows l.places l.writer l.index
