use Rattle.std.proofs.Common.{◌∙◌, arith}
use Rattle.markdown_page.proofs.WriterSteps.{tight-last}
use Rattle.markdown_page.proofs.write.Writer.is_tight.Goals as goal

pub returns-in-Some : goal.returns-in-Some
returns-in-Some c =
    let h = rw c.deref.ensures.value at c.in-Some.ensures.item in
    c.is_tight_in.ensures ∙ tight-last c.args.self.now.opened.items c.in-Some.last.now (omega (arith, h.3.0)) h.1
