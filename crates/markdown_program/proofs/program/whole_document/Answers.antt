use Rattle.markdown_program.proofs.WholeDocument.{whole-content}
use Rattle.markdown_program.proofs.program.whole_document.Goals as goal

pub returns-clause-content : goal.returns-clause-content
returns-clause-content c = whole-content c.args.bytes.now c.requires.text c.requires.fits
