use Rattle.markdown_page_model.proofs.PageIsOwn.{document-is-own}
use Rattle.markdown_page_model.proofs.no_markup_from_document.Goals as goal

pub returns : goal.returns
returns c = λ reading extensions options bytes off. document-is-own reading extensions options bytes off
