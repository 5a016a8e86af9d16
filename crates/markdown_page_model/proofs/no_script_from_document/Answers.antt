use Rattle.markdown_page_model.proofs.PageIsOwn.{document-is-safe}
use Rattle.markdown_page_model.proofs.no_script_from_document.Goals as goal

pub returns : goal.returns
returns c = λ reading extensions options bytes off safe. document-is-safe reading extensions options bytes off safe
