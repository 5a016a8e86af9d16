use Rattle.markdown_page_model.proofs.TextBytes.{texts-are-bytes}
use Rattle.markdown_page_model.proofs.texts_are_bytes.Goals as goal

pub returns : goal.returns
returns c = λ before p bytes e h. texts-are-bytes before p bytes e h
