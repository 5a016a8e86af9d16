use Rattle.markdown_html_model.proofs.NoMarkup.{escaped_quiet}
use Rattle.markdown_html_model.proofs.laws.no_markup_in_text.Goals as goal

pub returns : goal.returns
returns c = λ text. escaped_quiet text
