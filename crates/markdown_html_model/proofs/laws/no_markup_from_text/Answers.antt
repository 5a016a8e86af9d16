use Rattle.markdown_html_model.proofs.HtmlIsOwn.{html-is-own}
use Rattle.markdown_html_model.proofs.laws.no_markup_from_text.Goals as goal

pub returns : goal.returns
returns c = λ p before t off. html-is-own p before t off
