use Rattle.markdown_html_model.proofs.HtmlIsOwn.{html-is-safe}
use Rattle.markdown_html_model.proofs.laws.no_script_from_links.Goals as goal

pub returns : goal.returns
returns c = λ p before t off safe. html-is-safe p before t off safe
