use Rattle.markdown_html_model.proofs.NoMarkup.{addressed_quiet}
use Rattle.markdown_html_model.proofs.laws.no_markup_in_addresses.Goals as goal

pub returns : goal.returns
returns c = λ address. addressed_quiet address
