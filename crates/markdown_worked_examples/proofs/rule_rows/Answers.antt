use Rattle.std.proofs.Common.{refl}
use Rattle.markdown_worked_examples.proofs.HtmlComputed.{html_computed}
use Rattle.markdown_worked_examples.proofs.rule_rows.Goals as goal

-- Both sides of each example compute to one list.
pub returns : goal.returns
unfolding html_computed
returns c = (refl, refl, refl, refl, refl, refl, refl, refl, refl, refl, refl, refl, refl, refl, refl, refl, refl, refl, refl, refl, refl, refl, refl, refl, refl, refl, refl, refl, refl, refl, refl, refl, refl, refl, refl, refl, refl, refl, refl, refl, refl, refl, refl, refl, refl, refl, refl, refl, refl, refl, refl, refl, refl)
