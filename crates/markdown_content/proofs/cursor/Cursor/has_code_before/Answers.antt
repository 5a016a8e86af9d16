use Rattle.std.proofs.Common.{◌∙◌, ap}
use Rattle.markdown_content.specs.Beside.{has_code_before}
use Rattle.markdown_content.specs.Place.{Place, start_of_content}
use Rattle.markdown_content.proofs.cursor.Cursor.has_code_before.Goals as goal

pub returns : goal.returns
unfolding start_of_content
returns c = c.have_code_before.ensures ∙ ap (λ (p : Place). has_code_before p.codes c.args.index) c.self.view_is
