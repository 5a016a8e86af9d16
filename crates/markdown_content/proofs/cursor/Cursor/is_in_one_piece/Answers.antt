use Rattle.std.proofs.Common.{◌∙◌, sym, ap}
use Rattle.markdown_content.specs.ContentBytes.{bytes_within}
use Rattle.markdown_content.specs.Place.{Place, start_of_content}
use Rattle.markdown_content.proofs.cursor.Cursor.is_in_one_piece.Goals as goal

pub returns : goal.returns
unfolding start_of_content
returns c = λ some text. sym (ap (λ (p : Place). bytes_within text c.args.from c.args.to p.codes) c.self.view_is) ∙ c.is_in_one_piece.ensures some text
