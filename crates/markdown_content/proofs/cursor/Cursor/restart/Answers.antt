use Rattle.std.proofs.Common.{◌∙◌, ap}
use Rattle.markdown_content.specs.Place.{Place, start_of_content}
use Rattle.markdown_content.proofs.CursorSteps.{first_known}
use Rattle.markdown_content.proofs.cursor.Cursor.restart.Goals as goal

pub starting_at-requires-clause-first : goal.starting_at-requires-clause-first
starting_at-requires-clause-first c =
    first_known c.self.inside.bytes.now c.self.inside.pieces.now c.self.inside.first_line c.self.inside.first_column c.start_of-index.result c.self.invariant.0.standing.content c.self.invariant.1 c.start_of-index.ensures

pub returns : goal.returns
unfolding start_of_content
returns c = c.starting_at.ensures ∙ ap (λ (p : Place). record p { at = 0 }) c.self.view_is
