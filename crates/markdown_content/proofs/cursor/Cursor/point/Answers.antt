use Rattle.std.proofs.Common.{◌∙◌, ap}
use Rattle.markdown_content.specs.Place.{point_of}
use Rattle.markdown_content.proofs.CursorSteps.{cursor_point}
use Rattle.markdown_content.proofs.cursor.Cursor.point.Goals as goal

pub returns : goal.returns
returns c = cursor_point c.self.invariant.0 ∙ ap point_of c.self.view_is
