use Rattle.std.proofs.Common.{◌∙◌, sym, ap}
use Rattle.markdown_content.specs.Place.{code_before, point_of}
use Rattle.markdown_content.proofs.CursorSteps.{cursor_point}
use Rattle.markdown_content.proofs.cursor.Cursor.exit_point.Goals as goal

pub returns-clause-within_line : goal.returns-clause-within_line
returns-clause-within_line c =
    λ other. c.self.invariant.0.within_line (λ f. other (sym (ap code_before c.self.view_is) ∙ sym c.self.invariant.0.before ∙ f)) ∙ cursor_point c.self.invariant.0 ∙ ap point_of c.self.view_is
