use Rattle.std.proofs.Common.{◌∙◌, ap, sym}
use Rattle.markdown_content.specs.Place.{code_at}
use Rattle.markdown_content.proofs.CursorSteps.{at_code, cursor_end}
use Rattle.markdown_content.proofs.cursor.Cursor.current.Goals as goal

pub code_from-requires-clause-begins : goal.code_from-requires-clause-begins
code_from-requires-clause-begins c =
    (at_code c.self.invariant.0 (sym c.stands_before_end.ensures ∙ c.if-stands_before_end.true)).in_bytes

pub returns-then-stands_before_end : goal.returns-then-stands_before_end
returns-then-stands_before_end c =
    sym c.code_from.ensures ∙ (at_code c.self.invariant.0 (sym c.stands_before_end.ensures ∙ c.if-stands_before_end.true)).value ∙ ap code_at c.self.view_is

pub returns-else-stands_before_end : goal.returns-else-stands_before_end
returns-else-stands_before_end c =
    cursor_end c.self.invariant.0 (sym c.stands_before_end.ensures ∙ c.if-stands_before_end.false) ∙ ap code_at c.self.view_is
