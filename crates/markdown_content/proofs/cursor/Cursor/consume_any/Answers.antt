use Rattle.std.proofs.Common.{◌∙◌, ap, sym, arith, subst}
use Rattle.markdown_event.specs.declared.event.Point.{Point}
use Rattle.markdown_content.specs.Place.{moved}
use Rattle.markdown_content.specs.DocumentWalk.{IsPoint}
use Rattle.markdown_content.proofs.CursorSteps.{at_some, cursor_next, moved_is}
use Rattle.markdown_content.proofs.cursor.Cursor.consume_any.Goals as goal

pub code_from-previous-requires-clause-begins : goal.code_from-previous-requires-clause-begins
code_from-previous-requires-clause-begins c =
    (at_some c.args.self.now c.self.invariant.0 c.self.view_is c.requires).in_bytes

pub past_code-exit-requires-clause-begins : goal.past_code-exit-requires-clause-begins
past_code-exit-requires-clause-begins c = (at_some c.args.self.now c.self.invariant.0 c.self.view_is c.requires).in_bytes

pub follow-piece-requires-clause-is_point : goal.follow-piece-requires-clause-is_point
follow-piece-requires-clause-is_point c =
    subst (λ (x : Point). IsPoint c.self.inside.bytes.now x) (sym c.past_code-exit.ensures.next) (at_some c.args.self.now c.self.invariant.0 c.self.view_is c.requires).stop

pub follow-piece-requires-clause-piece : goal.follow-piece-requires-clause-piece
follow-piece-requires-clause-piece c = (at_some c.args.self.now c.self.invariant.0 c.self.view_is c.requires).in_pieces

pub overflow_add-self : goal.overflow_add-self
overflow_add-self c = omega (arith, (at_some c.args.self.now c.self.invariant.0 c.self.view_is c.requires).count)

pub invariant_of-self : goal.invariant_of-self
invariant_of-self c =
    (cursor_next c.args.self.now c.follow-piece.result.0 c.code_from-previous.result c.follow-piece.result.1 c.past_code-exit.result c.self.invariant.0 c.self.view_is c.requires c.code_from-previous.ensures c.past_code-exit.ensures.next c.follow-piece.ensures, c.self.invariant.1)

pub returns : goal.returns
returns c = sym (ap moved (sym c.self.view_is) ∙ moved_is c.self.inside.bytes.now c.self.inside.pieces.now c.self.inside.passed)
