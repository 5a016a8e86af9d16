use Rattle.std.proofs.Common.{rules, ◌∙◌, ap, sym, arith}
use Rattle.markdown_content.specs.Place.{moved}
use Rattle.markdown_content.proofs.CursorSteps.{at_some, moved_is}
use Rattle.markdown_content.proofs.NextPlace.{point_fits}
use Rattle.markdown_content.proofs.PlainByteLemmas.{plain_next}
use Rattle.markdown_content.proofs.cursor.Cursor.pass_ordinary.Goals as goal

pub bounds-self-inside-index : goal.bounds-self-inside-index
bounds-self-inside-index c = (at_some c.args.self.now c.self.invariant.0 c.self.view_is c.requires).in_bytes

pub offset_bounds-self-inside-self-inside : goal.offset_bounds-self-inside-self-inside
offset_bounds-self-inside-self-inside c =
    search (rules, (at_some c.args.self.now c.self.invariant.0 c.self.view_is c.requires).in_pieces)

pub bounds-self-inside-self-inside : goal.bounds-self-inside-self-inside
bounds-self-inside-self-inside c = (at_some c.args.self.now c.self.invariant.0 c.self.view_is c.requires).in_pieces

pub overflow_add-point : goal.overflow_add-point
overflow_add-point c = grind (arith, point_fits)

pub overflow_add-self : goal.overflow_add-self
overflow_add-self c = omega (arith, (at_some c.args.self.now c.self.invariant.0 c.self.view_is c.requires).count)

pub invariant_of-self : goal.invariant_of-self
invariant_of-self c =
    (plain_next c.self.invariant.0 (record { start = (0, 0); end = (0, 0) }) (at_some c.args.self.now c.self.invariant.0 c.self.view_is c.requires).in_pieces c.if-index-self.true c.if-byte-gt13.true, c.self.invariant.1)

pub returns-then-index-self-clause-passed : goal.returns-then-index-self-clause-passed
returns-then-index-self-clause-passed c =
    λ _. sym (ap moved (sym c.self.view_is) ∙ moved_is c.self.inside.bytes.now c.self.inside.pieces.now c.self.inside.passed)
