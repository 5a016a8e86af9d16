use Rattle.std.proofs.Common.{arith}
use Rattle.markdown_run_text.proofs.PassedData.{part-stops, part-goes}
use Rattle.markdown_run_text.proofs.readers.partial_data.pass_part.Goals as goal

pub returns-then-not-is_at_any_sign-clause-past : goal.returns-then-not-is_at_any_sign-clause-past
returns-then-not-is_at_any_sign-clause-past c = grind (arith, part-stops, c.consume_stretch.ensures, c.markers_and_signs.ensures, c.is_at_any_sign.ensures, c.if-not-is_at_any_sign.true)

pub returns-then-not-is_at_any_sign-clause-stops : goal.returns-then-not-is_at_any_sign-clause-stops
returns-then-not-is_at_any_sign-clause-stops c = grind (arith, part-stops c.args.cursor.now c.consume_stretch.new.self, c.consume_stretch.ensures, c.markers_and_signs.ensures, c.is_at_any_sign.ensures, c.if-not-is_at_any_sign.true)

pub returns-clause-past : goal.returns-clause-past
returns-clause-past c = grind (arith, part-goes, c.consume_stretch.ensures, c.markers_and_signs.ensures, c.is_at_any_sign.ensures, c.if-not-is_at_any_sign.false, c.is_at_sign.ensures, c.if-is_at_sign.false, c.consume.ensures)

pub returns-clause-on : goal.returns-clause-on
returns-clause-on c = grind (arith, part-goes c.args.cursor.now c.consume_stretch.new.self c.consume.new.self, c.consume_stretch.ensures, c.markers_and_signs.ensures, c.is_at_any_sign.ensures, c.if-not-is_at_any_sign.false, c.is_at_sign.ensures, c.if-is_at_sign.false, c.consume.ensures)
