use Rattle.std.proofs.Common.{arith}
use Rattle.markdown_content.proofs.NextPlace.{point_fits, next_ending, next_inside, next_byte, next_is_point, ending_byte, other_byte}
use Rattle.markdown_content.proofs.walk.past_code.Goals as goal

pub overflow_add-result : goal.overflow_add-result
overflow_add-result c = grind (arith, point_fits)

pub overflow_add-result-then-point-ne0 : goal.overflow_add-result-then-point-ne0
overflow_add-result-then-point-ne0 c = grind (arith, point_fits)

pub overflow_add-result-then-point-ne0-2 : goal.overflow_add-result-then-point-ne0-2
overflow_add-result-then-point-ne0-2 c = grind (arith, point_fits)

pub overflow_add-result-else-byte-eq9 : goal.overflow_add-result-else-byte-eq9
overflow_add-result-else-byte-eq9 c = grind (arith, point_fits)

pub returns-then-byte-eq13-clause-next : goal.returns-then-byte-eq13-clause-next
returns-then-byte-eq13-clause-next c = grind (arith, next_ending, ending_byte)

pub returns-then-byte-eq13-clause-is_point : goal.returns-then-byte-eq13-clause-is_point
returns-then-byte-eq13-clause-is_point c =
    next_is_point c.args.bytes.now c.args.point _ c.requires.is_point c.requires.begins (returns-then-byte-eq13-clause-next c)

pub returns-then-point-ne0-clause-next : goal.returns-then-point-ne0-clause-next
returns-then-point-ne0-clause-next c =
    next_inside c.args.bytes.now c.args.point c.requires.is_point c.requires.begins c.if-byte-eq9.true c.if-point-ne0.true

pub returns-then-point-ne0-clause-is_point : goal.returns-then-point-ne0-clause-is_point
returns-then-point-ne0-clause-is_point c =
    next_is_point c.args.bytes.now c.args.point _ c.requires.is_point c.requires.begins (returns-then-point-ne0-clause-next c)

pub returns-else-byte-eq9-clause-next : goal.returns-else-byte-eq9-clause-next
returns-else-byte-eq9-clause-next c = grind (arith, other_byte, next_byte)

pub returns-else-byte-eq9-clause-is_point : goal.returns-else-byte-eq9-clause-is_point
returns-else-byte-eq9-clause-is_point c =
    next_is_point c.args.bytes.now c.args.point _ c.requires.is_point c.requires.begins (returns-else-byte-eq9-clause-next c)
