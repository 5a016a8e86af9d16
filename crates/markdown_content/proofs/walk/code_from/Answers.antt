use Rattle.std.proofs.Common.{get_or, arith, inl}
use Rattle.markdown_content.proofs.NextPlace.{value_ending, value_byte, value_control, ending_byte, other_byte}
use Rattle.markdown_content.proofs.walk.code_from.Goals as goal

pub returns-then-byte-gt13 : goal.returns-then-byte-gt13
returns-then-byte-gt13 c = grind (arith, value_byte, other_byte)

pub returns-then-byte-eq10 : goal.returns-then-byte-eq10
returns-then-byte-eq10 c =
    value_ending c.args.bytes.now c.args.point c.requires.is_point c.requires.begins (ending_byte (get_or c.args.bytes.now c.args.point.index 0) (inl c.if-byte-eq10.true))

pub returns : goal.returns
returns c =
    value_control c.args.bytes.now c.args.point c.control_from.result c.requires.is_point c.requires.begins
    c.control_from.ensures.ending c.control_from.ensures.space c.control_from.ensures.same
