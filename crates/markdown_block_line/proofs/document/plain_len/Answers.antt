use Rattle.std.proofs.Common.{◌-◌, length, arith}
use Rattle.std.proofs.Math.Nat.{min-le_right}
use Rattle.markdown_content.proofs.DocumentPlaces.{stands-point}
use Rattle.markdown_block_line.proofs.document.plain_len.Goals as goal

pub overflow_sub-bytes : goal.overflow_sub-bytes
overflow_sub-bytes c = (stands-point c.args.bytes.now c.args.start c.requires).in_bytes

pub plain_end-requires-clause-within : goal.plain_end-requires-clause-within
plain_end-requires-clause-within c =
    let before = (stands-point c.args.bytes.now c.args.start c.requires).in_bytes in
    omega (arith, before, c.min-most.ensures, min-le_right c.args.most (length c.args.bytes.now - c.args.start.index))

pub returns-clause-inside : goal.returns-clause-inside
returns-clause-inside c =
    let before = (stands-point c.args.bytes.now c.args.start c.requires).in_bytes in
    omega (arith, before, c.min-most.ensures, c.plain_end.ensures.to, c.plain_end.ensures.from, min-le_right c.args.most (length c.args.bytes.now - c.args.start.index))
