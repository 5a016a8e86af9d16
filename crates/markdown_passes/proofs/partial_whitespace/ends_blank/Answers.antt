use Rattle.std.proofs.Common.{◌∙◌, sym, arith}
use Rattle.markdown_passes.proofs.FirstAndLastCode.{ends-none, ends-inside, ends-byte, end-within}
use Rattle.markdown_passes.proofs.partial_whitespace.ends_blank.Goals as goal

pub returns-then-is_same_place : goal.returns-then-is_same_place
returns-then-is_same_place c =
    sym (ends-none c.args.bytes.now c.args.from c.args.to c.requires.stretch (sym c.is_same_place.ensures ∙ c.if-is_same_place.true))

pub bounds-bytes-to : goal.bounds-bytes-to
bounds-bytes-to c =
    let w = end-within c.args.bytes.now c.args.from c.args.to c.requires.stretch (sym c.is_same_place.ensures ∙ c.if-is_same_place.false) (omega (arith, c.if-to-gt0.false)) in
    omega (arith, w.0, w.1)

pub returns-then-to-gt0 : goal.returns-then-to-gt0
returns-then-to-gt0 c =
    ends-inside c.args.bytes.now c.args.from c.args.to c.requires.stretch (sym c.is_same_place.ensures ∙ c.if-is_same_place.false) (omega (arith, c.if-to-gt0.true))

pub returns-else-to-gt0 : goal.returns-else-to-gt0
returns-else-to-gt0 c =
    c.is_blank_byte.ensures ∙ ends-byte c.args.bytes.now c.args.from c.args.to c.requires.stretch (sym c.is_same_place.ensures ∙ c.if-is_same_place.false) (omega (arith, c.if-to-gt0.false))
