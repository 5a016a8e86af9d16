use Rattle.std.proofs.Common.{◌∙◌, sym, ap, not}
use Rattle.markdown_passes.proofs.FirstAndLastCode.{starts-is, starts-none}
use Rattle.markdown_passes.proofs.TrimWalks.{begun-where}
use Rattle.markdown_passes.proofs.partial_whitespace.starts_blank.Goals as goal

pub is_blank-requires-clause-begins : goal.is_blank-requires-clause-begins
is_blank-requires-clause-begins c =
    (begun-where c.args.bytes.now c.args.from c.args.to c.requires.stretch (sym c.is_same_place.ensures ∙ c.if-not-is_same_place.true)).in_bytes

pub returns-then-not-is_same_place : goal.returns-then-not-is_same_place
returns-then-not-is_same_place c =
    c.is_blank.ensures ∙ sym (starts-is c.args.bytes.now c.args.from c.args.to c.requires.stretch (sym c.is_same_place.ensures ∙ c.if-not-is_same_place.true))

pub returns-else-not-is_same_place : goal.returns-else-not-is_same_place
returns-else-not-is_same_place c =
    ap not c.if-not-is_same_place.false ∙ sym (starts-none c.args.bytes.now c.args.from c.args.to c.requires.stretch (sym c.is_same_place.ensures ∙ c.if-not-is_same_place.false))
