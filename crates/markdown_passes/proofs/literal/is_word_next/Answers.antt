use Rattle.std.proofs.Common.{◌∙◌, sym, ap, not}
use Rattle.markdown_passes.proofs.TrimWalks.{begun-where}
use Rattle.markdown_passes.proofs.EmailDomains.{word-next, no-word_next}
use Rattle.markdown_passes.proofs.literal.is_word_next.Goals as goal

pub code_from-requires-clause-begins : goal.code_from-requires-clause-begins
code_from-requires-clause-begins c =
    (begun-where c.args.bytes.now c.args.point c.args.to c.requires.stretch (sym c.is_same_place.ensures ∙ c.if-not-is_same_place.true)).in_bytes

pub returns-then-not-is_same_place : goal.returns-then-not-is_same_place
returns-then-not-is_same_place c =
    c.is_alphanumeric.ensures ∙ sym (word-next c.args.bytes.now c.args.point c.args.to c.requires.stretch c.code_from.result (sym c.is_same_place.ensures ∙ c.if-not-is_same_place.true) c.code_from.ensures)

pub returns-else-not-is_same_place : goal.returns-else-not-is_same_place
returns-else-not-is_same_place c =
    ap not c.if-not-is_same_place.false ∙ sym (no-word_next c.args.bytes.now c.args.point c.args.to c.requires.stretch (sym c.is_same_place.ensures ∙ c.if-not-is_same_place.false))
