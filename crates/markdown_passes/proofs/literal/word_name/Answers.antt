use Rattle.std.proofs.Common.{◌∙◌, sym, ap, if◌then◌else◌}
use Rattle.markdown_event.specs.declared.event.Name.TheVariants as N
use Rattle.markdown_passes.specs.TrimmedData.{between}
use Rattle.markdown_passes.proofs.WordsInEitherCase.{name-mailto, name-second}
use Rattle.markdown_passes.proofs.literal.word_name.Goals as goal

pub returns-then-is_word : goal.returns-then-is_word
returns-then-is_word c =
    name-mailto c.is_word.result (between c.args.bytes.now c.args.from c.args.to) c.is_word.ensures c.if-is_word.true

pub returns-then-is_word-2 : goal.returns-then-is_word-2
returns-then-is_word-2 c =
    ap (λ b. if b then N.GfmAutolinkLiteralXmpp else N.GfmAutolinkLiteralEmail) (sym c.if-is_word-2.true)
    ∙ name-second c.is_word.result c.is_word-else-is_word.result (between c.args.bytes.now c.args.from c.args.to) c.is_word.ensures c.if-is_word.false c.is_word-else-is_word.ensures

pub returns-else-is_word-2 : goal.returns-else-is_word-2
returns-else-is_word-2 c =
    ap (λ b. if b then N.GfmAutolinkLiteralXmpp else N.GfmAutolinkLiteralEmail) (sym c.if-is_word-2.false)
    ∙ name-second c.is_word.result c.is_word-else-is_word.result (between c.args.bytes.now c.args.from c.args.to) c.is_word.ensures c.if-is_word.false c.is_word-else-is_word.ensures
