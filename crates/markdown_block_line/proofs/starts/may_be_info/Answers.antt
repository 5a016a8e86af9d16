use Rattle.std.proofs.Common.{sym}
use Rattle.markdown_block_line.specs.LineBlocks.{extensions_of}
use Rattle.markdown_block_line.proofs.RestStarts.{info-tilde, info-other, info-apart}
use Rattle.markdown_block_line.proofs.starts.may_be_info.Goals as goal

pub returns-then-value-eq126 : goal.returns-then-value-eq126
returns-then-value-eq126 c = λ cs h. sym (info-tilde (extensions_of c.args.extensions) c.args.value cs c.if-value-eq126.true)

pub returns-then-not-is_apart : goal.returns-then-not-is_apart
returns-then-not-is_apart c = λ cs h.
    sym (info-other (extensions_of c.args.extensions) c.args.value cs c.is_apart.result c.if-value-eq126.false c.is_apart.ensures c.if-not-is_apart.true)

pub returns : goal.returns
returns c = λ cs h.
    sym (info-apart (extensions_of c.args.extensions) c.args.value cs c.args.info.now c.is_apart.result c.contains.result h c.if-value-eq126.false c.is_apart.ensures c.if-not-is_apart.false c.contains.ensures.value)
