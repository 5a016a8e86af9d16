use Rattle.std.proofs.Common.{◌∙◌, sym}
use Rattle.markdown_blocks.proofs.LazyLines.{lazy-where-text, not-lazy-where-other, not-lazy-where-none}
use Rattle.markdown_blocks.proofs.read.is_lazy.Goals as goal

pub returns-then-is_text : goal.returns-then-is_text
returns-then-is_text c =
    let bytes = c.args.rest.now.bytes in
    c.is_lazy.ensures ∙ lazy-where-text c.args.rest.now.extensions bytes c.args.reader.now _ c.args.rest.now.codes c.requires c.in-Some.is (sym (c.is_text.ensures bytes) ∙ c.if-is_text.true)

pub returns-in-None : goal.returns-in-None
returns-in-None c = not-lazy-where-none c.args.rest.now.extensions c.args.rest.now.bytes c.args.reader.now c.args.rest.now.codes c.requires c.in-None.is

pub returns-else-is_text : goal.returns-else-is_text
returns-else-is_text c =
    let bytes = c.args.rest.now.bytes in
    not-lazy-where-other c.args.rest.now.extensions bytes c.args.reader.now _ c.args.rest.now.codes c.requires c.in-Some.is (sym (c.is_text.ensures bytes) ∙ c.if-is_text.false)
