use Rattle.markdown_content.proofs.KnownPlacesLemmas.{text-is}
use Rattle.markdown_content.proofs.content.is_text.Goals as goal

pub returns-then-is_content : goal.returns-then-is_content
returns-then-is_content c = text-is c.args.bytes.now c.args.pieces.now c.new.result c.has_text_lines.result c.new.ensures c.has_text_lines.ensures (c.is_content.ensures.0 c.if-is_content.true)
