use Rattle.std.proofs.Common.{arith}
use Rattle.markdown_blocks.proofs.TextStartLemmas.{start-marked, start-plain}
use Rattle.markdown_blocks.proofs.document.text_start.Goals as goal

pub returns-then-not-starts_with : goal.returns-then-not-starts_with
returns-then-not-starts_with c = start-plain c.args.bytes.now c.starts_with.result c.starts_with.ensures.value (grind arith)

pub returns : goal.returns
returns c = start-marked c.args.bytes.now c.starts_with.result c.starts_with.ensures.value (grind arith)
