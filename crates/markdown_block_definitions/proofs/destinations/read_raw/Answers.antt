use Rattle.std.proofs.Common.{◌∙◌, sym}
use Rattle.markdown_block_definitions.proofs.RawWalks.{does-escaped, does-bare}
use Rattle.markdown_block_definitions.proofs.destinations.read_raw.Goals as goal

pub returns-then-is_escaped : goal.returns-then-is_escaped
returns-then-is_escaped c = does-escaped c.args.slash c.args.depth c.args.value (sym c.is_escaped.ensures ∙ c.if-is_escaped.true)

pub returns : goal.returns
returns c = does-bare c.args.slash c.args.depth c.args.value c.read_bare.result (sym c.is_escaped.ensures ∙ c.if-is_escaped.false) c.read_bare.ensures
