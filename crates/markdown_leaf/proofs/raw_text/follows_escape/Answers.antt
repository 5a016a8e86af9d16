use Rattle.std.proofs.Common.{◌∙◌, arith, ◌-◌}
use Rattle.markdown_leaf.proofs.LastEvent.{last-escape}
use Rattle.markdown_leaf.proofs.raw_text.follows_escape.Goals as goal

pub returns : goal.returns
returns c = c.ends_escape.ensures ∙ last-escape c.args.tokenizer.now.events (c.len-len.result - 1) c.bare_at.result (omega (arith, c.if-len-eq0.false, c.len-len.ensures)) c.bare_at.ensures.event
