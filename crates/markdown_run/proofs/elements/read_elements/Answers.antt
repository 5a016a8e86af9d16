use Rattle.markdown_run.proofs.TextEnds.{goes-start, goes-next}
use Rattle.std.proofs.Common.{sym, ◌∙◌}
use Rattle.markdown_run.proofs.elements.read_elements.Goals as goal

pub loop-byte-init : goal.loop-byte-init
loop-byte-init c = goes-start c.args.tokenizer.now c.requires

pub read_element-requires-clause-ready : goal.read_element-requires-clause-ready
read_element-requires-clause-ready c = c.loop-byte.invariant.ready

pub read_element-requires-clause-here : goal.read_element-requires-clause-here
read_element-requires-clause-here c = sym c.current.ensures ∙ c.in-Some.is

pub loop-byte-smaller : goal.loop-byte-smaller
loop-byte-smaller c = c.in_ok-read_element.ensures.ok.less

pub loop-byte-preserved : goal.loop-byte-preserved
loop-byte-preserved c =
    goes-next c.args.tokenizer.now c.loop-byte.tokenizer c.read_element.new.tokenizer c.loop-byte.invariant c.in_ok-read_element.ensures.ok
