use Rattle.std.proofs.Common.{drop, arith}
use Rattle.std.proofs.lemmas.List.{length-drop}
use Rattle.markdown_html.specs.View.{page_of, state_of}
use Rattle.markdown_html.proofs.EventLoop.{walked_end}
use Rattle.markdown_html.proofs.writer.written.Goals as goal

pub returns : goal.returns
returns c = λ n previous t is.
    let events = c.args.events.now in
    walked_end (page_of c.args.given.now) c.args.out.items c.args.calls c.args.within n previous t events (state_of c.loop-index.writer) (drop c.loop-index.index events) c.loop-index.invariant.whole
    (omega (arith, length-drop c.loop-index.index events, c.loop-index-test.false, c.len.ensures)) is
