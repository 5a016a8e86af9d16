use Rattle.std.proofs.Common.{None}
use Rattle.markdown_inline.proofs.markdown_run.WholeRun.{begun-starts}
use Rattle.markdown_inline.proofs.markdown_run.TextRun.{none-lent, started, text-ready}
use Rattle.markdown_test_runs.proofs.calls.print_text_call.Goals as goal

pub print_from-requires-clause-ready : goal.print_from-requires-clause-ready
print_from-requires-clause-ready c =
    let start = begun-starts c.args.alloc c.args.parse_state c.args.pieces.now c.new-tokenizer.result c.new-tokenizer.ensures in
    text-ready c.args.parse_state.now c.args.pieces.now None c.args.first_of_item _ c.requires (none-lent c.args.parse_state.now) (started c.args.parse_state.now c.args.pieces.now c.args.first_of_item c.new-tokenizer.result start)
