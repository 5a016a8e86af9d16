use Rattle.std.proofs.Common.{None}
use Rattle.markdown_inline.proofs.markdown_run.WholeRun.{begun-starts}
use Rattle.markdown_inline.proofs.markdown_run.TextRun.{none-lent, started, text-ready}
use Rattle.markdown_inline.proofs.markdown_run.TextByStates.{states-may}
use Rattle.markdown_test_runs.proofs.passes.are_of_text.Goals as goal

pub run_state-requires-clause-ready : goal.run_state-requires-clause-ready
run_state-requires-clause-ready c =
    let start = begun-starts c.args.alloc c.args.parse_state c.args.pieces.now c.new-tokenizer.result c.new-tokenizer.ensures in
    text-ready c.args.parse_state.now c.args.pieces.now None c.args.first_of_item _ c.requires (none-lent c.args.parse_state.now) (started c.args.parse_state.now c.args.pieces.now c.args.first_of_item c.new-tokenizer.result start)

pub resolve_named-outcome-requires : goal.resolve_named-outcome-requires
resolve_named-outcome-requires c =
    let start = begun-starts c.args.alloc c.args.parse_state c.args.pieces.now c.new-tokenizer.result c.new-tokenizer.ensures in
    states-may c.args.parse_state.now c.args.pieces.now c.args.first_of_item c.requires.is_content _ c.run_state.new.self (started c.args.parse_state.now c.args.pieces.now c.args.first_of_item c.new-tokenizer.result start) c.in-Ok.field-0 c.in-Ok.ensures.ends
