use Rattle.markdown_inline.proofs.markdown_run.WholeRun.{begun-starts}
use Rattle.markdown_inline.proofs.markdown_run.StringRun.{string-may}
use Rattle.markdown_test_runs.proofs.passes.are_of_string.Goals as goal

pub resolve_named-outcome-requires : goal.resolve_named-outcome-requires
resolve_named-outcome-requires c =
    let start = begun-starts c.args.alloc c.args.parse_state c.args.pieces.now c.new-tokenizer.result c.new-tokenizer.ensures in
    string-may c.args.parse_state.now c.args.pieces.now c.requires _ c.run_state.new.self start c.in-Ok.field-0 c.in-Ok.ensures.ends
