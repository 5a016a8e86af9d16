use Rattle.std.proofs.Common.{◌∙◌}
use Rattle.std.proofs.lemmas.Result.{IfOk-weaker}
use Rattle.markdown_run.proofs.WholeRun.{begun-starts}
use Rattle.markdown_run.proofs.StringRun.{string-ready, string-may, string-probes, string-run}
use Rattle.markdown_run_text.specs.RunSetting.{setting_of}
use Rattle.markdown_innermost.proofs.LeavesAreStretches.{string-in-order, string-covers}
use Rattle.markdown_run.proofs.run.string_list.Goals as goal

pub run_through-found-requires-clause-ready : goal.run_through-found-requires-clause-ready
run_through-found-requires-clause-ready c =
    string-ready c.args.parse_state.now c.args.pieces.now c.new-tokenizer.result (begun-starts c.args.alloc c.args.parse_state c.args.pieces.now c.new-tokenizer.result c.new-tokenizer.ensures)

pub run_through-found-requires-clause-passes : goal.run_through-found-requires-clause-passes
run_through-found-requires-clause-passes c = λ held left ends.
    let start = begun-starts c.args.alloc c.args.parse_state c.args.pieces.now c.new-tokenizer.result c.new-tokenizer.ensures in
    string-may c.args.parse_state.now c.args.pieces.now c.requires c.new-tokenizer.result left start held ends

pub returns-clause-events : goal.returns-clause-events
returns-clause-events c =
    let start = begun-starts c.args.alloc c.args.parse_state c.args.pieces.now c.new-tokenizer.result c.new-tokenizer.ensures in
    IfOk-weaker c.run_through-found.result _ _
    (λ run k. k.found.events ∙ string-run c.args.parse_state.now c.args.pieces.now c.requires c.new-tokenizer.result k.left start k.held k.ends k.found.passed k.found.resolves)
    c.run_through-found.ensures

pub returns-clause-places : goal.returns-clause-places
returns-clause-places c =
    IfOk-weaker c.run_through-found.result _ _ (λ run e. string-in-order (setting_of c.args.parse_state.now) c.args.pieces.now _ c.requires e) (returns-clause-events c)

pub returns-clause-leaves : goal.returns-clause-leaves
returns-clause-leaves c =
    IfOk-weaker c.run_through-found.result _ _ (λ run e. string-covers (setting_of c.args.parse_state.now) c.args.pieces.now _ c.requires e) (returns-clause-events c)

pub returns-clause-probes : goal.returns-clause-probes
returns-clause-probes c =
    let start = begun-starts c.args.alloc c.args.parse_state c.args.pieces.now c.new-tokenizer.result c.new-tokenizer.ensures in
    IfOk-weaker c.run_through-found.result _ _
    (λ run k. k.found.probes ∙ string-probes c.args.parse_state.now c.args.pieces.now c.requires c.new-tokenizer.result k.left start k.held k.ends k.found.passed k.found.resolves)
    c.run_through-found.ensures
