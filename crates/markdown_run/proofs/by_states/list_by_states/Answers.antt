use Rattle.std.proofs.Common.{ℕ, None, sym, subst, ◌∙◌}
use Rattle.std.proofs.lemmas.Result.{IfOk-weaker}
use Rattle.markdown_content.specs.Content.{content_of}
use Rattle.markdown_attention.specs.AttentionPass.{IsProbed}
use Rattle.markdown_model.specs.InlineTree.{label_tree}
use Rattle.markdown_model.specs.Setting.{Setting}
use Rattle.markdown_run_text.specs.RunSetting.{text_setting_of}
use Rattle.markdown_run.proofs.WholeRun.{begun-starts}
use Rattle.markdown_run.proofs.TextRun.{none-lent, started, text-ready}
use Rattle.markdown_run.proofs.TextByStates.{states-may, states-probes, states-no-probes, states-run}
use Rattle.markdown_innermost.proofs.LeavesAreStretches.{text-in-order, text-covers}
use Rattle.markdown_run.proofs.by_states.list_by_states.Goals as goal

pub run_through-found-requires-clause-ready : goal.run_through-found-requires-clause-ready
run_through-found-requires-clause-ready c =
    let start = begun-starts c.args.alloc c.args.parse_state c.args.pieces.now c.new-tokenizer.result c.new-tokenizer.ensures in
    text-ready c.args.parse_state.now c.args.pieces.now None c.args.first_of_item _ c.requires (none-lent c.args.parse_state.now) (started c.args.parse_state.now c.args.pieces.now c.args.first_of_item c.new-tokenizer.result start)

pub run_through-found-requires-clause-passes : goal.run_through-found-requires-clause-passes
run_through-found-requires-clause-passes c = λ held left ends.
    let start = begun-starts c.args.alloc c.args.parse_state c.args.pieces.now c.new-tokenizer.result c.new-tokenizer.ensures in
    states-may c.args.parse_state.now c.args.pieces.now c.args.first_of_item c.requires.is_content _ left (started c.args.parse_state.now c.args.pieces.now c.args.first_of_item c.new-tokenizer.result start) held ends

pub returns-clause-events : goal.returns-clause-events
returns-clause-events c =
    let start = begun-starts c.args.alloc c.args.parse_state c.args.pieces.now c.new-tokenizer.result c.new-tokenizer.ensures in
    IfOk-weaker c.run_through-found.result _ _
    (λ run k.
    k.found.events
    ∙ states-run c.args.parse_state.now c.args.pieces.now c.args.first_of_item c.requires.is_content _ k.left (started c.args.parse_state.now c.args.pieces.now c.args.first_of_item c.new-tokenizer.result start) k.held k.ends k.found.passed k.found.resolves)
    c.run_through-found.ensures

pub returns-clause-places : goal.returns-clause-places
returns-clause-places c =
    IfOk-weaker c.run_through-found.result _ _ (λ run e. text-in-order (text_setting_of c.args.parse_state.now c.args.first_of_item) c.args.pieces.now _ c.requires.is_content e) (returns-clause-events c)

pub returns-clause-leaves : goal.returns-clause-leaves
returns-clause-leaves c =
    IfOk-weaker c.run_through-found.result _ _ (λ run e. text-covers (text_setting_of c.args.parse_state.now c.args.first_of_item) c.args.pieces.now _ c.requires.is_content e) (returns-clause-events c)

pub returns-clause-probes : goal.returns-clause-probes
returns-clause-probes c =
    let start = begun-starts c.args.alloc c.args.parse_state c.args.pieces.now c.new-tokenizer.result c.new-tokenizer.ensures in
    let s : Setting = text_setting_of c.args.parse_state.now c.args.first_of_item in
    IfOk-weaker c.run_through-found.result _ _
    (λ run k.
    subst (λ (n : ℕ). IsProbed s (label_tree s (content_of s.bytes c.args.pieces.now)) n) (sym k.found.probes)
    (states-probes c.args.parse_state.now c.args.pieces.now c.args.first_of_item c.requires.is_content _ k.left (started c.args.parse_state.now c.args.pieces.now c.args.first_of_item c.new-tokenizer.result start) k.held k.ends k.found.passed k.found.resolves))
    c.run_through-found.ensures

pub returns-clause-no_probes : goal.returns-clause-no_probes
returns-clause-no_probes c = λ off none.
    let start = begun-starts c.args.alloc c.args.parse_state c.args.pieces.now c.new-tokenizer.result c.new-tokenizer.ensures in
    IfOk-weaker c.run_through-found.result _ _
    (λ run k.
    k.found.probes
    ∙ states-no-probes c.args.parse_state.now c.args.pieces.now c.args.first_of_item c.requires.is_content _ k.left (started c.args.parse_state.now c.args.pieces.now c.args.first_of_item c.new-tokenizer.result start) k.held k.ends k.found.passed k.found.resolves off none)
    c.run_through-found.ensures
