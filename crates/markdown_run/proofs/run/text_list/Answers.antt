use Rattle.std.proofs.Common.{ℕ, None, refl, sym, subst, ◌∙◌}
use Rattle.std.proofs.lemmas.Result.{IfOk-weaker}
use Rattle.markdown_engine.specs.RunStart.{begun_at}
use Rattle.markdown_content.specs.Content.{content_of}
use Rattle.markdown_attention.specs.AttentionPass.{IsProbed}
use Rattle.markdown_model.specs.InlineTree.{label_tree}
use Rattle.markdown_model.specs.Setting.{Setting}
use Rattle.markdown_run_text.specs.RunSetting.{text_setting_of}
use Rattle.markdown_run.proofs.WholeRun.{content-starts}
use Rattle.markdown_run.proofs.TextRun.{none-lent, started, text-ready, text-unknown, text-may, text-probes, text-no-probes, text-run}
use Rattle.markdown_innermost.proofs.LeavesAreStretches.{text-in-order, text-covers}
use Rattle.markdown_run.proofs.run.text_list.Goals as goal

pub text_from-requires-clause-ready : goal.text_from-requires-clause-ready
text_from-requires-clause-ready c =
    let start = content-starts c.args.alloc c.args.parse_state c.args.parse_state.now c.args.pieces.now c.new-cursor.result (begun_at c.args.alloc c.args.parse_state c.new-cursor.result) refl refl c.new-cursor.ensures in
    text-ready c.args.parse_state.now c.args.pieces.now None c.args.first_of_item _ c.requires (none-lent c.args.parse_state.now) (started c.args.parse_state.now c.args.pieces.now c.args.first_of_item (begun_at c.args.alloc c.args.parse_state c.new-cursor.result) start)

pub text_from-requires-clause-unknown : goal.text_from-requires-clause-unknown
text_from-requires-clause-unknown c =
    let start = content-starts c.args.alloc c.args.parse_state c.args.parse_state.now c.args.pieces.now c.new-cursor.result (begun_at c.args.alloc c.args.parse_state c.new-cursor.result) refl refl c.new-cursor.ensures in
    text-unknown c.args.parse_state.now c.args.pieces.now None c.args.first_of_item _ (started c.args.parse_state.now c.args.pieces.now c.args.first_of_item (begun_at c.args.alloc c.args.parse_state c.new-cursor.result) start)

pub text_from-requires-clause-passes : goal.text_from-requires-clause-passes
text_from-requires-clause-passes c = λ left ends.
    let start = content-starts c.args.alloc c.args.parse_state c.args.parse_state.now c.args.pieces.now c.new-cursor.result (begun_at c.args.alloc c.args.parse_state c.new-cursor.result) refl refl c.new-cursor.ensures in
    text-may c.args.parse_state.now c.args.pieces.now None c.args.first_of_item c.requires.is_content _ left (started c.args.parse_state.now c.args.pieces.now c.args.first_of_item (begun_at c.args.alloc c.args.parse_state c.new-cursor.result) start) ends

pub returns-clause-events : goal.returns-clause-events
returns-clause-events c =
    let start = content-starts c.args.alloc c.args.parse_state c.args.parse_state.now c.args.pieces.now c.new-cursor.result (begun_at c.args.alloc c.args.parse_state c.new-cursor.result) refl refl c.new-cursor.ensures in
    IfOk-weaker c.text_from.result _ _
    (λ run k.
    k.found.events
    ∙ text-run c.args.parse_state.now c.args.pieces.now None c.args.first_of_item c.requires.is_content _ k.left (started c.args.parse_state.now c.args.pieces.now c.args.first_of_item (begun_at c.args.alloc c.args.parse_state c.new-cursor.result) start) k.ends k.found.passed k.found.resolves)
    c.text_from.ensures

pub returns-clause-places : goal.returns-clause-places
returns-clause-places c =
    IfOk-weaker c.text_from.result _ _ (λ run e. text-in-order (text_setting_of c.args.parse_state.now c.args.first_of_item) c.args.pieces.now _ c.requires.is_content e) (returns-clause-events c)

pub returns-clause-leaves : goal.returns-clause-leaves
returns-clause-leaves c =
    IfOk-weaker c.text_from.result _ _ (λ run e. text-covers (text_setting_of c.args.parse_state.now c.args.first_of_item) c.args.pieces.now _ c.requires.is_content e) (returns-clause-events c)

pub returns-clause-probes : goal.returns-clause-probes
returns-clause-probes c =
    let start = content-starts c.args.alloc c.args.parse_state c.args.parse_state.now c.args.pieces.now c.new-cursor.result (begun_at c.args.alloc c.args.parse_state c.new-cursor.result) refl refl c.new-cursor.ensures in
    let s : Setting = text_setting_of c.args.parse_state.now c.args.first_of_item in
    IfOk-weaker c.text_from.result _ _
    (λ run k.
    subst (λ (n : ℕ). IsProbed s (label_tree s (content_of s.bytes c.args.pieces.now)) n) (sym k.found.probes)
    (text-probes c.args.parse_state.now c.args.pieces.now None c.args.first_of_item c.requires.is_content _ k.left (started c.args.parse_state.now c.args.pieces.now c.args.first_of_item (begun_at c.args.alloc c.args.parse_state c.new-cursor.result) start) k.ends k.found.passed k.found.resolves))
    c.text_from.ensures

pub returns-clause-no_probes : goal.returns-clause-no_probes
returns-clause-no_probes c = λ off none.
    let start = content-starts c.args.alloc c.args.parse_state c.args.parse_state.now c.args.pieces.now c.new-cursor.result (begun_at c.args.alloc c.args.parse_state c.new-cursor.result) refl refl c.new-cursor.ensures in
    IfOk-weaker c.text_from.result _ _
    (λ run k.
    k.found.probes
    ∙ text-no-probes c.args.parse_state.now c.args.pieces.now None c.args.first_of_item c.requires.is_content _ k.left (started c.args.parse_state.now c.args.pieces.now c.args.first_of_item (begun_at c.args.alloc c.args.parse_state c.new-cursor.result) start) k.ends k.found.passed k.found.resolves off none)
    c.text_from.ensures
