use Rattle.std.proofs.Common.{◌∙◌, ◌++◌, ap, arith}
use Rattle.markdown_engine_events.proofs.EditOrder.{brought-here, passing}
use Rattle.markdown_engine_events.proofs.util.edit_map.pass_edits.Goals as goal

pub push_here-requires-clause-brought : goal.push_here-requires-clause-brought
push_here-requires-clause-brought c =
    brought-here c.args.edits.now.comes.now c.args.edits.now.entries.now c.args.passed.edits c.count_at-count.result c.requires.brought

pub returns-clause-done : goal.returns-clause-done
returns-clause-done c =
    let n = c.count_at-count.ensures in
    let p = passing c.args.edits.now.comes.now c.args.at c.count_at-count.result c.args.passed.edits c.args.edits.now.entries.now c.requires.rest n.within n.here n.next in
    c.in_ok-removed.ensures.done ∙ ap (λ x. c.args.done.now ++ x) p.added

pub returns-clause-rest : goal.returns-clause-rest
returns-clause-rest c =
    let n = c.count_at-count.ensures in
    (passing c.args.edits.now.comes.now c.args.at c.count_at-count.result c.args.passed.edits c.args.edits.now.entries.now c.requires.rest n.within n.here n.next).behind

pub returns-clause-removed : goal.returns-clause-removed
returns-clause-removed c =
    let n = c.count_at-count.ensures in
    let p = passing c.args.edits.now.comes.now c.args.at c.count_at-count.result c.args.passed.edits c.args.edits.now.entries.now c.requires.rest n.within n.here n.next in
    omega (arith, c.max.ensures, c.saturating_add.ensures, c.in_ok-removed.ensures.removed, p.removed)
