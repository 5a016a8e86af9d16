use Rattle.std.proofs.Common.{◌∙◌, ◌++◌, ◌+◌, ◌≤◌, inl, inr, ap, sym, arith, drop}
use Rattle.std.specs.List.{All}
use Rattle.std.proofs.lemmas.List.{append-nil}
use Rattle.markdown_engine_events.specs.Edits.{edits_of}
use Rattle.markdown_engine_events.proofs.EditOrder.{left-behind, nothing-added, nothing-removed, rest-later}
use Rattle.markdown_engine_events.proofs.util.edit_map.pass_place.Goals as goal
use Rattle.markdown_engine_events.proofs.util.edit_map.pass_place.Goals.{else-passed-edits-via-then-passed-edits+else-edits-passed, else-passed-edits-via-else-passed-edits}

pub returns-clause-rest : goal.returns-clause-rest
returns-clause-rest c =
    let at = c.args.at in
    let cs = c.args.edits.now.comes.now in
    let es = c.args.edits.now.entries.now in
    let p = c.args.passed.edits in
    let left = drop p (edits_of c.args.edits.now) in
    let ahead : All (λ e. at + 1 ≤ e.at) left = elim c.else-passed-edits.branch [
      | else-passed-edits-via-then-passed-edits+else-edits-passed w ↦ left-behind cs es p at c.requires.rest (inr (w.if-passed-edits.true, w.if-edits-passed.false))
      | else-passed-edits-via-else-passed-edits w ↦ left-behind cs es p at c.requires.rest (inl w.if-passed-edits.false)
    ] in
    rest-later at (at + 1) left left (omega arith) c.requires.rest ahead

pub returns-clause-done : goal.returns-clause-done
returns-clause-done c =
    sym (ap (λ x. c.args.done.now ++ x) (nothing-added c.args.at (drop c.args.passed.edits (edits_of c.args.edits.now)) (returns-clause-rest c).ahead) ∙ append-nil c.args.done.now)

pub returns-clause-removed : goal.returns-clause-removed
returns-clause-removed c =
    omega (arith, c.max.ensures, nothing-removed c.args.at (drop c.args.passed.edits (edits_of c.args.edits.now)) (returns-clause-rest c).ahead)
