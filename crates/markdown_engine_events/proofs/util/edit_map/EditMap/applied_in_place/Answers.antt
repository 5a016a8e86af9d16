use Rattle.std.proofs.Common.{ap, ◌∙◌}
use Rattle.markdown_engine_events.specs.Edits.{edited, edits_of}
use Rattle.markdown_engine_events.proofs.EditsInPlace.{edited-same}
use Rattle.markdown_engine_events.proofs.util.edit_map.EditMap.applied_in_place.Goals as goal

pub returns-clause-done : goal.returns-clause-done
returns-clause-done c =
    let stays = c.in_ok-edit_in_place.ensures.stays c.if-branch.false in
    λ t. c.in_ok-done.ensures.done t ∙ ap (edited (edits_of c.in_ok-edits.edits)) stays ∙ edited-same c.args.self.now (edits_of c.in_ok-edits.edits) c.in_ok-edits.ensures.rest c.args.events.now
