use Rattle.std.proofs.Common.{rules}
use Rattle.markdown_engine_events.specs.Edits.{edits_of}
use Rattle.markdown_engine_events.proofs.EditOrder.{adds-unlinked}
use Rattle.markdown_engine_events.proofs.EditsInPlace.{noted-edited, view-edited}
use Rattle.markdown_engine_events.proofs.events.Events.edit_in_place.Goals as goal

pub invariant_of-self-2 : goal.invariant_of-self-2
invariant_of-self-2 c =
    noted-edited c.self.inside.chains (edits_of c.args.edits.now) c.self.inside.items c.edit_packed.new.self c.self.invariant c.if-self.false (adds-unlinked _ _ c.requires.unlinked) (c.in_ok-edit_packed.ensures.done (search rules))

pub returns-clause-done : goal.returns-clause-done
returns-clause-done c = λ t.
    view-edited c.self.inside.chains (edits_of c.args.edits.now) c.self.inside.items c.args.self.now c.edit_packed.new.self c.self.invariant c.if-self.false (adds-unlinked _ _ c.requires.unlinked) c.self.view_is (c.in_ok-edit_packed.ensures.done (search rules))
