use Rattle.markdown_engine_events.proofs.EventViewLemmas.{all-fresh-alone, view-extended, noted-extended}
use Rattle.markdown_engine_events.proofs.events.Events.extend_fresh.Goals as goal

pub extend_from_slice-requires : goal.extend_from_slice-requires
extend_from_slice-requires c = all-fresh-alone _ c.requires

pub invariant_of-self-2 : goal.invariant_of-self-2
invariant_of-self-2 c =
    noted-extended c.self.inside.chains c.self.inside.items c.args.items.now _ c.self.invariant c.requires c.in_ok-extend_from_slice.ensures.ok

pub returns-clause-ok : goal.returns-clause-ok
returns-clause-ok c =
    view-extended c.self.inside.items _ c.args.items.now _ c.self.view_is c.requires c.in_ok-extend_from_slice.ensures.ok
