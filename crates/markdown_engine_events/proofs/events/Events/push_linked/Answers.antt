use Rattle.std.proofs.Common.{◌∙◌, sym, length, arith, ◌<◌, refl}
use Rattle.markdown_engine_events.proofs.EventChainLemmas.{last-earlier}
use Rattle.markdown_engine_events.proofs.EventViewLemmas.{filled-of, noted-chain, noted-plain, view-named, kept-named, view-one, view-length}
use Rattle.markdown_engine_events.proofs.events.Events.push_linked.Goals as goal

pub invariant_of-self-in_default : goal.invariant_of-self-in_default
invariant_of-self-in_default c =
    noted-plain c.self.inside.chains c.self.inside.items _ _ c.args.linked c.self.view_is c.self.invariant c.requires.bare (sym c.previous_of.ensures ∙ c.in_default.is) c.requires.chains c.in_ok-push.ensures.ok

pub returns-in_default-clause-ok : goal.returns-in_default-clause-ok
returns-in_default-clause-ok c =
    view-one c.self.inside.items _ _ c.args.linked c.self.view_is c.requires.bare c.in_ok-push.ensures.ok

pub push_behind-requires-clause-index : goal.push_behind-requires-clause-index
push_behind-requires-clause-index c =
    let less : c.in-Some.previous < length c.args.self.now = last-earlier _ _ _ c.requires.chains (sym c.previous_of.ensures ∙ c.in-Some.is) in
    omega (arith, view-length _ _ c.self.view_is)

pub invariant_of-self-2 : goal.invariant_of-self-2
invariant_of-self-2 c =
    noted-chain _ (kept-named c.self.inside.items _ _ _ c.args.linked _ _ c.self.view_is (filled-of _ _ c.self.invariant) c.requires.bare (sym c.previous_of.ensures ∙ c.in-Some.is) c.requires.chains refl refl c.in_ok-push_behind.ensures.ok)

pub returns-clause-ok : goal.returns-clause-ok
returns-clause-ok c =
    view-named c.self.inside.items _ _ _ c.args.linked _ _ c.self.view_is c.requires.bare refl c.in_ok-push_behind.ensures.ok
