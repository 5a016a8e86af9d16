use Rattle.std.proofs.Common.{◌≡◌, ◌+◌, MatchOption, ◌∙◌, subst}
use Rattle.markdown_engine_events.specs.EventChains.{previous_of}
use Rattle.markdown_engine_events.proofs.PackedLemmas.{length-seen, view-added}
use Rattle.markdown_engine_events.proofs.packed.PackedList.push.Goals as goal

pub returns-clause-added : goal.returns-clause-added
returns-clause-added c = λ fits. view-added _ _ _ _ _ _ c.self.view_is c.len-number.ensures c.in-Some.ensures.is c.in_ok-push.ensures.ok

pub returns-clause-near : goal.returns-clause-near
returns-clause-near c =
    λ fits. subst (λ n. MatchOption (previous_of c.args.event) (Unit {0}) (λ p. p + 2 ≡ n)) (c.len-number.ensures ∙ length-seen _ _ _ c.self.view_is) c.in-Some.ensures.near
