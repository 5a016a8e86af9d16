use Rattle.std.proofs.Common.{◌≡◌, Bool, suc, sym, ap, subst, ◌∙◌, [], ◌∷◌, ◌++◌, OnOk}
use Rattle.markdown_engine.specs.StateRuns.{ends_state, settled, weight_state}
use Rattle.markdown_engine.proofs.CallsWithAttemptsLemmas.{answer}
use Rattle.markdown_engine.proofs.AttemptLemmas.{settled-alone, going_in-alone, ready-next}
use Rattle.markdown_engine.proofs.TurnLemmas.{Turned, goes-now, turned-call, turned-out}
use Rattle.markdown_engine.proofs.run.run_from.Given.{Over}
use Rattle.markdown_engine.proofs.run.run_from.Goals.{in-Ok, in-Nok}
use Rattle.markdown_engine.proofs.run.run_from.Goals as goal

pub pass_stretch-requires-clause-ready : goal.pass_stretch-requires-clause-ready
pass_stretch-requires-clause-ready g c =
    let law = g.L.Layer in
    let now = goes-now law.ready law.ends law.weight (suc (weight_state law.weight c.args.start c.args.tokenizer.now)) (ends_state law.ends c.args.start c.args.tokenizer.now) c.loop-state.waiting c.loop-state.state c.loop-state.tokenizer c.loop-state.invariant.goes in
    ready-next law.ready c.loop-state.state c.in-Next.name c.loop-state.tokenizer c.in-Next.is now.goes_on

-- what a call opened waits, and is taken off the tokenizer
waits : (g : Over) (c : goal.In_ok-noted-in-Next g) → c.hand_over-handed.new.waiting ≡ c.call.new.tokenizer.attempts ++ c.loop-state.waiting
waits g c =
    subst (λ r. OnOk r (c.hand_over-handed.new.waiting ≡ c.call.new.tokenizer.attempts ++ c.loop-state.waiting)) (sym c.in_ok-noted-in-Next.ensures.same) c.hand_over-handed.ensures.waits

left : (g : Over) (c : goal.In_ok-noted-in-Next g) → c.noted.new.self ≡ settled c.call.new.tokenizer
unfolding settled
left g c =
    c.in_ok-noted-in-Next.ensures.ok
    ∙ ap (λ fs. record c.call.new.tokenizer { attempts = fs }) (subst (λ r. OnOk r (c.hand_over-handed.new.opened ≡ [])) (sym c.in_ok-noted-in-Next.ensures.same) c.hand_over-handed.ensures.none)

-- the turn that calls a state
turned : (g : Over) (c : goal.In_ok-noted-in-Next g) →
    Turned g.L.Layer.ready g.L.Layer.step g.L.Layer.ends g.L.Layer.weight (suc (weight_state g.L.Layer.weight c.args.start c.args.tokenizer.now)) (ends_state g.L.Layer.ends c.args.start c.args.tokenizer.now) c.loop-state.waiting c.loop-state.state c.loop-state.tokenizer c.hand_over-handed.new.waiting c.in_ok-state-in-Next.state c.noted.new.self
turned g c =
    let law = g.L.Layer in
    rw (waits g c, left g c)
    (turned-call law.ready law.step law.ends law.weight g.met.L.Layer.laws (suc (weight_state law.weight c.args.start c.args.tokenizer.now)) (ends_state law.ends c.args.start c.args.tokenizer.now) c.loop-state.waiting c.loop-state.state c.in-Next.name c.loop-state.tokenizer c.pass_stretch.new.tokenizer c.in_ok-state-in-Next.state c.call.new.tokenizer c.in-Next.is c.pass_stretch.ensures c.in_ok-state-in-Next.ensures.ok c.loop-state.invariant.goes)

pub loop-state-smaller-in-Next : goal.loop-state-smaller-in-Next
loop-state-smaller-in-Next g c = (turned g c).fewer

pub loop-state-preserved-in-Next : goal.loop-state-preserved-in-Next
loop-state-preserved-in-Next g c =
    let turn = turned g c in
    record {
      alone = rw (left g c) (settled-alone c.call.new.tokenizer);
      goes = turn.goes;
      calls = λ ok U k. c.loop-state.invariant.calls ok U (turn.calls ok U k);
    }

pub loop-state-preserved-in-Some : goal.loop-state-preserved-in-Some
loop-state-preserved-in-Some g c =
    let law = g.L.Layer in
    let f = c.in-Some.attempt.now in
    let ok : Bool = c.match-state.ok in
    let now = c.resume-state.ensures in
    let before = c.loop-state.invariant in
    let waits = c.in-Some.ensures ∙ ap (λ fs. f ∷ fs) (sym c.pop.ensures.rest) in
    let is : c.loop-state.state ≡ answer ok = elim c.match-state.branch [ in-Ok w ↦ w.in-Ok.is ∙ ap answer (sym w.ok-is) | in-Nok w ↦ w.in-Nok.is ∙ ap answer (sym w.ok-is) ] in
    let turn = turned-out law.ready law.step law.ends law.weight (suc (weight_state law.weight c.args.start c.args.tokenizer.now)) (ends_state law.ends c.args.start c.args.tokenizer.now) f c.pop.new.self ok c.loop-state.tokenizer before.alone (rw (waits, is) at before.goes) in
    record {
      alone = rw now.left (going_in-alone f ok c.loop-state.tokenizer before.alone);
      goes = rw (now.state, now.left) turn.goes;
      calls = λ last U k. (rw (waits, is) at before.calls) last U (turn.calls last U (rw (now.state, now.left) at k));
    }
