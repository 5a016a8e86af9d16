use Rattle.std.proofs.Common.{◌≡◌, Bool, suc, sym, ap, ◌∙◌, ◌∷◌}
use Rattle.markdown_inline.proofs.markdown_engine.CallsWithAttemptsLemmas.{answer}
use Rattle.markdown_inline.proofs.markdown_engine.AttemptLemmas.{settled-alone, going_in-alone, ready-next}
use Rattle.markdown_inline.proofs.markdown_engine.SteadyLemmas.{onward-here}
use Rattle.markdown_inline.proofs.markdown_engine.TurnLemmas.{Turned, goes-now, turned-call, turned-out}
use Rattle.markdown_inline.specs.markdown_run.Layer.{ready_of, step_of, ends_of, weight_of, laws_of}
use Rattle.markdown_test_runs.proofs.calls.print_from.Goals.{in-Ok, in-Nok}
use Rattle.markdown_test_runs.proofs.calls.print_from.Goals as goal

-- the state that is called may be
pub call_public-requires : goal.call_public-requires
call_public-requires c =
    let now = goes-now ready_of ends_of weight_of (suc (weight_of c.args.start c.args.tokenizer.now)) (ends_of c.args.start c.args.tokenizer.now) c.loop-state.waiting c.loop-state.state c.loop-state.tokenizer c.loop-state.invariant.goes in
    ready-next ready_of c.loop-state.state c.in-Next.name c.loop-state.tokenizer c.in-Next.is now.goes_on

pub call-requires : goal.call-requires
call-requires c =
    let now = goes-now ready_of ends_of weight_of (suc (weight_of c.args.start c.args.tokenizer.now)) (ends_of c.args.start c.args.tokenizer.now) c.loop-state.waiting c.loop-state.state c.loop-state.tokenizer c.loop-state.invariant.goes in
    λ _. ready-next ready_of c.loop-state.state c.in-Next.name c.loop-state.tokenizer c.in-Next.is now.goes_on

-- the turn that calls a state
turned : (c : goal.In_ok-hand_over-in-Next) →
    Turned ready_of step_of ends_of weight_of (suc (weight_of c.args.start c.args.tokenizer.now)) (ends_of c.args.start c.args.tokenizer.now) c.loop-state.waiting c.loop-state.state c.loop-state.tokenizer c.hand_over.new.waiting c.in_ok-state-in-Next.state c.hand_over.new.tokenizer
turned c =
    let n = suc (weight_of c.args.start c.args.tokenizer.now) in
    let end = c.in_ok-hand_over-in-Next.ensures in
    let now = goes-now ready_of ends_of weight_of n (ends_of c.args.start c.args.tokenizer.now) c.loop-state.waiting c.loop-state.state c.loop-state.tokenizer c.loop-state.invariant.goes in
    let ready = ready-next ready_of c.loop-state.state c.in-Next.name c.loop-state.tokenizer c.in-Next.is now.goes_on in
    rw (end.waits, end.left)
    (turned-call ready_of step_of ends_of weight_of laws_of n (ends_of c.args.start c.args.tokenizer.now) c.loop-state.waiting c.loop-state.state c.in-Next.name c.loop-state.tokenizer c.loop-state.tokenizer c.in_ok-state-in-Next.state c.call.new.tokenizer c.in-Next.is (onward-here ready_of step_of ends_of weight_of c.in-Next.name c.loop-state.tokenizer c.loop-state.invariant.alone ready) c.in_ok-state-in-Next.ensures.ok c.loop-state.invariant.goes)

pub loop-state-smaller-in-Next : goal.loop-state-smaller-in-Next
loop-state-smaller-in-Next c = (turned c).fewer

pub loop-state-preserved-in-Next : goal.loop-state-preserved-in-Next
loop-state-preserved-in-Next c =
    record { alone = rw c.in_ok-hand_over-in-Next.ensures.left (settled-alone c.call.new.tokenizer); goes = (turned c).goes }

pub loop-state-preserved-in-Some : goal.loop-state-preserved-in-Some
loop-state-preserved-in-Some c =
    let n = suc (weight_of c.args.start c.args.tokenizer.now) in
    let f = c.in-Some.attempt.now in
    let ok : Bool = c.match-state.ok in
    let now = c.resume-state.ensures in
    let before = c.loop-state.invariant in
    let waits = c.in-Some.ensures ∙ ap (λ fs. f ∷ fs) (sym c.pop.ensures.rest) in
    let is : c.loop-state.state ≡ answer ok = elim c.match-state.branch [ in-Ok w ↦ w.in-Ok.is ∙ ap answer (sym w.ok-is) | in-Nok w ↦ w.in-Nok.is ∙ ap answer (sym w.ok-is) ] in
    let turn = turned-out ready_of step_of ends_of weight_of n (ends_of c.args.start c.args.tokenizer.now) f c.pop.new.self ok c.loop-state.tokenizer before.alone (rw (waits, is) at before.goes) in
    record { alone = rw now.left (going_in-alone f ok c.loop-state.tokenizer before.alone); goes = rw (now.state, now.left) turn.goes }
