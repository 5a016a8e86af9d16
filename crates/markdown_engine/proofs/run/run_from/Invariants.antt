use Rattle.std.proofs.Common.{◌≡◌, suc, Bool, []}
use Rattle.markdown_engine.specs.StateRuns.{ends_state, weight_state, Goes}
use Rattle.markdown_engine.specs.CallsWithAttempts.{CallsReach}
use Rattle.markdown_engine.specs.TurnCount.{ran, runs_out}
use Rattle.markdown_engine.specs.declared.tokenizer.Tokenizer.{Tokenizer}
use Rattle.markdown_engine.proofs.run.run_from.Given as goal

abbrev pub invariant-loop-state : goal.invariant-loop-state
invariant-loop-state g l = record {
  alone : l.tokenizer.attempts ≡ [];
  goes : Goes g.L.Layer.ready g.L.Layer.ends g.L.Layer.weight (suc (weight_state g.L.Layer.weight l.fn.start l.fn.tokenizer)) (ends_state g.L.Layer.ends l.fn.start l.fn.tokenizer) l.waiting l.state l.tokenizer;
  calls : (ok : Bool) (U : Tokenizer) → CallsReach g.L.Layer.ready g.L.Layer.step l.waiting l.state l.tokenizer ok U →
      CallsReach g.L.Layer.ready g.L.Layer.step [] l.fn.start l.fn.tokenizer ok U;
}

abbrev pub decreases-loop-state : goal.decreases-loop-state
decreases-loop-state g l =
    (runs_out (ran g.L.Layer.step (suc (weight_state g.L.Layer.weight l.fn.start l.fn.tokenizer))) l.waiting l.state l.tokenizer).turns
