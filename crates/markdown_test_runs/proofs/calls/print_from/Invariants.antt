use Rattle.std.proofs.Common.{◌≡◌, suc, []}
use Rattle.markdown_inline.specs.markdown_engine.StateRuns.{Goes}
use Rattle.markdown_inline.specs.markdown_engine.TurnCount.{ran, runs_out}
use Rattle.markdown_inline.specs.markdown_run.Layer.{ready_of, step_of, ends_of, weight_of}
use Rattle.markdown_test_runs.proofs.calls.print_from.Given as goal

-- a run of the states goes on from here
abbrev pub invariant-loop-state : goal.invariant-loop-state
invariant-loop-state l = record {
  alone : l.tokenizer.attempts ≡ [];
  goes : Goes ready_of ends_of weight_of (suc (weight_of l.fn.start l.fn.tokenizer)) (ends_of l.fn.start l.fn.tokenizer) l.waiting l.state l.tokenizer;
}

-- the turns that are left
abbrev pub decreases-loop-state : goal.decreases-loop-state
decreases-loop-state l =
    (runs_out (ran step_of (suc (weight_of l.fn.start l.fn.tokenizer))) l.waiting l.state l.tokenizer).turns
