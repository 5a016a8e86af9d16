use Rattle.std.proofs.Common.{ℕ, suc, ◌≡◌, ◌+◌, ◌-◌, ◌∙◌, List, sym, ap, subst, arith}
use Rattle.markdown_attention.specs.NumberedPairs.{run_at}
use Rattle.markdown_attention.specs.OpenRuns.{Passed, WalkFound}
use Rattle.markdown_attention.specs.declared.attention.runs.Sequence.{Sequence}
use Rattle.markdown_attention.proofs.attention.pairing.walk.Goals as goal

pub returns-then-do_sizes_fit-clause-found : goal.returns-then-do_sizes_fit-clause-found
returns-then-do_sizes_fit-clause-found c =
    let runs = c.args.runs.now in
    let list = runs.list in
    let number = c.look-opener.ensures.number in
    let probes : c.look-opener.new.self.probes ≡ c.loop-run.runs.probes + 1 = ap (λ x. x.probes) c.look-opener.ensures.counted in
    let opener : c.look-opener.result ≡ run_at list c.in-Some.run' = c.look-opener.ensures.run ∙ ap (λ (l : List Sequence). run_at l c.in-Some.run') c.loop-run.invariant.same_list in
    let at : c.loop-run.at ≡ suc c.in-Some.run' = omega (arith, c.in-Some.ensures.number) in
    let found : WalkFound c.args.options list c.args.older.now c.args.mark runs.turn c.args.head c.in-Some.run' (c.look-opener.new.self.probes - runs.probes) = record {
      refused = c.loop-run.runs.probes - runs.probes;
      passed = subst (λ (x : ℕ). Passed c.args.options list c.args.older.now c.args.mark runs.turn c.args.head (c.loop-run.runs.probes - runs.probes) x) at c.loop-run.invariant.passed;
      counted = omega (arith, probes, c.loop-run.invariant.low);
      unmarked = c.in-Some.ensures.past;
      fit = cc;
    } in
    subst (λ (x : ℕ). WalkFound c.args.options list c.args.older.now c.args.mark runs.turn c.args.head x (c.look-opener.new.self.probes - runs.probes)) (sym number) found

pub returns-clause-none : goal.returns-clause-none
returns-clause-none c closing = record {
  refused = c.loop-run.runs.probes - c.args.runs.now.probes;
  next = c.loop-run.at;
  passed = c.loop-run.invariant.passed;
  counted = omega arith;
  marked = omega (arith, c.in_default.ensures.none);
}
