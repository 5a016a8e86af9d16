use Rattle.std.proofs.Common.{◌∙◌, ◌-◌, arith, true, false, sym, ap, subst}
use Rattle.markdown_notes.specs.RunIndex.{with_run, AreEntriesInOrder}
use Rattle.markdown_notes.proofs.RunIndexLemmas.{start-entries, asked-entries, found-past, found-at, run-shorter, found-all}
use Rattle.markdown_notes.proofs.RunIndexOrder.{none-ordered}
use Rattle.markdown_content.proofs.StretchLemmas.{left-behind}
use Rattle.markdown_notes.proofs.run_index.RunIndex.over.Goals as goal

pub loop-code-init : goal.loop-code-init
loop-code-init c =
    (start-entries c.args.asked c.args.cursor.now c.restart-place.result c.new-last.result.items c.restart-place.ensures c.new-last.ensures.items, subst AreEntriesInOrder (sym c.new-last.ensures.items) none-ordered)

pub put-requires : goal.put-requires
put-requires c = c.loop-code.invariant.1

pub loop-code-smaller-in-Continue-1 : goal.loop-code-smaller-in-Continue-1
loop-code-smaller-in-Continue-1 c = grind (arith, left-behind, run-shorter)

pub loop-code-preserved-in-Continue-1 : goal.loop-code-preserved-in-Continue-1
loop-code-preserved-in-Continue-1 c = (
  found-past c.args.asked c.in-Some.code c.seek.new.self c.pass_run.new.cursor c.args.cursor.now.codes c.loop-code.last.items c.put.new.last.items (sym c.seek.ensures.code ∙ c.in-Some.is) c.pass_run.ensures
      (c.in_ok-put.ensures.ok
      ∙ ap (λ n. with_run true (c.in-Some.code, n - c.passed-begins.result) c.passed-begins.result c.loop-code.last.items) c.passed.ensures
      ∙ ap (λ n. with_run true (c.in-Some.code, c.pass_run.new.cursor.at - n) n c.loop-code.last.items) c.passed-begins.ensures
      ∙ asked-entries c.args.asked c.in-Some.code (c.pass_run.new.cursor.at - c.seek.new.self.at) c.seek.new.self.at true c.loop-code.last.items (sym c.if-contains.true ∙ c.contains.ensures))
      (found-at c.args.asked c.loop-code.place c.seek.new.self c.args.cursor.now.codes c.loop-code.last.items c.seek.ensures.place c.loop-code.invariant.0),
  c.in_ok-put.ensures.order,
)

pub loop-code-smaller : goal.loop-code-smaller
loop-code-smaller c = grind (arith, left-behind, run-shorter)

pub loop-code-preserved : goal.loop-code-preserved
loop-code-preserved c = (
  found-past c.args.asked c.in-Some.code c.seek.new.self c.pass_run.new.cursor c.args.cursor.now.codes c.loop-code.last.items c.loop-code.last.items (sym c.seek.ensures.code ∙ c.in-Some.is) c.pass_run.ensures
      (asked-entries c.args.asked c.in-Some.code (c.pass_run.new.cursor.at - c.seek.new.self.at) c.seek.new.self.at false c.loop-code.last.items (sym c.if-contains.false ∙ c.contains.ensures))
      (found-at c.args.asked c.loop-code.place c.seek.new.self c.args.cursor.now.codes c.loop-code.last.items c.seek.ensures.place c.loop-code.invariant.0),
  c.loop-code.invariant.1,
)

pub invariant_of-result : goal.invariant_of-result
invariant_of-result c = c.loop-code.invariant.1

pub returns : goal.returns
returns c =
    found-all c.args.asked c.seek.new.self c.args.cursor.now.codes c.loop-code.last.items (sym c.seek.ensures.code ∙ c.in_default.is)
    (found-at c.args.asked c.loop-code.place c.seek.new.self c.args.cursor.now.codes c.loop-code.last.items c.seek.ensures.place c.loop-code.invariant.0)
