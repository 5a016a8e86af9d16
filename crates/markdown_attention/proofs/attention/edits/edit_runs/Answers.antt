use Rattle.std.proofs.Common.{◌≡◌, ◌+◌, ◌∙◌, ℕ, get_or, [], List, ap, sym, subst}
use Rattle.markdown_attention.specs.NumberedPairs.{run_at, no_run}
use Rattle.markdown_attention.specs.declared.attention.pairing.Pair.{Pair}
use Rattle.markdown_attention.specs.declared.attention.runs.Sequence.{Sequence}
use Rattle.markdown_attention.specs.RunEvents.{marker_events}
use Rattle.markdown_attention.specs.RunEdits.{closed_sizes, point_in}
use Rattle.markdown_attention.specs.PairSizes.{sizes_of, added_for, AreRest, HasRoom}
use Rattle.markdown_attention.proofs.PairSizeSteps.{point-read, edits-more}
use Rattle.markdown_attention.proofs.SolePairLemmas.{room-from}
use Rattle.markdown_attention.proofs.ClosedPairs.{rest-of-all, next-stretch}
use Rattle.markdown_attention.proofs.attention.edits.edit_runs.Goals as goal

pub loop-run-init : goal.loop-run-init
loop-run-init c = record { edits = c.requires.empty; pairs = rest-of-all c.args.pairs.now c.requires.order }

pub edit_run-requires-clause-back : goal.edit_run-requires-clause-back
edit_run-requires-clause-back c = (c.requires.room c.loop-run.run-index c.loop-run-test.true).back

pub edit_run-requires-clause-room : goal.edit_run-requires-clause-room
edit_run-requires-clause-room c =
    let pairs : List Pair = c.args.pairs.now in
    let r : Sequence = run_at c.args.runs.now c.loop-run.run-index in
    let room : HasRoom c.args.events.now pairs c.args.backs.now r = c.requires.room c.loop-run.run-index c.loop-run-test.true in
    let number : r.number ≡ c.loop-run.run-index = c.requires.numbered c.loop-run.run-index c.loop-run-test.true in
    let s = next-stretch pairs c.loop-run.run-index c.loop-run.rest.now c.closed_count.result r.number number c.loop-run.invariant.pairs c.closed_count.ensures.closed c.closed_count.ensures.next in
    let own : sizes_of c.split_at.result.0.now ≡ closed_sizes r.number pairs = ap sizes_of c.split_at.ensures.front ∙ s.own ∙ ap (λ (g : ℕ). closed_sizes g pairs) (sym number) in
    room-from c.bare_at.result.point c.args.events.now pairs (sizes_of c.split_at.result.0.now) c.args.backs.now r (point-read c.args.events.now r.event c.bare_at.result room.event c.bare_at.ensures.event) own room

pub loop-run-preserved : goal.loop-run-preserved
loop-run-preserved c =
    let pairs : List Pair = c.args.pairs.now in
    let r : Sequence = run_at c.args.runs.now c.loop-run.run-index in
    let backs : List ℕ = get_or c.args.backs.now r.number [] in
    let room : HasRoom c.args.events.now pairs c.args.backs.now r = c.requires.room c.loop-run.run-index c.loop-run-test.true in
    let number : r.number ≡ c.loop-run.run-index = c.requires.numbered c.loop-run.run-index c.loop-run-test.true in
    let s = next-stretch pairs c.loop-run.run-index c.loop-run.rest.now c.closed_count.result r.number number c.loop-run.invariant.pairs c.closed_count.ensures.closed c.closed_count.ensures.next in
    let own : sizes_of c.split_at.result.0.now ≡ closed_sizes r.number pairs = ap sizes_of c.split_at.ensures.front ∙ s.own ∙ ap (λ (g : ℕ). closed_sizes g pairs) (sym number) in
    let p : c.bare_at.result.point ≡ point_in c.args.events.now r.event = point-read c.args.events.now r.event c.bare_at.result room.event c.bare_at.ensures.event in
    record {
      edits = edits-more (added_for c.args.events.now pairs c.args.backs.now) c.args.runs.now c.loop-run.run-index no_run c.loop-run.map c.edit_run.new.map
          (marker_events r.marker c.bare_at.result.point (sizes_of c.split_at.result.0.now) r.remaining backs)
          c.loop-run-test.true c.loop-run.invariant.edits (λ i. marker_events r.marker (p i) (own i) r.remaining backs) c.in_ok-edit_run.ensures;
      pairs = subst (AreRest pairs (c.loop-run.run-index + 1)) (sym c.split_at.ensures.back) s.behind;
    }
