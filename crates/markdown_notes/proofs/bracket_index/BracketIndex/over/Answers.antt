-- From one control or bracket to the next.
use Rattle.std.proofs.Common.{◌≡◌, ◌≤◌, ◌<◌, ◌+◌, List, ℕ, length, sym, subst, arith}
use Rattle.std.specs.List.{slice_range}
use Rattle.std.specs.Global.{Vec}
use Rattle.markdown_notes.specs.BracketIndex.{places_from}
use Rattle.markdown_notes.proofs.BracketIndexLemmas.{places-start, places-one, places-other, places-stretch, places-end, found-rises}
use Rattle.markdown_notes.proofs.bracket_index.BracketIndex.over.Goals.{then-bytes-at-eq91+in_ok-push, else-bytes-at-eq91}
use Rattle.markdown_notes.proofs.bracket_index.BracketIndex.over.Goals as goal

pub loop-at-init : goal.loop-at-init
loop-at-init c =
    let p = c.plain_end-at in
    record {
      first = omega (arith, p.ensures.from, c.min.ensures);
      last = p.ensures.to;
      places = places-stretch c.args.bytes.now c.new-brackets.result c.args.start c.min.result p.result c.new-places.result.items c.new-brackets.ensures p.ensures.from (λ some. omega (arith, some, p.ensures.to, c.min.ensures)) (omega (arith, p.ensures.to, c.min-stop.ensures)) p.ensures.plain (places-start c.args.bytes.now c.args.start c.min.result c.new-places.result.items (omega (arith, c.min.ensures)) c.new-places.ensures.items);
    }

pub loop-at-preserved : goal.loop-at-preserved
loop-at-preserved c =
    let bytes : List ℕ = c.args.bytes.now in
    let at : ℕ = c.loop-at.at in
    let p = c.plain_end-at-in-loop-at in
    let low : c.args.start ≤ at = omega (arith, c.loop-at.invariant.first, c.loop-at-test.true) in
    let high : at < length bytes = omega (arith, c.loop-at-test.true, c.min-stop.ensures) in
    let here : c.if-bytes-at-eq91.places.items ≡ places_from c.args.start (slice_range bytes c.args.start (at + 1)) =
    elim c.if-bytes-at-eq91.branch [
      | then-bytes-at-eq91+in_ok-push w ↦
          subst (λ (v : Vec ℕ). v.items ≡ places_from c.args.start (slice_range bytes c.args.start (at + 1))) (sym w.places-is)
          (places-one bytes c.args.start at c.loop-at.places.items w.push.new.self.items low high w.if-bytes-at-eq91.true c.loop-at.invariant.places w.in_ok-push.ensures.items)
      | else-bytes-at-eq91 w ↦
          subst (λ (v : Vec ℕ). v.items ≡ places_from c.args.start (slice_range bytes c.args.start (at + 1))) (sym w.places-is)
          (places-other bytes c.args.start at c.loop-at.places.items low high w.if-bytes-at-eq91.false c.loop-at.invariant.places)
    ] in
    record {
      first = omega (arith, c.loop-at.invariant.first, p.ensures.from);
      last = p.ensures.to;
      places = places-stretch bytes c.new-brackets.result c.args.start (at + 1) p.result c.if-bytes-at-eq91.places.items c.new-brackets.ensures p.ensures.from (λ some. omega (arith, low)) (omega (arith, p.ensures.to, c.min-stop.ensures)) p.ensures.plain here;
    }

pub invariant_of-result : goal.invariant_of-result
invariant_of-result c =
    found-rises c.args.start (slice_range c.args.bytes.now c.args.start c.loop-at.at) c.loop-at.places.items c.loop-at.invariant.places

pub returns : goal.returns
returns c = grind (arith, places-end)
