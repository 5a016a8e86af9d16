-- A byte that may begin the sequence settles its place, and none behind it does.
use Rattle.std.proofs.Common.{◌≡◌, ◌<◌, ◌+◌, length, take, sym, ◌∙◌, arith}
use Rattle.std.proofs.lemmas.List.{length-take-le}
use Rattle.markdown_notes.proofs.SequenceBytes.{BeginsNowhere, begins-last, bytes-behind, nowhere-before, nowhere-here}
use Rattle.markdown_notes.proofs.sequence_index.last_of.Goals as goal

pub returns-then-begins_at : goal.returns-then-begins_at
returns-then-begins_at c =
    λ cs h.
    let size : length (take c.loop-at.end c.args.bytes.now) ≡ c.loop-at.end = length-take-le c.loop-at.end c.args.bytes.now c.loop-at.invariant.0 in
    let high : c.in-Some.at < length (take c.loop-at.end c.args.bytes.now) = c.in-Some.ensures.0.high in
    let lt : c.in-Some.at < length c.args.bytes.now = omega (arith, high, size, c.loop-at.invariant.0) in
    let none : BeginsNowhere c.args.sequence cs (c.in-Some.at + 1) =
    nowhere-before c.args.sequence c.args.bytes.now cs c.first_bytes-one.result (c.in-Some.at + 1) c.loop-at.end h c.first_bytes-one.ensures (omega (arith, high, size)) c.loop-at.invariant.0 c.in-Some.ensures.0.after (c.loop-at.invariant.1 cs h) in
    begins-last c.args.sequence c.args.bytes.now cs c.in-Some.at h lt none (sym (c.begins_at.ensures _ (bytes-behind c.args.bytes.now cs c.in-Some.at h)) ∙ c.if-begins_at.true)

pub loop-at-preserved : goal.loop-at-preserved
loop-at-preserved c =
    let size : length (take c.loop-at.end c.args.bytes.now) ≡ c.loop-at.end = length-take-le c.loop-at.end c.args.bytes.now c.loop-at.invariant.0 in
    let high : c.in-Some.at < length (take c.loop-at.end c.args.bytes.now) = c.in-Some.ensures.0.high in
    let lt : c.in-Some.at < length c.args.bytes.now = omega (arith, high, size, c.loop-at.invariant.0) in (
      omega (arith, lt),
      λ cs h.
          nowhere-here c.args.sequence c.args.bytes.now cs c.in-Some.at h lt
          (nowhere-before c.args.sequence c.args.bytes.now cs c.first_bytes-one.result (c.in-Some.at + 1) c.loop-at.end h c.first_bytes-one.ensures (omega (arith, high, size)) c.loop-at.invariant.0 c.in-Some.ensures.0.after (c.loop-at.invariant.1 cs h))
          (sym (c.begins_at.ensures _ (bytes-behind c.args.bytes.now cs c.in-Some.at h)) ∙ c.if-begins_at.false),
    )

pub returns : goal.returns
returns c =
    λ cs h.
    sym (nowhere-before c.args.sequence c.args.bytes.now cs c.first_bytes-one.result 0 c.loop-at.end h c.first_bytes-one.ensures (omega arith) c.loop-at.invariant.0 c.in_default.ensures (c.loop-at.invariant.1 cs h))
