use Rattle.std.proofs.Common.{◌+◌, ◌≤◌, length, drop, arith, ap}
use Rattle.markdown_block_line.specs.LineTags.{spaced_attribute}
use Rattle.markdown_block_line.proofs.RestValues.{rest-values, values-length}
use Rattle.markdown_block_line.proofs.TagReadings.{spans-rest, repeats-start, repeats-more, repeats-end}
use Rattle.markdown_block_line.proofs.tags.attributes_len.Goals as goal

pub loop-more-init : goal.loop-more-init
loop-more-init c = record { within = omega arith; read = λ cs h. repeats-start spaced_attribute cs }

pub loop-more-preserved : goal.loop-more-preserved
loop-more-preserved c =
    let len = c.loop-more.len in
    let more = c.in-Some.more in
    record {
      within = omega (arith, c.in-Some.ensures.within.1, c.loop-more.invariant.within);
      read = λ cs h.
          let l : len + more ≤ length cs = omega (arith, c.in-Some.ensures.within.1, c.loop-more.invariant.within, values-length cs, ap length h) in
          repeats-more spaced_attribute cs len (len + more) (c.loop-more.invariant.read cs h) (omega (arith, c.in-Some.ensures.within.0)) l
          (spans-rest spaced_attribute cs len more (c.in-Some.ensures.read (drop len cs) (rest-values len cs c.args.line.now h)));
    }

pub returns-clause-read : goal.returns-clause-read
returns-clause-read c = λ cs h. repeats-end spaced_attribute cs c.loop-more.len (c.loop-more.invariant.read cs h) (c.in_default.ensures.read (drop c.loop-more.len cs) (rest-values c.loop-more.len cs c.args.line.now h))
