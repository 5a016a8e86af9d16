use Rattle.std.proofs.Common.{◌∙◌, ap, ◌++◌, ◌<◌, arith, get_or}
use Rattle.markdown_html_model.specs.Escaped.{escaped_byte}
use Rattle.markdown_html_model.proofs.KeptBytes.{kept-range, range_more, range_end}
use Rattle.markdown_html_model.proofs.escape.push_escaped_between.Goals as goal

pub returns-then-kept-to : goal.returns-then-kept-to
returns-then-kept-to c =
    let xs = c.args.bytes.now in
    let j = c.in_ok-kept.kept in
    range_end _ c.loop-kept.out.items _ xs c.loop-kept.at j c.args.to c.loop-kept.invariant.whole
    (kept-range xs c.loop-kept.at j c.in_ok-kept.ensures.low (omega (arith, c.in_ok-kept.ensures.high, c.requires.high)) c.in_ok-kept.ensures.kept)
    c.if-kept-to.true c.in_ok-kept.ensures.out

pub loop-kept-preserved : goal.loop-kept-preserved
loop-kept-preserved c =
    let xs = c.args.bytes.now in
    let j = c.in_ok-kept.kept in
    let below : j < c.args.to = omega (arith, c.in_ok-kept.ensures.high, c.if-kept-to.false) in
    record {
      low = omega (arith, c.in_ok-kept.ensures.low, c.loop-kept.invariant.low);
      high = omega arith;
      whole = range_more _ c.loop-kept.out.items _ xs c.loop-kept.at j c.args.to c.in_ok-kept.ensures.low below c.requires.high c.loop-kept.invariant.whole
          (kept-range xs c.loop-kept.at j c.in_ok-kept.ensures.low (omega (arith, c.requires.high)) c.in_ok-kept.ensures.kept)
          (c.in_ok-push_byte.ensures ∙ ap (λ bs. bs ++ escaped_byte (get_or xs j 0)) c.in_ok-kept.ensures.out);
    }
