use Rattle.std.proofs.Common.{add-one}
use Rattle.std.proofs.Math.Seq.{drop-cons}
use Rattle.markdown_inline.specs.markdown_event.declared.resolve.ResolveName.TheVariants as R
use Rattle.markdown_test_runs.proofs.passes.resolve_named.Goals as goal

pub loop-name-preserved : goal.loop-name-preserved
loop-name-preserved c =
    let here = drop-cons c.as_slice-name-items.result.now c.loop-name.name-index R.Label c.loop-name-test.true in
    let may = rw here at c.loop-name.invariant in
    rw add-one (may.1 c.call.new.tokenizer c.in_ok-call.ensures.ok)
