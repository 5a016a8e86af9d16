use Rattle.std.proofs.Common.{add-one}
use Rattle.std.proofs.Math.Seq.{drop-cons}
use Rattle.markdown_event.specs.declared.resolve.ResolveName.TheVariants as R
use Rattle.markdown_engine.proofs.tokenizer.Tokenizer.resolve_all.Goals as goal

pub loop-name-preserved : goal.loop-name-preserved
loop-name-preserved g c =
    let here = drop-cons c.as_slice-name-items.result.now c.loop-name.name-index R.Label c.loop-name-test.true in
    let may = rw here at c.loop-name.invariant.may in
    let leads = rw here at c.loop-name.invariant.leads in
    record {
      may = rw add-one (may.1 c.resolve.new.tokenizer c.in_ok-resolve.ensures.ok);
      leads = rw add-one (λ U k. leads U (c.resolve.new.tokenizer, (c.in_ok-resolve.ensures.ok, k)));
    }
