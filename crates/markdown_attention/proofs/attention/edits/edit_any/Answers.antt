use Rattle.std.proofs.Common.{◌∙◌}
use Rattle.markdown_attention.specs.declared.attention.runs.Sequence.{Sequence}
use Rattle.markdown_attention.proofs.PairSizeSteps.{events-plain}
use Rattle.markdown_attention.proofs.attention.edits.edit_any.Goals as goal

pub add_slice-requires : goal.add_slice-requires
add_slice-requires c =
    let r : Sequence = c.args.run.now in
    events-plain r.marker c.args.from c.deref.result.now r.remaining c.deref-2.result.now _ (c.deref-3.ensures.value ∙ c.in_ok-run_events.ensures)
