use Rattle.std.proofs.Common.{◌≡◌, List, length, subst, OnOk}
use Rattle.markdown_engine_events.specs.declared.util.edit_map.Edit.{Edit}
use Rattle.markdown_attention.specs.NumberedPairs.{run_at}
use Rattle.markdown_attention.proofs.PairSizeSteps.{edits-are, room-by}
use Rattle.markdown_attention.proofs.attention.edits.mark_runs.Goals as goal

pub edit_runs-requires-clause-room : goal.edit_runs-requires-clause-room
edit_runs-requires-clause-room c = λ i l.
    room-by c.args.events.now (length c.args.runs.now) c.args.pairs.now c.in_ok-backs.backs (run_at c.args.runs.now i) c.in_ok-backs.ensures.sizes c.in_ok-backs.ensures.len (c.requires.room i l)

pub returns : goal.returns
returns c =
    subst (λ (log : List Edit). OnOk c.edit_runs.result (c.edit_runs.new.map ≡ log))
    (edits-are c.args.events.now c.args.pairs.now c.in_ok-backs.backs c.args.runs.now c.in_ok-backs.ensures.sizes)
    c.edit_runs.ensures
