use Rattle.std.proofs.Common.{◌≡◌, ◌++◌, ◌∷◌, ◌∙◌, [], List, OnOk, false, ap, get_or, subst}
use Rattle.markdown_event.specs.declared.event.Event.{Event}
use Rattle.markdown_engine_events.specs.MarkedEvents.{marked}
use Rattle.markdown_attention.specs.declared.attention.runs.Sequence.{Sequence}
use Rattle.markdown_attention.specs.PairSizes.{sizes_of}
use Rattle.markdown_attention.proofs.SolePairLemmas.{closing-alone, opening-alone}
use Rattle.markdown_attention.proofs.attention.edits.edit_run.Goals as goal

pub returns-in-Closing : goal.returns-in-Closing
returns-in-Closing c =
    let r : Sequence = c.args.run.now in
    subst (λ (es : List Event). OnOk c.add_marked.result (c.add_marked.new.self ≡ c.args.map.now ++ (record { at = r.event; remove = 2; events = es; before = false }) ∷ []))
    (ap (λ p. marked (c.args.from ∷ p ∷ []) c.closing.result) c.shifted.ensures ∙ c.closing.ensures.events c.args.from ∙ closing-alone r.marker c.args.from (sizes_of c.args.fronts.now) (get_or c.args.backs.now r.number []) r.remaining c.in-Closing.size c.in-Closing.ensures)
    c.add_marked.ensures.ok

pub returns-in-Opening : goal.returns-in-Opening
returns-in-Opening c =
    let r : Sequence = c.args.run.now in
    subst (λ (es : List Event). OnOk c.add_marked-in-Opening.result (c.add_marked-in-Opening.new.self ≡ c.args.map.now ++ (record { at = r.event; remove = 2; events = es; before = false }) ∷ []))
    (ap (λ p. marked (c.args.from ∷ p ∷ []) c.opening.result) c.shifted-in-Opening.ensures ∙ c.opening.ensures.events c.args.from ∙ opening-alone r.marker c.args.from (sizes_of c.args.fronts.now) (get_or c.args.backs.now r.number []) r.remaining c.in-Opening.size c.in-Opening.ensures)
    c.add_marked-in-Opening.ensures.ok
