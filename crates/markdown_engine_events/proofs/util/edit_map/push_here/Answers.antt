use Rattle.std.proofs.Common.{◌≡◌, List, ◌∙◌, ◌++◌, arith, ap, sym, append_assoc}
use Rattle.markdown_event.specs.declared.event.Event.{Event}
use Rattle.markdown_engine_events.proofs.EditOrder.{fresh-read, entry, one-added, one-removed}
use Rattle.markdown_engine_events.proofs.util.edit_map.push_here.Goals as goal

joined : (xs fronts backs ys zs : List Event) → ys ≡ xs ++ fronts → zs ≡ ys ++ backs → zs ≡ xs ++ (fronts ++ backs)
joined xs fronts backs ys zs h g = g ∙ ap (λ x. x ++ backs) h ∙ append_assoc xs fronts backs

pub extend_fresh-requires : goal.extend_fresh-requires
extend_fresh-requires c =
    fresh-read c.args.edits.now.comes.now (entry c.args.edits.now.entries.now 0) _ c.requires.brought.unlinked c.brought.ensures

pub returns-then-edits-eq1-clause-done : goal.returns-then-edits-eq1-clause-done
returns-then-edits-eq1-clause-done c =
    c.in_ok-extend_fresh.ensures.ok ∙ ap (λ x. c.args.done.now ++ x) (c.brought.ensures ∙ sym (one-added c.args.edits.now.comes.now c.args.at c.args.edits.now.entries.now c.if-edits-eq1.true c.requires.here))

pub returns-then-edits-eq1-clause-removed : goal.returns-then-edits-eq1-clause-removed
returns-then-edits-eq1-clause-removed c =
    omega (arith, one-removed c.args.edits.now.comes.now c.args.at c.args.edits.now.entries.now c.if-edits-eq1.true c.requires.here)

pub returns-clause-done : goal.returns-clause-done
returns-clause-done c = joined _ _ _ _ _ c.in_ok-push_fronts.ensures c.in_ok-push_backs.ensures
