use Rattle.std.proofs.Common.{◌∙◌, ◌∷◌, ◌++◌, [], List, ap, refl, false}
use Rattle.markdown_engine_events.specs.declared.util.edit_map.Edit.{Edit}
use Rattle.markdown_engine_events.specs.declared.util.edit_map.Entry.{Entry}
use Rattle.markdown_engine_events.specs.MarkedEvents.{marked}
use Rattle.markdown_engine_events.proofs.MarkLemmas.{marked-plain}
use Rattle.markdown_engine_events.proofs.EditOrder.{kept-seen, pushed-seen, taken-back, view-seen}
use Rattle.markdown_engine_events.proofs.util.edit_map.EditMap.add_marked.Goals as goal

pub invariant_of-self : goal.invariant_of-self
invariant_of-self g c =
    kept-seen c.self.inside.comes c.push_marks.new.comes c.self.inside.log c.self.inside.log c.in_err-push_marks.ensures.err refl c.self.invariant

pub invariant_of-self-in-Ok : goal.invariant_of-self-in-Ok
invariant_of-self-in-Ok g c =
    let entry : Entry = record { at = c.args.at; remove = c.args.remove; from = c.len-from.result; to = c.len.result; before = false } in
    (pushed-seen c.self.inside.comes c.push_marks.new.comes (marked c.args.points c.args.marks.now) c.self.inside.log c.push.new.self entry c.in_ok-push_marks.ensures.ok c.in-Ok.ensures.ok c.len-from.ensures c.len.ensures c.self.invariant (marked-plain c.args.points c.args.marks.now)).1

pub invariant_of-self-in-Err : goal.invariant_of-self-in-Err
invariant_of-self-in-Err g c =
    kept-seen c.self.inside.comes c.truncate.new.self c.self.inside.log c.push.new.self (taken-back c.self.inside.comes c.truncate.new.self c.push_marks.new.comes (marked c.args.points c.args.marks.now) c.len-from.result c.truncate.ensures c.in_ok-push_marks.ensures.ok c.len-from.ensures) c.in-Err.ensures.err c.self.invariant

pub returns-in-Ok-clause-ok : goal.returns-in-Ok-clause-ok
returns-in-Ok-clause-ok g c =
    let entry : Entry = record { at = c.args.at; remove = c.args.remove; from = c.len-from.result; to = c.len.result; before = false } in
    (pushed-seen c.self.inside.comes c.push_marks.new.comes (marked c.args.points c.args.marks.now) c.self.inside.log c.push.new.self entry c.in_ok-push_marks.ensures.ok c.in-Ok.ensures.ok c.len-from.ensures c.len.ensures c.self.invariant (marked-plain c.args.points c.args.marks.now)).0 ∙ ap (λ (log : List Edit). log ++ (record { at = c.args.at; remove = c.args.remove; events = marked c.args.points c.args.marks.now; before = false }) ∷ []) c.self.view_is

pub returns-in-Err-clause-err : goal.returns-in-Err-clause-err
returns-in-Err-clause-err g c =
    view-seen c.self.inside.comes c.truncate.new.self c.self.inside.log c.push.new.self c.args.self.now (taken-back c.self.inside.comes c.truncate.new.self c.push_marks.new.comes (marked c.args.points c.args.marks.now) c.len-from.result c.truncate.ensures c.in_ok-push_marks.ensures.ok c.len-from.ensures) c.in-Err.ensures.err c.self.view_is
