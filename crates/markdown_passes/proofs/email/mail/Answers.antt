use Rattle.std.proofs.Common.{◌≡◌, ◌∙◌, List, OnOk, ap, sym, subst}
use Rattle.markdown_engine_events.specs.Edits.{CanEdit, edited}
use Rattle.markdown_event.specs.declared.event.Event.{Event}
use Rattle.markdown_engine_events.specs.declared.util.edit_map.Edit.{Edit}
use Rattle.markdown_passes.proofs.EmailPassLaw.{mailed-tree}
use Rattle.markdown_passes.proofs.EmailEditLemmas.{can-mail}
use Rattle.markdown_passes.proofs.email.mail.Goals as goal

pub consume-requires : goal.consume-requires
consume-requires c =
    subst (λ (log : List Edit). CanEdit log c.args.events.now) (sym c.in_ok-mail_each.ensures) (can-mail c.args.bytes.now c.args.events.now c.requires.places)

pub returns-clause-mailed : goal.returns-clause-mailed
returns-clause-mailed c t h e =
    subst (λ (es : List Event). OnOk c.consume.result (c.consume.new.events ≡ es)) (ap (λ (log : List Edit). edited log c.args.events.now) c.in_ok-mail_each.ensures ∙ mailed-tree c.args.bytes.now t h c.args.events.now e) c.consume.ensures.ok
