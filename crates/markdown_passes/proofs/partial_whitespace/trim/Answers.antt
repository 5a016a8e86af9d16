use Rattle.std.proofs.Common.{◌≡◌, ◌∙◌, List, OnOk, ap, sym, subst}
use Rattle.markdown_engine_events.specs.Edits.{CanEdit, edited}
use Rattle.markdown_event.specs.declared.event.Event.{Event}
use Rattle.markdown_engine_events.specs.declared.util.edit_map.Edit.{Edit}
use Rattle.markdown_passes.specs.TrimmedEvents.{breaks_of}
use Rattle.markdown_passes.proofs.TrimPassLaw.{trimmed-tree}
use Rattle.markdown_passes.proofs.TrimEdits.{can-trim}
use Rattle.markdown_passes.proofs.partial_whitespace.trim.Goals as goal

pub consume-requires : goal.consume-requires
consume-requires c =
    subst (λ (log : List Edit). CanEdit log c.args.events.now) (sym c.in_ok-trim_each.ensures) (can-trim c.args.bytes.now (breaks_of c.args.trimming.hard) c.args.trimming.whole c.args.events.now c.requires.places)

pub returns-clause-trimmed : goal.returns-clause-trimmed
returns-clause-trimmed c t h e =
    subst (λ (es : List Event). OnOk c.consume.result (c.consume.new.events ≡ es)) (ap (λ (log : List Edit). edited log c.args.events.now) c.in_ok-trim_each.ensures ∙ trimmed-tree c.args.bytes.now (breaks_of c.args.trimming.hard) c.args.trimming.whole t h c.args.events.now e) c.consume.ensures.ok
