-- Where an event stands.
use Rattle.markdown_label_pass.proofs.LabelPassLaw.{place-get}
use Rattle.markdown_label_pass.proofs.label_groups.place.Goals as goal

pub returns : goal.returns
returns c = place-get c.args.events.now c.args.index c.bare_at.result c.requires c.bare_at.ensures.event
