use Rattle.markdown_model_laws.proofs.LinksHoldNoEmail.{links_hold_no_email}
use Rattle.markdown_model_laws.proofs.links_hold_no_email.Goals as goal

pub returns : goal.returns
returns c = links_hold_no_email
