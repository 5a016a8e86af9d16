use Rattle.std.proofs.Common.{◌∙◌, sym}
use Rattle.markdown_content.proofs.NestingLemmas.{Contains-any, any-Contains}
use Rattle.markdown_content.proofs.util.skip.is_one_of.Goals as goal

pub returns : goal.returns
returns c = (λ h. Contains-any c.args.names.now c.args.name (sym c.contains.ensures.value ∙ h), λ h. c.contains.ensures.value ∙ any-Contains c.args.names.now c.args.name h)
