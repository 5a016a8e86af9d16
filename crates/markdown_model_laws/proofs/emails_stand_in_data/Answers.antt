use Rattle.markdown_model_laws.proofs.EmailsInDataLaws.{emails_stand_in_data}
use Rattle.markdown_model_laws.proofs.emails_stand_in_data.Goals as goal

pub returns : goal.returns
returns c = emails_stand_in_data
