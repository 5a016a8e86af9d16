use Rattle.markdown_model.proofs.MergedDataIsApart.{merged_data_is_apart}
use Rattle.markdown_model.proofs.laws.merged_data_is_apart.Goals as goal

pub returns : goal.returns
returns c = merged_data_is_apart
