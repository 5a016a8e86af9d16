use Rattle.markdown_attention.proofs.RunsInOrderMayPair.{in-order-may_pair}
use Rattle.markdown_model_laws.proofs.runs_in_order_may_pair.Goals as goal

pub returns : goal.returns
returns c = in-order-may_pair
