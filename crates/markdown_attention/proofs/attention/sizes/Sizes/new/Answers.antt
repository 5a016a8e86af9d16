use Rattle.std.proofs.Common.{◌∙◌, map}
use Rattle.markdown_attention.specs.SizeNodes.{sizes_from}
use Rattle.markdown_attention.proofs.SizeNodeLemmas.{all-none}
use Rattle.markdown_attention.proofs.attention.sizes.Sizes.new.Goals as goal

pub returns : goal.returns
returns c = (λ i. map (sizes_from (c.new.ensures i)) (c.in_ok-vec.ensures.items_if_clones_equal (λ y e. e) i)) ∙ all-none c.args.count
