use Rattle.std.proofs.Common.{◌∙◌, ap}
use Rattle.std.proofs.lemmas.Bool.{eqb-true}
use Rattle.markdown_attention.specs.SizeNodes.{sizes_from}
use Rattle.markdown_attention.proofs.SizeNodeLemmas.{sizes-of-run, from-none}
use Rattle.markdown_attention.proofs.attention.sizes.Sizes.is_none.Goals as goal

pub returns : goal.returns
returns c = λ none.
    sizes-of-run c.self.inside.nodes c.self.inside.firsts.items c.args.self.now c.args.run c.index.result.now c.self.view_is c.requires c.index.ensures
    ∙ ap (sizes_from c.self.inside.nodes) (eqb-true c.index.result.now 0 none)
    ∙ from-none c.self.inside.nodes
