use Rattle.std.proofs.Common.{◌∙◌, sym}
use Rattle.markdown_blocks.proofs.FollowLines.{follow-none, follow-some}
use Rattle.markdown_blocks.proofs.read.follow.Goals as goal

pub returns-in_ok-stand-in-None-clause-tree : goal.returns-in_ok-stand-in-None-clause-tree
returns-in_ok-stand-in-None-clause-tree g c =
    c.in_ok-stand-in-None.ensures.tree ∙ follow-none c.args.rest.now.extensions g.T.HasText.has_text c.args.rest.now.bytes c.args.rest.now.codes c.args.reader.now c.requires.between (sym c.in-None.ensures.value)

pub returns-in_ok-follow_leaf-in-Some-clause-tree : goal.returns-in_ok-follow_leaf-in-Some-clause-tree
returns-in_ok-follow_leaf-in-Some-clause-tree g c =
    c.in_ok-follow_leaf-in-Some.ensures.tree ∙ follow-some c.args.rest.now.extensions g.T.HasText.has_text c.args.rest.now.bytes c.args.rest.now.codes c.args.reader.now _ (sym c.in-Some.ensures.value)
