use Rattle.std.proofs.Common.{◌≡◌, ◌<◌, ◌∙◌, sym, ap, arith}
use Rattle.markdown_block_model.specs.DocumentBlocks.{read_line}
use Rattle.markdown_blocks.specs.TreeDepth.{at_depth}
use Rattle.markdown_blocks.specs.BlockRows.{depth, whole_tree}
use Rattle.markdown_blocks.proofs.ReaderTrees.{whole-front}
use Rattle.markdown_blocks.proofs.ContainerWalks.{walk-lazy, walk-stand}
use Rattle.markdown_block_line.specs.LineBlocks.{extensions_of}
use Rattle.markdown_blocks.proofs.read.read_line.Goals as goal

pub returns-then-is_lazy-clause-tree : goal.returns-then-is_lazy-clause-tree
returns-then-is_lazy-clause-tree g c =
    let r = c.args.reader.now in
    let bytes = c.args.line.now.bytes in
    let on = c.go_on-depth.ensures in
    let k : c.go_on-depth.result.0 < depth r = omega (arith, on.within) in
    let same = on.bytes in
    rw same at c.in_ok-join.ensures.tree
    ∙ sym (on.tree g.T.HasText.has_text
    ∙ walk-lazy c.args.line.now.extensions g.T.HasText.has_text c.go_on-depth.result.0 (whole_tree bytes r) r.path c.go_on-depth.result.1.codes (whole-front bytes r c.requires.between) k (on.stops k) (rw (on.extensions, same) at (sym c.is_lazy.ensures ∙ c.if-is_lazy.true)))

pub returns-clause-tree : goal.returns-clause-tree
returns-clause-tree g c =
    let r = c.args.reader.now in
    let bytes = c.args.line.now.bytes in
    let on = c.go_on-depth.ensures in
    let k : c.go_on-depth.result.0 < depth r = omega (arith, on.within) in
    let same = on.bytes in
    rw (on.extensions, same) at c.in_ok-stand.ensures.tree
    ∙ rw (c.in_ok-close.ensures.depth, c.in_ok-close.ensures.tree bytes) (sym (on.tree g.T.HasText.has_text
    ∙ walk-stand c.args.line.now.extensions g.T.HasText.has_text c.go_on-depth.result.0 (whole_tree bytes r) r.path c.go_on-depth.result.1.codes (whole-front bytes r c.requires.between) k (on.stops k) (rw (on.extensions, same) at (sym c.is_lazy.ensures ∙ c.if-is_lazy.false))))

pub follow-requires-clause-texts : goal.follow-requires-clause-texts
follow-requires-clause-texts g c = rw (c.go_on-depth.ensures.bytes, c.go_on-depth.ensures.start) c.requires.texts

pub join-requires-clause-lazy : goal.join-requires-clause-lazy
join-requires-clause-lazy g c = sym c.is_lazy.ensures ∙ c.if-is_lazy.true

pub join-requires-clause-texts : goal.join-requires-clause-texts
join-requires-clause-texts g c = rw (c.go_on-depth.ensures.bytes, c.go_on-depth.ensures.start) c.requires.texts

pub stand-requires-clause-texts : goal.stand-requires-clause-texts
stand-requires-clause-texts g c = rw c.go_on-depth.ensures.bytes (c.in_ok-close.ensures.texts c.args.line.now.bytes c.args.line.now.start c.requires.between c.requires.texts)

pub returns-then-is_lazy-clause-texts : goal.returns-then-is_lazy-clause-texts
returns-then-is_lazy-clause-texts g c = rw (c.go_on-depth.ensures.bytes, c.go_on-depth.ensures.start) at c.in_ok-join.ensures.texts

pub returns-clause-texts : goal.returns-clause-texts
returns-clause-texts g c = rw (c.go_on-depth.ensures.bytes, c.go_on-depth.ensures.start) at c.in_ok-stand.ensures.texts

pub returns-then-depth-len-clause-tree : goal.returns-then-depth-len-clause-tree
returns-then-depth-len-clause-tree g c =
    let r = c.args.reader.now in
    let bytes = c.args.line.now.bytes in
    let on = c.go_on-depth.ensures in
    let same = on.bytes in
    let e : depth r ≡ c.go_on-depth.result.0 = omega arith in
    rw (on.extensions, same) at c.in_ok-follow.ensures.tree ∙ ap (λ n. at_depth n (read_line (extensions_of c.args.line.now.extensions) g.T.HasText.has_text c.go_on-depth.result.1.codes) (whole_tree bytes r)) e ∙ sym (on.tree g.T.HasText.has_text)
