use Rattle.std.proofs.Common.{◌≡◌, ◌<◌, ◌≤◌, ◌+◌, ◌-◌, ◌∙◌, ap, subst, sym, arith, List, ℕ, ◌∷◌, length}
use Rattle.std.proofs.lemmas.List.{length-map}
use Rattle.std.proofs.lemmas.List.Elements.{All-get_or}
use Rattle.markdown_attention.specs.SizeNodes.{sizes_from}
use Rattle.markdown_attention.specs.declared.attention.sizes.SizeNode.{SizeNode}
use Rattle.markdown_attention.proofs.SizeNodeLemmas.{SizesFollow, read-node, sizes-of-run, from-none}
use Rattle.markdown_attention.proofs.attention.sizes.Sizes.sole.Goals as goal

pub returns-then-node-eq0 : goal.returns-then-node-eq0
returns-then-node-eq0 c =
    let nodes : List SizeNode = c.self.inside.nodes in
    let firsts : List ℕ = c.self.inside.firsts.items in
    let at : ℕ = c.index-at.result.now in
    let node : SizeNode = c.at-node.result.now in
    let seen = ap length c.self.view_is in
    let run-within : c.args.run < length firsts = omega (arith, c.requires, seen, length-map firsts (sizes_from nodes)) in
    let below : at ≤ length nodes = subst (λ (n : ℕ). n ≤ length nodes) (sym c.index-at.ensures) (All-get_or (λ (n : ℕ). n ≤ length nodes) firsts c.args.run at run-within c.self.invariant.0) in
    let k : ℕ = c.len.result - at in
    let placed : k + at ≡ length nodes = omega (arith, below, c.len.ensures) in
    let some : 0 < at = omega (arith, c.if-at-eq0.false) in
    let follows : SizesFollow nodes at node = subst (λ (x : SizeNode). SizesFollow nodes at x) (sym c.at-node.ensures) (read-node nodes at k node c.self.invariant.1 some placed) in
    sizes-of-run nodes firsts c.args.self.now c.args.run at c.self.view_is c.requires c.index-at.ensures
    ∙ follows.sizes
    ∙ ap (λ (ys : List ℕ). node.size ∷ ys) (ap (sizes_from nodes) c.if-node-eq0.true ∙ from-none nodes)
