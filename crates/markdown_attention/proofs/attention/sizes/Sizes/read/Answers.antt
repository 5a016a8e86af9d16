use Rattle.std.proofs.Common.{◌≡◌, ◌+◌, ◌-◌, ◌++◌, ◌∙◌, ap, subst, sym, arith, List, ℕ, [], ◌∷◌, length, append_assoc, append-nil}
use Rattle.markdown_attention.specs.SizeNodes.{sizes_from}
use Rattle.markdown_attention.specs.declared.attention.sizes.SizeNode.{SizeNode}
use Rattle.markdown_attention.proofs.SizeNodeLemmas.{SizesFollow, read-node, from-none}
use Rattle.markdown_attention.proofs.attention.sizes.Sizes.read.Goals as goal

follows : (c : goal.In_ok-push) → SizesFollow c.self.inside.nodes c.loop-at.at c.at-node.result.now
follows c =
    let nodes : List SizeNode = c.self.inside.nodes in
    let k : ℕ = c.len.result - c.loop-at.at in
    let placed : k + c.loop-at.at ≡ length nodes = omega (arith, c.loop-at.invariant.within, c.len.ensures) in
    subst (λ (x : SizeNode). SizesFollow nodes c.loop-at.at x) (sym c.at-node.ensures) (read-node nodes c.loop-at.at k c.at-node.result.now c.self.invariant.1 c.loop-at-test.true placed)

pub loop-at-smaller : goal.loop-at-smaller
loop-at-smaller c = (follows c).before

pub loop-at-preserved : goal.loop-at-preserved
loop-at-preserved c =
    let next : ℕ = c.at-node.result.now.next in
    let left : List ℕ = sizes_from c.self.inside.nodes next in
    let size : List ℕ = c.at-node.result.now.size ∷ [] in
    let before = (follows c).before in
    record {
      within = omega (arith, before, c.loop-at.invariant.within);
      sizes = ap (λ xs. xs ++ left) c.in_ok-push.ensures.items
          ∙ append_assoc c.loop-at.into.items size left
          ∙ ap (λ xs. c.loop-at.into.items ++ xs) (sym (follows c).sizes)
          ∙ c.loop-at.invariant.sizes;
    }

pub returns : goal.returns
returns c =
    let none : c.loop-at.at ≡ 0 = omega (arith, c.loop-at-test.false) in
    sym (append-nil c.loop-at.into.items)
    ∙ ap (λ xs. c.loop-at.into.items ++ xs) (sym (ap (sizes_from c.self.inside.nodes) none ∙ from-none c.self.inside.nodes))
    ∙ c.loop-at.invariant.sizes
