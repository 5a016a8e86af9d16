use Rattle.std.proofs.Common.{◌≡◌, ◌<◌, ◌∙◌, ap, arith, List, ℕ, suc, ◌∷◌, [], length, map, get_or, set}
use Rattle.std.proofs.lemmas.List.{length-map}
use Rattle.markdown_attention.specs.SizeNodes.{sizes_from}
use Rattle.markdown_attention.specs.declared.attention.sizes.SizeNode.{SizeNode}
use Rattle.markdown_attention.proofs.SizeNodeLemmas.{put-first}
use Rattle.markdown_attention.proofs.attention.sizes.Sizes.push_first.Goals as goal

pub returns : goal.returns
returns c =
    let nodes : List SizeNode = c.self.inside.nodes in
    let firsts : List ℕ = c.self.inside.firsts.items in
    let node : SizeNode = record { size = c.args.size; next = c.index-next.result.now } in
    let seen : length (map (sizes_from nodes) firsts) ≡ length c.args.self.now = ap length c.self.view_is in
    let within : c.args.run < length firsts = omega (arith, c.requires, seen, length-map firsts (sizes_from nodes)) in
    let newest : c.len.result ≡ suc (length nodes) = c.len.ensures ∙ ap length c.in_ok-push.ensures.ok in
    (λ i. map (sizes_from (c.in_ok-push.ensures.ok i)) (set firsts c.args.run (newest i)))
    ∙ put-first node nodes firsts c.args.run c.index-next.result.now within c.self.invariant.0 c.index-next.ensures
    ∙ ap (λ (lists : List (List ℕ)). set lists c.args.run (c.args.size ∷ get_or lists c.args.run [])) c.self.view_is
