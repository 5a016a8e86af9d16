-- Lists of sizes that stand in one list of nodes, the newest node first.
use Rattle.std.specs.Prelude.{ℕ, suc, ◌≤◌, ◌==◌, if◌then◌else◌, List, [], ◌∷◌, length}
use Rattle.markdown_attention.specs.declared.attention.sizes.SizeNode.{SizeNode}

-- the sizes from node n on: nodes are counted from 1, in the order in which they were put in
abbrev pub sizes_from : List SizeNode → ℕ → List ℕ
sizes_from [] n = []
sizes_from (x ∷ xs) n = if n == suc (length xs) then x.size ∷ sizes_from xs x.next else sizes_from xs n

-- each node goes on at one that was put in before it
abbrev pub AreLinked : List SizeNode → Type 0
AreLinked [] = Unit {0}
AreLinked (x ∷ xs) = (x.next ≤ length xs) × AreLinked xs
