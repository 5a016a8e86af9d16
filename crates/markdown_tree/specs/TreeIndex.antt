-- What a tree keeps for each of its events.
use Rattle.std.specs.Prelude.{ℕ, suc, List, [], ◌∷◌, Option, slice_get}
use Rattle.markdown_content.specs.Nesting.{opened}
use Rattle.markdown_event.specs.declared.event.Event.{Event}
use Rattle.markdown_tree.specs.Nodes.{exits_ahead}

-- for each event the number of the innermost Enter that is open before it; the first event has number n, and before it these are open
abbrev pub parents_from : ℕ → List ℕ → List Event → List (Option ℕ)
parents_from n open_now [] = []
parents_from n open_now (e ∷ es) = slice_get open_now 0 ∷ parents_from (suc n) (opened n e.kind open_now) es

abbrev pub parents_of : List Event → List (Option ℕ)
parents_of es = parents_from 0 [] es

-- for each event the number of the first Exit behind it that ends no Enter behind it
abbrev pub exits_from : ℕ → List Event → List (Option ℕ)
exits_from n [] = []
exits_from n (e ∷ es) = slice_get (exits_ahead (suc n) es) 0 ∷ exits_from (suc n) es

abbrev pub exits_of : List Event → List (Option ℕ)
exits_of es = exits_from 0 es
