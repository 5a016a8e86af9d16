-- A container holds what its lines are inside it.
use Rattle.std.proofs.Common.{◌≡◌, refl, List, [], ◌∷◌, Bool, Some}
use Rattle.markdown_content.specs.Codes.{Code}
use Rattle.markdown_block_model.specs.BlockTree.{Extensions, Container, Tree, and_container}
use Rattle.markdown_block_model.specs.DocumentBlocks.{rest_inside, read_line}
use Rattle.markdown_block_model.specs.BlockLaws.{ContainersHold}

step : (e : Extensions) (has_text : List Code → Bool) (c : Container) (q l : List Code) (before inside : Tree) → rest_inside c inside q ≡ Some l
    → read_line e has_text q (and_container before c inside) ≡ and_container before c (read_line e has_text l inside)
step e has_text c q l before inside h = rw h refl

pub containers_hold : ContainersHold
containers_hold e has_text c [] [] before inside h = refl
containers_hold e has_text c [] (l ∷ ls) before inside h = absurd h
containers_hold e has_text c (q ∷ qs) [] before inside h = absurd h
containers_hold e has_text c (q ∷ qs) (l ∷ ls) before inside h =
    rw (step e has_text c q l before inside h.0) (containers_hold e has_text c qs ls before (read_line e has_text l inside) h.1)
