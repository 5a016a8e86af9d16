-- An array that is filled, one by one.
use Rattle.std.proofs.Common.{◌≡◌, ◌∙◌, sym, ap, ℕ, ◌+◌, ◌<◌, List, [], ◌∷◌, ◌++◌, get_or, set, length, map, take, arith}
use Rattle.std.proofs.lemmas.List.{map-append, take_more, take_more_set, length-set, take_all}

pub record IsFilledFrom {X Y : Type 0} (f : X → Y) (found : List X) (array : List Y) (at : ℕ) : Type 0 where
  pub long : length array ≡ length found
  pub front : take at array ≡ map f (take at found)

pub one_more : {X Y : Type 0} (f : X → Y) (found : List X) (array : List Y) (i : ℕ) (d : X) → i < length found → IsFilledFrom f found array i → IsFilledFrom f found (set array i (f (get_or found i d))) (i + 1)
one_more f found array i d h filled =
    let within : i < length array = omega (arith, h, filled.long) in
    record {
      long = length-set array i (f (get_or found i d)) ∙ filled.long;
      front =
          take_more_set array i (f (get_or found i d)) within
          ∙ ap (λ ys. ys ++ f (get_or found i d) ∷ []) filled.front
          ∙ sym (map-append f (take i found) (get_or found i d ∷ []))
          ∙ ap (map f) (sym (take_more found i d h));
    }

pub whole : {X Y : Type 0} (f : X → Y) (found : List X) (array : List Y) → IsFilledFrom f found array (length found) → array ≡ map f found
whole f found array filled =
    sym (take_all (length found) array (omega (arith, filled.long)))
    ∙ filled.front
    ∙ ap (map f) (take_all (length found) found (omega arith))
