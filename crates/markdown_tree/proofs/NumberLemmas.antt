-- The numbers of definitions where one more is added.
use Rattle.std.proofs.Common.{◌≡◌, ℕ, ◌+◌, Bool, List, [], ◌∷◌, ◌++◌, length, Option, None, Some, cond, arith}
use Rattle.std.specs.List.{position_from}
use Rattle.std.specs.Option.{IsSome}
use Rattle.std.specs.Str.{bytes_eq}
use Rattle.std.proofs.lemmas.Bool.{false≢true}
use Rattle.std.proofs.lemmas.Iterator.Adapters.{position_from-zero}
use Rattle.std.proofs.lemmas.Slice.Eq.{bytes_eq-Decides}
use Rattle.markdown_tree.specs.Numbers.{number_of}

-- the last of a list is found where no other is
abbrev pub or_last : {A : Type 0} → Option ℕ → Bool → List A → ℕ → Option ℕ
or_last (Some n) last xs i = Some n
or_last None last xs i = cond last (Some (i + length xs)) None

pub from-more : {A : Type 0} (p : A → Bool) (i : ℕ) (xs : List A) (y : A) → position_from p i (xs ++ y ∷ []) ≡ or_last (position_from p i xs) (p y) xs i
from-more p i [] y = grind arith
from-more p i (x ∷ xs) y = let h = from-more p (i + 1) xs y in grind (arith, h)

pub number-more : (q key : List ℕ) (ids : List (List ℕ)) → number_of key ids ≡ None → number_of q (ids ++ key ∷ []) ≡ cond (bytes_eq key q) (Some (length ids)) (number_of q ids)
number-more q key ids h = grind (arith, position_from-zero (bytes_eq q) ids, position_from-zero (bytes_eq q) (ids ++ key ∷ []), from-more (bytes_eq q) 0 ids key, bytes_eq-Decides key q, bytes_eq-Decides q key)

-- one that is there already changes no number
pub number-later : (q key : List ℕ) (ids : List (List ℕ)) → IsSome (number_of key ids) → number_of q (ids ++ key ∷ []) ≡ number_of q ids
number-later q key ids there = grind (arith, false≢true, position_from-zero, from-more, bytes_eq-Decides)
