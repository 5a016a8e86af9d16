-- Words on lists.
use Rattle.std.specs.Prelude.{List, [], ◌∷◌, drop, Option, None, Some}

-- all but the first of a list
abbrev pub rest_of : {A : Type 0} → List A → List A
rest_of xs = drop 1 xs

-- the first of a list
abbrev pub first_of : {A : Type 0} → List A → Option A
first_of [] = None
first_of (x ∷ xs) = Some x
