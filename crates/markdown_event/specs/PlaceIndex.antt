-- Some places of a content, each as the number of codes before it.
use Rattle.std.specs.Prelude.{ℕ, ◌==◌, Bool, List}
use Rattle.std.specs.List.{list_any}

-- the place before which so many codes stand is one of these
abbrev pub is_kept : ℕ → List ℕ → Bool
is_kept at places = list_any (λ n. n == at) places
