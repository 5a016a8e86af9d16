-- The text of a content up to an index behind the document is that up to its end.
use Rattle.std.proofs.Common.{◌≡◌, ℕ, ◌≤◌, List, [], ◌∷◌, ◌++◌, length, refl, arith}
use Rattle.std.specs.Prelude.{min, slice_range}
use Rattle.std.proofs.lemmas.Bool.{cases_lt}
use Rattle.std.proofs.lemmas.List.{length-drop, take_all}
use Rattle.std.proofs.Math.Nat.{le-min, min-eq_left, min-eq_right}
use Rattle.markdown_content.specs.Codes.{Code}
use Rattle.markdown_content.specs.ContentBytes.{bytes_of_code, bytes_within}

-- a part that ends behind the list, or where the list ends
past-end : (xs : List ℕ) (i j k : ℕ) → length xs ≤ j → length xs ≤ k → slice_range xs i j ≡ slice_range xs i k
past-end xs i j k h l = grind (arith, length-drop, take_all)

clipped-code : (bytes : List ℕ) (from to : ℕ) (c : Code) → length bytes ≤ to → bytes_of_code bytes from (length bytes) c ≡ bytes_of_code bytes from to c
clipped-code bytes from to c h = grind (arith, cases_lt, past-end, le-min, min-eq_right)

clipped-all : (bytes : List ℕ) (from to : ℕ) (cs : List Code) → length bytes ≤ to → bytes_within bytes from (length bytes) cs ≡ bytes_within bytes from to cs
clipped-all bytes from to [] h = refl
clipped-all bytes from to (c ∷ cs) h = (λ i. clipped-code bytes from to c h i ++ clipped-all bytes from to cs h i)

pub within_document : (bytes : List ℕ) (from to : ℕ) (cs : List Code) → bytes_within bytes from (min to (length bytes)) cs ≡ bytes_within bytes from to cs
within_document bytes from to cs = grind (arith, cases_lt, min-eq_right, clipped-all, min-eq_left)
