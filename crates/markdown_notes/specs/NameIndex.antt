-- Names by their bytes, and in their order.
use Rattle.std.specs.Prelude.{ℕ, Bool, List, [], ◌∷◌, if◌then◌else◌}
use Rattle.std.specs.Ordering.{is_lt, nat_cmp}
use Rattle.std.specs.Cmp.Lexicographic.{slice_cmp}
use Rattle.markdown_notes.specs.BracketIndex.{BracketPlaces}
use Rattle.markdown_notes.specs.declared.name_index.Names.{Names}

abbrev pub comes_before : List ℕ → List ℕ → Bool
comes_before text name = is_lt (slice_cmp nat_cmp name text)

-- a name among names in order, before the first that does not come before it
abbrev pub with_name : List ℕ → List (List ℕ) → List (List ℕ)
with_name n [] = n ∷ []
with_name n (m ∷ ms) = if comes_before n m then m ∷ with_name n ms else n ∷ m ∷ ms

-- the names in order
abbrev pub in_order : List (List ℕ) → List (List ℕ)
in_order [] = []
in_order (n ∷ ns) = with_name n (in_order ns)

-- the names of what is defined, in order, and where opening brackets stand in the document
abbrev pub names_in_order : List (List ℕ) → List (List ℕ) → BracketPlaces → Names
names_in_order definitions footnotes brackets = record { definitions = in_order definitions; footnotes = in_order footnotes; brackets = brackets }
