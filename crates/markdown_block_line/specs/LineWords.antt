-- Words in the rest of a line.
use Rattle.std.specs.Prelude.{ℕ, ◌+◌, Bool, true, false, ◌&&◌, ◌||◌, not, ◌==◌, List, [], ◌∷◌, length}
use Rattle.markdown_model.specs.CodeTests.{is_letter}
use Rattle.markdown_block_line.specs.LineTags.{code_of}

-- a letter that is given in lower case, in either case; any other code itself
abbrev pub stands_for : ℕ → ℕ → Bool
stands_for n v = v == n || (is_letter (code_of v) && v + 32 == n)

abbrev pub begins_in_any_case : List ℕ → List ℕ → Bool
begins_in_any_case [] vs = true
begins_in_any_case (n ∷ ns) [] = false
begins_in_any_case (n ∷ ns) (v ∷ vs) = stands_for n v && begins_in_any_case ns vs

-- the word stands first, and perhaps has to be all
abbrev pub is_word : Bool → List ℕ → List ℕ → Bool
is_word whole vs ns = begins_in_any_case ns vs && (not whole || length vs == length ns)

-- somewhere a list begins that passes
abbrev pub holds_value : (List ℕ → Bool) → List ℕ → Bool
holds_value p [] = false
holds_value p (v ∷ vs) = p (v ∷ vs) || holds_value p vs
