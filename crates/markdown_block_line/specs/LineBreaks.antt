-- Where a line has thematic breaks.
use Rattle.std.specs.Prelude.{◌≡◌, ℕ, List, length, drop}
use Rattle.markdown_content.specs.Codes.{Code}
use Rattle.markdown_model.specs.CodeTests.{values_of, is_between}
use Rattle.markdown_block_model.specs.LeafStarts.{is_break}
use Rattle.markdown_block_line.specs.declared.breaks.BreakLens.{BreakLens}
use Rattle.markdown_block_line.specs.LineValues.{is_break_values}

-- what is left of the line behind any place is a break exactly if it has so many codes
abbrev pub IsBreakLens : BreakLens → List ℕ → Type 0
IsBreakLens b ns = (cs : List Code) (k : ℕ) → values_of cs ≡ ns → is_break (drop k cs) ≡ is_between b.least b.most (length (drop k cs))

-- the same for the breaks of one marker, and the values that are left
abbrev pub AreLensOf : ℕ → BreakLens → List ℕ → Type 0
AreLensOf n b ns = (k : ℕ) → is_break_values n (drop k ns) ≡ is_between b.least b.most (length (drop k ns))
