-- Whether a code of a content stands right beside a place, which is the index of a byte.
use Rattle.std.specs.Prelude.{ℕ, Bool, not, ◌&&◌, nat_lt, List}
use Rattle.std.specs.List.{list_any}
use Rattle.markdown_content.specs.Codes.{Code}

-- a code begins before a place, and ends there or behind it
abbrev pub reaches_to : ℕ → Code → Bool
reaches_to i c = nat_lt c.start.index i && not (nat_lt c.stop.index i)

-- a code begins at a place or before it, and ends behind it
abbrev pub goes_on_from : ℕ → Code → Bool
goes_on_from i c = not (nat_lt i c.start.index) && nat_lt i c.stop.index

-- one of these codes stands right before a place
abbrev pub has_code_before : List Code → ℕ → Bool
has_code_before cs i = list_any (reaches_to i) cs

-- one of them stands right behind it
abbrev pub has_code_behind : List Code → ℕ → Bool
has_code_behind cs i = list_any (goes_on_from i) cs
