-- What the writer of a page does with a limit on what definitions bring.
use Rattle.std.specs.Prelude.{◌≡◌, ℕ, ◌-◌, ◌≤◌, Option, None, Some}
use Rattle.markdown_page.specs.DocumentBrought.{IsBeyond}
use Rattle.markdown_page.specs.declared.limit.Stop.{Stop}

-- what is left of a limit where so many bytes more are brought, and these are no more than it; where there is no limit it is none
abbrev pub IsSpent : Option ℕ → ℕ → Option ℕ → Type 0
IsSpent None n rest = rest ≡ None
IsSpent (Some limit) n rest = (n ≤ limit) × (rest ≡ Some (limit - n))

-- the writer stops where so many bytes more are brought: for want of memory, or because they are more than the limit
abbrev pub IsStop : Option ℕ → ℕ → Stop → Type 0
IsStop limit n stop = stop ≡ Stop.BeyondLimit → IsBeyond limit n
