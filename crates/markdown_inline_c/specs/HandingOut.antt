-- What functions promise each other where what is found in many is handed out.
use Rattle.std.specs.Prelude.{◌≡◌, ℕ, ◌+◌, ◌<◌, ◌≤◌}
use Rattle.markdown_inline_c.specs.declared.outcome.Outcome.{Outcome}

abbrev pub nothing_done : Outcome
nothing_done = record { done = 0; count = 0; blamed = 18446744073709551615 }

-- so many elements are counted
abbrev pub counted : ℕ → Outcome → Outcome
counted n o = record o { count = o.count + n }

-- all before are written, and there is room for so many elements behind them, and for an end
pub record HasRoom (o : Outcome) (number len room room_of_ends : ℕ) : Type 0 where
  pub all_before : o.done ≡ number
  pub end : number < room_of_ends
  pub fits : o.count + len ≤ room

-- so many elements are counted, and stand behind all before
pub record IsPlaced (len : ℕ) (old new : Outcome) (from : ℕ) : Type 0 where
  pub from_is : from ≡ old.count
  pub new_is : new ≡ record old { done = old.done + 1; count = old.count + len }
