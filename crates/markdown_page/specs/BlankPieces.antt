-- The bytes of a piece.
use Rattle.std.specs.Prelude.{ℕ, ◌+◌, if◌then◌else◌, ◌==◌}

-- the first byte that stands at a place or behind it
abbrev pub first_from : ℕ × ℕ → ℕ
first_from place = if place.1 == 0 then place.0 else place.0 + 1
