-- The lines that rows have in tables.
use Rattle.std.specs.Prelude.{ℕ, List}

-- of each row one more than its line, or 0 where it has none; and how many lines there are
pub record RowLines : Type 0 where
  pub of_rows : List ℕ
  pub count : ℕ
