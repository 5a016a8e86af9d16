-- Among which lines a name would stand, for the helpers of `decode_named`.
use Rattle.std.specs.Prelude.{◌≡◌, ℕ, List, IsTrue}
use Rattle.markdown_util.specs.Reference.{Table, named_value, is_sorted}

-- lines in the order of their names, among which the name stands if the table has it
pub record IsTablePart (table rows : Table) (name : List ℕ) : Type 0 where
  pub held : named_value rows name ≡ named_value table name
  pub sorted : IsTrue (is_sorted rows)
