-- Bytes among which no `@` stands.
use Rattle.std.specs.Prelude.{◌≢◌, ◌<◌, ◌≤◌, ℕ, List, length, slice_index_or}
use Rattle.std.specs.Str.{byte}
use Rattle.markdown_passes.specs.declared.clear.Clear.{Clear}

-- no `@` stands among these bytes, and the end up to which it is looked for is one of the document
pub record IsClear (bytes : List ℕ) (clear : Clear) : Type 0 where
  pub none : (i : ℕ) → clear.from ≤ i → i < clear.to → slice_index_or bytes i 0 ≢ byte "@"
  pub within : clear.end ≤ length bytes
