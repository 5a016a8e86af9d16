-- Items in a row, and blank lines behind them.
use Rattle.std.specs.Prelude.{ℕ, ◌≡◌, List, Bool, true, false}
use Rattle.markdown_content.specs.Codes.{Code}
use Rattle.markdown_block_model.specs.LineRests.{is_blank_line, trimmed, skip}
use Rattle.markdown_block_model.specs.BlockTree as model

abbrev pub is_list_item : model.Container → Bool
is_list_item model.quote = false
is_list_item (model.footnote label) = false
is_list_item (model.item m columns) = true

-- a line with no code but its ending
pub record IsBare (cs : List Code) : Type 0 where
  pub blank : is_blank_line cs ≡ true
  pub trimmed_is : trimmed cs ≡ cs
  pub skip_is : (j : ℕ) → skip j cs ≡ cs
