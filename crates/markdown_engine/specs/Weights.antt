-- a number that falls at each step: the codes that are left, and then the rank of the state
use Rattle.std.specs.Prelude.{ℕ, ◌+◌, ◌-◌, ◌*◌, length}
use Rattle.markdown_content.specs.Place.{Place}
use Rattle.markdown_engine.specs.declared.tokenizer.Tokenizer.{Tokenizer}

unfoldable pub left_at : Place → ℕ
left_at p = length p.codes - p.at

abbrev pub codes_left : Tokenizer → ℕ
codes_left T = left_at T.cursor

-- the weight of a state of this rank
abbrev pub weight_at : ℕ → Tokenizer → ℕ
weight_at rank T = 256 * codes_left T + rank + 1
