-- What states ask for and leave, in words that constructs share: counts in the scratch fields, and the open events.
use Rattle.std.specs.Prelude.{◌≡◌, ℕ, ◌+◌, ◌<◌, ◌^◌, ◌∷◌, drop}
use Rattle.markdown_engine.specs.Weights.{codes_left}
use Rattle.markdown_event.specs.declared.event.Name.{Name}
use Rattle.markdown_engine.specs.declared.tokenizer.TokenizeState.{TokenizeState}
use Rattle.markdown_engine.specs.declared.tokenizer.Tokenizer.{Tokenizer}

abbrev pub with_size : ℕ → TokenizeState → TokenizeState
with_size n s = record s { size = n }

abbrev pub with_size_b : ℕ → TokenizeState → TokenizeState
with_size_b n s = record s { size_b = n }

-- as many codes as a `usize` can count, with these
abbrev pub Fits : ℕ → Tokenizer → Type 0
Fits n T = n + codes_left T < 2 ^ 64

-- these two are the innermost open events
abbrev pub AreOpen : Name → Name → Tokenizer → Type 0
AreOpen n m T = T.stack ≡ n ∷ m ∷ drop 2 T.stack
