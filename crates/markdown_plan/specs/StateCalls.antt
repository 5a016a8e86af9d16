-- What a call of a state does, as one clause.
use Rattle.std.specs.Prelude.{◌≡◌, IfOk, OnErr, IsTrue}
use Rattle.std.specs.declared.result.Result.{Result}
use Rattle.markdown_engine.specs.StateRuns.{Stepped}
use Rattle.markdown_event.specs.declared.state.State.{State}
use Rattle.markdown_engine.specs.declared.tokenizer.Tokenizer.{Tokenizer}

-- the call is this step; or it answers the error, where a growth is refused, and then `failed` is true
abbrev pub Steps : {E : Type 0} → (Tokenizer → Stepped) → Tokenizer → Result State E → Tokenizer → Type 0
Steps step before result after = (IfOk result (λ s. step before ≡ record { state = s; left = after })) × (OnErr result (IsTrue after.failed))
