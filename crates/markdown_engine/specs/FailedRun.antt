-- what a run that fails has done to a tokenizer
use Rattle.std.specs.Prelude.{◌≡◌, ℕ, List, ◌++◌, drop}
use Rattle.markdown_engine.specs.Operations.{scratched}
use Rattle.markdown_engine_events.specs.declared.util.edit_map.Edit.{Edit}
use Rattle.markdown_engine.specs.declared.tokenizer.TokenizeState.{TokenizeState}
use Rattle.markdown_event.specs.declared.event.Event.{Event}
use Rattle.markdown_event.specs.declared.event.Name.{Name}
use Rattle.markdown_engine.specs.declared.tokenizer.Tokenizer.{Tokenizer}

-- with the events, the edits, the open names and the place of T
unfoldable pub unwound : Tokenizer → Tokenizer → Tokenizer
unwound T U = record U { events = T.events; map = T.map; stack = T.stack; cursor = T.cursor }

-- U is T with events and edits added, all but d of the open names kept, and nothing else changed but the place and the scratch fields
pub record Grown (d : ℕ) (T U : Tokenizer) : Type 0 where
  pub added : List Event
  pub events : U.events ≡ T.events ++ added
  pub edits : List Edit
  pub map : U.map ≡ T.map ++ edits
  pub opened : List Name
  pub stack : U.stack ≡ opened ++ drop d T.stack
  pub same : unwound T U ≡ scratched U.tokenize_state T

-- a run that fails: U has grown from T, with these scratch fields
pub record Fails (s : TokenizeState) (T U : Tokenizer) : Type 0 where
  pub grown : Grown 0 T U
  pub scratch : U.tokenize_state ≡ s
