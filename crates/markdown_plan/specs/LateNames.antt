-- Leaves whose name is settled only at their end: the last event is an Enter, and it gets another name.
use Rattle.std.specs.Prelude.{◌≡◌, ℕ, ◌-◌, ◌<◌, Bool, true, false, List, ◌∷◌, ◌++◌, length, take, drop, map, Option, Some, None}
use Rattle.markdown_content.specs.Codes.{Code}
use Rattle.markdown_engine.specs.FailedRun.{Grown}
use Rattle.markdown_content.specs.ListFunctions.{rest_of}
use Rattle.markdown_engine.specs.Operations.{Op, Enter, ahead, done, scratched}
use Rattle.markdown_event.specs.declared.event.Event.{Event}
use Rattle.markdown_event.specs.declared.event.Name.{Name}
use Rattle.markdown_engine.specs.declared.tokenizer.TokenizeState.{TokenizeState}
use Rattle.markdown_engine.specs.declared.tokenizer.Tokenizer.{Tokenizer}
use Rattle.markdown_plan.specs.Plan.{Plan}

-- the event under another name, and without a link
abbrev pub named : Name → Event → Event
named n e = record { kind = e.kind; name = n; point = e.point; link = None }

abbrev pub last_named : Name → List Event → List Event
last_named n es = take (length es - 1) es ++ map (named n) (drop (length es - 1) es)

-- the last event and the innermost open event under this name
unfoldable pub renamed : Name → Tokenizer → Tokenizer
renamed n T = record T { events = last_named n T.events; stack = n ∷ rest_of T.stack }

-- without the last event and the innermost open event
unfoldable pub unopened : Tokenizer → Tokenizer
unopened T = record T { events = take (length T.events - 1) T.events; stack = rest_of T.stack }

-- there is an event
abbrev pub HasEvent : Tokenizer → Type 0
HasEvent T = 0 < length T.events

-- From the codes still to come to the name of the leaf, and the operations that pass the rest of the construct; none where it
-- does not hold.
abbrev pub Naming : Type 0
Naming = List Code → Option (Name × List Op)

-- the plan that enters the leaf under its name
abbrev pub opened : Option (Name × List Op) → Option (List Op)
opened None = None
opened (Some r) = Some (Enter r.0 ∷ r.1)

abbrev pub opening_of : Naming → Plan
opening_of naming cs = opened (naming cs)

-- under this name
abbrev pub under : Name → Option (List Op) → Option (Name × List Op)
under n None = None
under n (Some os) = Some (n, os)

-- these operations, and then those of a naming
abbrev pub preceded_by : List Op → Option (Name × List Op) → Option (Name × List Op)
preceded_by os None = None
preceded_by os (Some r) = Some (r.0, os ++ r.1)

-- the naming holds at the codes from T on, and U is T with the leaf under its name, after the operations, with these scratch fields
pub record Names (naming : Naming) (s : TokenizeState) (T U : Tokenizer) : Type 0 where
  pub name : Name
  pub ops : List Op
  pub holds : naming (ahead T) ≡ Some (name, ops)
  pub left : U ≡ done ops (scratched s (renamed name T))

-- it does not hold, and U has only grown from T before the leaf was entered, but for d events that stood open then
pub record Withdraws (d : ℕ) (naming : Naming) (s : TokenizeState) (T U : Tokenizer) : Type 0 where
  pub none : naming (ahead T) ≡ None
  pub grown : Grown d (unopened T) U
  pub scratch : U.tokenize_state ≡ s

-- a run that ends as the naming says
abbrev pub NamesAs : ℕ → Naming → TokenizeState → Tokenizer → Bool → Tokenizer → Type 0
NamesAs d naming s T true U = Names naming s T U
NamesAs d naming s T false U = Withdraws d naming s T U
