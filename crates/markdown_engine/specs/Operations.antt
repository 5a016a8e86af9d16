-- What the engine's operations leave of a tokenizer.
use Rattle.std.specs.Prelude.{◌≡◌, ℕ, zero, suc, ◌+◌, ◌-◌, ◌==◌, List, [], ◌∷◌, ◌++◌, length, Bool, true, false, ◌&&◌, not, Option, None, Some, IsSome, if◌then◌else◌}
use Rattle.std.specs.List.{list_any}
use Rattle.markdown_content.specs.ListFunctions.{rest_of}
use Rattle.markdown_engine_events.specs.EventChains.{has_link}
use Rattle.markdown_content.specs.Codes.{Code}
use Rattle.markdown_content.specs.Place.{Place, moved, code_at, code_before, ahead_at, point_of, exit_point}
use Rattle.markdown_event.specs.declared.event.Content.{Content}
use Rattle.markdown_event.specs.declared.event.Event.{Event}
use Rattle.markdown_event.specs.declared.event.Kind.TheVariants as Kind
use Rattle.markdown_event.specs.declared.event.Link.{Link}
use Rattle.markdown_event.specs.declared.event.Name.{Name}
use Rattle.markdown_event.specs.declared.resolve.ResolveName.{ResolveName}
use Rattle.markdown_event.specs.declared.resolve.ResolveName.TheVariants as R
use Rattle.markdown_event.specs.declared.state.State.{State}
use Rattle.markdown_engine.specs.declared.tokenizer.Attempt.{Attempt}
use Rattle.markdown_engine.specs.declared.tokenizer.TokenizeState.{TokenizeState}
use Rattle.markdown_engine.specs.declared.tokenizer.Tokenizer.{Tokenizer}

-- Where a tokenizer stands.

-- the code at its place, none at the content's end
abbrev pub current_of : Tokenizer → Option ℕ
current_of T = code_at T.cursor

-- the code before it in the content, none at its start
abbrev pub previous_of : Tokenizer → Option ℕ
previous_of T = code_before T.cursor

-- the codes from its place on
abbrev pub ahead : Tokenizer → List Code
ahead T = ahead_at T.cursor

-- there is a code at its place
abbrev pub HasCode : Tokenizer → Type 0
HasCode T = IsSome (current_of T)

-- the innermost open event has this name
abbrev pub IsOpen : Name → Tokenizer → Type 0
IsOpen n T = T.stack ≡ n ∷ rest_of T.stack

-- the last two events are the Enter of linked content and an event without a link, its Exit
abbrev pub ends_linked : List Event → Bool
ends_linked [] = false
ends_linked (e ∷ []) = false
ends_linked (e ∷ x ∷ []) = has_link e.link && not (has_link x.link)
ends_linked (e ∷ x ∷ y ∷ es) = ends_linked (x ∷ y ∷ es)

-- linked content stands just before
abbrev pub LinkedBefore : Tokenizer → Type 0
LinkedBefore T = ends_linked T.events ≡ true

-- The operations that append events or move on.

pub data Op : Type 0 where
  Enter Exit : Name → Op
  EnterLink EnterConnected : Name → Content → Op
  Consume : Op

-- a link back to this event, and not yet on
abbrev pub link_back : Option ℕ → Content → Link
link_back p c = record { previous = p; next = None; content = c }

abbrev pub enter_event : Name → Option Link → Tokenizer → Event
enter_event n l T = record { kind = Kind.Enter; name = n; point = point_of T.cursor; link = l }

abbrev pub exit_event : Name → Tokenizer → Event
exit_event n T = record { kind = Kind.Exit; name = n; point = exit_point T.cursor; link = None }

-- the events that an operation appends
abbrev pub op_events : Op → Tokenizer → List Event
op_events (Enter n) T = enter_event n None T ∷ []
op_events (Exit n) T = exit_event n T ∷ []
op_events (EnterLink n c) T = enter_event n (Some (link_back None c)) T ∷ []
op_events (EnterConnected n c) T = enter_event n (Some (link_back (Some (length T.events - 2)) c)) T ∷ []
op_events Consume T = []

-- the names of the open events after it, the innermost first
abbrev pub op_stack : Op → List Name → List Name
op_stack (Enter n) ns = n ∷ ns
op_stack (Exit n) ns = rest_of ns
op_stack (EnterLink n c) ns = n ∷ ns
op_stack (EnterConnected n c) ns = n ∷ ns
op_stack Consume ns = ns

abbrev pub op_cursor : Op → Place → Place
op_cursor Consume p = moved p
op_cursor _ p = p

-- a list with these behind it
abbrev pub extended : List Event → List Event → List Event
extended es [] = es
extended es (x ∷ xs) = es ++ x ∷ xs

unfoldable pub applied : Op → Tokenizer → Tokenizer
applied o T = record T { events = extended T.events (op_events o T); stack = op_stack o T.stack; cursor = op_cursor o T.cursor }

abbrev pub entered : Name → Tokenizer → Tokenizer
entered n T = applied (Enter n) T

abbrev pub exited : Name → Tokenizer → Tokenizer
exited n T = applied (Exit n) T

abbrev pub consumed : Tokenizer → Tokenizer
consumed T = applied Consume T

-- a tokenizer after these operations
abbrev pub done : List Op → Tokenizer → Tokenizer
done [] T = T
done (o ∷ os) T = done os (applied o T)

abbrev pub op_moves : Op → ℕ
op_moves Consume = 1
op_moves _ = 0

-- how many codes they pass
abbrev pub moves : List Op → ℕ
moves [] = 0
moves (o ∷ os) = op_moves o + moves os

-- of d events that stood open before, and those opened since, how many are open after it
abbrev pub op_depth : ℕ → Op → ℕ
op_depth d (Enter n) = suc d
op_depth zero (Exit n) = zero
op_depth (suc d) (Exit n) = d
op_depth d (EnterLink n c) = suc d
op_depth d (EnterConnected n c) = suc d
op_depth d Consume = d

-- it closes none but these
abbrev pub op_stays : ℕ → Op → Bool
op_stays zero (Exit n) = false
op_stays d _ = true

-- none of them closes more than d events that stood open before
abbrev pub stays : ℕ → List Op → Bool
stays d [] = true
stays d (o ∷ os) = op_stays d o && stays (op_depth d o) os

-- Attempts, scratch fields, resolvers.

-- what an attempt puts back: the lengths of the lists, and the place
unfoldable pub frame_of : Bool → State → State → Tokenizer → Attempt
frame_of restores ok nok T =
    record { ok = ok; nok = nok; restores = restores; events_len = length T.events; map_len = length T.map; stack_len = length T.stack; cursor = T.cursor }

unfoldable pub attempted : Bool → State → State → Tokenizer → Tokenizer
attempted restores ok nok T = record T { attempts = frame_of restores ok nok T ∷ T.attempts }

-- with these scratch fields
unfoldable pub scratched : TokenizeState → Tokenizer → Tokenizer
scratched s T = record T { tokenize_state = s }

abbrev pub resolver_number : ResolveName → ℕ
resolver_number R.Label = 0
resolver_number R.Attention = 1
resolver_number R.Data = 2
resolver_number R.String = 3
resolver_number R.Text = 4

abbrev pub is_registered : ResolveName → List ResolveName → Bool
is_registered n ns = list_any (λ m. resolver_number m == resolver_number n) ns

-- with this resolver last, unless it is there
unfoldable pub registered : ResolveName → Tokenizer → Tokenizer
registered n T = if is_registered n T.resolvers then T else record T { resolvers = T.resolvers ++ n ∷ [] }

-- with this resolver first, unless it is there
unfoldable pub registered_before : ResolveName → Tokenizer → Tokenizer
registered_before n T = if is_registered n T.resolvers then T else record T { resolvers = n ∷ T.resolvers }

-- as a refused growth leaves it
abbrev pub refused : Tokenizer → Tokenizer
refused T = record T { failed = true }
