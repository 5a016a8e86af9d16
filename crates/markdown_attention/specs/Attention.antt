-- What the states of a run of markers do, and how runs from them end.
use Rattle.std.specs.Prelude.{◌≡◌, ℕ, Bool, true, false, ◌==◌, if◌then◌else◌, Option, Some, None, List, [], ◌∷◌}
use Rattle.markdown_content.specs.Codes.{Code}
use Rattle.markdown_engine.specs.Operations.{Enter, Consume, IsOpen, ahead, current_of, done, exited, registered, scratched}
use Rattle.markdown_engine.specs.PastTree.{Reads, Refuses, TreeReading, passed}
use Rattle.markdown_engine.specs.StateRuns.{Stepped, stepped}
use Rattle.markdown_engine.specs.StateWords.{StateWords}
use Rattle.markdown_model.specs.CodeTests.{is_value}
use Rattle.markdown_model.specs.Grammar.{span}
use Rattle.markdown_model.specs.SingleConstructs.{begins_run, attention_here}
use Rattle.markdown_content.specs.declared.configuration.Constructs.{Constructs}
use Rattle.markdown_event.specs.declared.event.Name.TheVariants as N
use Rattle.markdown_event.specs.declared.resolve.ResolveName.TheVariants as R
use Rattle.markdown_event.specs.declared.state.State.TheVariants.{Next, Retry, Nok}
use Rattle.markdown_event.specs.declared.state.State.TheVariants as State
use Rattle.markdown_event.specs.declared.state.StateName.{StateName}
use Rattle.markdown_event.specs.declared.state.StateName.TheVariants.{AttentionStart, AttentionInside}
use Rattle.markdown_engine.specs.declared.tokenizer.TokenizeState.{TokenizeState}
use Rattle.markdown_engine.specs.declared.tokenizer.Tokenizer.{Tokenizer}

abbrev pub switches_of : Tokenizer → Constructs
switches_of T = T.parse_state.now.options.now.constructs

-- with this marker in the scratch fields; 0 at rest
abbrev pub with_marker : ℕ → TokenizeState → TokenizeState
with_marker marker s = record s { marker = marker }

-- What the states do.

-- by the current code
abbrev pub start_at : Option ℕ → Tokenizer → Stepped
start_at None T = stepped Nok T
start_at (Some c) T =
    if begins_run (switches_of T) c
    then stepped (Retry AttentionInside) (scratched (with_marker c T.tokenize_state) (done (Enter N.AttentionSequence ∷ []) T))
    else stepped Nok T

abbrev pub start_step : Tokenizer → Stepped
start_step T = start_at (current_of T) T

-- the run is exited, and the pass registered
abbrev pub left_run : Tokenizer → Tokenizer
left_run T = registered R.Attention (scratched (with_marker 0 T.tokenize_state) (exited N.AttentionSequence T))

abbrev pub leaving : Tokenizer → Stepped
leaving T = stepped State.Ok (left_run T)

abbrev pub inside_at : Option ℕ → Tokenizer → Stepped
inside_at None T = leaving T
inside_at (Some c) T = if c == T.tokenize_state.marker then stepped (Next AttentionInside) (done (Consume ∷ []) T) else leaving T

abbrev pub inside_step : Tokenizer → Stepped
inside_step T = inside_at (current_of T) T

-- When they may be called.

abbrev pub AttentionStartReady : Tokenizer → Type 0
AttentionStartReady T = T.tokenize_state ≡ with_marker 0 T.tokenize_state

abbrev pub AttentionInsideReady : Tokenizer → Type 0
AttentionInsideReady T = IsOpen N.AttentionSequence T

-- How runs end.

-- the codes at hand read as a run
abbrev pub run_tree : Tokenizer → TreeReading
run_tree T = attention_here T.parse_state.now.options.now

-- the codes at hand read as a run: U is past its tree, with the pass registered
pub record ReadsRun (T U : Tokenizer) : Type 0 where
  pub there : Tokenizer
  pub reads : Reads (run_tree T) None T.tokenize_state T there
  pub left : U ≡ registered R.Attention there

abbrev pub start_ends : Tokenizer → Bool → Tokenizer → Type 0
start_ends T true U = ReadsRun T U
start_ends T false U = Refuses (run_tree T) T.tokenize_state T U

-- the markers from T on
abbrev pub markers_ahead : Tokenizer → List Code
markers_ahead T = (span (is_value T.tokenize_state.marker) (ahead T)).0

-- past the rest of the run, which always holds
abbrev pub inside_ends : Tokenizer → Bool → Tokenizer → Type 0
inside_ends T true U = U ≡ left_run (passed (markers_ahead T) T)
inside_ends T false U = ⊥

-- The states.

abbrev pub start_words : StateWords
start_words = record { ready = AttentionStartReady; step = start_step; ends = start_ends; rank = λ T. 2 }

abbrev pub inside_words : StateWords
inside_words = record { ready = AttentionInsideReady; step = inside_step; ends = inside_ends; rank = λ T. 1 }

-- a part of what is said of these states, and of any other as it is given
abbrev pub said {ℓ} : {A : Type ℓ} → (StateWords → A) → (StateName → A) → StateName → A
said part other AttentionStart = part start_words
said part other AttentionInside = part inside_words
said part other s = other s

-- all of it
abbrev pub states : (StateName → StateWords) → StateName → StateWords
states other s = said (λ (w : StateWords). w) other s
