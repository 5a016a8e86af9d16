-- Whole runs: the states from one on, and then the passes that they registered.
use Rattle.std.specs.Prelude.{◌≡◌, ◌∷◌, [], Bool}
use Rattle.markdown_engine_events.specs.EventChains.{chained}
use Rattle.std.specs.Borrow.{Bor}
use Rattle.std.specs.declared.alloc.Global.{Global}
use Rattle.markdown_engine.specs.RestingFields.{at_rest}
use Rattle.markdown_engine.specs.RunStart.{begun_at}
use Rattle.markdown_content.specs.Place.{Place}
use Rattle.markdown_content.specs.declared.parser.ParseState.{ParseState}
use Rattle.markdown_engine.specs.PassesInOrder.{MayResolve, Resolves, unregistered}
use Rattle.markdown_event.specs.declared.resolve.ResolveName.TheVariants as R
use Rattle.markdown_event.specs.declared.state.StateName.{StateName}
use Rattle.markdown_engine.specs.declared.tokenizer.Tokenizer.{Tokenizer}
use Rattle.markdown_run_text.specs.ContentPasses.{may_resolve_of, resolves_of}
use Rattle.markdown_run.specs.ElementsOfText.{FinishesAt, forgotten, text_named}
use Rattle.markdown_run.specs.Layer.{ends_of}
use Rattle.markdown_run.specs.declared.run.ListRun.{ListRun}

-- however a run from this state ends, the passes that it registered may be called
abbrev pub MayPass : StateName → Tokenizer → Type 0
MayPass name T = (held : Bool) (left : Tokenizer) → ends_of name T held left → MayResolve may_resolve_of resolves_of left.resolvers (unregistered left)

-- what is found is what the passes leave that are registered: the events, and the looks of pairing
pub record IsFoundBehind (left : Tokenizer) (run : ListRun) : Type 0 where
  pub passed : Tokenizer
  pub resolves : Resolves resolves_of left.resolvers (unregistered left) passed
  pub events : run.events ≡ chained passed.events
  pub probes : run.probes ≡ passed.tokenize_state.probes

-- what is found is what a run from this state leaves after its passes
pub record IsFoundFrom (name : StateName) (T : Tokenizer) (run : ListRun) : Type 0 where
  pub held : Bool
  pub left : Tokenizer
  pub ends : ends_of name T held left
  pub found : IsFoundBehind left run

-- the same of a text whose elements are read from T on

abbrev pub MayPassText : Tokenizer → Type 0
MayPassText T = (left : Tokenizer) → FinishesAt (text_named T) left → MayResolve may_resolve_of resolves_of left.resolvers (unregistered left)

-- at the start of a text, where nothing is known of the names
abbrev pub begun_text : Global → Bor ParseState → Place → Bool → Tokenizer
begun_text alloc parse_state place first =
    record (begun_at alloc parse_state place) { tokenize_state = record at_rest { document_at_first_paragraph_of_list_item = first } }

pub record IsFoundInText (T : Tokenizer) (run : ListRun) : Type 0 where
  pub left : Tokenizer
  pub ends : FinishesAt (text_named T) left
  pub found : IsFoundBehind left run

-- the passes that end a text may be called behind elements that have registered none, whatever is known of the content
abbrev pub MayFinishPlain : Tokenizer → Type 0
MayFinishPlain T = MayResolve may_resolve_of resolves_of (R.Data ∷ R.Text ∷ []) (forgotten T)
