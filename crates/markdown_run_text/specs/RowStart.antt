-- A run at its start, and the passes that a row registers.
use Rattle.std.specs.Prelude.{◌≡◌, Bool, true, false, ◌||◌, if◌then◌else◌, List, [], ◌∷◌, ◌++◌}
use Rattle.markdown_content.specs.Codes.{Code}
use Rattle.markdown_engine.specs.PastTree.{moved_by}
use Rattle.markdown_event.specs.declared.resolve.ResolveName.{ResolveName}
use Rattle.markdown_event.specs.declared.resolve.ResolveName.TheVariants as R
use Rattle.markdown_engine.specs.declared.tokenizer.Tokenizer.{Tokenizer}
use Rattle.markdown_label.specs.LabelsHandedOver.{unlabelled}
use Rattle.markdown_run_text.specs.Row.{Mark, begins, makes, loses, Row, row_end, row_then}

-- no event and no label yet, and the fields of ends at rest
pub record IsFreshRow (T : Tokenizer) : Type 0 where
  pub events : T.events ≡ []
  pub labels : T.tokenize_state.labels ≡ []
  pub starts : T.tokenize_state.label_starts ≡ []
  pub loose : T.tokenize_state.label_starts_loose ≡ []
  pub end : T.tokenize_state.end ≡ 0
  pub seen : T.tokenize_state.seen ≡ false

-- What a row leaves beside its events and labels.

-- a start and a label register the pass of labels
abbrev pub registers : Mark → Bool
registers (begins kind marker) = true
registers (makes back kind tail) = true
registers loses = false

abbrev pub row_registers : Row → Bool
row_registers (row_end t) = false
row_registers (row_then t mark rest) = registers mark || row_registers rest

-- the passes registered: of labels, and of runs
abbrev pub passes_of : Bool → Bool → List ResolveName
passes_of labels runs = (if labels then R.Label ∷ [] else []) ++ (if runs then R.Attention ∷ [] else [])

-- U is T with other events and labels, past these codes, with these passes registered; the fields of ends are at rest again
pub record IsPastCodes (labels runs : Bool) (cs : List Code) (T U : Tokenizer) : Type 0 where
  pub same : U ≡ record T { events = U.events; cursor = moved_by cs T.cursor; resolvers = passes_of labels runs; tokenize_state = U.tokenize_state }
  pub fields : unlabelled U.tokenize_state ≡ unlabelled T.tokenize_state
  pub end : U.tokenize_state.end ≡ 0
  pub seen : U.tokenize_state.seen ≡ false
