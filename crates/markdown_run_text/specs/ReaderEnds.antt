-- How readings of a single construct end: it is read, and the tokenizer stands past it, or it is not, and the tokenizer is as before.
use Rattle.std.specs.Prelude.{◌≡◌, ℕ, Bool, true, false, List, Option, Some, None}
use Rattle.markdown_content.specs.Codes.{Code}
use Rattle.markdown_content.specs.declared.configuration.ParseOptions.{ParseOptions}
use Rattle.markdown_content.specs.declared.label_kind.LabelKind.{LabelKind}
use Rattle.markdown_engine.specs.Operations.{ahead, registered, scratched}
use Rattle.markdown_engine.specs.PastTree.{TreeReading, Reads}
use Rattle.markdown_event.specs.declared.resolve.ResolveName.{ResolveName}
use Rattle.markdown_engine.specs.declared.tokenizer.TokenizeState.{TokenizeState}
use Rattle.markdown_engine.specs.declared.tokenizer.Tokenizer.{Tokenizer}
use Rattle.markdown_model.specs.Grammar.{Reading}
use Rattle.markdown_model.specs.LabelEnd.{Element, starts}
use Rattle.markdown_run_text.specs.Row.{begins, past_mark}

-- the options that a tokenizer reads with
abbrev pub options_here : Tokenizer → ParseOptions
options_here T = T.parse_state.now.options.now

-- the codes at the place are read so, and U is T past the tree, with these scratch fields and this pass registered
abbrev pub ReadsWith : Option ResolveName → TreeReading → Option ℕ → TokenizeState → Tokenizer → Tokenizer → Type 0
ReadsWith None reading previous s T U = Reads reading previous s T U
ReadsWith (Some pass) reading previous s T U = (there : Tokenizer) × (Reads reading previous s T there × (U ≡ registered pass there))

-- either they are read so, or they are not, and U is T with these scratch fields
abbrev pub ReadsOrStays : Option ResolveName → TreeReading → Option ℕ → TokenizeState → Tokenizer → Bool → Tokenizer → Type 0
ReadsOrStays pass reading previous s T true U = ReadsWith pass reading previous s T U
ReadsOrStays pass reading previous s T false U = (reading (ahead T) ≡ None) × (U ≡ scratched s T)

-- either they are read so, with the scratch fields as they are, or U is T, whatever stands there
abbrev pub ReadsOrLeaves : TreeReading → Tokenizer → Bool → Tokenizer → Type 0
ReadsOrLeaves reading T true U = Reads reading None T.tokenize_state T U
ReadsOrLeaves reading T false U = U ≡ T

-- either a start of a label is read so, and U is T past it, which is kept; or none is, and U is T
abbrev pub BeginsOrStays : Reading Element → Tokenizer → Bool → Tokenizer → Type 0
BeginsOrStays reading T true U = (kind : LabelKind) × ((marker : List Code) × ((reading (ahead T) ≡ Some (starts kind marker, ahead U)) × (U ≡ past_mark (begins kind marker) T)))
BeginsOrStays reading T false U = (reading (ahead T) ≡ None) × (U ≡ T)
