-- What reading the elements of a text in a loop keeps: each step leads to the end that the text has, whatever is known of the content meanwhile.
use Rattle.std.specs.Prelude.{◌≡◌, ◌<◌, ◌≤◌, Bool, true, false, List, [], None}
use Rattle.markdown_content.specs.Codes.{Code}
use Rattle.markdown_engine.specs.Operations.{HasCode, ahead, scratched}
use Rattle.markdown_engine.specs.RestingFields.{at_rest}
use Rattle.markdown_engine.specs.Weights.{codes_left}
use Rattle.markdown_engine.specs.declared.tokenizer.TokenizeState.{TokenizeState}
use Rattle.markdown_engine.specs.declared.tokenizer.Tokenizer.{Tokenizer}
use Rattle.markdown_leaf.specs.RawText as RawText
use Rattle.markdown_leaf_gfm.specs.GfmAutolinkLiteral as GfmAutolinkLiteral
use Rattle.markdown_leaf_gfm.specs.GfmTaskListItemCheck.{check_here}
use Rattle.markdown_model.specs.TextLines.{data_up_to}
use Rattle.markdown_run_text.specs.TextStops.{reader_stops}
use Rattle.markdown_run_text.specs.RunOverElements.{DataFinishes, Finishes}
use Rattle.markdown_run_text.specs.TextContent.{TextStartReady, named_fields, text_choice_of, text_passed}

-- these scratch fields, with what those know of the content
abbrev pub with_indexes : TokenizeState → TokenizeState → TokenizeState
with_indexes s r = record r { runs = s.runs; sequences = s.sequences; titles = s.titles; no_domains = s.no_domains }

abbrev pub indexed : TokenizeState → Tokenizer → Tokenizer
indexed s T = scratched (with_indexes s T.tokenize_state) T

-- with nothing known of the content
abbrev pub forgotten : Tokenizer → Tokenizer
forgotten T = indexed at_rest T

-- nothing is known of the content
abbrev pub KnowsNothing : Tokenizer → Type 0
KnowsNothing T = T.tokenize_state ≡ with_indexes at_rest T.tokenize_state

-- the names of what is defined are known
abbrev pub text_named : Tokenizer → Tokenizer
text_named T = scratched (named_fields T.cursor T.parse_state.now T.tokenize_state) T

-- where the reader of data stops
abbrev pub data_stops : Tokenizer → List Code → Bool
data_stops T = reader_stops T.cursor.codes T.parse_state.now.options.now.constructs.gfm_autolink_literal

-- constructs may be tried, and what is known of runs and domains is right
pub record MayTry (T : Tokenizer) : Type 0 where
  pub start : TextStartReady T
  pub runs : RawText.IsIndexed T
  pub domains : GfmAutolinkLiteral.KnowsDomains T
  pub alone : T.attempts ≡ []

-- besides, no check of a list item stands here
pub record IsReady (T : Tokenizer) : Type 0 where
  pub may_try : MayTry T
  pub unchecked : check_here T (ahead T) ≡ None

-- How the reading goes on: V is what is left at the end, from T on.

abbrev pub FinishesAt : Tokenizer → Tokenizer → Type 0
FinishesAt T V = Finishes (text_choice_of T) text_passed T V

-- data is read first, whatever element it begins with
abbrev pub EndsByData : Tokenizer → Tokenizer → Type 0
EndsByData T V = DataFinishes (text_choice_of T) (data_up_to (data_stops T)) text_passed T V

-- what ends the text from U on, ends it from T on, whatever is known of the content
abbrev pub LeadsTo : Tokenizer → Tokenizer → Type 0
LeadsTo T U = (s : TokenizeState) (V : Tokenizer) → FinishesAt (indexed s U) V → FinishesAt (indexed s T) V

-- the same, where data is read from U on
abbrev pub LeadsToData : Tokenizer → Tokenizer → Type 0
LeadsToData T U = (s : TokenizeState) (V : Tokenizer) → EndsByData (indexed s U) V → FinishesAt (indexed s T) V

-- an element is read or more
pub record PassesSome (T U : Tokenizer) : Type 0 where
  pub ready : IsReady U
  pub less : codes_left U < codes_left T
  pub leads : LeadsTo T U

-- the code at hand is that of data, and U is T but for the starts of labels and what is known
pub record ReachesData (T U : Tokenizer) : Type 0 where
  pub ready : IsReady U
  pub some_code : HasCode U
  pub left : codes_left U ≤ codes_left T
  pub leads : LeadsToData T U

-- an element is tried
abbrev pub ReadsElement : Tokenizer → Bool → Tokenizer → Type 0
ReadsElement T true U = PassesSome T U
ReadsElement T false U = ReachesData T U

-- data is read from T on
pub record PassesData (T U : Tokenizer) : Type 0 where
  pub ready : IsReady U
  pub less : codes_left U < codes_left T
  pub leads : (s : TokenizeState) (V : Tokenizer) → FinishesAt (indexed s U) V → EndsByData (indexed s T) V

-- some elements are read, or none
pub record PassesAny (T U : Tokenizer) : Type 0 where
  pub ready : IsReady U
  pub leads : LeadsTo T U

-- U is T but for what is known of the content
pub record Learns (T U : Tokenizer) : Type 0 where
  pub ready : IsReady U
  pub same : U ≡ indexed U.tokenize_state T
