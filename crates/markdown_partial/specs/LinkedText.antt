-- Texts that are read as strings: the operations that pass their leaves, all of one chain, and how runs inside them end.
use Rattle.std.specs.Prelude.{◌≤◌, Bool, true, false, ◌&&◌, ◌||◌, not, if◌then◌else◌, Option, Some, None, List, [], ◌∷◌, ◌++◌}
use Rattle.markdown_engine_events.specs.EventChains.{has_link}
use Rattle.markdown_content.specs.Codes.{Code, is_line_ending, is_blank}
use Rattle.markdown_content.specs.CommonMark.{rules_of}
use Rattle.markdown_content.specs.declared.configuration.Rules.{Rules}
use Rattle.markdown_engine.specs.Operations.{Op, Enter, Exit, Consume, done, scratched}
use Rattle.markdown_engine.specs.TreeOps.{consumes}
use Rattle.markdown_engine.specs.Weights.{codes_left}
use Rattle.markdown_event.specs.declared.event.Content.{Content}
use Rattle.markdown_event.specs.declared.event.Event.{Event}
use Rattle.markdown_event.specs.declared.event.Name.TheVariants as N
use Rattle.markdown_engine.specs.declared.tokenizer.TokenizeState.{TokenizeState}
use Rattle.markdown_engine.specs.declared.tokenizer.Tokenizer.{Tokenizer}
use Rattle.markdown_model.specs.Grammar.{span}
use Rattle.markdown_model.specs.TextLines.{lines}
use Rattle.markdown_model.specs.Resource.{StringNames}
use Rattle.markdown_partial.specs.PartialSpaceOrTabEol.{eol_asked, WhitespaceAtRest}
use Rattle.markdown_partial.specs.PartialSpaceOrTab.{most}
use Rattle.markdown_partial.specs.LinkedTreeOps.{enter_op, linked_ops}

-- What the states share.

abbrev pub names_in : TokenizeState → StringNames
names_in s = record { whole = s.token_1; marker = s.token_2; text = s.token_3 }

-- the rules that the options choose
abbrev pub rules_in : Tokenizer → Rules
rules_in T = rules_of T.parse_state.now.options.now

-- after a linked leaf the next one goes on with its chain
abbrev pub joined : TokenizeState → TokenizeState
joined s = record s { connect = true }

-- how the leaves of the text are to be read
abbrev pub string : Option Content
string = Some Content.String

abbrev pub enter_text : Bool → Op
enter_text connect = enter_op connect N.Data string

abbrev pub text_entered : Tokenizer → Tokenizer
text_entered T = scratched (joined T.tokenize_state) (done (enter_text T.tokenize_state.connect ∷ []) T)

-- the closing marker
abbrev pub closing : StringNames → List Op
closing names = Enter names.marker ∷ Consume ∷ Exit names.marker ∷ Exit names.whole ∷ []

-- after the text
abbrev pub ending : StringNames → List Op
ending names = Exit names.text ∷ closing names

abbrev pub eol_asked_for : TokenizeState → TokenizeState
eol_asked_for s = eol_asked s.connect string s

-- the last event is the Enter of linked content
abbrev pub ends_open : List Event → Bool
ends_open [] = false
ends_open (e ∷ es) = elim es [ [] ↦ has_link e.link | x ∷ xs ↦ ends_open es ]

-- fewer codes are left than a `usize` counts, and the fields of whitespace are at rest
pub record TextReady (T : Tokenizer) : Type 0 where
  pub short : codes_left T ≤ most
  pub resting : WhitespaceAtRest T.tokenize_state

-- The leaves of a text.

-- between two stretches; `connect` says that a leaf of the text stands before
abbrev pub break_ops : Bool → List Code → List Op
break_ops connect text = linked_ops connect (lines N.Data string text)

-- the codes up to a line ending
abbrev pub line_of : List Code → List Code × List Code
line_of text = span (λ c. not (is_line_ending c)) text

-- in a stretch
abbrev pub inside_ops : List Code → List Op
inside_ops text = consumes (line_of text).0 ++ Exit N.Data ∷ break_ops true (line_of text).1

-- whether no line ending of the text ends a blank line; `filled` says that the line has a code already that is not blank
abbrev pub ends_filled : Bool → List Code → Bool
ends_filled filled [] = true
ends_filled filled (c ∷ cs) =
    elim (is_line_ending c) [
      | true ↦ filled && ends_filled false cs
      | false ↦ ends_filled (filled || not (is_blank c)) cs
    ]

-- the operations of a text that passes the test, and those behind it
abbrev pub answer : (List Code → Bool) → (List Code → List Op) → List Op → Option (List Code × List Code) → Option (List Op)
answer check ops ending None = None
answer check ops ending (Some r) = if check r.0 then Some (ops r.0 ++ ending) else None
