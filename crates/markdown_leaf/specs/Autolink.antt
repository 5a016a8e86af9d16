-- What the states of an autolink do, and how runs from them end.
use Rattle.std.specs.Prelude.{◌≡◌, ℕ, ◌+◌, ◌≤◌, Bool, true, false, ◌&&◌, ◌||◌, not, codes, nat_le, nat_lt, ◌==◌, if◌then◌else◌, Option, Some, None, List, [], ◌∷◌, ◌++◌, length}
use Rattle.markdown_content.specs.Codes.{Code}
use Rattle.markdown_content.specs.CommonMark.{rules_of}
use Rattle.markdown_content.specs.declared.configuration.Rules.{Rules}
use Rattle.markdown_engine.specs.Operations.{Op, Enter, Exit, Consume, ahead, done, current_of, scratched}
use Rattle.markdown_engine.specs.PastTree.{EndsAs, TreeReading}
use Rattle.markdown_engine.specs.StateRuns.{Stepped, stepped}
use Rattle.markdown_engine.specs.TreeOps.{consumes}
use Rattle.markdown_model.specs.CodeTests.{is_value, is_between, is_alphanumeric, is_some_code, last_code, next_is}
use Rattle.markdown_model.specs.Grammar.{Reading, ◌then_◌, one, any_number, span, repeatedly}
use Rattle.markdown_model.specs.LeafConstructs.{uri, email_address, domain_label, is_scheme_code, is_uri_code, is_local_code}
use Rattle.markdown_model.specs.SingleConstructs.{autolink_here}
use Rattle.markdown_plan.specs.PrecededReadings.{after}
use Rattle.markdown_plan.specs.ScratchFields.{AreOpen, with_size}
use Rattle.markdown_plan.specs.ByteTests.{letter_value, alphanumeric_value, among_values, controls}
use Rattle.markdown_plan.specs.LateNames.{Naming, NamesAs, renamed, HasEvent}
use Rattle.markdown_event.specs.declared.event.Name.{Name}
use Rattle.markdown_event.specs.declared.event.Name.TheVariants as N
use Rattle.markdown_event.specs.declared.state.State.TheVariants.{Next, Retry, Nok}
use Rattle.markdown_event.specs.declared.state.State.TheVariants as State
use Rattle.markdown_event.specs.declared.state.StateName.TheVariants.{AutolinkOpen, AutolinkSchemeOrEmailAtext, AutolinkSchemeInsideOrEmailAtext, AutolinkUrlInside, AutolinkEmailAtext, AutolinkEmailAtSignOrDot, AutolinkEmailLabel, AutolinkEmailValue, AutolinkStart}
use Rattle.markdown_engine.specs.declared.tokenizer.Tokenizer.{Tokenizer}
use Rattle.markdown_engine.specs.StateWords.{StateWords}
use Rattle.markdown_event.specs.declared.state.StateName.{StateName}
use Rattle.std.specs.Str.{byte}

-- Tests on the value of a code.

abbrev pub scheme_value : ℕ → Bool
scheme_value v = alphanumeric_value v || among_values (codes "+-.") v

abbrev pub local_value : Bool → ℕ → Bool
local_value all v = alphanumeric_value v || among_values (codes "#$%&'*+-./=?^_`{|}~") v || (v == byte "!" && all)

abbrev pub uri_value : Bool → ℕ → Bool
uri_value replaced v = not (among_values (codes " <>") v || (is_between 1 31 v || v == 127) || (v == byte "\0" && not replaced))

abbrev pub is_on : Tokenizer → Bool
is_on T = T.parse_state.now.options.now.constructs.autolink

abbrev pub rules_here : Tokenizer → Rules
rules_here T = rules_of T.parse_state.now.options.now

-- all of CommonMark's marks may stand in an address
abbrev pub all_marks : Tokenizer → Bool
all_marks T = (rules_here T).all_address_marks

-- NUL is read as U+FFFD, which is no control
abbrev pub replaces_nul : Tokenizer → Bool
replaces_nul T = (rules_here T).nul_is_replaced

-- at these bytes alone a URI may do other than go on, line endings aside: a space, an angle bracket and the controls
abbrev pub uri_stops : List ℕ
uri_stops = codes "\0 <>" ++ controls

-- at these bytes a URI ends, as it does at line endings
abbrev pub uri_ends : Bool → List ℕ
uri_ends replaced = if replaced then codes " <>" ++ controls else uri_stops

-- What the states do.

abbrev pub opening : List Op
opening = Enter N.Autolink ∷ Enter N.AutolinkMarker ∷ Consume ∷ Exit N.AutolinkMarker ∷ Enter N.AutolinkProtocol ∷ []

-- after what stands between the brackets
abbrev pub ending : Name → List Op
ending name = Exit name ∷ Enter N.AutolinkMarker ∷ Consume ∷ Exit N.AutolinkMarker ∷ Exit N.Autolink ∷ []

abbrev pub refused : Tokenizer → Stepped
refused T = stepped Nok (scratched (with_size 0 T.tokenize_state) T)

abbrev pub finished : Name → Tokenizer → Stepped
finished name T = stepped State.Ok (scratched (with_size 0 T.tokenize_state) (done (ending name) T))

abbrev pub start_at : Option ℕ → Tokenizer → Stepped
start_at None T = stepped Nok T
start_at (Some c) T = if is_on T && (c == byte "<") then stepped (Next AutolinkOpen) (done opening T) else stepped Nok T

abbrev pub start_step : Tokenizer → Stepped
start_step T = start_at (current_of T) T

abbrev pub open_at : Option ℕ → Tokenizer → Stepped
open_at None T = stepped (Retry AutolinkEmailAtext) T
open_at (Some c) T =
    if letter_value c then stepped (Next AutolinkSchemeOrEmailAtext) (done (Consume ∷ []) T)
    else (if c == byte "@" then refused T else stepped (Retry AutolinkEmailAtext) T)

abbrev pub open_step : Tokenizer → Stepped
open_step T = open_at (current_of T) T

abbrev pub scheme_or_at : Option ℕ → Tokenizer → Stepped
scheme_or_at None T = stepped (Retry AutolinkEmailAtext) T
scheme_or_at (Some c) T =
    if scheme_value c then stepped (Retry AutolinkSchemeInsideOrEmailAtext) (scratched (with_size 1 T.tokenize_state) T)
    else stepped (Retry AutolinkEmailAtext) T

abbrev pub scheme_or_step : Tokenizer → Stepped
scheme_or_step T = scheme_or_at (current_of T) T

-- no scheme, but it may be an address
abbrev pub no_scheme : Tokenizer → Stepped
no_scheme T = stepped (Retry AutolinkEmailAtext) (scratched (with_size 0 T.tokenize_state) T)

abbrev pub scheme_inside_at : Option ℕ → Tokenizer → Stepped
scheme_inside_at None T = no_scheme T
scheme_inside_at (Some c) T =
    if c == byte ":" then stepped (Next AutolinkUrlInside) (scratched (with_size 0 T.tokenize_state) (done (Consume ∷ []) T))
    else (if scheme_value c && nat_lt T.tokenize_state.size 32
    then stepped (Next AutolinkSchemeInsideOrEmailAtext) (scratched (with_size (T.tokenize_state.size + 1) T.tokenize_state) (done (Consume ∷ []) T))
    else no_scheme T)

abbrev pub scheme_inside_step : Tokenizer → Stepped
scheme_inside_step T = scheme_inside_at (current_of T) T

abbrev pub url_inside_at : Option ℕ → Tokenizer → Stepped
url_inside_at None T = refused T
url_inside_at (Some c) T =
    if c == byte ">" then finished N.AutolinkProtocol T
    else (if uri_value (replaces_nul T) c then stepped (Next AutolinkUrlInside) (done (Consume ∷ []) T) else refused T)

abbrev pub url_inside_step : Tokenizer → Stepped
url_inside_step T = url_inside_at (current_of T) T

abbrev pub email_atext_at : Option ℕ → Tokenizer → Stepped
email_atext_at None T = refused T
email_atext_at (Some c) T =
    if c == byte "@" then stepped (Next AutolinkEmailAtSignOrDot) (done (Consume ∷ []) T)
    else (if local_value (all_marks T) c then stepped (Next AutolinkEmailAtext) (done (Consume ∷ []) T) else refused T)

abbrev pub email_atext_step : Tokenizer → Stepped
email_atext_step T = email_atext_at (current_of T) T

abbrev pub email_at_sign_or_dot_at : Option ℕ → Tokenizer → Stepped
email_at_sign_or_dot_at None T = refused T
email_at_sign_or_dot_at (Some c) T =
    if alphanumeric_value c then stepped (Retry AutolinkEmailValue) T else refused T

abbrev pub email_at_sign_or_dot_step : Tokenizer → Stepped
email_at_sign_or_dot_step T = email_at_sign_or_dot_at (current_of T) T

-- at a code of a label
abbrev pub in_label_at : Option ℕ → Tokenizer → Stepped
in_label_at None T = refused T
in_label_at (Some c) T =
    if nat_lt T.tokenize_state.size 63 && alphanumeric_value c
    then stepped (Next AutolinkEmailLabel) (scratched (with_size (T.tokenize_state.size + 1) T.tokenize_state) (done (Consume ∷ []) T))
    else (if nat_lt T.tokenize_state.size 63 && (c == byte "-")
    then stepped (Next AutolinkEmailValue) (scratched (with_size (T.tokenize_state.size + 1) T.tokenize_state) (done (Consume ∷ []) T))
    else refused T)

abbrev pub email_value_step : Tokenizer → Stepped
email_value_step T = in_label_at (current_of T) T

abbrev pub email_label_at : Option ℕ → Tokenizer → Stepped
email_label_at None T = stepped (Retry AutolinkEmailValue) T
email_label_at (Some c) T =
    if c == byte "." then stepped (Next AutolinkEmailAtSignOrDot) (scratched (with_size 0 T.tokenize_state) (done (Consume ∷ []) T))
    else (if c == byte ">" then finished N.AutolinkEmail (renamed N.AutolinkEmail T)
    else stepped (Retry AutolinkEmailValue) T)

abbrev pub email_label_step : Tokenizer → Stepped
email_label_step T = email_label_at (current_of T) T

-- When they may be called.

-- between the brackets
pub record AutolinkInsideReady (T : Tokenizer) : Type 0 where
  pub stand_open : AreOpen N.AutolinkProtocol N.Autolink T
  pub some : HasEvent T
  pub entered : renamed N.AutolinkProtocol T ≡ T

-- with no code counted
pub record FreshReady (T : Tokenizer) : Type 0 where
  pub inside : AutolinkInsideReady T
  pub none_yet : T.tokenize_state.size ≡ 0

-- after one code of a scheme another one is at hand
pub record SchemeReady (T : Tokenizer) : Type 0 where
  pub inside : AutolinkInsideReady T
  pub some : 1 ≤ T.tokenize_state.size
  pub least : nat_le 2 T.tokenize_state.size || next_is is_scheme_code (ahead T) ≡ true
  pub most : T.tokenize_state.size ≤ 32

pub record LabelReady (T : Tokenizer) : Type 0 where
  pub inside : AutolinkInsideReady T
  pub most : T.tokenize_state.size ≤ 63

-- How runs end.

abbrev pub link_here : Tokenizer → TreeReading
link_here T = autolink_here T.parse_state.now.options.now

abbrev pub start_ends : Tokenizer → Bool → Tokenizer → Type 0
start_ends T ok U = EndsAs (link_here T) None T.tokenize_state T ok U

-- a URI after this many codes of its scheme
abbrev pub scheme_rest : Bool → ℕ → Reading (List Code)
scheme_rest replaced passed cs =
    let s = span is_scheme_code cs in
    if is_between 2 32 (passed + length s.0) then after s.0 ((one (is_value (byte ":")) then_ any_number (is_uri_code replaced)) s.1) else None

abbrev pub more_labels : Reading (List Code)
more_labels = repeatedly (one (is_value (byte ".")) then_ domain_label)

-- after the `@`
abbrev pub domains : Reading (List Code)
domains = domain_label then_ more_labels

-- an address after some codes before its `@`
abbrev pub local_rest : Bool → Reading (List Code)
local_rest all cs = let s = span (is_local_code all) cs in after s.0 ((one (is_value (byte "@")) then_ domains) s.1)

abbrev pub is_label_code : Code → Bool
is_label_code c = is_alphanumeric c || is_value (byte "-") c

-- these codes do not end in a hyphen; `well` says so of those before, where there are none
abbrev pub ends_well : Bool → List Code → Bool
ends_well well [] = well
ends_well well (c ∷ cs) = is_some_code is_alphanumeric (last_code (c ∷ cs))

-- an address after this many codes of a label
abbrev pub label_rest : ℕ → Bool → Reading (List Code)
label_rest passed well cs =
    let s = span is_label_code cs in
    if nat_le (passed + length s.0) 63 && ends_well well s.0 then after s.0 (more_labels s.1) else None

-- what stands between the brackets from here on, and the end of the link
abbrev pub ended : Name → Option (List Code × List Code) → Option (Name × List Op)
ended name None = None
ended name (Some r) = if next_is (is_value (byte ">")) r.1 then Some (name, consumes r.0 ++ ending name) else None

abbrev pub up_to_bracket : Name → Reading (List Code) → Naming
up_to_bracket name inside cs = ended name (inside cs)

-- the first where it holds, else the second
abbrev pub or_else : Option (Name × List Op) → Option (Name × List Op) → Option (Name × List Op)
or_else None b = b
or_else (Some x) b = Some x

abbrev pub open_naming : Bool → Bool → Naming
open_naming replaced all cs =
    or_else (up_to_bracket N.AutolinkProtocol (uri replaced) cs) (up_to_bracket N.AutolinkEmail (email_address all) cs)

abbrev pub scheme_naming : Bool → Bool → ℕ → Naming
scheme_naming replaced all passed cs =
    or_else (up_to_bracket N.AutolinkProtocol (scheme_rest replaced passed) cs) (up_to_bracket N.AutolinkEmail (local_rest all) cs)

abbrev pub open_ends : Tokenizer → Bool → Tokenizer → Type 0
open_ends T ok U = NamesAs 1 (open_naming (replaces_nul T) (all_marks T)) (with_size 0 T.tokenize_state) T ok U

abbrev pub scheme_or_ends : Tokenizer → Bool → Tokenizer → Type 0
scheme_or_ends T ok U = NamesAs 1 (scheme_naming (replaces_nul T) (all_marks T) 1) (with_size 0 T.tokenize_state) T ok U

abbrev pub scheme_inside_ends : Tokenizer → Bool → Tokenizer → Type 0
scheme_inside_ends T ok U = NamesAs 1 (scheme_naming (replaces_nul T) (all_marks T) T.tokenize_state.size) (with_size 0 T.tokenize_state) T ok U

abbrev pub url_inside_ends : Tokenizer → Bool → Tokenizer → Type 0
url_inside_ends T ok U = NamesAs 1 (up_to_bracket N.AutolinkProtocol (any_number (is_uri_code (replaces_nul T)))) (with_size 0 T.tokenize_state) T ok U

abbrev pub email_atext_ends : Tokenizer → Bool → Tokenizer → Type 0
email_atext_ends T ok U = NamesAs 1 (up_to_bracket N.AutolinkEmail (local_rest (all_marks T))) (with_size 0 T.tokenize_state) T ok U

abbrev pub email_at_sign_or_dot_ends : Tokenizer → Bool → Tokenizer → Type 0
email_at_sign_or_dot_ends T ok U = NamesAs 1 (up_to_bracket N.AutolinkEmail domains) (with_size 0 T.tokenize_state) T ok U

abbrev pub email_label_ends : Tokenizer → Bool → Tokenizer → Type 0
email_label_ends T ok U = NamesAs 1 (up_to_bracket N.AutolinkEmail (label_rest T.tokenize_state.size true)) (with_size 0 T.tokenize_state) T ok U

abbrev pub email_value_ends : Tokenizer → Bool → Tokenizer → Type 0
email_value_ends T ok U = NamesAs 1 (up_to_bracket N.AutolinkEmail (label_rest T.tokenize_state.size false)) (with_size 0 T.tokenize_state) T ok U

-- The states.

abbrev pub start_words : StateWords
start_words = record { ready = λ T. T.tokenize_state.size ≡ 0; step = start_step; ends = start_ends; rank = λ T. 3 }

abbrev pub open_words : StateWords
open_words = record { ready = FreshReady; step = open_step; ends = open_ends; rank = λ T. 2 }

abbrev pub scheme_or_words : StateWords
scheme_or_words = record { ready = FreshReady; step = scheme_or_step; ends = scheme_or_ends; rank = λ T. 3 }

abbrev pub scheme_inside_words : StateWords
scheme_inside_words = record { ready = SchemeReady; step = scheme_inside_step; ends = scheme_inside_ends; rank = λ T. 2 }

abbrev pub url_inside_words : StateWords
url_inside_words = record { ready = AutolinkInsideReady; step = url_inside_step; ends = url_inside_ends; rank = λ T. 1 }

abbrev pub email_atext_words : StateWords
email_atext_words = record { ready = FreshReady; step = email_atext_step; ends = email_atext_ends; rank = λ T. 1 }

abbrev pub email_at_sign_or_dot_words : StateWords
email_at_sign_or_dot_words = record { ready = FreshReady; step = email_at_sign_or_dot_step; ends = email_at_sign_or_dot_ends; rank = λ T. 2 }

abbrev pub email_label_words : StateWords
email_label_words = record { ready = LabelReady; step = email_label_step; ends = email_label_ends; rank = λ T. 2 }

abbrev pub email_value_words : StateWords
email_value_words = record { ready = LabelReady; step = email_value_step; ends = email_value_ends; rank = λ T. 1 }

-- a part of what is said of these states, and of any other as it is given
abbrev pub said {ℓ} : {A : Type ℓ} → (StateWords → A) → (StateName → A) → StateName → A
said part other AutolinkStart = part start_words
said part other AutolinkOpen = part open_words
said part other AutolinkSchemeOrEmailAtext = part scheme_or_words
said part other AutolinkSchemeInsideOrEmailAtext = part scheme_inside_words
said part other AutolinkUrlInside = part url_inside_words
said part other AutolinkEmailAtext = part email_atext_words
said part other AutolinkEmailAtSignOrDot = part email_at_sign_or_dot_words
said part other AutolinkEmailLabel = part email_label_words
said part other AutolinkEmailValue = part email_value_words
said part other s = other s

-- all of it
abbrev pub states : (StateName → StateWords) → StateName → StateWords
states other s = said (λ (w : StateWords). w) other s
