-- From one element of a string to the next.
use Rattle.std.proofs.Common.{◌≡◌, ◌≢◌, ℕ, Bool, List, ◌∷◌, None, refl, sym, ap, ◌∙◌, arith}
use Rattle.markdown_engine.specs.Operations.{ahead, current_of}
use Rattle.markdown_engine.specs.PastTree.{Reads}
use Rattle.markdown_engine.specs.declared.tokenizer.Tokenizer.{Tokenizer}
use Rattle.markdown_leaf.specs.CharacterEscape.{escape_here}
use Rattle.markdown_leaf.specs.CharacterReference.{reference_here}
use Rattle.markdown_model.specs.CodeTests.{is_among}
use Rattle.markdown_model.specs.TextLines.{data_up_to}
use Rattle.markdown_partial.specs.PartialData.{stops_of}
use Rattle.markdown_run_text.specs.RunOverElements.{Advances}
use Rattle.markdown_run_text.specs.RunSetting.{setting_of}
use Rattle.markdown_run_text.specs.StringContent.{string_markers, string_passed, string_here, StringBeforeReady, before_ends}
use Rattle.markdown_run_text.proofs.ElementSteps.{advances-finishes, node-advances, data-advances, some-ahead, single-read}
use Rattle.markdown_run_text.proofs.ConstructNodes.{node-of}
use Rattle.markdown_model.proofs.PlainConstructs.{plain_constructs}
use Rattle.markdown_plan.specs.Characters.{bytes_of}
use Rattle.markdown_run_text.proofs.RowFields.{relisted, row-fields}
use Rattle.markdown_run_text.proofs.RowScratch.{row-input}
use Rattle.markdown_run_text.proofs.StringElements.{escaped-element, referenced-element, single-element, unmarked-element}
use Rattle.markdown_run_text.specs.ElementsAsRead.{source_of}

-- U stands past the first elements of the codes from T on
abbrev pub PassesElements : Tokenizer → Tokenizer → Type 0
PassesElements T U = Advances (string_here T) T U

same-string : (T U : Tokenizer) → PassesElements T U → string_here U ≡ string_here T
same-string T U p = grind (arith, row-input)

-- the scratch fields past them
same-fields : (T U : Tokenizer) → PassesElements T U → StringBeforeReady T →
    U.tokenize_state ≡ relisted U.tokenize_state T.tokenize_state
same-fields T U p r = grind (arith, row-fields)

ready-past : (T U : Tokenizer) → U.tokenize_state ≡ relisted U.tokenize_state T.tokenize_state → StringBeforeReady T →
    StringBeforeReady U
ready-past T U e r = grind arith

pub passes-ready : (T U : Tokenizer) → PassesElements T U → StringBeforeReady T → StringBeforeReady U
passes-ready T U p r = ready-past T U (same-fields T U p r) r

-- what follows some elements, follows from before them
pub passes-ends : (T U : Tokenizer) → PassesElements T U → (ok : Bool) (V : Tokenizer) → before_ends U ok V → before_ends T ok V
passes-ends T U p h V k = grind (arith, advances-finishes (string_here T) string_passed T U V, same-string T U)

pub escape-past : (T U : Tokenizer) → Reads (escape_here T) None T.tokenize_state T U → PassesElements T U
escape-past T U k =
    let node = node-of (bytes_of T) (escape_here T) (search plain_constructs) (ahead T) k.tree k.rest k.holds in
    node-advances (string_here T) (escape_here T) T U k node.0 node.1 (λ earlier previous stands. escaped-element (setting_of T.parse_state.now) (ahead T) k.tree k.rest k.holds)

pub reference-past : (T U : Tokenizer) → escape_here T (ahead T) ≡ None →
    Reads (reference_here T) None T.tokenize_state T U → PassesElements T U
reference-past T U none k =
    let node = node-of (bytes_of T) (reference_here T) (search plain_constructs) (ahead T) k.tree k.rest k.holds in
    node-advances (string_here T) (reference_here T) T U k node.0 node.1 (λ earlier previous stands. referenced-element (setting_of T.parse_state.now) (ahead T) k.tree k.rest none k.holds)

pub data-past : (T U : Tokenizer) → T.tokenize_state.markers ≡ string_markers → current_of T ≢ None →
    escape_here T (ahead T) ≡ None → reference_here T (ahead T) ≡ None →
    Reads (data_up_to (stops_of T.tokenize_state)) None T.tokenize_state T U → PassesElements T U
data-past T U marked some none plain_code k =
    let a = some-ahead T (ahead T) refl some in
    data-advances (string_here T) (stops_of T.tokenize_state) T U a.0 a.1.0 a.1.1 k
    (λ earlier previous stands. single-element (setting_of T.parse_state.now) a.0 a.1.0 (ap (escape_here T) (sym a.1.1) ∙ none) (ap (reference_here T) (sym a.1.1) ∙ plain_code))
    (single-read (source_of T) (string_here T) (stops_of T.tokenize_state) (a.0 ∷ a.1.0) (λ front earlier previous c cs w free. unmarked-element T.parse_state.now c cs (ap (λ (ms : List ℕ). is_among ms c) (sym marked) ∙ free)))
