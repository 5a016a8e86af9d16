-- Renaming the event that was entered last.
use Rattle.std.proofs.Common.{◌≡◌, ℕ, ◌+◌, ◌<◌, ◌^◌, Some, ◌∷◌, refl, arith}
use Rattle.markdown_content.specs.ListFunctions.{rest_of}
use Rattle.markdown_engine.specs.Operations.{current_of}
use Rattle.markdown_event.specs.declared.event.Name.{Name}
use Rattle.markdown_engine.specs.declared.tokenizer.Tokenizer.{Tokenizer}
use Rattle.markdown_engine.proofs.OperationFields.{law_rules, left-consumed}
use Rattle.markdown_plan.specs.ScratchFields.{Fits}
use Rattle.markdown_plan.specs.LateNames.{renamed}

pub stack-renamed : (n : Name) (T : Tokenizer) → (renamed n T).stack ≡ n ∷ rest_of T.stack
unfolding renamed
stack-renamed n T = refl

pub cursor-renamed : (n : Name) (T : Tokenizer) → (renamed n T).cursor ≡ T.cursor
unfolding renamed
cursor-renamed n T = refl

pub scratch-renamed : (n : Name) (T : Tokenizer) → (renamed n T).tokenize_state ≡ T.tokenize_state
unfolding renamed
scratch-renamed n T = refl

pub input-renamed : (n : Name) (T : Tokenizer) → (renamed n T).parse_state ≡ T.parse_state
unfolding renamed
input-renamed n T = refl

pub attempts-renamed : (n : Name) (T : Tokenizer) → (renamed n T).attempts ≡ T.attempts
unfolding renamed
attempts-renamed n T = refl

pub ruleset rename_rules = (law_rules, stack-renamed, cursor-renamed, scratch-renamed, input-renamed, attempts-renamed)

-- where a code is left, one more can be counted
pub room : (n : ℕ) (T : Tokenizer) (v : ℕ) → current_of T ≡ Some v → Fits n T → n + 1 < 2 ^ 64
room n T v e f = omega (arith, left-consumed T v e)
