-- what the operations leave of each part of a tokenizer
use Rattle.std.proofs.Common.{ℕ, ◌+◌, ◌≤◌, ◌++◌, [], None, Some, drop, suc, zero, sym, ap, ◌∙◌, arith, append-nil, add-one, length-drop, ◌≡◌, List, ◌∷◌, refl, length, slice_get, Bool, true, false, if◌then◌else◌}
use Rattle.markdown_content.specs.ListFunctions.{rest_of, first_of}
use Rattle.markdown_content.specs.Codes.{Code}
use Rattle.markdown_content.specs.Place.{code_at, ahead_at, value_of}
use Rattle.markdown_content.proofs.PlaceRules.{ahead-moved}
use Rattle.markdown_engine.specs.Operations.{Op, Enter, Exit, EnterLink, EnterConnected, Consume, applied, consumed, extended, op_stack, op_cursor, op_moves, current_of, ahead, scratched, registered, is_registered}
use Rattle.markdown_engine.specs.Weights.{codes_left, left_at}
use Rattle.markdown_event.specs.declared.event.Event.{Event}
use Rattle.markdown_event.specs.declared.resolve.ResolveName.{ResolveName}
use Rattle.markdown_engine.specs.declared.tokenizer.TokenizeState.{TokenizeState}
use Rattle.markdown_engine.specs.declared.tokenizer.Tokenizer.{Tokenizer}

-- An operation changes the events, the open names and the place.

pub extended-append : (es xs : List Event) → extended es xs ≡ es ++ xs
extended-append es [] = sym (append-nil es)
extended-append es (x ∷ xs) = refl

pub stack-applied : (o : Op) (T : Tokenizer) → (applied o T).stack ≡ op_stack o T.stack
unfolding applied
stack-applied o T = refl

pub cursor-applied : (o : Op) (T : Tokenizer) → (applied o T).cursor ≡ op_cursor o T.cursor
unfolding applied
cursor-applied o T = refl

pub scratch-applied : (o : Op) (T : Tokenizer) → (applied o T).tokenize_state ≡ T.tokenize_state
unfolding applied
scratch-applied o T = refl

pub input-applied : (o : Op) (T : Tokenizer) → (applied o T).parse_state ≡ T.parse_state
unfolding applied
input-applied o T = refl

pub attempts-applied : (o : Op) (T : Tokenizer) → (applied o T).attempts ≡ T.attempts
unfolding applied
attempts-applied o T = refl

pub resolvers-applied : (o : Op) (T : Tokenizer) → (applied o T).resolvers ≡ T.resolvers
unfolding applied
resolvers-applied o T = refl

pub failed-applied : (o : Op) (T : Tokenizer) → (applied o T).failed ≡ T.failed
unfolding applied
failed-applied o T = refl

-- Setting the scratch fields changes nothing else.

pub stack-scratched : (s : TokenizeState) (T : Tokenizer) → (scratched s T).stack ≡ T.stack
unfolding scratched
stack-scratched s T = refl

pub cursor-scratched : (s : TokenizeState) (T : Tokenizer) → (scratched s T).cursor ≡ T.cursor
unfolding scratched
cursor-scratched s T = refl

pub scratch-scratched : (s : TokenizeState) (T : Tokenizer) → (scratched s T).tokenize_state ≡ s
unfolding scratched
scratch-scratched s T = refl

pub input-scratched : (s : TokenizeState) (T : Tokenizer) → (scratched s T).parse_state ≡ T.parse_state
unfolding scratched
input-scratched s T = refl

pub attempts-scratched : (s : TokenizeState) (T : Tokenizer) → (scratched s T).attempts ≡ T.attempts
unfolding scratched
attempts-scratched s T = refl

pub resolvers-scratched : (s : TokenizeState) (T : Tokenizer) → (scratched s T).resolvers ≡ T.resolvers
unfolding scratched
resolvers-scratched s T = refl

pub failed-scratched : (s : TokenizeState) (T : Tokenizer) → (scratched s T).failed ≡ T.failed
unfolding scratched
failed-scratched s T = refl

-- The codes ahead.

pub rest-drop : {A : Type 0} → (xs : List A) → rest_of xs ≡ drop 1 xs
rest-drop xs = refl

pub ahead-consumed : (T : Tokenizer) → ahead (consumed T) ≡ rest_of (ahead T)
unfolding applied
ahead-consumed T = ahead-moved T.cursor

pub ahead-applied : (o : Op) (T : Tokenizer) → ahead (applied o T) ≡ drop (op_moves o) (ahead T)
unfolding applied
ahead-applied (Enter n) T = refl
ahead-applied (Exit n) T = refl
ahead-applied (EnterLink n c) T = refl
ahead-applied (EnterConnected n c) T = refl
ahead-applied Consume T = ahead-moved T.cursor ∙ rest-drop (ahead T)

pub first-drop : {A : Type 0} → (n : ℕ) (xs : List A) → slice_get xs n ≡ first_of (drop n xs)
first-drop zero [] = refl
first-drop zero (x ∷ xs) = refl
first-drop (suc n) [] = refl
first-drop (suc n) (x ∷ xs) = first-drop n xs

-- the code at the place is the first one ahead
pub current-ahead : (T : Tokenizer) → current_of T ≡ value_of (first_of (ahead T))
unfolding code_at ahead_at
current-ahead T = ap value_of (first-drop T.cursor.at T.cursor.codes)

pub left-ahead : (T : Tokenizer) → codes_left T ≡ length (ahead T)
unfolding left_at ahead_at
left-ahead T = sym (length-drop T.cursor.at T.cursor.codes)

nothing-ahead : (cs : List Code) → value_of (first_of cs) ≡ None → cs ≡ []
nothing-ahead [] e = refl
nothing-ahead (c ∷ cs) e = cc

-- at the content's end
pub ahead-none : (T : Tokenizer) → current_of T ≡ None → ahead T ≡ []
ahead-none T e = nothing-ahead (ahead T) (sym (current-ahead T) ∙ e)

-- a code of this value, and those after it
pub record BeginsWithValue (v : ℕ) (cs : List Code) : Type 0 where
  pub code : Code
  pub value : code.value ≡ v
  pub whole : cs ≡ code ∷ rest_of cs

some-ahead : (cs : List Code) (v : ℕ) → value_of (first_of cs) ≡ Some v → BeginsWithValue v cs
some-ahead [] v e = cc
some-ahead (c ∷ cs) v e = record { code = c; value = cc; whole = refl }

pub ahead-some : (T : Tokenizer) (v : ℕ) → current_of T ≡ Some v → BeginsWithValue v (ahead T)
ahead-some T v e = some-ahead (ahead T) v (sym (current-ahead T) ∙ e)

-- a code is left
pub some-codes : (T : Tokenizer) (v : ℕ) → current_of T ≡ Some v → 1 ≤ length (ahead T)
some-codes T v e =
    let whole : length (ahead T) ≡ length (rest_of (ahead T)) + 1 = ap length (ahead-some T v e).whole ∙ sym (add-one _) in
    omega arith

pub left-consumed : (T : Tokenizer) (v : ℕ) → current_of T ≡ Some v → codes_left (consumed T) + 1 ≡ codes_left T
left-consumed T v e =
    let whole : length (ahead T) ≡ length (rest_of (ahead T)) + 1 = ap length (ahead-some T v e).whole ∙ sym (add-one _) in
    omega (arith, left-ahead T, left-ahead (consumed T), ap length (ahead-consumed T), whole)

pub left-applied : (o : Op) (T : Tokenizer) → op_moves o ≡ 0 → codes_left (applied o T) ≡ codes_left T
unfolding applied
left-applied (Enter n) T e = refl
left-applied (Exit n) T e = refl
left-applied (EnterLink n c) T e = refl
left-applied (EnterConnected n c) T e = refl
left-applied Consume T e = cc

pub left-scratched : (s : TokenizeState) (T : Tokenizer) → codes_left (scratched s T) ≡ codes_left T
unfolding scratched
left-scratched s T = refl

-- Registering a pass leaves the attempts.

one-of : {A : Type 0} → (P : A → Type 0) (b : Bool) (x y : A) → P x → P y → P (if b then x else y)
one-of P true x y p q = p
one-of P false x y p q = q

pub attempts-registered : (n : ResolveName) (T : Tokenizer) → (registered n T).attempts ≡ T.attempts
unfolding registered
attempts-registered n T = one-of (λ U. U.attempts ≡ T.attempts) (is_registered n T.resolvers) T _ refl refl

-- for the steps of states
pub ruleset op_rules =
    (stack-applied, cursor-applied, scratch-applied, input-applied, stack-scratched, cursor-scratched, scratch-scratched, input-scratched)

-- for what a module's laws ask for besides
pub ruleset law_rules =
    (op_rules, attempts-applied, attempts-scratched, resolvers-applied, resolvers-scratched, failed-applied, failed-scratched, ahead-consumed, left-ahead)
