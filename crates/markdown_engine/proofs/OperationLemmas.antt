-- what a list of operations leaves
use Rattle.std.proofs.Common.{◌≡◌, ℕ, zero, suc, ◌+◌, ◌≤◌, true, List, [], ◌∷◌, ◌++◌, length, take, drop, append_assoc, refl, sym, ap, ◌∙◌, arith}
use Rattle.std.proofs.lemmas.Grind.{common_steps}
use Rattle.std.proofs.lemmas.List.{take-append-drop, drop-drop}
use Rattle.markdown_content.specs.ListFunctions.{rest_of}
use Rattle.markdown_engine.specs.Operations.{Op, Enter, Exit, EnterLink, EnterConnected, Consume, applied, op_events, op_stack, op_moves, op_stays, op_depth, done, moves, stays, ahead, scratched}
use Rattle.markdown_engine.specs.FailedRun.{Grown, unwound}
use Rattle.markdown_engine.specs.Weights.{codes_left}
use Rattle.markdown_event.proofs.AndParts.{and-left, and-right}
use Rattle.markdown_engine.proofs.LawSteps.{Grown-refl}
use Rattle.markdown_engine.proofs.OperationFields.{extended-append, attempts-applied, scratch-applied, input-applied, ahead-applied, left-ahead}
use Rattle.markdown_event.specs.declared.event.Name.{Name}
use Rattle.markdown_engine.specs.declared.tokenizer.TokenizeState.{TokenizeState}
use Rattle.markdown_engine.specs.declared.tokenizer.Tokenizer.{Tokenizer}

pub attempts-done : (os : List Op) (T : Tokenizer) → (done os T).attempts ≡ T.attempts
attempts-done [] T = refl
attempts-done (o ∷ os) T = attempts-done os (applied o T) ∙ attempts-applied o T

pub scratch-done : (os : List Op) (T : Tokenizer) → (done os T).tokenize_state ≡ T.tokenize_state
scratch-done [] T = refl
scratch-done (o ∷ os) T = scratch-done os (applied o T) ∙ scratch-applied o T

pub input-done : (os : List Op) (T : Tokenizer) → (done os T).parse_state ≡ T.parse_state
input-done [] T = refl
input-done (o ∷ os) T = input-done os (applied o T) ∙ input-applied o T

drop-both : {A : Type 0} → (m n : ℕ) (xs : List A) → drop n (drop m xs) ≡ drop (m + n) xs
drop-both m n xs = drop-drop n m xs

pub ahead-done : (os : List Op) (T : Tokenizer) → ahead (done os T) ≡ drop (moves os) (ahead T)
ahead-done [] T = refl
ahead-done (o ∷ os) T =
    ahead-done os (applied o T) ∙ ap (drop (moves os)) (ahead-applied o T) ∙ drop-both (op_moves o) (moves os) (ahead T)

pub left-done : (os : List Op) (T : Tokenizer) → moves os ≤ length (ahead T) →
    codes_left (done os T) + moves os ≡ codes_left T
left-done os T h =
    let same : length (ahead (done os T)) ≡ length (drop (moves os) (ahead T)) = ap length (ahead-done os T) in
    let here : length (drop (moves os) (ahead T)) + moves os ≡ length (ahead T) = grind (arith, common_steps) in
    omega (arith, left-ahead T, left-ahead (done os T), same, here)

-- Growth.

pub drop-rest : {A : Type 0} → (d : ℕ) (xs : List A) → drop d (rest_of xs) ≡ drop (suc d) xs
drop-rest zero [] = refl
drop-rest (suc d) [] = refl
drop-rest d (x ∷ xs) = refl

stack-kept : (d : ℕ) (o : Op) (ns : List Name) → op_stays d o ≡ true → drop (op_depth d o) (op_stack o ns) ≡ drop d ns
stack-kept d (Enter n) ns h = refl
stack-kept zero (Exit n) ns h = cc
stack-kept (suc d) (Exit n) ns h = drop-rest d ns
stack-kept d (EnterLink n c) ns h = refl
stack-kept d (EnterConnected n c) ns h = refl
stack-kept d Consume ns h = refl

pub Grown-applied : (d : ℕ) (o : Op) (T U : Tokenizer) → op_stays d o ≡ true → Grown (op_depth d o) (applied o T) U →
    Grown d T U
unfolding applied unwound scratched
Grown-applied d o T U h g =
    record { added = op_events o T ++ g.added; events = g.events ∙ ap (λ es. es ++ g.added) (extended-append T.events (op_events o T)) ∙ append_assoc T.events (op_events o T) g.added; edits = g.edits; map = g.map; opened = g.opened; stack = g.stack ∙ ap (λ ns. g.opened ++ ns) (stack-kept d o T.stack h); same = ap (λ (x : Tokenizer). record x { events = T.events; stack = T.stack; cursor = T.cursor }) g.same }

pub Grown-scratched : (d : ℕ) (s : TokenizeState) (T U : Tokenizer) → Grown d (scratched s T) U → Grown d T U
unfolding unwound scratched
Grown-scratched d s T U g =
    record { added = g.added; events = g.events; edits = g.edits; map = g.map; opened = g.opened; stack = g.stack; same = ap (λ (x : Tokenizer). record x { tokenize_state = U.tokenize_state }) g.same }

grown-done : (d : ℕ) (os : List Op) (T U : Tokenizer) → stays d os ≡ true → Grown 0 (done os T) U → Grown d T U
grown-done d [] T U e g =
    record { added = g.added; events = g.events; edits = g.edits; map = g.map; opened = g.opened ++ take d T.stack; stack = g.stack ∙ ap (λ x. g.opened ++ x) (sym (take-append-drop d T.stack)) ∙ sym (append_assoc g.opened (take d T.stack) (drop d T.stack)); same = g.same }
grown-done d (o ∷ os) T U e g =
    Grown-applied d o T U (and-left (op_stays d o) _ e) (grown-done (op_depth d o) os (applied o T) U (and-right (op_stays d o) _ e) g)

pub Grown-done : (d : ℕ) (os : List Op) (T : Tokenizer) → stays d os ≡ true → Grown d T (done os T)
Grown-done d os T e = grown-done d os T (done os T) e (Grown-refl 0 (done os T))
