-- What the states of a text have in common: their conditions over a step, and runs that fail.
use Rattle.std.proofs.Common.{◌≡◌, ℕ, ◌+◌, ◌≤◌, ◌&&◌, not, Bool, true, false, if◌then◌else◌, None, List, [], ◌∷◌, ◌++◌, length, drop, refl, sym, ap, subst, ◌∙◌, arith}
use Rattle.std.proofs.lemmas.Bool.{true≢false}
use Rattle.markdown_plan.proofs.PlanSteps.{Grown-same, scratch-same}
use Rattle.markdown_engine_events.specs.EventChains.{has_link}
use Rattle.markdown_content.specs.ListFunctions.{rest_of}
use Rattle.markdown_engine.specs.Operations.{Op, ahead, done, scratched, moves, stays, ends_linked}
use Rattle.markdown_engine.specs.Weights.{codes_left}
use Rattle.markdown_event.specs.declared.event.Event.{Event}
use Rattle.markdown_event.specs.declared.event.Name.{Name}
use Rattle.markdown_event.specs.declared.state.State.{State}
use Rattle.markdown_engine.specs.declared.tokenizer.TokenizeState.{TokenizeState}
use Rattle.markdown_engine.specs.declared.tokenizer.Tokenizer.{Tokenizer}
use Rattle.markdown_engine.proofs.OperationFields.{left-scratched}
use Rattle.markdown_engine.proofs.OperationLemmas.{left-done}
use Rattle.markdown_plan.specs.Plan.{Plan, depth_after, DoesAs}
use Rattle.markdown_partial.specs.PartialSpaceOrTabEol.{WhitespaceAtRest}
use Rattle.markdown_partial.specs.LinkedText.{joined, enter_text, ends_open, TextReady}

-- Links.

pub open-append : (es : List Event) (e : Event) → has_link e.link ≡ true → ends_open (es ++ e ∷ []) ≡ true
open-append [] e h = h
open-append (x ∷ []) e h = h
open-append (x ∷ y ∷ es) e h = open-append (y ∷ es) e h

both-true : (a b : Bool) → a ≡ true → b ≡ false → a && not b ≡ true
both-true true false e h = refl
both-true true true e h = cc
both-true false b e h = cc

pub open-closed : (es : List Event) (x : Event) → ends_open es ≡ true → has_link x.link ≡ false →
    ends_linked (es ++ x ∷ []) ≡ true
open-closed [] x h k = cc
open-closed (e ∷ []) x h k = both-true (has_link e.link) (has_link x.link) h k
open-closed (e ∷ y ∷ []) x h k = open-closed (y ∷ []) x h k
open-closed (e ∷ y ∷ z ∷ es) x h k = open-closed (y ∷ z ∷ es) x h k

-- Open events.

drop-rest : (n : List Name) → drop 3 n ≡ drop 2 (rest_of n)
drop-rest [] = refl
drop-rest (x ∷ n) = refl

-- without the innermost of two
pub open-second : (a b : Name) (ns : List Name) → ns ≡ a ∷ b ∷ drop 2 ns → rest_of ns ≡ b ∷ rest_of (rest_of ns)
open-second a b ns h = ap rest_of h ∙ ap (λ xs. b ∷ xs) (sym (ap (λ xs. rest_of (rest_of xs)) h))

-- without the innermost one
pub open-rest : (a b c : Name) (ns : List Name) → ns ≡ a ∷ b ∷ c ∷ drop 3 ns → rest_of ns ≡ b ∷ c ∷ drop 2 (rest_of ns)
open-rest a b c ns h = ap rest_of h ∙ ap (λ xs. b ∷ c ∷ xs) (drop-rest ns)

-- The fields of whitespace, and the codes left.

pub text-after : (os : List Op) (r : TokenizeState) (T : Tokenizer) → moves os ≤ length (ahead T) → TextReady T →
    WhitespaceAtRest r → TextReady (scratched r (done os T))
unfolding scratched
text-after os r T h k rest =
    record { short = omega (arith, k.short, left-done os T h, left-scratched r (done os T)); resting = rest }

-- fewer codes are left, and the scratch fields are the same
pub text-same : (T U : Tokenizer) → TextReady T → codes_left U + 1 ≤ codes_left T →
    U.tokenize_state ≡ T.tokenize_state → TextReady U
text-same T U k fewer e =
    record { short = omega (arith, k.short, fewer); resting = subst (λ (s : TokenizeState). WhitespaceAtRest s) (sym e) k.resting }

pub rest-joined : (s : TokenizeState) → WhitespaceAtRest s → WhitespaceAtRest (joined s)
rest-joined s r = record { space = ap joined r.space; eol = ap joined r.eol }

-- the scratch fields are those before, and as many codes or fewer are left
pub text-kept : (os : List Op) (T : Tokenizer) → moves os ≤ length (ahead T) →
    (done os T).tokenize_state ≡ T.tokenize_state → TextReady T → TextReady (done os T)
unfolding scratched
text-kept os T h e k =
    let after : TextReady (scratched T.tokenize_state (done os T)) = text-after os T.tokenize_state T h k k.resting in
    record { short = after.short; resting = subst (λ (s : TokenizeState). WhitespaceAtRest s) (sym e) k.resting }

-- The Enter of data.

pub stays-data : (b : Bool) → stays 2 (enter_text b ∷ []) ≡ true
stays-data true = refl
stays-data false = refl

pub moves-data : (b : Bool) → moves (enter_text b ∷ []) ≡ 0
moves-data true = refl
moves-data false = refl

pub depth-data : (b : Bool) (P : ℕ → Type 0) → P 3 → P (depth_after 2 (enter_text b ∷ []))
depth-data true P h = h
depth-data false P h = h

-- Runs that fail.

pub DoesAs-fails : (d : ℕ) (p : Plan) (s : TokenizeState) (T : Tokenizer) → p (ahead T) ≡ None →
    (ok : Bool) (U : Tokenizer) → (ok ≡ false) × (U ≡ scratched s T) → DoesAs d p s T ok U
DoesAs-fails d p s T e true U k = absurd (true≢false k.0)
DoesAs-fails d p s T e false U k = record { none = e; grown = Grown-same d s T U k.1; scratch = scratch-same s T U k.1 }

-- by a test
pub state-by : (Q : State → Type 0) (b : Bool) (x y : State) → (b ≡ true → Q x) → (b ≡ false → Q y) →
    Q (if b then x else y)
state-by Q true x y f g = f refl
state-by Q false x y f g = g refl
