-- the laws of the states of whitespace on one line
use Rattle.std.proofs.Common.{◌≡◌, ℕ, zero, suc, ◌+◌, ◌-◌, ◌<◌, ◌&&◌, nat_lt, nat_le, Bool, true, false, Option, List, [], ◌∷◌, ◌++◌, length, drop, take, refl, sym, ap, subst, ◌∙◌, arith}
use Rattle.std.proofs.lemmas.Bool.{ltb-true}
use Rattle.markdown_content.specs.Codes.{Code, is_blank}
use Rattle.markdown_engine.specs.Operations.{current_of, consumed, exited, scratched, ahead, applied, Exit, Consume, IsOpen}
use Rattle.markdown_engine.specs.PastTree.{EndsAs, entered_leaf, link_before, past, passed}
use Rattle.markdown_content.specs.Place.{ahead_at}
use Rattle.markdown_engine.specs.StateRuns.{Stepped}
use Rattle.markdown_content.specs.Tree.{leaf_codes}
use Rattle.markdown_engine.specs.Weights.{codes_left, weight_at}
use Rattle.markdown_event.specs.declared.event.Content.{Content}
use Rattle.markdown_event.specs.declared.event.Name.{Name}
use Rattle.markdown_event.specs.declared.state.State.TheVariants.{Next, Retry}
use Rattle.markdown_event.specs.declared.state.StateName.{StateName}
use Rattle.markdown_event.specs.declared.state.StateName.TheVariants as H
use Rattle.markdown_event.specs.declared.state.StateName.TheVariants.{SpaceOrTabInside, SpaceOrTabAfter}
use Rattle.markdown_engine.specs.declared.tokenizer.TokenizeState.{TokenizeState}
use Rattle.markdown_engine.specs.declared.tokenizer.Tokenizer.{Tokenizer}
use Rattle.markdown_engine.proofs.LawSteps.{if-step}
use Rattle.markdown_engine.proofs.OperationFields.{attempts-applied, attempts-scratched, left-applied, left-scratched, left-ahead}
use Rattle.markdown_event.proofs.AndParts.{and-left, and-right}
use Rattle.markdown_engine.proofs.TreeEvents.{leaf-past, ahead-past, past-empty, Fails-past}
use Rattle.markdown_model.specs.Grammar.{span}
use Rattle.markdown_model.specs.TextLines.{linked_leaf}
use Rattle.markdown_model.specs.Whitespace.{space_or_tab}
use Rattle.markdown_partial.specs.PartialSpaceOrTab.{connected, sized, rested, start_ends, taken, inside_ends, after_ends, states, after_words, inside_words, start_words}
use Rattle.markdown_partial.proofs.LinkedLeafLemmas.{entered-cursor, entered-attempts, entered-open, entered-left}
use Rattle.markdown_partial.proofs.BlankCodes.{CodePasses, here, blank-ahead, taken-parts, taken-first, taken-none}
use Rattle.markdown_partial.proofs.WhitespaceReadings.{space-holds, space-refused}
use Rattle.markdown_model.proofs.ReadingsCover.{codes-linked_leaf}
use Rattle.markdown_engine.specs.StateWords.{StateWords, Words, Law, GoesIn}
use Rattle.markdown_plan.proofs.LawStepsOfLayer.{Goes-plain, Goes-end}
use Rattle.markdown_plan.specs.LayerEquation.{EqualsLayer, AreLawful}
use Rattle.markdown_plan.specs.ByteTests.{at_blank}

pub after-law : (W : Words) → Law W after_words
after-law W T alone _ =
    Goes-end W (weight_at 1 T) (after_ends T) _ (scratched (rested T.tokenize_state) T) (attempts-scratched _ T ∙ alone) (omega arith) (λ ok U k. k)

-- Inside.

abbrev more : Tokenizer → Tokenizer
more T = scratched (sized (T.tokenize_state.space_or_tab_size + 1) T.tokenize_state) (consumed T)

taken-more : (s : TokenizeState) (c : Code) (cs : List Code) → s.space_or_tab_size < s.space_or_tab_max →
    is_blank c ≡ true → taken s (c ∷ cs) ≡ c ∷ taken (sized (s.space_or_tab_size + 1) s) cs
taken-more s c cs h e =
    let less : s.space_or_tab_max - s.space_or_tab_size ≡ suc (s.space_or_tab_max - (s.space_or_tab_size + 1)) = omega arith in
    ap (λ n. take n (span is_blank (c ∷ cs)).0) less ∙ taken-first (s.space_or_tab_max - (s.space_or_tab_size + 1)) is_blank c cs e

lt-gap : (a b : ℕ) → nat_lt a b ≡ nat_lt 0 (b - a)
lt-gap a b = grind arith

inside-more : (T : Tokenizer) → T.tokenize_state.space_or_tab_size < T.tokenize_state.space_or_tab_max →
    CodePasses is_blank T → (ok : Bool) (U : Tokenizer) → inside_ends (more T) ok U → inside_ends T ok U
unfolding scratched applied passed
inside-more T l b ok U k =
    let s : TokenizeState = T.tokenize_state in
    let ws : List Code = taken (sized (s.space_or_tab_size + 1) s) (ahead (consumed T)) in
    let whole : taken s (ahead T) ≡ b.code ∷ ws = ap (taken s) b.whole ∙ taken-more s b.code (ahead (consumed T)) l b.passes in
    let size : (s.space_or_tab_size + 1) + length ws ≡ s.space_or_tab_size + length (taken s (ahead T)) = omega (arith, ap length whole) in
    (k.0 ∙ ap (nat_le s.space_or_tab_min) size, k.1 ∙ ap (λ xs. scratched (rested s) (exited s.space_or_tab_token (passed xs T))) (sym whole))

inside-stop : (T : Tokenizer) → taken T.tokenize_state (ahead T) ≡ [] → (ok : Bool) (U : Tokenizer) →
    after_ends (exited T.tokenize_state.space_or_tab_token T) ok U → inside_ends T ok U
unfolding scratched applied passed
inside-stop T e ok U k =
    let s : TokenizeState = T.tokenize_state in
    let size : s.space_or_tab_size ≡ s.space_or_tab_size + length (taken s (ahead T)) = omega (arith, ap length e) in
    (k.0 ∙ ap (nat_le s.space_or_tab_min) size, k.1 ∙ ap (λ xs. scratched (rested s) (exited s.space_or_tab_token (passed xs T))) (sym e))

open-still : (T : Tokenizer) → IsOpen T.tokenize_state.space_or_tab_token T →
    IsOpen (more T).tokenize_state.space_or_tab_token (more T)
unfolding scratched applied
open-still T h = h

-- past a code at hand fewer are left
pub fewer : (p : Code → Bool) (T : Tokenizer) → CodePasses p T → codes_left (consumed T) + 1 ≡ codes_left T
fewer p T b = omega (arith, left-ahead T, left-ahead (consumed T), ap length b.whole)

pub inside-law : (W : Words) → EqualsLayer states W → Law W inside_words
inside-law W within T alone token =
    let s : TokenizeState = T.tokenize_state in
    let n : ℕ = weight_at 2 T in
    let P : Stepped → Type 0 = GoesIn W n (inside_ends T) in
    if-step P (at_blank (current_of T) && nat_lt s.space_or_tab_size s.space_or_tab_max) _ _
    (λ h. let b : CodePasses is_blank T = here is_blank T (sym (blank-ahead T) ∙ and-left _ _ h) in
    Goes-plain W n (inside_ends T) (Next SpaceOrTabInside) (within SpaceOrTabInside) (more T) (attempts-scratched _ (consumed T) ∙ attempts-applied Consume T ∙ alone) (open-still T token)
    (omega (arith, fewer is_blank T b, left-scratched (sized (s.space_or_tab_size + 1) s) (consumed T)))
    (λ ok U k. inside-more T (ltb-true _ _ (and-right _ _ h)) b ok U k))
    (λ h. let none : taken s (ahead T) ≡ [] =
    taken-none (s.space_or_tab_max - s.space_or_tab_size) is_blank (ahead T) (ap (λ b. b && nat_lt 0 (s.space_or_tab_max - s.space_or_tab_size)) (sym (blank-ahead T)) ∙ ap (λ b. at_blank (current_of T) && b) (sym (lt-gap s.space_or_tab_size s.space_or_tab_max)) ∙ h) in
    let V : Tokenizer = exited s.space_or_tab_token T in
    Goes-plain W n (inside_ends T) (Retry SpaceOrTabAfter) (within SpaceOrTabAfter) V (attempts-applied (Exit s.space_or_tab_token) T ∙ alone) tt
    (omega (arith, left-applied (Exit s.space_or_tab_token) T refl))
    (λ ok U k. inside-stop T none ok U k))

-- From the start.

space-closed : (name : Name) (link : Option Content) (min max : ℕ) (previous : Option ℕ) (s : TokenizeState) (T : Tokenizer) (ok : Bool) (U : Tokenizer) →
    ok ≡ nat_le min (length (take max (span is_blank (ahead T)).0)) →
    U ≡ past previous (linked_leaf name link (take max (span is_blank (ahead T)).0)) (scratched s T) →
    EndsAs (space_or_tab name link min max) previous s T ok U
unfolding scratched
space-closed name link min max previous s T true U h k =
    let ws : List Code = take max (span is_blank (ahead T)).0 in
    let rest : List Code = drop (length ws) (ahead T) in
    let whole : ahead T ≡ leaf_codes (linked_leaf name link ws) ++ rest = taken-parts max is_blank (ahead T) ∙ ap (λ x. x ++ rest) (sym (codes-linked_leaf name link ws)) in
    record { tree = linked_leaf name link ws; rest = rest; holds = space-holds name link min max (ahead T) (sym h); left = k; whole = whole; after = ap ahead k ∙ ahead-past previous (linked_leaf name link ws) (scratched s T) rest whole }
space-closed name link min max previous s T false U h k =
    record { refused = space-refused name link min max (ahead T) (sym h); fails = Fails-past previous _ s T U k }

taken-some : (n : ℕ) (T : Tokenizer) → 0 < n → (b : CodePasses is_blank T) →
    (ws : List Code) × (take n (span is_blank (ahead T)).0 ≡ b.code ∷ ws)
taken-some zero T h b = absurd (omega arith)
taken-some (suc n) T h b =
    (take n (span is_blank (ahead (consumed T))).0, ap (λ cs. take (suc n) (span is_blank cs).0) b.whole ∙ taken-first n is_blank b.code (ahead (consumed T)) b.passes)

abbrev entered_space : TokenizeState → Tokenizer → Tokenizer
entered_space s T = entered_leaf s.space_or_tab_token s.space_or_tab_content s.space_or_tab_connect T

-- and what follows linked to it
abbrev connected_space : Tokenizer → Tokenizer
connected_space T = scratched (connected T.tokenize_state) (entered_space T.tokenize_state T)

start-inside : (T : Tokenizer) → 0 < T.tokenize_state.space_or_tab_max → T.tokenize_state.space_or_tab_size ≡ 0 →
    CodePasses is_blank T → (ok : Bool) (U : Tokenizer) → inside_ends (connected_space T) ok U →
    start_ends T ok U
unfolding scratched applied passed past
start-inside T l z b ok U k =
    let s : TokenizeState = T.tokenize_state in
    let name : Name = s.space_or_tab_token in
    let link : Option Content = s.space_or_tab_content in
    let previous : Option ℕ = link_before s.space_or_tab_connect T in
    let E : Tokenizer = entered_space s T in
    let ws : List Code = take s.space_or_tab_max (span is_blank (ahead T)).0 in
    let P : TokenizeState → Type 0 = λ q. (ok ≡ nat_le q.space_or_tab_min (q.space_or_tab_size + length (taken q (ahead E)))) × (U ≡ scratched (rested q) (exited q.space_or_tab_token (passed (taken q (ahead E)) E))) in
    let now : P s = k in
    let gap : s.space_or_tab_max - s.space_or_tab_size ≡ s.space_or_tab_max = omega arith in
    let all : taken s (ahead E) ≡ ws = ap (λ p. taken s (ahead_at p)) (entered-cursor name link s.space_or_tab_connect T) ∙ ap (λ n. take n (span is_blank (ahead T)).0) gap in
    let count : s.space_or_tab_size + length (taken s (ahead E)) ≡ length ws = omega (arith, ap length all) in
    let first = taken-some s.space_or_tab_max T l b in
    let whole : ahead T ≡ (b.code ∷ first.0) ++ drop (length ws) (ahead T) = taken-parts s.space_or_tab_max is_blank (ahead T) ∙ ap (λ x. x ++ drop (length ws) (ahead T)) first.1 in
    let law : exited name (passed (b.code ∷ first.0) E) ≡ past previous (linked_leaf name link (b.code ∷ first.0)) T = leaf-past name link s.space_or_tab_connect b.code first.0 (drop (length ws) (ahead T)) T whole in
    let left : exited name (passed ws E) ≡ past previous (linked_leaf name link ws) T =
    subst (λ xs. exited name (passed xs E) ≡ past previous (linked_leaf name link xs) T) (sym first.1) law in
    space-closed name link s.space_or_tab_min s.space_or_tab_max previous (rested s) T ok U
    (now.0 ∙ ap (nat_le s.space_or_tab_min) count)
    (now.1 ∙ ap (λ xs. scratched (rested s) (exited name (passed xs E))) all ∙ ap (scratched (rested s)) left)

start-after : (T : Tokenizer) → T.tokenize_state.space_or_tab_size ≡ 0 →
    take T.tokenize_state.space_or_tab_max (span is_blank (ahead T)).0 ≡ [] → (ok : Bool) (U : Tokenizer) →
    after_ends T ok U → start_ends T ok U
start-after T z e ok U k =
    let s : TokenizeState = T.tokenize_state in
    let previous : Option ℕ = link_before s.space_or_tab_connect T in
    let count : s.space_or_tab_size ≡ length (take s.space_or_tab_max (span is_blank (ahead T)).0) = z ∙ ap length (sym e) in
    space-closed s.space_or_tab_token s.space_or_tab_content s.space_or_tab_min s.space_or_tab_max previous (rested s) T ok U
    (k.0 ∙ ap (nat_le s.space_or_tab_min) count)
    (k.1 ∙ sym (past-empty previous (scratched (rested s) T)) ∙ ap (λ xs. past previous (linked_leaf s.space_or_tab_token s.space_or_tab_content xs) (scratched (rested s) T)) (sym e))

open-entered : (T : Tokenizer) → IsOpen (connected_space T).tokenize_state.space_or_tab_token (connected_space T)
unfolding scratched
open-entered T =
    let s : TokenizeState = T.tokenize_state in
    entered-open s.space_or_tab_token s.space_or_tab_content s.space_or_tab_connect T

pub start-law : (W : Words) → EqualsLayer states W → Law W start_words
start-law W within T alone on =
    let s : TokenizeState = T.tokenize_state in
    let n : ℕ = weight_at 3 T in
    let P : Stepped → Type 0 = GoesIn W n (start_ends T) in
    let E : Tokenizer = entered_space s T in
    let V : Tokenizer = connected_space T in
    let same : codes_left V ≡ codes_left T = left-scratched (connected s) E ∙ entered-left s.space_or_tab_token s.space_or_tab_content s.space_or_tab_connect T in
    if-step P (at_blank (current_of T) && nat_lt 0 s.space_or_tab_max) _ _
    (λ h. let b : CodePasses is_blank T = here is_blank T (sym (blank-ahead T) ∙ and-left _ _ h) in
    Goes-plain W n (start_ends T) (Retry SpaceOrTabInside) (within SpaceOrTabInside) V (attempts-scratched (connected s) E ∙ entered-attempts s.space_or_tab_token s.space_or_tab_content s.space_or_tab_connect T ∙ alone) (open-entered T)
    (omega (arith, same))
    (λ ok U k. start-inside T (ltb-true _ _ (and-right _ _ h)) on.none_yet b ok U k))
    (λ h. let none : take s.space_or_tab_max (span is_blank (ahead T)).0 ≡ [] = taken-none s.space_or_tab_max is_blank (ahead T) (ap (λ b. b && nat_lt 0 s.space_or_tab_max) (sym (blank-ahead T)) ∙ h) in
    Goes-plain W n (start_ends T) (Retry SpaceOrTabAfter) (within SpaceOrTabAfter) T alone tt (omega arith) (λ ok U k. start-after T on.none_yet none ok U k))

-- of these states, and of any other as it is given
pub laws : (W : Words) → EqualsLayer states W → (t : StateName → StateWords) → AreLawful W t → AreLawful W (states t)
laws W within t other H.SpaceOrTabStart = start-law W within
laws W within t other H.SpaceOrTabInside = inside-law W within
laws W within t other H.SpaceOrTabAfter = after-law W
laws W within t other s = other s
