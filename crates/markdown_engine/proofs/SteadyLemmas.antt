-- A stretch of codes over which a state goes on by itself means as many steps.
use Rattle.std.proofs.Common.{◌≡◌, ℕ, ◌==◌, Bool, true, false, if◌then◌else◌, List, [], ◌∷◌, ◌++◌, ◌+◌, Option, Some, None, refl, sym, ap, subst, arith, ◌∙◌}
use Rattle.std.specs.List.{list_any}
use Rattle.std.proofs.lemmas.Bool.{both_ways, not-true, eqb-true, or_parts}
use Rattle.markdown_content.specs.Codes.{Code, line_feed}
use Rattle.markdown_engine.specs.Operations.{current_of, ahead, applied, consumed}
use Rattle.markdown_content.specs.Place.{Place, ahead_at, moved}
use Rattle.markdown_engine.specs.CallsWithAttempts.{CallsReach}
use Rattle.markdown_engine.specs.StateRuns.{Stepped, stepped, settled, MayGo, GoesOn, ends_state, Lawful}
use Rattle.markdown_engine.specs.Steady.{IsSteady, Onward, alone_among}
use Rattle.markdown_content.specs.Stretch.{stops, is_free, past_stretch}
use Rattle.markdown_event.specs.declared.state.State.TheVariants.{Next}
use Rattle.markdown_event.specs.declared.state.StateName.{StateName}
use Rattle.markdown_engine.specs.declared.tokenizer.TokenizeState.{TokenizeState}
use Rattle.markdown_engine.specs.declared.tokenizer.Tokenizer.{Tokenizer}
use Rattle.markdown_content.proofs.PlaceRules.{ahead_moved, code_at_end}
use Rattle.markdown_engine.proofs.CallsWithAttemptsLemmas.{Reaches-call}
use Rattle.markdown_engine.proofs.AttemptLemmas.{goes-alone, settled-same}
use Rattle.markdown_content.proofs.StretchLemmas.{past-none, past-one}
use Rattle.markdown_engine.proofs.TurnLemmas.{later-none, later-more, ran-call}
use Rattle.markdown_engine.specs.TurnCount.{later, ran, runs_out}
use Rattle.markdown_engine.specs.declared.tokenizer.Attempt.{Attempt}

-- at this place
unfoldable pub placed : Place → Tokenizer → Tokenizer
placed p T = record T { cursor = p }

-- where it stands
pub onward-here : (ready : StateName → Tokenizer → Type 0) (step : StateName → Tokenizer → Stepped) (ends : StateName → Tokenizer → Bool → Tokenizer → Type 0) (weight : StateName → Tokenizer → ℕ) (s : StateName) (T : Tokenizer) →
    T.attempts ≡ [] → ready s T → Onward ready step ends weight s T T
onward-here ready step ends weight s T alone r =
    record { alone = alone; goes_on = r; below = omega arith; calls = λ fs ok V k. k; ends_so = λ ok V k. k; turns = λ n lt. (0, later-none (ran step n (Next s) T)) }

onward-then : {ready : StateName → Tokenizer → Type 0} {step : StateName → Tokenizer → Stepped} {ends : StateName → Tokenizer → Bool → Tokenizer → Type 0} {weight : StateName → Tokenizer → ℕ} {s : StateName} {T U V : Tokenizer} →
    Onward ready step ends weight s T U → Onward ready step ends weight s U V → Onward ready step ends weight s T V
onward-then g h = record {
  alone = h.alone;
  goes_on = h.goes_on;
  below = omega (arith, g.below, h.below);
  calls = λ fs ok V k. g.calls fs ok V (h.calls fs ok V k);
  ends_so = λ ok V k. g.ends_so ok V (h.ends_so ok V k);
  turns = λ n lt. let a = g.turns n lt in let b = h.turns n (omega (arith, lt, g.below)) in (a.0 + b.0, a.1 ∙ ap (later a.0) b.1 ∙ later-more a.0 b.0 _);
}

-- past one code
onward-one : (ready : StateName → Tokenizer → Type 0) (step : StateName → Tokenizer → Stepped) (ends : StateName → Tokenizer → Bool → Tokenizer → Type 0) (weight : StateName → Tokenizer → ℕ) →
    Lawful ready step ends weight → (s : StateName) (T U : Tokenizer) → T.attempts ≡ [] → ready s T →
    step s T ≡ stepped (Next s) U → U.attempts ≡ [] → Onward ready step ends weight s T U
onward-one ready step ends weight laws s T U alone r e none =
    let goes : MayGo ready weight (weight s T) (Next s) U × ((ok : Bool) (V : Tokenizer) → ends_state ends (Next s) U ok V → ends s T ok V) =
    goes-alone ready ends weight (weight s T) (ends s T) (Next s) U none (subst (λ (x : Stepped). GoesOn ready ends weight (weight s T) (ends s T) x) e (laws s T alone r)) in
    record {
      alone = none;
      goes_on = goes.0.goes_on;
      below = omega (arith, goes.0.falls);
      calls = λ fs ok V k. Reaches-call ready step s T ok V r fs (subst (λ (x : Stepped). CallsReach ready step (x.left.attempts ++ fs) x.state (settled x.left) ok V) (sym e) (subst (λ (gs : List Attempt). CallsReach ready step (gs ++ fs) (Next s) (settled U) ok V) (sym none) (subst (λ (X : Tokenizer). CallsReach ready step fs (Next s) X ok V) (sym (settled-same U none)) k)));
      ends_so = λ ok V k. goes.1 ok V k;
      turns = λ n lt. (1, ran-call ready step ends weight laws n s T alone r lt ∙ ap (later 1) (ap (λ (x : Stepped). runs_out (ran step n) x.left.attempts x.state (settled x.left)) e ∙ ap (λ (gs : List Attempt). runs_out (ran step n) gs (Next s) (settled U)) none ∙ ap (λ (X : Tokenizer). ran step n (Next s) X) (settled-same U none)));
    }

consumed-alone : (T : Tokenizer) → T.attempts ≡ [] → (consumed T).attempts ≡ []
unfolding applied
consumed-alone T e = e

consumed-placed : (p : Place) (T : Tokenizer) → placed p (consumed T) ≡ placed p T
unfolding applied placed
consumed-placed p T = refl

cursor-consumed : (T : Tokenizer) → (consumed T).cursor ≡ moved T.cursor
unfolding applied
cursor-consumed T = refl

fields-consumed : (T : Tokenizer) → (consumed T).tokenize_state ≡ T.tokenize_state
unfolding applied
fields-consumed T = refl

placed-here : (p : Place) (T : Tokenizer) → p ≡ T.cursor → placed p T ≡ T
unfolding placed
placed-here p T e = ap (λ (q : Place). record T { cursor = q }) e

past-next : (set : List ℕ) (T : Tokenizer) → is_free set (current_of T) ≡ true →
    placed (past_stretch set (consumed T).cursor) (consumed T) ≡ placed (past_stretch set T.cursor) T
past-next set T free =
    consumed-placed (past_stretch set (consumed T).cursor) T
    ∙ ap (λ (p : Place). placed p T) (ap (past_stretch set) (cursor-consumed T) ∙ sym (past-one set T.cursor free))

-- past the codes of a stretch
onward-from : (ready : StateName → Tokenizer → Type 0) (step : StateName → Tokenizer → Stepped) (ends : StateName → Tokenizer → Bool → Tokenizer → Type 0) (weight : StateName → Tokenizer → ℕ) (known : StateName → TokenizeState → Option (List ℕ)) →
    Lawful ready step ends weight → IsSteady ready step known →
    (s : StateName) (set : List ℕ) (cs : List Code) (T : Tokenizer) → ahead T ≡ cs → T.attempts ≡ [] → ready s T →
    known s T.tokenize_state ≡ Some set → (b : Bool) → is_free set (current_of T) ≡ b →
    Onward ready step ends weight s T (placed (past_stretch set T.cursor) T)
onward-from ready step ends weight known laws steady s set cs T e alone r is false held =
    subst (λ (U : Tokenizer). Onward ready step ends weight s T U) (sym (placed-here (past_stretch set T.cursor) T (past-none set T.cursor held))) (onward-here ready step ends weight s T alone r)
onward-from ready step ends weight known laws steady s set [] T e alone r is true free =
    absurd (both_ways false refl (ap (is_free set) (sym (code_at_end T.cursor e)) ∙ free))
onward-from ready step ends weight known laws steady s set (c ∷ cs) T e alone r is true free =
    let X : Tokenizer = consumed T in
    let one : Onward ready step ends weight s T X = onward-one ready step ends weight laws s T X alone r (steady s T set alone r is free) (consumed-alone T alone) in
    let left : ahead X ≡ cs = ap ahead_at (cursor-consumed T) ∙ ahead_moved T.cursor c cs e in
    let more : Onward ready step ends weight s X (placed (past_stretch set X.cursor) X) =
    onward-from ready step ends weight known laws steady s set cs X left one.alone one.goes_on (ap (known s) (fields-consumed T) ∙ is) (is_free set (current_of X)) refl in
    onward-then one (subst (λ (U : Tokenizer). Onward ready step ends weight s X U) (past-next set T free) more)

pub onward-stretch : (ready : StateName → Tokenizer → Type 0) (step : StateName → Tokenizer → Stepped) (ends : StateName → Tokenizer → Bool → Tokenizer → Type 0) (weight : StateName → Tokenizer → ℕ) (known : StateName → TokenizeState → Option (List ℕ)) →
    Lawful ready step ends weight → IsSteady ready step known → (s : StateName) (set : List ℕ) (T : Tokenizer) →
    T.attempts ≡ [] → ready s T → known s T.tokenize_state ≡ Some set →
    Onward ready step ends weight s T (record T { cursor = past_stretch set T.cursor })
unfolding placed
onward-stretch ready step ends weight known laws steady s set T alone r is =
    onward-from ready step ends weight known laws steady s set (ahead T) T refl alone r is (is_free set (current_of T)) refl

-- By the code at hand.

free-of : (set : List ℕ) (v : ℕ) → is_free set (Some v) ≡ true →
    (v == line_feed ≡ false) × (list_any (λ n. v == n) set ≡ false)
free-of set v h = or_parts (v == line_feed) (list_any (λ n. v == n) set) (not-true (stops set v) h)

steady-by : (set : List ℕ) (T : Tokenizer) (at : Option ℕ → Tokenizer → Stepped) (r : Stepped) (o : Option ℕ) →
    is_free set o ≡ true →
    ((v : ℕ) → (v == line_feed) ≡ false → list_any (λ n. v == n) set ≡ false → at (Some v) T ≡ r) → at o T ≡ r
steady-by set T at r None free k = absurd (both_ways false refl free)
steady-by set T at r (Some v) free k = let f = free-of set v free in k v f.0 f.1

-- what a step does at each code that is neither a line ending nor one of the bytes, it does at the code at hand
pub steady-at : (set : List ℕ) (T : Tokenizer) (at : Option ℕ → Tokenizer → Stepped) (r : Stepped) →
    is_free set (current_of T) ≡ true →
    ((v : ℕ) → (v == line_feed) ≡ false → list_any (λ n. v == n) set ≡ false → at (Some v) T ≡ r) →
    at (current_of T) T ≡ r
steady-at set T at r free k = steady-by set T at r (current_of T) free k

one-by : (b : Bool) (m k : ℕ) (set : List ℕ) (o : Option (List ℕ)) → (b ≡ true → m ≡ k) →
    (if b then Some (k ∷ []) else o) ≡ Some set → (o ≡ Some set → set ≡ m ∷ []) → set ≡ m ∷ []
one-by true m k set o e h other = let same : m ≡ k = e refl in cc
one-by false m k set o e h other = other h

-- where the bytes of a state are its marker alone
pub alone-is : (ks : List ℕ) (m : ℕ) (set : List ℕ) → alone_among ks m ≡ Some set → set ≡ m ∷ []
alone-is [] m set h = cc
alone-is (k ∷ ks) m set h = one-by (m == k) m k set (alone_among ks m) (eqb-true m k) h (alone-is ks m set)

pub alone-other : (v m : ℕ) (set : List ℕ) → set ≡ m ∷ [] → list_any (λ n. v == n) set ≡ false → (v == m) ≡ false
alone-other v m set e h = (or_parts (v == m) false (ap (λ (ns : List ℕ). list_any (λ n. v == n) ns) (sym e) ∙ h)).0
