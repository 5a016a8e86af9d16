-- Runs of a layer's states, turn by turn.
use Rattle.std.proofs.Common.{◌≡◌, ℕ, zero, suc, ◌+◌, ◌⊎◌, inl, inr, ◌<◌, ◌≤◌, List, [], ◌∷◌, ◌++◌, Bool, true, false, refl, sym, ap, subst, arith, ◌∙◌}
use Rattle.markdown_engine.specs.CallsWithAttempts.{CallsReach}
use Rattle.markdown_engine.specs.StateRuns.{Stepped, stepped, settled, going_state, going_in, ends_state, MayGo, Goes, GoesOn, Lawful}
use Rattle.markdown_engine.specs.Steady.{Onward}
use Rattle.markdown_engine.specs.TurnCount.{Ran, later, runs_out, ran}
use Rattle.markdown_event.specs.declared.state.StateName.{StateName}
use Rattle.markdown_event.specs.declared.state.State.{State}
use Rattle.markdown_event.specs.declared.state.State.TheVariants.{Next, Retry, Ok, Nok}
use Rattle.markdown_engine.specs.declared.tokenizer.Attempt.{Attempt}
use Rattle.markdown_engine.specs.declared.tokenizer.Tokenizer.{Tokenizer}
use Rattle.markdown_engine.proofs.CallsWithAttemptsLemmas.{answer, Reaches-call, Reaches-state, Reaches-out}
use Rattle.markdown_engine.proofs.AttemptLemmas.{settled-alone, going_in-alone, weight-next, ends-next}

-- Attempts that go on after a run.

-- where these attempts go on after a run
abbrev out_of : (State → Tokenizer → Ran) → List Attempt → Ran → Ran
out_of R [] r = r
out_of R (f ∷ fs) r = later (suc r.turns) (runs_out R fs (going_state f r.ok) (going_in f r.ok r.left))

runs-out : (R : State → Tokenizer → Ran) (fs : List Attempt) (st : State) (T : Tokenizer) →
    runs_out R fs st T ≡ out_of R fs (R st T)
runs-out R [] st T = refl
runs-out R (f ∷ fs) st T = refl

pub later-none : (r : Ran) → r ≡ later 0 r
later-none r = ap (λ (n : ℕ). record { turns = n; ok = r.ok; left = r.left }) (omega arith)

pub later-more : (a b : ℕ) (r : Ran) → later a (later b r) ≡ later (a + b) r
later-more a b r = ap (λ (n : ℕ). record { turns = n; ok = r.ok; left = r.left }) (omega arith)

later-out : (R : State → Tokenizer → Ran) (fs : List Attempt) (k : ℕ) (r : Ran) →
    out_of R fs (later k r) ≡ later k (out_of R fs r)
later-out R [] k r = refl
later-out R (f ∷ fs) k r =
    let on : Ran = runs_out R fs (going_state f r.ok) (going_in f r.ok r.left) in
    ap (λ (n : ℕ). record { turns = n; ok = on.ok; left = on.left }) (omega arith)

-- some attempts go on, and then others
out-more : (R : State → Tokenizer → Ran) (gs fs : List Attempt) (st : State) (T : Tokenizer) →
    runs_out R (gs ++ fs) st T ≡ out_of R fs (runs_out R gs st T)
out-more R [] fs st T = runs-out R fs st T
out-more R (g ∷ gs) fs st T =
    let r : Ran = R st T in
    let on : Ran = runs_out R gs (going_state g r.ok) (going_in g r.ok r.left) in
    ap (later (suc r.turns)) (out-more R gs fs (going_state g r.ok) (going_in g r.ok r.left)) ∙ sym (later-out R fs (suc r.turns) on)

-- Below which number a state's number is known is all one.

record Agree (P Q : Ran) (End : Bool → Tokenizer → Type 0) : Type 0 where
  pub same : P ≡ Q
  pub ends : End P.ok P.left
  pub alone : P.left.attempts ≡ []

abbrev Agreeing : (StateName → Tokenizer → Type 0) → (StateName → Tokenizer → Bool → Tokenizer → Type 0) →
    (StateName → Tokenizer → ℕ) → ℕ → (P Q : State → Tokenizer → Ran) → Type 0
Agreeing ready ends weight n P Q =
    (st : State) (T : Tokenizer) → T.attempts ≡ [] → MayGo ready weight n st T → Agree (P st T) (Q st T) (ends_state ends st T)

agree-out : (ready : StateName → Tokenizer → Type 0) (ends : StateName → Tokenizer → Bool → Tokenizer → Type 0) (weight : StateName → Tokenizer → ℕ) (n : ℕ) (P Q : State → Tokenizer → Ran) →
    Agreeing ready ends weight n P Q →
    (End : Bool → Tokenizer → Type 0) (fs : List Attempt) (st : State) (T : Tokenizer) → T.attempts ≡ [] →
    Goes ready ends weight n End fs st T → Agree (runs_out P fs st T) (runs_out Q fs st T) End
agree-out ready ends weight n P Q by End [] st T alone h =
    let a = by st T alone h.0 in
    record { same = a.same; ends = h.1 (P st T).ok (P st T).left a.ends; alone = a.alone }
agree-out ready ends weight n P Q by End (f ∷ fs) st T alone h =
    let a = by st T alone h.0 in
    let r : Ran = P st T in
    let more = agree-out ready ends weight n P Q by End fs (going_state f r.ok) (going_in f r.ok r.left) (going_in-alone f r.ok r.left a.alone) (h.1 r.ok r.left a.alone a.ends) in
    record {
      same = ap (later (suc r.turns)) more.same ∙ ap (λ (x : Ran). later (suc x.turns) (runs_out Q fs (going_state f x.ok) (going_in f x.ok x.left))) a.same;
      ends = more.ends;
      alone = more.alone;
    }

goes-below : (ready : StateName → Tokenizer → Type 0) (ends : StateName → Tokenizer → Bool → Tokenizer → Type 0) (weight : StateName → Tokenizer → ℕ) (n m : ℕ) →
    n ≤ m → (End : Bool → Tokenizer → Type 0) (fs : List Attempt) (st : State) (T : Tokenizer) →
    Goes ready ends weight n End fs st T → Goes ready ends weight m End fs st T
goes-below ready ends weight n m le End [] st T h =
    (record { goes_on = h.0.goes_on; falls = omega (arith, le, h.0.falls) }, h.1)
goes-below ready ends weight n m le End (f ∷ fs) st T h =
    (record { goes_on = h.0.goes_on; falls = omega (arith, le, h.0.falls) }, λ ok U alone k. goes-below ready ends weight n m le End fs (going_state f ok) (going_in f ok U) (h.1 ok U alone k))

agree-step : (ready : StateName → Tokenizer → Type 0) (step : StateName → Tokenizer → Stepped) (ends : StateName → Tokenizer → Bool → Tokenizer → Type 0) (weight : StateName → Tokenizer → ℕ) → Lawful ready step ends weight → (n : ℕ) → Agreeing ready ends weight n (ran step n) (ran step (suc n)) → (s : StateName) (T : Tokenizer) → T.attempts ≡ [] → ready s T → weight s T ≤ n
    → Agree (runs_out (ran step n) (step s T).left.attempts (step s T).state (settled (step s T).left)) (runs_out (ran step (suc n)) (step s T).left.attempts (step s T).state (settled (step s T).left)) (ends s T)
agree-step ready step ends weight laws n by s T alone r le =
    let left : Tokenizer = (step s T).left in
    agree-out ready ends weight n (ran step n) (ran step (suc n)) by (ends s T) left.attempts (step s T).state (settled left) (settled-alone left)
    (goes-below ready ends weight (weight s T) n le (ends s T) left.attempts (step s T).state (settled left) (laws s T alone r))

agree-later : (P Q : Ran) (End : Bool → Tokenizer → Type 0) → Agree P Q End → Agree (later 1 P) (later 1 Q) End
agree-later P Q End a = record { same = ap (later 1) a.same; ends = a.ends; alone = a.alone }

agree : (ready : StateName → Tokenizer → Type 0) (step : StateName → Tokenizer → Stepped) (ends : StateName → Tokenizer → Bool → Tokenizer → Type 0) (weight : StateName → Tokenizer → ℕ) →
    Lawful ready step ends weight → (n : ℕ) → Agreeing ready ends weight n (ran step n) (ran step (suc n))
agree ready step ends weight laws n Ok T alone h = record { same = refl; ends = (refl, refl); alone = alone }
agree ready step ends weight laws n Nok T alone h = record { same = refl; ends = (refl, refl); alone = alone }
agree ready step ends weight laws zero (Next s) T alone h = absurd (omega (arith, h.falls))
agree ready step ends weight laws zero (Retry s) T alone h = absurd (omega (arith, h.falls))
agree ready step ends weight laws (suc n) (Next s) T alone h =
    agree-later _ _ _ (agree-step ready step ends weight laws n (agree ready step ends weight laws n) s T alone h.goes_on (omega (arith, h.falls)))
agree ready step ends weight laws (suc n) (Retry s) T alone h =
    agree-later _ _ _ (agree-step ready step ends weight laws n (agree ready step ends weight laws n) s T alone h.goes_on (omega (arith, h.falls)))

-- a call is one turn
pub ran-call : (ready : StateName → Tokenizer → Type 0) (step : StateName → Tokenizer → Stepped) (ends : StateName → Tokenizer → Bool → Tokenizer → Type 0) (weight : StateName → Tokenizer → ℕ) →
    Lawful ready step ends weight → (n : ℕ) (s : StateName) (T : Tokenizer) → T.attempts ≡ [] → ready s T →
    weight s T < n →
    ran step n (Next s) T ≡ later 1 (runs_out (ran step n) (step s T).left.attempts (step s T).state (settled (step s T).left))
ran-call ready step ends weight laws zero s T alone r lt = absurd (omega (arith, lt))
ran-call ready step ends weight laws (suc n) s T alone r lt =
    ap (later 1) (agree-step ready step ends weight laws n (agree ready step ends weight laws n) s T alone r (omega (arith, lt))).same

-- What goes on with attempts that wait.

-- what follows the ends of a run
abbrev On : (StateName → Tokenizer → Type 0) → (StateName → Tokenizer → Bool → Tokenizer → Type 0) →
    (StateName → Tokenizer → ℕ) → ℕ → (Bool → Tokenizer → Type 0) → (Bool → Tokenizer → Type 0) → List Attempt → Type 0
On ready ends weight n End In [] = (ok : Bool) (U : Tokenizer) → In ok U → End ok U
On ready ends weight n End In (f ∷ fs) =
    (ok : Bool) (U : Tokenizer) → U.attempts ≡ [] → In ok U → Goes ready ends weight n End fs (going_state f ok) (going_in f ok U)

goes-more : (ready : StateName → Tokenizer → Type 0) (ends : StateName → Tokenizer → Bool → Tokenizer → Type 0) (weight : StateName → Tokenizer → ℕ) (n m : ℕ) →
    n ≤ m → (In End : Bool → Tokenizer → Type 0) (fs : List Attempt) → On ready ends weight m End In fs →
    (gs : List Attempt) (st : State) (T : Tokenizer) → Goes ready ends weight n In gs st T →
    Goes ready ends weight m End (gs ++ fs) st T
goes-more ready ends weight n m le In End [] on [] st T h =
    (record { goes_on = h.0.goes_on; falls = omega (arith, le, h.0.falls) }, λ ok U k. on ok U (h.1 ok U k))
goes-more ready ends weight n m le In End (f ∷ fs) on [] st T h =
    (record { goes_on = h.0.goes_on; falls = omega (arith, le, h.0.falls) }, λ ok U alone k. on ok U alone (h.1 ok U k))
goes-more ready ends weight n m le In End fs on (g ∷ gs) st T h =
    (record { goes_on = h.0.goes_on; falls = omega (arith, le, h.0.falls) }, λ ok U alone k. goes-more ready ends weight n m le In End fs on gs (going_state g ok) (going_in g ok U) (h.1 ok U alone k))

pub goes-now : (ready : StateName → Tokenizer → Type 0) (ends : StateName → Tokenizer → Bool → Tokenizer → Type 0) (weight : StateName → Tokenizer → ℕ) (n : ℕ) (End : Bool → Tokenizer → Type 0) (fs : List Attempt) (st : State) (T : Tokenizer) →
    Goes ready ends weight n End fs st T → MayGo ready weight n st T
goes-now ready ends weight n End [] st T h = h.0
goes-now ready ends weight n End (f ∷ fs) st T h = h.0

-- the ends of a run that begins later are among the ends
on-from : (ready : StateName → Tokenizer → Type 0) (ends : StateName → Tokenizer → Bool → Tokenizer → Type 0) (weight : StateName → Tokenizer → ℕ) (n : ℕ) (End In : Bool → Tokenizer → Type 0) (fs : List Attempt) (st : State) (T : Tokenizer) →
    ((ok : Bool) (U : Tokenizer) → In ok U → ends_state ends st T ok U) → Goes ready ends weight n End fs st T →
    On ready ends weight n End In fs
on-from ready ends weight n End In [] st T so h = λ ok U k. h.1 ok U (so ok U k)
on-from ready ends weight n End In (f ∷ fs) st T so h = λ ok U alone k. h.1 ok U alone (so ok U k)

-- One turn.

-- what a turn leads to: it goes on, what is reached from there was reached before it, and fewer turns are left
pub record Turned (ready : StateName → Tokenizer → Type 0) (step : StateName → Tokenizer → Stepped) (ends : StateName → Tokenizer → Bool → Tokenizer → Type 0) (weight : StateName → Tokenizer → ℕ) (n : ℕ) (End : Bool → Tokenizer → Type 0) (fs : List Attempt) (st : State) (T : Tokenizer) (gs : List Attempt) (on : State) (U : Tokenizer) : Type 0 where
  pub goes : Goes ready ends weight n End gs on U
  pub calls : (ok : Bool) (V : Tokenizer) → CallsReach ready step gs on U ok V → CallsReach ready step fs st T ok V
  pub fewer : (runs_out (ran step n) gs on U).turns < (runs_out (ran step n) fs st T).turns

-- the innermost attempt goes on
pub turned-out : (ready : StateName → Tokenizer → Type 0) (step : StateName → Tokenizer → Stepped) (ends : StateName → Tokenizer → Bool → Tokenizer → Type 0) (weight : StateName → Tokenizer → ℕ) (n : ℕ) (End : Bool → Tokenizer → Type 0) (f : Attempt) (fs : List Attempt) (b : Bool) (T : Tokenizer) →
    T.attempts ≡ [] → Goes ready ends weight n End (f ∷ fs) (answer b) T →
    Turned ready step ends weight n End (f ∷ fs) (answer b) T fs (going_state f b) (going_in f b T)
turned-out ready step ends weight n End f fs true T alone h =
    record { goes = h.1 true T alone (refl, refl); calls = Reaches-out ready step f fs true T; fewer = omega arith }
turned-out ready step ends weight n End f fs false T alone h =
    record { goes = h.1 false T alone (refl, refl); calls = Reaches-out ready step f fs false T; fewer = omega arith }

ran-next : (step : StateName → Tokenizer → Stepped) (n : ℕ) (st : State) (s : StateName) (T : Tokenizer) →
    ((st ≡ Next s) ⊎ (st ≡ Retry s)) → ran step n st T ≡ ran step n (Next s) T
ran-next step n st s T (inl e) = ap (λ (x : State). ran step n x T) e
ran-next step zero st s T (inr e) = ap (λ (x : State). ran step zero x T) e
ran-next step (suc n) st s T (inr e) = ap (λ (x : State). ran step (suc n) x T) e

more-left : (k : ℕ) (P Q : Ran) → P ≡ later k (later 1 Q) → Q.turns < P.turns
more-left k P Q e = subst (λ (x : Ran). Q.turns < x.turns) (sym e) (omega arith)

call-counts : (step : StateName → Tokenizer → Stepped) (n : ℕ) (fs gs : List Attempt) (st : State) (T : Tokenizer) (on : State) (V : Tokenizer) (k : ℕ) →
    ran step n st T ≡ later k (later 1 (runs_out (ran step n) gs on V)) →
    (runs_out (ran step n) (gs ++ fs) on V).turns < (runs_out (ran step n) fs st T).turns
call-counts step n fs gs st T on V k e =
    let R : State → Tokenizer → Ran = ran step n in
    let r : Ran = runs_out R gs on V in
    more-left k (runs_out R fs st T) (runs_out R (gs ++ fs) on V)
    (runs-out R fs st T ∙ ap (out_of R fs) e ∙ later-out R fs k (later 1 r) ∙ ap (later k) (later-out R fs 1 r ∙ ap (later 1) (sym (out-more R gs fs on V))))

-- a state is called, past the codes that it passes by itself
pub turned-call : (ready : StateName → Tokenizer → Type 0) (step : StateName → Tokenizer → Stepped) (ends : StateName → Tokenizer → Bool → Tokenizer → Type 0) (weight : StateName → Tokenizer → ℕ) →
    Lawful ready step ends weight →
    (n : ℕ) (End : Bool → Tokenizer → Type 0) (fs : List Attempt) (st : State) (s : StateName) (T U : Tokenizer) (on : State) (V : Tokenizer) →
    ((st ≡ Next s) ⊎ (st ≡ Retry s)) → Onward ready step ends weight s T U → step s U ≡ stepped on V →
    Goes ready ends weight n End fs st T → Turned ready step ends weight n End fs st T (V.attempts ++ fs) on (settled V)
turned-call ready step ends weight laws n End fs st s T U on V is past e h =
    let lt : weight s T < n = subst (λ (w : ℕ). w < n) (weight-next weight st s T is) (goes-now ready ends weight n End fs st T h).falls in
    let now : GoesOn ready ends weight (weight s U) (ends s U) (stepped on V) = subst (λ (x : Stepped). GoesOn ready ends weight (weight s U) (ends s U) x) e (laws s U past.alone past.goes_on) in
    let more = past.turns n lt in
    record {
      goes = goes-more ready ends weight (weight s U) n (omega (arith, lt, past.below)) (ends s U) End fs (on-from ready ends weight n End (ends s U) fs st T (λ ok X k. ends-next ends st s T ok X is (past.ends_so ok X k)) h) V.attempts on (settled V) now;
      calls = λ ok X k. Reaches-state ready step fs st s T ok X is (past.calls fs ok X (Reaches-call ready step s U ok X past.goes_on fs (subst (λ (x : Stepped). CallsReach ready step (x.left.attempts ++ fs) x.state (settled x.left) ok X) (sym e) k)));
      fewer = call-counts step n fs V.attempts st T on (settled V) more.0
          (ran-next step n st s T is ∙ more.1 ∙ ap (later more.0) (ran-call ready step ends weight laws n s U past.alone past.goes_on (omega (arith, lt, past.below)) ∙ ap (λ (x : Stepped). later 1 (runs_out (ran step n) x.left.attempts x.state (settled x.left))) e));
    }
