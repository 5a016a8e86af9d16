-- How the states inside a leaf follow one another whose name is settled only at its end.
use Rattle.std.proofs.Common.{◌≡◌, ℕ, suc, ◌-◌, Bool, true, false, Some, None, List, [], ◌∷◌, ◌++◌, length, take, drop, map, refl, sym, ap, subst, ◌∙◌, arith, append_assoc, append-nil}
use Rattle.std.proofs.lemmas.List.{take-append-drop}
use Rattle.std.proofs.lemmas.Grind.{common_steps}
use Rattle.markdown_engine.specs.FailedRun.{Grown, unwound}
use Rattle.markdown_content.specs.ListFunctions.{rest_of}
use Rattle.markdown_engine.specs.Operations.{Op, Enter, Consume, ahead, applied, done, scratched, stays, enter_event}
use Rattle.markdown_engine.specs.StateRuns.{GoesOn, stepped}
use Rattle.markdown_engine.specs.Weights.{weight_at, codes_left}
use Rattle.markdown_event.specs.declared.event.Event.{Event}
use Rattle.markdown_event.specs.declared.event.Name.{Name}
use Rattle.markdown_event.specs.declared.state.State.{State}
use Rattle.markdown_event.specs.declared.state.StateName.{StateName}
use Rattle.markdown_engine.specs.declared.tokenizer.TokenizeState.{TokenizeState}
use Rattle.markdown_engine.specs.declared.tokenizer.Tokenizer.{Tokenizer}
use Rattle.markdown_engine.proofs.LawSteps.{Goes-plain}
use Rattle.markdown_engine.proofs.OperationFields.{attempts-scratched}
use Rattle.markdown_engine.proofs.OperationLemmas.{Grown-scratched, attempts-done, drop-rest}
use Rattle.markdown_plan.proofs.PlanSteps.{done-scratched, ahead-after, Grown-after, scratch-same}
use Rattle.markdown_plan.proofs.RenameLemmas.{attempts-renamed}
use Rattle.markdown_plan.specs.Plan.{Plan, DoesAs}
use Rattle.markdown_plan.specs.LateNames.{named, last_named, renamed, unopened, Naming, opened, under, preceded_by, NamesAs}

-- Lists whose last event is known.

take-front : {A : Type 0} (xs : List A) (x : A) → take (length (xs ++ x ∷ []) - 1) (xs ++ x ∷ []) ≡ xs
take-front xs x = grind (arith, common_steps)

drop-front : {A : Type 0} (xs : List A) (x : A) → drop (length (xs ++ x ∷ []) - 1) (xs ++ x ∷ []) ≡ x ∷ []
drop-front xs x = grind (arith, common_steps)

last-named : (n : Name) (es : List Event) (e : Event) → last_named n (es ++ e ∷ []) ≡ es ++ named n e ∷ []
last-named n es e =
    ap (λ xs. xs ++ map (named n) (drop (length (es ++ e ∷ []) - 1) (es ++ e ∷ []))) (take-front es e) ∙ ap (λ xs. es ++ map (named n) xs) (drop-front es e)

-- Right after the Enter.

pub renamed-entered : (n m : Name) (T : Tokenizer) → renamed n (applied (Enter m) T) ≡ applied (Enter n) T
unfolding renamed applied
renamed-entered n m T =
    ap (λ es. record T { events = es; stack = n ∷ T.stack }) (last-named n T.events (enter_event m None T))

pub unopened-entered : (m : Name) (T : Tokenizer) → unopened (applied (Enter m) T) ≡ T
unfolding unopened applied
unopened-entered m T = ap (λ es. record T { events = es }) (take-front T.events (enter_event m None T))

-- Past a code, and with other scratch fields.

pub renamed-consumed : (n : Name) (T : Tokenizer) → renamed n (applied Consume T) ≡ applied Consume (renamed n T)
unfolding renamed applied
renamed-consumed n T = refl

pub renamed-scratched : (n : Name) (s : TokenizeState) (T : Tokenizer) →
    renamed n (scratched s T) ≡ scratched s (renamed n T)
unfolding renamed scratched
renamed-scratched n s T = refl

pub ahead-renamed : (n : Name) (T : Tokenizer) → ahead (renamed n T) ≡ ahead T
unfolding renamed
ahead-renamed n T = refl

pub left-renamed : (n : Name) (T : Tokenizer) → codes_left (renamed n T) ≡ codes_left T
unfolding renamed
left-renamed n T = refl

ahead-entered : (m : Name) (T : Tokenizer) → ahead (applied (Enter m) T) ≡ ahead T
unfolding applied
ahead-entered m T = refl

scratched-over : (n : Name) (s r : TokenizeState) (T : Tokenizer) →
    scratched s (renamed n (scratched r (applied Consume T))) ≡ applied Consume (scratched s (renamed n T))
unfolding scratched renamed applied
scratched-over n s r T = refl

-- Growth from before the leaf.

grown-over : (d : ℕ) (r : TokenizeState) (T U : Tokenizer) → Grown d (unopened (scratched r (applied Consume T))) U →
    Grown d (applied Consume (unopened T)) U
unfolding scratched unopened applied unwound
grown-over d r T U g = Grown-scratched d r (applied Consume (unopened T)) U g

-- what has grown from the leaf under another name has grown from before the leaf
pub Grown-renamed : (d : ℕ) (n : Name) (T U : Tokenizer) → Grown (suc d) (renamed n T) U → Grown d (unopened T) U
unfolding renamed unopened unwound scratched
Grown-renamed d n T U g =
    record {
      added = map (named n) (drop (length T.events - 1) T.events) ++ g.added;
      events = g.events ∙ append_assoc (take (length T.events - 1) T.events) (map (named n) (drop (length T.events - 1) T.events)) g.added;
      edits = g.edits;
      map = g.map;
      opened = g.opened;
      stack = g.stack;
      same = ap (λ (x : Tokenizer). record x { events = take (length T.events - 1) T.events; stack = rest_of T.stack }) g.same;
    }

pub Grown-unopened : (d : ℕ) (s : TokenizeState) (T : Tokenizer) → Grown d (unopened T) (scratched s T)
unfolding unopened unwound scratched
Grown-unopened d s T =
    record {
      added = drop (length T.events - 1) T.events;
      events = sym (take-append-drop (length T.events - 1) T.events);
      edits = [];
      map = sym (append-nil T.map);
      opened = take (suc d) T.stack;
      stack = sym (take-append-drop (suc d) T.stack) ∙ ap (λ ns. take (suc d) T.stack ++ ns) (sym (drop-rest d T.stack));
      same = refl;
    }

-- One step after another.

-- past a code
pub NamesAs-next : (d : ℕ) (p q : Naming) (s r : TokenizeState) (T : Tokenizer) → stays d (Consume ∷ []) ≡ true →
    p (ahead T) ≡ preceded_by (Consume ∷ []) (q (drop 1 (ahead T))) → (ok : Bool) (U : Tokenizer) →
    NamesAs d q s (scratched r (applied Consume T)) ok U → NamesAs d p s T ok U
NamesAs-next d p q s r T st e true U k =
    record {
      name = k.name;
      ops = Consume ∷ k.ops;
      holds = e ∙ ap (preceded_by (Consume ∷ [])) (ap q (sym (ahead-after (Consume ∷ []) r T)) ∙ k.holds);
      left = k.left ∙ ap (done k.ops) (scratched-over k.name s r T);
    }
NamesAs-next d p q s r T st e false U k =
    record {
      none = e ∙ ap (preceded_by (Consume ∷ [])) (ap q (sym (ahead-after (Consume ∷ []) r T)) ∙ k.none);
      grown = Grown-after d (Consume ∷ []) (unopened T) U st (grown-over d r T U k.grown);
      scratch = k.scratch;
    }

-- right after the Enter
pub DoesAs-entered : (d : ℕ) (p : Plan) (q : Naming) (m : Name) (s : TokenizeState) (T : Tokenizer) →
    p (ahead T) ≡ opened (q (ahead T)) → (ok : Bool) (U : Tokenizer) → NamesAs d q s (applied (Enter m) T) ok U →
    DoesAs d p s T ok U
DoesAs-entered d p q m s T e true U k =
    record {
      ops = Enter k.name ∷ k.ops;
      holds = e ∙ ap opened (ap q (sym (ahead-entered m T)) ∙ k.holds);
      left = k.left ∙ ap (λ (x : Tokenizer). done k.ops (scratched s x)) (renamed-entered k.name m T) ∙ ap (done k.ops) (sym (done-scratched (Enter k.name ∷ []) s T));
    }
DoesAs-entered d p q m s T e false U k =
    record {
      none = e ∙ ap opened (ap q (sym (ahead-entered m T)) ∙ k.none);
      grown = subst (λ (x : Tokenizer). Grown d x U) (unopened-entered m T) k.grown;
      scratch = k.scratch;
    }

-- on with the name settled
pub NamesAs-under : (d : ℕ) (p : Naming) (n : Name) (q : Plan) (s : TokenizeState) (T : Tokenizer) →
    p (ahead T) ≡ under n (q (ahead T)) → (ok : Bool) (U : Tokenizer) → DoesAs (suc d) q s (renamed n T) ok U →
    NamesAs d p s T ok U
NamesAs-under d p n q s T e true U k =
    record { name = n; ops = k.ops; holds = e ∙ ap (under n) (ap q (sym (ahead-renamed n T)) ∙ k.holds); left = k.left }
NamesAs-under d p n q s T e false U k =
    record { none = e ∙ ap (under n) (ap q (sym (ahead-renamed n T)) ∙ k.none); grown = Grown-renamed d n T U k.grown; scratch = k.scratch }

-- at the same place
pub NamesAs-same : (d : ℕ) (p q : Naming) (s : TokenizeState) (T : Tokenizer) → p (ahead T) ≡ q (ahead T) →
    (ok : Bool) (U : Tokenizer) → NamesAs d q s T ok U → NamesAs d p s T ok U
NamesAs-same d p q s T e true U k = record { name = k.name; ops = k.ops; holds = e ∙ k.holds; left = k.left }
NamesAs-same d p q s T e false U k = record { none = e ∙ k.none; grown = k.grown; scratch = k.scratch }

-- The steps of a state to Ok and to Nok.
module _ (ready : StateName → Tokenizer → Type 0) (ends : StateName → Tokenizer → Bool → Tokenizer → Type 0) (weight : StateName → Tokenizer → ℕ) where
  -- the leaf and the construct end
  pub Goes-named : (k d : ℕ) (p : Naming) (n : Name) (os : List Op) (s : TokenizeState) (T : Tokenizer) →
      T.attempts ≡ [] → p (ahead T) ≡ Some (n, os) →
      GoesOn ready ends weight (weight_at k T) (NamesAs d p s T) (stepped State.Ok (scratched s (done os (renamed n T))))
  Goes-named k d p n os s T alone e =
      Goes-plain ready ends weight (weight_at k T) (NamesAs d p s T) State.Ok (scratched s (done os (renamed n T))) (attempts-scratched s (done os (renamed n T)) ∙ attempts-done os (renamed n T) ∙ attempts-renamed n T ∙ alone) tt (omega arith)
      (λ ok U x. subst (λ b. NamesAs d p s T b U) (sym x.0) (record { name = n; ops = os; holds = e; left = x.1 ∙ sym (done-scratched os s (renamed n T)) }))

  -- the construct does not hold
  pub Goes-refused : (k d : ℕ) (p : Naming) (s : TokenizeState) (T : Tokenizer) → T.attempts ≡ [] → p (ahead T) ≡ None →
      GoesOn ready ends weight (weight_at k T) (NamesAs d p s T) (stepped State.Nok (scratched s T))
  Goes-refused k d p s T alone e =
      Goes-plain ready ends weight (weight_at k T) (NamesAs d p s T) State.Nok (scratched s T) (attempts-scratched s T ∙ alone) tt (omega arith)
      (λ ok U x. subst (λ b. NamesAs d p s T b U) (sym x.0) (record { none = e; grown = subst (λ (V : Tokenizer). Grown d (unopened T) V) (sym x.1) (Grown-unopened d s T); scratch = scratch-same s T U x.1 }))
