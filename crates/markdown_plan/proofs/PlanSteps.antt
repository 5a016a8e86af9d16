-- How the states of a construct follow one another, by the operations that are to come.
use Rattle.std.proofs.Common.{append_assoc, ◌≡◌, ℕ, ◌≤◌, Bool, true, false, Option, Some, None, List, [], ◌∷◌, ◌++◌, length, drop, refl, sym, ap, subst, ◌∙◌, arith}
use Rattle.markdown_content.specs.Codes.{Code}
use Rattle.markdown_engine.specs.FailedRun.{Grown}
use Rattle.markdown_engine.specs.Operations.{Op, Enter, Exit, EnterLink, EnterConnected, Consume, ahead, applied, done, op_depth, op_stays, stays, moves, scratched}
use Rattle.markdown_engine.specs.PastTree.{TreeReading, EndsAs}
use Rattle.markdown_engine.specs.StateRuns.{Goes, GoesOn, Stepped, stepped, settled}
use Rattle.markdown_content.specs.Tree.{Forest, leaf_codes}
use Rattle.markdown_engine.specs.TreeOps.{IsSolid, ops_of, consumes}
use Rattle.markdown_engine.specs.Weights.{weight_at}
use Rattle.markdown_event.specs.declared.state.State.{State}
use Rattle.markdown_event.specs.declared.state.State.TheVariants.{Nok}
use Rattle.markdown_event.specs.declared.state.StateName.{StateName}
use Rattle.markdown_engine.specs.declared.tokenizer.Attempt.{Attempt}
use Rattle.markdown_engine.specs.declared.tokenizer.TokenizeState.{TokenizeState}
use Rattle.markdown_engine.specs.declared.tokenizer.Tokenizer.{Tokenizer}
use Rattle.markdown_engine.proofs.ReadingSequences.{scratched-same}
use Rattle.markdown_engine.proofs.LawSteps.{Goes-plain, Grown-refl}
use Rattle.markdown_engine.proofs.OperationFields.{attempts-scratched}
use Rattle.markdown_engine.proofs.OperationLemmas.{Grown-applied, Grown-scratched, ahead-done, attempts-done, scratch-done}
use Rattle.markdown_event.proofs.AndParts.{and-left, and-right}
use Rattle.markdown_engine.proofs.TreeEvents.{done-append, ops-past, ahead-past}
use Rattle.markdown_model.proofs.DefinitionSteps.{read-codes}
use Rattle.markdown_model.proofs.NoLinkInConstructs.{PassesValue}
use Rattle.markdown_plan.proofs.SolidReadings.{ReadsSolid}
use Rattle.markdown_plan.specs.Plan.{Plan, preceded, tree_ops, plan_of, depth_after, DoesAs, KeepsAs}

-- Operations do not read the scratch fields.

applied-scratched : (o : Op) (s : TokenizeState) (T : Tokenizer) → applied o (scratched s T) ≡ scratched s (applied o T)
unfolding applied scratched
applied-scratched (Enter n) s T = refl
applied-scratched (Exit n) s T = refl
applied-scratched (EnterLink n c) s T = refl
applied-scratched (EnterConnected n c) s T = refl
applied-scratched Consume s T = refl

pub done-scratched : (os : List Op) (s : TokenizeState) (T : Tokenizer) →
    done os (scratched s T) ≡ scratched s (done os T)
done-scratched [] s T = refl
done-scratched (o ∷ os) s T = ap (done os) (applied-scratched o s T) ∙ done-scratched os s (applied o T)

scratched-twice : (s r : TokenizeState) (T : Tokenizer) → scratched s (scratched r T) ≡ scratched s T
unfolding scratched
scratched-twice s r T = refl

pub ahead-scratched : (r : TokenizeState) (T : Tokenizer) → ahead (scratched r T) ≡ ahead T
unfolding scratched
ahead-scratched r T = refl

pub ahead-after : (os : List Op) (r : TokenizeState) (T : Tokenizer) →
    ahead (scratched r (done os T)) ≡ drop (moves os) (ahead T)
ahead-after os r T = ahead-scratched r (done os T) ∙ ahead-done os T

-- Growth through operations.

pub Grown-after : (d : ℕ) (os : List Op) (T U : Tokenizer) → stays d os ≡ true →
    Grown (depth_after d os) (done os T) U → Grown d T U
Grown-after d [] T U e g = g
Grown-after d (o ∷ os) T U e g =
    Grown-applied d o T U (and-left (op_stays d o) _ e) (Grown-after (op_depth d o) os (applied o T) U (and-right (op_stays d o) _ e) g)

-- One part of a plan, and then another.

pub DoesAs-then : (d : ℕ) (p q : Plan) (os : List Op) (s r : TokenizeState) (T : Tokenizer) → stays d os ≡ true →
    p (ahead T) ≡ preceded os (q (drop (moves os) (ahead T))) → (ok : Bool) (U : Tokenizer) →
    DoesAs (depth_after d os) q s (scratched r (done os T)) ok U → DoesAs d p s T ok U
DoesAs-then d p q os s r T st e true U k =
    let there : q (drop (moves os) (ahead T)) ≡ Some k.ops = ap q (sym (ahead-after os r T)) ∙ k.holds in
    record {
      ops = os ++ k.ops;
      holds = e ∙ ap (preceded os) there;
      left = k.left ∙ ap (done k.ops) (scratched-twice s r (done os T) ∙ sym (done-scratched os s T)) ∙ sym (done-append os k.ops (scratched s T));
    }
DoesAs-then d p q os s r T st e false U k =
    record {
      none = e ∙ ap (preceded os) (ap q (sym (ahead-after os r T)) ∙ k.none);
      grown = Grown-after d os T U st (Grown-scratched (depth_after d os) r (done os T) U k.grown);
      scratch = k.scratch;
    }

-- no operations before a plan
pub preceded-nil : (o : Option (List Op)) → o ≡ preceded [] o
preceded-nil None = refl
preceded-nil (Some more) = refl

pub preceded-twice : (xs ys : List Op) (o : Option (List Op)) → preceded (xs ++ ys) o ≡ preceded xs (preceded ys o)
preceded-twice xs ys None = refl
preceded-twice xs ys (Some more) = ap (λ os. Some os) (append_assoc xs ys more)

pub consumes-append : (xs ys : List Code) → consumes (xs ++ ys) ≡ consumes xs ++ consumes ys
consumes-append [] ys = refl
consumes-append (x ∷ xs) ys = ap (λ os. Consume ∷ os) (consumes-append xs ys)

-- The steps of a state to Ok and to Nok.

pub Grown-same : (d : ℕ) (s : TokenizeState) (T U : Tokenizer) → U ≡ scratched s T → Grown d T U
Grown-same d s T U e =
    subst (λ (x : Tokenizer). Grown d T x) (sym e) (Grown-scratched d s T (scratched s T) (Grown-refl d (scratched s T)))

pub scratch-same : (s : TokenizeState) (T U : Tokenizer) → U ≡ scratched s T → U.tokenize_state ≡ s
unfolding scratched
scratch-same s T U e = ap (λ (x : Tokenizer). x.tokenize_state) e

-- operations leave the scratch fields alone
pub kept : (os : List Op) (T : Tokenizer) → scratched T.tokenize_state (done os T) ≡ done os T
kept os T = ap (λ (s : TokenizeState). scratched s (done os T)) (sym (scratch-done os T)) ∙ scratched-same (done os T)

module _ (ready : StateName → Tokenizer → Type 0) (ends : StateName → Tokenizer → Bool → Tokenizer → Type 0) (weight : StateName → Tokenizer → ℕ) where
  -- a claim on how a run ends may be weakened
  pub Goes-map : (n : ℕ) (E F : Bool → Tokenizer → Type 0) → ((ok : Bool) (U : Tokenizer) → E ok U → F ok U) →
      (fs : List Attempt) (st : State) (T : Tokenizer) → Goes ready ends weight n E fs st T →
      Goes ready ends weight n F fs st T
  Goes-map n E F f [] st T g = (g.0, λ ok U x. f ok U (g.1 ok U x))
  Goes-map n E F f (a ∷ fs) st T g = (g.0, λ ok U now x. Goes-map n E F f fs _ _ (g.1 ok U now x))

  pub GoesOn-map : (n : ℕ) (E F : Bool → Tokenizer → Type 0) (r : Stepped) →
      ((ok : Bool) (U : Tokenizer) → E ok U → F ok U) → GoesOn ready ends weight n E r → GoesOn ready ends weight n F r
  GoesOn-map n E F r f g = Goes-map n E F f r.left.attempts r.state (settled r.left) g

  -- all is done
  pub Goes-ok : (k d : ℕ) (p : Plan) (os : List Op) (s : TokenizeState) (T : Tokenizer) → T.attempts ≡ [] →
      p (ahead T) ≡ Some os →
      GoesOn ready ends weight (weight_at k T) (DoesAs d p s T) (stepped State.Ok (scratched s (done os T)))
  Goes-ok k d p os s T alone e =
      Goes-plain ready ends weight (weight_at k T) (DoesAs d p s T) State.Ok (scratched s (done os T)) (attempts-scratched s (done os T) ∙ attempts-done os T ∙ alone) tt (omega arith) (λ ok U x. subst (λ b. DoesAs d p s T b U) (sym x.0) (record { ops = os; holds = e; left = x.1 ∙ sym (done-scratched os s T) }))

  pub Goes-yes : (k d : ℕ) (p : Plan) (os : List Op) (T : Tokenizer) → T.attempts ≡ [] → p (ahead T) ≡ Some os →
      GoesOn ready ends weight (weight_at k T) (KeepsAs d p T) (stepped State.Ok (done os T))
  Goes-yes k d p os T alone e =
      subst (λ (V : Tokenizer). GoesOn ready ends weight (weight_at k T) (KeepsAs d p T) (stepped State.Ok V)) (kept os T) (Goes-ok k d p os T.tokenize_state T alone e)

  -- it does not hold
  pub Goes-nok : (k d : ℕ) (p : Plan) (s : TokenizeState) (T : Tokenizer) → T.attempts ≡ [] → p (ahead T) ≡ None →
      GoesOn ready ends weight (weight_at k T) (DoesAs d p s T) (stepped Nok (scratched s T))
  Goes-nok k d p s T alone e =
      Goes-plain ready ends weight (weight_at k T) (DoesAs d p s T) Nok (scratched s T) (attempts-scratched s T ∙ alone) tt (omega arith) (λ ok U x. subst (λ b. DoesAs d p s T b U) (sym x.0) (record { none = e; grown = Grown-same d s T U x.1; scratch = scratch-same s T U x.1 }))

  pub Goes-no : (k d : ℕ) (p : Plan) (T : Tokenizer) → T.attempts ≡ [] → p (ahead T) ≡ None →
      GoesOn ready ends weight (weight_at k T) (KeepsAs d p T) (stepped Nok T)
  Goes-no k d p T alone e =
      subst (λ (V : Tokenizer). GoesOn ready ends weight (weight_at k T) (KeepsAs d p T) (stepped Nok V)) (scratched-same T) (Goes-nok k d p T.tokenize_state T alone e)

pub no-codes : (T : Tokenizer) → 0 ≤ length (ahead T)
no-codes T = omega arith

-- Whole constructs.

pub ops-read : (o : Option (Forest × List Code)) (os : List Op) → tree_ops o ≡ Some os →
    (r : Forest × List Code) × ((o ≡ Some r) × (os ≡ ops_of r.0))
ops-read None os e = cc
ops-read (Some r) os e = (r, (refl, cc))

pub none-read : (o : Option (Forest × List Code)) → tree_ops o ≡ None → o ≡ None
none-read None e = refl
none-read (Some r) e = cc

-- a run that does what the tree of a reading asks for ends as the reading
pub EndsAs-plan : (r : TreeReading) → ReadsSolid r → (s : TokenizeState) (T : Tokenizer) (ok : Bool) (U : Tokenizer) →
    DoesAs 0 (plan_of r) s T ok U → EndsAs r None s T ok U
EndsAs-plan r whole s T true U k =
    let x = ops-read (r (ahead T)) k.ops k.holds in
    let codes : ahead T ≡ leaf_codes x.0.0 ++ x.0.1 = read-codes leaf_codes r whole.covers (ahead T) x.0.1 x.0.0 x.1.0 in
    let solid : IsSolid x.0.0 = subst (PassesValue IsSolid) x.1.0 (whole.solid.at (ahead T)) in
    let same : ahead (scratched s T) ≡ leaf_codes x.0.0 ++ x.0.1 = ahead-scratched s T ∙ codes in
    let left : U ≡ _ = k.left ∙ ap (λ os. done os (scratched s T)) x.1.1 ∙ ops-past x.0.0 x.0.1 (scratched s T) solid same in
    record { tree = x.0.0; rest = x.0.1; holds = x.1.0; left = left; whole = codes; after = ap ahead left ∙ ahead-past None x.0.0 (scratched s T) x.0.1 same }
EndsAs-plan r whole s T false U k =
    record { refused = none-read (r (ahead T)) k.none; fails = record { grown = k.grown; scratch = k.scratch } }
