-- The steps of a state, where a layer says these words of the next one.
use Rattle.std.proofs.Common.{if◌then◌else◌, ◌≡◌, ℕ, suc, ◌+◌, ◌*◌, ◌<◌, ◌≤◌, Bool, true, false, Some, None, List, [], ◌∷◌, length, drop, refl, sym, ap, subst, ◌∙◌, arith}
use Rattle.markdown_content.specs.Codes.{Code}
use Rattle.markdown_engine.specs.Operations.{Op, Consume, moves, ahead, attempted, done, frame_of, scratched, stays}
use Rattle.markdown_engine.specs.StateRuns.{Stepped, stepped, restored, ready_state, ends_state, weight_state}
use Rattle.markdown_engine.specs.StateWords.{StateWords, Words, words_in, words_at, weight_in, GoesIn, end_words}
use Rattle.markdown_engine.specs.Weights.{codes_left, weight_at}
use Rattle.markdown_event.specs.declared.event.Name.{Name}
use Rattle.markdown_event.specs.declared.state.State.{State}
use Rattle.markdown_event.specs.declared.state.State.TheVariants.{Next, Retry, Ok, Nok}
use Rattle.markdown_engine.specs.declared.tokenizer.TokenizeState.{TokenizeState}
use Rattle.markdown_engine.specs.declared.tokenizer.Tokenizer.{Tokenizer}
use Rattle.markdown_engine.proofs.LawSteps as LawSteps
use Rattle.markdown_engine.proofs.OperationFields.{attempts-scratched, left-scratched}
use Rattle.markdown_engine.proofs.OperationLemmas.{attempts-done, left-done, scratch-done}
use Rattle.markdown_plan.specs.LayerEquation.{AreLawful}
use Rattle.markdown_plan.specs.Plan.{Plan, preceded, depth_after, DoesAs, KeepsAs}
use Rattle.markdown_plan.specs.LateNames.{Naming, NamesAs, renamed, under, preceded_by}
use Rattle.markdown_plan.proofs.LateNameSteps as LateNameSteps
use Rattle.markdown_plan.proofs.LateNameSteps.{NamesAs-next, NamesAs-same, NamesAs-under, ahead-renamed, left-renamed}
use Rattle.markdown_plan.proofs.PlanSteps as PlanSteps
use Rattle.markdown_plan.proofs.PlanSteps.{DoesAs-then, kept}
use Rattle.markdown_plan.proofs.RenameLemmas.{attempts-renamed}

-- what the run after an attempt has to meet
abbrev pub FollowsIn : Words → ℕ → (Bool → Tokenizer → Type 0) → State → Tokenizer → Type 0
FollowsIn W n E st U = LawSteps.MayFollow W.ready W.ends (weight_in W) n E st U

module _ (W : Words) where
  -- What the layer says of a state, by its words.

  pub said-ready : (st : State) (w : StateWords) → words_at W st ≡ w → (T : Tokenizer) → w.ready T →
      ready_state W.ready st T
  said-ready (Next s) w e T k = subst (λ (x : StateWords). x.ready T) (sym e) k
  said-ready (Retry s) w e T k = subst (λ (x : StateWords). x.ready T) (sym e) k
  said-ready Ok w e T k = tt
  said-ready Nok w e T k = tt

  pub said-ends : (st : State) (w : StateWords) → words_at W st ≡ w → (T : Tokenizer) (ok : Bool) (U : Tokenizer) →
      ends_state W.ends st T ok U → w.ends T ok U
  said-ends (Next s) w e T ok U k = subst (λ (x : StateWords). x.ends T ok U) e k
  said-ends (Retry s) w e T ok U k = subst (λ (x : StateWords). x.ends T ok U) e k
  said-ends Ok w e T ok U k = subst (λ (x : StateWords). x.ends T ok U) e k
  said-ends Nok w e T ok U k = subst (λ (x : StateWords). x.ends T ok U) e k

  pub said-weight : (st : State) (w : StateWords) → words_at W st ≡ w → (T : Tokenizer) →
      weight_state (weight_in W) st T ≤ weight_at (w.rank T) T
  said-weight (Next s) w e T =
      let same : (words_in W s).rank T ≡ w.rank T = ap (λ (x : StateWords). x.rank T) e in omega (arith, same)
  said-weight (Retry s) w e T =
      let same : (words_in W s).rank T ≡ w.rank T = ap (λ (x : StateWords). x.rank T) e in omega (arith, same)
  said-weight Ok w e T = omega arith
  said-weight Nok w e T = omega arith

  -- Any step.

  pub GoesOn-map : (n : ℕ) (E F : Bool → Tokenizer → Type 0) (r : Stepped) →
      ((ok : Bool) (U : Tokenizer) → E ok U → F ok U) → GoesIn W n E r → GoesIn W n F r
  GoesOn-map = PlanSteps.GoesOn-map W.ready W.ends (weight_in W)

  -- a step that opens no attempt
  pub Goes-plain : (n : ℕ) (E : Bool → Tokenizer → Type 0) (st : State) {w : StateWords} → words_at W st ≡ w →
      (T : Tokenizer) → T.attempts ≡ [] → w.ready T → weight_at (w.rank T) T < n →
      ((ok : Bool) (U : Tokenizer) → w.ends T ok U → E ok U) → GoesIn W n E (stepped st T)
  Goes-plain n E st {w} e T alone on falls closed =
      LawSteps.Goes-plain W.ready W.ends (weight_in W) n E st T alone (said-ready st w e T on) (omega (arith, falls, said-weight st w e T)) (λ ok U x. closed ok U (said-ends st w e T ok U x))

  -- a step that ends a run
  pub Goes-end : (n : ℕ) (E : Bool → Tokenizer → Type 0) (ok : Bool) (T : Tokenizer) → T.attempts ≡ [] → 0 < n →
      ((b : Bool) (U : Tokenizer) → (b ≡ ok) × (U ≡ T) → E b U) → GoesIn W n E (stepped (if ok then Ok else Nok) T)
  Goes-end n E true T alone high closed = LawSteps.Goes-plain W.ready W.ends (weight_in W) n E Ok T alone tt high closed
  Goes-end n E false T alone high closed =
      LawSteps.Goes-plain W.ready W.ends (weight_in W) n E Nok T alone tt high closed

  -- after operations
  pub Goes-ops : (n : ℕ) (E : Bool → Tokenizer → Type 0) (st : State) {w : StateWords} → words_at W st ≡ w →
      (os : List Op) (T : Tokenizer) → T.attempts ≡ [] → w.ready (done os T) → weight_at (w.rank (done os T)) (done os T) < n →
      ((ok : Bool) (U : Tokenizer) → w.ends (done os T) ok U → E ok U) → GoesIn W n E (stepped st (done os T))
  Goes-ops n E st {w} e os T alone on falls closed =
      Goes-plain n E st {w = w} e (done os T) (attempts-done os T ∙ alone) on falls closed

  -- after an attempt the run goes on with this state
  pub follows : (n : ℕ) (E : Bool → Tokenizer → Type 0) (st : State) {w : StateWords} → words_at W st ≡ w →
      (U : Tokenizer) → w.ready U → weight_at (w.rank U) U < n → ((ok : Bool) (V : Tokenizer) → w.ends U ok V → E ok V) →
      FollowsIn W n E st U
  follows n E st {w} e U on falls closed =
      record { goes_on = said-ready st w e U on; falls = omega (arith, falls, said-weight st w e U); closed = λ ok V x. closed ok V (said-ends st w e U ok V x) }

  -- a step that opens one attempt
  pub Goes-attempt : (n : ℕ) (E : Bool → Tokenizer → Type 0) (st : State) {w : StateWords} → words_at W st ≡ w →
      (ok nok : State) (T : Tokenizer) → T.attempts ≡ [] → w.ready T → weight_at (w.rank T) T < n →
      ((U : Tokenizer) → U.attempts ≡ [] → w.ends T true U → FollowsIn W n E ok U) →
      ((U : Tokenizer) → U.attempts ≡ [] → w.ends T false U → FollowsIn W n E nok (restored (frame_of false ok nok T) U)) →
      GoesIn W n E (stepped st (attempted false ok nok T))
  Goes-attempt n E st {w} e ok nok T alone on falls if_ok if_nok =
      LawSteps.Goes-attempt W.ready W.ends (weight_in W) n E st ok nok T alone (said-ready st w e T on) (omega (arith, falls, said-weight st w e T)) (λ U now x. if_ok U now (said-ends st w e T true U x)) (λ U now x. if_nok U now (said-ends st w e T false U x))

  -- a step that opens one check: an Ok restores too
  pub Goes-check : (n : ℕ) (E : Bool → Tokenizer → Type 0) (st : State) {w : StateWords} → words_at W st ≡ w →
      (ok nok : State) (T : Tokenizer) → T.attempts ≡ [] → w.ready T → weight_at (w.rank T) T < n →
      ((U : Tokenizer) → U.attempts ≡ [] → w.ends T true U → FollowsIn W n E ok (restored (frame_of true ok nok T) U)) →
      ((U : Tokenizer) → U.attempts ≡ [] → w.ends T false U → FollowsIn W n E nok (restored (frame_of true ok nok T) U)) →
      GoesIn W n E (stepped st (attempted true ok nok T))
  Goes-check n E st {w} e ok nok T alone on falls if_ok if_nok =
      LawSteps.Goes-check W.ready W.ends (weight_in W) n E st ok nok T alone (said-ready st w e T on) (omega (arith, falls, said-weight st w e T)) (λ U now x. if_ok U now (said-ends st w e T true U x)) (λ U now x. if_nok U now (said-ends st w e T false U x))

  -- By plans.

  -- on with a state after operations, on a tokenizer that has as many codes left, with these scratch fields
  pub Goes-to : (k : ℕ) (E : Bool → Tokenizer → Type 0) (os : List Op) (r : TokenizeState) (X T : Tokenizer) (st : State) {w : StateWords} →
      words_at W st ≡ w → X.attempts ≡ [] → codes_left X ≡ codes_left T → moves os ≤ length (ahead X) →
      w.rank (scratched r (done os X)) < 256 * moves os + k → w.ready (scratched r (done os X)) →
      ((ok : Bool) (U : Tokenizer) → w.ends (scratched r (done os X)) ok U → E ok U) →
      GoesIn W (weight_at k T) E (stepped st (scratched r (done os X)))
  Goes-to k E os r X T st {w} e alone same within less on closed =
      Goes-plain (weight_at k T) E st {w = w} e (scratched r (done os X)) (attempts-scratched r (done os X) ∙ attempts-done os X ∙ alone) on (omega (arith, less, left-done os X within, left-scratched r (done os X), same)) closed

  -- on with a state, with these scratch fields
  pub Goes-on : (k d : ℕ) (p q : Plan) (os : List Op) (s r : TokenizeState) (T : Tokenizer) (st : State) {w : StateWords} →
      words_at W st ≡ w → T.attempts ≡ [] → stays d os ≡ true → moves os ≤ length (ahead T) →
      w.rank (scratched r (done os T)) < 256 * moves os + k → p (ahead T) ≡ preceded os (q (drop (moves os) (ahead T))) →
      w.ready (scratched r (done os T)) →
      ((ok : Bool) (U : Tokenizer) → w.ends (scratched r (done os T)) ok U → DoesAs (depth_after d os) q s (scratched r (done os T)) ok U) →
      GoesIn W (weight_at k T) (DoesAs d p s T) (stepped st (scratched r (done os T)))
  Goes-on k d p q os s r T st {w} say alone stay within less e on closed =
      Goes-to k (DoesAs d p s T) os r T T st {w = w} say alone refl within less on (λ ok U x. DoesAs-then d p q os s r T stay e ok U (closed ok U x))

  -- on with a state, the scratch fields left alone
  pub Goes-kept : (k d : ℕ) (p q : Plan) (os : List Op) (s : TokenizeState) (T : Tokenizer) (st : State) {w : StateWords} →
      words_at W st ≡ w → T.attempts ≡ [] → stays d os ≡ true → moves os ≤ length (ahead T) →
      w.rank (done os T) < 256 * moves os + k → p (ahead T) ≡ preceded os (q (drop (moves os) (ahead T))) → w.ready (done os T) →
      ((ok : Bool) (U : Tokenizer) → w.ends (done os T) ok U → DoesAs (depth_after d os) q s (done os T) ok U) →
      GoesIn W (weight_at k T) (DoesAs d p s T) (stepped st (done os T))
  Goes-kept k d p q os s T st {w} say alone stay within less e =
      subst (λ (V : Tokenizer). w.rank V < 256 * moves os + k → w.ready V → ((ok : Bool) (U : Tokenizer) → w.ends V ok U → DoesAs (depth_after d os) q s V ok U) → GoesIn W (weight_at k T) (DoesAs d p s T) (stepped st V)) (kept os T) (λ low. Goes-on k d p q os s T.tokenize_state T st {w = w} say alone stay within low e) less

  -- the same, where all states leave them alone
  pub Goes-next : (k d : ℕ) (p q : Plan) (os : List Op) (T : Tokenizer) (st : State) {w : StateWords} →
      words_at W st ≡ w → T.attempts ≡ [] → stays d os ≡ true → moves os ≤ length (ahead T) →
      w.rank (done os T) < 256 * moves os + k → p (ahead T) ≡ preceded os (q (drop (moves os) (ahead T))) → w.ready (done os T) →
      ((ok : Bool) (U : Tokenizer) → w.ends (done os T) ok U → KeepsAs (depth_after d os) q (done os T) ok U) →
      GoesIn W (weight_at k T) (KeepsAs d p T) (stepped st (done os T))
  Goes-next k d p q os T st {w} say alone stay within less e on closed =
      Goes-kept k d p q os T.tokenize_state T st {w = w} say alone stay within less e on (λ ok U x. subst (λ (s : TokenizeState). DoesAs (depth_after d os) q s (done os T) ok U) (scratch-done os T) (closed ok U x))

  -- all is done
  pub Goes-ok : (k d : ℕ) (p : Plan) (os : List Op) (s : TokenizeState) (T : Tokenizer) → T.attempts ≡ [] →
      p (ahead T) ≡ Some os → GoesIn W (weight_at k T) (DoesAs d p s T) (stepped Ok (scratched s (done os T)))
  Goes-ok = PlanSteps.Goes-ok W.ready W.ends (weight_in W)

  pub Goes-yes : (k d : ℕ) (p : Plan) (os : List Op) (T : Tokenizer) → T.attempts ≡ [] → p (ahead T) ≡ Some os →
      GoesIn W (weight_at k T) (KeepsAs d p T) (stepped Ok (done os T))
  Goes-yes = PlanSteps.Goes-yes W.ready W.ends (weight_in W)

  -- it does not hold
  pub Goes-nok : (k d : ℕ) (p : Plan) (s : TokenizeState) (T : Tokenizer) → T.attempts ≡ [] → p (ahead T) ≡ None →
      GoesIn W (weight_at k T) (DoesAs d p s T) (stepped Nok (scratched s T))
  Goes-nok = PlanSteps.Goes-nok W.ready W.ends (weight_in W)

  pub Goes-no : (k d : ℕ) (p : Plan) (T : Tokenizer) → T.attempts ≡ [] → p (ahead T) ≡ None →
      GoesIn W (weight_at k T) (KeepsAs d p T) (stepped Nok T)
  Goes-no = PlanSteps.Goes-no W.ready W.ends (weight_in W)

  -- In a leaf whose name is settled at its end.

  -- past a code of the leaf
  pub Goes-inside : (k d : ℕ) (p q : Naming) (s r : TokenizeState) (T : Tokenizer) (st : State) {w : StateWords} →
      words_at W st ≡ w → T.attempts ≡ [] → stays d (Consume ∷ []) ≡ true → 1 ≤ length (ahead T) → w.rank (scratched r (done (Consume ∷ []) T)) < 256 + k →
      p (ahead T) ≡ preceded_by (Consume ∷ []) (q (drop 1 (ahead T))) → w.ready (scratched r (done (Consume ∷ []) T)) →
      ((ok : Bool) (U : Tokenizer) → w.ends (scratched r (done (Consume ∷ []) T)) ok U → NamesAs d q s (scratched r (done (Consume ∷ []) T)) ok U) →
      GoesIn W (weight_at k T) (NamesAs d p s T) (stepped st (scratched r (done (Consume ∷ []) T)))
  Goes-inside k d p q s r T st {w} say alone st_ok within less e on closed =
      Goes-to k (NamesAs d p s T) (Consume ∷ []) r T T st {w = w} say alone refl within (omega (arith, less)) on (λ ok U x. NamesAs-next d p q s r T st_ok e ok U (closed ok U x))

  -- the same, the scratch fields left alone
  pub Goes-inside-kept : (k d : ℕ) (p q : Naming) (s : TokenizeState) (T : Tokenizer) (st : State) {w : StateWords} →
      words_at W st ≡ w → T.attempts ≡ [] → stays d (Consume ∷ []) ≡ true → 1 ≤ length (ahead T) → w.rank (done (Consume ∷ []) T) < 256 + k →
      p (ahead T) ≡ preceded_by (Consume ∷ []) (q (drop 1 (ahead T))) → w.ready (done (Consume ∷ []) T) →
      ((ok : Bool) (U : Tokenizer) → w.ends (done (Consume ∷ []) T) ok U → NamesAs d q s (done (Consume ∷ []) T) ok U) →
      GoesIn W (weight_at k T) (NamesAs d p s T) (stepped st (done (Consume ∷ []) T))
  Goes-inside-kept k d p q s T st {w} say alone st_ok within less e =
      subst (λ (V : Tokenizer). w.rank V < 256 + k → w.ready V → ((ok : Bool) (U : Tokenizer) → w.ends V ok U → NamesAs d q s V ok U) → GoesIn W (weight_at k T) (NamesAs d p s T) (stepped st V)) (kept (Consume ∷ []) T) (λ low. Goes-inside k d p q s T.tokenize_state T st {w = w} say alone st_ok within low e) less

  -- on with a state at the same place
  pub Goes-over : (k d : ℕ) (p q : Naming) (s : TokenizeState) (T : Tokenizer) (st : State) {w : StateWords} →
      words_at W st ≡ w → T.attempts ≡ [] → w.rank T < k → p (ahead T) ≡ q (ahead T) → w.ready T →
      ((ok : Bool) (U : Tokenizer) → w.ends T ok U → NamesAs d q s T ok U) →
      GoesIn W (weight_at k T) (NamesAs d p s T) (stepped st T)
  Goes-over k d p q s T st {w} say alone less e on closed =
      Goes-plain (weight_at k T) (NamesAs d p s T) st {w = w} say T alone on (omega (arith, less)) (λ ok U x. NamesAs-same d p q s T e ok U (closed ok U x))

  -- on with a state after the leaf, under this name
  pub Goes-settled : (k d : ℕ) (p : Naming) (n : Name) (q : Plan) (os : List Op) (s r : TokenizeState) (T : Tokenizer) (st : State) {w : StateWords} →
      words_at W st ≡ w → T.attempts ≡ [] → stays (suc d) os ≡ true → moves os ≤ length (ahead T) →
      w.rank (scratched r (done os (renamed n T))) < 256 * moves os + k → p (ahead T) ≡ under n (preceded os (q (drop (moves os) (ahead T)))) →
      w.ready (scratched r (done os (renamed n T))) →
      ((ok : Bool) (U : Tokenizer) → w.ends (scratched r (done os (renamed n T))) ok U → DoesAs (depth_after (suc d) os) q s (scratched r (done os (renamed n T))) ok U) →
      GoesIn W (weight_at k T) (NamesAs d p s T) (stepped st (scratched r (done os (renamed n T))))
  Goes-settled k d p n q os s r T st {w} say alone st_ok within less e on closed =
      let both : Plan = λ cs. preceded os (q (drop (moves os) cs)) in
      Goes-to k (NamesAs d p s T) os r (renamed n T) T st {w = w} say (attempts-renamed n T ∙ alone) (left-renamed n T) (subst (λ (cs : List Code). moves os ≤ length cs) (sym (ahead-renamed n T)) within) less on
      (λ ok U x. NamesAs-under d p n both s T e ok U (DoesAs-then (suc d) both q os s r (renamed n T) st_ok refl ok U (closed ok U x)))

  -- the leaf and the construct end
  pub Goes-named : (k d : ℕ) (p : Naming) (n : Name) (os : List Op) (s : TokenizeState) (T : Tokenizer) →
      T.attempts ≡ [] → p (ahead T) ≡ Some (n, os) →
      GoesIn W (weight_at k T) (NamesAs d p s T) (stepped Ok (scratched s (done os (renamed n T))))
  Goes-named = LateNameSteps.Goes-named W.ready W.ends (weight_in W)

  -- the construct does not hold
  pub Goes-refused : (k d : ℕ) (p : Naming) (s : TokenizeState) (T : Tokenizer) → T.attempts ≡ [] → p (ahead T) ≡ None →
      GoesIn W (weight_at k T) (NamesAs d p s T) (stepped Nok (scratched s T))
  Goes-refused = LateNameSteps.Goes-refused W.ready W.ends (weight_in W)

-- the law where there are no states
pub no-laws : (W : Words) → AreLawful W (λ s. end_words false)
no-laws W s T alone r = Goes-end W (weight_at 0 T) ((end_words false).ends T) false T alone (omega arith) (λ b U k. k)
