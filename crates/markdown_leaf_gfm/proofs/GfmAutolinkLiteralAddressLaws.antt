-- The laws of the states in the domain and the path of a literal.
use Rattle.std.proofs.Common.{◌≡◌, ℕ, ◌+◌, ◌<◌, ◌≤◌, ◌==◌, ◌&&◌, ◌||◌, not, Bool, true, false, if◌then◌else◌, Option, Some, None, List, [], ◌∷◌, refl, sym, ap, subst, ◌∙◌, arith}
use Rattle.std.specs.Prelude.{codes, IsSome}
use Rattle.std.proofs.lemmas.Bool.{eqb-true, or_left}
use Rattle.std.proofs.lemmas.Bool.Decides.{nat_tests}
use Rattle.markdown_content.specs.Codes.{Code}
use Rattle.markdown_content.specs.ListFunctions.{rest_of}
use Rattle.markdown_engine.specs.Operations.{Consume, HasCode, ahead, applied, current_of, done, scratched}
use Rattle.markdown_content.specs.Place.{moved}
use Rattle.markdown_engine.specs.StateRuns.{Stepped, stepped}
use Rattle.markdown_engine.specs.Weights.{weight_at}
use Rattle.markdown_event.specs.declared.state.State.TheVariants.{Next, Retry}
use Rattle.markdown_event.specs.declared.state.StateName.TheVariants.{GfmAutolinkLiteralDomainAfter, GfmAutolinkLiteralDomainAtPunctuation, GfmAutolinkLiteralDomainInside, GfmAutolinkLiteralPathAfter, GfmAutolinkLiteralPathAtPunctuation, GfmAutolinkLiteralPathInside, GfmAutolinkLiteralTrail}
use Rattle.markdown_engine.specs.declared.tokenizer.TokenizeState.{TokenizeState}
use Rattle.markdown_engine.specs.declared.tokenizer.Tokenizer.{Tokenizer}
use Rattle.markdown_engine.proofs.LawSteps.{if-step, code-step}
use Rattle.markdown_engine.proofs.OperationFields.{ahead-none, ahead-some, left-consumed, left-scratched, some-codes}
use Rattle.markdown_model.specs.CodeTests.{is_value, is_among, is_later_byte}
use Rattle.markdown_model.specs.GfmAutolinkLiteral.{is_other, is_space, trails, is_domain_code, ends_path}
use Rattle.markdown_leaf_gfm.specs.Trails.{trails_in}
use Rattle.markdown_util.specs.Neighbours.{class_of, after_index}
use Rattle.markdown_util.specs.declared.util.char.Kind.{Kind}
use Rattle.markdown_plan.specs.ByteTests.{among_values}
use Rattle.markdown_plan.specs.Plan.{Plan, preceded, DoesAs}
use Rattle.markdown_plan.proofs.PlanSteps.{preceded-nil, no-codes, ahead-after}
use Rattle.markdown_plan.specs.Characters.{at_later, bytes_of, later_value}
use Rattle.markdown_plan.proofs.CharactersAlongContent.{text-consumed, text-passed}
use Rattle.markdown_leaf_gfm.specs.GfmAutolinkLiteral.{end_of, kind_here, trail_value, mark_value, at_domain_mark, known_after, is_known, count_value, rested, saw, underscored, dotted, marked, path_passed, domain_rested, looked, domain_at, domain_on, is_well, passing, is_space_at, is_open_mark, path_at, path_punctuation_at, LiteralReady, PathReady, Knows, MarkReady}
use Rattle.markdown_leaf_gfm.specs.GfmAutolinkLiteral.{LookReady, passed_code, path_plan, path_punctuation_plan, domain_plan, domain_after_plan, nothing_more, domain_ends, domain_after_ends, path_ends, path_punctuation_ends, states, domain_after_words, domain_punctuation_words, domain_words, path_after_words, path_punctuation_words, path_words}
use Rattle.markdown_leaf_gfm.proofs.KnownTrails.{knows-nothing, knows-mark, mark-past, known-past, known-here}
use Rattle.markdown_leaf_gfm.proofs.GfmAutolinkLiteralReadings.{domain-more, domain-stop, domain-end, path-more, path-stop}
use Rattle.markdown_leaf_gfm.proofs.TrailReadings.{trails-looked}
use Rattle.markdown_leaf_gfm.proofs.TrailChecks.{space-here, looked-back}
use Rattle.markdown_model.proofs.GrammarSteps.{and-left, if-true, if-false}
use Rattle.markdown_engine.specs.StateWords.{Words, Law, GoesIn, StateWords, words_in}
use Rattle.markdown_plan.proofs.LawStepsOfLayer.{Goes-plain, Goes-check, Goes-on, Goes-kept, Goes-ok, Goes-nok, follows, FollowsIn}
use Rattle.markdown_plan.specs.LayerEquation.{EqualsLayer}
use Rattle.markdown_event.specs.declared.state.StateName.{StateName}

-- The conditions go on.

ready-next : (r : TokenizeState) (T : Tokenizer) (c : ℕ) → LiteralReady T → current_of T ≡ Some c →
    r.size ≤ T.tokenize_state.size + 1 → r.size_b ≤ T.tokenize_state.size_b + 1 →
    LiteralReady (scratched r (done (Consume ∷ []) T))
unfolding scratched
ready-next r T c k e m n =
    record {
      text = text-consumed r T k.text;
      opened = omega (arith, k.opened, left-consumed T c e, left-scratched r (done (Consume ∷ []) T), m);
      closed = omega (arith, k.closed, left-consumed T c e, left-scratched r (done (Consume ∷ []) T), n);
    }

some-mark : (o : Option ℕ) → at_domain_mark o ≡ true → IsSome o
some-mark None e = let no : false ≡ true = e in cc
some-mark (Some v) e = refl

-- at a mark behind a mark of a domain
mark-ready : (r : TokenizeState) (T : Tokenizer) → LiteralReady (scratched r (done (Consume ∷ []) T)) →
    at_domain_mark (current_of (scratched r (done (Consume ∷ []) T))) ≡ true →
    trails_in (bytes_of T) (end_of T) None (rest_of (ahead T)) ≡ false → MarkReady (scratched r (done (Consume ∷ []) T))
unfolding scratched applied moved
mark-ready r T goes h t =
    record {
      here = record { goes_on = goes; code = some-mark _ h; stays = ap (trails_in (bytes_of T) (end_of T) None) (ahead-after (Consume ∷ []) r T) ∙ t };
      mark = h;
    }

ready-passed : (T : Tokenizer) (c : ℕ) → LiteralReady T → current_of T ≡ Some c → LiteralReady (done (Consume ∷ []) T)
unfolding applied
ready-passed T c k e =
    record { text = text-passed T k.text; opened = omega (arith, k.opened, left-consumed T c e); closed = omega (arith, k.closed, left-consumed T c e) }

-- How the rest of a run ends, as the definition reads it.

pub domain-then : (r : TokenizeState) (T : Tokenizer) (ok : Bool) (U : Tokenizer) →
    domain_ends (scratched r (done (Consume ∷ []) T)) ok U →
    DoesAs 0 (domain_plan (bytes_of T) (end_of T) r) (rested r) (scratched r (done (Consume ∷ []) T)) ok U
unfolding scratched applied moved
domain-then r T ok U k = k

domain-passed : (T : Tokenizer) (ok : Bool) (U : Tokenizer) → domain_ends (done (Consume ∷ []) T) ok U →
    DoesAs 0 (domain_plan (bytes_of T) (end_of T) T.tokenize_state) (rested T.tokenize_state) (done (Consume ∷ []) T) ok U
unfolding applied moved
domain-passed T ok U k = k

path-then : (r : TokenizeState) (T : Tokenizer) (ok : Bool) (U : Tokenizer) →
    path_ends (scratched r (done (Consume ∷ []) T)) ok U →
    DoesAs 0 (path_plan (bytes_of T) (end_of T) r.size r.size_b) (rested r) (scratched r (done (Consume ∷ []) T)) ok U
unfolding scratched applied moved
path-then r T ok U k = k

path-rested : (T : Tokenizer) (ok : Bool) (U : Tokenizer) →
    path_ends (scratched (domain_rested T.tokenize_state) T) ok U →
    DoesAs 0 (path_plan (bytes_of T) (end_of T) T.tokenize_state.size T.tokenize_state.size_b) (rested T.tokenize_state) (scratched (domain_rested T.tokenize_state) T) ok U
unfolding scratched
path-rested T ok U k = k

-- the plan reads the same here
pub does-same : (p q : Plan) (s : TokenizeState) (T : Tokenizer) (ok : Bool) (U : Tokenizer) →
    p (ahead T) ≡ q (ahead T) → DoesAs 0 q s T ok U → DoesAs 0 p s T ok U
does-same p q s T true U e k = record { ops = k.ops; holds = e ∙ k.holds; left = k.left }
does-same p q s T false U e k = record { none = e ∙ k.none; grown = k.grown; scratch = k.scratch }

module _ (W : Words) where
  -- another state takes over here
  over : (k : ℕ) (p q : Plan) (s : TokenizeState) (T : Tokenizer) (st : StateName) {w : StateWords} →
      words_in W st ≡ w → T.attempts ≡ [] → w.rank T < k → p (ahead T) ≡ q (ahead T) → w.ready T →
      ((ok : Bool) (U : Tokenizer) → w.ends T ok U → DoesAs 0 q s T ok U) →
      GoesIn W (weight_at k T) (DoesAs 0 p s T) (stepped (Retry st) T)
  over k p q s T st {w} say alone less e on closed =
      Goes-plain W (weight_at k T) (DoesAs 0 p s T) (Retry st) {w = w} say T alone on (omega (arith, less)) (λ ok U x. does-same p q s T ok U e (closed ok U x))

  pub follows-here : (k : ℕ) (p q : Plan) (s : TokenizeState) (T U : Tokenizer) (st : StateName) {w : StateWords} →
      words_in W st ≡ w → U ≡ T → w.rank T < k → p (ahead T) ≡ q (ahead T) → w.ready T →
      ((ok : Bool) (V : Tokenizer) → w.ends T ok V → DoesAs 0 q s T ok V) →
      FollowsIn W (weight_at k T) (DoesAs 0 p s T) (Next st) U
  follows-here k p q s T U st {w} say same less e on closed =
      subst (λ (x : Tokenizer). FollowsIn W (weight_at k T) (DoesAs 0 p s T) (Next st) x) (sym same)
      (follows W _ _ (Next st) {w = w} say T on (omega (arith, less)) (λ ok V x. does-same p q s T ok V e (closed ok V x)))

  -- one of two states takes over, by whether a trail begins here
  over-look : EqualsLayer states W →
      (k : ℕ) (p q1 q2 : Plan) (s : TokenizeState) (T : Tokenizer) (held : StateName) {v : StateWords} →
      words_in W held ≡ v → (failed : StateName) {w : StateWords} → words_in W failed ≡ w → T.attempts ≡ [] →
      LookReady T → 1 < k → v.rank T < k → w.rank T < k →
      (trails_in (bytes_of T) (end_of T) None (ahead T) ≡ true → p (ahead T) ≡ q1 (ahead T)) →
      (trails_in (bytes_of T) (end_of T) None (ahead T) ≡ false → p (ahead T) ≡ q2 (ahead T)) → v.ready T →
      ((ok : Bool) (U : Tokenizer) → v.ends T ok U → DoesAs 0 q1 s T ok U) →
      (trails_in (bytes_of T) (end_of T) None (ahead T) ≡ false → w.ready T) →
      ((ok : Bool) (U : Tokenizer) → w.ends T ok U → DoesAs 0 q2 s T ok U) →
      GoesIn W (weight_at k T) (DoesAs 0 p s T) (looked held failed T)
  over-look within k p q1 q2 s T held {v} say1 failed {w} say2 alone look one less1 less2 e1 e2 on1 closed1 on2 closed2 =
      let test : Bool = trails_in (bytes_of T) (end_of T) None (ahead T) in
      Goes-check W (weight_at k T) (DoesAs 0 p s T) (Retry GfmAutolinkLiteralTrail) (within GfmAutolinkLiteralTrail) (Next held) (Next failed) T alone look
      (omega (arith, one))
      (λ U now x. follows-here k p q1 s T _ held {w = v} say1 (looked-back test (Next held) (Next failed) T true U x) less1 (e1 (sym x.answer)) on1 closed1)
      (λ U now x. follows-here k p q2 s T _ failed {w = w} say2 (looked-back test (Next held) (Next failed) T false U x) less2 (e2 (sym x.answer)) (on2 (sym x.answer)) closed2)

-- Tests.

or-cases : (a b : Bool) → a || (b || false) ≡ false → (a ≡ false) × (b ≡ false)
or-cases true b e = cc
or-cases false true e = cc
or-cases false false e = (refl, refl)

-- neither a dot nor `_`
no-mark : (v : ℕ) → among_values (codes "._") v ≡ false → ((v == 46) ≡ false) × ((v == 95) ≡ false)
no-mark v e = or-cases (v == 46) (v == 95) e

pub code-by : (bytes : List ℕ) (end : ℕ) (c : Code) (cs : List Code) → is_among (codes "._") c ≡ false →
    is_domain_code bytes end (c ∷ cs) ≡ ((is_value 45 c || is_later_byte c) || is_other (class_of (after_index bytes c.start.index)))
code-by bytes end c cs e =
    ap (λ b. elim b as (λ _. Bool) [ true ↦ not (trails bytes end (c ∷ cs)) | false ↦ (is_value 45 c || is_later_byte c) || is_other (class_of (after_index bytes c.start.index)) ]) e

pub mark-by : (bytes : List ℕ) (end : ℕ) (c : Code) (cs : List Code) → is_among (codes "._") c ≡ true →
    is_domain_code bytes end (c ∷ cs) ≡ not (trails_in bytes end None (c ∷ cs))
mark-by bytes end c cs e =
    ap (λ b. elim b as (λ _. Bool) [ true ↦ not (trails bytes end (c ∷ cs)) | false ↦ (is_value 45 c || is_later_byte c) || is_other (class_of (after_index bytes c.start.index)) ]) e
    ∙ ap not (trails-looked bytes end (c ∷ cs))

mark-fields : (s : TokenizeState) (c : Code) → is_among (codes "._") c ≡ true →
    passed_code c s ≡ marked (Some c.value) s
mark-fields s c h =
    elim (c.value == 46) as (λ b. (c.value == 46) ≡ b → passed_code c s ≡ (if c.value == 95 then underscored s else dotted s)) [
      | true ↦ λ e. if-true _ _ _ e ∙ sym (if-false _ _ _ (ap (λ v. v == 95) (eqb-true c.value 46 e)))
      | false ↦ λ e. if-false _ _ _ e ∙ elim (c.value == 95) as (λ b. (c.value == 95) ≡ b → (if c.value == 95 then underscored s else (if c.value == 45 then s else saw s)) ≡ (if c.value == 95 then underscored s else dotted s)) [
        | true ↦ λ f. if-true _ _ _ f ∙ sym (if-true _ _ _ f)
        | false ↦ λ f. (let no : false ≡ true = sym (ap (λ b. b || (c.value == 95 || false)) e ∙ ap (λ b. b || false) f) ∙ h in cc)
      ] refl
    ] refl

marked-size : (b : Bool) (s : TokenizeState) →
    (let r : TokenizeState = if b then underscored s else dotted s in r.size ≡ s.size)
marked-size true s = refl
marked-size false s = refl

marked-size_b : (b : Bool) (s : TokenizeState) →
    (let r : TokenizeState = if b then underscored s else dotted s in r.size_b ≡ s.size_b)
marked-size_b true s = refl
marked-size_b false s = refl

marked-rested : (b : Bool) (s : TokenizeState) → rested (if b then underscored s else dotted s) ≡ rested s
marked-rested true s = refl
marked-rested false s = refl

plain-fields : (s : TokenizeState) (c : Code) → (c.value == 46) ≡ false → (c.value == 95) ≡ false →
    passed_code c s ≡ (if c.value == 45 then s else saw s)
plain-fields s c e h = if-false _ _ _ e ∙ if-false _ _ _ h

-- a `.` or a `_` is a mark
mark-trail : (v : ℕ) → among_values (codes "._") v ≡ true → trail_value v || (v == 93) ≡ true
mark-trail v e = grind (arith, nat_tests)

-- a `.` or a `_` is no later byte
mark-early : (v : ℕ) → among_values (codes "._") v ≡ true → later_value v ≡ false
mark-early v e = grind (arith, nat_tests)

early : (T : Tokenizer) (c : ℕ) → current_of T ≡ Some c → later_value c ≡ false → at_later (current_of T) ≡ false
early T c e h = ap at_later e ∙ h

some-here : (T : Tokenizer) (c : ℕ) → current_of T ≡ Some c → HasCode T
some-here T c e = rw e refl

none-here : (T : Tokenizer) → current_of T ≡ None → HasCode T → ⊥
none-here T e h = let no : false ≡ true = subst IsSome e h in cc

-- Domains.

module _ (W : Words) (within : EqualsLayer states W) where
  -- past a mark that does not trail
  mark-on : (T : Tokenizer) (c : ℕ) → current_of T ≡ Some c → among_values (codes "._") c ≡ true →
      trails_in (bytes_of T) (end_of T) None (ahead T) ≡ false →
      domain_plan (bytes_of T) (end_of T) T.tokenize_state (ahead T) ≡ preceded (Consume ∷ []) (domain_plan (bytes_of T) (end_of T) (marked (Some c) T.tokenize_state) (rest_of (ahead T)))
  mark-on T c e h t =
      let B : List ℕ = bytes_of T in
      let E : ℕ = end_of T in
      let s : TokenizeState = T.tokenize_state in
      let b = ahead-some T c e in
      let more : List Code = rest_of (ahead T) in
      let mark : is_among (codes "._") b.code ≡ true = ap (among_values (codes "._")) b.value ∙ h in
      ap (domain_plan B E s) b.whole
      ∙ domain-more B E s (marked (Some c) s) b.code more (mark-by B E b.code more mark ∙ ap (λ cs. not (trails_in B E None cs)) (sym b.whole) ∙ ap not t) (mark-fields s b.code mark ∙ ap (λ v. marked (Some v) s) b.value) (marked-size (c == 95) s) (marked-size_b (c == 95) s)

  pub domain-law : Law W domain_words
  domain-law T alone on =
      let P : Stepped → Type 0 = GoesIn W (weight_at 5 T) (domain_ends T) in
      let s : TokenizeState = T.tokenize_state in
      let p : Plan = domain_plan (bytes_of T) (end_of T) s in
      let q : Plan = domain_after_plan (bytes_of T) (end_of T) s in
      code-step P (current_of T) (λ o. domain_at o T)
      (λ e. let none : ahead T ≡ [] = ahead-none T e in
      over W 5 p q (rested s) T GfmAutolinkLiteralDomainAfter (within GfmAutolinkLiteralDomainAfter) alone (omega arith) (ap p none ∙ domain-end (bytes_of T) (end_of T) s ∙ ap q (sym none)) on (λ ok U x. x))
      (λ c e. let b = ahead-some T c e in
      let more : List Code = rest_of (ahead T) in
      if-step P (among_values (codes "._") c) _ _
      (λ h. let mark : is_among (codes "._") b.code ≡ true = ap (among_values (codes "._")) b.value ∙ h in
      let code : is_domain_code (bytes_of T) (end_of T) (b.code ∷ more) ≡ not (trails_in (bytes_of T) (end_of T) None (ahead T)) =
      mark-by (bytes_of T) (end_of T) b.code more mark ∙ ap (λ cs. not (trails_in (bytes_of T) (end_of T) None cs)) (sym b.whole) in
      over-look W within 5 p q p (rested s) T GfmAutolinkLiteralDomainAfter (within GfmAutolinkLiteralDomainAfter) GfmAutolinkLiteralDomainAtPunctuation (within GfmAutolinkLiteralDomainAtPunctuation) alone
      (record { text = on.text; begins = early T c e (mark-early c h) }) (omega arith) (omega arith) (omega arith)
      (λ t. ap p b.whole ∙ domain-stop (bytes_of T) (end_of T) s b.code more (code ∙ ap not t) ∙ ap q (sym b.whole))
      (λ t. refl)
      on (λ ok U x. x)
      (λ t. record { here = record { goes_on = on; code = some-here T c e; stays = t }; mark = ap at_domain_mark e ∙ h }) (λ ok U x. x))
      (λ h. let mark : is_among (codes "._") b.code ≡ false = ap (among_values (codes "._")) b.value ∙ h in
      let plain = no-mark b.code.value mark in
      let code : is_domain_code (bytes_of T) (end_of T) (b.code ∷ more) ≡ ((b.code.value == 45 || is_later_byte b.code) || is_other (kind_here T)) =
      code-by (bytes_of T) (end_of T) b.code more mark ∙ ap (λ k. (b.code.value == 45 || is_later_byte b.code) || is_other k) (sym (space-here T b.code more b.whole)) in
      let fields : passed_code b.code s ≡ _ = plain-fields s b.code plain.0 plain.1 in
      if-step P (c == 45) _ _
      (λ f. let hyphen : (b.code.value == 45) ≡ true = ap (λ v. v == 45) b.value ∙ f in
      Goes-kept W 5 0 p p (Consume ∷ []) (rested s) T (Next GfmAutolinkLiteralDomainInside) (within GfmAutolinkLiteralDomainInside) alone refl (some-codes T c e) (omega arith)
      (ap p b.whole ∙ domain-more (bytes_of T) (end_of T) s s b.code more (code ∙ or_left _ _ (or_left _ _ hyphen)) (fields ∙ if-true _ _ _ hyphen) refl refl)
      (ready-passed T c on e) (λ ok U k. domain-passed T ok U k))
      (λ f. let hyphen : (b.code.value == 45) ≡ false = ap (λ v. v == 45) b.value ∙ f in
      let code2 : is_domain_code (bytes_of T) (end_of T) (b.code ∷ more) ≡ (later_value c || is_other (kind_here T)) =
      code ∙ ap (λ x. (x || is_later_byte b.code) || is_other (kind_here T)) hyphen ∙ ap (λ v. later_value v || is_other (kind_here T)) b.value in
      if-step P (later_value c || is_other (kind_here T)) _ _
      (λ g. Goes-on W 5 0 p (domain_plan (bytes_of T) (end_of T) (saw s)) (Consume ∷ []) (rested s) (saw s) T (Next GfmAutolinkLiteralDomainInside) (within GfmAutolinkLiteralDomainInside) alone refl (some-codes T c e) (omega arith)
      (ap p b.whole ∙ domain-more (bytes_of T) (end_of T) s (saw s) b.code more (code2 ∙ g) (fields ∙ if-false _ _ _ hyphen) refl refl)
      (ready-next (saw s) T c on e (omega arith) (omega arith)) (λ ok U k. domain-then (saw s) T ok U k))
      (λ g. over W 5 p q (rested s) T GfmAutolinkLiteralDomainAfter (within GfmAutolinkLiteralDomainAfter) alone (omega arith) (ap p b.whole ∙ domain-stop (bytes_of T) (end_of T) s b.code more (code2 ∙ g) ∙ ap q (sym b.whole)) on (λ ok U x. x)))))

  pub domain_punctuation-law : Law W domain_punctuation_words
  domain_punctuation-law T alone on =
      let P : Stepped → Type 0 = GoesIn W (weight_at 1 T) (domain_ends T) in
      let B : List ℕ = bytes_of T in
      let E : ℕ = end_of T in
      let s : TokenizeState = T.tokenize_state in
      let p : Plan = domain_plan B E s in
      code-step P (current_of T) (λ o. (let V : Tokenizer = scratched (marked o s) (done (Consume ∷ []) T) in stepped (Next (domain_on V)) V))
      (λ e. absurd (none-here T e on.here.code))
      (λ c e. let b = ahead-some T c e in
      let more : List Code = rest_of (ahead T) in
      let h : among_values (codes "._") c ≡ true = ap at_domain_mark (sym e) ∙ on.mark in
      let r : TokenizeState = marked (Some c) s in
      let V : Tokenizer = scratched r (done (Consume ∷ []) T) in
      let goes : LiteralReady V = ready-next r T c on.here.goes_on e (omega (arith, marked-size (c == 95) s)) (omega (arith, marked-size_b (c == 95) s)) in
      let past : trails_in B E None more ≡ false = mark-past B E b.code more (ap (λ v. trail_value v || (v == 93)) b.value ∙ mark-trail c h) (ap (trails_in B E None) (sym b.whole) ∙ on.here.stays) in
      let says : (ok : Bool) (U : Tokenizer) → domain_ends V ok U → DoesAs 0 (domain_plan B E r) (rested s) V ok U = λ ok U k. subst (λ (x : TokenizeState). DoesAs 0 (domain_plan B E r) x V ok U) (marked-rested (c == 95) s) (domain-then r T ok U k) in
      elim (at_domain_mark (current_of V)) as (λ x. at_domain_mark (current_of V) ≡ x → P (stepped (Next (if x then GfmAutolinkLiteralDomainAtPunctuation else GfmAutolinkLiteralDomainInside)) V)) [
        | true ↦ λ f. Goes-on W 1 0 p (domain_plan B E r) (Consume ∷ []) (rested s) r T (Next GfmAutolinkLiteralDomainAtPunctuation) (within GfmAutolinkLiteralDomainAtPunctuation) alone refl (some-codes T c e) (omega arith) (mark-on T c e h on.here.stays)
            (mark-ready r T goes f past) says
        | false ↦ λ f. Goes-on W 1 0 p (domain_plan B E r) (Consume ∷ []) (rested s) r T (Next GfmAutolinkLiteralDomainInside) (within GfmAutolinkLiteralDomainInside) alone refl (some-codes T c e) (omega arith) (mark-on T c e h on.here.stays)
            goes says
      ] refl)

  rested-ready : (T : Tokenizer) → LiteralReady T → PathReady (scratched (domain_rested T.tokenize_state) T)
  unfolding scratched
  rested-ready T on =
      record { literal = record { text = on.text; opened = omega (arith, on.opened); closed = omega (arith, on.closed) }; knows = knows-nothing (bytes_of T) (end_of T) (ahead T) }

  pub domain_after-law : Law W domain_after_words
  domain_after-law T alone on =
      let P : Stepped → Type 0 = GoesIn W (weight_at 4 T) (domain_after_ends T) in
      let s : TokenizeState = T.tokenize_state in
      let p : Plan = domain_after_plan (bytes_of T) (end_of T) s in
      let q : Plan = path_plan (bytes_of T) (end_of T) s.size s.size_b in
      if-step P (is_well s) _ _
      (λ h. Goes-on W 4 0 p q [] (rested s) (domain_rested s) T (Retry GfmAutolinkLiteralPathInside) (within GfmAutolinkLiteralPathInside) alone refl (no-codes T) (omega arith)
      (if-true _ _ _ h ∙ preceded-nil (q (ahead T)))
      (rested-ready T on) (λ ok U k. path-rested T ok U k))
      (λ h. Goes-nok W 4 0 p (rested s) T alone (if-false _ _ _ h))

-- Where a path ends, by whether whitespace stands there, a mark that closes no parenthesis, and a trail.

ends-mark : (a m t : Bool) → a ≡ false → m ≡ true → a || (m && t) ≡ t
ends-mark false true t e h = refl
ends-mark false false t e h = cc
ends-mark true m t e h = cc

ends-not : (a m n t : Bool) → a ≡ false → m && not n ≡ false → (n ≡ true → t ≡ false) → a || (m && t) ≡ false
ends-not true m n t e h f = cc
ends-not false false n t e h f = refl
ends-not false true true t e h f = f refl
ends-not false true false t e h f = cc

mark-later : (v : ℕ) → mark_value v ≡ true → later_value v ≡ false
mark-later v e = grind (arith, nat_tests)

count-few : (n v k : ℕ) → count_value n v k ≤ k + 1
count-few n v k = by_test (v == n)
  where
    by_test : (b : Bool) → elim b as (λ _. ℕ) [ true ↦ k + 1 | false ↦ k ] ≤ k + 1
    by_test true = omega arith
    by_test false = omega arith

-- Paths.

module _ (W : Words) (within : EqualsLayer states W) where
  path-ready : (known : ℕ) (T : Tokenizer) (c : ℕ) → LiteralReady T → current_of T ≡ Some c →
      Knows (bytes_of T) (end_of T) known (ahead T) →
      PathReady (scratched (path_passed known c T.tokenize_state) (done (Consume ∷ []) T))
  unfolding scratched applied moved
  path-ready known T c on e k =
      let s : TokenizeState = T.tokenize_state in
      let r : TokenizeState = path_passed known c s in
      let b = ahead-some T c e in
      let more : List Code = rest_of (ahead T) in
      let now : Knows (bytes_of T) (end_of T) (known_after known b.code.value) more = known-past (bytes_of T) (end_of T) known b.code more (subst (Knows (bytes_of T) (end_of T) known) b.whole k) in
      record {
        literal = ready-next r T c on e (count-few 40 c s.size) (count-few 41 c s.size_b);
        knows = subst (Knows (bytes_of T) (end_of T) (known_after known c)) (sym (ahead-after (Consume ∷ []) r T)) (subst (λ v. Knows (bytes_of T) (end_of T) (known_after known v) more) b.value now);
      }

  -- one code further
  passes : (k known : ℕ) (p : Plan) (T : Tokenizer) (c : ℕ) → 0 < k → T.attempts ≡ [] → LiteralReady T →
      current_of T ≡ Some c → Knows (bytes_of T) (end_of T) known (ahead T) →
      p (ahead T) ≡ path_punctuation_plan (bytes_of T) (end_of T) T.tokenize_state.size T.tokenize_state.size_b (ahead T) →
      GoesIn W (weight_at k T) (DoesAs 0 p (rested T.tokenize_state) T) (passing known c T)
  passes k known p T c high alone on e knows same =
      let B : List ℕ = bytes_of T in
      let E : ℕ = end_of T in
      let s : TokenizeState = T.tokenize_state in
      let r : TokenizeState = path_passed known c s in
      let b = ahead-some T c e in
      let more : List Code = rest_of (ahead T) in
      Goes-on W k 0 p (path_plan B E r.size r.size_b) (Consume ∷ []) (rested s) r T (Next GfmAutolinkLiteralPathInside) (within GfmAutolinkLiteralPathInside) alone refl (some-codes T c e) (omega arith)
      (same ∙ ap (path_punctuation_plan B E s.size s.size_b) b.whole ∙ ap (λ v. preceded (Consume ∷ []) (path_plan B E (count_value 40 v s.size) (count_value 41 v s.size_b) more)) b.value)
      (path-ready known T c on e knows) (λ ok U x. path-then r T ok U x)

  ends-here : (T : Tokenizer) (c : ℕ) (e : current_of T ≡ Some c) →
      (let b = ahead-some T c e in ends_path (bytes_of T) (end_of T) T.tokenize_state.size T.tokenize_state.size_b (b.code ∷ rest_of (ahead T)) ≡ is_space_at c T || (is_open_mark c T.tokenize_state && trails_in (bytes_of T) (end_of T) None (ahead T)))
  ends-here T c e =
      let B : List ℕ = bytes_of T in
      let E : ℕ = end_of T in
      let s : TokenizeState = T.tokenize_state in
      let b = ahead-some T c e in
      let more : List Code = rest_of (ahead T) in
      let class : Kind = class_of (after_index B b.code.start.index) in
      ap (λ t. (not (later_value b.code.value) && is_space class) || (is_open_mark b.code.value s && t)) (trails-looked B E (b.code ∷ more))
      ∙ ap (λ v. (not (later_value v) && is_space class) || (is_open_mark v s && trails_in B E None (b.code ∷ more))) b.value
      ∙ ap (λ x. (not (later_value c) && is_space x) || (is_open_mark c s && trails_in B E None (b.code ∷ more))) (sym (space-here T b.code more b.whole))
      ∙ ap (λ cs. is_space_at c T || (is_open_mark c s && trails_in B E None cs)) (sym b.whole)

  pub path-law : Law W path_words
  path-law T alone on =
      let P : Stepped → Type 0 = GoesIn W (weight_at 3 T) (path_ends T) in
      let B : List ℕ = bytes_of T in
      let E : ℕ = end_of T in
      let s : TokenizeState = T.tokenize_state in
      let o : ℕ = s.size in
      let k : ℕ = s.size_b in
      let p : Plan = path_plan B E o k in
      let q : Plan = path_punctuation_plan B E o k in
      code-step P (current_of T) (λ x. path_at x T)
      (λ e. over W 3 p nothing_more (rested s) T GfmAutolinkLiteralPathAfter (within GfmAutolinkLiteralPathAfter) alone (omega arith) (ap p (ahead-none T e)) tt (λ ok U x. x))
      (λ c e. let b = ahead-some T c e in
      let d : Code = b.code in
      let more : List Code = rest_of (ahead T) in
      let trail : Bool = trails_in B E None (ahead T) in
      let stops : ends_path B E o k (d ∷ more) ≡ true → p (ahead T) ≡ Some [] = λ h. ap p b.whole ∙ path-stop B E o k d more h in
      let goes : ends_path B E o k (d ∷ more) ≡ false → p (ahead T) ≡ q (ahead T) = λ h. ap p b.whole ∙ path-more B E o k d more h ∙ ap q (sym b.whole) in
      if-step P (is_space_at c T) _ _
      (λ f. over W 3 p nothing_more (rested s) T GfmAutolinkLiteralPathAfter (within GfmAutolinkLiteralPathAfter) alone (omega arith)
      (stops (ends-here T c e ∙ ap (λ x. x || (is_open_mark c s && trail)) f)) tt (λ ok U x. x))
      (λ f. if-step P (is_open_mark c s && not (is_known s.marker c)) _ _
      (λ m. let marks : is_open_mark c s ≡ true = and-left (is_open_mark c s) (not (is_known s.marker c)) m in
      let test : ends_path B E o k (d ∷ more) ≡ trail = ends-here T c e ∙ ends-mark (is_space_at c T) (is_open_mark c s) trail f marks in
      over-look W within 3 p nothing_more q (rested s) T GfmAutolinkLiteralPathAfter (within GfmAutolinkLiteralPathAfter) GfmAutolinkLiteralPathAtPunctuation (within GfmAutolinkLiteralPathAtPunctuation) alone
      (record { text = on.literal.text; begins = early T c e (mark-later c (and-left (mark_value c) _ marks)) }) (omega arith) (omega arith) (omega arith)
      (λ t. stops (test ∙ t)) (λ t. goes (test ∙ t))
      tt (λ ok U x. x)
      (λ t. record { goes_on = on.literal; code = some-here T c e; stays = t }) (λ ok U x. x))
      (λ m. passes 3 s.marker p T c (omega arith) alone on.literal e on.knows
      (goes (ends-here T c e ∙ ends-not (is_space_at c T) (is_open_mark c s) (is_known s.marker c) trail f m
      (λ n. ap (trails_in B E None) b.whole ∙ known-here B E s.marker d more (ap (is_known s.marker) b.value ∙ n) (subst (Knows B E s.marker) b.whole on.knows)))))))

  pub path_punctuation-law : Law W path_punctuation_words
  path_punctuation-law T alone on =
      let P : Stepped → Type 0 = GoesIn W (weight_at 1 T) (path_punctuation_ends T) in
      code-step P (current_of T) (λ o. path_punctuation_at o T)
      (λ e. absurd (none-here T e on.code))
      (λ c e. passes 1 46 (path_punctuation_plan (bytes_of T) (end_of T) T.tokenize_state.size T.tokenize_state.size_b) T c (omega arith) alone on.goes_on e (knows-mark (bytes_of T) (end_of T) (ahead T) on.stays) refl)

pub path_after-law : (W : Words) → Law W path_after_words
path_after-law W T alone _ = Goes-ok W 1 0 nothing_more [] (rested T.tokenize_state) T alone refl
