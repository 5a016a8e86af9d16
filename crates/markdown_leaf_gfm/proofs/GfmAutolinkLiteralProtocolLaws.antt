-- The laws of the states of a literal with a protocol.
use Rattle.std.proofs.Common.{◌≡◌, ℕ, zero, suc, ◌+◌, ◌-◌, ◌<◌, ◌≤◌, ◌==◌, ◌&&◌, not, nat_lt, Bool, true, false, if◌then◌else◌, Option, Some, None, List, [], ◌∷◌, ◌++◌, drop, length, refl, sym, ap, subst, ◌∙◌, arith}
use Rattle.std.specs.Prelude.{get_or, slice_get, slice_range, take}
use Rattle.std.specs.List.{list_all}
use Rattle.std.proofs.Math.Seq.{take-suc}
use Rattle.std.proofs.lemmas.Bool.Decides.{nat_tests}
use Rattle.std.proofs.lemmas.List.{get_or-drop, length-drop, length-take-le}
use Rattle.std.proofs.lemmas.List.Folds.{list_all-append}
use Rattle.markdown_content.specs.Codes.{Code}
use Rattle.markdown_content.specs.ListFunctions.{rest_of}
use Rattle.markdown_engine.specs.Operations.{Op, Enter, Exit, Consume, ahead, applied, current_of, previous_of, done, frame_of, moves, scratched, stays}
use Rattle.markdown_content.specs.Place.{Place, moved, code_at, code_before, last_of, point_of, start_or, value_of}
use Rattle.markdown_engine.specs.StateRuns as StateRuns
use Rattle.markdown_engine.specs.StateRuns.{Stepped, stepped, restored, going_state, going_in}
use Rattle.markdown_engine.specs.TreeOps.{consumes}
use Rattle.markdown_engine.specs.Weights.{codes_left, weight_at}
use Rattle.markdown_event.specs.declared.event.Name.TheVariants as N
use Rattle.markdown_event.specs.declared.state.State.{State}
use Rattle.markdown_event.specs.declared.state.State.TheVariants.{Next, Nok, Ok, Retry}
use Rattle.markdown_event.specs.declared.state.StateName.TheVariants.{GfmAutolinkLiteralProtocolAfter, GfmAutolinkLiteralProtocolPrefixInside, GfmAutolinkLiteralProtocolSlashesInside, GfmAutolinkLiteralDomainInside}
use Rattle.markdown_engine.specs.declared.tokenizer.Attempt.{Attempt}
use Rattle.markdown_engine.specs.declared.tokenizer.TokenizeState.{TokenizeState}
use Rattle.markdown_engine.specs.declared.tokenizer.Tokenizer.{Tokenizer}
use Rattle.markdown_engine.proofs.LawSteps.{if-step, code-step, restored-grown}
use Rattle.markdown_engine.proofs.OperationFields.{ahead-none, ahead-some, attempts-applied, attempts-scratched, left-applied, left-consumed, left-scratched, some-codes}
use Rattle.markdown_engine.proofs.OperationLemmas.{Grown-scratched, ahead-done, scratch-done}
use Rattle.markdown_model.specs.CodeTests.{is_letter, is_some_code}
use Rattle.markdown_plan.specs.Plan.{Plan, preceded, plan_of, depth_after, DoesPlan, DoesAs, Stops}
use Rattle.markdown_model.proofs.DefinitionSteps.{read-codes}
use Rattle.markdown_model.proofs.LiteralCodes.{takes_one_word}
use Rattle.markdown_model.proofs.ReadingsCover.{itself}
use Rattle.markdown_plan.proofs.PlanSteps.{DoesAs-then, EndsAs-plan, kept}
use Rattle.markdown_plan.specs.ByteTests.{letter_value}
use Rattle.markdown_plan.specs.Characters.{bytes_of, IsText, ReadsText}
use Rattle.markdown_partial.specs.PartialSpaceOrTab.{most}
use Rattle.markdown_leaf_gfm.specs.GfmAutolinkLiteral.{end_of, before_of, is_on, may_begin, is_letter_before, begins_scheme, one_named, longest, rested, sized, started, named, name_of, is_short_name, unnamed, protocol_entered, protocol_start_at, protocol_start_step, prefix_at, slashes_at, entered_literal, WordReady, MayName, ProtocolSchemeReady}
use Rattle.markdown_leaf_gfm.specs.GfmAutolinkLiteral.{LiteralReady, LiteralStartReady, pass_ops, protocol_reading, prefix_plan, slashes_plan, domain_plan, domain_ends, protocol_here, protocol_start_ends, protocol_after_ends, prefix_ends, slashes_ends, states, prefix_words, protocol_after_words, protocol_start_words, slashes_words}
use Rattle.markdown_leaf_gfm.proofs.GfmAutolinkLiteralReadings.{all-schemes, prefix-more, prefix-colon, prefix-none, prefix-other, prefix-end, slashes-more, slashes-last, slashes-none, protocol-behind, protocol-none}
use Rattle.markdown_leaf_gfm.proofs.SchemesLeft.{begins-first-letters}
use Rattle.markdown_model.specs.GfmAutolinkLiteral.{schemes, one_word_of}
use Rattle.markdown_plan.proofs.CharactersAlongContent.{text-consumed, text-passed}
use Rattle.markdown_leaf_gfm.proofs.GfmAutolinkLiteralCovers.{leaf_ops, protocol-is, whole-protocol}
use Rattle.markdown_leaf_gfm.proofs.GfmAutolinkLiteralAttempts.{BeginsByConsuming, IsPassed, begins-first, enter-same, left-passed, literal-ended, no-literal, passed-is}
use Rattle.markdown_leaf_gfm.proofs.CheckSteps.{Goes-both, goes-then}
use Rattle.markdown_model.proofs.GrammarSteps.{if-true, if-false, and-left, and-right}
use Rattle.markdown_engine.specs.StateWords.{Words, Law, GoesIn, end_words, weight_in}
use Rattle.markdown_plan.proofs.LawStepsOfLayer.{GoesOn-map, Goes-end, Goes-kept, Goes-on, Goes-ok, Goes-nok, Goes-no}
use Rattle.markdown_plan.specs.LayerEquation.{EqualsLayer}

-- The bytes of a name, along its letters.

record CodeAt (p : Place) (v : ℕ) : Type 0 where
  code : Code
  here : slice_get p.codes p.at ≡ Some code
  value : code.value ≡ v

code-here : (p : Place) (v : ℕ) → code_at p ≡ Some v → CodeAt p v
unfolding code_at
code-here p v e = by_code (slice_get p.codes p.at) refl e
  where
    by_code : (o : Option Code) → slice_get p.codes p.at ≡ o → value_of o ≡ Some v → CodeAt p v
    by_code None h k = cc
    by_code (Some c) h k = record { code = c; here = h; value = cc }

module _ (bytes : List ℕ) (p : Place) (v : ℕ) (text : IsText bytes p) (e : code_at p ≡ Some v) (high : 32 < v) where
  found : CodeAt p v
  found = code-here p v e

  high-here : 32 < found.code.value
  high-here = omega (arith, high, found.value)

  index-here : (point_of p).index ≡ found.code.start.index
  unfolding point_of
  index-here = ap (λ o. (start_or o p.end).index) found.here

  index-next : (point_of (moved p)).index ≡ (point_of p).index + 1
  unfolding point_of moved
  index-next =
      ap (λ n. (start_or (slice_get p.codes n) p.end).index) one-more
      ∙ text.behind p.at found.code found.here high-here
      ∙ ap (λ n. n + 1) (sym index-here)
    where
      one-more : p.at + 1 ≡ suc p.at
      one-more = omega arith

  byte-here : get_or bytes (point_of p).index 0 ≡ v
  byte-here =
      ap (λ n. get_or bytes n 0) index-here ∙ text.byte p.at found.code found.here high-here ∙ found.value

  index-below : (point_of p).index < length bytes
  index-below = below bytes (point_of p).index (omega (arith, byte-here, high))
    where
      below : (bs : List ℕ) (i : ℕ) → 0 < get_or bs i 0 → i < length bs
      below [] i h = absurd (omega (arith, h))
      below (b ∷ bs) zero h = omega arith
      below (b ∷ bs) (suc i) h = omega (arith, below bs i h)

range-more : (bytes : List ℕ) (from to : ℕ) → from ≤ to → to < length bytes →
    slice_range bytes from (to + 1) ≡ slice_range bytes from to ++ get_or bytes to 0 ∷ []
range-more bytes from to h k =
    ap (λ n. take n (drop from bytes)) one-more
    ∙ take-suc (drop from bytes) (to - from) 0 (omega (arith, h, k, length-drop from bytes))
    ∙ ap (λ x. slice_range bytes from to ++ x ∷ []) (get_or-drop from bytes (to - from) 0 ∙ ap (λ n. get_or bytes n 0) there)
  where
    one-more : (to + 1) - from ≡ suc (to - from)
    one-more = omega (arith, h)

    there : from + (to - from) ≡ to
    there = omega (arith, h)

letter-high : (c : ℕ) → letter_value c ≡ true → 32 < c
letter-high c h = grind (arith, nat_tests)

module _ (T : Tokenizer) (c : ℕ) (text : ReadsText T) (name : MayName T) (e : current_of T ≡ Some c) (high : 32 < c) where
  name-place : MayName (done (Consume ∷ []) T)
  unfolding applied
  name-place =
      record { order = let next = index-next (bytes_of T) T.cursor c text e high in omega (arith, name.order, next); within = let next = index-next (bytes_of T) T.cursor c text e high in let low = index-below (bytes_of T) T.cursor c text e high in omega (arith, low, next) }

  name-grows : name_of (done (Consume ∷ []) T) ≡ name_of T ++ c ∷ []
  unfolding applied
  name-grows =
      ap (slice_range (bytes_of T) T.tokenize_state.start) (index-next (bytes_of T) T.cursor c text e high)
      ∙ range-more (bytes_of T) T.tokenize_state.start (point_of T.cursor).index name.order (index-below (bytes_of T) T.cursor c text e high)
      ∙ ap (λ v. name_of T ++ v ∷ []) (byte-here (bytes_of T) T.cursor c text e high)

name-length : (T : Tokenizer) → MayName T → length (name_of T) ≡ (point_of T.cursor).index - T.tokenize_state.start
name-length T k =
    let from : ℕ = T.tokenize_state.start in
    let to : ℕ = (point_of T.cursor).index in
    length-take-le (to - from) (drop from (bytes_of T)) (omega (arith, k.order, k.within, length-drop from (bytes_of T)))

-- The conditions go on.

word-next : (n : ℕ) (T : Tokenizer) (c : ℕ) → WordReady T → current_of T ≡ Some c →
    WordReady (scratched (sized n T.tokenize_state) (done (Consume ∷ []) T))
unfolding scratched
word-next n T c k e =
    record { text = text-consumed (sized n T.tokenize_state) T k.text; fresh = k.fresh; short = omega (arith, k.short, left-consumed T c e, left-scratched (sized n T.tokenize_state) (done (Consume ∷ []) T)) }

-- past a letter of a scheme
scheme-next : (T : Tokenizer) (c : ℕ) → ProtocolSchemeReady T → letter_value c ≡ true → current_of T ≡ Some c →
    ProtocolSchemeReady (done (Consume ∷ []) T)
unfolding applied
scheme-next T c r l e =
    record {
      text = text-passed T r.text;
      fresh = r.fresh;
      short = omega (arith, r.short, left-consumed T c e);
      name = name-place T c r.text r.name e (letter-high c l);
      letters = ap (list_all letter_value) (name-grows T c r.text r.name e (letter-high c l)) ∙ list_all-append letter_value (name_of T) (c ∷ []) ∙ ap (λ b. b && list_all letter_value (c ∷ [])) r.letters ∙ ap (λ b. b && true) l;
    }

-- and past its colon
colon-next : (T : Tokenizer) (c : ℕ) → ProtocolSchemeReady T → current_of T ≡ Some c →
    WordReady (scratched (named T.tokenize_state) (done (Consume ∷ []) T))
unfolding scratched
colon-next T c r e =
    record { text = text-consumed (named T.tokenize_state) T r.text; fresh = ap (sized 0) r.fresh; short = omega (arith, r.short, left-consumed T c e, left-scratched (named T.tokenize_state) (done (Consume ∷ []) T)) }

-- How the rest of a run ends, as the definition reads it.

prefix-then : (T : Tokenizer) (vs : List ℕ) → name_of (done (Consume ∷ []) T) ≡ vs → (ok : Bool) (U : Tokenizer) →
    prefix_ends (done (Consume ∷ []) T) ok U →
    DoesAs 0 (prefix_plan vs) (rested T.tokenize_state) (done (Consume ∷ []) T) ok U
unfolding applied
prefix-then T vs e ok U h = subst (λ ws. DoesAs 0 (prefix_plan ws) (rested T.tokenize_state) (done (Consume ∷ []) T) ok U) e h

colon-then : (T : Tokenizer) → T.tokenize_state.size ≡ 0 → (ok : Bool) (U : Tokenizer) →
    slashes_ends (scratched (named T.tokenize_state) (done (Consume ∷ []) T)) ok U →
    DoesAs 0 (slashes_plan 0) (rested T.tokenize_state) (scratched (named T.tokenize_state) (done (Consume ∷ []) T)) ok U
unfolding scratched
colon-then T e ok U h =
    subst (λ n. DoesAs 0 (slashes_plan n) (rested T.tokenize_state) (scratched (named T.tokenize_state) (done (Consume ∷ []) T)) ok U) e h

slashes-then : (n : ℕ) (T : Tokenizer) (ok : Bool) (U : Tokenizer) →
    slashes_ends (scratched (sized n T.tokenize_state) (done (Consume ∷ []) T)) ok U →
    DoesAs 0 (slashes_plan n) (rested T.tokenize_state) (scratched (sized n T.tokenize_state) (done (Consume ∷ []) T)) ok U
unfolding scratched applied moved
slashes-then n T ok U k = k

module _ (W : Words) (within : EqualsLayer states W) where
  pub prefix-law : Law W prefix_words
  prefix-law T alone on =
      code-step P (current_of T) (λ o. prefix_at o T) (λ e. unnamed-none (ap plan (ahead-none T e) ∙ prefix-end vs on.letters)) by_code
    where
      vs : List ℕ
      vs = name_of T

      plan : Plan
      plan = prefix_plan vs

      P : Stepped → Type 0
      P = GoesIn W (weight_at 1 T) (prefix_ends T)

      unnamed-none : plan (ahead T) ≡ None → P (unnamed T)
      unnamed-none e =
          subst (λ (r : TokenizeState). P (stepped Nok (scratched r T))) (sym on.fresh) (Goes-nok W 1 0 plan (rested T.tokenize_state) T alone e)

      by_code : (c : ℕ) → current_of T ≡ Some c → P (prefix_at (Some c) T)
      by_code c e =
          let s : TokenizeState = T.tokenize_state in
          let b = ahead-some T c e in
          let more : List Code = rest_of (ahead T) in
          if-step P (letter_value c && is_short_name T) _ _
          (λ h. let letter : letter_value c ≡ true = and-left (letter_value c) (is_short_name T) h in
          Goes-kept W 1 0 plan (prefix_plan (vs ++ c ∷ [])) (Consume ∷ []) (rested s) T (Next GfmAutolinkLiteralProtocolPrefixInside) (within GfmAutolinkLiteralProtocolPrefixInside) alone refl (some-codes T c e) (omega arith)
          (ap plan b.whole ∙ prefix-more vs on.letters b.code more ∙ ap (λ v. preceded (Consume ∷ []) (prefix_plan (vs ++ v ∷ []) more)) b.value)
          (scheme-next T c on letter e)
          (λ ok U x. prefix-then T (vs ++ c ∷ []) (name-grows T c on.text on.name e (letter-high c letter)) ok U x))
          (λ h. if-step P ((c == 58) && one_named schemes vs) _ _
          (λ f. Goes-on W 1 0 plan (slashes_plan 0) (Consume ∷ []) (rested s) (named s) T (Next GfmAutolinkLiteralProtocolSlashesInside) (within GfmAutolinkLiteralProtocolSlashesInside) alone refl (some-codes T c e) (omega arith)
          (ap plan b.whole ∙ prefix-colon vs on.letters b.code more (ap (λ v. v == 58) b.value ∙ and-left (c == 58) (one_named schemes vs) f) (and-right (c == 58) (one_named schemes vs) f))
          (colon-next T c on e) (λ ok U x. colon-then T (ap (λ (r : TokenizeState). r.size) on.fresh) ok U x))
          (λ f. unnamed-none (ap plan b.whole ∙ prefix-other vs on.letters b.code more
          (ap (λ n. letter_value b.code.value && nat_lt n (longest schemes)) (name-length T on.name) ∙ ap (λ v. letter_value v && is_short_name T) b.value ∙ h)
          (ap (λ v. (v == 58) && one_named schemes vs) b.value ∙ f))))

  pub slashes-law : Law W slashes_words
  slashes-law T alone on =
      let P : Stepped → Type 0 = GoesIn W (weight_at 1 T) (slashes_ends T) in
      let s : TokenizeState = T.tokenize_state in
      let n : ℕ = s.size in
      let p : Plan = slashes_plan n in
      code-step P (current_of T) (λ o. slashes_at o T)
      (λ e. Goes-nok W 1 0 p (rested s) T alone (ap p (ahead-none T e) ∙ slashes-none n [] refl))
      (λ c e. let b = ahead-some T c e in
      let more : List Code = rest_of (ahead T) in
      if-step P (c == 47) _ _
      (λ h. let slash : (b.code.value == 47) ≡ true = ap (λ v. v == 47) b.value ∙ h in
      if-step P (n == 0) _ _
      (λ f. Goes-on W 1 0 p (slashes_plan 1) (Consume ∷ []) (rested s) (sized 1 s) T (Next GfmAutolinkLiteralProtocolSlashesInside) (within GfmAutolinkLiteralProtocolSlashesInside) alone refl (some-codes T c e) (omega arith)
      (ap p b.whole ∙ slashes-more n b.code more slash f)
      (word-next 1 T c on e) (λ ok U x. slashes-then 1 T ok U x))
      (λ f. subst (λ (r : TokenizeState). P (stepped Ok (scratched r (done (Consume ∷ []) T)))) (sym on.fresh)
      (Goes-ok W 1 0 p (Consume ∷ []) (rested s) T alone (ap p b.whole ∙ slashes-last n b.code more slash f))))
      (λ h. Goes-nok W 1 0 p (rested s) T alone (ap p b.whole ∙ slashes-none n (b.code ∷ more) (ap (λ v. v == 47) b.value ∙ h))))

pub protocol_after-law : (W : Words) → Law W protocol_after_words
protocol_after-law W T alone _ =
    Goes-end W (weight_at 1 T) (protocol_after_ends T) true (done (Exit N.GfmAutolinkLiteralProtocol ∷ []) T) (attempts-applied (Exit N.GfmAutolinkLiteralProtocol) T ∙ alone) (omega arith) (λ ok U k. k)

-- The start.

pub before-letter : (T : Tokenizer) → is_letter_before (previous_of T) ≡ is_some_code is_letter (before_of T)
unfolding code_before
before-letter T = by_code (last_of T.cursor.codes T.cursor.at)
  where
    by_code : (o : Option Code) → is_letter_before (value_of o) ≡ is_some_code is_letter o
    by_code None = refl
    by_code (Some c) = refl

here-is : (T : Tokenizer) (cs : List Code) →
    plan_of (protocol_here T) cs ≡ (if may_begin T then leaf_ops N.GfmAutolinkLiteralProtocol (protocol_reading (bytes_of T) (end_of T) cs) else None)
here-is T cs =
    protocol-is (bytes_of T) (end_of T) (is_on T) (before_of T) cs
    ∙ ap (λ b. if is_on T && not b then leaf_ops N.GfmAutolinkLiteralProtocol (protocol_reading (bytes_of T) (end_of T) cs) else None) (sym (before-letter T))

no-scheme : (T : Tokenizer) (cs : List Code) (b : Bool) → may_begin T ≡ b → (b ≡ true → prefix_plan [] cs ≡ None) →
    plan_of (protocol_here T) cs ≡ None
no-scheme T cs true e h =
    here-is T cs ∙ if-true _ _ _ e ∙ ap (leaf_ops N.GfmAutolinkLiteralProtocol) (protocol-none (bytes_of T) (end_of T) cs (h refl))
no-scheme T cs false e h = here-is T cs ∙ if-false _ _ _ e

other-code : (c : Code) (cs : List Code) → begins_scheme c.value ≡ false → prefix_plan [] (c ∷ cs) ≡ None
other-code c cs h = prefix-none [] refl c cs (sym (begins-first-letters schemes c.value all-schemes) ∙ h)

high-scheme : (v : ℕ) → begins_scheme v ≡ true → 32 < v
high-scheme v h = grind (arith, nat_tests)

no-name : (i : ℕ) (bytes : List ℕ) → slice_range bytes i i ≡ []
no-name i bytes = ap (λ n. take n (drop i bytes)) none
  where
    none : i - i ≡ 0
    none = omega arith

name-entered : (T : Tokenizer) → name_of (protocol_entered T) ≡ []
unfolding applied scratched
name-entered T = no-name (point_of T.cursor).index (bytes_of T)

scheme-ready : (T : Tokenizer) (c : ℕ) → LiteralStartReady T → current_of T ≡ Some c → begins_scheme c ≡ true →
    ProtocolSchemeReady (protocol_entered T)
unfolding applied scratched
scheme-ready T c k e h =
    record {
      text = k.text;
      fresh = ap named (sym k.resting);
      short = k.short;
      name = record { order = omega arith; within = let low = index-below (bytes_of T) T.cursor c k.text e (high-scheme c h) in omega (arith, low) };
      letters = ap (list_all letter_value) (name-entered T);
    }

-- a first letter is passed
first-passed : (c : Code) (cs : List Code) → BeginsByConsuming (prefix_plan [] (c ∷ cs))
first-passed c cs = subst BeginsByConsuming (sym (prefix-more [] refl c cs)) (begins-first _)

begins-behind : (os more : List Op) → os ≡ Consume ∷ more → (o : Option (List Op)) → BeginsByConsuming (preceded os o)
begins-behind os more e None xs k = cc
begins-behind os more e (Some ys) xs k =
    let f : Some (Consume ∷ (more ++ ys)) ≡ Some xs = ap (λ zs. Some (zs ++ ys)) (sym e) ∙ k in (more ++ ys, cc)

-- Past the codes of a scheme.

text-behind : (cs : List Code) (T : Tokenizer) → ReadsText T → ReadsText (done (consumes cs) T)
text-behind [] T k = k
text-behind (c ∷ cs) T k = text-behind cs (applied Consume T) (text-passed T k)

bytes-behind : (cs : List Code) (T : Tokenizer) → bytes_of (done (consumes cs) T) ≡ bytes_of T
unfolding applied
bytes-behind [] T = refl
bytes-behind (c ∷ cs) T = bytes-behind cs (applied Consume T)

end-behind : (cs : List Code) (T : Tokenizer) → end_of (done (consumes cs) T) ≡ end_of T
unfolding applied moved
end-behind [] T = refl
end-behind (c ∷ cs) T = end-behind cs (applied Consume T)

stays-consumes : (cs : List Code) → stays 0 (consumes cs) ≡ true
stays-consumes [] = refl
stays-consumes (c ∷ cs) = stays-consumes cs

depth-consumes : (cs : List Code) → depth_after 0 (consumes cs) ≡ 0
depth-consumes [] = refl
depth-consumes (c ∷ cs) = depth-consumes cs

drop-consumes : (xs ys : List Code) → drop (moves (consumes xs)) (xs ++ ys) ≡ ys
drop-consumes [] ys = refl
drop-consumes (x ∷ xs) ys =
    let next : moves (consumes (x ∷ xs)) ≡ suc (moves (consumes xs)) = omega arith in
    ap (λ k. drop k (x ∷ (xs ++ ys))) next ∙ drop-consumes xs ys

-- the address, read by the state of a domain
address-behind : (T E U : Tokenizer) (w : List Code) → U ≡ done (consumes w) E → bytes_of E ≡ bytes_of T → end_of E ≡ end_of T →
    E.tokenize_state ≡ T.tokenize_state → (ok : Bool) (V : Tokenizer) → domain_ends U ok V →
    DoesAs 0 (domain_plan (bytes_of T) (end_of T) T.tokenize_state) (rested T.tokenize_state) (done (consumes w) E) ok V
address-behind T E U w left bytes end scratch ok V y =
    let X : Tokenizer = done (consumes w) E in
    let here : domain_ends X ok V = subst (λ (x : Tokenizer). domain_ends x ok V) left y in
    subst (λ (s : TokenizeState). DoesAs 0 (domain_plan (bytes_of T) (end_of T) s) (rested s) X ok V) (scratch-done (consumes w) E ∙ scratch)
    (subst (λ n. DoesAs 0 (domain_plan (bytes_of T) n X.tokenize_state) (rested X.tokenize_state) X ok V) (end-behind w E ∙ end)
    (subst (λ bs. DoesAs 0 (domain_plan bs (end_of X) X.tokenize_state) (rested X.tokenize_state) X ok V) (bytes-behind w E ∙ bytes) here))

-- and so the scheme and the address
literal-behind : (bytes : List ℕ) (end : ℕ) (s : TokenizeState) (E : Tokenizer) (w rest : List Code) →
    one_word_of schemes (ahead E) ≡ Some (w, rest) → rested s ≡ s → (ok : Bool) (V : Tokenizer) →
    DoesAs 0 (domain_plan bytes end s) (rested s) (done (consumes w) E) ok V →
    DoesAs 0 (λ cs. pass_ops (protocol_reading bytes end cs)) (rested s) E ok V
literal-behind bytes end s E w rest read e ok V y =
    let os : List Op = consumes w in
    let whole : ahead E ≡ w ++ rest = read-codes itself (one_word_of schemes) (takes_one_word schemes) (ahead E) rest w read in
    let left : rest ≡ drop (moves os) (ahead E) = sym (ap (drop (moves os)) whole ∙ drop-consumes w rest) in
    DoesAs-then 0 (λ cs. pass_ops (protocol_reading bytes end cs)) (domain_plan bytes end s) os (rested s) E.tokenize_state E (stays-consumes w)
    (protocol-behind bytes end (ahead E) w rest s read e ∙ ap (λ cs. preceded os (domain_plan bytes end s cs)) left)
    ok V
    (subst (λ d. DoesAs d (domain_plan bytes end s) (rested s) (scratched E.tokenize_state (done os E)) ok V) (sym (depth-consumes w))
    (subst (λ (x : Tokenizer). DoesAs 0 (domain_plan bytes end s) (rested s) x ok V) (sym (kept os E)) y))

-- The scheme has been attempted, behind the Enter of the literal.

module _ (W : Words) (within : EqualsLayer states W) (T : Tokenizer) (on : LiteralStartReady T) (may : may_begin T ≡ true) where
  abbrev A : Tokenizer
  A = protocol_entered T

  abbrev E : Tokenizer
  E = entered_literal N.GfmAutolinkLiteralProtocol T

  abbrev G : List Attempt → State → Tokenizer → Type 0
  G = StateRuns.Goes W.ready W.ends (weight_in W) (weight_at 7 T) (DoesAs 0 (plan_of (protocol_here T)) T.tokenize_state T)

  abbrev outer : Attempt
  outer = frame_of false (Next GfmAutolinkLiteralProtocolAfter) Nok E

  ahead-here : ahead E ≡ ahead T
  ahead-here = ahead-done (Enter N.GfmAutolinkLiteralProtocol ∷ []) T

  left-here : codes_left E ≤ codes_left T
  left-here = omega (arith, left-applied (Enter N.GfmAutolinkLiteralProtocol) T refl)

  bytes-here : bytes_of E ≡ bytes_of T
  unfolding applied
  bytes-here = refl

  end-here : end_of E ≡ end_of T
  unfolding applied
  end-here = refl

  text-here : ReadsText E
  unfolding applied
  text-here = on.text

  scratch-here : E.tokenize_state ≡ T.tokenize_state
  scratch-here = scratch-done (Enter N.GfmAutolinkLiteralProtocol ∷ []) T

  address-ready : (U : Tokenizer) (w : List Code) → U ≡ done (consumes w) E → LiteralReady U
  address-ready U w left =
      let scratch : U.tokenize_state ≡ T.tokenize_state = ap (λ (x : Tokenizer). x.tokenize_state) left ∙ scratch-done (consumes w) E ∙ scratch-here in
      let size : U.tokenize_state.size ≡ 0 = ap (λ (s : TokenizeState). s.size) (scratch ∙ sym on.resting) in
      let size_b : U.tokenize_state.size_b ≡ 0 = ap (λ (s : TokenizeState). s.size_b) (scratch ∙ sym on.resting) in
      let few : codes_left U ≤ most = omega (arith, ap codes_left left, left-passed (consumes w) E, left-here, on.short) in
      record {
        text = subst ReadsText (sym left) (text-behind w E text-here);
        opened = omega (arith, size, few);
        closed = omega (arith, size_b, few);
      }

  on-address : (U : Tokenizer) → BeginsByConsuming (prefix_plan [] (ahead T)) → DoesPlan (prefix_plan []) (rested T.tokenize_state) E U →
      G (outer ∷ []) (Next GfmAutolinkLiteralDomainInside) U
  on-address U first k =
      let r : IsPassed (one_word_of schemes (ahead E)) k.ops = passed-is (one_word_of schemes (ahead E)) k.ops k.holds in
      let left : U ≡ done (consumes r.text) E = k.left ∙ ap (done k.ops) (enter-same N.GfmAutolinkLiteralProtocol T on.resting) ∙ ap (λ os. done os E) r.is in
      let begun = first k.ops (ap (prefix_plan []) (sym ahead-here) ∙ k.holds) in
      let reading : List Code → Option (List Code × List Code) = protocol_reading (bytes_of T) (end_of T) in
      let begins : BeginsByConsuming (pass_ops (reading (ahead T))) = subst BeginsByConsuming (sym (ap (λ cs. pass_ops (reading cs)) (sym ahead-here) ∙ protocol-behind (bytes_of T) (end_of T) (ahead E) r.text r.rest T.tokenize_state r.read on.resting)) (begins-behind (consumes r.text) begun.0 (sym r.is ∙ begun.1) _) in
      goes-then W (weight_at 7 T) (DoesAs 0 (plan_of (protocol_here T)) T.tokenize_state T) outer [] (Next GfmAutolinkLiteralDomainInside) (within GfmAutolinkLiteralDomainInside) U (address-ready U r.text left) (omega (arith, ap codes_left left, left-passed (consumes r.text) E, left-here))
      (λ ok V now y. literal-ended W N.GfmAutolinkLiteralProtocol (Next GfmAutolinkLiteralDomainInside) GfmAutolinkLiteralProtocolAfter reading (plan_of (protocol_here T)) T on.resting
      (here-is T (ahead T) ∙ if-true (may_begin T) _ None may)
      (weight_at 7 T) (within GfmAutolinkLiteralProtocolAfter) (omega arith) (λ X less. omega (arith, less)) begins (λ X z. z) (λ X ok Y z. z) ok V
      (literal-behind (bytes_of T) (end_of T) T.tokenize_state E r.text r.rest r.read on.resting ok V (address-behind T E U r.text left bytes-here end-here scratch-here ok V y)))

  given-up : prefix_plan [] (ahead T) ≡ None → G (outer ∷ []) Nok E
  given-up none =
      goes-then W (weight_at 7 T) (DoesAs 0 (plan_of (protocol_here T)) T.tokenize_state T) outer [] Nok {w = end_words false} refl E tt (omega (arith, left-here))
      (λ ok V now y. no-literal W (weight_at 7 T) N.GfmAutolinkLiteralProtocol GfmAutolinkLiteralProtocolAfter (plan_of (protocol_here T)) T (omega arith) (no-scheme T (ahead T) (may_begin T) refl (λ _. none)) ok V y)

  -- the fields in which the start is noted do not matter
  from-entered : (b : Bool) (U : Tokenizer) → prefix_ends A b U → DoesAs 0 (prefix_plan []) (rested T.tokenize_state) E b U
  unfolding scratched
  from-entered b U k =
      from-scratched b (subst (λ vs. DoesAs 0 (prefix_plan vs) (rested T.tokenize_state) A b U) (name-entered T) k)
    where
      i : ℕ
      i = (point_of T.cursor).index

      from-scratched : (b : Bool) → DoesAs 0 (prefix_plan []) (rested T.tokenize_state) A b U →
          DoesAs 0 (prefix_plan []) (rested T.tokenize_state) E b U
      from-scratched true k = record { ops = k.ops; holds = k.holds; left = k.left }
      from-scratched false k = record { none = k.none; grown = Grown-scratched 0 (started i T.tokenize_state) E U k.grown; scratch = k.scratch }

  scheme-tried : BeginsByConsuming (prefix_plan [] (ahead T)) → (b : Bool) (U : Tokenizer) → prefix_ends A b U →
      G (frame_of false (Next GfmAutolinkLiteralProtocolAfter) Nok A ∷ []) (going_state (frame_of false (Next GfmAutolinkLiteralDomainInside) Nok A) b) (going_in (frame_of false (Next GfmAutolinkLiteralDomainInside) Nok A) b U)
  unfolding frame_of scratched
  scheme-tried first true U x = on-address U first (from-entered true U x)
  scheme-tried first false U x =
      let k : Stops 0 (prefix_plan []) (rested T.tokenize_state) E U = from-entered false U x in
      let back : restored (frame_of false (Next GfmAutolinkLiteralDomainInside) Nok E) U ≡ E = restored-grown false (Next GfmAutolinkLiteralDomainInside) Nok E U k.grown ∙ ap (λ (s : TokenizeState). scratched s E) k.scratch ∙ enter-same N.GfmAutolinkLiteralProtocol T on.resting in
      subst (λ (x : Tokenizer). G (outer ∷ []) Nok x) (sym back) (given-up (ap (prefix_plan []) (sym ahead-here) ∙ k.none))

pub protocol_start-law : (W : Words) → EqualsLayer states W → Law W protocol_start_words
protocol_start-law W within T alone on =
    let s : TokenizeState = T.tokenize_state in
    let p : Plan = plan_of (protocol_here T) in
    let n : ℕ = weight_at 7 T in
    let F : Bool → Tokenizer → Type 0 = DoesAs 0 p s T in
    let P : Stepped → Type 0 = GoesIn W n F in
    let A : Tokenizer = protocol_entered T in
    GoesOn-map W n F (protocol_start_ends T) (protocol_start_step T) (λ ok U k. EndsAs-plan (protocol_here T) (whole-protocol (bytes_of T) (end_of T) (is_on T) (before_of T)) s T ok U k)
    (code-step P (current_of T) (λ o. protocol_start_at (may_begin T) o T)
    (λ e. Goes-no W 7 0 p T alone (ap p (ahead-none T e) ∙ no-scheme T [] (may_begin T) refl (λ _. prefix-end [] refl)))
    (λ c e. let b = ahead-some T c e in
    let more : List Code = rest_of (ahead T) in
    if-step P (may_begin T && begins_scheme c) _ _
    (λ h. let may : may_begin T ≡ true = and-left (may_begin T) (begins_scheme c) h in
    Goes-both W n F (Retry GfmAutolinkLiteralProtocolPrefixInside) (within GfmAutolinkLiteralProtocolPrefixInside) false false (Next GfmAutolinkLiteralDomainInside) Nok (Next GfmAutolinkLiteralProtocolAfter) Nok A
    (attempts-scratched _ _ ∙ attempts-applied (Enter N.GfmAutolinkLiteralProtocol) T ∙ alone) (scheme-ready T c on e (and-right (may_begin T) (begins_scheme c) h))
    (omega (arith, left-scratched (started (point_of T.cursor).index s) (entered_literal N.GfmAutolinkLiteralProtocol T), left-applied (Enter N.GfmAutolinkLiteralProtocol) T refl))
    (λ k U now x. scheme-tried W within T on may (subst BeginsByConsuming (ap (prefix_plan []) (sym b.whole)) (first-passed b.code more)) k U x))
    (λ h. Goes-no W 7 0 p T alone (ap p b.whole ∙ no-scheme T (b.code ∷ more) (may_begin T) refl (λ m. other-code b.code more (ap begins_scheme b.value ∙ other (may_begin T) (begins_scheme c) h m))))))
  where
    other : (a b : Bool) → a && b ≡ false → a ≡ true → b ≡ false
    other true b e m = e
    other false b e m = cc
