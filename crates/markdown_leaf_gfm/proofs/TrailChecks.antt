-- What may be asked for along a literal, and runs that only look.
use Rattle.std.proofs.Common.{◌≡◌, ℕ, ◌+◌, ◌≤◌, ◌<◌, ◌==◌, nat_lt, Bool, true, false, Option, Some, None, List, [], ◌∷◌, length, slice_get, add-one, refl, sym, ap, subst, ◌∙◌, arith}
use Rattle.std.specs.Prelude.{codes, IsSome}
use Rattle.std.specs.Str.{IsCharBoundary}
use Rattle.std.proofs.lemmas.Bool.{eqb-true}
use Rattle.std.proofs.lemmas.Bool.Decides.{nat_tests}
use Rattle.markdown_content.specs.Codes.{Code}
use Rattle.markdown_engine.specs.FailedRun.{Grown}
use Rattle.markdown_engine.specs.Operations.{Consume, HasCode, ahead, applied, current_of, done, frame_of, scratched}
use Rattle.markdown_content.specs.Place.{Place, moved, code_at, point_of, value_of, start_or}
use Rattle.markdown_engine.specs.StateRuns.{stepped, restored}
use Rattle.markdown_engine.specs.Weights.{weight_at}
use Rattle.markdown_event.specs.declared.state.State.{State}
use Rattle.markdown_event.specs.declared.state.State.TheVariants.{Next, Retry}
use Rattle.markdown_engine.specs.declared.tokenizer.TokenizeState.{TokenizeState}
use Rattle.markdown_engine.specs.declared.tokenizer.Tokenizer.{Tokenizer}
use Rattle.markdown_engine.proofs.ReadingSequences.{scratched-same}
use Rattle.markdown_engine.proofs.LawSteps.{Grown-refl, restored-grown}
use Rattle.markdown_engine.proofs.OperationFields.{attempts-applied, left-consumed, left-ahead, some-codes}
use Rattle.markdown_engine.proofs.OperationLemmas.{Grown-applied, scratch-done}
use Rattle.markdown_content.proofs.PlaceRules.{point_ahead, point_end}
use Rattle.markdown_model.specs.CodeTests.{is_among, is_letter}
use Rattle.markdown_model.specs.GfmAutolinkLiteral.{is_space}
use Rattle.markdown_leaf_gfm.specs.Trails.{trails_in}
use Rattle.markdown_util.specs.Neighbours.{class_of, after_index}
use Rattle.markdown_plan.specs.Characters.{IsText, ReadsText, at_later, bytes_of}
use Rattle.markdown_plan.proofs.CharactersAlongContent.{text-moved}
use Rattle.markdown_leaf_gfm.specs.GfmAutolinkLiteral.{end_of, kind_here, ended, MayClass, MayCount, TrailReady, LiteralReady, LookReady, Looks, trails_on, trail_value}
use Rattle.markdown_engine.specs.StateWords.{Words, GoesIn, StateWords, words_in}
use Rattle.markdown_plan.proofs.LawStepsOfLayer.{Goes-plain, Goes-end}
use Rattle.markdown_event.specs.declared.state.StateName.{StateName}

-- These codes are ASCII.

pub low-by : (v n : ℕ) → (v == n) ≡ true → nat_lt n 128 ≡ true → nat_lt v 128 ≡ true
low-by v n e h = ap (λ k. nat_lt k 128) (eqb-true v n e) ∙ h

pub trail-low : (v : ℕ) → trail_value v ≡ true → nat_lt v 128 ≡ true
trail-low v e = grind (arith, nat_tests)

-- Characters.

pub class-by : (bytes : List ℕ) (p : Place) → IsText bytes p → at_later (code_at p) ≡ false →
    IsCharBoundary bytes (point_of p).index
unfolding code_at point_of
class-by bytes p k h = by_code (slice_get p.codes p.at) refl h
  where
    by_code : (o : Option Code) → slice_get p.codes p.at ≡ o → at_later (value_of o) ≡ false →
        IsCharBoundary bytes (start_or o p.end).index
    by_code None e h = k.end
    by_code (Some c) e h = k.first p.at c e h

pub may-class : (T : Tokenizer) → ReadsText T → MayClass T
may-class T k = record { text = k.text; begins = λ h. class-by _ T.cursor k h }

pub trail-ready : (T : Tokenizer) → LookReady T → TrailReady T
trail-ready T k = record { class = may-class T k.text; begins = k.begins }

-- after an ASCII code no later byte stands
pub begins-by : (bytes : List ℕ) (p : Place) (v : ℕ) → IsText bytes p → code_at p ≡ Some v → nat_lt v 128 ≡ true →
    at_later (code_at (moved p)) ≡ false
unfolding code_at moved
begins-by bytes p v k e h = by_codes (slice_get p.codes p.at) (slice_get p.codes (p.at + 1)) refl refl e
  where
    by_codes : (o q : Option Code) → slice_get p.codes p.at ≡ o → slice_get p.codes (p.at + 1) ≡ q →
        value_of o ≡ Some v → at_later (value_of q) ≡ false
    by_codes o None f g e = refl
    by_codes None (Some d) f g e = cc
    by_codes (Some c) (Some d) f g e =
        let same : Some c.value ≡ Some v = e in
        let value : c.value ≡ v = cc in
        k.next p.at c d f (ap (slice_get p.codes) (sym (add-one p.at)) ∙ g) (ap (λ n. nat_lt n 128) value ∙ h)

pub look-passed : (T : Tokenizer) (v : ℕ) → ReadsText T → current_of T ≡ Some v → nat_lt v 128 ≡ true →
    LookReady (done (Consume ∷ []) T)
unfolding applied
look-passed T v k e h = record { text = text-moved _ T.cursor k; begins = begins-by _ T.cursor v k e h }

-- Parentheses may be counted.

some-code-by : (T : Tokenizer) (o : Option ℕ) → current_of T ≡ o → IsSome o → 1 ≤ length (ahead T)
some-code-by T None e h = let no : false ≡ true = h in cc
some-code-by T (Some c) e h = some-codes T c e

pub some-code : (T : Tokenizer) → HasCode T → 1 ≤ length (ahead T)
some-code T h = some-code-by T (current_of T) refl h

pub may-count : (T : Tokenizer) → LiteralReady T → MayCount T
may-count T k =
    record { opened = λ h. omega (arith, k.opened, left-ahead T, some-code T h); closed = λ h. omega (arith, k.closed, left-ahead T, some-code T h) }

-- The class of the character at hand, as the definition asks for it.

pub space-here : (T : Tokenizer) (c : Code) (cs : List Code) → ahead T ≡ c ∷ cs →
    kind_here T ≡ class_of (after_index (bytes_of T) c.start.index)
space-here T c cs e = ap (λ p. class_of (after_index (bytes_of T) p.index)) (point_ahead T.cursor c cs e)

pub space-end : (T : Tokenizer) → ahead T ≡ [] → kind_here T ≡ class_of (after_index (bytes_of T) (end_of T))
space-end T e = ap (λ p. class_of (after_index (bytes_of T) p.index)) (point_end T.cursor e)

-- Trails, by what stands there.

module _ (bytes : List ℕ) (end : ℕ) where
  pub trails-mark : (c : Code) (cs : List Code) → is_among (codes "!\"'),*.:;?_~") c ≡ true →
      trails_in bytes end None (c ∷ cs) ≡ trails_in bytes end None cs
  unfolding trails_in
  trails-mark c cs e = rw (e, trails_in) refl

  pub trails-and : (c : Code) (cs : List Code) → is_among (codes "!\"'),*.:;?_~") c ≡ false → (c.value == 38) ≡ true →
      trails_in bytes end None (c ∷ cs) ≡ trails_in bytes end (Some false) cs
  unfolding trails_in
  trails-and c cs e h = rw (e, h, trails_in) refl

  pub trails-angle : (c : Code) (cs : List Code) → is_among (codes "!\"'),*.:;?_~") c ≡ false →
      (c.value == 38) ≡ false → (c.value == 60) ≡ true → trails_in bytes end None (c ∷ cs) ≡ true
  unfolding trails_in
  trails-angle c cs e h f = rw (e, h, f, trails_in) refl

  pub trails-bracket : (c : Code) (cs : List Code) → is_among (codes "!\"'),*.:;?_~") c ≡ false →
      (c.value == 38) ≡ false → (c.value == 60) ≡ false → (c.value == 93) ≡ true →
      trails_in bytes end None (c ∷ cs) ≡ trails_on bytes end cs
  unfolding trails_in
  trails-bracket c cs e h f g = rw (e, h, f, g, trails_in) refl

  pub trails-else : (c : Code) (cs : List Code) → is_among (codes "!\"'),*.:;?_~") c ≡ false → (c.value == 38) ≡ false →
      (c.value == 60) ≡ false → (c.value == 93) ≡ false →
      trails_in bytes end None (c ∷ cs) ≡ is_space (class_of (after_index bytes c.start.index))
  unfolding trails_in
  trails-else c cs e h f g = rw (e, h, f, g, trails_in) refl

  pub trails-end : trails_in bytes end None [] ≡ is_space (class_of (after_index bytes end))
  unfolding trails_in
  trails-end = refl

  pub name-letter : (seen : Bool) (c : Code) (cs : List Code) → is_letter c ≡ true →
      trails_in bytes end (Some seen) (c ∷ cs) ≡ trails_in bytes end (Some true) cs
  unfolding trails_in
  name-letter seen c cs e = rw (e, trails_in) refl

  pub name-closed : (c : Code) (cs : List Code) → is_letter c ≡ false → (c.value == 59) ≡ true →
      trails_in bytes end (Some true) (c ∷ cs) ≡ trails_in bytes end None cs
  unfolding trails_in
  name-closed c cs e h = rw (e, h, trails_in) refl

  pub name-other : (c : Code) (cs : List Code) → is_letter c ≡ false → (c.value == 59) ≡ false →
      trails_in bytes end (Some true) (c ∷ cs) ≡ false
  unfolding trails_in
  name-other c cs e h = rw (e, h, trails_in) refl

  pub name-none : (c : Code) (cs : List Code) → is_letter c ≡ false → trails_in bytes end (Some false) (c ∷ cs) ≡ false
  unfolding trails_in
  name-none c cs e = rw (e, trails_in) refl

  pub name-end : (seen : Bool) → trails_in bytes end (Some seen) [] ≡ false
  unfolding trails_in
  name-end seen = refl

-- Runs that look.

pub looks-here : (test : Bool) (T : Tokenizer) (ok : Bool) (U : Tokenizer) → ok ≡ test → U ≡ T → Looks test T ok U
looks-here test T ok U e h =
    record { answer = e; grown = subst (λ (x : Tokenizer). Grown 0 T x) (sym h) (Grown-refl 0 T); scratch = ap (λ (x : Tokenizer). x.tokenize_state) h }

pub looks-past : (test then1 : Bool) (T : Tokenizer) (ok : Bool) (U : Tokenizer) → then1 ≡ test →
    Looks then1 (done (Consume ∷ []) T) ok U → Looks test T ok U
looks-past test then1 T ok U e k =
    record { answer = k.answer ∙ e; grown = Grown-applied 0 Consume T U refl k.grown; scratch = k.scratch ∙ scratch-done (Consume ∷ []) T }

-- a look that is undone leaves all as it was
pub looked-back : (test : Bool) (held failed : State) (T : Tokenizer) (ok : Bool) (U : Tokenizer) → Looks test T ok U →
    restored (frame_of true held failed T) U ≡ T
looked-back test held failed T ok U k =
    restored-grown true held failed T U k.grown ∙ ap (λ (s : TokenizeState). scratched s T) k.scratch ∙ scratched-same T

module _ (W : Words) where
  pub look-ended : (k : ℕ) (test b : Bool) (T : Tokenizer) → T.attempts ≡ [] → b ≡ test →
      GoesIn W (weight_at k T) (Looks test T) (ended b T)
  look-ended k test true T alone e =
      Goes-end W (weight_at k T) (Looks test T) true T alone (omega arith) (λ ok U x. looks-here test T ok U (x.0 ∙ e) x.1)
  look-ended k test false T alone e =
      Goes-end W (weight_at k T) (Looks test T) false T alone (omega arith) (λ ok U x. looks-here test T ok U (x.0 ∙ e) x.1)

  pub look-next : (k : ℕ) (test then1 : Bool) (st : StateName) {w : StateWords} → words_in W st ≡ w →
      (T : Tokenizer) (c : ℕ) → T.attempts ≡ [] → current_of T ≡ Some c → w.rank (done (Consume ∷ []) T) ≤ 9 → then1 ≡ test →
      w.ready (done (Consume ∷ []) T) →
      ((ok : Bool) (U : Tokenizer) → w.ends (done (Consume ∷ []) T) ok U → Looks then1 (done (Consume ∷ []) T) ok U) →
      GoesIn W (weight_at k T) (Looks test T) (stepped (Next st) (done (Consume ∷ []) T))
  look-next k test then1 st {w} say T c alone e small same on closed =
      Goes-plain W (weight_at k T) (Looks test T) (Next st) {w = w} say (done (Consume ∷ []) T) (attempts-applied Consume T ∙ alone) on
      (omega (arith, left-consumed T c e, small))
      (λ ok U x. looks-past test then1 T ok U same (closed ok U x))

  pub look-retry : (k : ℕ) (test then1 : Bool) (st : StateName) {w : StateWords} → words_in W st ≡ w → (T : Tokenizer) →
      T.attempts ≡ [] → w.rank T < k → then1 ≡ test → w.ready T →
      ((ok : Bool) (U : Tokenizer) → w.ends T ok U → Looks then1 T ok U) →
      GoesIn W (weight_at k T) (Looks test T) (stepped (Retry st) T)
  look-retry k test then1 st {w} say T alone less same on closed =
      Goes-plain W (weight_at k T) (Looks test T) (Retry st) {w = w} say T alone on (omega (arith, less))
      (λ ok U x. let l = closed ok U x in record { answer = l.answer ∙ same; grown = l.grown; scratch = l.scratch })
