-- How the states of HTML in text go on: past a code, at the same code, and past a line ending.
use Rattle.std.proofs.Common.{◌≡◌, ℕ, ◌+◌, ◌<◌, ◌≤◌, ◌==◌, Bool, true, false, Some, None, List, [], ◌∷◌, length, refl, sym, ap, subst, ◌∙◌, arith}
use Rattle.std.proofs.lemmas.Bool.{eqb-true}
use Rattle.markdown_content.specs.Codes.{Code}
use Rattle.markdown_content.specs.ListFunctions.{rest_of}
use Rattle.markdown_content.specs.CommonMark.{rules_of}
use Rattle.markdown_engine.specs.Operations.{Op, Consume, current_of, ahead, applied, done, moves, scratched}
use Rattle.markdown_engine.specs.StateRuns.{stepped}
use Rattle.markdown_engine.specs.Weights.{codes_left, weight_at}
use Rattle.markdown_event.specs.declared.state.State.TheVariants.{Next, Retry, Nok}
use Rattle.markdown_event.specs.declared.state.StateName.TheVariants as H
use Rattle.markdown_engine.specs.declared.tokenizer.TokenizeState.{TokenizeState}
use Rattle.markdown_engine.specs.declared.tokenizer.Tokenizer.{Tokenizer}
use Rattle.markdown_engine.proofs.OperationFields.{ahead-some, BeginsWithValue, some-codes}
use Rattle.markdown_engine.proofs.OperationLemmas.{input-done, left-done, scratch-done}
use Rattle.markdown_model.specs.Grammar.{Reading, with_first}
use Rattle.markdown_plan.specs.Plan.{preceded, DoesAs}
use Rattle.markdown_plan.proofs.PlanSteps.{DoesAs-then, kept, preceded-nil}
use Rattle.markdown_leaf_html.specs.HtmlLines.{InLine, break_from, text_from, text_of}
use Rattle.markdown_leaf_html.specs.HtmlTextRests.{HtmlPart, Open, DeclarationOpen, CommentOpenInside, Comment, CommentClose, CommentEnd, Cdata, CdataClose, CdataEnd, Declaration, Instruction, InstructionClose, TagCloseStart, TagClose, TagCloseBetween, TagOpen, TagOpenBetween, AttributeName, AttributeNameAfter, ValueBefore, ValueQuotedAfter, ValueUnquoted, End, state_of, reading_of, rank_of}
use Rattle.markdown_leaf_html.specs.HtmlText.{slashes_in, past_code, over_to, broken, HtmlInsideReady, HtmlPartReady, part_ends}
use Rattle.markdown_leaf_html.proofs.HtmlLineBreaks.{PassesItsCodes, text-code, breaks, break-stays, break-depth, break-fits, break-moves}
use Rattle.markdown_leaf_html.proofs.HtmlTextReady.{part-next, part-broken}
use Rattle.markdown_leaf_html.proofs.HtmlLineEndingLaws.{HasHtmlWords}
use Rattle.markdown_engine.specs.StateWords.{Words, GoesIn, StateWords, words_in}
use Rattle.markdown_plan.proofs.LawStepsOfLayer.{Goes-attempt, Goes-next, Goes-no, follows, FollowsIn}
use Rattle.markdown_event.specs.declared.state.StateName.{StateName}

pub rank-low : (k : HtmlPart) → rank_of k < 5
rank-low Open = omega arith
rank-low DeclarationOpen = omega arith
rank-low CommentOpenInside = omega arith
rank-low Comment = omega arith
rank-low CommentClose = omega arith
rank-low CommentEnd = omega arith
rank-low Cdata = omega arith
rank-low CdataClose = omega arith
rank-low CdataEnd = omega arith
rank-low Declaration = omega arith
rank-low Instruction = omega arith
rank-low InstructionClose = omega arith
rank-low TagCloseStart = omega arith
rank-low TagClose = omega arith
rank-low TagCloseBetween = omega arith
rank-low TagOpen = omega arith
rank-low TagOpenBetween = omega arith
rank-low AttributeName = omega arith
rank-low AttributeNameAfter = omega arith
rank-low ValueBefore = omega arith
rank-low ValueQuotedAfter = omega arith
rank-low ValueUnquoted = omega arith
rank-low End = omega arith

-- one code of a text
pub text-next : (r q : Reading (List Code)) (T : Tokenizer) (c : ℕ) (e : current_of T ≡ Some c) → (c == 10) ≡ false →
    r ((ahead-some T c e).code ∷ rest_of (ahead T)) ≡ with_first (ahead-some T c e).code (q (rest_of (ahead T))) →
    text_of r (ahead T) ≡ preceded (Consume ∷ []) (text_of q (rest_of (ahead T)))
text-next r q T c e h k =
    let b : BeginsWithValue c (ahead T) = ahead-some T c e in
    ap (text_of r) b.whole ∙ ap (text_from InLine) k ∙ text-code b.code (q (rest_of (ahead T))) (ap (λ v. v == 10) b.value ∙ h)

-- a code that passes a test that no line ending passes
not-ending-by : (p : ℕ → Bool) (c : ℕ) (b : Bool) → (c == 10) ≡ b → p c ≡ true → p 10 ≡ false → b ≡ false
not-ending-by p c false e h k = refl
not-ending-by p c true e h k = let no : true ≡ false = sym h ∙ ap p (eqb-true c 10 e) ∙ k in cc

pub not-ending : (p : ℕ → Bool) (c : ℕ) → p c ≡ true → p 10 ≡ false → (c == 10) ≡ false
not-ending p c h k = not-ending-by p c (c == 10) refl h k

-- operations leave the rules
pub slashes-done : (os : List Op) (T : Tokenizer) → slashes_in (done os T) ≡ slashes_in T
slashes-done os T = ap (λ p. (rules_of p.now.options.now).slashes_in_values) (input-done os T)

module _ (W : Words) (within : HasHtmlWords W) where
  pub part-past : (k j : HtmlPart) (T : Tokenizer) (c : ℕ) → T.attempts ≡ [] → HtmlPartReady T → (e : current_of T ≡ Some c) →
      (c == 10) ≡ false →
      reading_of (slashes_in T) k ((ahead-some T c e).code ∷ rest_of (ahead T)) ≡ with_first (ahead-some T c e).code (reading_of (slashes_in T) j (rest_of (ahead T))) →
      GoesIn W (weight_at (rank_of k) T) (part_ends k T) (past_code (state_of j) T)
  unfolding applied
  part-past k j T c alone r e h same =
      let more : 1 ≤ length (ahead T) = some-codes T c e in
      Goes-next W (rank_of k) 2 (text_of (reading_of (slashes_in T) k)) (text_of (reading_of (slashes_in T) j)) (Consume ∷ []) T (Next (state_of j)) (within.parts j) alone refl more (omega (arith, rank-low j)) (text-next (reading_of (slashes_in T) k) (reading_of (slashes_in T) j) T c e h same) (part-next T more r)
      (λ ok U x. x)

  pub part-fails : (k : HtmlPart) (T : Tokenizer) → T.attempts ≡ [] → reading_of (slashes_in T) k (ahead T) ≡ None →
      GoesIn W (weight_at (rank_of k) T) (part_ends k T) (stepped Nok T)
  part-fails k T alone none = Goes-no W (rank_of k) 2 (text_of (reading_of (slashes_in T) k)) T alone (ap (text_from InLine) none)

  pub part-over : (k j : HtmlPart) (T : Tokenizer) → T.attempts ≡ [] → HtmlPartReady T → rank_of j < rank_of k →
      reading_of (slashes_in T) k (ahead T) ≡ reading_of (slashes_in T) j (ahead T) →
      GoesIn W (weight_at (rank_of k) T) (part_ends k T) (over_to (state_of j) T)
  part-over k j T alone r lower same =
      Goes-next W (rank_of k) 2 (text_of (reading_of (slashes_in T) k)) (text_of (reading_of (slashes_in T) j)) [] T (Retry (state_of j)) (within.parts j) alone refl (omega arith) (omega (arith, lower)) (ap (text_from InLine) same ∙ preceded-nil (text_of (reading_of (slashes_in T) j) (ahead T))) r
      (λ ok U x. x)

  -- past a line ending and the whitespace after it
  pub text-broken : (k : ℕ) (r : Reading (List Code)) (s : TokenizeState) (st : StateName) {w : StateWords} →
      words_in W st ≡ w → (T : Tokenizer) → 1 < k → k < 5 → w.rank (done (break_from InLine (ahead T)) T) ≡ k → PassesItsCodes r → T.attempts ≡ [] →
      HtmlInsideReady T →
      current_of T ≡ Some 10 → w.ready (done (break_from InLine (ahead T)) T) →
      ((ok : Bool) (U : Tokenizer) → w.ends (done (break_from InLine (ahead T)) T) ok U → DoesAs 2 (text_of r) s (done (break_from InLine (ahead T)) T) ok U) →
      GoesIn W (weight_at k T) (DoesAs 2 (text_of r) s T) (broken st T)
  text-broken k r s st {w} say T high low level g alone inside e on closed =
      let os : List Op = break_from InLine (ahead T) in
      let V : Tokenizer = done os T in
      let E : Bool → Tokenizer → Type 0 = DoesAs 2 (text_of r) s T in
      let b : BeginsWithValue 10 (ahead T) = ahead-some T 10 e in
      let some : 1 ≤ moves os = subst (λ cs. 1 ≤ moves (break_from InLine cs)) (sym b.whole) (break-moves InLine b.code (rest_of (ahead T)) (ap (λ v. v == 10) b.value)) in
      let fewer : codes_left V + moves os ≡ codes_left T = left-done os T (break-fits InLine (ahead T)) in
      Goes-attempt W (weight_at k T) E (Retry H.HtmlTextLineEndingBefore) within.before (Next st) Nok T alone (record { inside = inside; ending = e }) (omega (arith, high))
      (λ U now x. subst (λ (y : Tokenizer). FollowsIn W (weight_at k T) E (Next st) y) (sym x.1)
      (follows W _ _ (Next st) {w = w} say V on (omega (arith, some, fewer, level)) (λ ok X m.
      DoesAs-then 2 (text_of r) (text_of r) os s T.tokenize_state T (break-stays (ahead T)) (breaks r g InLine (ahead T)) ok X
      (subst (λ (d : ℕ). DoesAs d (text_of r) s (scratched T.tokenize_state V) ok X) (sym (break-depth (ahead T)))
      (subst (λ (y : Tokenizer). DoesAs 2 (text_of r) s y ok X) (sym (kept os T)) (closed ok X m))))))
      (λ U now x. let no : false ≡ true = x.0 in cc)

  pub part-broken-on : (k : HtmlPart) (T : Tokenizer) → 1 < rank_of k → PassesItsCodes (reading_of (slashes_in T) k) → T.attempts ≡ [] →
      HtmlPartReady T → current_of T ≡ Some 10 → GoesIn W (weight_at (rank_of k) T) (part_ends k T) (broken (state_of k) T)
  part-broken-on k T high g alone r e =
      text-broken (rank_of k) (reading_of (slashes_in T) k) T.tokenize_state (state_of k) (within.parts k) T high (rank-low k) refl g alone r.inside e (part-broken T r)
      (λ ok U x. let os : List Op = break_from InLine (ahead T) in
      subst (λ (s : TokenizeState). DoesAs 2 (text_of (reading_of (slashes_in T) k)) s (done os T) ok U) (scratch-done os T)
      (subst (λ (b : Bool). DoesAs 2 (text_of (reading_of b k)) (done os T).tokenize_state (done os T) ok U) (slashes-done os T) x))
