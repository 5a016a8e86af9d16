-- The laws of the states of HTML in text at the ends of lines.
use Rattle.std.proofs.Common.{◌≡◌, ℕ, ◌≤◌, ◌==◌, Bool, true, false, Option, Some, None, List, [], ◌∷◌, ◌++◌, length, drop, append_assoc, refl, sym, ap, subst, ◌∙◌, arith}
use Rattle.std.proofs.lemmas.Bool.{eqb-true}
use Rattle.markdown_content.specs.Codes.{Code, is_line_ending, is_blank}
use Rattle.markdown_content.specs.ListFunctions.{rest_of}
use Rattle.markdown_engine.specs.Operations.{Op, Enter, Exit, Consume, current_of, ahead, done, moves, scratched}
use Rattle.markdown_engine.specs.PastTree.{past, Reads, EndsAs}
use Rattle.markdown_engine.specs.StateRuns.{Stepped, stepped}
use Rattle.markdown_content.specs.Tree.{Forest, leaf_codes}
use Rattle.markdown_engine.specs.TreeOps.{ops_of, consumes, IsSolid}
use Rattle.markdown_engine.specs.Weights.{codes_left, weight_at}
use Rattle.markdown_event.specs.declared.event.Name.TheVariants as N
use Rattle.markdown_event.specs.declared.state.State.TheVariants.{Next, Retry, Nok}
use Rattle.markdown_event.specs.declared.state.StateName.TheVariants as H
use Rattle.markdown_engine.specs.declared.tokenizer.Tokenizer.{Tokenizer}
use Rattle.markdown_engine.proofs.ReadingSequences.{scratched-same, left-read}
use Rattle.markdown_engine.proofs.LawSteps.{code-step, if-step}
use Rattle.markdown_engine.proofs.OperationFields.{ahead-none, ahead-some, attempts-scratched, left-scratched, left-ahead, BeginsWithValue, some-codes}
use Rattle.markdown_engine.proofs.OperationLemmas.{ahead-done, left-done, attempts-done}
use Rattle.markdown_engine.proofs.TreeEvents.{done-append, ops-past}
use Rattle.markdown_model.specs.CodeTests.{next_is}
use Rattle.markdown_model.specs.Grammar.{span}
use Rattle.markdown_model.specs.TextLines.{linked_leaf}
use Rattle.markdown_model.specs.Whitespace.{space_or_tab}
use Rattle.markdown_partial.specs.PartialSpaceOrTab as PartialSpaceOrTab
use Rattle.markdown_partial.specs.PartialSpaceOrTab.{most}
use Rattle.markdown_partial.proofs.WhitespaceAttempts.{asked-ready, asked-ends}
use Rattle.markdown_partial.proofs.WhitespaceReadings.{space-all}
use Rattle.markdown_leaf_html.specs.HtmlLines.{InLine, AtStart, InBlank, ending_ops, break_from, prefix_from}
use Rattle.markdown_leaf_html.specs.HtmlTextRests.{HtmlPart, state_of}
use Rattle.markdown_leaf_html.specs.HtmlText.{blank_asked, HtmlAfterReady, line_ending_before_ends, line_ending_after_at, line_ending_after_ends, data_entered, line_ending_after_prefix_at, line_ending_after_prefix_ends, line_ending_after_prefix_words, line_ending_after_words, line_ending_before_words, part_words, cdata_open_inside_words, tag_open_attribute_value_quoted_words}
use Rattle.markdown_leaf_html.specs.HtmlByteTests.{blank_value}
use Rattle.markdown_leaf_html.proofs.HtmlLineBreaks.{break-ending, break-blank, break-data}
use Rattle.markdown_leaf_html.proofs.HtmlTextReady.{before-passed, ending-passed}
use Rattle.markdown_model.proofs.GrammarSteps.{span-takes, span-none}
use Rattle.markdown_engine.specs.StateWords.{Words, Law, GoesIn, words_in}
use Rattle.markdown_plan.proofs.LawStepsOfLayer.{Goes-plain, Goes-end, Goes-ops, Goes-attempt, follows}

-- what the layer says of these states, and of the start of blank codes
pub record HasHtmlWords (W : Words) : Type 1 where
  pub parts : (k : HtmlPart) → words_in W (state_of k) ≡ part_words k
  pub cdata : words_in W H.HtmlTextCdataOpenInside ≡ cdata_open_inside_words
  pub quoted : words_in W H.HtmlTextTagOpenAttributeValueQuoted ≡ tag_open_attribute_value_quoted_words
  pub before : words_in W H.HtmlTextLineEndingBefore ≡ line_ending_before_words
  pub after : words_in W H.HtmlTextLineEndingAfter ≡ line_ending_after_words
  pub prefix : words_in W H.HtmlTextLineEndingAfterPrefix ≡ line_ending_after_prefix_words
  pub space : words_in W H.SpaceOrTabStart ≡ PartialSpaceOrTab.start_words

-- Breaks, by what stands there.

prefix-ending : (c : Code) (cs : List Code) → is_line_ending c ≡ true →
    prefix_from (c ∷ cs) ≡ ending_ops ++ break_from AtStart cs
prefix-ending c cs e = rw e refl

pub prefix-data : (cs : List Code) → next_is is_line_ending cs ≡ false → prefix_from cs ≡ Enter N.HtmlTextData ∷ []
prefix-data [] e = refl
prefix-data (c ∷ cs) e = rw e refl

-- where no blank code stands
start-by : (ending : Bool) (c : Code) (cs : List Code) → is_line_ending c ≡ ending → is_blank c ≡ false →
    break_from AtStart (c ∷ cs) ≡ prefix_from (c ∷ cs)
start-by true c cs e h = break-ending AtStart c cs e ∙ sym (prefix-ending c cs e)
start-by false c cs e h = break-data AtStart c cs e h ∙ sym (prefix-data (c ∷ cs) e)

start-plain : (cs : List Code) → next_is is_blank cs ≡ false → break_from AtStart cs ≡ prefix_from cs
start-plain [] h = refl
start-plain (c ∷ cs) h = start-by (is_line_ending c) c cs refl h

-- blank codes, and what follows
blank-not-ending : (c : Code) (b : Bool) → is_line_ending c ≡ b → is_blank c ≡ true → b ≡ false
blank-not-ending c false e h = refl
blank-not-ending c true e h = let no : true ≡ false = sym h ∙ ap blank_value (eqb-true c.value 10 e) in cc

abbrev Inside : List Code → List Code × List Code → Type 0
Inside cs s = break_from InBlank cs ≡ consumes s.0 ++ Exit N.SpaceOrTab ∷ prefix_from s.1

inside-ended : (ending : Bool) (c : Code) (cs : List Code) → is_line_ending c ≡ ending → is_blank c ≡ false →
    break_from InBlank (c ∷ cs) ≡ Exit N.SpaceOrTab ∷ prefix_from (c ∷ cs)
inside-ended true c cs e h =
    break-ending InBlank c cs e ∙ ap (λ os. Exit N.SpaceOrTab ∷ os) (sym (prefix-ending c cs e))
inside-ended false c cs e h =
    break-data InBlank c cs e h ∙ ap (λ os. Exit N.SpaceOrTab ∷ os) (sym (prefix-data (c ∷ cs) e))

inside-by : (b : Bool) (c : Code) (cs : List Code) → is_blank c ≡ b → Inside cs (span is_blank cs) →
    Inside (c ∷ cs) (span is_blank (c ∷ cs))
inside-by true c cs h k =
    subst (λ s. Inside (c ∷ cs) s) (sym (span-takes is_blank c cs h)) (break-blank InBlank c cs (blank-not-ending c (is_line_ending c) refl h) h ∙ ap (λ os. Consume ∷ os) k)
inside-by false c cs h k =
    subst (λ s. Inside (c ∷ cs) s) (sym (span-none is_blank (c ∷ cs) h)) (inside-ended (is_line_ending c) c cs refl h)

inside-blank : (cs : List Code) → Inside cs (span is_blank cs)
inside-blank [] = refl
inside-blank (c ∷ cs) = inside-by (is_blank c) c cs refl (inside-blank cs)

start-blank : (cs : List Code) → next_is is_blank cs ≡ true →
    break_from AtStart cs ≡ ops_of (linked_leaf N.SpaceOrTab None (span is_blank cs).0) ++ prefix_from (span is_blank cs).1
start-blank [] h = cc
start-blank (c ∷ cs) h =
    subst (λ (s : List Code × List Code). break_from AtStart (c ∷ cs) ≡ ops_of (linked_leaf N.SpaceOrTab None s.0) ++ prefix_from s.1) (sym (span-takes is_blank c cs h))
    (break-blank AtStart c cs (blank-not-ending c (is_line_ending c) refl h) h
    ∙ ap (λ os. Enter N.SpaceOrTab ∷ Consume ∷ os) (inside-blank cs ∙ sym (append_assoc (consumes (span is_blank cs).0) (Exit N.SpaceOrTab ∷ []) (prefix_from (span is_blank cs).1))))

-- Tests on the code at hand.

pub next-at : (p : ℕ → Bool) (T : Tokenizer) (c : ℕ) → current_of T ≡ Some c →
    next_is (λ (d : Code). p d.value) (ahead T) ≡ p c
next-at p T c e =
    let b : BeginsWithValue c (ahead T) = ahead-some T c e in ap (λ cs. next_is (λ (d : Code). p d.value) cs) b.whole ∙ ap p b.value

pub next-end : (p : ℕ → Bool) (T : Tokenizer) → current_of T ≡ None →
    next_is (λ (d : Code). p d.value) (ahead T) ≡ false
next-end p T e = ap (λ cs. next_is (λ (d : Code). p d.value) cs) (ahead-none T e)

-- The blank codes that are attempted.

solid-leaf : (cs : List Code) → IsSolid (linked_leaf N.SpaceOrTab None cs)
solid-leaf [] = tt
solid-leaf (c ∷ cs) = (refl, (λ e. cc, tt))

read_tree : Option (Forest × List Code) → Forest → Forest
read_tree None t = t
read_tree (Some r) t = r.0

read_rest : Option (Forest × List Code) → List Code
read_rest None = []
read_rest (Some r) = r.1

abbrev blank_tree : Tokenizer → Forest
blank_tree T = linked_leaf N.SpaceOrTab None (span is_blank (ahead T)).0

record HtmlSpaced (T U : Tokenizer) : Type 0 where
  left : U ≡ past None (blank_tree T) T
  passed : U ≡ done (ops_of (blank_tree T)) T
  after : ahead U ≡ (span is_blank (ahead T)).1
  fewer : codes_left U ≤ codes_left T

spaced : (T U : Tokenizer) → next_is is_blank (ahead T) ≡ true →
    space_or_tab N.SpaceOrTab None 1 most (ahead T) ≡ Some (blank_tree T, (span is_blank (ahead T)).1) →
    Reads (space_or_tab N.SpaceOrTab None 1 most) None T.tokenize_state T U → HtmlSpaced T U
unfolding read_tree read_rest
spaced T U h there k =
    let same = sym k.holds ∙ there in
    let tree : k.tree ≡ blank_tree T = ap (λ o. read_tree o (blank_tree T)) same in
    let rest : k.rest ≡ (span is_blank (ahead T)).1 = ap read_rest same in
    let left : U ≡ past None (blank_tree T) T = k.left ∙ ap (past None k.tree) (scratched-same T) ∙ ap (λ t. past None t T) tree in
    let whole : ahead T ≡ leaf_codes (blank_tree T) ++ k.rest = k.whole ∙ ap (λ t. leaf_codes t ++ k.rest) tree in
    record { left = left; passed = left ∙ sym (ops-past (blank_tree T) k.rest T (solid-leaf (span is_blank (ahead T)).0) whole); after = k.after ∙ rest; fewer = left-read (space_or_tab N.SpaceOrTab None 1 most) None T.tokenize_state T U k }

space-there : (T : Tokenizer) → HtmlAfterReady T → next_is is_blank (ahead T) ≡ true →
    space_or_tab N.SpaceOrTab None 1 most (ahead T) ≡ Some (blank_tree T, (span is_blank (ahead T)).1)
space-there T k h = space-all N.SpaceOrTab None most (ahead T) h (omega (arith, left-ahead T, k.spaces.short))

spaced-ready : (T U : Tokenizer) → HtmlAfterReady T → HtmlSpaced T U → HtmlAfterReady U
unfolding past
spaced-ready T U k s =
    let now : HtmlAfterReady (past None (blank_tree T) T) = record { stand_open = k.stand_open; spaces = record { resting = k.spaces.resting; short = omega (arith, k.spaces.short, s.fewer, ap (λ (x : Tokenizer). codes_left x) s.left) } } in
    subst (λ (x : Tokenizer). HtmlAfterReady x) (sym s.left) now

module _ (W : Words) (within : HasHtmlWords W) where
  -- After the blank codes at the start of a line.

  data-here : (T : Tokenizer) → T.attempts ≡ [] → next_is is_line_ending (ahead T) ≡ false →
      GoesIn W (weight_at 1 T) (line_ending_after_prefix_ends T) (data_entered T)
  data-here T alone h =
      Goes-end W (weight_at 1 T) (line_ending_after_prefix_ends T) true (done (Enter N.HtmlTextData ∷ []) T) (attempts-done (Enter N.HtmlTextData ∷ []) T ∙ alone) (omega arith)
      (λ ok U x. (x.0, x.1 ∙ ap (λ os. done os T) (sym (prefix-data (ahead T) h))))

  -- past a line ending, on to the start of the next line
  passed-on : (j : ℕ) (E : Bool → Tokenizer → Type 0) (os : List Op) (T : Tokenizer) → T.attempts ≡ [] → moves os ≡ 1 →
      1 ≤ length (ahead T) → HtmlAfterReady (done os T) →
      ((ok : Bool) (U : Tokenizer) → (ok ≡ true) × (U ≡ done (os ++ break_from AtStart (rest_of (ahead T))) T) → E ok U) →
      GoesIn W (weight_at j T) E (stepped (Next H.HtmlTextLineEndingAfter) (done os T))
  passed-on j E os T alone one more k closed =
      let V : Tokenizer = done os T in
      let rest : ahead V ≡ rest_of (ahead T) = ahead-done os T ∙ ap (λ n. drop n (ahead T)) one in
      Goes-ops W (weight_at j T) E (Next H.HtmlTextLineEndingAfter) within.after os T alone k
      (omega (arith, left-done os T (omega (arith, one, more)), one))
      (λ ok U x. let e = x in
      closed ok U (e.0, e.1 ∙ ap (λ cs. done (break_from AtStart cs) V) rest ∙ sym (done-append os (break_from AtStart (rest_of (ahead T))) T)))

  pub prefix-law : Law W line_ending_after_prefix_words
  prefix-law T alone k =
      let P : Stepped → Type 0 = GoesIn W (weight_at 1 T) (line_ending_after_prefix_ends T) in
      code-step P (current_of T) (λ o. line_ending_after_prefix_at o T)
      (λ e. data-here T alone (next-end (λ v. v == 10) T e))
      (λ c e.
      let b : BeginsWithValue c (ahead T) = ahead-some T c e in
      if-step P (c == 10) _ _
      (λ h. passed-on 1 (line_ending_after_prefix_ends T) ending_ops T alone refl (some-codes T c e) (ending-passed T (some-codes T c e) k)
      (λ ok U x. (x.0, x.1 ∙ ap (λ os. done os T) (sym (ap prefix_from b.whole ∙ prefix-ending b.code (rest_of (ahead T)) (ap (λ v. v == 10) b.value ∙ h))))))
      (λ h. data-here T alone (next-at (λ v. v == 10) T c e ∙ h)))

  -- At the start of a line.

  plain-here : (T : Tokenizer) → T.attempts ≡ [] → HtmlAfterReady T → next_is is_blank (ahead T) ≡ false →
      GoesIn W (weight_at 4 T) (line_ending_after_ends T) (stepped (Retry H.HtmlTextLineEndingAfterPrefix) T)
  plain-here T alone k h =
      Goes-plain W (weight_at 4 T) (line_ending_after_ends T) (Retry H.HtmlTextLineEndingAfterPrefix) within.prefix T alone k (omega arith)
      (λ ok U x. let e = x in (e.0, e.1 ∙ ap (λ os. done os T) (sym (start-plain (ahead T) h))))

  never-refused : (T U : Tokenizer) → HtmlAfterReady T → next_is is_blank (ahead T) ≡ true →
      EndsAs (space_or_tab N.SpaceOrTab None 1 most) None T.tokenize_state T false U → ⊥
  never-refused T U k h x = let no = sym (space-there T k h) ∙ x.refused in cc

  spaced-closed : (T U : Tokenizer) → next_is is_blank (ahead T) ≡ true → HtmlSpaced T U → (ok : Bool) (V : Tokenizer) →
      line_ending_after_prefix_ends U ok V → line_ending_after_ends T ok V
  spaced-closed T U h s ok V x = (
    x.0,
    x.1 ∙ ap (λ cs. done (prefix_from cs) U) s.after ∙ ap (λ (y : Tokenizer). done (prefix_from (span is_blank (ahead T)).1) y) s.passed
        ∙ sym (done-append (ops_of (blank_tree T)) (prefix_from (span is_blank (ahead T)).1) T) ∙ ap (λ os. done os T) (sym (start-blank (ahead T) h)),
  )

  pub after-law : Law W line_ending_after_words
  after-law T alone k =
      let n : ℕ = weight_at 4 T in
      let E : Bool → Tokenizer → Type 0 = line_ending_after_ends T in
      let P : Stepped → Type 0 = GoesIn W n E in
      let A : Tokenizer = scratched (blank_asked T.tokenize_state) T in
      code-step P (current_of T) (λ o. line_ending_after_at o T)
      (λ e. plain-here T alone k (next-end blank_value T e))
      (λ c e. if-step P (blank_value c) _ _
      (λ h. let there : next_is is_blank (ahead T) ≡ true = next-at blank_value T c e ∙ h in
      Goes-attempt W n E (Retry H.SpaceOrTabStart) within.space (Next H.HtmlTextLineEndingAfterPrefix) Nok A (attempts-scratched _ T ∙ alone)
      (asked-ready 1 most N.SpaceOrTab false None T k.spaces.resting (λ x. cc))
      (omega (arith, left-scratched (blank_asked T.tokenize_state) T))
      (λ U now x. let s : HtmlSpaced T U = spaced T U there (space-there T k there) (asked-ends 1 most N.SpaceOrTab false None T k.spaces.resting true U x) in
      follows W _ _ (Next H.HtmlTextLineEndingAfterPrefix) within.prefix U (spaced-ready T U k s) (omega (arith, s.fewer)) (λ ok V m. spaced-closed T U there s ok V m))
      (λ U now x. absurd (never-refused T U k there (asked-ends 1 most N.SpaceOrTab false None T k.spaces.resting false U x))))
      (λ h. plain-here T alone k (next-at blank_value T c e ∙ h)))

  -- At a line ending.

  pub before-law : Law W line_ending_before_words
  before-law T alone k =
      let b : BeginsWithValue 10 (ahead T) = ahead-some T 10 k.ending in
      let more : 1 ≤ length (ahead T) = some-codes T 10 k.ending in
      passed-on 1 (line_ending_before_ends T) (Exit N.HtmlTextData ∷ ending_ops) T alone refl more (before-passed T more k.inside)
      (λ ok U x. (x.0, x.1 ∙ ap (λ os. done os T) (sym (ap (break_from InLine) b.whole ∙ break-ending InLine b.code (rest_of (ahead T)) (ap (λ v. v == 10) b.value)))))
