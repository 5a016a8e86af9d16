-- The laws of the states of HTML in text.
use Rattle.std.proofs.Common.{◌≡◌, ℕ, zero, suc, ◌+◌, ◌<◌, ◌≤◌, ◌==◌, ◌&&◌, ◌||◌, not, Bool, true, false, Some, None, List, [], ◌∷◌, ◌++◌, length, drop, refl, sym, ap, subst, ◌∙◌, arith}
use Rattle.std.specs.Prelude.{codes}
use Rattle.std.proofs.lemmas.Bool.{eqb-true, or_from, or_parts, eq-eqb}
use Rattle.markdown_content.specs.Codes.{Code}
use Rattle.markdown_content.specs.ListFunctions.{rest_of}
use Rattle.markdown_engine.specs.Operations.{Op, Exit, Consume, current_of, ahead, applied, done, scratched}
use Rattle.markdown_engine.specs.StateRuns.{Stepped}
use Rattle.markdown_engine.specs.Weights.{weight_at}
use Rattle.markdown_event.specs.declared.event.Name.TheVariants as N
use Rattle.markdown_event.specs.declared.state.State.TheVariants.{Next}
use Rattle.markdown_event.specs.declared.state.StateName.TheVariants as H
use Rattle.markdown_engine.specs.declared.tokenizer.TokenizeState.{TokenizeState}
use Rattle.markdown_engine.specs.declared.tokenizer.Tokenizer.{Tokenizer}
use Rattle.markdown_engine.proofs.LawSteps.{code-step, if-step}
use Rattle.markdown_engine.proofs.OperationFields.{ahead-none, ahead-some, BeginsWithValue, some-codes}
use Rattle.markdown_engine.proofs.OperationLemmas.{scratch-done}
use Rattle.markdown_event.proofs.AndParts.{and-left, and-right}
use Rattle.markdown_model.specs.CodeTests.{is_value, next_is}
use Rattle.markdown_model.specs.Grammar.{Reading, with_first, word, word_of, through, ◌then_◌}
use Rattle.markdown_plan.specs.ByteTests.{letter_value, among_values}
use Rattle.markdown_plan.specs.Plan.{DoesAs}
use Rattle.markdown_plan.specs.ScratchFields.{with_size}
use Rattle.markdown_leaf_html.specs.HtmlLines.{InLine, break_from, text_from, text_of}
use Rattle.markdown_leaf_html.specs.HtmlTextRests.{HtmlPart, state_of, reading_of, Open, DeclarationOpen, CommentOpenInside, Comment, CommentClose, CommentEnd, Cdata, CdataClose, CdataEnd, Declaration, Instruction, InstructionClose, TagCloseStart, TagClose, TagCloseBetween, TagOpen, TagOpenBetween, AttributeName}
use Rattle.markdown_leaf_html.specs.HtmlTextRests.{AttributeNameAfter, ValueBefore, ValueQuotedAfter, ValueUnquoted, End, rank_of, tag_rest, tag_next, name_next, value_rest, quoted_rest, closing_between, marked, after_mark, after_two_marks, cdata_opening, instruction_after_one, declaration_rest}
use Rattle.markdown_leaf_html.specs.HtmlByteTests.{blank_value, whitespace_value, name_value, attribute_first_value, attribute_rest_value, after_value, unquoted_end_value, barred_value}
use Rattle.markdown_leaf_html.specs.HtmlText.{slashes_in, rested, with_marker, closing, past_code, prefix_value, cdata_passed, starts_no_value, quote_value, quote_passed, HtmlPartReady, CdataReady, QuotedReady, part_ends, quoted_ends, open_at, declaration_open_at, comment_open_inside_at, marked_at, after_mark_at}
use Rattle.markdown_leaf_html.specs.HtmlText.{after_two_marks_at, over_to, cdata_open_inside_at, cdata_open_inside_step, declaration_at, instruction_at, instruction_close_at, tag_close_start_at, tag_close_at, tag_close_between_at, tag_open_at, tag_open_between_at, tag_open_attribute_name_at, tag_open_attribute_name_after_at}
use Rattle.markdown_leaf_html.specs.HtmlText.{tag_open_attribute_value_before_at, tag_open_attribute_value_quoted_at, tag_open_attribute_value_quoted_step, tag_open_attribute_value_quoted_after_at, tag_open_attribute_value_unquoted_at, end_at, cdata_open_inside_words, tag_open_attribute_value_quoted_words, part_words}
use Rattle.markdown_leaf_html.proofs.HtmlLineBreaks.{PassesItsCodes}
use Rattle.markdown_leaf_html.proofs.HtmlLineLemmas.{from-data}
use Rattle.markdown_leaf_html.proofs.HtmlCodeReadings.{then-nothing, word-end, word-then, word-then-none, up-goes}
use Rattle.markdown_leaf_html.proofs.HtmlKindReadings.{end-here, end-none, marked-end, marked-on, marked-other, after-mark-on, after-mark-other, after-two-end, after-two-one, comment-inside-dash, comment-inside-none, declaration-goes, declaration-end, declaration-here, declaration-other, instruction-goes, instruction-end, instruction-mark}
use Rattle.markdown_leaf_html.proofs.HtmlKindReadings.{instruction-other, instruction-one-end, instruction-one-other, spaces-first, spaces-none, closing-goes, name-on, name-none, name-first, name-not, marked-none, marked-dash, marked-letter, marked-bracket, open-none, open-letter, open-slash, open-question, open-bang}
use Rattle.markdown_leaf_html.proofs.HtmlTagReadings.{among-each, rest-between, rest-refused, between-none, between-slash, between-first, name-rest-on, name-rest-end, name-after-equals, name-after-other, value-space, value-quote, value-end}
use Rattle.markdown_leaf_html.proofs.HtmlTagReadings.{value-none, value-plain, quoted-end, quoted-close, quoted-more, unquoted-more, unquoted-after, unquoted-none, between-goes, name-after-goes, value-goes, quoted-goes}
use Rattle.markdown_leaf_html.proofs.HtmlTextReady.{quoted-next, quoted-broken, quoted-opened, quoted-closed, cdata-opened, cdata-next, cdata-closed, part-next}
use Rattle.markdown_leaf_html.proofs.HtmlLineEndingLaws.{HasHtmlWords, next-at, next-end}
use Rattle.markdown_leaf_html.proofs.HtmlTextSteps.{slashes-done, text-next, not-ending, part-past, part-over, part-fails, text-broken, part-broken-on}
use Rattle.markdown_engine.specs.StateWords.{Words, Law, GoesIn}
use Rattle.markdown_plan.proofs.LawStepsOfLayer.{Goes-on, Goes-kept, Goes-yes, Goes-nok}

-- Tests.

-- of the code at hand
pub at : (p : ℕ → Bool) (T : Tokenizer) (c : ℕ) (e : current_of T ≡ Some c) → p (ahead-some T c e).code.value ≡ p c
at p T c e = ap p (ahead-some T c e).value

-- of a code of this value
pub is-so : (p : ℕ → Bool) (n : ℕ) (T : Tokenizer) (c : ℕ) (e : current_of T ≡ Some c) → (c == n) ≡ true →
    p (ahead-some T c e).code.value ≡ p n
is-so p n T c e h = ap p ((ahead-some T c e).value ∙ eqb-true c n h)

blank-whitespace : (v : ℕ) → blank_value v ≡ true → whitespace_value v ≡ true
blank-whitespace v e = ap (λ b. b || v == 10) e

or-cases : {X : Type 0} → (a b : Bool) → a || b ≡ true → (a ≡ true → X) → (b ≡ true → X) → X
or-cases true b e f g = f refl
or-cases false b e f g = g e

-- what holds of each code that may follow a value
after-each : (P : ℕ → Type 0) (v : ℕ) → after_value v ≡ true → P 32 → P 9 → P 10 → P 47 → P 62 → P v
after-each P v h space tab ending slash close =
    or-cases (whitespace_value v) _ h
    (λ e. or-cases (blank_value v) _ e (λ f. or-cases (v == 32) _ f (λ g. subst P (sym (eqb-true v 32 g)) space) (λ g. subst P (sym (eqb-true v 9 g)) tab)) (λ f. subst P (sym (eqb-true v 10 f)) ending))
    (λ e. among-each P v (codes "/>") e (slash, (close, tt)))

abbrev unquoted_value_test : Bool → ℕ → Bool
unquoted_value_test slashes v = not ((whitespace_value v || among_values (codes "\"'<=>`") v) || (v == 47 && not slashes))

unquoted-true : (slashes : Bool) (v : ℕ) → barred_value v ≡ false → after_value v ≡ false → unquoted_value_test slashes v ≡ true
unquoted-true slashes v h k =
    let single = (or_parts (v == 34) _ h).1 in
    let less = (or_parts (v == 39) _ single).1 in
    let equals = (or_parts (v == 60) _ less).1 in
    let tick = (or_parts (v == 61) _ equals).1 in
    let slash = (or_parts (whitespace_value v) _ k).1 in
    let close = (or_parts (v == 47) _ slash).1 in
    ap not (or_from (whitespace_value v || among_values (codes "\"'<=>`") v) (v == 47 && not slashes)
    (or_from (whitespace_value v) _ (or_parts (whitespace_value v) _ k).0
    (or_from (v == 34) _ (or_parts (v == 34) _ h).0
    (or_from (v == 39) _ (or_parts (v == 39) _ single).0
    (or_from (v == 60) _ (or_parts (v == 60) _ less).0
    (or_from (v == 61) _ (or_parts (v == 61) _ equals).0
    (or_from (v == 62) _ (or_parts (v == 62) _ close).0 tick))))))
    (ap (λ b. b && not slashes) (or_parts (v == 47) _ slash).0))

-- a code of an unquoted value, which is no line ending
abbrev IsUnquoted : Bool → ℕ → Type 0
IsUnquoted slashes v = (unquoted_value_test slashes v ≡ true) × ((v == 10) ≡ false)

-- a code that neither refuses the value nor ends it: one that may not follow a value, or a `/` that may stand in it
unquoted-on : (slashes : Bool) (v : ℕ) → barred_value v ≡ false → unquoted_end_value slashes v ≡ false → IsUnquoted slashes v
unquoted-on slashes v h k = by_test (after_value v) refl k
  where
    turned : (b : Bool) → not b ≡ false → b ≡ true
    turned true e = refl
    turned false e = cc

    by_test : (after : Bool) → after_value v ≡ after → after && not (v == 47 && slashes) ≡ false → IsUnquoted slashes v
    by_test false e f =
        (unquoted-true slashes v h e, (or_parts (blank_value v) _ (or_parts (whitespace_value v) _ e).0).1)
    by_test true e f =
        let both : v == 47 && slashes ≡ true = turned _ f in
        subst (λ n. IsUnquoted slashes n) (sym (eqb-true v 47 (and-left (v == 47) _ both))) (ap (λ b. unquoted_value_test b 47) (and-right (v == 47) _ both), refl)

-- a code that ends the value
unquoted-ends : (slashes : Bool) (v : ℕ) → unquoted_end_value slashes v ≡ true → (unquoted_value_test slashes v ≡ false) × (after_value v ≡ true)
unquoted-ends slashes v h =
    let follows : after_value v ≡ true = and-left (after_value v) _ h in
    (after-each (λ n. not (n == 47 && slashes) ≡ true → unquoted_value_test slashes n ≡ false) v follows (λ _. refl) (λ _. refl) (λ _. refl) (λ e. ap (λ b. not b) e) (λ _. refl) (and-right (after_value v) _ h), follows)

quote-plain : (v : ℕ) → quote_value v ≡ true → whitespace_value v ≡ false
quote-plain v h = among-each (λ n. whitespace_value n ≡ false) v (codes "\"'") h (refl, (refl, tt))

-- The opening of a CDATA section.

prefix-from : (n : ℕ) → n < 6 → drop n (codes "CDATA[") ≡ prefix_value n ∷ drop (n + 1) (codes "CDATA[")
prefix-from zero h = refl
prefix-from (suc zero) h = refl
prefix-from (suc (suc zero)) h = refl
prefix-from (suc (suc (suc zero))) h = refl
prefix-from (suc (suc (suc (suc zero)))) h = refl
prefix-from (suc (suc (suc (suc (suc zero))))) h = refl
prefix-from (suc (suc (suc (suc (suc (suc n)))))) h = absurd (omega arith)

prefix-plain : (n : ℕ) → n < 6 → (prefix_value n == 10) ≡ false
prefix-plain zero h = refl
prefix-plain (suc zero) h = refl
prefix-plain (suc (suc zero)) h = refl
prefix-plain (suc (suc (suc zero))) h = refl
prefix-plain (suc (suc (suc (suc zero)))) h = refl
prefix-plain (suc (suc (suc (suc (suc zero))))) h = refl
prefix-plain (suc (suc (suc (suc (suc (suc n)))))) h = absurd (omega arith)

prefix-on : (n : ℕ) → n < 6 → (c : Code) (cs : List Code) → is_value (prefix_value n) c ≡ true →
    cdata_opening n (c ∷ cs) ≡ with_first c (cdata_opening (n + 1) cs)
prefix-on n h c cs e =
    ap (λ ns. (word_of ns then_ through "]]>") (c ∷ cs)) (prefix-from n h) ∙ word-then (prefix_value n) (drop (n + 1) (codes "CDATA[")) (through "]]>") c cs e

prefix-none : (n : ℕ) → n < 6 → (cs : List Code) → next_is (is_value (prefix_value n)) cs ≡ false →
    cdata_opening n cs ≡ None
prefix-none n h cs e =
    ap (λ ns. (word_of ns then_ through "]]>") cs) (prefix-from n h) ∙ word-then-none (prefix_value n) (drop (n + 1) (codes "CDATA[")) (through "]]>") cs e

prefix-end : (n : ℕ) (cs : List Code) → n ≡ 6 → cdata_opening n cs ≡ marked 93 cs
unfolding through
prefix-end n cs e = ap (λ m. cdata_opening m cs) e ∙ then-nothing (word_of []) (through "]]>") cs (word-end cs)

not-bracket-by : (c : ℕ) (b : Bool) → (c == 91) ≡ b → letter_value c ≡ true → b ≡ false
not-bracket-by c false e h = refl
not-bracket-by c true e h = let no : true ≡ false = sym h ∙ ap letter_value (eqb-true c 91 e) in cc

pub not-bracket : (c : ℕ) → letter_value c ≡ true → (c == 91) ≡ false
not-bracket c h = not-bracket-by c (c == 91) refl h

abbrev Barred : Bool → ℕ → Type 0
Barred slashes v = (unquoted_value_test slashes v ≡ false) × (after_value v ≡ false)

barred-each : (slashes : Bool) (v : ℕ) → barred_value v ≡ true → Barred slashes v
barred-each slashes v h =
    among-each (Barred slashes) v (codes "\"'<=`") h ((refl, refl), ((refl, refl), ((refl, refl), ((refl, refl), ((refl, refl), tt)))))

less : (n : ℕ) → n < 6 → (n + 1 == 6) ≡ false → n + 1 < 6
less n h e = grind arith

-- what the end of a quoted value says after some operations
quoted-says : (os : List Op) (T : Tokenizer) → QuotedReady T → (ok : Bool) (U : Tokenizer) →
    quoted_ends (done os T) ok U →
    DoesAs 2 (text_of (quoted_rest (slashes_in T) T.tokenize_state.marker)) (with_marker 0 T.tokenize_state) (done os T) ok U
quoted-says os T r ok U x =
    subst (λ (q : TokenizeState). DoesAs 2 (text_of (quoted_rest (slashes_in T) T.tokenize_state.marker)) q (done os T) ok U) r.rest
    (subst (λ (q : TokenizeState). DoesAs 2 (text_of (quoted_rest (slashes_in T) q.marker)) (rested q) (done os T) ok U) (scratch-done os T)
    (subst (λ (b : Bool). DoesAs 2 (text_of (quoted_rest b (done os T).tokenize_state.marker)) (rested (done os T).tokenize_state) (done os T) ok U) (slashes-done os T) x))

-- Comments and CDATA sections end with a mark twice and a `>`: the states in one, after one mark, and after two.

record IsMarkedPart (mark : ℕ) (inside close end : HtmlPart) : Type 0 where
  pub inside_reads : (slashes : Bool) → reading_of slashes inside ≡ marked mark
  pub close_reads : (slashes : Bool) → reading_of slashes close ≡ after_mark mark
  pub end_reads : (slashes : Bool) → reading_of slashes end ≡ after_two_marks mark
  pub inside_rank : rank_of inside ≡ 2
  pub close_rank : rank_of close ≡ 3
  pub end_rank : rank_of end ≡ 4
  pub plain : (mark == 10) ≡ false
  pub blank : whitespace_value mark ≡ false

comments : IsMarkedPart 45 Comment CommentClose CommentEnd
comments = record { inside_reads = λ slashes. refl; close_reads = λ slashes. refl; end_reads = λ slashes. refl; inside_rank = refl; close_rank = refl; end_rank = refl; plain = refl; blank = refl }

sections : IsMarkedPart 93 Cdata CdataClose CdataEnd
sections = record { inside_reads = λ slashes. refl; close_reads = λ slashes. refl; end_reads = λ slashes. refl; inside_rank = refl; close_rank = refl; end_rank = refl; plain = refl; blank = refl }

read : {r q : Reading (List Code)} → r ≡ q → (cs : List Code) → r cs ≡ q cs
read e cs = ap (λ (f : Reading (List Code)). f cs) e

module _ (W : Words) (within : HasHtmlWords W) where
  pub open-law : Law W (part_words Open)
  open-law T alone r =
      let P : Stepped → Type 0 = GoesIn W (weight_at (rank_of Open) T) (part_ends Open T) in
      code-step P (current_of T) (λ o. open_at o T)
      (λ e. part-fails W within Open T alone (open-none (slashes_in T) (ahead T) (next-end letter_value T e) (next-end (λ v. v == 47) T e) (next-end (λ v. v == 33) T e) (next-end (λ v. v == 63) T e)))
      (λ c e.
      let b : BeginsWithValue c (ahead T) = ahead-some T c e in
      let rest : List Code = rest_of (ahead T) in
      if-step P (c == 33) _ _
      (λ h1. part-past W within Open DeclarationOpen T c alone r e (ap (λ v. v == 10) (eqb-true c 33 h1)) (open-bang (slashes_in T) b.code rest (is-so letter_value 33 T c e h1) (is-so (λ v. v == 47) 33 T c e h1) (is-so (λ v. v == 33) 33 T c e h1) (is-so (λ v. v == 63) 33 T c e h1)))
      (λ h1. if-step P (c == 47) _ _
      (λ h2. part-past W within Open TagCloseStart T c alone r e (ap (λ v. v == 10) (eqb-true c 47 h2)) (open-slash (slashes_in T) b.code rest (is-so letter_value 47 T c e h2) (is-so (λ v. v == 47) 47 T c e h2) (is-so (λ v. v == 33) 47 T c e h2) (is-so (λ v. v == 63) 47 T c e h2)))
      (λ h2. if-step P (c == 63) _ _
      (λ h3. part-past W within Open Instruction T c alone r e (ap (λ v. v == 10) (eqb-true c 63 h3)) (open-question (slashes_in T) b.code rest (is-so letter_value 63 T c e h3) (is-so (λ v. v == 47) 63 T c e h3) (is-so (λ v. v == 33) 63 T c e h3) (is-so (λ v. v == 63) 63 T c e h3)))
      (λ h3. if-step P (letter_value c) _ _
      (λ h4. part-past W within Open TagOpen T c alone r e (not-ending letter_value c h4 refl) (open-letter (slashes_in T) b.code rest (at letter_value T c e ∙ h4) (at (λ v. v == 47) T c e ∙ h2) (at (λ v. v == 33) T c e ∙ h1) (at (λ v. v == 63) T c e ∙ h3)))
      (λ h4. part-fails W within Open T alone (open-none (slashes_in T) (ahead T) (next-at letter_value T c e ∙ h4) (next-at (λ v. v == 47) T c e ∙ h2) (next-at (λ v. v == 33) T c e ∙ h1) (next-at (λ v. v == 63) T c e ∙ h3)))))))

  -- into the opening of a CDATA section
  cdata-entered : (T : Tokenizer) (c : ℕ) → T.attempts ≡ [] → HtmlPartReady T → (e : current_of T ≡ Some c) →
      (c == 91) ≡ true →
      GoesIn W (weight_at (rank_of DeclarationOpen) T) (part_ends DeclarationOpen T) (past_code H.HtmlTextCdataOpenInside T)
  cdata-entered T c alone r e h =
      let V : Tokenizer = done (Consume ∷ []) T in
      let more : 1 ≤ length (ahead T) = some-codes T c e in
      let next : HtmlPartReady V = part-next T more r in
      let size : V.tokenize_state.size ≡ 0 = ap (λ (s : TokenizeState). s.size) (sym next.rest) in
      Goes-kept W 2 2 (text_of declaration_rest) (text_of (cdata_opening 0)) (Consume ∷ []) T.tokenize_state T (Next H.HtmlTextCdataOpenInside) within.cdata alone refl more (omega arith)
      (text-next declaration_rest (cdata_opening 0) T c e (ap (λ v. v == 10) (eqb-true c 91 h)) (marked-bracket (ahead-some T c e).code (rest_of (ahead T)) (is-so (λ v. v == 45) 91 T c e h) (is-so letter_value 91 T c e h) (is-so (λ v. v == 91) 91 T c e h)))
      (cdata-opened V next)
      (λ ok U x. subst (λ (s : TokenizeState). DoesAs 2 (text_of (cdata_opening 0)) s V ok U) (next.rest ∙ scratch-done (Consume ∷ []) T)
      (subst (λ (n : ℕ). DoesAs 2 (text_of (cdata_opening n)) (rested V.tokenize_state) V ok U) size x))

  pub declaration_open-law : Law W (part_words DeclarationOpen)
  declaration_open-law T alone r =
      let P : Stepped → Type 0 = GoesIn W (weight_at (rank_of DeclarationOpen) T) (part_ends DeclarationOpen T) in
      code-step P (current_of T) (λ o. declaration_open_at o T)
      (λ e. part-fails W within DeclarationOpen T alone (marked-none (ahead T) (next-end (λ v. v == 45) T e) (next-end letter_value T e) (next-end (λ v. v == 91) T e)))
      (λ c e.
      let b : BeginsWithValue c (ahead T) = ahead-some T c e in
      let rest : List Code = rest_of (ahead T) in
      if-step P (c == 45) _ _
      (λ h1. part-past W within DeclarationOpen CommentOpenInside T c alone r e (ap (λ v. v == 10) (eqb-true c 45 h1)) (marked-dash b.code rest (is-so (λ v. v == 45) 45 T c e h1) (is-so letter_value 45 T c e h1) (is-so (λ v. v == 91) 45 T c e h1)))
      (λ h1. if-step P (letter_value c) _ _
      (λ h2. part-past W within DeclarationOpen Declaration T c alone r e (not-ending letter_value c h2 refl) (marked-letter b.code rest (at (λ v. v == 45) T c e ∙ h1) (at letter_value T c e ∙ h2) (at (λ v. v == 91) T c e ∙ not-bracket c h2)))
      (λ h2. if-step P (c == 91) _ _
      (λ h3. cdata-entered T c alone r e h3)
      (λ h3. part-fails W within DeclarationOpen T alone (marked-none (ahead T) (next-at (λ v. v == 45) T c e ∙ h1) (next-at letter_value T c e ∙ h2) (next-at (λ v. v == 91) T c e ∙ h3))))))

  pub comment_open_inside-law : Law W (part_words CommentOpenInside)
  comment_open_inside-law T alone r =
      let P : Stepped → Type 0 = GoesIn W (weight_at (rank_of CommentOpenInside) T) (part_ends CommentOpenInside T) in
      code-step P (current_of T) (λ o. comment_open_inside_at o T)
      (λ e. part-fails W within CommentOpenInside T alone (comment-inside-none (ahead T) (next-end (λ v. v == 45) T e)))
      (λ c e.
      let b : BeginsWithValue c (ahead T) = ahead-some T c e in
      let rest : List Code = rest_of (ahead T) in
      if-step P (c == 45) _ _
      (λ h. part-past W within CommentOpenInside CommentEnd T c alone r e (ap (λ v. v == 10) (eqb-true c 45 h)) (comment-inside-dash b.code rest (at (λ v. v == 45) T c e ∙ h)))
      (λ h. part-fails W within CommentOpenInside T alone (comment-inside-none (ahead T) (next-at (λ v. v == 45) T c e ∙ h))))

  -- In what ends with a mark twice and a `>`, after one mark, and after two.
  module _ (mark : ℕ) (inside close end : HtmlPart) (k : IsMarkedPart mark inside close end) where
    marked-law : (T : Tokenizer) → T.attempts ≡ [] → HtmlPartReady T →
        GoesIn W (weight_at (rank_of inside) T) (part_ends inside T) (marked_at mark (state_of inside) (state_of close) (current_of T) T)
    marked-law T alone r =
        let P : Stepped → Type 0 = GoesIn W (weight_at (rank_of inside) T) (part_ends inside T) in
        code-step P (current_of T) (λ o. marked_at mark (state_of inside) (state_of close) o T)
        (λ e. part-fails W within inside T alone (ap (reading_of (slashes_in T) inside) (ahead-none T e) ∙ read (k.inside_reads (slashes_in T)) [] ∙ marked-end mark))
        (λ c e.
        let b : BeginsWithValue c (ahead T) = ahead-some T c e in
        let rest : List Code = rest_of (ahead T) in
        if-step P (c == 10) _ _
        (λ h. part-broken-on W within inside T (omega (arith, k.inside_rank)) (subst PassesItsCodes (sym (k.inside_reads (slashes_in T))) (up-goes mark (mark ∷ 62 ∷ []) k.blank)) alone r (e ∙ ap (λ v. Some v) (eqb-true c 10 h)))
        (λ h. if-step P (c == mark) _ _
        (λ g. part-past W within inside close T c alone r e h (read (k.inside_reads (slashes_in T)) _ ∙ marked-on mark b.code rest (at (λ v. v == mark) T c e ∙ g) ∙ ap (with_first b.code) (sym (read (k.close_reads (slashes_in T)) rest))))
        (λ g. part-past W within inside inside T c alone r e h (read (k.inside_reads (slashes_in T)) _ ∙ marked-other mark b.code rest (at (λ v. v == mark) T c e ∙ g) ∙ ap (with_first b.code) (sym (read (k.inside_reads (slashes_in T)) rest))))))

    after_mark-law : (T : Tokenizer) → T.attempts ≡ [] → HtmlPartReady T →
        GoesIn W (weight_at (rank_of close) T) (part_ends close T) (after_mark_at mark (state_of inside) (state_of end) (current_of T) T)
    after_mark-law T alone r =
        let P : Stepped → Type 0 = GoesIn W (weight_at (rank_of close) T) (part_ends close T) in
        let over : next_is (is_value mark) (ahead T) ≡ false → P (over_to (state_of inside) T) = λ n. part-over W within close inside T alone r (omega (arith, k.inside_rank, k.close_rank)) (read (k.close_reads (slashes_in T)) _ ∙ after-mark-other mark (ahead T) n ∙ sym (read (k.inside_reads (slashes_in T)) _)) in
        code-step P (current_of T) (λ o. after_mark_at mark (state_of inside) (state_of end) o T)
        (λ e. over (next-end (λ v. v == mark) T e))
        (λ c e.
        let b : BeginsWithValue c (ahead T) = ahead-some T c e in
        let rest : List Code = rest_of (ahead T) in
        if-step P (c == mark) _ _
        (λ h. part-past W within close end T c alone r e (ap (λ v. v == 10) (eqb-true c mark h) ∙ k.plain) (read (k.close_reads (slashes_in T)) _ ∙ after-mark-on mark b.code rest (at (λ v. v == mark) T c e ∙ h) ∙ ap (with_first b.code) (sym (read (k.end_reads (slashes_in T)) rest))))
        (λ h. over (next-at (λ v. v == mark) T c e ∙ h)))

    after_two_marks-law : (T : Tokenizer) → T.attempts ≡ [] → HtmlPartReady T →
        GoesIn W (weight_at (rank_of end) T) (part_ends end T) (after_two_marks_at mark (state_of inside) (state_of close) (current_of T) T)
    after_two_marks-law T alone r =
        let P : Stepped → Type 0 = GoesIn W (weight_at (rank_of end) T) (part_ends end T) in
        let one : next_is (is_value 62) (ahead T) ≡ false → reading_of (slashes_in T) end (ahead T) ≡ after_mark mark (ahead T) = λ n. read (k.end_reads (slashes_in T)) _ ∙ after-two-one mark (ahead T) n in
        let over : next_is (is_value 62) (ahead T) ≡ false → next_is (is_value mark) (ahead T) ≡ false → P (over_to (state_of inside) T) = λ n m. part-over W within end inside T alone r (omega (arith, k.inside_rank, k.end_rank)) (one n ∙ after-mark-other mark (ahead T) m ∙ sym (read (k.inside_reads (slashes_in T)) _)) in
        code-step P (current_of T) (λ o. after_two_marks_at mark (state_of inside) (state_of close) o T)
        (λ e. over (next-end (λ v. v == 62) T e) (next-end (λ v. v == mark) T e))
        (λ c e.
        let b : BeginsWithValue c (ahead T) = ahead-some T c e in
        let rest : List Code = rest_of (ahead T) in
        if-step P (c == 62) _ _
        (λ h. part-over W within end End T alone r (omega (arith, k.end_rank)) (read (k.end_reads (slashes_in T)) _ ∙ ap (after_two_marks mark) b.whole ∙ after-two-end mark b.code rest (at (λ v. v == 62) T c e ∙ h) ∙ ap (word ">") (sym b.whole)))
        (λ h. if-step P (c == mark) _ _
        (λ g. part-over W within end close T alone r (omega (arith, k.close_rank, k.end_rank)) (one (next-at (λ v. v == 62) T c e ∙ h) ∙ sym (read (k.close_reads (slashes_in T)) _)))
        (λ g. over (next-at (λ v. v == 62) T c e ∙ h) (next-at (λ v. v == mark) T c e ∙ g))))

  pub comment-law : Law W (part_words Comment)
  comment-law = marked-law 45 Comment CommentClose CommentEnd comments

  pub comment_close-law : Law W (part_words CommentClose)
  comment_close-law = after_mark-law 45 Comment CommentClose CommentEnd comments

  pub comment_end-law : Law W (part_words CommentEnd)
  comment_end-law = after_two_marks-law 45 Comment CommentClose CommentEnd comments

  pub cdata-law : Law W (part_words Cdata)
  cdata-law = marked-law 93 Cdata CdataClose CdataEnd sections

  pub cdata_close-law : Law W (part_words CdataClose)
  cdata_close-law = after_mark-law 93 Cdata CdataClose CdataEnd sections

  pub cdata_end-law : Law W (part_words CdataEnd)
  cdata_end-law = after_two_marks-law 93 Cdata CdataClose CdataEnd sections

  pub declaration-law : Law W (part_words Declaration)
  declaration-law T alone r =
      let P : Stepped → Type 0 = GoesIn W (weight_at (rank_of Declaration) T) (part_ends Declaration T) in
      code-step P (current_of T) (λ o. declaration_at o T)
      (λ e. part-over W within Declaration End T alone r (omega arith) (ap (through ">") (ahead-none T e) ∙ declaration-end ∙ ap (word ">") (sym (ahead-none T e))))
      (λ c e.
      let b : BeginsWithValue c (ahead T) = ahead-some T c e in
      let rest : List Code = rest_of (ahead T) in
      if-step P (c == 62) _ _
      (λ h. part-over W within Declaration End T alone r (omega arith) (ap (through ">") b.whole ∙ declaration-here b.code rest (at (λ v. v == 62) T c e ∙ h) ∙ ap (word ">") (sym b.whole)))
      (λ h. if-step P (c == 10) _ _
      (λ g. part-broken-on W within Declaration T (omega arith) (declaration-goes) alone r (e ∙ ap (λ v. Some v) (eqb-true c 10 g)))
      (λ g. part-past W within Declaration Declaration T c alone r e (g) (declaration-other b.code rest (at (λ v. v == 62) T c e ∙ h)))))

  pub instruction-law : Law W (part_words Instruction)
  instruction-law T alone r =
      let P : Stepped → Type 0 = GoesIn W (weight_at (rank_of Instruction) T) (part_ends Instruction T) in
      code-step P (current_of T) (λ o. instruction_at o T)
      (λ e. part-fails W within Instruction T alone (ap (through "?>") (ahead-none T e) ∙ instruction-end))
      (λ c e.
      let b : BeginsWithValue c (ahead T) = ahead-some T c e in
      let rest : List Code = rest_of (ahead T) in
      if-step P (c == 10) _ _
      (λ h. part-broken-on W within Instruction T (omega arith) (instruction-goes) alone r (e ∙ ap (λ v. Some v) (eqb-true c 10 h)))
      (λ h. if-step P (c == 63) _ _
      (λ g. part-past W within Instruction InstructionClose T c alone r e (h) (instruction-mark b.code rest (at (λ v. v == 63) T c e ∙ g)))
      (λ g. part-past W within Instruction Instruction T c alone r e (h) (instruction-other b.code rest (at (λ v. v == 63) T c e ∙ g)))))

  pub instruction_close-law : Law W (part_words InstructionClose)
  instruction_close-law T alone r =
      let P : Stepped → Type 0 = GoesIn W (weight_at (rank_of InstructionClose) T) (part_ends InstructionClose T) in
      code-step P (current_of T) (λ o. instruction_close_at o T)
      (λ e. part-over W within InstructionClose Instruction T alone r (omega arith) (instruction-one-other (ahead T) (next-end (λ v. v == 62) T e)))
      (λ c e.
      let b : BeginsWithValue c (ahead T) = ahead-some T c e in
      let rest : List Code = rest_of (ahead T) in
      if-step P (c == 62) _ _
      (λ h. part-over W within InstructionClose End T alone r (omega arith) (ap instruction_after_one b.whole ∙ instruction-one-end b.code rest (at (λ v. v == 62) T c e ∙ h) ∙ ap (word ">") (sym b.whole)))
      (λ h. part-over W within InstructionClose Instruction T alone r (omega arith) (instruction-one-other (ahead T) (next-at (λ v. v == 62) T c e ∙ h))))

  pub tag_close_start-law : Law W (part_words TagCloseStart)
  tag_close_start-law T alone r =
      let P : Stepped → Type 0 = GoesIn W (weight_at (rank_of TagCloseStart) T) (part_ends TagCloseStart T) in
      code-step P (current_of T) (λ o. tag_close_start_at o T)
      (λ e. part-fails W within TagCloseStart T alone (name-not closing_between (ahead T) (next-end letter_value T e)))
      (λ c e.
      let b : BeginsWithValue c (ahead T) = ahead-some T c e in
      let rest : List Code = rest_of (ahead T) in
      if-step P (letter_value c) _ _
      (λ h. part-past W within TagCloseStart TagClose T c alone r e (not-ending letter_value c h refl) (name-first closing_between b.code rest (at letter_value T c e ∙ h)))
      (λ h. part-fails W within TagCloseStart T alone (name-not closing_between (ahead T) (next-at letter_value T c e ∙ h))))

  pub tag_close-law : Law W (part_words TagClose)
  tag_close-law T alone r =
      let P : Stepped → Type 0 = GoesIn W (weight_at (rank_of TagClose) T) (part_ends TagClose T) in
      code-step P (current_of T) (λ o. tag_close_at o T)
      (λ e. part-over W within TagClose TagCloseBetween T alone r (omega arith) (name-none closing_between (ahead T) (next-end name_value T e)))
      (λ c e.
      let b : BeginsWithValue c (ahead T) = ahead-some T c e in
      let rest : List Code = rest_of (ahead T) in
      if-step P (name_value c) _ _
      (λ h. part-past W within TagClose TagClose T c alone r e (not-ending name_value c h refl) (name-on closing_between b.code rest (at name_value T c e ∙ h)))
      (λ h. part-over W within TagClose TagCloseBetween T alone r (omega arith) (name-none closing_between (ahead T) (next-at name_value T c e ∙ h))))

  pub tag_close_between-law : Law W (part_words TagCloseBetween)
  tag_close_between-law T alone r =
      let P : Stepped → Type 0 = GoesIn W (weight_at (rank_of TagCloseBetween) T) (part_ends TagCloseBetween T) in
      code-step P (current_of T) (λ o. tag_close_between_at o T)
      (λ e. part-over W within TagCloseBetween End T alone r (omega arith) (spaces-none (word ">") (ahead T) (next-end whitespace_value T e)))
      (λ c e.
      let b : BeginsWithValue c (ahead T) = ahead-some T c e in
      let rest : List Code = rest_of (ahead T) in
      if-step P (c == 10) _ _
      (λ h. part-broken-on W within TagCloseBetween T (omega arith) (closing-goes) alone r (e ∙ ap (λ v. Some v) (eqb-true c 10 h)))
      (λ h. if-step P (blank_value c) _ _
      (λ g. part-past W within TagCloseBetween TagCloseBetween T c alone r e (h) (spaces-first (word ">") b.code rest (at whitespace_value T c e ∙ blank-whitespace c g)))
      (λ g. part-over W within TagCloseBetween End T alone r (omega arith) (spaces-none (word ">") (ahead T) (next-at whitespace_value T c e ∙ or_from (blank_value c) _ g h)))))

  pub tag_open-law : Law W (part_words TagOpen)
  tag_open-law T alone r =
      let P : Stepped → Type 0 = GoesIn W (weight_at (rank_of TagOpen) T) (part_ends TagOpen T) in
      code-step P (current_of T) (λ o. tag_open_at o T)
      (λ e. part-fails W within TagOpen T alone (name-none (tag_rest (slashes_in T)) (ahead T) (next-end name_value T e) ∙ (rest-refused (slashes_in T)) (ahead T) (next-end whitespace_value T e) (next-end (λ v. v == 47) T e) (next-end (λ v. v == 62) T e)))
      (λ c e.
      let b : BeginsWithValue c (ahead T) = ahead-some T c e in
      let rest : List Code = rest_of (ahead T) in
      if-step P (after_value c) _ _
      (λ g. part-over W within TagOpen TagOpenBetween T alone r (omega arith) (name-none (tag_rest (slashes_in T)) (ahead T) (next-at name_value T c e ∙ after-each (λ v. name_value v ≡ false) c g refl refl refl refl refl) ∙ (rest-between (slashes_in T)) (ahead T) (next-at attribute_first_value T c e ∙ after-each (λ v. attribute_first_value v ≡ false) c g refl refl refl refl refl)))
      (λ g. if-step P (name_value c) _ _
      (λ h. part-past W within TagOpen TagOpen T c alone r e (not-ending name_value c h refl) (name-on (tag_rest (slashes_in T)) b.code rest (at name_value T c e ∙ h)))
      (λ h. part-fails W within TagOpen T alone (name-none (tag_rest (slashes_in T)) (ahead T) (next-at name_value T c e ∙ h) ∙ (rest-refused (slashes_in T)) (ahead T) (next-at whitespace_value T c e ∙ (or_parts (whitespace_value c) _ g).0) (next-at (λ v. v == 47) T c e ∙ (or_parts (c == 47) _ (or_parts (whitespace_value c) _ g).1).0) (next-at (λ v. v == 62) T c e ∙ (or_parts (c == 62) _ (or_parts (c == 47) _ (or_parts (whitespace_value c) _ g).1).1).0)))))

  pub tag_open_between-law : Law W (part_words TagOpenBetween)
  tag_open_between-law T alone r =
      let P : Stepped → Type 0 = GoesIn W (weight_at (rank_of TagOpenBetween) T) (part_ends TagOpenBetween T) in
      code-step P (current_of T) (λ o. tag_open_between_at o T)
      (λ e. part-over W within TagOpenBetween End T alone r (omega arith) (between-none (slashes_in T) (ahead T) (next-end whitespace_value T e) (next-end attribute_first_value T e) (next-end (λ v. v == 47) T e)))
      (λ c e.
      let b : BeginsWithValue c (ahead T) = ahead-some T c e in
      let rest : List Code = rest_of (ahead T) in
      if-step P (c == 10) _ _
      (λ h. part-broken-on W within TagOpenBetween T (omega arith) (between-goes (slashes_in T)) alone r (e ∙ ap (λ v. Some v) (eqb-true c 10 h)))
      (λ h. if-step P (blank_value c) _ _
      (λ g. part-past W within TagOpenBetween TagOpenBetween T c alone r e (h) (spaces-first (tag_next (slashes_in T)) b.code rest (at whitespace_value T c e ∙ blank-whitespace c g)))
      (λ g. if-step P (c == 47) _ _
      (λ i. part-past W within TagOpenBetween End T c alone r e (h) (between-slash (slashes_in T) b.code rest (at (λ v. v == 47) T c e ∙ i)))
      (λ i. if-step P (attribute_first_value c) _ _
      (λ j. part-past W within TagOpenBetween AttributeName T c alone r e (h) (between-first (slashes_in T) b.code rest (at whitespace_value T c e ∙ or_from (blank_value c) _ g h) (at attribute_first_value T c e ∙ j)))
      (λ j. part-over W within TagOpenBetween End T alone r (omega arith) (between-none (slashes_in T) (ahead T) (next-at whitespace_value T c e ∙ or_from (blank_value c) _ g h) (next-at attribute_first_value T c e ∙ j) (next-at (λ v. v == 47) T c e ∙ i)))))))

  pub tag_open_attribute_name-law : Law W (part_words AttributeName)
  tag_open_attribute_name-law T alone r =
      let P : Stepped → Type 0 = GoesIn W (weight_at (rank_of AttributeName) T) (part_ends AttributeName T) in
      code-step P (current_of T) (λ o. tag_open_attribute_name_at o T)
      (λ e. part-over W within AttributeName AttributeNameAfter T alone r (omega arith) (name-rest-end (slashes_in T) (ahead T) (next-end attribute_rest_value T e)))
      (λ c e.
      let b : BeginsWithValue c (ahead T) = ahead-some T c e in
      let rest : List Code = rest_of (ahead T) in
      if-step P (attribute_rest_value c) _ _
      (λ h. part-past W within AttributeName AttributeName T c alone r e (not-ending attribute_rest_value c h refl) (name-rest-on (slashes_in T) b.code rest (at attribute_rest_value T c e ∙ h)))
      (λ h. part-over W within AttributeName AttributeNameAfter T alone r (omega arith) (name-rest-end (slashes_in T) (ahead T) (next-at attribute_rest_value T c e ∙ h))))

  pub tag_open_attribute_name_after-law : Law W (part_words AttributeNameAfter)
  tag_open_attribute_name_after-law T alone r =
      let P : Stepped → Type 0 = GoesIn W (weight_at (rank_of AttributeNameAfter) T) (part_ends AttributeNameAfter T) in
      code-step P (current_of T) (λ o. tag_open_attribute_name_after_at o T)
      (λ e. part-over W within AttributeNameAfter TagOpenBetween T alone r (omega arith) (name-after-other (slashes_in T) (ahead T) (next-end whitespace_value T e) (next-end (λ v. v == 61) T e)))
      (λ c e.
      let b : BeginsWithValue c (ahead T) = ahead-some T c e in
      let rest : List Code = rest_of (ahead T) in
      if-step P (c == 10) _ _
      (λ h. part-broken-on W within AttributeNameAfter T (omega arith) (name-after-goes (slashes_in T)) alone r (e ∙ ap (λ v. Some v) (eqb-true c 10 h)))
      (λ h. if-step P (blank_value c) _ _
      (λ g. part-past W within AttributeNameAfter AttributeNameAfter T c alone r e (h) (spaces-first (name_next (slashes_in T)) b.code rest (at whitespace_value T c e ∙ blank-whitespace c g)))
      (λ g. if-step P (c == 61) _ _
      (λ i. part-past W within AttributeNameAfter ValueBefore T c alone r e (h) (name-after-equals (slashes_in T) b.code rest (at (λ v. v == 61) T c e ∙ i)))
      (λ i. part-over W within AttributeNameAfter TagOpenBetween T alone r (omega arith) (name-after-other (slashes_in T) (ahead T) (next-at whitespace_value T c e ∙ or_from (blank_value c) _ g h) (next-at (λ v. v == 61) T c e ∙ i))))))

  -- into a quoted value
  quote-entered : (T : Tokenizer) (c : ℕ) → T.attempts ≡ [] → HtmlPartReady T → (e : current_of T ≡ Some c) →
      (c == 10) ≡ false → quote_value c ≡ true →
      GoesIn W (weight_at (rank_of ValueBefore) T) (part_ends ValueBefore T) (quote_passed c T)
  unfolding scratched applied
  quote-entered T c alone r e h k =
      let s : TokenizeState = T.tokenize_state in
      let b : BeginsWithValue c (ahead T) = ahead-some T c e in
      let more : 1 ≤ length (ahead T) = some-codes T c e in
      Goes-on W 2 2 (text_of (value_rest (slashes_in T))) (text_of (quoted_rest (slashes_in T) c)) (Consume ∷ []) s (with_marker c s) T (Next H.HtmlTextTagOpenAttributeValueQuoted) within.quoted alone refl more (omega arith)
      (text-next (value_rest (slashes_in T)) (quoted_rest (slashes_in T) c) T c e h (value-quote (slashes_in T) c b.code (rest_of (ahead T)) k (at (λ v. v == c) T c e ∙ eq-eqb c c refl)))
      (quoted-opened c T more (quote-plain c k) r)
      (λ ok U x. subst (λ (q : TokenizeState). DoesAs 2 (text_of (quoted_rest (slashes_in T) c)) q (scratched (with_marker c s) (done (Consume ∷ []) T)) ok U) r.rest x)

  pub tag_open_attribute_value_before-law : Law W (part_words ValueBefore)
  tag_open_attribute_value_before-law T alone r =
      let P : Stepped → Type 0 = GoesIn W (weight_at (rank_of ValueBefore) T) (part_ends ValueBefore T) in
      code-step P (current_of T) (λ o. tag_open_attribute_value_before_at o T)
      (λ e. part-fails W within ValueBefore T alone (ap (value_rest (slashes_in T)) (ahead-none T e) ∙ (value-end (slashes_in T))))
      (λ c e.
      let b : BeginsWithValue c (ahead T) = ahead-some T c e in
      let rest : List Code = rest_of (ahead T) in
      if-step P (starts_no_value c) _ _
      (λ h0. part-fails W within ValueBefore T alone (ap (value_rest (slashes_in T)) b.whole ∙ (value-none (slashes_in T)) b.code rest (at starts_no_value T c e ∙ h0)))
      (λ h0. if-step P (c == 10) _ _
      (λ h. part-broken-on W within ValueBefore T (omega arith) (value-goes (slashes_in T)) alone r (e ∙ ap (λ v. Some v) (eqb-true c 10 h)))
      (λ h. if-step P (blank_value c) _ _
      (λ g. part-past W within ValueBefore ValueBefore T c alone r e (h) (value-space (slashes_in T) b.code rest (at whitespace_value T c e ∙ blank-whitespace c g)))
      (λ g. if-step P (quote_value c) _ _
      (λ i. quote-entered T c alone r e h i)
      (λ i. part-past W within ValueBefore ValueUnquoted T c alone r e (h) (value-plain (slashes_in T) b.code rest (at whitespace_value T c e ∙ or_from (blank_value c) _ g h) (at quote_value T c e ∙ i) (at starts_no_value T c e ∙ h0)))))))

  pub tag_open_attribute_value_quoted_after-law : Law W (part_words ValueQuotedAfter)
  tag_open_attribute_value_quoted_after-law T alone r =
      let P : Stepped → Type 0 = GoesIn W (weight_at (rank_of ValueQuotedAfter) T) (part_ends ValueQuotedAfter T) in
      code-step P (current_of T) (λ o. tag_open_attribute_value_quoted_after_at o T)
      (λ e. part-fails W within ValueQuotedAfter T alone (rest-refused (slashes_in T) (ahead T) (next-end whitespace_value T e) (next-end (λ v. v == 47) T e) (next-end (λ v. v == 62) T e)))
      (λ c e.
      let b : BeginsWithValue c (ahead T) = ahead-some T c e in
      let rest : List Code = rest_of (ahead T) in
      if-step P (after_value c) _ _
      (λ h. part-over W within ValueQuotedAfter TagOpenBetween T alone r (omega arith) (rest-between (slashes_in T) (ahead T) (next-at attribute_first_value T c e ∙ after-each (λ v. attribute_first_value v ≡ false) c h refl refl refl refl refl)))
      (λ h. part-fails W within ValueQuotedAfter T alone (rest-refused (slashes_in T) (ahead T) (next-at whitespace_value T c e ∙ (or_parts (whitespace_value c) _ h).0) (next-at (λ v. v == 47) T c e ∙ (or_parts (c == 47) _ (or_parts (whitespace_value c) _ h).1).0) (next-at (λ v. v == 62) T c e ∙ (or_parts (c == 62) _ (or_parts (c == 47) _ (or_parts (whitespace_value c) _ h).1).1).0))))

  pub tag_open_attribute_value_unquoted-law : Law W (part_words ValueUnquoted)
  tag_open_attribute_value_unquoted-law T alone r =
      let P : Stepped → Type 0 = GoesIn W (weight_at (rank_of ValueUnquoted) T) (part_ends ValueUnquoted T) in
      code-step P (current_of T) (λ o. tag_open_attribute_value_unquoted_at o T)
      (λ e. part-fails W within ValueUnquoted T alone (unquoted-none (slashes_in T) (ahead T) (next-end (unquoted_value_test (slashes_in T)) T e) (next-end after_value T e)))
      (λ c e.
      let b : BeginsWithValue c (ahead T) = ahead-some T c e in
      let rest : List Code = rest_of (ahead T) in
      if-step P (barred_value c) _ _
      (λ h. let barred : Barred (slashes_in T) c = barred-each (slashes_in T) c h in
      part-fails W within ValueUnquoted T alone (unquoted-none (slashes_in T) (ahead T) (next-at (unquoted_value_test (slashes_in T)) T c e ∙ barred.0) (next-at after_value T c e ∙ barred.1)))
      (λ h. if-step P (unquoted_end_value (slashes_in T) c) _ _
      (λ g. let ends = unquoted-ends (slashes_in T) c g in
      part-over W within ValueUnquoted TagOpenBetween T alone r (omega arith) (unquoted-after (slashes_in T) (ahead T) (next-at (unquoted_value_test (slashes_in T)) T c e ∙ ends.0) (next-at after_value T c e ∙ ends.1) ∙ rest-between (slashes_in T) (ahead T) (next-at attribute_first_value T c e ∙ after-each (λ v. attribute_first_value v ≡ false) c ends.1 refl refl refl refl refl)))
      (λ g. let more : IsUnquoted (slashes_in T) c = unquoted-on (slashes_in T) c h g in
      part-past W within ValueUnquoted ValueUnquoted T c alone r e more.1 (unquoted-more (slashes_in T) b.code rest (at (unquoted_value_test (slashes_in T)) T c e ∙ more.0)))))

  -- The end.

  pub end-law : Law W (part_words End)
  end-law T alone r =
      let P : Stepped → Type 0 = GoesIn W (weight_at (rank_of End) T) (part_ends End T) in
      code-step P (current_of T) (λ o. end_at o T)
      (λ e. part-fails W within End T alone (end-none (ahead T) (next-end (λ v. v == 62) T e)))
      (λ c e.
      let b : BeginsWithValue c (ahead T) = ahead-some T c e in
      if-step P (c == 62) _ _
      (λ h. Goes-yes W 1 2 (text_of (word ">")) closing T alone
      (ap (text_of (word ">")) b.whole ∙ ap (text_from InLine) (end-here b.code (rest_of (ahead T)) (at (λ v. v == 62) T c e ∙ h))
      ∙ ap (λ os. Some (os ++ Exit N.HtmlText ∷ [])) (from-data InLine b.code [] (is-so (λ v. v == 10) 62 T c e h) refl)))
      (λ h. part-fails W within End T alone (end-none (ahead T) (next-at (λ v. v == 62) T c e ∙ h))))

  -- The opening of a CDATA section.

  cdata-passed : (T : Tokenizer) (c : ℕ) → T.attempts ≡ [] → CdataReady T → (e : current_of T ≡ Some c) →
      (c == prefix_value T.tokenize_state.size) ≡ true →
      GoesIn W (weight_at 2 T) (DoesAs 2 (text_of (cdata_opening T.tokenize_state.size)) (with_size 0 T.tokenize_state) T) (cdata_passed T.tokenize_state.size T)
  unfolding scratched applied
  cdata-passed T c alone r e h =
      let s : TokenizeState = T.tokenize_state in
      let n : ℕ = s.size in
      let b : BeginsWithValue c (ahead T) = ahead-some T c e in
      let rest : List Code = rest_of (ahead T) in
      let more : 1 ≤ length (ahead T) = some-codes T c e in
      let plain : (c == 10) ≡ false = ap (λ v. v == 10) (eqb-true c (prefix_value n) h) ∙ prefix-plain n r.size in
      let on : cdata_opening n (b.code ∷ rest) ≡ with_first b.code (cdata_opening (n + 1) rest) = prefix-on n r.size b.code rest (at (λ v. v == prefix_value n) T c e ∙ h) in
      let P : Stepped → Type 0 = GoesIn W (weight_at 2 T) (DoesAs 2 (text_of (cdata_opening n)) (with_size 0 s) T) in
      if-step P (n + 1 == 6) _ _
      (λ g. Goes-on W 2 2 (text_of (cdata_opening n)) (text_of (marked 93)) (Consume ∷ []) (with_size 0 s) (with_size 0 s) T (Next H.HtmlTextCdata) (within.parts Cdata) alone refl more (omega arith)
      (text-next (cdata_opening n) (marked 93) T c e plain (on ∙ ap (with_first b.code) (prefix-end (n + 1) rest (eqb-true (n + 1) 6 g))))
      (cdata-closed T more r)
      (λ ok U x. x))
      (λ g. Goes-on W 2 2 (text_of (cdata_opening n)) (text_of (cdata_opening (n + 1))) (Consume ∷ []) (with_size 0 s) (with_size (n + 1) s) T (Next H.HtmlTextCdataOpenInside) within.cdata alone refl more (omega arith)
      (text-next (cdata_opening n) (cdata_opening (n + 1)) T c e plain on)
      (cdata-next T more (less n r.size g) r)
      (λ ok U x. subst (λ (q : TokenizeState). DoesAs 2 (text_of (cdata_opening (n + 1))) q (scratched (with_size (n + 1) s) (done (Consume ∷ []) T)) ok U) r.rest x))

  pub cdata_open_inside-law : Law W cdata_open_inside_words
  cdata_open_inside-law T alone r =
      let s : TokenizeState = T.tokenize_state in
      let n : ℕ = s.size in
      let E : Bool → Tokenizer → Type 0 = DoesAs 2 (text_of (cdata_opening n)) (with_size 0 s) T in
      let P : Stepped → Type 0 = GoesIn W (weight_at 2 T) E in
      subst (λ (q : TokenizeState). GoesIn W (weight_at 2 T) (DoesAs 2 (text_of (cdata_opening n)) q T) (cdata_open_inside_step T)) (sym r.rest)
      (code-step P (current_of T) (λ o. cdata_open_inside_at o T)
      (λ e. Goes-nok W 2 2 (text_of (cdata_opening n)) (with_size 0 s) T alone (ap (text_from InLine) (prefix-none n r.size (ahead T) (next-end (λ v. v == prefix_value n) T e))))
      (λ c e. if-step P (c == prefix_value n) _ _
      (λ h. cdata-passed T c alone r e h)
      (λ h. Goes-nok W 2 2 (text_of (cdata_opening n)) (with_size 0 s) T alone (ap (text_from InLine) (prefix-none n r.size (ahead T) (next-at (λ v. v == prefix_value n) T c e ∙ h))))))

  -- Quoted values.

  quoted-ended : (T : Tokenizer) (c : ℕ) → T.attempts ≡ [] → QuotedReady T → (e : current_of T ≡ Some c) →
      (c == T.tokenize_state.marker) ≡ true →
      GoesIn W (weight_at 2 T) (DoesAs 2 (text_of (quoted_rest (slashes_in T) T.tokenize_state.marker)) (with_marker 0 T.tokenize_state) T) (record { state = Next H.HtmlTextTagOpenAttributeValueQuotedAfter; left = scratched (with_marker 0 T.tokenize_state) (done (Consume ∷ []) T) })
  unfolding scratched applied
  quoted-ended T c alone r e h =
      let s : TokenizeState = T.tokenize_state in
      let m : ℕ = s.marker in
      let b : BeginsWithValue c (ahead T) = ahead-some T c e in
      let more : 1 ≤ length (ahead T) = some-codes T c e in
      Goes-on W 2 2 (text_of (quoted_rest (slashes_in T) m)) (text_of (tag_rest (slashes_in T))) (Consume ∷ []) (with_marker 0 s) (with_marker 0 s) T (Next H.HtmlTextTagOpenAttributeValueQuotedAfter) (within.parts ValueQuotedAfter) alone refl more (omega arith)
      (text-next (quoted_rest (slashes_in T) m) (tag_rest (slashes_in T)) T c e (ap (λ v. v == 10) (eqb-true c m h) ∙ (or_parts (blank_value m) _ r.quote).1) (quoted-close (slashes_in T) m b.code (rest_of (ahead T)) (at (λ v. v == m) T c e ∙ h)))
      (quoted-closed T more r)
      (λ ok U x. x)

  pub tag_open_attribute_value_quoted-law : Law W tag_open_attribute_value_quoted_words
  unfolding applied
  tag_open_attribute_value_quoted-law T alone r =
      let s : TokenizeState = T.tokenize_state in
      let m : ℕ = s.marker in
      let E : Bool → Tokenizer → Type 0 = DoesAs 2 (text_of (quoted_rest (slashes_in T) m)) (with_marker 0 s) T in
      let P : Stepped → Type 0 = GoesIn W (weight_at 2 T) E in
      subst (λ (q : TokenizeState). GoesIn W (weight_at 2 T) (DoesAs 2 (text_of (quoted_rest (slashes_in T) m)) q T) (tag_open_attribute_value_quoted_step T)) (sym r.rest)
      (code-step P (current_of T) (λ o. tag_open_attribute_value_quoted_at o T)
      (λ e. Goes-nok W 2 2 (text_of (quoted_rest (slashes_in T) m)) (with_marker 0 s) T alone (ap (text_from InLine) (ap (quoted_rest (slashes_in T) m) (ahead-none T e) ∙ (quoted-end (slashes_in T)) m)))
      (λ c e.
      let b : BeginsWithValue c (ahead T) = ahead-some T c e in
      let more : 1 ≤ length (ahead T) = some-codes T c e in
      if-step P (c == m) _ _
      (λ h. quoted-ended T c alone r e h)
      (λ h. if-step P (c == 10) _ _
      (λ g. text-broken W within 2 (quoted_rest (slashes_in T) m) (with_marker 0 s) H.HtmlTextTagOpenAttributeValueQuoted within.quoted T (omega arith) (omega arith) refl (quoted-goes (slashes_in T) m r.quote) alone r.inside (e ∙ ap (λ v. Some v) (eqb-true c 10 g))
      (quoted-broken T r)
      (λ ok U x. quoted-says (break_from InLine (ahead T)) T r ok U x))
      (λ g. Goes-kept W 2 2 (text_of (quoted_rest (slashes_in T) m)) (text_of (quoted_rest (slashes_in T) m)) (Consume ∷ []) (with_marker 0 s) T (Next H.HtmlTextTagOpenAttributeValueQuoted) within.quoted alone refl more (omega arith)
      (text-next (quoted_rest (slashes_in T) m) (quoted_rest (slashes_in T) m) T c e g (quoted-more (slashes_in T) m b.code (rest_of (ahead T)) (at (λ v. v == m) T c e ∙ h)))
      (quoted-next T more r)
      (λ ok U x. quoted-says (Consume ∷ []) T r ok U x)))))
