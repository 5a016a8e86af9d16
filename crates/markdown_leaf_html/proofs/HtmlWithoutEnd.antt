-- Where the sequence does not begin that ends a kind of HTML, none of that kind is read.
use Rattle.std.proofs.Common.{◌≡◌, ◌==◌, ◌&&◌, Bool, true, false, if◌then◌else◌, Option, Some, None, ℕ, List, [], ◌∷◌, refl, sym, ap, subst, ◌∙◌}
use Rattle.std.specs.Prelude.{codes}
use Rattle.markdown_content.specs.Codes.{Code}
use Rattle.markdown_content.specs.ListFunctions.{rest_of}
use Rattle.markdown_engine.specs.Operations.{ahead, current_of}
use Rattle.markdown_content.specs.Place.{ahead_at, code_at, moved}
use Rattle.markdown_content.proofs.PlaceRules.{ahead-moved}
use Rattle.markdown_notes.specs.SequenceIndex.{stand_next, begins_at, last_where}
use Rattle.markdown_notes.specs.declared.sequence_index.Sequence.{Sequence}
use Rattle.markdown_notes.specs.declared.sequence_index.Sequence.TheVariants.{CommentEnd, SectionEnd, InstructionEnd, DeclarationEnd}
use Rattle.markdown_engine.specs.declared.tokenizer.Tokenizer.{Tokenizer}
use Rattle.markdown_engine.proofs.OperationFields.{ahead-some, BeginsWithValue}
use Rattle.markdown_notes.proofs.RunIndexFacts.{later-none}
use Rattle.markdown_notes.proofs.SequenceIndexLemmas.{ruled-out}
use Rattle.markdown_model.specs.CodeTests.{is_value, next_is}
use Rattle.markdown_model.specs.Grammar.{with_first, word, word_of, up_to_word, through, ◌then_◌}
use Rattle.markdown_plan.specs.ByteTests.{letter_value}
use Rattle.markdown_plan.specs.Plan.{plan_of, preceded}
use Rattle.markdown_plan.proofs.PlanSteps.{none-read}
use Rattle.markdown_leaf_html.specs.HtmlLines.{InLine, text_from}
use Rattle.markdown_leaf_html.specs.HtmlText.{KnowsSequences, ending_at, html_here, is_absent, is_on, is_ruled_out, marked_ending, opening, slashes_in}
use Rattle.markdown_leaf_html.specs.HtmlTextRests.{comment_inside, cdata_opening, declaration_rest, open_rest}
use Rattle.markdown_leaf_html.proofs.HtmlCodeReadings.{then-nothing, either-none, word-end, word-then, word-then-none, word-absent, up-absent}
use Rattle.markdown_leaf_html.proofs.HtmlKindReadings.{marked-dash, marked-letter, marked-bracket, open-question, open-bang}
use Rattle.markdown_leaf_html.proofs.HtmlTextCovers.{html-opens, no-html}
use Rattle.markdown_leaf_html.proofs.HtmlTextLaws.{at, is-so}

-- past the code at hand
later-absent : (ns : List ℕ) (c : Code) (cs : List Code) → last_where (stand_next ns) (c ∷ cs) ≡ None →
    last_where (stand_next ns) cs ≡ None
later-absent ns c cs h = (later-none (last_where (stand_next ns) cs) (stand_next ns (c ∷ cs)) h).0

-- at the code at hand
here-absent : (n : ℕ) (ns : List ℕ) (cs : List Code) → last_where (stand_next (n ∷ ns)) cs ≡ None →
    stand_next (n ∷ ns) cs ≡ false
here-absent n ns [] h = refl
here-absent n ns (c ∷ cs) h = (later-none (last_where (stand_next (n ∷ ns)) cs) (stand_next (n ∷ ns) (c ∷ cs)) h).1

instruction-absent : (c : Code) (cs : List Code) → last_where (begins_at InstructionEnd) (c ∷ cs) ≡ None →
    through "?>" cs ≡ None
unfolding through
instruction-absent c cs h = up-absent (codes "?>") cs (later-absent (codes "?>") c cs h)

declaration-absent : (c : Code) (cs : List Code) → last_where (begins_at DeclarationEnd) (c ∷ cs) ≡ None →
    through ">" cs ≡ None
unfolding through
declaration-absent c cs h = up-absent (codes ">") cs (later-absent (codes ">") c cs h)

-- behind other values either
after-absent : (ws ns : List ℕ) (cs : List Code) → last_where (stand_next ns) cs ≡ None →
    (word_of ws then_ up_to_word ns) cs ≡ None
after-absent [] ns cs h = then-nothing (word_of []) (up_to_word ns) cs (word-end cs) ∙ up-absent ns cs h
after-absent (w ∷ ws) ns [] h = word-then-none w ws (up_to_word ns) [] refl
after-absent (w ∷ ws) ns (c ∷ cs) h =
    elim (c.value == w) as (λ b. (c.value == w) ≡ b → (word_of (w ∷ ws) then_ up_to_word ns) (c ∷ cs) ≡ None) [
      | true ↦ λ e. word-then w ws (up_to_word ns) c cs e ∙ ap (with_first c) (after-absent ws ns cs (later-absent ns c cs h))
      | false ↦ λ e. word-then-none w ws (up_to_word ns) (c ∷ cs) e
    ] refl

section-absent : (c : Code) (cs : List Code) → last_where (begins_at SectionEnd) (c ∷ cs) ≡ None →
    cdata_opening 0 cs ≡ None
unfolding through
section-absent c cs h = after-absent (codes "CDATA[") (codes "]]>") cs (later-absent (codes "]]>") c cs h)

-- the hyphen at hand may be the first of the end
comment-absent : (c : Code) (cs : List Code) → is_value 45 c ≡ true →
    last_where (begins_at CommentEnd) (c ∷ cs) ≡ None → comment_inside cs ≡ None
unfolding word through
comment-absent c cs e h =
    let later : last_where (begins_at CommentEnd) cs ≡ None = later-absent (codes "-->") c cs h in
    let short : stand_next (45 ∷ 62 ∷ []) cs ≡ false = sym (ap (λ b. b && stand_next (45 ∷ 62 ∷ []) cs) e) ∙ here-absent 45 (45 ∷ 62 ∷ []) (c ∷ cs) h in
    either-none (word_of (45 ∷ 62 ∷ [])) _ cs (word-absent (45 ∷ 62 ∷ []) cs short)
    (either-none (word_of (45 ∷ 45 ∷ 62 ∷ [])) _ cs (word-absent (45 ∷ 45 ∷ 62 ∷ []) cs (here-absent 45 (45 ∷ 62 ∷ []) cs later)) (after-absent (45 ∷ []) (codes "-->") cs later))

-- What ends with a sequence that is known not to follow is not read.

by_test : {A : Type 0} (P : A → Type 0) (b : Bool) (x y : A) → (b ≡ true → P x) → (b ≡ false → P y) → P (if b then x else y)
by_test P true x y p q = p refl
by_test P false x y p q = q refl

-- the sequence does not begin behind the code at hand, if it does not from there on
absent-behind : (s : Sequence) (c : Code) (cs : List Code) → last_where (begins_at s) (c ∷ cs) ≡ None → last_where (begins_at s) cs ≡ None
absent-behind s c cs h = (later-none (last_where (begins_at s) cs) (begins_at s (c ∷ cs)) h).0

-- it is not known, or it does not begin in these codes
abbrev AbsentIn : List Code → Option Sequence → Type 0
AbsentIn cs None = ⊥
AbsentIn cs (Some s) = last_where (begins_at s) cs ≡ None

absent-known : (T : Tokenizer) (o : Option Sequence) → KnowsSequences T → is_absent o T ≡ true → AbsentIn (ahead T) o
unfolding ahead_at
absent-known T None right h = cc
absent-known T (Some s) right h = ruled-out T.tokenize_state.sequences T.cursor.codes s T.cursor.at right h

absent-later : (o : Option Sequence) (c : Code) (cs : List Code) → AbsentIn (c ∷ cs) o → AbsentIn cs o
absent-later None c cs h = h
absent-later (Some s) c cs h = absent-behind s c cs h

-- behind `<!`
marked-absent : (T : Tokenizer) (o : Option ℕ) → current_of T ≡ o → AbsentIn (ahead T) (marked_ending o) → declaration_rest (ahead T) ≡ None
marked-absent T None e h = absurd h
marked-absent T (Some c) e absent =
    let b : BeginsWithValue c (ahead T) = ahead-some T c e in
    let rest : List Code = rest_of (ahead T) in
    let P : Option Sequence → Type 0 = λ o. AbsentIn (ahead T) o → declaration_rest (ahead T) ≡ None in
    by_test P (c == 45) _ _
    (λ h1 k. ap declaration_rest b.whole ∙ marked-dash b.code rest (is-so (λ v. v == 45) 45 T c e h1) (is-so letter_value 45 T c e h1) (is-so (λ v. v == 91) 45 T c e h1) ∙ ap (with_first b.code) (comment-absent b.code rest (is-so (λ v. v == 45) 45 T c e h1) (ap (last_where (begins_at CommentEnd)) (sym b.whole) ∙ k)))
    (λ h1. by_test P (c == 91) _ _
    (λ h2 k. ap declaration_rest b.whole ∙ marked-bracket b.code rest (is-so (λ v. v == 45) 91 T c e h2) (is-so letter_value 91 T c e h2) (is-so (λ v. v == 91) 91 T c e h2) ∙ ap (with_first b.code) (section-absent b.code rest (ap (last_where (begins_at SectionEnd)) (sym b.whole) ∙ k)))
    (λ h2. by_test P (letter_value c) _ _
    (λ h3 k. ap declaration_rest b.whole ∙ marked-letter b.code rest (at (λ v. v == 45) T c e ∙ h1) (at letter_value T c e ∙ h3) (at (λ v. v == 91) T c e ∙ h2) ∙ ap (with_first b.code) (declaration-absent b.code rest (ap (last_where (begins_at DeclarationEnd)) (sym b.whole) ∙ k)))
    (λ h3 k. absurd k))) absent

-- behind `<`
open-absent : (T : Tokenizer) (o : Option ℕ) → current_of T ≡ o → AbsentIn (ahead T) (ending_at o (code_at (moved T.cursor))) →
    open_rest (slashes_in T) (ahead T) ≡ None
open-absent T None e h = absurd h
open-absent T (Some c) e absent =
    let b : BeginsWithValue c (ahead T) = ahead-some T c e in
    let rest : List Code = rest_of (ahead T) in
    let P : Option Sequence → Type 0 = λ o. AbsentIn (ahead T) o → open_rest (slashes_in T) (ahead T) ≡ None in
    by_test P (c == 63) _ _
    (λ h1 k. ap (open_rest (slashes_in T)) b.whole ∙ (open-question (slashes_in T)) b.code rest (is-so letter_value 63 T c e h1) (is-so (λ v. v == 47) 63 T c e h1) (is-so (λ v. v == 33) 63 T c e h1) (is-so (λ v. v == 63) 63 T c e h1) ∙ ap (with_first b.code) (instruction-absent b.code rest (ap (last_where (begins_at InstructionEnd)) (sym b.whole) ∙ k)))
    (λ h1. by_test P (c == 33) _ _
    (λ h2 k. ap (open_rest (slashes_in T)) b.whole ∙ (open-bang (slashes_in T)) b.code rest (is-so letter_value 33 T c e h2) (is-so (λ v. v == 47) 33 T c e h2) (is-so (λ v. v == 33) 33 T c e h2) (is-so (λ v. v == 63) 33 T c e h2) ∙ ap (with_first b.code) (declaration-behind b k))
    (λ h2 k. absurd k)) absent
  where
    o : Option Sequence
    o = marked_ending (code_at (moved T.cursor))

    declaration-behind : (b : BeginsWithValue c (ahead T)) → AbsentIn (ahead T) o → declaration_rest (rest_of (ahead T)) ≡ None
    declaration-behind b k =
        ap declaration_rest (sym (ahead-moved T.cursor))
        ∙ marked-absent (record T { cursor = moved T.cursor }) (code_at (moved T.cursor)) refl
        (subst (λ cs. AbsentIn cs o) (sym (ahead-moved T.cursor)) (absent-later o b.code (rest_of (ahead T)) (subst (λ cs. AbsentIn cs o) b.whole k)))

-- where it is known that what begins with the `<` at hand does not end, no HTML is read
pub html-ruled-out : (T : Tokenizer) → KnowsSequences T → current_of T ≡ Some 60 → is_ruled_out T ≡ true → html_here T (ahead T) ≡ None
html-ruled-out T right here h = none-read (html_here T (ahead T)) (by_switch (is_on T) refl)
  where
    b : BeginsWithValue 60 (ahead T)
    b = ahead-some T 60 here

    o : Option Sequence
    o = ending_at (code_at (moved T.cursor)) (code_at (moved (moved T.cursor)))

    behind : open_rest (slashes_in T) (rest_of (ahead T)) ≡ None
    behind =
        ap (open_rest (slashes_in T)) (sym (ahead-moved T.cursor))
        ∙ open-absent (record T { cursor = moved T.cursor }) (code_at (moved T.cursor)) refl
        (subst (λ cs. AbsentIn cs o) (sym (ahead-moved T.cursor)) (absent-later o b.code (rest_of (ahead T)) (subst (λ cs. AbsentIn cs o) b.whole (absent-known T o right h))))

    by_switch : (on : Bool) → is_on T ≡ on → plan_of (html_here T) (ahead T) ≡ None
    by_switch true on =
        ap (plan_of (html_here T)) b.whole ∙ (html-opens (slashes_in T)) (is_on T) b.code (rest_of (ahead T)) on (ap (λ v. v == 60) b.value) (ap (λ v. v == 10) b.value)
        ∙ ap (preceded opening) (ap (text_from InLine) behind)
    by_switch false off = no-html (slashes_in T) (is_on T) (ahead T) (ap (λ on. on && next_is (is_value 60) (ahead T)) off)
