-- Words with which literals begin are letters and then a sign. So none begins in a stretch that ends at no sign of theirs.
use Rattle.std.proofs.Common.{◌≡◌, ℕ, ◌-◌, ◌&&◌, ◌==◌, Bool, true, false, not, if◌then◌else◌, List, [], ◌∷◌, Option, None, Some, refl, ap, ◌∙◌, arith, add-one}
use Rattle.std.specs.Prelude.{codes, is_none}
use Rattle.std.proofs.lemmas.Bool.{eqb-true}
use Rattle.std.proofs.lemmas.Bool.Decides.{nat_tests}
use Rattle.markdown_content.specs.Codes.{Code}
use Rattle.markdown_content.specs.Place.{Place, ahead_at, code_at, code_before, moved}
use Rattle.markdown_content.specs.Stretch.{is_free, past_stretch}
use Rattle.markdown_content.proofs.PlaceRules.{ahead_moved, code_at_ahead}
use Rattle.markdown_content.proofs.StretchLemmas.{past-none, past-one}
use Rattle.markdown_leaf_gfm.proofs.LettersOfWords.{letter_test, letters-more, letters-none}
use Rattle.markdown_model.specs.Grammar.{with_first}
use Rattle.markdown_model.specs.GfmAutolinkLiteral.{literal_words, letters, one_word_of}
use Rattle.markdown_model.proofs.GrammarSteps.{and-left, and-right, either-second}
use Rattle.markdown_partial.specs.PartialData.{is_some_mark}
use Rattle.markdown_run_text.specs.PlacesPassed.{holds_sign, markers_and_signs, sign_at}
use Rattle.markdown_run_text.specs.TextStops.{begins_word}

clash : {A : Type 0} → (b : Bool) → b ≡ true → b ≡ false → A
clash b h k = grind arith

-- the code before the place behind a code is that code
pub before-moved : (p : Place) → code_before (moved p) ≡ code_at p
unfolding code_before code_at moved
before-moved p = rw add-one refl

-- A word that is read, by its first letter.

record FirstLetter (n : ℕ) (ns : List ℕ) (cs : List Code) : Type 0 where
  pub code : Code
  pub behind : List Code
  pub whole : cs ≡ code ∷ behind
  pub letter : letter_test n code ≡ true
  pub read : List Code × List Code
  pub more : letters ns behind ≡ Some read

with-some : (c : Code) (o : Option (List Code × List Code)) (r : List Code × List Code) → with_first c o ≡ Some r →
    (read : List Code × List Code) × (o ≡ Some read)
with-some c o r e = grind arith

first-letter : (n : ℕ) (ns : List ℕ) (cs : List Code) (r : List Code × List Code) → letters (n ∷ ns) cs ≡ Some r →
    FirstLetter n ns cs
first-letter n ns cs r e = grind (arith, letters-none, with-some, letters-more)

-- Letters and signs.

abbrev free : ℕ → Bool
free v = is_free markers_and_signs (Some v)

first_is_slash : List ℕ → Bool
first_is_slash [] = false
first_is_slash (m ∷ ms) = m == 47

-- a word that is letters and then a sign that it may hold; `w` says that a `w` stands before
leads_to_sign : Bool → List ℕ → Bool
leads_to_sign w [] = false
leads_to_sign w (n ∷ ns) =
    if n == 46 then w else (if n == 58 then first_is_slash ns else ((free n && free (n - 32)) && leads_to_sign (n == 119) ns))

dot-value : (n : ℕ) (c : Code) → (n == 46) ≡ true → letter_test n c ≡ true → (c.value == 46) ≡ true
dot-value n c h e = grind (arith, nat_tests)

colon-value : (n : ℕ) (c : Code) → (n == 58) ≡ true → letter_test n c ≡ true → (c.value == 58) ≡ true
colon-value n c h e = grind (arith, nat_tests)

slash-value : (n : ℕ) (c : Code) → (n == 47) ≡ true → letter_test n c ≡ true → (c.value == 47) ≡ true
slash-value n c h e = grind (arith, nat_tests)

w-value : (n : ℕ) (c : Code) → (n == 119) ≡ true → letter_test n c ≡ true → is_some_mark (codes "Ww") (Some c.value) ≡ true
w-value n c h e = grind (arith, nat_tests)

upper-value : (n : ℕ) (c : Code) → (c.value == n) ≡ false → letter_test n c ≡ true → c.value ≡ n - 32
upper-value n c h e = grind (arith, nat_tests)

-- a code that stands for a letter is free where the letter is in both cases
letter-free : (n : ℕ) (c : Code) → free n && free (n - 32) ≡ true → letter_test n c ≡ true → free c.value ≡ true
letter-free n c h e = grind (arith, eqb-true, and-left, upper-value, and-right)

-- where the stretch at a place ends
abbrev stretch_end : Place → Place
stretch_end p = past_stretch markers_and_signs p

here : (p : Place) (v : ℕ) → code_at p ≡ Some v → free v ≡ false → stretch_end p ≡ p
here p v e h = past-none markers_and_signs p (ap (is_free markers_and_signs) e ∙ h)

sign-here : (p : Place) (v : ℕ) → code_at p ≡ Some v → free v ≡ false →
    holds_sign (code_before p) (Some v) (code_at (moved p)) ≡ true → sign_at (stretch_end p) ≡ true
sign-here p v e h k = grind (arith, here)

-- the stretch from a place where such a word stands ends at a sign that it holds
at-sign : (w : Bool) (word : List ℕ) (p : Place) (r : List Code × List Code) → leads_to_sign w word ≡ true →
    (w ≡ true → is_some_mark (codes "Ww") (code_before p) ≡ true) → letters word (ahead_at p) ≡ Some r →
    sign_at (stretch_end p) ≡ true
unfolding leads_to_sign first_is_slash
at-sign w [] p r h before e = cc
at-sign w (n ∷ ns) p r h before e = by_dot (n == 46) refl h (λ q s k b f. at-sign (n == 119) ns q s k b f)
  where
    f : FirstLetter n ns (ahead_at p)
    f = first-letter n ns (ahead_at p) r e

    at : code_at p ≡ Some f.code.value
    at = code_at_ahead p f.code f.behind f.whole

    next : ahead_at (moved p) ≡ f.behind
    next = ahead_moved p f.code f.behind f.whole

    slash : (ms : List ℕ) (s : List Code × List Code) → first_is_slash ms ≡ true → letters ms f.behind ≡ Some s →
        is_some_mark (codes "/") (code_at (moved p)) ≡ true
    slash [] s k g = cc
    slash (m ∷ ms) s k g =
        let d : FirstLetter m ms f.behind = first-letter m ms f.behind s g in
        ap (is_some_mark (codes "/")) (code_at_ahead (moved p) d.code d.behind (next ∙ d.whole) ∙ ap (λ v. Some v) (eqb-true d.code.value 47 (slash-value m d.code k d.letter)))

    More : Type 0
    More = (q : Place) (s : List Code × List Code) → leads_to_sign (n == 119) ns ≡ true → ((n == 119) ≡ true → is_some_mark (codes "Ww") (code_before q) ≡ true) → letters ns (ahead_at q) ≡ Some s → sign_at (stretch_end q) ≡ true

    by_colon : (b : Bool) → (n == 58) ≡ b → (if b then first_is_slash ns else ((free n && free (n - 32)) && leads_to_sign (n == 119) ns)) ≡ true →
        More → sign_at (stretch_end p) ≡ true
    by_colon true d k more =
        sign-here p 58 (at ∙ ap (λ v. Some v) (eqb-true f.code.value 58 (colon-value n f.code d f.letter))) refl (slash ns f.read k f.more)
    by_colon false d k more =
        let is_free_here : free f.code.value ≡ true = letter-free n f.code (and-left (free n && free (n - 32)) (leads_to_sign (n == 119) ns) k) f.letter in
        ap sign_at (past-one markers_and_signs p (ap (is_free markers_and_signs) at ∙ is_free_here))
        ∙ more (moved p) f.read (and-right (free n && free (n - 32)) (leads_to_sign (n == 119) ns) k)
        (λ t. ap (is_some_mark (codes "Ww")) (before-moved p ∙ at) ∙ w-value n f.code t f.letter)
        (ap (letters ns) next ∙ f.more)

    by_dot : (b : Bool) → (n == 46) ≡ b → (if b then w else (if n == 58 then first_is_slash ns else ((free n && free (n - 32)) && leads_to_sign (n == 119) ns))) ≡ true →
        More → sign_at (stretch_end p) ≡ true
    by_dot true d k more =
        sign-here p 46 (at ∙ ap (λ v. Some v) (eqb-true f.code.value 46 (dot-value n f.code d f.letter))) refl (before k)
    by_dot false d k more = by_colon (n == 58) refl k more

-- each of these words is such a one
all_lead : List (List ℕ) → Bool
all_lead [] = true
all_lead (word ∷ words) = leads_to_sign false word && all_lead words

not-read : (word : List ℕ) (p : Place) → leads_to_sign false word ≡ true → sign_at (stretch_end p) ≡ false →
    letters word (ahead_at p) ≡ None
not-read word p h none = grind (arith, clash, at-sign)

no-words : (words : List (List ℕ)) (p : Place) → all_lead words ≡ true → sign_at (stretch_end p) ≡ false →
    one_word_of words (ahead_at p) ≡ None
unfolding one_word_of all_lead
no-words [] p h none = refl
no-words (word ∷ words) p h none = grind (arith, either-second, not-read, and-left, leads_to_sign, all_lead, and-right, no-words words p)

-- where the stretch from a place ends at no sign of words, none stands there
pub no-word : (p : Place) → sign_at (stretch_end p) ≡ false → begins_word (ahead_at p) ≡ false
unfolding all_lead leads_to_sign first_is_slash
no-word p none = ap (λ o. not (is_none o)) (no-words literal_words p refl none)
