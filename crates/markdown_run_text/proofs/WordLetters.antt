-- A word that stands at a place, letter by letter.
use Rattle.std.proofs.Common.{◌≡◌, ℕ, Bool, true, false, not, ◌||◌, List, [], ◌∷◌, ◌++◌, Option, None, Some, refl, sym, ap, ◌∙◌, arith}
use Rattle.std.specs.Prelude.{is_none}
use Rattle.std.specs.List.{list_any}
use Rattle.std.proofs.lemmas.Bool.{or_parts}
use Rattle.markdown_content.specs.Codes.{Code}
use Rattle.markdown_content.specs.Place.{Place, ahead_at, code_at, moved}
use Rattle.markdown_content.proofs.PlaceRules.{IsAhead, ahead_none, ahead_some}
use Rattle.markdown_leaf_gfm.proofs.LettersOfWords.{letters-more, letters-nil, letters-none}
use Rattle.markdown_model.specs.Grammar.{either, with_first}
use Rattle.markdown_model.specs.GfmAutolinkLiteral.{letters, literal_words, one_word_of}
use Rattle.markdown_run_text.specs.TextStops.{begins_word}
use Rattle.markdown_run_text.specs.PlacesPassed.{begins_as, is_some_letter, is_word, letter_is, may_begin, one_stands}

none-first : (c : Code) (o : Option (List Code × List Code)) → is_none (with_first c o) ≡ is_none o
none-first c o = grind arith

pub word-goes : (n : ℕ) (ns : List ℕ) (p : Place) → is_some_letter n (code_at p) ≡ true → is_word (n ∷ ns) p ≡ is_word ns (moved p)
word-goes n ns p h = by_code (code_at p) refl h
  where
    by_code : (o : Option ℕ) → code_at p ≡ o → is_some_letter n o ≡ true → is_word (n ∷ ns) p ≡ is_word ns (moved p)
    by_code None e k = cc
    by_code (Some v) e k =
        let a : IsAhead p v = ahead_some p v e in
        ap (λ cs. not (is_none (letters (n ∷ ns) cs))) a.codes
        ∙ ap (λ o. not (is_none o)) (letters-more n ns a.code (ahead_at (moved p)) (ap (letter_is n) a.value ∙ k))
        ∙ ap not (none-first a.code (letters ns (ahead_at (moved p))))

pub word-stops : (n : ℕ) (ns : List ℕ) (p : Place) → is_some_letter n (code_at p) ≡ false → is_word (n ∷ ns) p ≡ false
word-stops n ns p h = by_code (code_at p) refl h
  where
    by_code : (o : Option ℕ) → code_at p ≡ o → is_some_letter n o ≡ false → is_word (n ∷ ns) p ≡ false
    by_code None e k =
        ap (λ cs. not (is_none (letters (n ∷ ns) cs))) (ahead_none p e) ∙ ap (λ o. not (is_none o)) (letters-none n ns [] refl)
    by_code (Some v) e k =
        let a : IsAhead p v = ahead_some p v e in
        ap (λ cs. not (is_none (letters (n ∷ ns) cs))) a.codes
        ∙ ap (λ o. not (is_none o)) (letters-none n ns (a.code ∷ ahead_at (moved p)) (ap (letter_is n) a.value ∙ k))

pub word-ends : (p : Place) → is_word [] p ≡ true
word-ends p = ap (λ o. not (is_none o)) (letters-nil (ahead_at p))

pub some-letter : (n : ℕ) (p : Place) → is_some_letter n (code_at p) ≡ true → (v : ℕ) × (code_at p ≡ Some v)
some-letter n p h = grind arith

-- one of two readings holds where their choice does
either-some-of : (a b : List Code → Option (List Code × List Code)) (cs : List Code) → not (is_none (either a b cs)) ≡ (not (is_none (a cs)) || not (is_none (b cs)))
unfolding either
either-some-of a b cs = grind arith

-- the first of these words that stands at a place
pub one-read : (words : List (List ℕ)) (p : Place) → one_stands words p ≡ not (is_none (one_word_of words (ahead_at p)))
unfolding one_word_of
one-read [] p = refl
one-read (word ∷ words) p = grind (arith, either-some-of, one-read words p)

or-false : (b : Bool) → (b || false) ≡ b
or-false b = grind arith

or-again : (a b c : Bool) → (a || (b || c)) ≡ ((a || b) || c)
or-again a b c = grind arith

-- and where one is added behind these
pub one-behind : (words : List (List ℕ)) (word : List ℕ) (p : Place) → one_stands (words ++ word ∷ []) p ≡ (one_stands words p || is_word word p)
one-behind [] word p = or-false (is_word word p)
one-behind (w ∷ ws) word p = ap (λ b. is_word w p || b) (one-behind ws word p) ∙ or-again (is_word w p) (one_stands ws p) (is_word word p)

-- where no word may begin, none stands

not-as : (word : List ℕ) (p : Place) → begins_as word (code_at p) (code_at (moved p)) ≡ false → is_word word p ≡ false
not-as word p h = grind (arith, word-stops, word-goes)

none-of : (words : List (List ℕ)) (p : Place) → list_any (λ word. begins_as word (code_at p) (code_at (moved p))) words ≡ false → one_stands words p ≡ false
none-of [] p h = refl
none-of (word ∷ words) p h = grind (arith, or_parts, not-as, none-of words p)

pub no-first : (p : Place) → may_begin p ≡ false → begins_word (ahead_at p) ≡ false
no-first p h = sym (one-read literal_words p) ∙ none-of literal_words p h
