-- Where data of a text does not stop, the code is an element by itself.
use Rattle.std.proofs.Common.{◌≡◌, ℕ, ◌&&◌, Bool, true, false, not, List, [], ◌∷◌, ◌++◌, Option, None, Some, refl, sym, ◌∙◌, arith}
use Rattle.std.specs.Prelude.{is_none}
use Rattle.std.proofs.Math.Bool.{and-false}
use Rattle.std.proofs.lemmas.Bool.{or_parts, or_cases, not-false}
use Rattle.markdown_content.specs.Codes.{Code}
use Rattle.markdown_content.specs.Tree.{Forest}
use Rattle.markdown_leaf_gfm.proofs.SchemesLeft.{among-filter}
use Rattle.markdown_model.specs.CodeTests.{is_among}
use Rattle.markdown_model.specs.Elements.{text_choice, text_element}
use Rattle.markdown_model.specs.GfmAutolinkLiteral.{schemes, www, literal_words, letters, one_word_of, gfm_autolink_literal_protocol, gfm_autolink_literal_www}
use Rattle.markdown_model.specs.Grammar.{Reading, either, ◌>>◌, provided}
use Rattle.markdown_model.specs.LabelEnd.{Element, plain}
use Rattle.markdown_model.specs.Setting.{Setting}
use Rattle.markdown_model.specs.TextLines.{code_leaf}
use Rattle.markdown_model.proofs.GrammarSteps.{bind-none, either-second, either-some, switched-off}
use Rattle.markdown_run_text.specs.TextStops.{begins_word, text_stops}
use Rattle.markdown_run_text.specs.RunOverElements.{AreSingle}
use Rattle.markdown_run_text.proofs.TextElements.{off-or-none, other-element, protocol-element, www-element}
use Rattle.markdown_run_text.proofs.TryTableLemmas.{none-passes}
use Rattle.markdown_run_text.specs.TextContent.{literal_letters}

-- Words.

none-of-some : {A : Type 0} (o : Option A) → not (is_none o) ≡ false → o ≡ None
none-of-some o e = grind arith

-- where neither is read
either-none : {A : Type 0} (a b : Reading A) (cs : List Code) → either a b cs ≡ None → (a cs ≡ None) × (b cs ≡ None)
either-none {A} a b cs e = by_first (a cs) refl
  where
    by_first : (o : Option (A × List Code)) → a cs ≡ o → (a cs ≡ None) × (b cs ≡ None)
    by_first None h = (h, sym (either-second a b cs h) ∙ e)
    by_first (Some r) h = let some = sym (either-some a b cs r h) ∙ e in cc

word-none : (word : List ℕ) (words : List (List ℕ)) (cs : List Code) → one_word_of (word ∷ words) cs ≡ None →
    (letters word cs ≡ None) × (one_word_of words cs ≡ None)
unfolding one_word_of
word-none word words cs e = either-none (letters word) (one_word_of words) cs e

words-front : (front back : List (List ℕ)) (cs : List Code) → one_word_of (front ++ back) cs ≡ None →
    (one_word_of front cs ≡ None) × (one_word_of back cs ≡ None)
unfolding one_word_of
words-front [] back cs e = (refl, e)
words-front (word ∷ front) back cs e = grind (arith, word-none, either-second, words-front front back cs)

no-scheme : (bytes : List ℕ) (end : ℕ) (previous : Option Code) (cs : List Code) → one_word_of schemes cs ≡ None →
    gfm_autolink_literal_protocol bytes end previous cs ≡ None
unfolding gfm_autolink_literal_protocol
no-scheme bytes end previous cs e = grind (arith, off-or-none, bind-none)

no-www : (bytes : List ℕ) (end : ℕ) (previous : Option Code) (cs : List Code) → letters www cs ≡ None →
    gfm_autolink_literal_www bytes end previous cs ≡ None
unfolding gfm_autolink_literal_www
no-www bytes end previous cs k = grind (arith, switched-off, and-false)

-- Codes of a text.

module _ (s : Setting) (end : ℕ) (c : Code) (cs : List Code) where
  abbrev switch : Bool
  switch = s.options.constructs.gfm_autolink_literal

  -- a reading of literals, where none is on or it reads nothing
  off : (a : Reading Forest) → switch && begins_word (c ∷ cs) ≡ false → (one_word_of literal_words (c ∷ cs) ≡ None → a (c ∷ cs) ≡ None) →
      (provided switch >> a) (c ∷ cs) ≡ None
  off a h reads = grind (arith, switched-off, off-or-none, none-of-some)

  at-letter : (earlier : List Element) (previous : Option Code) → is_among literal_letters c ≡ true → switch && begins_word (c ∷ cs) ≡ false →
      text_element s end earlier previous (c ∷ cs) ≡ Some (plain (code_leaf c), cs)
  at-letter earlier previous h none = grind (arith, or_cases, protocol-element, off, no-scheme, words-front, www-element, no-www, word-none, not-false, none-passes)

  -- a code at which data does not stop
  goes-single : (earlier : List Element) (previous : Option Code) → text_stops switch (c ∷ cs) ≡ false →
      text_element s end earlier previous (c ∷ cs) ≡ Some (plain (code_leaf c), cs)
  goes-single earlier previous h = grind (arith, or_parts, other-element, at-letter, not-false, among-filter)

-- each code where data of a text does not stop is an element by itself, whatever stands before it
pub text-single : (s : Setting) (on : Bool) (cs : List Code) → on ≡ s.options.constructs.gfm_autolink_literal →
    AreSingle (text_choice s cs) (text_stops on) cs
text-single s on whole same front earlier previous c cs w free = grind (arith, goes-single)
