-- What a word reads whose letters stand in either case, letter by letter.
use Rattle.std.proofs.Common.{◌≡◌, ℕ, ◌+◌, ◌==◌, ◌&&◌, ◌||◌, Bool, true, false, Option, Some, None, List, [], ◌∷◌, ◌++◌, refl, sym, ap, ◌∙◌}
use Rattle.markdown_content.specs.Codes.{Code}
use Rattle.markdown_model.specs.CodeTests.{is_letter, next_is}
use Rattle.markdown_model.specs.Grammar.{Reading, ◌>>=◌, either, one, gives, with_first}
use Rattle.markdown_model.specs.GfmAutolinkLiteral.{letters}
use Rattle.markdown_model.proofs.GrammarSteps.{bind-some, bind-none, one-here, one-not, either-some, either-second}

abbrev pub letter_test : ℕ → Code → Bool
letter_test n c = c.value == n || (is_letter c && c.value + 32 == n)

letters-given : (c : Code) (o : Option (List Code × List Code)) →
    (elim o as (λ _. Option (List Code × List Code)) [ None ↦ None | Some r ↦ gives (c ∷ r.0) r.1 ]) ≡ with_first c o
unfolding gives
letters-given c None = refl
letters-given c (Some r) = refl

pub letters-more : (n : ℕ) (ns : List ℕ) (c : Code) (cs : List Code) → letter_test n c ≡ true →
    letters (n ∷ ns) (c ∷ cs) ≡ with_first c (letters ns cs)
unfolding letters ◌>>=◌
letters-more n ns c cs e =
    bind-some (one (letter_test n)) (λ a. letters ns >>= λ b. gives (a ++ b)) (c ∷ cs) (c ∷ []) cs _ (one-here (letter_test n) c cs e) (letters-given c (letters ns cs))

pub letters-none : (n : ℕ) (ns : List ℕ) (cs : List Code) → next_is (letter_test n) cs ≡ false →
    letters (n ∷ ns) cs ≡ None
unfolding letters
letters-none n ns cs e =
    bind-none (one (letter_test n)) (λ a. letters ns >>= λ b. gives (a ++ b)) cs (one-not (letter_test n) cs e)

pub letters-nil : (cs : List Code) → letters [] cs ≡ Some ([], cs)
unfolding letters gives
letters-nil cs = refl

-- Of two readings, each behind the same code.
pub either-first-code : (a b x y : Reading (List Code)) (c : Code) (cs : List Code) → a (c ∷ cs) ≡ with_first c (x cs) →
    b (c ∷ cs) ≡ with_first c (y cs) → either a b (c ∷ cs) ≡ with_first c (either x y cs)
unfolding either
either-first-code a b x y c cs e h = by_what (x cs) refl
  where
    by_what : (o : Option (List Code × List Code)) → x cs ≡ o → either a b (c ∷ cs) ≡ with_first c (either x y cs)
    by_what None k =
        either-second a b (c ∷ cs) (e ∙ ap (with_first c) k) ∙ h ∙ ap (with_first c) (sym (either-second x y cs k))
    by_what (Some r) k =
        either-some a b (c ∷ cs) (c ∷ r.0, r.1) (e ∙ ap (with_first c) k) ∙ ap (with_first c) (sym (either-some x y cs r k))
