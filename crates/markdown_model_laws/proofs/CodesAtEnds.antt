-- The codes at the ends of a text that pass.
use Rattle.std.proofs.Common.{◌≡◌, Bool, true, false, List, [], ◌∷◌, ◌++◌, reverse, refl, sym, ap, ◌∙◌, arith}
use Rattle.std.proofs.lemmas.List.{reverse-append, reverse-reverse}
use Rattle.std.specs.List.{list_all}
use Rattle.std.proofs.lemmas.List.Folds.{list_all-append}
use Rattle.markdown_content.specs.Codes.{Code}
use Rattle.markdown_model.specs.CodeTests.{next_is, is_some_code, first_code, last_code}
use Rattle.markdown_model.specs.Grammar.{span}
use Rattle.markdown_model.proofs.LeafCodes.{span-append}
use Rattle.markdown_model.proofs.DefinitionSteps.{span-all, span-stops}
use Rattle.markdown_model.proofs.GrammarSteps.{span-takes, span-none}
use Rattle.markdown_model_laws.specs.BlanksApart.{EndsIn}

pub last-of-more : (xs : List Code) (y : Code) (ys : List Code) → last_code (xs ++ y ∷ ys) ≡ last_code (y ∷ ys)
last-of-more (x ∷ z ∷ xs) y ys = last-of-more (z ∷ xs) y ys
last-of-more xs y ys = refl

pub last-reversed : (cs : List Code) → last_code (reverse cs) ≡ first_code cs
last-reversed [] = refl
last-reversed (c ∷ cs) = ap last_code (reverse-append (c ∷ []) cs) ∙ last-of-more (reverse cs) c []

pub all-reversed : (p : Code → Bool) (cs : List Code) → list_all p (reverse cs) ≡ list_all p cs
all-reversed p [] = refl
all-reversed p (c ∷ cs) = grind (arith, all-reversed p cs, reverse-append (c ∷ []) cs, list_all-append p (reverse cs) (c ∷ []))

-- a front that passes, and what does not begin with a code that does
pub span-of : (p : Code → Bool) (xs ys : List Code) → list_all p xs ≡ true → next_is p ys ≡ false → span p (xs ++ ys) ≡ (xs, ys)
span-of p [] ys h k = span-none p ys k
span-of p (x ∷ xs) ys h k = grind (arith, span-takes, span-of p xs ys)

module _ (p : Code → Bool) (text : List Code) where
  -- the last codes that pass are the first of the text reversed
  pub end-cut : EndsIn p text (reverse (span p (reverse text)).1) (reverse (span p (reverse text)).0)
  end-cut = record {
    stands = sym (reverse-reverse text) ∙ ap reverse (sym (span-append p (reverse text))) ∙ reverse-append (span p (reverse text)).0 (span p (reverse text)).1;
    pass = all-reversed p (span p (reverse text)).0 ∙ span-all p (reverse text);
    longest = ap (is_some_code p) (last-reversed (span p (reverse text)).1) ∙ span-stops p (reverse text);
  }

  pub end-found : (front back : List Code) → EndsIn p text front back → span p (reverse text) ≡ (reverse back, reverse front)
  end-found front back e =
      ap (λ xs. span p (reverse xs)) e.stands
      ∙ ap (span p) (reverse-append front back)
      ∙ span-of p (reverse back) (reverse front) (all-reversed p back ∙ e.pass) (ap (is_some_code p) (sym (last-reversed (reverse front)) ∙ ap last_code (reverse-reverse front)) ∙ e.longest)
