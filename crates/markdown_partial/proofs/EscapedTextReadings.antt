-- Texts with escapes: what their reading gives, by what stands there.
use Rattle.std.proofs.Common.{◌≡◌, ◌==◌, ◌&&◌, Bool, true, false, Option, Some, None, List, [], ◌∷◌, ◌++◌, refl, ap, subst}
use Rattle.markdown_content.specs.Codes.{Code}
use Rattle.markdown_model.specs.CodeTests.{next_is}
use Rattle.markdown_model.specs.Grammar.{with_first, escaped_from}
use Rattle.markdown_model.proofs.GivenByReadings.{IfGiven, given-escaped}

-- a reading that gives a first code gives the others
pub record Behind (c : Code) (o : Option (List Code × List Code)) (r : List Code × List Code) : Type 0 where
  pub others : List Code × List Code
  pub gives : o ≡ Some others
  pub is : r ≡ (c ∷ others.0, others.1)

pub first-some : (c : Code) (o : Option (List Code × List Code)) (r : List Code × List Code) → with_first c o ≡ Some r →
    Behind c o r
first-some c None r e = cc
first-some c (Some q) r e = record { others = q; gives = refl; is = cc }

-- a text, and the codes behind it, which begin with one that passes
pub record Text (stop : Code → Bool) (cs : List Code) (r : List Code × List Code) : Type 0 where
  pub whole : cs ≡ r.0 ++ r.1
  pub stops : next_is stop r.1 ≡ true

module _ (stop takes refuses : Code → Bool) where
  pub text-end : (slash : Bool) → escaped_from stop takes refuses slash [] ≡ None
  unfolding escaped_from
  text-end slash = refl

  pub text-taken : (slash : Bool) (c : Code) (cs : List Code) → slash && takes c ≡ true →
      escaped_from stop takes refuses slash (c ∷ cs) ≡ with_first c (escaped_from stop takes refuses false cs)
  unfolding escaped_from
  text-taken slash c cs e = rw (e, escaped_from) refl

  pub text-stops : (slash : Bool) (c : Code) (cs : List Code) → slash && takes c ≡ false → stop c ≡ true →
      escaped_from stop takes refuses slash (c ∷ cs) ≡ Some ([], c ∷ cs)
  unfolding escaped_from
  text-stops slash c cs e h = rw (e, h, escaped_from) refl

  pub text-refused : (slash : Bool) (c : Code) (cs : List Code) → slash && takes c ≡ false → stop c ≡ false →
      refuses c ≡ true → escaped_from stop takes refuses slash (c ∷ cs) ≡ None
  unfolding escaped_from
  text-refused slash c cs e h k = rw (e, h, k, escaped_from) refl

  pub text-next : (slash : Bool) (c : Code) (cs : List Code) → slash && takes c ≡ false → stop c ≡ false →
      refuses c ≡ false →
      escaped_from stop takes refuses slash (c ∷ cs) ≡ with_first c (escaped_from stop takes refuses (c.value == 92) cs)
  unfolding escaped_from
  text-next slash c cs e h k = rw (e, h, k, escaped_from) refl

  -- a backslash before a code that it does not take means itself
  pub text-bare : (c : Code) (cs : List Code) → takes c ≡ false →
      escaped_from stop takes refuses true (c ∷ cs) ≡ escaped_from stop takes refuses false (c ∷ cs)
  unfolding escaped_from
  text-bare c cs e = rw (e, escaped_from) refl

  pub text : (slash : Bool) (cs : List Code) (r : List Code × List Code) →
      escaped_from stop takes refuses slash cs ≡ Some r → Text stop cs r
  text slash cs r e =
      subst (λ o. IfGiven (λ x rest. Text stop cs (x, rest)) o) e
      (given-escaped (λ cs x rest. Text stop cs (x, rest)) stop takes refuses (λ c cs s. record { whole = refl; stops = s }) (λ c cs x rest t k. behind c cs x rest k) (λ c cs x rest s k t. behind c cs x rest t) slash cs)
    where
      behind : (c : Code) (cs x rest : List Code) → Text stop cs (x, rest) → Text stop (c ∷ cs) (c ∷ x, rest)
      behind c cs x rest t = record { whole = ap (λ xs. c ∷ xs) t.whole; stops = t.stops }
