-- What readings that hold have read, step by step.
use Rattle.std.proofs.Common.{◌≡◌, ◌⊎◌, Bool, true, false, Option, Some, List, [], ◌∷◌, refl, sym, arith}
use Rattle.markdown_content.specs.Codes.{Code}
use Rattle.markdown_model.specs.Grammar.{Reading, ◌>>=◌, ◌>>◌, gives, provided, either, before, one}
use Rattle.markdown_model.proofs.GrammarSteps.{both-parts}

-- a reading and what goes on from it
pub record Went {A B : Type 0} (a : Reading A) (next : A → Reading B) (cs : List Code) (r : B × List Code) : Type 0 where
  pub value : A
  pub after : List Code
  pub first : a cs ≡ Some (value, after)
  pub second : next value after ≡ Some r

pub bind-back : {A B : Type 0} (a : Reading A) (next : A → Reading B) (cs : List Code) (r : B × List Code) →
    (a >>= next) cs ≡ Some r → Went a next cs r
unfolding ◌>>=◌
bind-back {A} {B} a next cs r e = grind arith

-- one code
pub record WentOne {B : Type 0} (p : Code → Bool) (next : List Code → Reading B) (cs : List Code) (r : B × List Code) : Type 0 where
  pub code : Code
  pub after : List Code
  pub is : cs ≡ code ∷ after
  pub passes : p code ≡ true
  pub second : next (code ∷ []) after ≡ Some r

pub one-back : {B : Type 0} (p : Code → Bool) (next : List Code → Reading B) (cs : List Code) (r : B × List Code) →
    (one p >>= next) cs ≡ Some r → WentOne p next cs r
unfolding ◌>>=◌ one
one-back {B} p next x3 r x5 = grind arith

-- a condition
pub provided-back : {B : Type 0} (b : Bool) (a : Reading B) (cs : List Code) (r : B × List Code) →
    (provided b >> a) cs ≡ Some r → (b ≡ true) × (a cs ≡ Some r)
unfolding provided ◌>>◌
provided-back true a cs r e = (refl, e)
provided-back false a cs r e = cc

pub gives-back : {B : Type 0} (x y : B) (cs rest : List Code) →
    ◌≡◌ {A = Option (B × List Code)} (gives x cs) (Some (y, rest)) → (y ≡ x) × (cs ≡ rest)
unfolding gives
gives-back {B} x y cs rest e = let same : (x ≡ y) × (cs ≡ rest) = both-parts x y cs rest e in (sym same.0, same.1)

-- a choice
pub either-back : {B : Type 0} (a b : Reading B) (cs : List Code) (r : B × List Code) →
    ◌≡◌ {A = Option (B × List Code)} (either a b cs) (Some r) → (a cs ≡ Some r) ⊎ (b cs ≡ Some r)
unfolding either
either-back {B} a b cs r e = grind arith

-- what stands before codes that pass
pub before-back : {B : Type 0} (a : Reading B) (p : List Code → Bool) (cs : List Code) (r : B × List Code) →
    ◌≡◌ {A = Option (B × List Code)} (before a p cs) (Some r) → (a cs ≡ Some r) × (p r.1 ≡ true)
unfolding before
before-back {B} a p cs r e = grind arith
