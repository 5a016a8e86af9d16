-- What the readings of a grammar give, by what stands there.
use Rattle.std.proofs.Common.{◌≡◌, Bool, true, false, ◌&&◌, if◌then◌else◌, Option, Some, None, List, [], ◌∷◌, ◌++◌, refl, ap, arith}
use Rattle.markdown_content.specs.Codes.{Code}
pub use Rattle.markdown_event.proofs.AndParts.{and-left, and-right}
use Rattle.markdown_model.specs.CodeTests.{is_empty, next_is}
use Rattle.markdown_model.specs.Grammar.{Reading, ◌>>=◌, ◌>>◌, provided, either, before, one, some, any_number, span, until, ◌then_◌}

-- two results are the same in each part
pub both-parts : {A B : Type 0} (x y : A) (u v : B) → ◌≡◌ {A = Option (A × B)} (Some (x, u)) (Some (y, v)) →
    (x ≡ y) × (u ≡ v)
both-parts {A} {B} x y u v e = grind (arith)

-- One reading and then another.

pub bind-some : {A B : Type 0} (a : Reading A) (next : A → Reading B) (cs : List Code) (x : A) (rest : List Code) (y : Option (B × List Code)) →
    a cs ≡ Some (x, rest) → next x rest ≡ y → (a >>= next) cs ≡ y
unfolding ◌>>=◌
bind-some a next cs x rest y e h = rw (e, ◌>>=◌) h

pub bind-none : {A B : Type 0} (a : Reading A) (next : A → Reading B) (cs : List Code) → a cs ≡ None →
    (a >>= next) cs ≡ None
unfolding ◌>>=◌
bind-none a next cs e = rw (e, ◌>>=◌) refl

pub after-some : {A B : Type 0} (a : Reading A) (b : Reading B) (cs : List Code) (x : A) (rest : List Code) (y : Option (B × List Code)) →
    a cs ≡ Some (x, rest) → b rest ≡ y → (a >> b) cs ≡ y
unfolding ◌>>◌
after-some a b cs x rest y e h = rw (e, ◌>>◌) h

pub after-none : {A B : Type 0} (a : Reading A) (b : Reading B) (cs : List Code) → a cs ≡ None → (a >> b) cs ≡ None
unfolding ◌>>◌
after-none a b cs e = rw (e, ◌>>◌) refl

-- One code.

pub one-here : (p : Code → Bool) (c : Code) (cs : List Code) → p c ≡ true → one p (c ∷ cs) ≡ Some (c ∷ [], cs)
unfolding one
one-here p c cs e = rw (e, one) refl

pub one-other : (p : Code → Bool) (c : Code) (cs : List Code) → p c ≡ false → one p (c ∷ cs) ≡ None
unfolding one
one-other p c cs e = rw (e, one) refl

pub one-end : (p : Code → Bool) → one p [] ≡ None
unfolding one
one-end p = refl

-- the next code does not pass, or there is none
pub one-not : (p : Code → Bool) (cs : List Code) → next_is p cs ≡ false → one p cs ≡ None
one-not p [] e = one-end p
one-not p (c ∷ cs) e = one-other p c cs e

-- A reading before codes that pass a test.

pub before-some : {A : Type 0} (a : Reading A) (p : List Code → Bool) (cs : List Code) (x : A) (rest : List Code) →
    ◌≡◌ {A = Option (A × List Code)} (a cs) (Some (x, rest)) → p rest ≡ true →
    ◌≡◌ {A = Option (A × List Code)} (before a p cs) (Some (x, rest))
unfolding before
before-some a p cs x rest e h = rw (e, h, before) refl

pub before-other : {A : Type 0} (a : Reading A) (p : List Code → Bool) (cs : List Code) (x : A) (rest : List Code) →
    ◌≡◌ {A = Option (A × List Code)} (a cs) (Some (x, rest)) → p rest ≡ false → before a p cs ≡ None
unfolding before
before-other a p cs x rest e h = rw (e, h, before) refl

pub before-none : {A : Type 0} (a : Reading A) (p : List Code → Bool) (cs : List Code) → a cs ≡ None →
    before a p cs ≡ None
unfolding before
before-none a p cs e = rw (e, before) refl

-- Spans.

pub span-takes : (p : Code → Bool) (c : Code) (cs : List Code) → p c ≡ true →
    ◌≡◌ {A = List Code × List Code} (span p (c ∷ cs)) (c ∷ (span p cs).0, (span p cs).1)
span-takes p c cs e = rw (e, span) refl

pub span-none : (p : Code → Bool) (cs : List Code) → next_is p cs ≡ false →
    ◌≡◌ {A = List Code × List Code} (span p cs) ([], cs)
span-none p [] e = refl
span-none p (c ∷ cs) e = rw (e, span) refl

pub until-goes : (p : List Code → Bool) (c : Code) (cs : List Code) → p (c ∷ cs) ≡ false →
    ◌≡◌ {A = List Code × List Code} (until p (c ∷ cs)) (c ∷ (until p cs).0, (until p cs).1)
until-goes p c cs e = rw (e, until) refl

pub until-stops : (p : List Code → Bool) (c : Code) (cs : List Code) → p (c ∷ cs) ≡ true →
    ◌≡◌ {A = List Code × List Code} (until p (c ∷ cs)) ([], c ∷ cs)
until-stops p c cs e = rw (e, until) refl

-- Some codes.

pub some-span : (p : Code → Bool) (cs : List Code) (c : Code) (more rest : List Code) →
    ◌≡◌ {A = List Code × List Code} (span p cs) (c ∷ more, rest) →
    ◌≡◌ {A = Option (List Code × List Code)} (some p cs) (Some (c ∷ more, rest))
unfolding some
some-span p cs c more rest e =
    ap (λ (s : List Code × List Code). elim (is_empty s.0) as (λ _. Option (List Code × List Code)) [ true ↦ None | false ↦ Some s ]) e

pub some-nothing : (p : Code → Bool) (cs rest : List Code) → ◌≡◌ {A = List Code × List Code} (span p cs) ([], rest) →
    some p cs ≡ None
unfolding some
some-nothing p cs rest e =
    ap (λ (s : List Code × List Code). elim (is_empty s.0) as (λ _. Option (List Code × List Code)) [ true ↦ None | false ↦ Some s ]) e

pub any-number-is : (p : Code → Bool) (cs : List Code) → any_number p cs ≡ Some (span p cs)
unfolding any_number
any-number-is p cs = refl

-- Codes and then codes.

pub then-some : (a b : Reading (List Code)) (cs x r y q : List Code) → a cs ≡ Some (x, r) → b r ≡ Some (y, q) →
    (a then_ b) cs ≡ Some (x ++ y, q)
unfolding ◌then_◌
then-some a b cs x r y q e h = rw (e, h, ◌then_◌) refl

pub then-none : (a b : Reading (List Code)) (cs : List Code) → a cs ≡ None → (a then_ b) cs ≡ None
unfolding ◌then_◌
then-none a b cs e = rw (e, ◌then_◌) refl

pub then-other : (a b : Reading (List Code)) (cs x r : List Code) → a cs ≡ Some (x, r) → b r ≡ None →
    (a then_ b) cs ≡ None
unfolding ◌then_◌
then-other a b cs x r e h = rw (e, h, ◌then_◌) refl

-- A choice.

pub either-first : {A : Type 0} (a b : Reading A) (cs : List Code) → b cs ≡ None → either a b cs ≡ a cs
unfolding either
either-first {A} a b cs e = choice (a cs)
  where
    choice : (o : Option (A × List Code)) →
        elim o as (λ _. Option (A × List Code)) [ None ↦ b cs | Some r ↦ Some r ] ≡ o
    choice None = e
    choice (Some r) = refl

pub either-some : {A : Type 0} (a b : Reading A) (cs : List Code) (r : A × List Code) →
    ◌≡◌ {A = Option (A × List Code)} (a cs) (Some r) → ◌≡◌ {A = Option (A × List Code)} (either a b cs) (Some r)
unfolding either
either-some a b cs r e = rw (e, either) refl

pub either-second : {A : Type 0} (a b : Reading A) (cs : List Code) → a cs ≡ None → either a b cs ≡ b cs
unfolding either
either-second a b cs e = rw (e, either) refl

-- Conditions.

pub provided-true : (b : Bool) (cs : List Code) → b ≡ true → provided b cs ≡ Some ([], cs)
unfolding provided
provided-true b cs e = rw e refl

pub provided-false : (b : Bool) (cs : List Code) → b ≡ false → provided b cs ≡ None
unfolding provided
provided-false b cs e = rw e refl

-- where the switch is on, and where it is off
pub switched-on : {B : Type 0} (b : Reading B) (on : Bool) (cs : List Code) → on ≡ true → (provided on >> b) cs ≡ b cs
switched-on b on cs e = after-some (provided on) b cs [] cs (b cs) (provided-true on cs e) refl

pub switched-off : {B : Type 0} (b : Reading B) (on : Bool) (cs : List Code) → on ≡ false → (provided on >> b) cs ≡ None
switched-off b on cs e = after-none (provided on) b cs (provided-false on cs e)

-- Tests.

pub if-true : {A : Type 0} (b : Bool) (x y : A) → b ≡ true → (if b then x else y) ≡ x
if-true true x y e = refl
if-true false x y e = cc

pub if-false : {A : Type 0} (b : Bool) (x y : A) → b ≡ false → (if b then x else y) ≡ y
if-false true x y e = cc
if-false false x y e = refl

pub left-true : (a b : Bool) → a && b ≡ false → a ≡ true → b ≡ false
left-true true b e h = e
left-true false b e h = cc

pub right-true : (a b : Bool) → a && b ≡ false → b ≡ true → a ≡ false
right-true true true e h = cc
right-true true false e h = cc
right-true false b e h = refl
