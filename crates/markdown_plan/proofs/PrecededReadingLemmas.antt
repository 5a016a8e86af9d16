-- Codes before what a reading gives.
use Rattle.std.proofs.Common.{◌≡◌, Option, Some, None, List, [], ◌∷◌, ◌++◌, refl}
use Rattle.markdown_content.specs.Codes.{Code}
use Rattle.markdown_model.specs.Grammar.{Reading, ◌then_◌, with_first}
use Rattle.markdown_plan.specs.PrecededReadings.{after}

pub after-more : (c : Code) (front : List Code) (o : Option (List Code × List Code)) →
    after (c ∷ front) o ≡ with_first c (after front o)
after-more c front None = refl
after-more c front (Some r) = refl

pub after-none : (o : Option (List Code × List Code)) → after [] o ≡ o
after-none None = refl
after-none (Some r) = refl

pub after-one : (c : Code) (o : Option (List Code × List Code)) → after (c ∷ []) o ≡ with_first c o
after-one c None = refl
after-one c (Some r) = refl

then-by : (x : List Code) (o : Option (List Code × List Code)) →
    elim o as (λ _. Option (List Code × List Code)) [ None ↦ None | Some s ↦ Some (x ++ s.0, s.1) ] ≡ after x o
then-by x None = refl
then-by x (Some s) = refl

pub then-after : (a b : Reading (List Code)) (cs x r : List Code) →
    ◌≡◌ {A = Option (List Code × List Code)} (a cs) (Some (x, r)) → (a then_ b) cs ≡ after x (b r)
unfolding ◌then_◌
then-after a b cs x r e = rw (e, ◌then_◌) (then-by x (b r))
