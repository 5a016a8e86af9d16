-- How the codes of a text are cut: a stretch from its first code on.
use Rattle.std.proofs.Common.{◌≡◌, Bool, true, false, List, [], ◌∷◌, refl, ap, ◌∙◌}
use Rattle.markdown_content.specs.Codes.{Code}
use Rattle.markdown_model.specs.CodeTests.{next_is}
use Rattle.markdown_model.specs.Grammar.{span}
use Rattle.markdown_model.specs.TextLines.{joins, onto_stretch, stretches}
use Rattle.markdown_model.proofs.DefinitionSteps.{span-agrees, stretches-next}
use Rattle.markdown_model.proofs.GrammarSteps.{span-none}

-- The first stretch begins with the first code.

pub record BeginsWith (c : Code) (ss : List (List Code)) : Type 0 where
  pub more : List Code
  pub others : List (List Code)
  pub whole : ss ≡ (c ∷ more) ∷ others

pub stretches-begin : (p : Code → Bool) (c : Code) (cs : List Code) → BeginsWith c (stretches p (c ∷ cs))
stretches-begin p c cs =
    record { more = (span (joins p c) cs).0; others = stretches p (span (joins p c) cs).1; whole = stretches-next p c cs }

first-then : (p : Code → Bool) (c : Code) → List Code × List Code → List (List Code)
first-then p c s = (c ∷ s.0) ∷ stretches p s.1

-- A code that does not join the code after it is a stretch.
pub stretch-alone : (p : Code → Bool) (c : Code) (cs : List Code) → next_is (joins p c) cs ≡ false →
    stretches p (c ∷ cs) ≡ (c ∷ []) ∷ stretches p cs
unfolding first-then
stretch-alone p c cs e = stretches-next p c cs ∙ ap (first-then p c) (span-none (joins p c) cs e)

-- Codes that join one another, as long as they pass a test: all that pass are one stretch.
pub stretch-span : (p q : Code → Bool) → ((c d : Code) → q c ≡ true → joins p c d ≡ q d) → (c : Code) (cs : List Code) →
    q c ≡ true → stretches p (c ∷ cs) ≡ (c ∷ (span q cs).0) ∷ stretches p (span q cs).1
unfolding first-then
stretch-span p q agrees c cs e =
    stretches-next p c cs ∙ ap (first-then p c) (span-agrees (joins p c) q (λ d. agrees c d e) cs)

-- A code that joins it stands before its stretch.
pub stretch-joined : (p : Code → Bool) (c d : Code) (cs ds : List Code) (ss : List (List Code)) → joins p c d ≡ true →
    stretches p (d ∷ cs) ≡ (d ∷ ds) ∷ ss → stretches p (c ∷ d ∷ cs) ≡ (c ∷ d ∷ ds) ∷ ss
stretch-joined p c d cs ds ss e h = ap (onto_stretch p c) h ∙ rw (e, onto_stretch) refl
