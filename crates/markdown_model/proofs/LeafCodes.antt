-- The codes that the leaves of a row cover.
use Rattle.std.proofs.Common.{◌≡◌, Bool, true, false, List, [], ◌∷◌, ◌++◌, refl, ap}
use Rattle.std.proofs.lemmas.List.{append-nil}
use Rattle.markdown_event.specs.declared.event.Name.{Name}
use Rattle.markdown_content.specs.Codes.{Code}
use Rattle.markdown_content.specs.Tree.{leaf, leaf_codes}
use Rattle.markdown_model.specs.Grammar.{span, until}

pub codes-leaf : (name : Name) (cs : List Code) → leaf_codes (leaf name cs) ≡ cs
codes-leaf name [] = refl
codes-leaf name (c ∷ cs) = append-nil (c ∷ cs)

pub span-append : (p : Code → Bool) (cs : List Code) → (span p cs).0 ++ (span p cs).1 ≡ cs
span-append p [] = refl
span-append p (c ∷ cs) = by_test (p c) (span-append p cs)
  where
    by_test : (b : Bool) → (span p cs).0 ++ (span p cs).1 ≡ cs
        → let r : List Code × List Code = elim b [ true ↦ let s = span p cs in (c ∷ s.0, s.1) | false ↦ ([], c ∷ cs) ] in r.0 ++ r.1 ≡ c ∷ cs
    by_test true h = ap (λ x. c ∷ x) h
    by_test false h = refl

-- the codes up to a place, and those from there on
pub until-append : (p : List Code → Bool) (cs : List Code) → (until p cs).0 ++ (until p cs).1 ≡ cs
until-append p [] = refl
until-append p (c ∷ cs) =
    elim (p (c ∷ cs)) as (λ b. let r : List Code × List Code = elim b [ true ↦ ([], c ∷ cs) | false ↦ let s = until p cs in (c ∷ s.0, s.1) ] in r.0 ++ r.1 ≡ c ∷ cs) [
      | true ↦ refl
      | false ↦ ap (λ x. c ∷ x) (until-append p cs)
    ]
