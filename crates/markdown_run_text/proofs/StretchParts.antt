-- What a stretch passes of the codes ahead, and where it ends.
use Rattle.std.proofs.Common.{◌≡◌, ℕ, Bool, true, false, List, [], ◌∷◌, ◌++◌, refl, sym, ap, ◌∙◌, arith}
use Rattle.markdown_content.specs.Codes.{Code}
use Rattle.markdown_content.specs.Place.{Place, ahead_at, moved}
use Rattle.markdown_content.specs.Stretch.{past_stretch, stops, stretch, walked}
use Rattle.markdown_content.proofs.StretchLemmas.{stretch-goes, stretch-stops}
use Rattle.markdown_engine.specs.PastTree.{moved_by}
use Rattle.markdown_engine.proofs.PlaceAfterCodes.{ahead-moved_by}

-- the codes that a stretch passes, none of which stops it, and those behind
record StretchSplit (ms : List ℕ) (cs : List Code) : Type 0 where
  rest : List Code
  whole : cs ≡ stretch ms cs ++ rest

split : (ms : List ℕ) (cs : List Code) → StretchSplit ms cs
split ms [] = record { rest = []; whole = refl }
split ms (c ∷ cs) = by_test (stops ms c.value) refl (split ms cs)
  where
    by_test : (b : Bool) → stops ms c.value ≡ b → StretchSplit ms cs → StretchSplit ms (c ∷ cs)
    by_test true e more = record { rest = c ∷ cs; whole = ap (λ xs. xs ++ (c ∷ cs)) (sym (stretch-stops ms c cs e)) }
    by_test false e more = record {
      rest = more.rest;
      whole = ap (λ xs. c ∷ xs) more.whole ∙ ap (λ xs. xs ++ more.rest) (sym (stretch-goes ms c cs e));
    }

pub walked-moved : (cs : List Code) (p : Place) → walked cs p ≡ moved_by cs p
walked-moved [] p = refl
walked-moved (c ∷ cs) p = walked-moved cs (moved p)

pub text-passed : (ms : List ℕ) (p : Place) → past_stretch ms p ≡ moved_by (stretch ms (ahead_at p)) p
unfolding past_stretch
text-passed ms p = walked-moved (stretch ms (ahead_at p)) p

pub text-parts : (ms : List ℕ) (p : Place) → ahead_at p ≡ stretch ms (ahead_at p) ++ ahead_at (past_stretch ms p)
text-parts ms p = grind (arith, split ms (ahead_at p), text-passed ms p, ahead-moved_by (stretch ms (ahead_at p)))
