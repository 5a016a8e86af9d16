-- What each word on a place says of the others.
use Rattle.std.proofs.Common.{ℕ, zero, suc, drop, ◌+◌, ◌≡◌, arith, List, [], ◌∷◌, length, slice_get, refl, sym, ap, ◌∙◌, Option, Some, None, add-one}
use Rattle.std.proofs.lemmas.Option.{same_Some}
use Rattle.markdown_content.specs.Codes.{Code}
use Rattle.markdown_content.specs.ListFunctions.{rest_of}
use Rattle.markdown_content.specs.Place.{Place, moved, ahead_at, value_of, start_or, stop_or, code_at, point_of, exit_point}
use Rattle.markdown_content.proofs.CursorInvariant.{drop-some, drop-none, drop-past}

-- Past a code.

pub codes_moved : (p : Place) → (moved p).codes ≡ p.codes
unfolding moved
codes_moved p = refl

pub at_moved : (p : Place) → (moved p).at ≡ p.at + 1
unfolding moved
at_moved p = refl

pub end_moved : (p : Place) → (moved p).end ≡ p.end
unfolding moved
end_moved p = refl

-- At the start.

pub ahead_restarted : (p : Place) → ahead_at (record p { at = 0 }) ≡ p.codes
unfolding ahead_at
ahead_restarted p = refl

-- By the codes ahead_at.

pub ahead_moved : (p : Place) (c : Code) (cs : List Code) → ahead_at p ≡ c ∷ cs → ahead_at (moved p) ≡ cs
unfolding ahead_at moved
ahead_moved p c cs h = drop-past p.at p.codes c cs h

pub code_at_ahead : (p : Place) (c : Code) (cs : List Code) → ahead_at p ≡ c ∷ cs → code_at p ≡ Some c.value
unfolding ahead_at code_at
code_at_ahead p c cs h = ap value_of (drop-some p.at p.codes c cs h)

pub code_at_end : (p : Place) → ahead_at p ≡ [] → code_at p ≡ None
unfolding ahead_at code_at
code_at_end p h = ap value_of (drop-none p.at p.codes h)

pub point_ahead : (p : Place) (c : Code) (cs : List Code) → ahead_at p ≡ c ∷ cs → point_of p ≡ c.start
unfolding ahead_at point_of
point_ahead p c cs h = ap (λ (x : Option Code). start_or x p.end) (drop-some p.at p.codes c cs h)

pub point_end : (p : Place) → ahead_at p ≡ [] → point_of p ≡ p.end
unfolding ahead_at point_of
point_end p h = ap (λ (x : Option Code). start_or x p.end) (drop-none p.at p.codes h)

pub exit_moved : (p : Place) (c : Code) (cs : List Code) → ahead_at p ≡ c ∷ cs → exit_point (moved p) ≡ c.stop
unfolding ahead_at exit_point moved
exit_moved p c cs h =
    rw add-one (ap (λ (x : Option Code). stop_or x (start_or (slice_get p.codes (suc p.at)) p.end)) (drop-some p.at p.codes c cs h))

-- from the code at the place to the codes ahead_at

some≢none : (v : ℕ) → Some v ≡ None → ⊥
some≢none v e = cc

ahead-cases : (p : Place) (cs : List Code) → ahead_at p ≡ cs → code_at p ≡ None → cs ≡ []
ahead-cases p [] e h = refl
ahead-cases p (c ∷ cs) e h = absurd (some≢none c.value (sym (code_at_ahead p c cs e) ∙ h))

pub ahead_none : (p : Place) → code_at p ≡ None → ahead_at p ≡ []
ahead_none p h = ahead-cases p (ahead_at p) refl h

-- the code at a place, and those after it
pub record IsAhead (p : Place) (v : ℕ) : Type 0 where
  pub code : Code
  pub value : code.value ≡ v
  pub codes : ahead_at p ≡ code ∷ ahead_at (moved p)

ahead-here : (p : Place) (v : ℕ) (cs : List Code) → ahead_at p ≡ cs → code_at p ≡ Some v → IsAhead p v
ahead-here p v [] e h = absurd (some≢none v (sym h ∙ code_at_end p e))
ahead-here p v (c ∷ cs) e h = record {
  code = c;
  value = same_Some c.value v (sym (code_at_ahead p c cs e) ∙ h);
  codes = e ∙ ap (λ (x : List Code). c ∷ x) (sym (ahead_moved p c cs e));
}

pub ahead_some : (p : Place) (v : ℕ) → code_at p ≡ Some v → IsAhead p v
ahead_some p v h = ahead-here p v (ahead_at p) refl h

-- how many codes are ahead_at, one less past a code
pub left_moved : (p : Place) (v : ℕ) → code_at p ≡ Some v → length (ahead_at (moved p)) + 1 ≡ length (ahead_at p)
left_moved p v h =
    let a : IsAhead p v = ahead_some p v h in
    let e : length (ahead_at p) ≡ length (a.code ∷ ahead_at (moved p)) = ap length a.codes in
    omega arith

pub drop-more : {A : Type 0} → (n : ℕ) (xs : List A) → drop (suc n) xs ≡ rest_of (drop n xs)
drop-more zero [] = refl
drop-more zero (x ∷ xs) = refl
drop-more (suc n) [] = refl
drop-more (suc n) (x ∷ xs) = drop-more n xs

pub ahead-moved : (p : Place) → ahead_at (moved p) ≡ rest_of (ahead_at p)
unfolding ahead_at moved
ahead-moved p = rw add-one (drop-more p.at p.codes)
