-- Places of a content that stand between characters.
use Rattle.std.proofs.Common.{◌≡◌, ℕ, zero, suc, nat_lt, true, false, Option, Some, None, List, [], ◌∷◌, ◌++◌, drop, slice_get, refl, ap, ◌∙◌}
use Rattle.std.specs.Str.{IsCharBoundary}
use Rattle.markdown_content.specs.Codes.{Code, stop_of, document_start}
use Rattle.markdown_content.specs.ListFunctions.{first_of, rest_of}
use Rattle.markdown_content.specs.Place.{Place, ahead_at, value_of}
use Rattle.markdown_event.specs.declared.event.Point.{Point}
use Rattle.markdown_model.specs.CodeTests.{is_later_byte}
use Rattle.markdown_plan.specs.Characters.{at_later, IsText}

get-here : (codes : List Code) (n : ℕ) (c : Code) (cs : List Code) → drop n codes ≡ c ∷ cs → slice_get codes n ≡ Some c
get-here [] zero c cs e = cc
get-here [] (suc n) c cs e = cc
get-here (x ∷ xs) zero c cs e = ap first_of e
get-here (x ∷ xs) (suc n) c cs e = get-here xs n c cs e

drop-next : (codes : List Code) (n : ℕ) (c : Code) (cs : List Code) → drop n codes ≡ c ∷ cs → drop (suc n) codes ≡ cs
drop-next [] zero c cs e = cc
drop-next [] (suc n) c cs e = cc
drop-next (x ∷ xs) zero c cs e = ap rest_of e
drop-next (x ∷ xs) (suc n) c cs e = drop-next xs n c cs e

-- where an ASCII code ends
pub marker-ends : (bytes : List ℕ) (p : Place) (c : Code) (cs : List Code) → IsText bytes p → ahead_at p ≡ c ∷ cs →
    nat_lt c.value 128 ≡ true → IsCharBoundary bytes c.stop.index
unfolding ahead_at
marker-ends bytes p c cs k e low = k.stop p.at c (get-here p.codes p.at c cs e) (by-next (slice_get p.codes (suc p.at)) refl)
  where
    by-next : (o : Option Code) → slice_get p.codes (suc p.at) ≡ o →
        at_later (value_of (slice_get p.codes (suc p.at))) ≡ false
    by-next None h = ap (λ x. at_later (value_of x)) h
    by-next (Some d) h = ap (λ x. at_later (value_of x)) h ∙ k.next p.at c d (get-here p.codes p.at c cs e) h low

-- where a code begins that is no later byte
pub code-begins : (bytes : List ℕ) (p : Place) (c : Code) (cs : List Code) → IsText bytes p → ahead_at p ≡ c ∷ cs →
    is_later_byte c ≡ false → IsCharBoundary bytes c.start.index
unfolding ahead_at
code-begins bytes p c cs k e h = k.first p.at c (get-here p.codes p.at c cs e) h

stops : (bytes : List ℕ) (p : Place) → IsText bytes p →
    (n : ℕ) (q : Point) (x : Code) (xs : List Code) (d : Code) (rest : List Code) →
    drop n p.codes ≡ x ∷ (xs ++ d ∷ rest) → is_later_byte d ≡ false → IsCharBoundary bytes (stop_of q (x ∷ xs)).index
stops bytes p k n q x [] d rest e h =
    k.stop n x (get-here p.codes n x (d ∷ rest) e) (ap (λ o. at_later (value_of o)) (get-here p.codes (suc n) d rest (drop-next p.codes n x (d ∷ rest) e)) ∙ h)
stops bytes p k n q x (y ∷ ys) d rest e h =
    stops bytes p k (suc n) x.stop y ys d rest (drop-next p.codes n x (y ∷ (ys ++ d ∷ rest)) e) h

-- where a text begins and ends that stands between an ASCII code and a code that is no later byte
pub text-places : (bytes : List ℕ) (p : Place) (c x : Code) (xs : List Code) (d : Code) (rest : List Code) → IsText bytes p → ahead_at p ≡ c ∷ x ∷ (xs ++ d ∷ rest) → nat_lt c.value 128 ≡ true → is_later_byte d ≡ false
    → IsCharBoundary bytes x.start.index × IsCharBoundary bytes (stop_of document_start (x ∷ xs)).index
unfolding ahead_at
text-places bytes p c x xs d rest k e low h =
    let behind : drop (suc p.at) p.codes ≡ x ∷ (xs ++ d ∷ rest) = drop-next p.codes p.at c (x ∷ (xs ++ d ∷ rest)) e in
    let here : slice_get p.codes (suc p.at) ≡ Some x = get-here p.codes (suc p.at) x (xs ++ d ∷ rest) behind in
    (k.first (suc p.at) x here (k.next p.at c x (get-here p.codes p.at c (x ∷ (xs ++ d ∷ rest)) e) here low), stops bytes p k (suc p.at) document_start x xs d rest behind h)
