-- Where the first definition with an identifier stands, and its target.
use Rattle.std.proofs.Common.{◌≡◌, ◌∙◌, ap, refl, subst, ℕ, suc, Bool, true, cond, List, [], ◌∷◌, ◌++◌, length, Option, None, Some, arith}
use Rattle.std.specs.Option.{option_map}
use Rattle.std.specs.Str.{bytes_eq}
use Rattle.std.proofs.lemmas.Slice.Eq.{bytes_eq-Decides}
use Rattle.markdown_html_model.specs.Html.{Defined, defined}
use Rattle.markdown_html.specs.FirstDefinitions.{first_with, target_with, target_at}

-- the last of some is found where no other is
abbrev pub or_last : Option ℕ → Bool → ℕ → Option ℕ
or_last (Some n) last count = Some n
or_last None last count = cond last (Some count) None

one-more : (first last : Bool) (o : Option ℕ) (count : ℕ) → cond first (Some 0) (option_map suc (or_last o last count)) ≡ or_last (cond first (Some 0) (option_map suc o)) last (suc count)
one-more first last o count = grind arith

first-pushed : (q : List ℕ) (ds : List Defined) (d : Defined) → first_with q (ds ++ d ∷ []) ≡ or_last (first_with q ds) (bytes_eq d.identifier q) (length ds)
first-pushed q [] d = refl
first-pushed q (x ∷ ds) d = grind (arith, first-pushed q ds d, one-more)

found-new : (last : Bool) (o : Option ℕ) (count : ℕ) → (last ≡ true → o ≡ None) → or_last o last count ≡ cond last (Some count) o
found-new last o count f = grind arith

found-before : (last : Bool) (o : Option ℕ) (count n : ℕ) → (last ≡ true → o ≡ Some n) → or_last o last count ≡ o
found-before last o count n f = grind arith

-- what holds of an identifier holds of each that is equal
of-equal : (a b : List ℕ) (ds : List Defined) (o : Option ℕ) → first_with a ds ≡ o → bytes_eq a b ≡ true → first_with b ds ≡ o
of-equal a b ds o h e = subst (λ q. first_with q ds ≡ o) ((bytes_eq-Decides a b).0 e) h

pub first-new : (q : List ℕ) (ds : List Defined) (d : Defined) → first_with d.identifier ds ≡ None → first_with q (ds ++ d ∷ []) ≡ cond (bytes_eq d.identifier q) (Some (length ds)) (first_with q ds)
first-new q ds d h = first-pushed q ds d ∙ found-new (bytes_eq d.identifier q) (first_with q ds) (length ds) (of-equal d.identifier q ds None h)

pub first-before : (q : List ℕ) (ds : List Defined) (d : Defined) (n : ℕ) → first_with d.identifier ds ≡ Some n → first_with q (ds ++ d ∷ []) ≡ first_with q ds
first-before q ds d n h = first-pushed q ds d ∙ found-before (bytes_eq d.identifier q) (first_with q ds) (length ds) n (of-equal d.identifier q ds (Some n) h)

target-more : (first : Bool) (d : Defined) (ds : List Defined) (o : Option ℕ) → cond first (target_with d) (target_at ds o) ≡ target_at (d ∷ ds) (cond first (Some 0) (option_map suc o))
target-more first d ds o = grind arith

-- the first definition with an identifier has the target that the identifier is defined to have
pub defined_first : (q : List ℕ) (ds : List Defined) → defined q ds ≡ target_at ds (first_with q ds)
defined_first q [] = refl
defined_first q (d ∷ ds) = ap (λ t. cond (bytes_eq d.identifier q) (target_with d) t) (defined_first q ds) ∙ target-more (bytes_eq d.identifier q) d ds (first_with q ds)
