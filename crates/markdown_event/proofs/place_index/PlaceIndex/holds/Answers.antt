-- A search by halving finds the place, or stands between those before it and those after it.
use Rattle.std.proofs.Common.{◌≡◌, ℕ, ◌<◌, ◌==◌, nat_cmp, get_or, true, false, Result, Ok, Err, List, ap, sym, ◌∙◌, subst, arith, inl, inr}
use Rattle.std.specs.Prelude.{is_ok}
use Rattle.std.specs.List.Sorted.{IsNonDecreasing, IsBinarySearchResult}
use Rattle.std.proofs.lemmas.Bool.{cases_lt}
use Rattle.std.proofs.lemmas.List.{get_or_default}
use Rattle.std.proofs.lemmas.List.Folds.{list_any_at, list_any_none}
use Rattle.std.proofs.lemmas.List.Sorted.{searched}
use Rattle.markdown_event.specs.PlaceIndex.{is_kept}
use Rattle.markdown_event.proofs.place_index.PlaceIndex.holds.Goals as goal

alike : (n m : ℕ) → n ≡ m → (n == m) ≡ true
alike n m e = grind (arith, e)

less : (n m : ℕ) → n < m → (n == m) ≡ false
less n m e = grind (arith, e)

more : (n m : ℕ) → m < n → (n == m) ≡ false
more n m e = grind (arith, e)

found : (xs : List ℕ) (at : ℕ) (r : Result ℕ ℕ) → IsBinarySearchResult (λ y. nat_cmp y at) xs r → IsNonDecreasing xs →
    is_ok r ≡ is_kept at xs
found xs at (Ok i) k up =
    let here = searched xs at (Ok i) k (λ a b le lt. up a b 0 le lt) in
    sym (list_any_at (λ n. n == at) xs i 0 here.0 (alike (get_or xs i 0) at here.1))
found xs at (Err i) k up =
    let here = searched xs at (Err i) k (λ a b le lt. up a b 0 le lt) in
    sym (list_any_none (λ n. n == at) xs (λ j d lt.
    elim (cases_lt j i) [
      | inl h ↦ less (get_or xs j d) at (subst (λ n. n < at) (get_or_default xs j 0 d lt) (here.1 j h))
      | inr h ↦ more (get_or xs j d) at (subst (λ n. at < n) (get_or_default xs j 0 d lt) (here.2 j h lt))
    ]))

pub returns : goal.returns
returns c =
    c.is_ok.ensures.value
    ∙ found c.as_slice.result.now c.args.at c.binary_search.result c.binary_search.ensures.position (subst (λ xs. IsNonDecreasing xs) (sym c.as_slice.ensures.value) c.self.invariant)
    ∙ ap (is_kept c.args.at) (c.as_slice.ensures.value ∙ c.self.view_is)
