-- Names in order, and what the first that does not come before a text says of all.
use Rattle.std.proofs.Common.{◌≡◌, ◌∙◌, sym, ap, refl, subst, ℕ, Bool, true, false, ◌&&◌, ◌||◌, ◌==◌, ◌<◌, ◌≤◌, List, [], ◌∷◌, length, get_or, arith, map, nat_lt}
use Rattle.std.specs.List.{AllWithin, list_any, starts_with}
use Rattle.std.specs.List.Sorted.{IsSortedBy, IsPartitionedBy}
use Rattle.std.specs.Ordering.{is_lt, nat_cmp, ordering_then, ordering_index, MatchOrdering}
use Rattle.std.proofs.Common.{Ordering, Less, Equal, Greater}
use Rattle.std.specs.Cmp.Lexicographic.{slice_cmp}
use Rattle.std.specs.Str.{bytes_eq}
use Rattle.std.proofs.lemmas.Bool.{false≢true, eqb-true, and_parts, ltb-true, ltb-false, false_from_ne_true}
use Rattle.std.proofs.lemmas.Bool.Decides.{Decides-eqb}
use Rattle.std.proofs.lemmas.Cmp.{nat_cmp_total, nat_list_cmp_total, ranked, tied_itself, is_lt_index}
use Rattle.std.proofs.lemmas.List.{get_or_default}
use Rattle.std.proofs.lemmas.Slice.Eq.{bytes_eq-Decides}
use Rattle.std.proofs.lemmas.List.Folds.{list_any_at, list_any_none}
use Rattle.std.proofs.lemmas.List.Sorted.{sorted_far, ranks_by, searchable_from_sorted}
use Rattle.markdown_notes.specs.NameIndex.{comes_before}

not-less : (a b : ℕ) (r : Ordering) → is_lt (ordering_then (nat_cmp a b) r) ≡ false →
    (b ≤ a) × (a ≡ b → is_lt r ≡ false)
not-less a b r h = go (nat_cmp a b) (ranked a b (nat_cmp a b) refl) h
  where
    go : (o : Ordering) → MatchOrdering o (a < b) (a ≡ b) (b < a) → is_lt (ordering_then o r) ≡ false →
        (b ≤ a) × (a ≡ b → is_lt r ≡ false)
    go Less m h = cc
    go Equal m h = (omega (arith, m), λ _. h)
    go Greater m h = (omega (arith, m), λ e. absurd (omega (arith, m, e)))

-- what stands between a front and a text that begins so begins so
pub begins-between : (front name text : List ℕ) → starts_with (◌==◌) text front ≡ true →
    comes_before front name ≡ false → comes_before name text ≡ false → starts_with (◌==◌) name front ≡ true
begins-between [] name text b f t = refl
begins-between (x ∷ front) [] text b f t = cc
begins-between (x ∷ front) (y ∷ name) [] b f t = cc
begins-between (x ∷ front) (y ∷ name) (z ∷ text) b f t =
    let ends = and_parts (x == z) (starts_with (◌==◌) text front) b in
    let low = not-less y x (slice_cmp nat_cmp name front) f in
    let high = not-less z y (slice_cmp nat_cmp text name) t in
    let same : x ≡ z = (Decides-eqb x z).0 ends.0 in
    let first : y ≡ x = omega (arith, low.0, high.0, same) in
    let last : z ≡ y = omega (arith, low.0, high.0, same) in
    let rest : starts_with (◌==◌) name front ≡ true = begins-between front name text ends.1 (low.1 first) (high.1 last) in
    ap (λ b. b && starts_with (◌==◌) name front) ((Decides-eqb x y).1 (sym first)) ∙ rest

-- a text that begins so does not come before it
pub begins-after : (front text : List ℕ) → starts_with (◌==◌) text front ≡ true → comes_before front text ≡ false
begins-after [] [] b = refl
begins-after [] (y ∷ text) b = refl
begins-after (x ∷ front) [] b = cc
begins-after (x ∷ front) (y ∷ text) b =
    let ends = and_parts (x == y) (starts_with (◌==◌) text front) b in
    let same : x ≡ y = (Decides-eqb x y).0 ends.0 in
    subst (λ z. is_lt (ordering_then (nat_cmp z x) (slice_cmp nat_cmp text front)) ≡ false) same (ap (λ o. is_lt (ordering_then o (slice_cmp nat_cmp text front))) (tied_itself nat_cmp_total x) ∙ begins-after front text ends.1)

-- names in order, from i on not before a text: the test of those that begin like the text is that of the first
module _ {X : Type 0} (bytes : X → List ℕ) (xs : List X) (i : ℕ) (text : List ℕ)
    (sorted : IsSortedBy (λ a b. is_lt (slice_cmp nat_cmp (bytes a) (bytes b))) xs)
    (before : AllWithin (λ x. comes_before text (bytes x) ≡ true) xs 0 i)
    (after : AllWithin (λ x. comes_before text (bytes x) ≡ false) xs i (length xs))
    (p : List ℕ → Bool)
    (behind : (name : List ℕ) → p name ≡ true → comes_before text name ≡ false)
    (closed : (low high : List ℕ) → p high ≡ true → comes_before text low ≡ false → comes_before low high ≡ false → p low ≡ true) where
  at-first : (k : ℕ) (d : X) → k < length xs → p (bytes (get_or xs k d)) ≡ true →
      (i < length xs) × (p (bytes (get_or xs i d)) ≡ true)
  at-first k d inside h = go (nat_lt k i) refl
    where
      go : (b : Bool) → nat_lt k i ≡ b → (i < length xs) × (p (bytes (get_or xs i d)) ≡ true)
      go true e = absurd (false≢true (sym (behind _ h) ∙ before k d (omega arith) (ltb-true k i e)))
      go false e =
          let from : i ≤ k = ltb-false k i e in
          (omega (arith, from, inside), closed _ _ h (after i d (omega arith) (omega (arith, from, inside))) (sorted_far _ (ranks_by nat_list_cmp_total bytes) xs sorted i k d from inside))

  pub found : (d : X) → i < length xs → p (bytes (get_or xs i d)) ≡ list_any (λ x. p (bytes x)) xs
  found d inside = go (p (bytes (get_or xs i d))) refl
    where
      go : (b : Bool) → p (bytes (get_or xs i d)) ≡ b → b ≡ list_any (λ x. p (bytes x)) xs
      go true e = sym (list_any_at (λ x. p (bytes x)) xs i d inside e)
      go false e =
          sym (list_any_none (λ x. p (bytes x)) xs (λ k c l. false_from_ne_true _ (λ h. false≢true (sym e ∙ ap (λ x. p (bytes x)) (get_or_default xs i d c inside) ∙ (at-first k c l h).1))))

  pub none : length xs ≤ i → false ≡ list_any (λ x. p (bytes x)) xs
  none past = sym (list_any_none (λ x. p (bytes x)) xs (λ k c l. false_from_ne_true _ (λ h. absurd (omega (arith, past, (at-first k c l h).0)))))

-- a name that comes neither before a text nor after it is the text
pub same-lists : (text name : List ℕ) → comes_before text name ≡ false → comes_before name text ≡ false → text ≡ name
same-lists [] [] f t = refl
same-lists [] (y ∷ name) f t = cc
same-lists (x ∷ text) [] f t = cc
same-lists (x ∷ text) (y ∷ name) f t =
    let low = not-less y x (slice_cmp nat_cmp name text) f in
    let high = not-less x y (slice_cmp nat_cmp text name) t in
    let first : y ≡ x = omega (arith, low.0, high.0) in
    let rest : text ≡ name = same-lists text name (low.1 first) (high.1 (sym first)) in
    (λ i. sym first i ∷ rest i)

pub same-between : (text low high : List ℕ) → bytes_eq text high ≡ true → comes_before text low ≡ false →
    comes_before low high ≡ false → bytes_eq text low ≡ true
same-between text low high e f t = grind (arith, bytes_eq-Decides, same-lists)

pub same-after : (text name : List ℕ) → bytes_eq text name ≡ true → comes_before text name ≡ false
same-after text name e =
    subst (λ x. comes_before text x ≡ false) ((bytes_eq-Decides text name).0 e) (ap is_lt (tied_itself nat_list_cmp_total text))

-- what a search by halving asks of names in order
pub comes-first : {X : Type 0} (bytes : X → List ℕ) (xs : List X) (text : List ℕ) →
    IsSortedBy (λ a b. is_lt (slice_cmp nat_cmp (bytes a) (bytes b))) xs →
    IsPartitionedBy (λ x. comes_before text (bytes x)) xs
comes-first bytes xs text sorted = λ i j d up inside h.
    let last : ordering_index (slice_cmp nat_cmp (bytes (get_or xs j d)) text) ≡ 0 = eqb-true _ _ (sym (is_lt_index (slice_cmp nat_cmp (bytes (get_or xs j d)) text)) ∙ h) in
    let rises : ordering_index (slice_cmp nat_cmp (bytes (get_or xs i d)) text) ≤ ordering_index (slice_cmp nat_cmp (bytes (get_or xs j d)) text) = searchable_from_sorted nat_list_cmp_total bytes xs text sorted i j d up inside in
    let first : ordering_index (slice_cmp nat_cmp (bytes (get_or xs i d)) text) ≡ 0 = omega (arith, rises, last) in
    is_lt_index (slice_cmp nat_cmp (bytes (get_or xs i d)) text) ∙ ap (λ n. n == 0) first

pub any_map : {A B : Type 0} → (p : B → Bool) (f : A → B) (xs : List A) →
    list_any p (map f xs) ≡ list_any (λ x. p (f x)) xs
any_map p f [] = refl
any_map p f (x ∷ xs) = ap (λ b. p (f x) || b) (any_map p f xs)
