-- Names in order are the same however they were sorted.
use Rattle.std.proofs.Common.{◌≡◌, ◌∙◌, sym, ap, refl, subst, ℕ, ◌+◌, ◌<◌, ◌≤◌, suc, Bool, true, false, ◌||◌, if◌then◌else◌, List, [], ◌∷◌, length, get_or, map, arith}
use Rattle.std.specs.List.{list_any, sum_by}
use Rattle.std.specs.List.Sorted.{IsSortedBy, IsPermutation}
use Rattle.std.specs.Ordering.{is_lt, nat_cmp}
use Rattle.std.specs.Str.{bytes_eq}
use Rattle.std.specs.Cmp.Lexicographic.{slice_cmp}
use Rattle.std.proofs.lemmas.Cmp.{nat_list_cmp_total, tied_itself}
use Rattle.std.specs.Cmp.{IsStrictWeakOrder}
use Rattle.std.proofs.lemmas.List.Sums.{sum_by-cons}
use Rattle.std.proofs.lemmas.List.Sorted.{sorted_far, ranks_by, sum_by-IsPermutation}
use Rattle.std.proofs.lemmas.Slice.Eq.{bytes_eq-Decides}
use Rattle.markdown_notes.specs.NameIndex.{comes_before, with_name, in_order}
use Rattle.markdown_notes.proofs.NameOrder.{same-lists}

-- how often a name stands there

abbrev same : List ℕ → List ℕ → ℕ
same n m = if bytes_eq n m then 1 else 0

abbrev count : List ℕ → List (List ℕ) → ℕ
count n [] = 0
count n (m ∷ ms) = same n m + count n ms

count-sum : (n : List ℕ) (ms : List (List ℕ)) → sum_by (same n) ms ≡ count n ms
count-sum n [] = refl
count-sum n (m ∷ ms) = sum_by-cons (same n) m ms ∙ ap (λ s. same n m + s) (count-sum n ms)

with-count : (n m : List ℕ) (ms : List (List ℕ)) → count n (with_name m ms) ≡ same n m + count n ms
with-count n m [] = refl
with-count n m (k ∷ ms) = go (with-count n m ms) (comes_before m k)
  where
    go : count n (with_name m ms) ≡ same n m + count n ms → (b : Bool) →
        count n (if b then k ∷ with_name m ms else m ∷ k ∷ ms) ≡ same n m + (same n k + count n ms)
    go h true = omega (arith, h)
    go h false = refl

order-count : (n : List ℕ) (ds : List (List ℕ)) → count n (in_order ds) ≡ count n ds
order-count n [] = refl
order-count n (d ∷ ds) = with-count n d (in_order ds) ∙ ap (λ s. same n d + s) (order-count n ds)

-- names in order, from the first on

abbrev Low : List ℕ → List (List ℕ) → Type 0
Low m [] = Unit {0}
Low m (k ∷ ks) = (comes_before m k ≡ false) × Low m ks

abbrev Ordered : List (List ℕ) → Type 0
Ordered [] = Unit {0}
Ordered (m ∷ ms) = Low m ms × Ordered ms

weak : IsStrictWeakOrder (λ (x y : List ℕ). is_lt (slice_cmp nat_cmp x y))
weak = ranks_by nat_list_cmp_total (λ x. x)

not-both : (m k : List ℕ) → comes_before m k ≡ true → comes_before k m ≡ false
not-both m k h = weak.one_way k m h

no-later : (n k x : List ℕ) → comes_before n k ≡ false → comes_before k x ≡ false → comes_before n x ≡ false
no-later n k x h l = weak.chain x k n l h

low-below : (n k : List ℕ) (ks : List (List ℕ)) → comes_before n k ≡ false → Low k ks → Low n ks
low-below n k [] h l = tt
low-below n k (x ∷ ks) h l = (no-later n k x h l.0, low-below n k ks h l.1)

with-low : (m n : List ℕ) (ms : List (List ℕ)) → comes_before m n ≡ false → Low m ms → Low m (with_name n ms)
with-low m n [] h l = (h, tt)
with-low m n (k ∷ ks) h l = go (with-low m n ks h l.1) (comes_before n k)
  where
    go : Low m (with_name n ks) → (b : Bool) → Low m (if b then k ∷ with_name n ks else n ∷ k ∷ ks)
    go w true = (l.0, w)
    go w false = (h, l)

with-ordered : (n : List ℕ) (ms : List (List ℕ)) → Ordered ms → Ordered (with_name n ms)
with-ordered n [] o = (tt, tt)
with-ordered n (k ∷ ks) o = go (with-ordered n ks o.1) (comes_before n k) refl
  where
    go : Ordered (with_name n ks) → (b : Bool) → comes_before n k ≡ b →
        Ordered (if b then k ∷ with_name n ks else n ∷ k ∷ ks)
    go w true e = (with-low k n ks (not-both n k e) o.0, w)
    go w false e = ((e, low-below n k ks e o.0), o)

ordered-names : (ds : List (List ℕ)) → Ordered (in_order ds)
ordered-names [] = tt
ordered-names (d ∷ ds) = with-ordered d (in_order ds) (ordered-names ds)

-- a name that stands there does not come before the first
low-at : (m z : List ℕ) (ks : List (List ℕ)) → Low m ks → 1 ≤ count z ks → comes_before m z ≡ false
low-at m z [] l c = absurd (omega (arith, c))
low-at m z (k ∷ ks) l c = go (low-at m z ks l.1) (bytes_eq z k) refl c
  where
    go : (1 ≤ count z ks → comes_before m z ≡ false) → (b : Bool) → bytes_eq z k ≡ b →
        1 ≤ (if b then 1 else 0) + count z ks → comes_before m z ≡ false
    go w true e c = subst (λ x. comes_before m x ≡ false) (sym ((bytes_eq-Decides z k).0 e)) l.0
    go w false e c = w (omega (arith, c))

itself : (m : List ℕ) → comes_before m m ≡ false
itself m = ap is_lt (tied_itself nat_list_cmp_total m)

once : (m : List ℕ) → same m m ≡ 1
once m = ap (λ b. if b then 1 else 0) ((bytes_eq-Decides m m).1 refl)

unique : (xs ys : List (List ℕ)) → Ordered xs → Ordered ys → ((n : List ℕ) → count n xs ≡ count n ys) → xs ≡ ys
unique [] [] o p c = refl
unique [] (y ∷ ys) o p c = absurd (omega (arith, c y, once y))
unique (x ∷ xs) [] o p c = absurd (omega (arith, c x, once x))
unique (x ∷ xs) (y ∷ ys) o p c =
    let f : comes_before x y ≡ false = low-at x y (x ∷ xs) (itself x, o.0) (omega (arith, c y, once y)) in
    let t : comes_before y x ≡ false = low-at y x (y ∷ ys) (itself y, p.0) (omega (arith, c x, once x)) in
    let first : x ≡ y = same-lists x y f t in
    let rest : xs ≡ ys = unique xs ys o.1 p.1 (λ n. omega (arith, c n, ap (same n) first)) in
    (λ i. first i ∷ rest i)

-- what a sort leaves

low-from : {X : Type 0} (bytes : X → List ℕ) (m : List ℕ) (xs : List X) →
    ((k : ℕ) (d : X) → k < length xs → comes_before m (bytes (get_or xs k d)) ≡ false) → Low m (map bytes xs)
low-from bytes m [] h = tt
low-from bytes m (x ∷ xs) h = (h 0 x (omega arith), low-from bytes m xs (λ k d l. h (suc k) d (omega (arith, l))))

ordered-from : {X : Type 0} (bytes : X → List ℕ) (xs : List X) →
    ((i j : ℕ) (d : X) → i ≤ j → j < length xs → is_lt (slice_cmp nat_cmp (bytes (get_or xs j d)) (bytes (get_or xs i d))) ≡ false) →
    Ordered (map bytes xs)
ordered-from bytes [] s = tt
ordered-from bytes (x ∷ xs) s = (
  low-from bytes (bytes x) xs (λ k d l. s 0 (suc k) d (omega arith) (omega (arith, l))),
  ordered-from bytes xs (λ i j d up inside. s (suc i) (suc j) d (omega (arith, up)) (omega (arith, inside))),
)

pub sorted-names : {X : Type 0} (bytes : X → List ℕ) (ds : List (List ℕ)) (ys : List X) →
    IsPermutation ds (map bytes ys) → IsSortedBy (λ a b. is_lt (slice_cmp nat_cmp (bytes a) (bytes b))) ys →
    map bytes ys ≡ in_order ds
sorted-names bytes ds ys moved s =
    unique (map bytes ys) (in_order ds) (ordered-from bytes ys (sorted_far _ (ranks_by nat_list_cmp_total bytes) ys s)) (ordered-names ds)
    (λ n. sym (count-sum n (map bytes ys)) ∙ sum_by-IsPermutation (same n) ds (map bytes ys) moved ∙ count-sum n ds ∙ sym (order-count n ds))

-- a test finds a name whatever the order
with-any : (p : List ℕ → Bool) (n : List ℕ) (ms : List (List ℕ)) → list_any p (with_name n ms) ≡ (p n || list_any p ms)
with-any p n [] = refl
with-any p n (k ∷ ms) = go (with-any p n ms) (comes_before n k)
  where
    go : list_any p (with_name n ms) ≡ (p n || list_any p ms) → (b : Bool) →
        list_any p (if b then k ∷ with_name n ms else n ∷ k ∷ ms) ≡ (p n || (p k || list_any p ms))
    go h true = ap (λ b. p k || b) h ∙ swap (p k) (p n) (list_any p ms)
      where
        swap : (a b c : Bool) → (a || (b || c)) ≡ (b || (a || c))
        swap true true c = refl
        swap true false c = refl
        swap false true c = refl
        swap false false c = refl
    go h false = refl

pub any-order : (p : List ℕ → Bool) (ds : List (List ℕ)) → list_any p (in_order ds) ≡ list_any p ds
any-order p [] = refl
any-order p (d ∷ ds) = with-any p d (in_order ds) ∙ ap (λ b. p d || b) (any-order p ds)
