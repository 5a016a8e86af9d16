-- A table in the order of its names: each name stands once, a binary search finds its row, and a cut between two parts tells in which a name would stand.
use Rattle.std.proofs.Common.{◌≡◌, ◌∙◌, sym, ap, refl, subst, ℕ, zero, suc, ◌<◌, add-one, get_or, Bool, true, false, not, ◌||◌, List, [], ◌∷◌, ◌++◌, length, Option, Some, None, Bor, Result, Ok, Err, inl, inr, arith}
use Rattle.std.specs.Cmp.Lexicographic.{slice_cmp, same_text}
use Rattle.std.specs.List.{list_all}
use Rattle.std.specs.List.Sorted.{IsSortedBy, IsBinarySearchResult, IsSearchInRange, IsPartitionPoint}
use Rattle.std.specs.Ordering.{is_lt, is_eq, nat_cmp, ordering_reverse}
use Rattle.std.specs.Str.{bytes_eq, byte}
use Rattle.std.specs.declared.cmp.Ordering.{Ordering}
use Rattle.std.specs.declared.cmp.Ordering.TheVariants.{Less, Equal, Greater}
use Rattle.std.specs.Result.{MatchResult}
use Rattle.std.proofs.lemmas.Bool.{false≢true, cases_lt, and_from, and_parts}
use Rattle.std.proofs.lemmas.Cmp.{nat_list_cmp_total}
use Rattle.std.proofs.lemmas.List.Folds.{list_all-append}
use Rattle.std.proofs.lemmas.List.Sorted.{searchable_from_sorted}
use Rattle.std.proofs.lemmas.Map.Text.{is_eq-slice_cmp}
use Rattle.std.proofs.lemmas.Slice.Eq.{bytes_eq-Decides}
use Rattle.markdown_util.specs.Reference.{Table, rows_of, is_value, named_value, has_name, has_distinct_names, is_below, is_below_first, is_sorted}
use Rattle.markdown_util.specs.TableParts.{IsTablePart}

less : (r : Ordering) → is_lt r ≡ true → r ≡ Less
less Less h = refl
less Equal h = absurd (false≢true h)
less Greater h = absurd (false≢true h)

below-trans : (x y z : List ℕ) → is_below x y ≡ true → is_below y z ≡ true → is_below x z ≡ true
below-trans x y z h k = ap is_lt (nat_list_cmp_total.trans x y z (less _ h) (less _ k))

not-back : (x y : List ℕ) → is_below x y ≡ true → is_below y x ≡ false
not-back x y h = ap is_lt (nat_list_cmp_total.antisymm y x ∙ ap ordering_reverse (less _ h))

not-itself : (x : List ℕ) → is_below x x ≡ false
not-itself x = go (is_below x x) refl
  where
    go : (b : Bool) → is_below x x ≡ b → is_below x x ≡ false
    go true h = not-back x x h
    go false h = h

-- A name is not found among rows that all pass a test which it fails.

apart : (p : List ℕ → Bool) (x y : List ℕ) → p x ≡ true → p y ≡ false → bytes_eq x y ≡ false
apart p x y h k = go (bytes_eq x y) refl
  where
    go : (b : Bool) → bytes_eq x y ≡ b → b ≡ false
    go false e = refl
    go true e = absurd (false≢true (sym k ∙ ap p (sym (same_text x y (sym e))) ∙ h))

none-passes : (p : List ℕ → Bool) (rows : Table) (name : List ℕ) → list_all (λ row. p row.0) rows ≡ true →
    p name ≡ false → named_value rows name ≡ None
none-passes p [] name h k = refl
none-passes p (row ∷ rows) name h k =
    let parts = and_parts (p row.0) (list_all (λ r. p r.0) rows) h in
    rw (apart p row.0 name parts.0 k, named_value) (none-passes p rows name parts.1 k)

no-name : (rows : Table) (name : List ℕ) → named_value rows name ≡ None → has_name rows name ≡ false
no-name [] name h = refl
no-name (row ∷ rows) name h = go (no-name rows name) (bytes_eq row.0 name) h
  where
    go : (named_value rows name ≡ None → has_name rows name ≡ false) → (b : Bool) →
        (elim b as (λ _. Option (List ℕ)) [ true ↦ Some row.1 | false ↦ named_value rows name ]) ≡ None →
        (b || has_name rows name) ≡ false
    go later true e = cc
    go later false e = later e

-- What is below the first name of a sorted table is below each.

further : (name x : List ℕ) (rows : Table) → is_below name x ≡ true → is_below_first x rows ≡ true →
    is_below_first name rows ≡ true
further name x [] h k = refl
further name x (row ∷ rows) h k = below-trans name x row.0 h k

above : (rows : Table) (name : List ℕ) → is_sorted rows ≡ true → is_below_first name rows ≡ true →
    list_all (λ row. is_below name row.0) rows ≡ true
above [] name s h = refl
above (row ∷ rows) name s h =
    let parts = and_parts (is_below_first row.0 rows) (is_sorted rows) s in
    and_from _ _ h (above rows name parts.1 (further name row.0 rows h parts.0))

none-above : (rows : Table) (name : List ℕ) → is_sorted rows ≡ true → is_below_first name rows ≡ true →
    named_value rows name ≡ None
none-above rows name s h = none-passes (is_below name) rows name (above rows name s h) (not-itself name)

pub distinct : (rows : Table) → is_sorted rows ≡ true → has_distinct_names rows ≡ true
distinct [] s = refl
distinct (row ∷ rows) s =
    let parts = and_parts (is_below_first row.0 rows) (is_sorted rows) s in
    and_from _ _ (ap not (no-name rows row.0 (none-above rows row.0 parts.1 parts.0))) (distinct rows parts.1)

-- A table in two parts.

named-back : (low high : Table) (name : List ℕ) → named_value low name ≡ None →
    named_value high name ≡ named_value (low ++ high) name
named-back [] high name h = refl
named-back (row ∷ low) high name h = go (named-back low high name) (bytes_eq row.0 name) h
  where
    go : (named_value low name ≡ None → named_value high name ≡ named_value (low ++ high) name) → (b : Bool) → (elim b as (λ _. Option (List ℕ)) [ true ↦ Some row.1 | false ↦ named_value low name ]) ≡ None
        → named_value high name ≡ (elim b as (λ _. Option (List ℕ)) [ true ↦ Some row.1 | false ↦ named_value (low ++ high) name ])
    go later true e = cc
    go later false e = later e

named-front : (low high : Table) (name : List ℕ) → named_value high name ≡ None →
    named_value low name ≡ named_value (low ++ high) name
named-front [] high name h = sym h
named-front (row ∷ low) high name h = go (named-front low high name h) (bytes_eq row.0 name)
  where
    go : named_value low name ≡ named_value (low ++ high) name → (b : Bool) → (elim b as (λ _. Option (List ℕ)) [ true ↦ Some row.1 | false ↦ named_value low name ])
        ≡ (elim b as (λ _. Option (List ℕ)) [ true ↦ Some row.1 | false ↦ named_value (low ++ high) name ])
    go later true = refl
    go later false = later

-- A part in order, its names between two cuts: none below the first, each below the second.

abbrev pub has_rows : Table → Bool
has_rows [] = false
has_rows (row ∷ rows) = true

pub record IsSortedPart (part : Table) (from next : List ℕ) : Type 0 where
  pub sorted : is_sorted part ≡ true
  pub names : list_all (λ row. is_value (byte "&") row.0) part ≡ true
  pub filled : has_rows part ≡ true
  pub first : is_below_first from part ≡ true
  pub before : list_all (λ row. is_below row.0 next) part ≡ true

sorted-join : (cut : List ℕ) (low high : Table) → is_sorted low ≡ true →
    list_all (λ row. is_below row.0 cut) low ≡ true → is_below_first cut high ≡ true → is_sorted high ≡ true →
    is_sorted (low ++ high) ≡ true
sorted-join cut [] high s all first t = t
sorted-join cut (row ∷ []) high s all first t =
    and_from _ _ (further row.0 cut high (and_parts (is_below row.0 cut) true all).0 first) t
sorted-join cut (row ∷ next ∷ low) high s all first t =
    let parts = and_parts (is_below row.0 next.0) (is_sorted (next ∷ low)) s in
    let rest = and_parts (is_below row.0 cut) (list_all (λ r. is_below r.0 cut) (next ∷ low)) all in
    and_from _ _ parts.0 (sorted-join cut (next ∷ low) high parts.1 rest.1 first t)

all-join : (p : List ℕ × List ℕ → Bool) (low high : Table) → list_all p low ≡ true → list_all p high ≡ true →
    list_all p (low ++ high) ≡ true
all-join p low high h k = rw (list_all-append p low high, h) k

all-below : (cut next : List ℕ) (rows : Table) → is_below cut next ≡ true →
    list_all (λ row. is_below row.0 cut) rows ≡ true → list_all (λ row. is_below row.0 next) rows ≡ true
all-below cut next [] h k = refl
all-below cut next (row ∷ rows) h k =
    let parts = and_parts (is_below row.0 cut) (list_all (λ r. is_below r.0 cut) rows) k in
    and_from _ _ (below-trans row.0 cut next parts.0 h) (all-below cut next rows h parts.1)

filled-join : (low high : Table) → has_rows low ≡ true → has_rows (low ++ high) ≡ true
filled-join [] high h = absurd (false≢true h)
filled-join (row ∷ low) high h = refl

first-join : (cut : List ℕ) (low high : Table) → has_rows low ≡ true → is_below_first cut low ≡ true →
    is_below_first cut (low ++ high) ≡ true
first-join cut [] high h k = absurd (false≢true h)
first-join cut (row ∷ low) high h k = k

-- one part, and the next from where it ends
pub order-join : (from cut next : List ℕ) (low high : Table) → is_below cut next ≡ true → IsSortedPart low from cut →
    IsSortedPart high cut next → IsSortedPart (low ++ high) from next
order-join from cut next low high h l r = record {
  sorted = sorted-join cut low high l.sorted l.before r.first r.sorted;
  names = all-join _ low high l.names r.names;
  filled = filled-join low high l.filled;
  first = first-join from low high l.filled l.first;
  before = all-join _ low high (all-below cut next low h l.before) r.before;
}

pub whole : (table rows : Table) (name from next : List ℕ) → IsSortedPart table from next → rows ≡ table →
    IsTablePart table rows name
whole table rows name from next order e =
    record { held = ap (λ t. named_value t name) e; sorted = subst (λ (t : Table). is_sorted t ≡ true) (sym e) order.sorted }

-- a name before a cut stands among the rows before it
pub part-before : (low high rows : Table) (name cut next : List ℕ) → IsSortedPart high cut next →
    is_below name cut ≡ true → IsTablePart low rows name → IsTablePart (low ++ high) rows name
part-before low high rows name cut next order h part = record {
  held = part.held ∙ named-front low high name (none-above high name order.sorted (further name cut high h order.first));
  sorted = part.sorted;
}

-- and any other name among the rest
pub part-after : (low high rows : Table) (name from cut : List ℕ) → IsSortedPart low from cut → is_below name cut ≡ false →
    IsTablePart high rows name → IsTablePart (low ++ high) rows name
part-after low high rows name from cut order h part = record {
  held = part.held ∙ named-back low high name (none-passes (λ x. is_below x cut) low name order.before h);
  sorted = part.sorted;
}

-- A binary search.

abbrev Rows : Type 0
Rows = List (Bor (List ℕ) × Bor (List ℕ))

-- neighbours rise, since each name is below the next
neighbours : (rows : Rows) → is_sorted (rows_of rows) ≡ true → (k : ℕ) (d : Bor (List ℕ) × Bor (List ℕ)) → suc k < length rows
    → is_below (get_or rows (suc k) d).0.now (get_or rows k d).0.now ≡ false
neighbours [] s k d within = absurd (omega arith)
neighbours (row ∷ []) s k d within = absurd (omega arith)
neighbours (row ∷ next ∷ rows) s zero d within =
    not-back row.0.now next.0.now (and_parts (is_below row.0.now next.0.now) (is_sorted (rows_of (next ∷ rows))) s).0
neighbours (row ∷ next ∷ rows) s (suc k) d within =
    neighbours (next ∷ rows) (and_parts (is_below row.0.now next.0.now) (is_sorted (rows_of (next ∷ rows))) s).1 k d (omega arith)

steps_rise : (rows : Rows) → is_sorted (rows_of rows) ≡ true →
    IsSortedBy (λ a b. is_lt (slice_cmp nat_cmp a.0.now b.0.now)) rows
steps_rise rows s k d low high = rw (add-one k) (neighbours rows s k d (omega arith))

-- how the name of a row compares with a name
abbrev pub compared : List ℕ → Bor (List ℕ) × Bor (List ℕ) → Ordering
compared name row = slice_cmp nat_cmp row.0.now name

pub equal-same : (x y : List ℕ) → slice_cmp nat_cmp x y ≡ Equal → x ≡ y
equal-same x y h = same_text x y (sym (sym (is_eq-slice_cmp x y) ∙ ap is_eq h))

found_at : (rows : Rows) (name : List ℕ) (i : ℕ) (d : Bor (List ℕ) × Bor (List ℕ)) → is_sorted (rows_of rows) ≡ true → i < length rows → (get_or rows i d).0.now ≡ name
    → named_value (rows_of rows) name ≡ Some (get_or rows i d).1.now
found_at [] name i d s within e = absurd (omega arith)
found_at (row ∷ rows) name zero d s within e = rw ((bytes_eq-Decides row.0.now name).1 e, named_value) refl
found_at (row ∷ rows) name (suc i) d s within e =
    let parts = and_parts (is_below_first row.0.now (rows_of rows)) (is_sorted (rows_of rows)) s in
    let later = found_at rows name i d parts.1 (omega arith) e in
    go (bytes_eq row.0.now name) refl later (none-above (rows_of rows) row.0.now parts.1 parts.0)
  where
    go : (b : Bool) → bytes_eq row.0.now name ≡ b → named_value (rows_of rows) name ≡ Some (get_or rows i d).1.now → named_value (rows_of rows) row.0.now ≡ None
        → (elim b as (λ _. Option (List ℕ)) [ true ↦ Some row.1.now | false ↦ named_value (rows_of rows) name ]) ≡ Some (get_or rows i d).1.now
    go false f later none = later
    go true f later none =
        let clash : None ≡ Some (get_or rows i d).1.now = sym none ∙ ap (named_value (rows_of rows)) (same_text row.0.now name (sym f)) ∙ later in cc

found_nowhere : (rows : Rows) (name : List ℕ) →
    ((k : ℕ) (d : Bor (List ℕ) × Bor (List ℕ)) → k < length rows → bytes_eq (get_or rows k d).0.now name ≡ false) →
    named_value (rows_of rows) name ≡ None
found_nowhere [] name h = refl
found_nowhere (row ∷ rows) name h =
    rw (h zero row (omega arith), named_value) (found_nowhere rows name (λ k d within. h (suc k) d (omega arith)))

-- what is found, and what is not
pub searched : (rows : Rows) (name : List ℕ) (d : Bor (List ℕ) × Bor (List ℕ)) (r : Result ℕ ℕ) → is_sorted (rows_of rows) ≡ true → IsSearchInRange r (length rows) → IsBinarySearchResult (compared name) rows r
    → MatchResult r (λ i. Some (get_or rows i d).1.now ≡ named_value (rows_of rows) name) (λ _. None ≡ named_value (rows_of rows) name)
searched rows name d (Ok i) s within same = sym (found_at rows name i d s within (equal-same _ _ (same d)))
searched rows name d (Err i) s within parted = sym (found_nowhere rows name differs)
  where
    at : IsPartitionPoint (λ row. compared name row ≡ Less) (λ row. compared name row ≡ Greater) rows i
    at = parted (searchable_from_sorted nat_list_cmp_total (λ row. row.0.now) rows name (steps_rise rows s))

    differs : (k : ℕ) (d : Bor (List ℕ) × Bor (List ℕ)) → k < length rows →
        bytes_eq (get_or rows k d).0.now name ≡ false
    differs k d inside = elim (cases_lt k i) [
      | inl low ↦ sym (is_eq-slice_cmp _ name) ∙ ap is_eq (at.0 k d (omega arith) low)
      | inr high ↦ sym (is_eq-slice_cmp _ name) ∙ ap is_eq (at.1 k d high inside)
    ]

-- A table halved at a row.

pub sorted-front : (low high : Table) → is_sorted (low ++ high) ≡ true → is_sorted low ≡ true
sorted-front [] high s = refl
sorted-front (row ∷ []) high s = refl
sorted-front (row ∷ next ∷ low) high s =
    let parts = and_parts (is_below row.0 next.0) (is_sorted (next ∷ (low ++ high))) s in
    and_from _ _ parts.0 (sorted-front (next ∷ low) high parts.1)

pub sorted-back : (low high : Table) → is_sorted (low ++ high) ≡ true → is_sorted high ≡ true
sorted-back [] high s = s
sorted-back (row ∷ low) high s =
    sorted-back low high (and_parts (is_below_first row.0 (low ++ high)) (is_sorted (low ++ high)) s).1

below-next : (low : Table) (row : List ℕ × List ℕ) (high : Table) → is_sorted (low ++ (row ∷ high)) ≡ true →
    list_all (λ r. is_below r.0 row.0) low ≡ true
below-next [] row high s = refl
below-next (first ∷ low) row high s =
    let parts = and_parts (is_below_first first.0 (low ++ (row ∷ high))) (is_sorted (low ++ (row ∷ high))) s in
    let each = above (low ++ (row ∷ high)) first.0 parts.1 parts.0 in
    let behind = (and_parts _ _ (sym (list_all-append _ low (row ∷ high)) ∙ each)).1 in
    and_from _ _ (and_parts _ _ behind).0 (below-next low row high parts.1)

-- no row before it has the name of the row, nor one that stands behind it in the order
none-before : (low : Table) (row : List ℕ × List ℕ) (high : Table) (name : List ℕ) → is_sorted (low ++ (row ∷ high)) ≡ true →
    list_all (λ r. is_below r.0 name) low ≡ true → named_value (row ∷ high) name ≡ named_value (low ++ (row ∷ high)) name
none-before low row high name s h = named-back low (row ∷ high) name (none-passes (λ x. is_below x name) low name h (not-itself name))

pub at-row : (low high : Table) (name text : List ℕ) → is_sorted (low ++ ((name, text) ∷ high)) ≡ true →
    named_value (low ++ ((name, text) ∷ high)) name ≡ Some text
at-row low high name text s =
    sym (none-before low (name, text) high name s (below-next low (name, text) high s)) ∙ rw ((bytes_eq-Decides name name).1 refl, named_value) refl

pub behind-row : (low : Table) (row : List ℕ × List ℕ) (high : Table) (name : List ℕ) → is_sorted (low ++ (row ∷ high)) ≡ true →
    is_below row.0 name ≡ true → named_value high name ≡ named_value (low ++ (row ∷ high)) name
behind-row low row high name s h =
    let passed : named_value (row ∷ high) name ≡ named_value high name = rw (apart (λ x. is_below x name) row.0 name h (not-itself name), named_value) refl in
    sym passed ∙ none-before low row high name s (all-below row.0 name low h (below-next low row high s))

pub before-row : (low : Table) (row : List ℕ × List ℕ) (high : Table) (name : List ℕ) → is_sorted (low ++ (row ∷ high)) ≡ true →
    is_below name row.0 ≡ true → named_value low name ≡ named_value (low ++ (row ∷ high)) name
before-row low row high name s h =
    named-front low (row ∷ high) name (none-above (row ∷ high) name (sorted-back low (row ∷ high) s) h)
