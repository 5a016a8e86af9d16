-- Where opening brackets stand, and how many stand between two indexes.
use Rattle.std.proofs.Common.{◌≡◌, ℕ, zero, suc, ◌+◌, ◌-◌, ◌<◌, ◌≤◌, ◌⊎◌, ◌==◌, ◌&&◌, nat_le, nat_lt, min, Bool, true, false, cond, if◌then◌else◌, Some, None, List, [], ◌∷◌, ◌++◌, length, drop, take, get_or, inl, inr, refl, sym, ap, subst, ◌∙◌, map, append-nil, length-take, length-drop, arith, Result, Ok, Err, is_ok}
use Rattle.std.specs.Result.{MatchResult}
use Rattle.std.specs.List.{count_by, list_any, slice_range}
use Rattle.std.specs.List.Sorted.{IsNonDecreasingBy, IsPartitionPoint, IsPermutation}
use Rattle.std.proofs.lemmas.Bool.{and_parts, cases_lt, eqb-true, le-leb, leb-true, lt-ltb, le-ltb}
use Rattle.std.proofs.lemmas.List.{take_more, take_all, get_or-drop, get_or_default}
use Rattle.std.proofs.lemmas.List.Folds.{list_any_at, list_any_none}
use Rattle.std.proofs.lemmas.List.Sorted.{list_any-IsPermutation}
use Rattle.std.proofs.lemmas.List.Sums.{sum_by-cons}
use Rattle.std.proofs.lemmas.Bool.Decides.{nat_tests}
use Rattle.markdown_content.specs.PlainBytes.{ArePlain, is_plain}
use Rattle.markdown_notes.specs.BracketIndex.{brackets_of, has_brackets, places_from, BracketPlaces, brackets_between, counted}
use Rattle.markdown_notes.proofs.NameOrder.{any_map}

-- How many numbers pass a test.

abbrev one : Bool → ℕ
one b = cond b 1 0

pub count-first : {X : Type 0} (p : X → Bool) (x : X) (xs : List X) → count_by p (x ∷ xs) ≡ one (p x) + count_by p xs
count-first p x xs = sum_by-cons (λ x. one (p x)) x xs

-- all before a place pass, and none from it on
pub count-point : {X : Type 0} (p : X → Bool) (xs : List X) (i : ℕ) → i ≤ length xs →
    IsPartitionPoint (λ x. p x ≡ true) (λ x. p x ≡ false) xs i → count_by p xs ≡ i
count-point p [] i inside h = omega (arith, inside)
count-point p (x ∷ xs) zero inside h =
    let here : p x ≡ false = h.1 0 x (omega arith) (omega arith) in
    let rest : count_by p xs ≡ 0 = count-point p xs 0 (omega arith) ((λ k d low high. absurd (omega (arith, high))), (λ k d low high. h.1 (suc k) d (omega arith) (omega (arith, high)))) in
    omega (arith, count-first p x xs, ap one here, rest)
count-point p (x ∷ xs) (suc i) inside h =
    let here : p x ≡ true = h.0 0 x (omega arith) (omega arith) in
    let rest : count_by p xs ≡ i = count-point p xs i (omega (arith, inside)) ((λ k d low high. h.0 (suc k) d (omega arith) (omega (arith, high))), (λ k d low high. h.1 (suc k) d (omega (arith, low)) (omega (arith, high)))) in
    omega (arith, count-first p x xs, ap one here, rest)

-- those below an index are those from another on, and those below that
abbrev within : ℕ → ℕ → ℕ → Bool
within from to p = nat_le from p && nat_lt p to

within-one : (from to p : ℕ) → from ≤ to → one (within from to p) + one (nat_lt p from) ≡ one (nat_lt p to)
within-one from to p up = elim (cases_lt p from) [
  | inl low ↦ rw (lt-ltb p from low, lt-ltb p to (omega (arith, low, up)), lt-leb-off from p low) refl
  | inr high ↦ rw (le-ltb p from high, le-leb from p high) (omega arith)
]
  where
    lt-leb-off : (a b : ℕ) → b < a → nat_le a b ≡ false
    lt-leb-off a b h = go (nat_le a b) refl
      where
        go : (t : Bool) → nat_le a b ≡ t → t ≡ false
        go true e = absurd (omega (arith, h, leb-true a b e))
        go false e = refl

pub count-within : (from to : ℕ) (xs : List ℕ) → from ≤ to →
    count_by (within from to) xs + count_by (λ p. nat_lt p from) xs ≡ count_by (λ p. nat_lt p to) xs
count-within from to [] up = refl
count-within from to (x ∷ xs) up =
    omega (arith, count-first (within from to) x xs, count-first (λ p. nat_lt p from) x xs, count-first (λ p. nat_lt p to) x xs, within-one from to x up, count-within from to xs up)

-- Places.

none-taken : (n : ℕ) → brackets_of (take n []) ≡ 0
none-taken zero = refl
none-taken (suc n) = refl

take-less : (i j : ℕ) (xs : List ℕ) → i ≤ j → take i (take j xs) ≡ take i xs
take-less zero j xs h = refl
take-less (suc i) zero xs h = absurd (omega (arith, h))
take-less (suc i) (suc j) [] h = refl
take-less (suc i) (suc j) (x ∷ xs) h = ap (λ ys. x ∷ ys) (take-less i j xs (omega (arith, h)))

-- with this index before the others, if a bracket stands there
abbrev with_place : Bool → ℕ → List ℕ → List ℕ
with_place is at next = if is then at ∷ next else next

count-place : (p : ℕ → Bool) (is : Bool) (at : ℕ) (next : List ℕ) →
    count_by p (with_place is at next) ≡ cond is (one (p at)) 0 + count_by p next
count-place p true at next = count-first p at next
count-place p false at next = omega arith

-- those before an index are the brackets of the bytes before it
pub places-before : (t at : ℕ) (bs : List ℕ) →
    count_by (λ p. nat_lt p t) (places_from at bs) ≡ brackets_of (take (t - at) bs)
places-before t at [] = sym (none-taken (t - at))
places-before t at (b ∷ bs) = go (places-before t (suc at) bs) (cases_lt at t)
  where
    nothing : (is : Bool) → cond is 0 0 + 0 ≡ 0
    nothing true = refl
    nothing false = refl

    go : count_by (λ p. nat_lt p t) (places_from (suc at) bs) ≡ brackets_of (take (t - suc at) bs) →
        (at < t) ⊎ (t ≤ at) →
        count_by (λ p. nat_lt p t) (places_from at (b ∷ bs)) ≡ brackets_of (take (t - at) (b ∷ bs))
    go rest (inl low) =
        let size : t - at ≡ suc (t - suc at) = omega (arith, low) in
        count-place (λ p. nat_lt p t) (b == 91) at (places_from (suc at) bs)
        ∙ ap (λ x. cond (b == 91) (one x) 0 + count_by (λ p. nat_lt p t) (places_from (suc at) bs)) (lt-ltb at t low)
        ∙ ap (λ n. cond (b == 91) 1 0 + n) rest
        ∙ sym (ap (λ n. brackets_of (take n (b ∷ bs))) size ∙ count-first (λ x. x == 91) b (take (t - suc at) bs))
    go rest (inr high) =
        let none : t - at ≡ 0 = omega (arith, high) in
        let later : t - suc at ≡ 0 = omega (arith, high) in
        count-place (λ p. nat_lt p t) (b == 91) at (places_from (suc at) bs)
        ∙ ap (λ x. cond (b == 91) (one x) 0 + count_by (λ p. nat_lt p t) (places_from (suc at) bs)) (le-ltb at t high)
        ∙ ap (λ n. cond (b == 91) 0 0 + n) (rest ∙ ap (λ n. brackets_of (take n bs)) later)
        ∙ nothing (b == 91)
        ∙ sym (ap (λ n. brackets_of (take n (b ∷ bs))) none)

-- Their order.

low-by : (is : Bool) (at : ℕ) (next : List ℕ) → ((i d : ℕ) → i < length next → suc at ≤ get_or next i d) → (i d : ℕ) →
    i < length (with_place is at next) → at ≤ get_or (with_place is at next) i d
low-by true at next low zero d h = omega arith
low-by true at next low (suc i) d h = omega (arith, low i d (omega (arith, h)))
low-by false at next low i d h = omega (arith, low i d h)

places-low : (at : ℕ) (bs : List ℕ) (i d : ℕ) → i < length (places_from at bs) → at ≤ get_or (places_from at bs) i d
places-low at [] i d h = absurd (omega (arith, h))
places-low at (b ∷ bs) i d h = low-by (b == 91) at _ (places-low (suc at) bs) i d h

abbrev PlacesRise : List ℕ → Type 0
PlacesRise ps = IsNonDecreasingBy (λ p. p) ps

rises-by : (is : Bool) (at : ℕ) (next : List ℕ) → ((i d : ℕ) → i < length next → suc at ≤ get_or next i d) →
    PlacesRise next → PlacesRise (with_place is at next)
rises-by true at next low up zero zero d le lt = omega arith
rises-by true at next low up zero (suc j) d le lt = omega (arith, low j d (omega (arith, lt)))
rises-by true at next low up (suc i) zero d le lt = absurd (omega (arith, le))
rises-by true at next low up (suc i) (suc j) d le lt = up i j d (omega (arith, le)) (omega (arith, lt))
rises-by false at next low up i j d le lt = up i j d le lt

places-rise : (at : ℕ) (bs : List ℕ) → PlacesRise (places_from at bs)
places-rise at [] = λ i j d le lt. absurd (omega (arith, lt))
places-rise at (b ∷ bs) = rises-by (b == 91) at _ (places-low (suc at) bs) (places-rise (suc at) bs)

pub found-rises : (at : ℕ) (bs found : List ℕ) → found ≡ places_from at bs → PlacesRise found
found-rises at bs found e = subst PlacesRise (sym e) (places-rise at bs)

-- The walk that finds them.

places-append : (at : ℕ) (xs : List ℕ) (b : ℕ) →
    places_from at (xs ++ b ∷ []) ≡ places_from at xs ++ with_place (b == 91) (at + length xs) []
places-append at [] b = ap (λ n. with_place (b == 91) n []) (omega arith)
places-append at (x ∷ xs) b = go (x == 91) (places-append (suc at) xs b ∙ ap (λ n. places_from (suc at) xs ++ with_place (b == 91) n []) (omega arith))
  where
    go : (is : Bool) → places_from (suc at) (xs ++ b ∷ []) ≡ places_from (suc at) xs ++ with_place (b == 91) (at + suc (length xs)) []
        → with_place is at (places_from (suc at) (xs ++ b ∷ [])) ≡ with_place is at (places_from (suc at) xs) ++ with_place (b == 91) (at + suc (length xs)) []
    go true h = ap (λ ps. at ∷ ps) h
    go false h = h

range-more : (bytes : List ℕ) (start at d : ℕ) → start ≤ at → at < length bytes →
    slice_range bytes start (at + 1) ≡ slice_range bytes start at ++ get_or bytes at d ∷ []
range-more bytes start at d from inside =
    let size : (at + 1) - start ≡ (at - start) + 1 = omega (arith, from) in
    let here : start + (at - start) ≡ at = omega (arith, from) in
    ap (λ n. take n (drop start bytes)) size
    ∙ take_more (drop start bytes) (at - start) d (omega (arith, from, inside, length-drop start bytes))
    ∙ ap (λ x. slice_range bytes start at ++ x ∷ []) (get_or-drop start bytes (at - start) d ∙ ap (λ n. get_or bytes n d) here)

length-range : (bytes : List ℕ) (start at : ℕ) → start ≤ at → at < length bytes →
    start + length (slice_range bytes start at) ≡ at
length-range bytes start at from inside =
    omega (arith, length-take (at - start) (drop start bytes), length-drop start bytes, from, inside)

places-more : (bytes : List ℕ) (start at d : ℕ) → start ≤ at → at < length bytes →
    places_from start (slice_range bytes start (at + 1)) ≡ places_from start (slice_range bytes start at) ++ with_place (get_or bytes at d == 91) at []
places-more bytes start at d from inside =
    ap (places_from start) (range-more bytes start at d from inside)
    ∙ places-append start (slice_range bytes start at) (get_or bytes at d)
    ∙ ap (λ n. places_from start (slice_range bytes start at) ++ with_place (get_or bytes at d == 91) n []) (length-range bytes start at from inside)

pub places-start : (bytes : List ℕ) (start at : ℕ) (found : List ℕ) → at ≤ start → found ≡ [] →
    found ≡ places_from start (slice_range bytes start at)
places-start bytes start at found low e = grind (arith)

pub places-one : (bytes : List ℕ) (start at : ℕ) (found more : List ℕ) → start ≤ at → at < length bytes →
    get_or bytes at 0 ≡ 91 → found ≡ places_from start (slice_range bytes start at) → more ≡ found ++ at ∷ [] →
    more ≡ places_from start (slice_range bytes start (at + 1))
places-one bytes start at found more from inside is k e =
    e ∙ ap (λ ps. ps ++ at ∷ []) k
    ∙ sym (places-more bytes start at 0 from inside ∙ ap (λ x. places_from start (slice_range bytes start at) ++ with_place (x == 91) at []) is)

pub places-other : (bytes : List ℕ) (start at : ℕ) (found : List ℕ) → start ≤ at → at < length bytes →
    (get_or bytes at 0 ≡ 91 → ⊥) → found ≡ places_from start (slice_range bytes start at) →
    found ≡ places_from start (slice_range bytes start (at + 1))
places-other bytes start at found from inside other k =
    k ∙ sym (places-more bytes start at 0 from inside ∙ ap (λ is. places_from start (slice_range bytes start at) ++ with_place is at []) (off (get_or bytes at 0 == 91) refl) ∙ append-nil (places_from start (slice_range bytes start at)))
  where
    off : (is : Bool) → (get_or bytes at 0 == 91) ≡ is → is ≡ false
    off true e = absurd (other (eqb-true (get_or bytes at 0) 91 e))
    off false e = refl

-- past bytes none of which is a bracket
places-past : (bytes : List ℕ) (start d at : ℕ) (found : List ℕ) → (0 < d → start ≤ at) → at + d ≤ length bytes →
    ArePlain (91 ∷ []) bytes at (at + d) → found ≡ places_from start (slice_range bytes start at) →
    found ≡ places_from start (slice_range bytes start (at + d))
places-past bytes start zero at found from inside plain k =
    let same : at + 0 ≡ at = omega arith in
    k ∙ ap (λ n. places_from start (slice_range bytes start n)) (sym same)
places-past bytes start (suc d) at found from inside plain k =
    let low : start ≤ at = from (omega arith) in
    let next : at + 1 + d ≡ at + suc d = omega arith in
    places-past bytes start d (at + 1) found (λ some. omega (arith, low)) (omega (arith, inside)) (λ i up high. plain i (omega (arith, up)) (omega (arith, high)))
    (places-other bytes start at found low (omega (arith, inside)) (no-bracket (get_or bytes at 0) (plain at (omega arith) (omega arith))) k)
    ∙ ap (λ n. places_from start (slice_range bytes start n)) next
  where
    no-bracket : (b : ℕ) → is_plain (91 ∷ []) b ≡ true → b ≡ 91 → ⊥
    no-bracket b h e = grind (arith, nat_tests)

pub places-stretch : (bytes set : List ℕ) (start at to : ℕ) (found : List ℕ) → set ≡ 91 ∷ [] → at ≤ to → (at < to → start ≤ at) →
    to ≤ length bytes → ArePlain set bytes at to → found ≡ places_from start (slice_range bytes start at) →
    found ≡ places_from start (slice_range bytes start to)
places-stretch bytes set start at to found is up from inside plain k =
    let size : at + (to - at) ≡ to = omega (arith, up) in
    places-past bytes start (to - at) at found (λ some. from (omega (arith, some))) (omega (arith, size, inside)) (λ i low high. ap (λ s. is_plain s (get_or bytes i 0)) (sym is) ∙ plain i low (omega (arith, high, size))) k
    ∙ ap (λ n. places_from start (slice_range bytes start n)) size

-- where the walk ends
pub places-end : (bytes : List ℕ) (start end at : ℕ) (found : List ℕ) → at ≡ min end (length bytes) →
    found ≡ places_from start (slice_range bytes start at) → found ≡ places_from start (slice_range bytes start end)
places-end bytes start end at found e k = k ∙ ap (places_from start) (go (cases_lt (length bytes) end))
  where
    go : (length bytes < end) ⊎ (end ≤ length bytes) → slice_range bytes start at ≡ slice_range bytes start end
    go (inl past) =
        let last : at ≡ length bytes = omega (arith, e, past) in
        take_all (at - start) (drop start bytes) (omega (arith, last, length-drop start bytes))
        ∙ sym (take_all (end - start) (drop start bytes) (omega (arith, past, length-drop start bytes)))
    go (inr inside) =
        let last : at ≡ end = omega (arith, e, inside) in
        ap (λ n. slice_range bytes start n) last

-- How many stand between two indexes.

-- those from an index up to another
pub count-between : (from to i j : ℕ) (ps : List ℕ) → from ≤ to → i ≤ length ps → j ≤ length ps
    → IsPartitionPoint (λ p. nat_lt p from ≡ true) (λ p. nat_lt p from ≡ false) ps i → IsPartitionPoint (λ p. nat_lt p to ≡ true) (λ p. nat_lt p to ≡ false) ps j
    → j ≡ count_by (within from to) ps + i
count-between from to i j ps up a b h k =
    sym (count-point (λ p. nat_lt p to) ps j b k) ∙ sym (count-within from to ps up) ∙ ap (λ n. count_by (within from to) ps + n) (count-point (λ p. nat_lt p from) ps i a h)

-- what is counted of a document is how many its bytes between have
pub counted-is : (bytes : List ℕ) (start end from to n : ℕ) → counted (brackets_between bytes start end) from to ≡ Some n
    → (start ≤ from) × (n + brackets_of (slice_range bytes start from) ≡ brackets_of (slice_range bytes start to))
counted-is bytes start end from to n h = go (nat_le start from && (nat_le from to && nat_le to end)) refl h
  where
    found : List ℕ
    found = places_from start (slice_range bytes start end)

    known : (a b : ℕ) → Some a ≡ Some b → a ≡ b
    known a b e = cc

    below : (t : ℕ) → t ≤ end → count_by (λ p. nat_lt p t) found ≡ brackets_of (slice_range bytes start t)
    below t h = places-before t start (slice_range bytes start end) ∙ ap brackets_of (take-less (t - start) (end - start) (drop start bytes) (omega (arith, h)))

    go : (b : Bool) → (nat_le start from && (nat_le from to && nat_le to end)) ≡ b → (if b then Some (count_by (within from to) found) else None) ≡ Some n
        → (start ≤ from) × (n + brackets_of (slice_range bytes start from) ≡ brackets_of (slice_range bytes start to))
    go true e k =
        let first = and_parts (nat_le start from) (nat_le from to && nat_le to end) e in
        let last = and_parts (nat_le from to) (nat_le to end) first.1 in
        let up : from ≤ to = leb-true from to last.0 in
        let high : to ≤ end = leb-true to end last.1 in
        (leb-true start from first.0, omega (arith, known _ n k, count-within from to found up, below from (omega (arith, up, high)), below to high))
    go false e k = cc

-- what is counted where all is known
pub counted-known : (b : BracketPlaces) (from to m : ℕ) → b.start ≤ from → from ≤ to → to ≤ b.end →
    m ≡ count_by (within from to) b.places → Some m ≡ counted b from to
counted-known b from to m first up last e = grind (arith, le-leb)

-- Numbers in order.

-- whether a search finds a number is whether it stands there
pub search-finds : (xs : List ℕ) (n : ℕ) (r : Result ℕ ℕ)
    → MatchResult r (λ i. (i < length xs) × (get_or xs i 0 ≡ n)) (λ i. (i ≤ length xs) × ((k : ℕ) → k < i → get_or xs k 0 < n) × ((k : ℕ) → i ≤ k → k < length xs → n < get_or xs k 0))
    → is_ok r ≡ list_any (λ x. x == n) xs
search-finds xs n (Ok i) h = sym (list_any_at (λ x. x == n) xs i 0 h.0 (ap (λ x. x == n) h.1 ∙ same n))
  where
    same : (a : ℕ) → (a == a) ≡ true
    same a = grind arith
search-finds xs n (Err i) h = sym (list_any_none (λ x. x == n) xs (λ k d l. off _ (λ e. other k d l (cases_lt k i) (eqb-true _ n e))))
  where
    off : (b : Bool) → (b ≡ true → ⊥) → b ≡ false
    off true h = absurd (h refl)
    off false h = refl

    other : (k d : ℕ) → k < length xs → (k < i) ⊎ (i ≤ k) → get_or xs k d ≡ n → ⊥
    other k d l (inl low) e = omega (arith, h.1 k low, get_or_default xs k d 0 l, e)
    other k d l (inr high) e = omega (arith, h.2 k high l, get_or_default xs k d 0 l, e)

-- a text among names has so many brackets where the number is among theirs
pub has-count : {X : Type 0} (bytes : X → List ℕ) (xs : List X) (counts : List ℕ) (n : ℕ) →
    IsPermutation (map (λ x. brackets_of (bytes x)) xs) counts →
    list_any (λ x. x == n) counts ≡ has_brackets n (map bytes xs)
has-count bytes xs counts n moved =
    sym (list_any-IsPermutation (λ x. x == n) (map (λ x. brackets_of (bytes x)) xs) counts moved)
    ∙ any_map (λ x. x == n) (λ x. brackets_of (bytes x)) xs
    ∙ sym (any_map (λ text. brackets_of text == n) bytes xs)
