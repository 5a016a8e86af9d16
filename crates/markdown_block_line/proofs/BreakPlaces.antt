-- Where a line has thematic breaks.
use Rattle.std.proofs.Common.{◌≡◌, ℕ, zero, suc, ◌+◌, ◌-◌, ◌≤◌, ◌<◌, refl, ap, ◌∙◌, sym, List, [], ◌∷◌, ◌++◌, length, take, drop, get_or, Bool, true, false, ◌&&◌, ◌||◌, arith, length-drop}
use Rattle.std.specs.Prelude.{if◌then◌else◌, ◌==◌, nat_le, nat_lt}
use Rattle.std.specs.List.{list_all}
use Rattle.std.proofs.lemmas.Bool.Decides.{nat_tests}
use Rattle.markdown_content.specs.Codes.{Code}
use Rattle.markdown_model.specs.CodeTests.{values_of, is_between}
use Rattle.markdown_block_model.specs.LeafStarts.{is_break}
use Rattle.markdown_block_line.specs.declared.breaks.BreakLens.{BreakLens}
use Rattle.markdown_block_line.specs.LineValues.{is_whitespace_value, is_row_value, onto_len, len_without_end, count_value, is_break_values}
use Rattle.markdown_block_line.specs.LineBreaks.{IsBreakLens, AreLensOf}
use Rattle.markdown_block_line.proofs.RestValues.{by_bool, and-none, values-drop, values-length, codes_with, row-space}
use Rattle.markdown_block_line.proofs.RestStarts.{any-break}

-- All values behind a place pass exactly if it stands behind the last that does not.
onto-first : (b : Bool) (l : ℕ) → (b && nat_le l 0) ≡ nat_le (onto_len b l) 0
onto-first true zero = refl
onto-first false zero = refl
onto-first true (suc l) = grind (arith, nat_tests)
onto-first false (suc l) = grind (arith, nat_tests)

onto-later : (b : Bool) (l k : ℕ) → nat_le l k ≡ nat_le (onto_len b l) (suc k)
onto-later true zero k = grind (arith, nat_tests)
onto-later false zero k = grind (arith, nat_tests)
onto-later b (suc l) k = grind (arith, nat_tests)

all-behind : (p : ℕ → Bool) (ns : List ℕ) (k : ℕ) → list_all p (drop k ns) ≡ nat_le (len_without_end p ns) k
all-behind p [] zero = refl
all-behind p [] (suc k) = grind (arith, nat_tests)
all-behind p (n ∷ ns) zero = ap (λ b. p n && b) (all-behind p ns 0) ∙ onto-first (p n) (len_without_end p ns)
all-behind p (n ∷ ns) (suc k) = all-behind p ns k ∙ onto-later (p n) (len_without_end p ns) k

-- How often a value stands behind a place.

count-next : (n : ℕ) (ns : List ℕ) (k d : ℕ) → k < length ns → count_value n (drop k ns) ≡ (if get_or ns k d == n then 1 else 0) + count_value n (drop (suc k) ns)
count-next n [] k d h = absurd (omega arith)
count-next n (v ∷ vs) zero d h = refl
count-next n (v ∷ vs) (suc k) d h = count-next n vs k d (omega arith)

pub count-more : (n : ℕ) (ns : List ℕ) (at k d c : ℕ) → suc k ≡ at → at ≤ length ns → get_or ns k d ≡ n → count_value n (drop at ns) ≡ c → count_value n (drop k ns) ≡ c + 1
count-more n ns at k d c e l g h =
    let x : (get_or ns k d == n) ≡ true = grind (arith, nat_tests) in
    let o : count_value n (drop k ns) ≡ 1 + count_value n (drop (suc k) ns) = count-next n ns k d (omega arith) ∙ ap (λ b. (if b then 1 else 0) + count_value n (drop (suc k) ns)) x in
    omega (arith, o, h, ap (λ j. count_value n (drop j ns)) e)

count-less : (n : ℕ) (ns : List ℕ) (k : ℕ) → count_value n (drop (suc k) ns) ≤ count_value n (drop k ns)
count-less n [] k = omega arith
count-less n (v ∷ vs) zero = omega arith
count-less n (v ∷ vs) (suc k) = count-less n vs k

count-falls : (n : ℕ) (ns : List ℕ) (k m : ℕ) → count_value n (drop (k + m) ns) ≤ count_value n (drop k ns)
count-falls n ns k zero =
    let e : k + 0 ≡ k = omega arith in
    omega (arith, ap (λ j. count_value n (drop j ns)) e)
count-falls n ns k (suc m) =
    let e : k + suc m ≡ suc (k + m) = omega arith in
    omega (arith, ap (λ j. count_value n (drop j ns)) e, count-falls n ns k m, count-less n ns (k + m))

count-behind : (n : ℕ) (ns : List ℕ) (k j : ℕ) → k ≤ j → count_value n (drop j ns) ≤ count_value n (drop k ns)
count-behind n ns k j h =
    let e : k + (j - k) ≡ j = omega arith in
    omega (arith, count-falls n ns k (j - k), ap (λ i. count_value n (drop i ns)) e)

pub thrice-here : (n : ℕ) (ns : List ℕ) (at j c : ℕ) → suc j ≡ at → count_value n (drop at ns) ≡ c → c ≤ 2 → 3 ≤ count_value n (drop j ns) → (k : ℕ) → nat_le 3 (count_value n (drop k ns)) ≡ nat_lt k at
thrice-here n ns at j c e h l t k = by_bool (nat_lt k at)
    (λ (b : nat_lt k at ≡ true).
    let i : k ≤ j = grind (arith, nat_tests, b, e) in
    let m : 3 ≤ count_value n (drop k ns) = omega (arith, t, count-behind n ns k j i) in
    let x : nat_le 3 (count_value n (drop k ns)) ≡ true = grind (arith, nat_tests, m) in
    x ∙ sym b)
    (λ (b : nat_lt k at ≡ false).
    let i : at ≤ k = grind (arith, nat_tests, b) in
    let m : count_value n (drop k ns) ≤ 2 = omega (arith, h, l, count-behind n ns at k i) in
    let x : nat_le 3 (count_value n (drop k ns)) ≡ false = grind (arith, nat_tests, m) in
    x ∙ sym b)

pub thrice-nowhere : (n : ℕ) (ns : List ℕ) (at c : ℕ) → at ≤ 0 → count_value n (drop at ns) ≡ c → c ≤ 2 → (k : ℕ) → nat_le 3 (count_value n (drop k ns)) ≡ nat_lt k 0
thrice-nowhere n ns at c z h l k =
    let i : at ≤ k = omega arith in
    let m : count_value n (drop k ns) ≤ 2 = omega (arith, h, l, count-behind n ns at k i) in
    grind (arith, nat_tests, m)

-- The breaks of one marker.

between-lens : (l from until k : ℕ) → from ≤ l → until ≤ l → (nat_le from k && nat_lt k until) ≡ (nat_le (l + 1 - until) (l - k) && nat_le (l - k) (l - from))
between-lens l from until k a b =
    let x : nat_le from k ≡ nat_le (l - k) (l - from) = grind (arith, nat_tests) in
    let y : nat_lt k until ≡ nat_le (l + 1 - until) (l - k) = grind (arith, nat_tests) in
    ap (λ v. v && nat_lt k until) x ∙ ap (λ v. nat_le (l - k) (l - from) && v) y ∙ swap (nat_le (l - k) (l - from)) (nat_le (l + 1 - until) (l - k))
  where
    swap : (a b : Bool) → (a && b) ≡ (b && a)
    swap true true = refl
    swap true false = refl
    swap false true = refl
    swap false false = refl

pub lens-of : (n : ℕ) (ns : List ℕ) (from until : ℕ) → from ≡ len_without_end (is_row_value n) ns → from ≤ length ns → until ≤ length ns
    → ((k : ℕ) → nat_le 3 (count_value n (drop k ns)) ≡ nat_lt k until) → AreLensOf n (record { least = length ns + 1 - until; most = length ns - from }) ns
lens-of n ns from until e a b t = λ k.
    ap (λ v. v && nat_le 3 (count_value n (drop k ns))) (all-behind (is_row_value n) ns k ∙ ap (λ j. nat_le j k) (sym e))
    ∙ ap (λ v. nat_le from k && v) (t k)
    ∙ between-lens (length ns) from until k a b
    ∙ ap (is_between (length ns + 1 - until) (length ns - from)) (sym (length-drop k ns))

-- The breaks of another marker than the last value that is no whitespace: there are none.

or-some : (b : Bool) → (b || true) ≡ true
or-some true = refl
or-some false = refl

row-as : (m : ℕ) (ns : List ℕ) → ((j : ℕ) → len_without_end (is_row_value 32) ns ≡ suc j → (get_or ns j 0 == m) ≡ false) → len_without_end (is_row_value m) ns ≡ len_without_end (is_row_value 32) ns
row-as m [] h = refl
row-as m (n ∷ ns) h =
    ap (onto_len (is_row_value m n)) (row-as m ns (λ j e. h (suc j) (ap (onto_len (is_row_value 32 n)) e))) ∙ onto (len_without_end (is_row_value 32) ns) h
  where
    onto : (l : ℕ) → ((j : ℕ) → onto_len (is_row_value 32 n) l ≡ suc j → (get_or (n ∷ ns) j 0 == m) ≡ false) → onto_len (is_row_value m n) l ≡ onto_len (is_row_value 32 n) l
    onto zero h = by_bool (is_row_value 32 n)
        (λ (e : is_row_value 32 n ≡ true).
        let w : is_row_value m n ≡ true = ap (λ b. n == m || b) (sym (row-space n) ∙ e) ∙ or-some (n == m) in
        ap (λ b. onto_len b 0) (w ∙ sym e))
        (λ (e : is_row_value 32 n ≡ false).
        let d : (n == m) ≡ false = h 0 (ap (λ b. onto_len b 0) e) in
        let w : is_row_value m n ≡ false = ap (λ b. b || is_whitespace_value n) d ∙ sym (row-space n) ∙ e in
        ap (λ b. onto_len b 0) (w ∙ sym e))
    onto (suc l) h = refl

count-none : (m : ℕ) (ns : List ℕ) → is_whitespace_value m ≡ false → list_all (is_row_value 32) ns ≡ true → count_value m ns ≡ 0
count-none m [] w h = refl
count-none m (n ∷ ns) w h = by_bool (n == m)
    (λ (e : (n == m) ≡ true).
    let s : n ≡ m = grind (arith, nat_tests, e) in
    let x : is_row_value 32 n ≡ false = row-space n ∙ ap is_whitespace_value s ∙ w in
    absurd (off (sym (ap (λ b. b && list_all (is_row_value 32) ns) x) ∙ h)))
    (λ (e : (n == m) ≡ false).
    let x : count_value m (n ∷ ns) ≡ 0 + count_value m ns = ap (λ b. (if b then 1 else 0) + count_value m ns) e in
    omega (arith, x, count-none m ns w (rest (is_row_value 32 n) h)))
  where
    off : false ≡ true → ⊥
    off h = grind (arith, h)

    rest : (b : Bool) → (b && list_all (is_row_value 32) ns) ≡ true → list_all (is_row_value 32) ns ≡ true
    rest true h = h
    rest false h = absurd (off h)

break-none : (m : ℕ) (ns : List ℕ) (k : ℕ) → is_whitespace_value m ≡ false → ((j : ℕ) → len_without_end (is_row_value 32) ns ≡ suc j → (get_or ns j 0 == m) ≡ false) → is_break_values m (drop k ns) ≡ false
break-none m ns k w h =
    let a : list_all (is_row_value m) (drop k ns) ≡ list_all (is_row_value 32) (drop k ns) =
    all-behind (is_row_value m) ns k ∙ ap (λ l. nat_le l k) (row-as m ns h) ∙ sym (all-behind (is_row_value 32) ns k) in
    by_bool (list_all (is_row_value 32) (drop k ns))
    (λ (e : list_all (is_row_value 32) (drop k ns) ≡ true).
    ap (λ c. list_all (is_row_value m) (drop k ns) && nat_le 3 c) (count-none m (drop k ns) w e) ∙ and-none (list_all (is_row_value m) (drop k ns)))
    (λ (e : list_all (is_row_value 32) (drop k ns) ≡ false). ap (λ b. b && nat_le 3 (count_value m (drop k ns))) (a ∙ e))

-- The breaks of all markers.

break-values : (cs : List Code) (ns : List ℕ) (k : ℕ) → values_of cs ≡ ns → is_break (drop k cs) ≡ (is_break_values 42 (drop k ns) || is_break_values 45 (drop k ns) || is_break_values 95 (drop k ns))
break-values cs ns k h = any-break (drop k cs) (drop k ns) (values-drop k cs ∙ ap (drop k) h)

length-values : (cs : List Code) (ns : List ℕ) (k : ℕ) → values_of cs ≡ ns → length (drop k ns) ≡ length (drop k cs)
length-values cs ns k h = ap (λ (vs : List ℕ). length (drop k vs)) (sym h) ∙ ap length (sym (values-drop k cs)) ∙ values-length (drop k cs)

nothing-between : (n : ℕ) → is_between 1 0 n ≡ false
nothing-between n = grind (arith, nat_tests)

pub lens-nowhere : (ns : List ℕ) → ((j : ℕ) → len_without_end (is_row_value 32) ns ≡ suc j → (get_or ns j 0 == 42 || get_or ns j 0 == 45 || get_or ns j 0 == 95) ≡ false) → IsBreakLens (record { least = 1; most = 0 }) ns
lens-nowhere ns h = λ cs k v.
    break-values cs ns k v
    ∙ ap (λ b. b || is_break_values 45 (drop k ns) || is_break_values 95 (drop k ns)) (break-none 42 ns k refl (λ j e. first (get_or ns j 0 == 42) _ _ (h j e)))
    ∙ ap (λ b. b || is_break_values 95 (drop k ns)) (break-none 45 ns k refl (λ j e. second (get_or ns j 0 == 42) (get_or ns j 0 == 45) _ (h j e)))
    ∙ break-none 95 ns k refl (λ j e. third (get_or ns j 0 == 42) (get_or ns j 0 == 45) (get_or ns j 0 == 95) (h j e))
    ∙ sym (nothing-between (length (drop k cs)))
  where
    first : (a b c : Bool) → (a || b || c) ≡ false → a ≡ false
    first true b c h = h
    first false b c h = refl

    second : (a b c : Bool) → (a || b || c) ≡ false → b ≡ false
    second true b c h = grind (arith, h)
    second false true c h = h
    second false false c h = refl

    third : (a b c : Bool) → (a || b || c) ≡ false → c ≡ false
    third true b c h = grind (arith, h)
    third false true c h = grind (arith, h)
    third false false c h = h

-- by the last value that is no whitespace
other-marker : (ns : List ℕ) (len j v m k : ℕ) → len ≡ len_without_end (is_row_value 32) ns → suc j ≡ len → get_or ns j 0 ≡ v → (v == m) ≡ false → is_whitespace_value m ≡ false → is_break_values m (drop k ns) ≡ false
other-marker ns len j v m k e s g n w = break-none m ns k w (λ i f. let o : i ≡ j = omega (arith, e, s, f) in ap (λ x. get_or ns x 0 == m) o ∙ ap (λ x. x == m) g ∙ n)

-- which of three is left
first-left : (a b c : Bool) → b ≡ false → c ≡ false → (a || b || c) ≡ a
first-left true b c e f = refl
first-left false b c e f = ap (λ v. v || c) e ∙ f

second-left : (a b c : Bool) → a ≡ false → c ≡ false → (a || b || c) ≡ b
second-left a true c e f = ap (λ v. v || true || c) e
second-left a false c e f = ap (λ v. v || false || c) e ∙ f

third-left : (a b c : Bool) → a ≡ false → b ≡ false → (a || b || c) ≡ c
third-left a b c e f = ap (λ v. v || b || c) e ∙ ap (λ v. v || c) f

one-marker : (ns : List ℕ) (len j v k : ℕ) → len ≡ len_without_end (is_row_value 32) ns → suc j ≡ len → get_or ns j 0 ≡ v → (v == 42 || v == 45 || v == 95) ≡ true
    → (is_break_values 42 (drop k ns) || is_break_values 45 (drop k ns) || is_break_values 95 (drop k ns)) ≡ is_break_values v (drop k ns)
one-marker ns len j v k e s g t = by_bool (v == 42)
    (λ (x : (v == 42) ≡ true).
    let i : v ≡ 42 = grind (arith, nat_tests, x) in
    let n : (v == 45) ≡ false = grind (arith, nat_tests, i) in
    let o : (v == 95) ≡ false = grind (arith, nat_tests, i) in
    first-left _ _ _ (other-marker ns len j v 45 k e s g n refl) (other-marker ns len j v 95 k e s g o refl) ∙ ap (λ m. is_break_values m (drop k ns)) (sym i))
    (λ (x : (v == 42) ≡ false). by_bool (v == 45)
    (λ (y : (v == 45) ≡ true).
    let i : v ≡ 45 = grind (arith, nat_tests, y) in
    let o : (v == 95) ≡ false = grind (arith, nat_tests, i) in
    second-left _ _ _ (other-marker ns len j v 42 k e s g x refl) (other-marker ns len j v 95 k e s g o refl) ∙ ap (λ m. is_break_values m (drop k ns)) (sym i))
    (λ (y : (v == 45) ≡ false).
    let z : (v == 95) ≡ true = sym (third-left (v == 42) (v == 45) (v == 95) x y) ∙ t in
    let i : v ≡ 95 = grind (arith, nat_tests, z) in
    third-left _ _ _ (other-marker ns len j v 42 k e s g x refl) (other-marker ns len j v 45 k e s g y refl) ∙ ap (λ m. is_break_values m (drop k ns)) (sym i)))

pub lens-marker : (ns : List ℕ) (len j v : ℕ) (b : BreakLens) → len ≡ len_without_end (is_row_value 32) ns → suc j ≡ len → get_or ns j 0 ≡ v → (v == 42 || v == 45 || v == 95) ≡ true → AreLensOf v b ns → IsBreakLens b ns
lens-marker ns len j v b e s g t a = λ cs k h.
    break-values cs ns k h ∙ one-marker ns len j v k e s g t ∙ a k ∙ ap (is_between b.least b.most) (length-values cs ns k h)

-- What a line's breaks are of what is left of it.

values-with : (ns : List ℕ) (cs : List Code) → values_of (codes_with ns ++ cs) ≡ ns ++ values_of cs
values-with [] cs = refl
values-with (n ∷ ns) cs = ap (λ vs. n ∷ vs) (values-with ns cs)

drop-with : (ns : List ℕ) (cs : List Code) (k : ℕ) → drop (length ns + k) (codes_with ns ++ cs) ≡ drop k cs
drop-with [] cs k =
    let e : 0 + k ≡ k = omega arith in
    ap (λ j. drop j cs) e
drop-with (n ∷ ns) cs k =
    let e : suc (length ns) + k ≡ suc (length ns + k) = omega arith in
    ap (λ j. drop j (codes_with (n ∷ ns) ++ cs)) e ∙ drop-with ns cs k

take-drop : (k : ℕ) (ns : List ℕ) → take k ns ++ drop k ns ≡ ns
take-drop zero ns = refl
take-drop (suc k) [] = refl
take-drop (suc k) (n ∷ ns) = ap (λ vs. n ∷ vs) (take-drop k ns)

pub breaks-behind : (b : BreakLens) (ns : List ℕ) (j : ℕ) → IsBreakLens b ns → IsBreakLens b (drop j ns)
breaks-behind b ns j h = λ cs k v.
    let f : List ℕ = take j ns in
    let w : values_of (codes_with f ++ cs) ≡ ns = values-with f cs ∙ ap (λ vs. f ++ vs) v ∙ take-drop j ns in
    ap is_break (sym (drop-with f cs k)) ∙ h (codes_with f ++ cs) (length f + k) w ∙ ap (λ (ds : List Code). is_between b.least b.most (length ds)) (drop-with f cs k)
