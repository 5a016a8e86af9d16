-- The number of an ordered item, from the values of the rest of a line.
use Rattle.std.proofs.Common.{◌≡◌, ℕ, zero, suc, ◌+◌, ◌-◌, ◌*◌, ◌≤◌, ◌<◌, min, refl, ap, ◌∙◌, sym, List, [], ◌∷◌, length, take, drop, get_or, Bool, true, false, ◌&&◌, ◌||◌, Some, None, arith, add-one}
use Rattle.std.specs.Prelude.{◌==◌, nat_le}
use Rattle.std.proofs.lemmas.Bool.Decides.{nat_tests}
use Rattle.std.proofs.Math.ListN.{drop_of_length-le}
use Rattle.markdown_content.specs.Codes.{Code}
use Rattle.markdown_model.specs.CodeTests.{values_of, is_between, is_digit}
use Rattle.markdown_model.specs.Grammar.{span}
use Rattle.markdown_block_model.specs.LineRests.{first_value, only_if}
use Rattle.markdown_block_model.specs.BlockTree.{ordered}
use Rattle.markdown_block_model.specs.ContainerStarts.{number_from, ordered_of, ordered_at}
use Rattle.markdown_block_line.specs.LineValues.{front, is_digit_value, number_values, power_of_ten}
use Rattle.markdown_block_line.proofs.RestValues.{by_bool, and-none, front-of, front-le, front-pass, front-stop, span-pass, span-stop, front-values, values-length}

power-positive : (k : ℕ) → 1 ≤ power_of_ten k
power-positive zero = omega arith
power-positive (suc k) = omega (arith, power-positive k)

power-grows : (k m : ℕ) → k ≤ m → power_of_ten k ≤ power_of_ten m
power-grows zero m h = power-positive m
power-grows (suc k) zero h = absurd (omega (arith, h))
power-grows (suc k) (suc m) h = omega (arith, power-grows k m (omega (arith, h)))

pub power-fits : (k : ℕ) → k < 9 → power_of_ten k ≤ 100000000
power-fits k h = power-grows k 8 (omega arith)

pub power-more : (k : ℕ) → power_of_ten (k + 1) ≡ 10 * power_of_ten k
power-more k = ap power_of_ten (add-one k)

pub digit-range : (n : ℕ) → is_digit_value n ≡ true → (48 ≤ n) × (n ≤ 57)
digit-range n h = (grind (arith, nat_tests, h), grind (arith, nat_tests, h))

-- one digit more
last-number : (n : ℕ) (ns : List ℕ) (k d : ℕ) → k < length ns → number_values n (take (suc k) ns) ≡ number_values n (take k ns) * 10 + (get_or ns k d - 48)
last-number n [] k d h = absurd (omega arith)
last-number n (v ∷ vs) zero d h = refl
last-number n (v ∷ vs) (suc k) d h = last-number (n * 10 + (v - 48)) vs k d (omega arith)

pub number-more : (ns : List ℕ) (k d m : ℕ) → k < length ns → m ≡ number_values 0 (take k ns) → m * 10 + (get_or ns k d - 48) ≡ number_values 0 (take (k + 1) ns)
number-more ns k d m h e = ap (λ j. j * 10 + (get_or ns k d - 48)) e ∙ sym (ap (λ j. number_values 0 (take j ns)) (add-one k) ∙ last-number 0 ns k d h)

number-of : (n : ℕ) (cs : List Code) → number_from n cs ≡ number_values n (values_of cs)
number-of n [] = refl
number-of n (c ∷ cs) = number-of (n * 10 + (c.value - 48)) cs

-- what stands first and passes, and what stands behind it

span-front : (p : Code → Bool) (cs : List Code) → (span p cs).0 ≡ take (length (span p cs).0) cs
span-front p [] = refl
span-front p (c ∷ cs) = by_bool (p c)
    (λ (e : p c ≡ true). rw (span-pass p c cs e) (ap (λ (l : List Code). c ∷ l) (span-front p cs)))
    (λ (e : p c ≡ false). rw (span-stop p c cs e) refl)

span-rest : (p : Code → Bool) (cs : List Code) → (span p cs).1 ≡ drop (length (span p cs).0) cs
span-rest p [] = refl
span-rest p (c ∷ cs) = by_bool (p c)
    (λ (e : p c ≡ true). rw (span-pass p c cs e) (span-rest p cs))
    (λ (e : p c ≡ false). rw (span-stop p c cs e) refl)

front-passes : (p : ℕ → Bool) (ns : List ℕ) (k d : ℕ) → k < front p ns → p (get_or ns k d) ≡ true
front-passes p [] k d h = absurd (omega arith)
front-passes p (n ∷ ns) zero d h = by_bool (p n) (λ (e : p n ≡ true). e) (λ (e : p n ≡ false). absurd (omega (arith, h, front-stop p n ns e)))
front-passes p (n ∷ ns) (suc k) d h = by_bool (p n)
    (λ (e : p n ≡ true). front-passes p ns k d (omega (arith, h, front-pass p n ns e)))
    (λ (e : p n ≡ false). absurd (omega (arith, h, front-stop p n ns e)))

value-at : (cs : List Code) (ns : List ℕ) (k d : ℕ) → values_of cs ≡ ns → k < length ns → first_value (drop k cs) ≡ get_or ns k d
value-at cs ns k d h l = here cs k (omega (arith, l, ap length h)) ∙ ap (λ (vs : List ℕ). get_or vs k d) h
  where
    here : (cs : List Code) (k : ℕ) → k < length (values_of cs) → first_value (drop k cs) ≡ get_or (values_of cs) k d
    here [] k l = absurd (omega arith)
    here (c ∷ cs) zero l = refl
    here (c ∷ cs) (suc k) l = here cs k (omega arith)

-- by how many digits there are, and what stands behind them
ordered-by : (cs : List Code) (ns : List ℕ) (m v : ℕ) (a b : Bool) → values_of cs ≡ ns → front is_digit_value ns ≡ m → first_value (drop m cs) ≡ v → is_between 1 9 m ≡ a → (v == 46 || v == 41) ≡ b
    → ordered_at cs ≡ only_if (a && b) (ordered v (number_values 0 (take m ns)), m + 1)
ordered-by cs ns m v a b h e f x y =
    let l : length (span is_digit cs).0 ≡ m = front-of is_digit_value cs ∙ ap (front is_digit_value) h ∙ e in
    let s : (span is_digit cs).0 ≡ take m cs = span-front is_digit cs ∙ ap (λ j. take j cs) l in
    let r : first_value (span is_digit cs).1 ≡ v = ap first_value (span-rest is_digit cs ∙ ap (λ j. drop j cs) l) ∙ f in
    let n : number_from 0 (span is_digit cs).0 ≡ number_values 0 (take m ns) = ap (number_from 0) s ∙ number-of 0 (take m cs) ∙ ap (number_values 0) (front-values m cs ns h) in
    ap (ordered_of (span is_digit cs).0) r
    ∙ ap (λ j. only_if (is_between 1 9 j && (v == 46 || v == 41)) (ordered v (number_from 0 (span is_digit cs).0), j + 1)) l
    ∙ ap (λ j. only_if (is_between 1 9 m && (v == 46 || v == 41)) (ordered v j, m + 1)) n
    ∙ ap (λ w. only_if (w && (v == 46 || v == 41)) (ordered v (number_values 0 (take m ns)), m + 1)) x
    ∙ ap (λ w. only_if (a && w) (ordered v (number_values 0 (take m ns)), m + 1)) y

ordered-out : (cs : List Code) (ns : List ℕ) → values_of cs ≡ ns → is_between 1 9 (front is_digit_value ns) ≡ false → ordered_at cs ≡ None
ordered-out cs ns h x = ordered-by cs ns (front is_digit_value ns) _ false _ h refl refl x refl

pub ordered-none : (cs : List Code) (ns : List ℕ) (k : ℕ) → values_of cs ≡ ns → k ≡ min 9 (front is_digit_value ns) → k ≡ 0 → ordered_at cs ≡ None
ordered-none cs ns k h e z =
    let m : front is_digit_value ns ≡ 0 = omega (arith, e, z) in
    ordered-out cs ns h (ap (is_between 1 9) m)

only-none : {A : Type 0} (b : Bool) (x : A) → b ≡ false → only_if b x ≡ None
only-none b x e = ap (λ v. only_if v x) e

pub ordered-end : (cs : List Code) (ns : List ℕ) (k : ℕ) → values_of cs ≡ ns → k ≡ min 9 (front is_digit_value ns) → k ≡ length ns → ordered_at cs ≡ None
ordered-end cs ns k h e l =
    let m : front is_digit_value ns ≡ length ns = omega (arith, e, l, front-le is_digit_value ns) in
    let v : first_value (drop (length ns) cs) ≡ 0 = ap first_value (drop_of_length-le cs (omega (arith, values-length cs, ap length h))) in
    ordered-by cs ns (length ns) 0 _ false h m v refl refl ∙ only-none _ _ (and-none (is_between 1 9 (length ns)))

pub ordered-not : (cs : List Code) (ns : List ℕ) (k d v : ℕ) → values_of cs ≡ ns → k ≡ min 9 (front is_digit_value ns) → k < length ns → get_or ns k d ≡ v → (v == 46 || v == 41) ≡ false → ordered_at cs ≡ None
ordered-not cs ns k d v h e l g t = by_bool (nat_le (front is_digit_value ns) 9)
    (λ (b : nat_le (front is_digit_value ns) 9 ≡ true).
    let s : front is_digit_value ns ≤ 9 = grind (arith, nat_tests, b) in
    let m : front is_digit_value ns ≡ k = omega (arith, e, s) in
    ordered-by cs ns k v _ false h m (value-at cs ns k d h l ∙ g) refl t ∙ only-none _ _ (and-none (is_between 1 9 k)))
    (λ (b : nat_le (front is_digit_value ns) 9 ≡ false).
    ordered-out cs ns h (ap (λ w. nat_le 1 (front is_digit_value ns) && w) b ∙ and-none (nat_le 1 (front is_digit_value ns))))

pub ordered-here : (cs : List Code) (ns : List ℕ) (k d v n : ℕ) → values_of cs ≡ ns → k ≡ min 9 (front is_digit_value ns) → (k ≡ 0 → ⊥) → k < length ns → get_or ns k d ≡ v → (v == 46 || v == 41) ≡ true
    → n ≡ number_values 0 (take k ns) → ordered_at cs ≡ Some (ordered v n, k + 1)
ordered-here cs ns k d v n h e z l g t w = by_bool (nat_le (front is_digit_value ns) 9)
    (λ (b : nat_le (front is_digit_value ns) 9 ≡ true).
    let s : front is_digit_value ns ≤ 9 = grind (arith, nat_tests, b) in
    let m : front is_digit_value ns ≡ k = omega (arith, e, s) in
    let q : k ≤ 9 = omega (arith, m, s) in
    let x : is_between 1 9 k ≡ true = grind (arith, nat_tests) in
    ordered-by cs ns k v true true h m (value-at cs ns k d h l ∙ g) x t ∙ ap (λ j. Some (ordered v j, k + 1)) (sym w))
    (λ (b : nat_le (front is_digit_value ns) 9 ≡ false).
    let s : 9 < front is_digit_value ns = grind (arith, nat_tests, b) in
    let r : k < front is_digit_value ns = omega (arith, e, s) in
    let y : is_digit_value v ≡ true = ap is_digit_value (sym g) ∙ front-passes is_digit_value ns k d r in
    let i = digit-range v y in
    absurd (grind (arith, nat_tests, t, i.0)))
