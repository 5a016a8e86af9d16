-- The values of a line, and its codes.
use Rattle.std.proofs.Common.{◌≡◌, ℕ, zero, suc, ◌-◌, ◌≤◌, ◌<◌, min, refl, ap, ◌∙◌, sym, List, [], ◌∷◌, length, take, drop, get_or, Bool, true, false, ◌&&◌, ◌||◌, arith, length-drop}
use Rattle.std.specs.Prelude.{if◌then◌else◌, ◌==◌}
use Rattle.std.specs.List.{list_all}
use Rattle.std.proofs.Math.Seq.{take-length}
use Rattle.std.proofs.Math.ListN.{drop_of_length-le}
use Rattle.markdown_content.specs.Codes.{Code, document_start, is_blank}
use Rattle.markdown_model.specs.CodeTests.{values_of, next_is}
use Rattle.markdown_model.specs.Grammar.{span}
use Rattle.markdown_block_model.specs.LineRests.{indent, trimmed, skip, is_blank_line, count_first, onto_end, without_end, trimmed_end}
use Rattle.markdown_block_line.specs.LineValues.{is_blank_value, is_whitespace_value, is_row_value, front, onto_len, len_without_end}

pub by_bool : {P : Type 0} (b : Bool) → (b ≡ true → P) → (b ≡ false → P) → P
by_bool true t f = t refl
by_bool false t f = f refl

pub and-none : (b : Bool) → (b && false) ≡ false
and-none true = refl
and-none false = refl

-- the rest from a place on, as a slice has it
pub rest-from : (k : ℕ) (ns : List ℕ) → take (length ns - k) (drop k ns) ≡ drop k ns
rest-from k ns = simp (← length-drop k ns) (take-length (drop k ns))

pub values-drop : (k : ℕ) (cs : List Code) → values_of (drop k cs) ≡ drop k (values_of cs)
values-drop zero cs = refl
values-drop (suc k) [] = refl
values-drop (suc k) (c ∷ cs) = values-drop k cs

pub values-take : (k : ℕ) (cs : List Code) → values_of (take k cs) ≡ take k (values_of cs)
values-take zero cs = refl
values-take (suc k) [] = refl
values-take (suc k) (c ∷ cs) = ap (λ vs. c.value ∷ vs) (values-take k cs)

pub values-length : (cs : List Code) → length (values_of cs) ≡ length cs
values-length [] = refl
values-length (c ∷ cs) = ap suc (values-length cs)

-- the codes of the rest from a place on, as a slice has it
pub rest-values : (k : ℕ) (cs : List Code) (ns : List ℕ) → values_of cs ≡ ns → values_of (drop k cs) ≡ take (length ns - k) (drop k ns)
rest-values k cs ns h = values-drop k cs ∙ ap (drop k) h ∙ sym (rest-from k ns)

-- the codes before a place
pub front-values : (k : ℕ) (cs : List Code) (ns : List ℕ) → values_of cs ≡ ns → values_of (take k cs) ≡ take k ns
front-values k cs ns h = values-take k cs ∙ ap (take k) h

-- whether the code at a place passes
pub next-at : (p : ℕ → Bool) (cs : List Code) (ns : List ℕ) (k d : ℕ) → values_of cs ≡ ns → k < length ns → next_is (λ (c : Code). p c.value) (drop k cs) ≡ p (get_or ns k d)
next-at p cs ns k d h l = here cs k (omega (arith, l, ap length h)) ∙ ap (λ (vs : List ℕ). p (get_or vs k d)) h
  where
    here : (cs : List Code) (k : ℕ) → k < length (values_of cs) → next_is (λ (c : Code). p c.value) (drop k cs) ≡ p (get_or (values_of cs) k d)
    here [] k l = absurd (omega arith)
    here (c ∷ cs) zero l = refl
    here (c ∷ cs) (suc k) l = here cs k (omega arith)

pub next-none : (p : Code → Bool) (cs : List Code) (ns : List ℕ) (k : ℕ) → values_of cs ≡ ns → length ns ≤ k → next_is p (drop k cs) ≡ false
next-none p cs ns k h l = ap (next_is p) (drop_of_length-le cs (omega (arith, l, ap length h, values-length cs)))

-- codes of these values
abbrev pub codes_with : List ℕ → List Code
codes_with [] = []
codes_with (n ∷ ns) = record { value = n; start = document_start; stop = document_start } ∷ codes_with ns

pub values-of-codes : (ns : List ℕ) → values_of (codes_with ns) ≡ ns
values-of-codes [] = refl
values-of-codes (n ∷ ns) = ap (λ vs. n ∷ vs) (values-of-codes ns)

-- How many stand first.

pub front-pass : (p : ℕ → Bool) (n : ℕ) (ns : List ℕ) → p n ≡ true → front p (n ∷ ns) ≡ suc (front p ns)
front-pass p n ns e = ap (λ b. if b then suc (front p ns) else 0) e

pub front-stop : (p : ℕ → Bool) (n : ℕ) (ns : List ℕ) → p n ≡ false → front p (n ∷ ns) ≡ 0
front-stop p n ns e = ap (λ b. if b then suc (front p ns) else 0) e

pub front-le : (p : ℕ → Bool) (ns : List ℕ) → front p ns ≤ length ns
front-le p [] = omega arith
front-le p (n ∷ ns) = by_bool (p n)
    (λ (e : p n ≡ true). let k : front p (n ∷ ns) ≡ suc (front p ns) = front-pass p n ns e in omega (arith, k, front-le p ns))
    (λ (e : p n ≡ false). let k : front p (n ∷ ns) ≡ 0 = front-stop p n ns e in omega (arith, k))

pub front-more : (p : ℕ → Bool) (ns : List ℕ) (k d : ℕ) → k < length ns → k ≤ front p ns → p (get_or ns k d) ≡ true → suc k ≤ front p ns
front-more p [] k d h f e = absurd (omega arith)
front-more p (n ∷ ns) zero d h f e = let x : front p (n ∷ ns) ≡ suc (front p ns) = front-pass p n ns e in omega (arith, x)
front-more p (n ∷ ns) (suc k) d h f e = by_bool (p n)
    (λ (b : p n ≡ true). let x : front p (n ∷ ns) ≡ suc (front p ns) = front-pass p n ns b in
    let y : suc k ≤ front p ns = front-more p ns k d (omega arith) (omega (arith, x, f)) e in omega (arith, x, y))
    (λ (b : p n ≡ false). let x : front p (n ∷ ns) ≡ 0 = front-stop p n ns b in absurd (omega (arith, x, f)))

pub front-stops : (p : ℕ → Bool) (ns : List ℕ) (k d : ℕ) → k < length ns → k ≤ front p ns → p (get_or ns k d) ≡ false → front p ns ≡ k
front-stops p [] k d h f e = absurd (omega arith)
front-stops p (n ∷ ns) zero d h f e = front-stop p n ns e
front-stops p (n ∷ ns) (suc k) d h f e = by_bool (p n)
    (λ (b : p n ≡ true). let x : front p (n ∷ ns) ≡ suc (front p ns) = front-pass p n ns b in
    let y : front p ns ≡ k = front-stops p ns k d (omega arith) (omega (arith, x, f)) e in omega (arith, x, y))
    (λ (b : p n ≡ false). let x : front p (n ∷ ns) ≡ 0 = front-stop p n ns b in absurd (omega (arith, x, f)))

-- the codes that stand first are as many as the values

pub span-pass : (p : Code → Bool) (c : Code) (cs : List Code) → p c ≡ true → span p (c ∷ cs) ≡ (c ∷ (span p cs).0, (span p cs).1)
span-pass p c cs e = rw (e, span) refl

pub span-stop : (p : Code → Bool) (c : Code) (cs : List Code) → p c ≡ false → span p (c ∷ cs) ≡ ([], c ∷ cs)
span-stop p c cs e = rw (e, span) refl

pub front-of : (p : ℕ → Bool) (cs : List Code) → length (span (λ (c : Code). p c.value) cs).0 ≡ front p (values_of cs)
front-of p [] = refl
front-of p (c ∷ cs) = by_bool (p c.value)
    (λ (e : p c.value ≡ true). ap (λ (s : List Code × List Code). length s.0) (span-pass (λ (d : Code). p d.value) c cs e) ∙ ap suc (front-of p cs) ∙ sym (front-pass p c.value (values_of cs) e))
    (λ (e : p c.value ≡ false). ap (λ (s : List Code × List Code). length s.0) (span-stop (λ (d : Code). p d.value) c cs e) ∙ sym (front-stop p c.value (values_of cs) e))

pub indent-of : (cs : List Code) (ns : List ℕ) → values_of cs ≡ ns → indent cs ≡ front is_blank_value ns
indent-of cs ns h = front-of is_blank_value cs ∙ ap (front is_blank_value) h

pub first-of : (n : ℕ) (cs : List Code) (ns : List ℕ) → values_of cs ≡ ns → count_first n cs ≡ front (λ v. v == n) ns
first-of n cs ns h = front-of (λ v. v == n) cs ∙ ap (front (λ v. v == n)) h

-- Behind the blanks.

indent-blank : (c : Code) (cs : List Code) → is_blank c ≡ true → indent (c ∷ cs) ≡ suc (indent cs)
indent-blank c cs e = ap (λ (s : List Code × List Code). length s.0) (span-pass is_blank c cs e)

indent-other : (c : Code) (cs : List Code) → is_blank c ≡ false → indent (c ∷ cs) ≡ 0
indent-other c cs e = ap (λ (s : List Code × List Code). length s.0) (span-stop is_blank c cs e)

skip-none : (n : ℕ) → skip n [] ≡ []
skip-none zero = refl
skip-none (suc n) = skip-none n

-- to skip is to drop as many as are blank
pub skip-drop : (n : ℕ) (cs : List Code) → skip n cs ≡ drop (min n (indent cs)) cs
skip-drop zero cs = let e : min 0 (indent cs) ≡ 0 = omega arith in rw e refl
skip-drop (suc n) [] = let e : min (suc n) 0 ≡ 0 = omega arith in rw e (skip-none n)
skip-drop (suc n) (c ∷ cs) = by_bool (is_blank c)
    (λ (b : is_blank c ≡ true).
    let e : min (suc n) (indent (c ∷ cs)) ≡ suc (min n (indent cs)) = omega (arith, indent-blank c cs b) in
    rw e (ap (λ v. skip n (if v then cs else c ∷ cs)) b ∙ skip-drop n cs))
    (λ (b : is_blank c ≡ false).
    let e : min (suc n) (indent (c ∷ cs)) ≡ 0 = omega (arith, indent-other c cs b) in
    rw e (ap (λ v. skip n (if v then cs else c ∷ cs)) b ∙ skip-other n c cs b))
  where
    skip-other : (n : ℕ) (c : Code) (cs : List Code) → is_blank c ≡ false → skip n (c ∷ cs) ≡ c ∷ cs
    skip-other zero c cs b = refl
    skip-other (suc n) c cs b = ap (λ v. skip n (if v then cs else c ∷ cs)) b ∙ skip-other n c cs b

pub trimmed-drop : (cs : List Code) → trimmed cs ≡ drop (indent cs) cs
trimmed-drop [] = refl
trimmed-drop (c ∷ cs) = by_bool (is_blank c)
    (λ (b : is_blank c ≡ true). rw (indent-blank c cs b) (ap (λ (s : List Code × List Code). s.1) (span-pass is_blank c cs b) ∙ trimmed-drop cs))
    (λ (b : is_blank c ≡ false). rw (indent-other c cs b) (ap (λ (s : List Code × List Code). s.1) (span-stop is_blank c cs b)))

pub skip-values : (n : ℕ) (cs : List Code) (ns : List ℕ) (k : ℕ) → values_of cs ≡ ns → k ≡ min n (indent cs) → values_of (skip n cs) ≡ take (length ns - k) (drop k ns)
skip-values n cs ns k h e =
    ap values_of (skip-drop n cs ∙ ap (λ j. drop j cs) (sym e)) ∙ values-drop k cs ∙ ap (drop k) h ∙ sym (rest-from k ns)

pub trimmed-values : (cs : List Code) (ns : List ℕ) (k : ℕ) → values_of cs ≡ ns → k ≡ indent cs → values_of (trimmed cs) ≡ take (length ns - k) (drop k ns)
trimmed-values cs ns k h e =
    ap values_of (trimmed-drop cs ∙ ap (λ j. drop j cs) (sym e)) ∙ values-drop k cs ∙ ap (drop k) h ∙ sym (rest-from k ns)

-- All codes.

pub all-of : (p : ℕ → Bool) (cs : List Code) → list_all (λ (c : Code). p c.value) cs ≡ list_all p (values_of cs)
all-of p [] = refl
all-of p (c ∷ cs) = ap (λ b. p c.value && b) (all-of p cs)

pub blank-of : (cs : List Code) (ns : List ℕ) → values_of cs ≡ ns → is_blank_line cs ≡ list_all is_whitespace_value ns
blank-of cs ns h = all-of is_whitespace_value cs ∙ ap (list_all is_whitespace_value) h

pub all-stops : (p : ℕ → Bool) (ns : List ℕ) (k d : ℕ) → k < length ns → p (get_or ns k d) ≡ false → list_all p (drop k ns) ≡ false
all-stops p [] k d h e = absurd (omega arith)
all-stops p (n ∷ ns) zero d h e = ap (λ b. b && list_all p ns) e
all-stops p (n ∷ ns) (suc k) d h e = all-stops p ns k d (omega arith) e

pub all-end : (p : ℕ → Bool) (ns : List ℕ) (k : ℕ) → length ns ≤ k → list_all p (drop k ns) ≡ true
all-end p ns k h = ap (list_all p) (drop_of_length-le ns h)

-- Without the codes at the end.

pub row-space : (n : ℕ) → is_row_value 32 n ≡ is_whitespace_value n
row-space n = by_bool (n == 32)
    (λ (e : (n == 32) ≡ true). ap (λ b. b || ((b || n == 9) || n == 10)) e ∙ sym (ap (λ b. (b || n == 9) || n == 10) e))
    (λ (e : (n == 32) ≡ false). ap (λ b. b || is_whitespace_value n) e)

len-same : (p q : ℕ → Bool) (ns : List ℕ) → ((n : ℕ) → p n ≡ q n) → len_without_end p ns ≡ len_without_end q ns
len-same p q [] h = refl
len-same p q (n ∷ ns) h = ap (λ b. onto_len b (len_without_end p ns)) (h n) ∙ ap (onto_len (q n)) (len-same p q ns h)

pub len-le : (p : ℕ → Bool) (ns : List ℕ) → len_without_end p ns ≤ length ns
len-le p [] = omega arith
len-le p (n ∷ ns) = onto (p n) (len_without_end p ns) (length ns) (len-le p ns)
  where
    onto : (b : Bool) (k l : ℕ) → k ≤ l → onto_len b k ≤ suc l
    onto true zero l h = omega arith
    onto false zero l h = omega arith
    onto b (suc k) l h = omega (arith, h)

pub end-of : (p : ℕ → Bool) (cs : List Code) → without_end (λ (c : Code). p c.value) cs ≡ take (len_without_end p (values_of cs)) cs
end-of p [] = refl
end-of p (c ∷ cs) =
    ap (onto_end (λ (d : Code). p d.value) c) (end-of p cs) ∙ onto (len_without_end p (values_of cs)) c cs (within cs)
  where
    within : (cs : List Code) → len_without_end p (values_of cs) ≤ length cs
    within cs = omega (arith, len-le p (values_of cs), values-length cs)

    onto : (k : ℕ) (c : Code) (cs : List Code) → k ≤ length cs → onto_end (λ (d : Code). p d.value) c (take k cs) ≡ take (onto_len (p c.value) k) (c ∷ cs)
    onto zero c cs h = by_bool (p c.value)
        (λ (e : p c.value ≡ true). ap (λ b. if b then [] else c ∷ []) e ∙ sym (ap (λ b. take (if b then 0 else 1) (c ∷ cs)) e))
        (λ (e : p c.value ≡ false). ap (λ b. if b then [] else c ∷ []) e ∙ sym (ap (λ b. take (if b then 0 else 1) (c ∷ cs)) e))
    onto (suc k) c [] h = absurd (omega (arith, h))
    onto (suc k) c (d ∷ ds) h = refl

pub end-take : (p : ℕ → Bool) (cs : List Code) (ns : List ℕ) (k : ℕ) → values_of cs ≡ ns → len_without_end p ns ≡ k → without_end (λ (c : Code). p c.value) cs ≡ take k cs
end-take p cs ns k h e = end-of p cs ∙ ap (λ l. take l cs) (ap (len_without_end p) h ∙ e)

-- without the whitespace at the end
pub trimmed-take : (cs : List Code) (ns : List ℕ) (k : ℕ) → values_of cs ≡ ns → k ≡ len_without_end (is_row_value 32) ns → trimmed_end cs ≡ take k cs
trimmed-take cs ns k h e = end-take is_whitespace_value cs ns k h (sym (len-same (is_row_value 32) is_whitespace_value ns row-space) ∙ sym e)

-- one value less at the end
pub last-less : (p : ℕ → Bool) (ns : List ℕ) (k d : ℕ) → k < length ns → p (get_or ns k d) ≡ true → len_without_end p (take (suc k) ns) ≡ len_without_end p (take k ns)
last-less p [] k d h e = absurd (omega arith)
last-less p (n ∷ ns) zero d h e = ap (λ b. if b then 0 else 1) e
last-less p (n ∷ ns) (suc k) d h e = ap (onto_len (p n)) (last-less p ns k d (omega arith) e)

pub last-whole : (p : ℕ → Bool) (ns : List ℕ) (k d : ℕ) → k < length ns → p (get_or ns k d) ≡ false → len_without_end p (take (suc k) ns) ≡ suc k
last-whole p [] k d h e = absurd (omega arith)
last-whole p (n ∷ ns) zero d h e = ap (λ b. if b then 0 else 1) e
last-whole p (n ∷ ns) (suc k) d h e = ap (onto_len (p n)) (last-whole p ns k d (omega arith) e)

pub end-less : (p : ℕ → Bool) (ns : List ℕ) (n k d : ℕ) → suc k ≡ n → n ≤ length ns → p (get_or ns k d) ≡ true → len_without_end p (take n ns) ≡ len_without_end p (take k ns)
end-less p ns n k d e h t = let x : k < length ns = omega arith in rw (← e) (last-less p ns k d x t)

pub end-whole : (p : ℕ → Bool) (ns : List ℕ) (n k d : ℕ) → suc k ≡ n → n ≤ length ns → p (get_or ns k d) ≡ false → len_without_end p (take n ns) ≡ n
end-whole p ns n k d e h t = let x : k < length ns = omega arith in rw (← e) (last-whole p ns k d x t)

pub end-none : (p : ℕ → Bool) (ns : List ℕ) (n : ℕ) → n ≤ 0 → len_without_end p (take n ns) ≡ 0
end-none p ns zero h = refl
end-none p ns (suc n) h = absurd (omega (arith, h))
