-- What begins with the rest of a line, from its parts.
use Rattle.std.proofs.Common.{◌≡◌, ℕ, suc, ◌+◌, ◌≤◌, ◌<◌, min, refl, ap, ◌∙◌, sym, List, [], ◌∷◌, length, take, drop, get_or, Bool, true, false, ◌&&◌, ◌||◌, not, cond, nat_lt, Some, None, arith, drop-drop, length-take-le, take-take}
use Rattle.std.specs.Prelude.{if◌then◌else◌, ◌==◌, nat_le}
use Rattle.std.specs.Str.{byte}
use Rattle.std.specs.List.{list_all, list_any, count_by}
use Rattle.std.proofs.lemmas.List.Sums.{sum_by-cons}
use Rattle.std.proofs.lemmas.Bool.Decides.{nat_tests}
use Rattle.std.proofs.Math.Seq.{take-length}
use Rattle.markdown_content.specs.Codes.{Code, is_blank}
use Rattle.markdown_model.specs.CodeTests.{values_of, is_value, is_between, is_empty, next_is}
use Rattle.markdown_block_model.specs.LineRests.{indent, trimmed, skip, is_blank_line, is_gap, count_first, first_value, without_end, trimmed_end, only_if}
use Rattle.markdown_block_model.specs.BlockTree.{Extensions, heading, fenced_code, Fence}
use Rattle.markdown_block_model.specs.LeafStarts.{fence_least, is_break_of, is_break, ends_blank, without_closing, heading_text, heading_of, heading_at, is_row_of, level_of, underline, may_be_info, fence_of, fence_at, is_closing}
use Rattle.markdown_block_model.specs.ContainerStarts.{behind_quote}
use Rattle.markdown_block_line.specs.LineValues.{is_blank_value, is_whitespace_value, count_value, is_break_values, len_without_end}
use Rattle.markdown_block_line.proofs.RestValues.{by_bool, and-none, all-of, end-of, len-le, last-less, last-whole, values-length, next-at, next-none, skip-drop, trimmed-drop}

-- Thematic breaks.

count-of : (n : ℕ) (cs : List Code) → count_by (is_value n) cs ≡ count_value n (values_of cs)
count-of n [] = refl
count-of n (c ∷ cs) = sum_by-cons (λ (d : Code). cond (d.value == n) 1 0) c cs ∙ by_bool (c.value == n)
    (λ (e : (c.value == n) ≡ true). ap (λ b. cond b 1 0 + count_by (is_value n) cs) e ∙ ap (λ k. 1 + k) (count-of n cs) ∙ sym (ap (λ b. (if b then 1 else 0) + count_value n (values_of cs)) e))
    (λ (e : (c.value == n) ≡ false). ap (λ b. cond b 1 0 + count_by (is_value n) cs) e ∙ ap (λ k. 0 + k) (count-of n cs) ∙ sym (ap (λ b. (if b then 1 else 0) + count_value n (values_of cs)) e))

break-of : (n : ℕ) (cs : List Code) → is_break_of n cs ≡ is_break_values n (values_of cs)
break-of n cs =
    ap (λ b. b && nat_le 3 (count_by (is_value n) cs)) (all-of (λ v. v == n || is_whitespace_value v) cs)
    ∙ ap (λ k. list_all (λ v. v == n || is_whitespace_value v) (values_of cs) && nat_le 3 k) (count-of n cs)

pub any-break : (cs : List Code) (ns : List ℕ) → values_of cs ≡ ns → is_break cs ≡ (is_break_values 42 ns || is_break_values 45 ns || is_break_values 95 ns)
any-break cs ns h =
    ap (λ b. b || is_break_of 45 cs || is_break_of 95 cs) (break-of 42 cs)
    ∙ ap (λ b. is_break_values 42 (values_of cs) || b || is_break_of 95 cs) (break-of 45 cs)
    ∙ ap (λ b. is_break_values 42 (values_of cs) || is_break_values 45 (values_of cs) || b) (break-of 95 cs)
    ∙ ap (λ (vs : List ℕ). is_break_values 42 vs || is_break_values 45 vs || is_break_values 95 vs) h

-- Underlines.

pub row-none : (n k : ℕ) (cs : List Code) → k ≡ count_first n cs → k ≡ 0 → is_row_of n cs ≡ false
row-none n k cs h z = let e : count_first n cs ≡ 0 = sym h ∙ z in ap (λ j. nat_le 1 j && is_blank_line (drop j cs)) e

pub row-some : (n k : ℕ) (cs : List Code) (b : Bool) → k ≡ count_first n cs → (k ≡ 0 → ⊥) → b ≡ is_blank_line (drop k cs) → is_row_of n cs ≡ b
row-some n k cs b h z e =
    let some : nat_le 1 k ≡ true = grind (arith, nat_tests) in
    ap (λ j. nat_le 1 j && is_blank_line (drop j cs)) (sym h) ∙ ap (λ v. v && is_blank_line (drop k cs)) some ∙ sym e

pub under-deep : (cs : List Code) (k : ℕ) → k ≡ min 4 (indent cs) → k ≡ 4 → underline cs ≡ None
under-deep cs k h e =
    let x : nat_lt (indent cs) 4 ≡ false = grind (arith, nat_tests) in
    ap (λ v. if v then level_of (is_row_of 61 (trimmed cs)) (is_row_of 45 (trimmed cs)) else None) x

pub under-rows : (cs : List Code) (k : ℕ) (e m : Bool) → k ≡ min 4 (indent cs) → (k ≡ 4 → ⊥) → e ≡ is_row_of 61 (drop k cs) → m ≡ is_row_of 45 (drop k cs) → underline cs ≡ level_of e m
under-rows cs k e m h n he hm =
    let x : nat_lt (indent cs) 4 ≡ true = grind (arith, nat_tests) in
    let i : indent cs ≡ k = omega arith in
    let t : trimmed cs ≡ drop k cs = trimmed-drop cs ∙ ap (λ j. drop j cs) i in
    ap (λ v. if v then level_of (is_row_of 61 (trimmed cs)) (is_row_of 45 (trimmed cs)) else None) x
    ∙ ap (λ (r : List Code). level_of (is_row_of 61 r) (is_row_of 45 r)) t
    ∙ ap (λ v. level_of v (is_row_of 45 (drop k cs))) (sym he) ∙ ap (level_of e) (sym hm)

-- Quotes.

pub quote-deep : (cs : List Code) (k : ℕ) → k ≡ min 4 (indent cs) → k ≡ 4 → behind_quote cs ≡ None
quote-deep cs k h e =
    let x : nat_lt (indent cs) 4 ≡ false = grind (arith, nat_tests) in
    ap (λ v. only_if (v && next_is (is_value (byte ">")) (trimmed cs)) (skip 1 (drop 1 (trimmed cs)))) x

quote-near : (cs : List Code) (k : ℕ) (b : Bool) → k ≡ min 4 (indent cs) → k < 4 → next_is (is_value (byte ">")) (drop k cs) ≡ b → behind_quote cs ≡ only_if b (skip 1 (drop 1 (drop k cs)))
quote-near cs k b h n e =
    let x : nat_lt (indent cs) 4 ≡ true = grind (arith, nat_tests) in
    let i : indent cs ≡ k = omega arith in
    let t : trimmed cs ≡ drop k cs = trimmed-drop cs ∙ ap (λ j. drop j cs) i in
    ap (λ v. only_if (v && next_is (is_value (byte ">")) (trimmed cs)) (skip 1 (drop 1 (trimmed cs)))) x
    ∙ ap (λ (r : List Code). only_if (next_is (is_value (byte ">")) r) (skip 1 (drop 1 r))) t
    ∙ ap (λ v. only_if v (skip 1 (drop 1 (drop k cs)))) e

pub quote-end : (cs : List Code) (ns : List ℕ) (k : ℕ) → values_of cs ≡ ns → k ≡ min 4 (indent cs) → k < 4 → length ns ≤ k → behind_quote cs ≡ None
quote-end cs ns k v h n l = quote-near cs k false h n (next-none (is_value (byte ">")) cs ns k v l)

pub quote-other : (cs : List Code) (ns : List ℕ) (k d : ℕ) → values_of cs ≡ ns → k ≡ min 4 (indent cs) → k < 4 → k < length ns → (get_or ns k d == 62) ≡ false → behind_quote cs ≡ None
quote-other cs ns k d v h n l e = quote-near cs k false h n (next-at (λ x. x == 62) cs ns k d v l ∙ e)

pub quote-here : (cs : List Code) (ns : List ℕ) (k m n d : ℕ) → values_of cs ≡ ns → k ≡ min 4 (indent cs) → k < 4 → k < length ns → (get_or ns k d == 62) ≡ true → m ≡ k + 1 → n ≡ min 1 (indent (drop m cs))
    → behind_quote cs ≡ Some (drop (m + n) cs)
quote-here cs ns k m n d v h s l e w i =
    let a : drop 1 (drop k cs) ≡ drop m cs = drop-drop 1 k cs ∙ ap (λ j. drop j cs) (sym w) in
    quote-near cs k true h s (next-at (λ x. x == 62) cs ns k d v l ∙ e)
    ∙ ap (λ (r : List Code). Some (skip 1 r)) a
    ∙ ap (λ (r : List Code). Some r) (skip-drop 1 (drop m cs) ∙ ap (λ j. drop j (drop m cs)) (sym i) ∙ drop-drop n m cs)

-- Headings.

pub ends-none : (cs : List Code) (ns : List ℕ) → values_of cs ≡ ns → length ns ≡ 0 → ends_blank cs ≡ true
ends-none [] ns h l = refl
ends-none (c ∷ cs) ns h l = absurd (omega (arith, l, ap length h))

filled : (cs : List Code) (ns : List ℕ) → values_of cs ≡ ns → 0 < length ns → is_empty cs ≡ false
filled [] ns h l = absurd (omega (arith, l, ap length h))
filled (c ∷ cs) ns h l = refl

ends-of : (cs : List Code) (ns : List ℕ) → values_of cs ≡ ns → 0 < length ns → ends_blank cs ≡ not (len_without_end is_blank_value ns == length ns)
ends-of cs ns h l =
    let a : length (without_end is_blank cs) ≡ len_without_end is_blank_value ns =
    ap length (end-of is_blank_value cs) ∙ length-take-le (len_without_end is_blank_value (values_of cs)) cs (omega (arith, len-le is_blank_value (values_of cs), values-length cs)) ∙ ap (len_without_end is_blank_value) h in
    let b : length cs ≡ length ns = sym (values-length cs) ∙ ap length h in
    ap (λ k. is_empty cs || not (k == length cs)) a ∙ ap (λ k. is_empty cs || not (len_without_end is_blank_value ns == k)) b
    ∙ ap (λ e. e || not (len_without_end is_blank_value ns == length ns)) (filled cs ns h l)

pub ends-last : (cs : List Code) (ns : List ℕ) (k d : ℕ) → values_of cs ≡ ns → suc k ≡ length ns → ends_blank cs ≡ is_blank_value (get_or ns k d)
ends-last cs ns k d h e =
    let l : 0 < length ns = omega arith in
    let m : k < length ns = omega arith in
    let t : take (suc k) ns ≡ ns = ap (λ j. take j ns) e ∙ take-length ns in
    ends-of cs ns h l ∙ by_bool (is_blank_value (get_or ns k d))
    (λ (b : is_blank_value (get_or ns k d) ≡ true).
    let x : len_without_end is_blank_value ns ≡ len_without_end is_blank_value (take k ns) = ap (len_without_end is_blank_value) (sym t) ∙ last-less is_blank_value ns k d m b in
    let y : length (take k ns) ≡ k = length-take-le k ns (omega arith) in
    let z : len_without_end is_blank_value ns < length ns = omega (arith, x, y, len-le is_blank_value (take k ns)) in
    let v : (len_without_end is_blank_value ns == length ns) ≡ false = grind (arith, nat_tests, z) in
    ap not v ∙ sym b)
    (λ (b : is_blank_value (get_or ns k d) ≡ false).
    let x : len_without_end is_blank_value ns ≡ length ns = ap (len_without_end is_blank_value) (sym t) ∙ last-whole is_blank_value ns k d m b ∙ e in
    let v : (len_without_end is_blank_value ns == length ns) ≡ true = grind (arith, nat_tests, x) in
    ap not v ∙ sym b)

pub heading-by : (cs : List Code) (len opened : ℕ) (b : Bool) → trimmed_end cs ≡ take len cs → opened ≤ len → without_end (is_value 35) (take len cs) ≡ take opened (take len cs) → ends_blank (take opened cs) ≡ b
    → heading_text (trimmed_end cs) ≡ (if b then trimmed_end (take opened cs) else take len cs)
heading-by cs len opened b e1 l e2 e3 =
    ap heading_text e1
    ∙ ap (λ (o : List Code). without_closing o (take len cs)) (e2 ∙ take-take opened len cs l)
    ∙ ap (λ v. if v then trimmed_end (take opened cs) else take len cs) e3

pub heading-apart : (cs : List Code) (k : ℕ) → k ≡ count_first 35 cs → is_gap (drop k cs) ≡ false → heading_at cs ≡ None
heading-apart cs k h e =
    ap (λ j. heading_of j (drop j cs)) (sym h)
    ∙ ap (λ v. only_if v (heading k (heading_text (trimmed_end (trimmed (drop k cs)))))) (ap (λ v. is_between 1 6 k && v) e ∙ and-none (is_between 1 6 k))

-- behind so many codes, and the blanks there
text-at : (cs : List Code) (k i : ℕ) → i ≡ indent (drop k cs) → trimmed (drop k cs) ≡ drop (k + i) cs
text-at cs k i h = trimmed-drop (drop k cs) ∙ ap (λ j. drop j (drop k cs)) (sym h) ∙ drop-drop i k cs

pub heading-here : (cs : List Code) (k i len : ℕ) → k ≡ count_first 35 cs → (k ≡ 0 → ⊥) → k ≤ 6 → is_gap (drop k cs) ≡ true → i ≡ indent (drop k cs)
    → heading_text (trimmed_end (drop (k + i) cs)) ≡ take len (drop (k + i) cs) → heading_at cs ≡ Some (heading k (take len (drop (k + i) cs)))
heading-here cs k i len h z s g e t =
    let low : is_between 1 6 k ≡ true = grind (arith, nat_tests) in
    ap (λ j. heading_of j (drop j cs)) (sym h)
    ∙ ap (λ v. only_if (v && is_gap (drop k cs)) (heading k (heading_text (trimmed_end (trimmed (drop k cs)))))) low
    ∙ ap (λ v. only_if v (heading k (heading_text (trimmed_end (trimmed (drop k cs)))))) g
    ∙ ap (λ (x : List Code). Some (heading k (heading_text (trimmed_end x)))) (text-at cs k i e)
    ∙ ap (λ (x : List Code). Some (heading k x)) t

-- Fences.

pub fence-none : (x : Extensions) (columns : ℕ) (cs : List Code) (ns : List ℕ) → values_of cs ≡ ns → length ns ≡ 0 → fence_at x columns cs ≡ None
fence-none x columns [] ns h l = refl
fence-none x columns (c ∷ cs) ns h l = absurd (omega (arith, l, ap length h))

first-at : (cs : List Code) (ns : List ℕ) (d : ℕ) → values_of cs ≡ ns → 0 < length ns → first_value cs ≡ get_or ns 0 d
first-at [] ns d h l = absurd (omega (arith, l, ap length h))
first-at (c ∷ cs) ns d h l = ap (λ (vs : List ℕ). get_or vs 0 d) h

fence-by : (x : Extensions) (columns n count : ℕ) (cs : List Code) (b : Bool) → first_value cs ≡ n → count ≡ count_first n cs → (nat_le (fence_least n) count && may_be_info x n (drop count cs)) ≡ b
    → fence_at x columns cs ≡ only_if b (fenced_code (record { value = n; count = count; columns = columns }) (trimmed_end (trimmed (drop count cs))) [] false)
fence-by x columns n count cs b e h t =
    ap (λ v. fence_of x columns v (count_first v cs) (drop (count_first v cs) cs)) e
    ∙ ap (λ k. fence_of x columns n k (drop k cs)) (sym h)
    ∙ ap (λ v. only_if v (fenced_code (record { value = n; count = count; columns = columns }) (trimmed_end (trimmed (drop count cs))) [] false)) t

pub fence-short : (x : Extensions) (columns n count d : ℕ) (cs : List Code) (ns : List ℕ) → values_of cs ≡ ns → 0 < length ns → get_or ns 0 d ≡ n → count ≡ count_first n cs → count < fence_least n → fence_at x columns cs ≡ None
fence-short x columns n count d cs ns h l e k s =
    let short : nat_le (fence_least n) count ≡ false = grind (arith, nat_tests) in
    fence-by x columns n count cs false (first-at cs ns d h l ∙ e) k (ap (λ v. v && may_be_info x n (drop count cs)) short)

pub fence-not : (x : Extensions) (columns n count d : ℕ) (cs : List Code) (ns : List ℕ) → values_of cs ≡ ns → 0 < length ns → get_or ns 0 d ≡ n → count ≡ count_first n cs → may_be_info x n (drop count cs) ≡ false
    → fence_at x columns cs ≡ None
fence-not x columns n count d cs ns h l e k m =
    fence-by x columns n count cs false (first-at cs ns d h l ∙ e) k (ap (λ v. nat_le (fence_least n) count && v) m ∙ and-none (nat_le (fence_least n) count))

pub fence-here : (x : Extensions) (columns n count i len d : ℕ) (cs : List Code) (ns : List ℕ) → values_of cs ≡ ns → 0 < length ns → get_or ns 0 d ≡ n → count ≡ count_first n cs → fence_least n ≤ count
    → may_be_info x n (drop count cs) ≡ true → i ≡ indent (drop count cs) → trimmed_end (drop (count + i) cs) ≡ take len (drop (count + i) cs)
    → fence_at x columns cs ≡ Some (fenced_code (record { value = n; count = count; columns = columns }) (take len (drop (count + i) cs)) [] false)
fence-here x columns n count i len d cs ns h l e k s m j t =
    let enough : nat_le (fence_least n) count ≡ true = grind (arith, nat_tests) in
    fence-by x columns n count cs true (first-at cs ns d h l ∙ e) k (ap (λ v. v && may_be_info x n (drop count cs)) enough ∙ m)
    ∙ ap (λ (r : List Code). Some (fenced_code (record { value = n; count = count; columns = columns }) (trimmed_end r) [] false)) (text-at cs count i j)
    ∙ ap (λ (r : List Code). Some (fenced_code (record { value = n; count = count; columns = columns }) r [] false)) t

pub fence-starts : (n count i d : ℕ) (cs : List Code) (ns : List ℕ) → values_of cs ≡ ns → 0 < length ns → get_or ns 0 d ≡ n → count ≡ count_first n cs → i ≡ indent (drop count cs)
    → count + i ≡ count_first (first_value cs) cs + indent (drop (count_first (first_value cs) cs) cs)
fence-starts n count i d cs ns h l e k j =
    ap (λ x. count + x) j ∙ ap (λ x. x + indent (drop x cs)) (k ∙ ap (λ v. count_first v cs) (sym (first-at cs ns d h l ∙ e)))

any-of : (p : ℕ → Bool) (cs : List Code) → list_any (λ (c : Code). p c.value) cs ≡ list_any p (values_of cs)
any-of p [] = refl
any-of p (c ∷ cs) = ap (λ b. p c.value || b) (any-of p cs)

pub info-tilde : (x : Extensions) (n : ℕ) (cs : List Code) → n ≡ 126 → may_be_info x n cs ≡ true
info-tilde x n cs e = rw e refl

pub info-other : (x : Extensions) (n : ℕ) (cs : List Code) (b : Bool) → (n ≡ 126 → ⊥) → b ≡ (n == 96 || (x.math && n == 36)) → b ≡ false → may_be_info x n cs ≡ false
info-other x n cs b a e f =
    let t : (n == 126) ≡ false = grind (arith, nat_tests) in
    ap (λ v. v || ((n == 96 || (x.math && n == 36)) && not (list_any (is_value n) cs))) t ∙ ap (λ v. v && not (list_any (is_value n) cs)) (sym e ∙ f)

pub info-apart : (x : Extensions) (n : ℕ) (cs : List Code) (ns : List ℕ) (a b : Bool) → values_of cs ≡ ns → (n ≡ 126 → ⊥) → a ≡ (n == 96 || (x.math && n == 36)) → a ≡ true → b ≡ list_any (λ v. v == n) ns
    → may_be_info x n cs ≡ not b
info-apart x n cs ns a b h o e t f =
    let y : (n == 126) ≡ false = grind (arith, nat_tests) in
    ap (λ v. v || ((n == 96 || (x.math && n == 36)) && not (list_any (is_value n) cs))) y ∙ ap (λ v. v && not (list_any (is_value n) cs)) (sym e ∙ t)
    ∙ ap not (any-of (λ v. v == n) cs ∙ ap (list_any (λ v. v == n)) h ∙ sym f)

-- The end of fenced code.

pub closing-deep : (f : Fence) (cs : List Code) (k : ℕ) → k ≡ min 4 (indent cs) → k ≡ 4 → is_closing f cs ≡ false
closing-deep f cs k h e =
    let x : nat_lt (indent cs) 4 ≡ false = grind (arith, nat_tests) in
    ap (λ v. v && (nat_le f.count (count_first f.value (trimmed cs)) && is_blank_line (drop (count_first f.value (trimmed cs)) (trimmed cs)))) x

pub closing-by : (f : Fence) (cs : List Code) (k len : ℕ) (a b : Bool) → k ≡ min 4 (indent cs) → (k ≡ 4 → ⊥) → len ≡ count_first f.value (drop k cs) → nat_le f.count len ≡ a
    → is_blank_line (drop len (drop k cs)) ≡ b → is_closing f cs ≡ (a && b)
closing-by f cs k len a b h n e x y =
    let s : nat_lt (indent cs) 4 ≡ true = grind (arith, nat_tests) in
    let i : indent cs ≡ k = omega arith in
    let t : trimmed cs ≡ drop k cs = trimmed-drop cs ∙ ap (λ j. drop j cs) i in
    ap (λ v. v && (nat_le f.count (count_first f.value (trimmed cs)) && is_blank_line (drop (count_first f.value (trimmed cs)) (trimmed cs)))) s
    ∙ ap (λ (r : List Code). nat_le f.count (count_first f.value r) && is_blank_line (drop (count_first f.value r) r)) t
    ∙ ap (λ j. nat_le f.count j && is_blank_line (drop j (drop k cs))) (sym e)
    ∙ ap (λ v. v && is_blank_line (drop len (drop k cs))) x ∙ ap (λ v. a && v) y
