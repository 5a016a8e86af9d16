-- The codes of a document from a place on, one after another.
use Rattle.std.proofs.Common.{ℕ, zero, suc, ◌+◌, ◌-◌, ◌*◌, ◌%◌, ◌<◌, ◌≤◌, Bool, true, false, ◌&&◌, nat_lt, ◌==◌, ◌≡◌, arith, List, [], ◌∷◌, ◌++◌, length, drop, get_or, refl, sym, ap, subst, ◌∙◌, if◌then◌else◌, inl, inr}
use Rattle.std.proofs.lemmas.List.{drop_more, drop-drop, length-drop}
use Rattle.std.proofs.lemmas.Bool.{and_parts, eqb-true, eqb-false, cases_lt, ltb-true, ltb-false, or_parts}
use Rattle.std.proofs.lemmas.Bool.Decides.{nat_tests}
use Rattle.markdown_event.specs.declared.event.Point.{Point}
use Rattle.markdown_content.proofs.PlaceOrder.{is_before}
use Rattle.markdown_content.specs.Codes.{Code, tab_value, line_feed, carriage_return, space_value, line_start, next_column, tab_width, codes_of_tab, is_line_ending_byte, line_ending_len, codes_from, stop_of, place_of}

-- the virtual spaces of a tab after a column of it
abbrev pub tab_left : Point → ℕ
tab_left p = tab_width p - 1

-- the codes from a column of a tab on
abbrev pub tab_from : ℕ → List ℕ → Point → List Code
tab_from v bytes p =
    codes_of_tab v (tab_left p) p ++ codes_from tab_value (stop_of p (codes_of_tab v (tab_left p) p)) (drop (p.index + 1) bytes)

abbrev at_vs : ℕ → List ℕ → Point → List Code
at_vs zero bytes p = codes_from 0 p (drop p.index bytes)
at_vs (suc n) bytes p = tab_from space_value bytes p

-- the codes from a place on
abbrev pub codes_at : List ℕ → Point → List Code
codes_at bytes p = at_vs p.vs bytes p

-- the code at a place
abbrev pub value_at : List ℕ → Point → ℕ
value_at bytes p =
    if is_line_ending_byte (get_or bytes p.index 0) then line_feed
    else (if get_or bytes p.index 0 == tab_value && nat_lt 0 p.vs then space_value else get_or bytes p.index 0)

abbrev pub stop_at : List ℕ → Point → Point
stop_at bytes p =
    if is_line_ending_byte (get_or bytes p.index 0)
    then line_start (p.line + 1) (p.index + line_ending_len (get_or bytes p.index 0) (drop (p.index + 1) bytes))
    else (if get_or bytes p.index 0 == tab_value && nat_lt 0 (tab_left p) then next_column p p.index (p.vs + 1)
    else next_column p (p.index + 1) 0)

abbrev pub code_here : List ℕ → Point → Code
code_here bytes p = record { value = value_at bytes p; start = p; stop = stop_at bytes p }

-- what holds of the numbers of a place
pub record HasPlaceNumbers (bytes : List ℕ) (p : Point) : Type 0 where
  pub in_bytes : p.index ≤ length bytes
  pub in_tab : 0 < p.vs → (p.index < length bytes) × (get_or bytes p.index 0 ≡ tab_value)
  pub from_one : 1 ≤ p.column
  pub inside : p.vs ≤ (p.column - 1) % 4
  pub columns : p.column ≤ 4 * p.index + p.vs + 1
  pub lines : p.line ≤ p.index + 1

at_vs-inside : (n : ℕ) (bytes : List ℕ) (p : Point) → 0 < n → at_vs n bytes p ≡ tab_from space_value bytes p
at_vs-inside zero bytes p h = absurd (omega arith)
at_vs-inside (suc n) bytes p h = refl

-- what stands before counts only after a carriage return
from-any : (b : ℕ) (p : Point) (bs : List ℕ) → (b == carriage_return) ≡ false → codes_from b p bs ≡ codes_from 0 p bs
from-any b p [] h = refl
from-any b p (c ∷ cs) h = rw (h, codes_from) refl

from-other : (b : ℕ) (p : Point) (c : ℕ) (cs : List ℕ) → (b == carriage_return && c == line_feed) ≡ false →
    codes_from b p (c ∷ cs) ≡ codes_from 0 p (c ∷ cs)
from-other b p c cs h = rw (h, codes_from) refl

from-crlf : (b : ℕ) (p : Point) (c : ℕ) (cs : List ℕ) → (b == carriage_return && c == line_feed) ≡ true →
    codes_from b p (c ∷ cs) ≡ codes_from 0 p cs
from-crlf b p c cs h = grind (arith, eqb-true, and_parts, from-any)

pub len-two : (b c : ℕ) (cs : List ℕ) → (b == carriage_return && c == line_feed) ≡ true → line_ending_len b (c ∷ cs) ≡ 2
len-two b c cs h = rw h refl

pub len-one : (b c : ℕ) (cs : List ℕ) → (b == carriage_return && c == line_feed) ≡ false → line_ending_len b (c ∷ cs) ≡ 1
len-one b c cs h = rw h refl

ending-cases : (b : ℕ) (p : Point) (c : ℕ) (cs : List ℕ) (t : Bool) → (b == carriage_return && c == line_feed) ≡ t →
    codes_from b p (c ∷ cs) ≡ codes_from 0 p (drop (line_ending_len b (c ∷ cs)) (b ∷ c ∷ cs))
ending-cases b p c cs true h =
    from-crlf b p c cs h ∙ sym (ap (λ n. codes_from 0 p (drop n (b ∷ c ∷ cs))) (len-two b c cs h))
ending-cases b p c cs false h =
    from-other b p c cs h ∙ sym (ap (λ n. codes_from 0 p (drop n (b ∷ c ∷ cs))) (len-one b c cs h))

-- a line ending is passed whole
past-ending : (b : ℕ) (p : Point) (bs : List ℕ) →
    codes_from b p bs ≡ codes_from 0 p (drop (line_ending_len b bs) (b ∷ bs))
past-ending b p [] = refl
past-ending b p (c ∷ cs) = ending-cases b p c cs (b == carriage_return && c == line_feed) refl

-- the bytes from the next one on
drop-next : (bytes : List ℕ) (i : ℕ) → i < length bytes → drop i bytes ≡ get_or bytes i 0 ∷ drop (i + 1) bytes
drop-next bytes i h = drop_more bytes i 0 h

-- a byte that is neither line ending nor tab
from-plain : (p : Point) (b : ℕ) (bs : List ℕ) → is_line_ending_byte b ≡ false → (b == tab_value) ≡ false →
    codes_from 0 p (b ∷ bs) ≡ record { value = b; start = p; stop = next_column p (p.index + 1) 0 } ∷ codes_from b (next_column p (p.index + 1) 0) bs
from-plain p b bs h k = rw (h, k) refl

from-ending : (p : Point) (b : ℕ) (bs : List ℕ) → is_line_ending_byte b ≡ true →
    codes_from 0 p (b ∷ bs) ≡ record { value = line_feed; start = p; stop = line_start (p.line + 1) (p.index + line_ending_len b bs) } ∷ codes_from b (line_start (p.line + 1) (p.index + line_ending_len b bs)) bs
from-ending p b bs h = rw h refl

step-plain : (bytes : List ℕ) (p : Point) (b : ℕ) → drop p.index bytes ≡ b ∷ drop (p.index + 1) bytes →
    is_line_ending_byte b ≡ false → (b == tab_value) ≡ false →
    codes_from 0 p (drop p.index bytes) ≡ record { value = b; start = p; stop = next_column p (p.index + 1) 0 } ∷ codes_from 0 (next_column p (p.index + 1) 0) (drop (p.index + 1) bytes)
step-plain bytes p b e h k = grind (arith, or_parts, from-plain, from-any)

step-ending : (bytes : List ℕ) (p q : Point) (b : ℕ) → drop p.index bytes ≡ b ∷ drop (p.index + 1) bytes →
    is_line_ending_byte b ≡ true →
    q ≡ line_start (p.line + 1) (p.index + line_ending_len b (drop (p.index + 1) bytes)) →
    codes_from 0 p (drop p.index bytes) ≡ record { value = line_feed; start = p; stop = q } ∷ codes_from 0 q (drop q.index bytes)
step-ending bytes p q b e h k = grind (arith, drop-drop, from-ending, past-ending)

-- a tab begins with its own code
from-tab : (bytes : List ℕ) (p : Point) → drop p.index bytes ≡ tab_value ∷ drop (p.index + 1) bytes →
    codes_from 0 p (drop p.index bytes) ≡ tab_from tab_value bytes p
from-tab bytes p e = ap (λ xs. codes_from 0 p xs) e

-- the codes of a tab of which so many virtual spaces are left
abbrev tab_rest : ℕ → ℕ → List ℕ → Point → List Code
tab_rest v n bytes p =
    codes_of_tab v n p ++ codes_from tab_value (stop_of p (codes_of_tab v n p)) (drop (p.index + 1) bytes)

-- the last column of a tab, and one that others follow
tab-last : (v : ℕ) (bytes : List ℕ) (p : Point) → tab_left p ≡ 0 →
    tab_from v bytes p ≡ record { value = v; start = p; stop = next_column p (p.index + 1) 0 } ∷ codes_from 0 (next_column p (p.index + 1) 0) (drop (p.index + 1) bytes)
tab-last v bytes p h =
    ap (λ n. tab_rest v n bytes p) h ∙ ap (λ cs. record { value = v; start = p; stop = next_column p (p.index + 1) 0 } ∷ cs) (from-any tab_value (next_column p (p.index + 1) 0) (drop (p.index + 1) bytes) refl)

left-less : (c n : ℕ) → 1 ≤ c → 4 - (c - 1) % 4 - 1 ≡ suc n → n ≡ 4 - (c + 1 - 1) % 4 - 1
left-less c n one h = omega arith

tab-more : (v n : ℕ) (bytes : List ℕ) (p : Point) → 1 ≤ p.column → tab_left p ≡ suc n →
    tab_from v bytes p ≡ record { value = v; start = p; stop = next_column p p.index (p.vs + 1) } ∷ tab_from space_value bytes (next_column p p.index (p.vs + 1))
tab-more v n bytes p one h = grind (arith, left-less)

-- What one step does: a code, and the place after it.
pub record IsStep (bytes : List ℕ) (p : Point) (v : ℕ) (q : Point) : Type 0 where
  pub codes : codes_at bytes p ≡ record { value = v; start = p; stop = q } ∷ codes_at bytes q
  pub stands : HasPlaceNumbers bytes q
  pub later : is_before (place_of p) (place_of q) ≡ true
  pub counts : 4 * p.index + p.vs + 1 ≤ 4 * q.index + q.vs

vs-none : (bytes : List ℕ) (p : Point) → HasPlaceNumbers bytes p → (get_or bytes p.index 0 == tab_value) ≡ false → p.vs ≡ 0
vs-none bytes p s h = grind (arith, cases_lt, eqb-false)

ending-not_tab : (b : ℕ) → is_line_ending_byte b ≡ true → (b == tab_value) ≡ false
ending-not_tab b h = grind (arith, nat_tests)

pub codes-none_inside : (bytes : List ℕ) (p : Point) → p.vs ≡ 0 → codes_at bytes p ≡ codes_from 0 p (drop p.index bytes)
codes-none_inside bytes p h = ap (λ n. at_vs n bytes p) h

before-next_index : (a b c : ℕ) → 0 < c → is_before (a, b) (a + c, 0) ≡ true
before-next_index a b c h = grind (arith, nat_tests)

before-next_column : (a b : ℕ) → is_before (a, b) (a, b + 1) ≡ true
before-next_column a b = grind (arith, nat_tests)

len-cases : (b c : ℕ) (cs : List ℕ) (t : Bool) → (b == carriage_return && c == line_feed) ≡ t →
    (1 ≤ line_ending_len b (c ∷ cs)) × (line_ending_len b (c ∷ cs) ≤ 1 + length (c ∷ cs))
len-cases b c cs true h = let two : line_ending_len b (c ∷ cs) ≡ 2 = len-two b c cs h in (omega arith, omega arith)
len-cases b c cs false h = let one : line_ending_len b (c ∷ cs) ≡ 1 = len-one b c cs h in (omega arith, omega arith)

pub len-bounds : (b : ℕ) (bs : List ℕ) → (1 ≤ line_ending_len b bs) × (line_ending_len b bs ≤ 1 + length bs)
len-bounds b [] = (omega arith, omega arith)
len-bounds b (c ∷ cs) = len-cases b c cs (b == carriage_return && c == line_feed) refl

ending-record : (bytes : List ℕ) (p : Point) (n : ℕ) → HasPlaceNumbers bytes p → p.index < length bytes → p.vs ≡ 0 → 1 ≤ n →
    p.index + n ≤ length bytes →
    codes_at bytes p ≡ record { value = line_feed; start = p; stop = line_start (p.line + 1) (p.index + n) } ∷ codes_from 0 (line_start (p.line + 1) (p.index + n)) (drop (p.index + n) bytes) →
    IsStep bytes p line_feed (line_start (p.line + 1) (p.index + n))
ending-record bytes p n s lt none one fits e = record {
  codes = e;
  stands = record {
    in_bytes = fits;
    in_tab = λ k. absurd (omega (arith, k));
    from_one = omega arith;
    inside = omega arith;
    columns = omega arith;
    lines = omega arith;
  };
  later = before-next_index p.index p.vs n one;
  counts = omega arith;
}

column-record : (bytes : List ℕ) (p : Point) (v : ℕ) → HasPlaceNumbers bytes p → p.index < length bytes →
    codes_at bytes p ≡ record { value = v; start = p; stop = next_column p (p.index + 1) 0 } ∷ codes_from 0 (next_column p (p.index + 1) 0) (drop (p.index + 1) bytes) →
    IsStep bytes p v (next_column p (p.index + 1) 0)
column-record bytes p v s lt e = record {
  codes = e;
  stands = record {
    in_bytes = omega arith;
    in_tab = λ k. absurd (omega (arith, k));
    from_one = omega arith;
    inside = omega arith;
    columns = omega arith;
    lines = omega arith;
  };
  later = before-next_index p.index p.vs 1 (omega arith);
  counts = omega arith;
}

inside-record : (bytes : List ℕ) (p : Point) (v : ℕ) → HasPlaceNumbers bytes p → p.index < length bytes →
    get_or bytes p.index 0 ≡ tab_value → 0 < tab_left p →
    codes_at bytes p ≡ record { value = v; start = p; stop = next_column p p.index (p.vs + 1) } ∷ codes_at bytes (next_column p p.index (p.vs + 1)) →
    IsStep bytes p v (next_column p p.index (p.vs + 1))
inside-record bytes p v s lt tab more e = record {
  codes = e;
  stands = record {
    in_bytes = omega arith;
    in_tab = λ k. (lt, tab);
    from_one = omega arith;
    inside = omega arith;
    columns = omega arith;
    lines = omega arith;
  };
  later = before-next_column p.index p.vs;
  counts = omega arith;
}

pub ending-step : (bytes : List ℕ) (p : Point) → HasPlaceNumbers bytes p → p.index < length bytes →
    is_line_ending_byte (get_or bytes p.index 0) ≡ true →
    IsStep bytes p line_feed (line_start (p.line + 1) (p.index + line_ending_len (get_or bytes p.index 0) (drop (p.index + 1) bytes)))
ending-step bytes p s lt h = grind (arith, vs-none, ending-not_tab, len-bounds, length-drop, ending-record, codes-none_inside, step-ending, drop-next)

pub plain-step : (bytes : List ℕ) (p : Point) → HasPlaceNumbers bytes p → p.index < length bytes →
    is_line_ending_byte (get_or bytes p.index 0) ≡ false → (get_or bytes p.index 0 == tab_value) ≡ false →
    IsStep bytes p (get_or bytes p.index 0) (next_column p (p.index + 1) 0)
plain-step bytes p s lt h k = grind (arith, vs-none, column-record, codes-none_inside, step-plain, drop-next)

tab-codes : (bytes : List ℕ) (p : Point) → p.index < length bytes → (get_or bytes p.index 0 == tab_value) ≡ true →
    (t : Bool) → nat_lt 0 p.vs ≡ t → codes_at bytes p ≡ tab_from (if t then space_value else tab_value) bytes p
tab-codes bytes p lt h true k = at_vs-inside p.vs bytes p (ltb-true 0 p.vs k)
tab-codes bytes p lt h false k =
    let none : p.vs ≡ 0 = omega (arith, ltb-false 0 p.vs k) in
    let tab : get_or bytes p.index 0 ≡ tab_value = eqb-true (get_or bytes p.index 0) tab_value h in
    codes-none_inside bytes p none ∙ from-tab bytes p (drop-next bytes p.index lt ∙ ap (λ x. x ∷ drop (p.index + 1) bytes) tab)

pub last-step : (bytes : List ℕ) (p : Point) → HasPlaceNumbers bytes p → p.index < length bytes →
    (get_or bytes p.index 0 == tab_value) ≡ true → tab_left p ≡ 0 →
    IsStep bytes p (if nat_lt 0 p.vs then space_value else tab_value) (next_column p (p.index + 1) 0)
last-step bytes p s lt h left =
    column-record bytes p (if nat_lt 0 p.vs then space_value else tab_value) s lt
    (tab-codes bytes p lt h (nat_lt 0 p.vs) refl ∙ tab-last (if nat_lt 0 p.vs then space_value else tab_value) bytes p left)

pub more-step : (n : ℕ) (bytes : List ℕ) (p : Point) → HasPlaceNumbers bytes p → p.index < length bytes →
    (get_or bytes p.index 0 == tab_value) ≡ true → tab_left p ≡ suc n →
    IsStep bytes p (if nat_lt 0 p.vs then space_value else tab_value) (next_column p p.index (p.vs + 1))
more-step n bytes p s lt h left =
    let q : Point = next_column p p.index (p.vs + 1) in
    let v : ℕ = if nat_lt 0 p.vs then space_value else tab_value in
    inside-record bytes p v s lt (eqb-true (get_or bytes p.index 0) tab_value h) (omega arith)
    (tab-codes bytes p lt h (nat_lt 0 p.vs) refl ∙ tab-more v n bytes p s.from_one left ∙ ap (λ cs. record { value = v; start = p; stop = q } ∷ cs) (sym (at_vs-inside (p.vs + 1) bytes q (omega arith))))
