-- Readings of the rest of a line, from a place in it to another.
use Rattle.std.proofs.Common.{◌≡◌, ℕ, zero, suc, ◌+◌, ◌-◌, ◌≤◌, ◌<◌, refl, ap, ◌∙◌, sym, subst, List, [], ◌∷◌, ◌++◌, length, take, drop, Bool, true, false, not, Some, None, Option, arith, drop-drop}
use Rattle.std.specs.Prelude.{if◌then◌else◌, ◌==◌}
use Rattle.std.specs.List.{starts_with}
use Rattle.markdown_content.specs.Codes.{Code}
use Rattle.markdown_model.specs.CodeTests.{values_of, is_value, is_whitespace_code, next_is}
use Rattle.markdown_model.specs.Grammar.{Reading, gives, either, before, one, some, any_number, span, word_of, word, ◌then_◌, repeated, repeatedly, optional}
use Rattle.markdown_model.specs.HtmlText.{spaces, optional_spaces, tag_name, quoted_value, unquoted_value, attribute_name, attribute_value, attribute, open_tag, closing_tag}
use Rattle.markdown_model.proofs.GrammarSteps.{one-here, one-not, before-some, before-other, before-none, any-number-is, some-span, some-nothing, then-some, then-none, then-other, either-some, either-second}
use Rattle.markdown_block_line.specs.declared.tags.Class.{Class}
use Rattle.markdown_block_line.specs.declared.tags.Class.TheVariants.{Letter, TagName, NameStart, AttributeName, Whitespace, ValueStart, Unquoted, ValueEnd}
use Rattle.markdown_block_line.specs.LineValues.{front}
use Rattle.markdown_block_line.specs.LineTags.{in_class, name, assigned_value, spaced_attribute, tag_end, Reads}
use Rattle.markdown_block_line.proofs.RestValues.{by_bool, values-length, span-pass, span-stop, front-of}
use Rattle.markdown_block_line.proofs.WordReadings.{is_same, word-is}

-- the reading reads from the first place to the second
pub record Spans (a : Reading (List Code)) (cs : List Code) (i k : ℕ) : Type 0 where
  pub order : i ≤ k
  pub reads : a (drop i cs) ≡ Some (take (k - i) (drop i cs), drop k cs)

take-none : (k : ℕ) → ◌≡◌ {A = List Code} (take k []) []
take-none zero = refl
take-none (suc k) = refl

take-add : (i j : ℕ) (cs : List Code) → take i cs ++ take j (drop i cs) ≡ take (i + j) cs
take-add zero j cs =
    let e : 0 + j ≡ j = omega arith in
    ap (λ n. take n cs) (sym e)
take-add (suc i) j [] = take-none j ∙ sym (take-none (suc i + j))
take-add (suc i) j (c ∷ cs) =
    let e : suc i + j ≡ suc (i + j) = omega arith in
    ap (λ xs. c ∷ xs) (take-add i j cs) ∙ ap (λ n. take n (c ∷ cs)) (sym e)

-- the codes between two places, by a place between
between : (cs : List Code) (i j k : ℕ) → i ≤ j → j ≤ k → take (j - i) (drop i cs) ++ take (k - j) (drop j cs) ≡ take (k - i) (drop i cs)
between cs i j k h l =
    let e : i + (j - i) ≡ j = omega arith in
    let f : j - i + (k - j) ≡ k - i = omega arith in
    ap (λ (d : List Code). take (j - i) (drop i cs) ++ take (k - j) d) (ap (λ n. drop n cs) (sym e) ∙ sym (drop-drop (j - i) i cs))
    ∙ take-add (j - i) (k - j) (drop i cs) ∙ ap (λ n. take n (drop i cs)) f

-- what a reading reads of the rest from a place on
pub spans-rest : (a : Reading (List Code)) (cs : List Code) (i n : ℕ) → a (drop i cs) ≡ Some (take n (drop i cs), drop n (drop i cs)) → Spans a cs i (i + n)
spans-rest a cs i n h =
    let e : i + n - i ≡ n = omega arith in
    record { order = omega arith; reads = h ∙ ap (λ (d : List Code). Some (take n (drop i cs), d)) (drop-drop n i cs) ∙ ap (λ m. Some (take m (drop i cs), drop (i + n) cs)) (sym e) }

pub spans-whole : (a : Reading (List Code)) (cs : List Code) (k : ℕ) → Spans a cs 0 k → a cs ≡ Some (take k cs, drop k cs)
spans-whole a cs k h =
    let e : k - 0 ≡ k = omega arith in
    h.reads ∙ ap (λ n. Some (take n cs, drop k cs)) e

pub spans-first : (a : Reading (List Code)) (cs : List Code) (n : ℕ) → a cs ≡ Some (take n cs, drop n cs) → Spans a cs 0 n
spans-first a cs n h =
    let e : n - 0 ≡ n = omega arith in
    record { order = omega arith; reads = h ∙ ap (λ m. Some (take m cs, drop n cs)) (sym e) }

pub spans-as : (a b : Reading (List Code)) (cs : List Code) (i k : ℕ) → Spans a cs i k → a ≡ b → Spans b cs i k
spans-as a b cs i k h e = subst (λ (r : Reading (List Code)). Spans r cs i k) e h

-- One reading and then another.

pub spans-then : (a b : Reading (List Code)) (cs : List Code) (i j k : ℕ) → Spans a cs i j → Spans b cs j k → Spans (a then_ b) cs i k
spans-then a b cs i j k h l = record {
  order = omega (arith, h.order, l.order);
  reads = then-some a b (drop i cs) (take (j - i) (drop i cs)) (drop j cs) (take (k - j) (drop j cs)) (drop k cs) h.reads l.reads ∙ ap (λ (x : List Code). Some (x, drop k cs)) (between cs i j k h.order l.order);
}

pub none-then : (a b : Reading (List Code)) (cs : List Code) (i j : ℕ) → Spans a cs i j → b (drop j cs) ≡ None → (a then_ b) (drop i cs) ≡ None
none-then a b cs i j h l = then-other a b (drop i cs) (take (j - i) (drop i cs)) (drop j cs) h.reads l

-- One code, and words of one code.

first-of : (p : Code → Bool) (cs : List Code) → next_is p cs ≡ true → one p cs ≡ Some (take 1 cs, drop 1 cs)
first-of p [] h = absurd (off h)
  where
    off : false ≡ true → ⊥
    off h = grind (arith, h)
first-of p (c ∷ cs) h = one-here p c cs h

pub spans-one : (p : Code → Bool) (cs : List Code) (i : ℕ) → next_is p (drop i cs) ≡ true → Spans (one p) cs i (i + 1)
spans-one p cs i h = spans-rest (one p) cs i 1 (first-of p (drop i cs) h)

word-one : (n : ℕ) (cs : List Code) → word_of (n ∷ []) cs ≡ one (is_value n) cs
unfolding word_of one
word-one n [] = refl
word-one n (c ∷ cs) = by_bool (c.value == n)
    (λ (e : (c.value == n) ≡ true). rw (e, word_of, one) refl)
    (λ (e : (c.value == n) ≡ false). rw (e, word_of, one) refl)

lt-is : word "<" ≡ word_of (60 ∷ [])
unfolding word
lt-is = refl

gt-is : word ">" ≡ word_of (62 ∷ [])
unfolding word
gt-is = refl

slash-is : word "/" ≡ word_of (47 ∷ [])
unfolding word
slash-is = refl

pub word-spans : (n : ℕ) (a : Reading (List Code)) (cs : List Code) (i : ℕ) → a ≡ word_of (n ∷ []) → next_is (is_value n) (drop i cs) ≡ true → Spans a cs i (i + 1)
word-spans n a cs i e h = spans-rest a cs i 1 (ap (λ (r : Reading (List Code)). r (drop i cs)) e ∙ word-one n (drop i cs) ∙ first-of (is_value n) (drop i cs) h)

pub word-none : (n : ℕ) (a : Reading (List Code)) (cs : List Code) → a ≡ word_of (n ∷ []) → next_is (is_value n) cs ≡ false → a cs ≡ None
word-none n a cs e h = ap (λ (r : Reading (List Code)). r cs) e ∙ word-one n cs ∙ one-not (is_value n) cs h

-- All codes that pass.

span-both : (p : Code → Bool) (cs : List Code) → span p cs ≡ (take (length (span p cs).0) cs, drop (length (span p cs).0) cs)
span-both p [] = refl
span-both p (c ∷ cs) = by_bool (p c)
    (λ (e : p c ≡ true). rw (span-pass p c cs e) (ap (λ (s : List Code × List Code). (c ∷ s.0, s.1)) (span-both p cs)))
    (λ (e : p c ≡ false). rw (span-stop p c cs e) refl)

span-front : (p : ℕ → Bool) (cs : List Code) (ns : List ℕ) (n : ℕ) → values_of cs ≡ ns → n ≡ front p ns → span (λ (c : Code). p c.value) cs ≡ (take n cs, drop n cs)
span-front p cs ns n h e =
    let l : length (span (λ (c : Code). p c.value) cs).0 ≡ n = front-of p cs ∙ ap (front p) h ∙ sym e in
    span-both (λ (c : Code). p c.value) cs ∙ ap (λ m. (take m cs, drop m cs)) l

pub spans-any : (p : ℕ → Bool) (cs : List Code) (ns : List ℕ) (i n : ℕ) → values_of (drop i cs) ≡ ns → n ≡ front p ns → Spans (any_number (λ (c : Code). p c.value)) cs i (i + n)
spans-any p cs ns i n h e =
    spans-rest (any_number (λ (c : Code). p c.value)) cs i n (any-number-is (λ (c : Code). p c.value) (drop i cs) ∙ ap (λ (s : List Code × List Code). Some s) (span-front p (drop i cs) ns n h e))

pub none-some : (p : ℕ → Bool) (cs : List Code) (ns : List ℕ) (n : ℕ) → values_of cs ≡ ns → n ≡ front p ns → n ≡ 0 → some (λ (c : Code). p c.value) cs ≡ None
none-some p cs ns n h e z = some-nothing (λ (c : Code). p c.value) cs (drop n cs) (span-front p cs ns n h e ∙ ap (λ m. (take m cs, drop n cs)) z)

some-front : (p : Code → Bool) (cs : List Code) (n : ℕ) → span p cs ≡ (take n cs, drop n cs) → 0 < n → n ≤ length cs → some p cs ≡ Some (take n cs, drop n cs)
some-front p cs zero e z l = absurd (omega arith)
some-front p [] (suc n) e z l = absurd (omega arith)
some-front p (c ∷ cs) (suc n) e z l = some-span p (c ∷ cs) c (take n cs) (drop n cs) e

-- What may be there.

pub spans-optional : (a : Reading (List Code)) (cs : List Code) (i k : ℕ) → Spans a cs i k → Spans (optional a) cs i k
unfolding optional
spans-optional a cs i k h = record { order = h.order; reads = either-some a (gives []) (drop i cs) (take (k - i) (drop i cs), drop k cs) h.reads }

pub spans-nothing : (a : Reading (List Code)) (cs : List Code) (i : ℕ) → a (drop i cs) ≡ None → Spans (optional a) cs i i
unfolding optional gives
spans-nothing a cs i h =
    let e : i - i ≡ 0 = omega arith in
    record { order = omega arith; reads = either-second a (gives []) (drop i cs) h ∙ ap (λ n. Some (take n (drop i cs), drop i cs)) (sym e) }

-- As often as a reading holds.

repeat-more : (n : ℕ) (a : Reading (List Code)) (cs x r y s : List Code) → a cs ≡ Some (x, r) → repeated n a r ≡ Some (y, s) → repeated (suc n) a cs ≡ Some (x ++ y, s)
unfolding repeated
repeat-more n a cs x r y s e h = rw (e, h, repeated) refl

repeat-none : (n : ℕ) (a : Reading (List Code)) (cs : List Code) → a cs ≡ None → repeated n a cs ≡ Some ([], cs)
unfolding repeated
repeat-none zero a cs e = refl
repeat-none (suc n) a cs e = rw (e, repeated) refl

-- the reading, as often as it holds, reads up to where it reads on from this place
pub record Repeats (a : Reading (List Code)) (cs : List Code) (i : ℕ) : Type 0 where
  pub times : ℕ
  pub enough : length cs ≤ i + times
  pub goes : (k : ℕ) → Spans (repeated times a) cs i k → Spans (repeatedly a) cs 0 k

pub repeats-start : (a : Reading (List Code)) (cs : List Code) → Repeats a cs 0
unfolding repeatedly
repeats-start a cs = record { times = length cs; enough = omega arith; goes = λ k h. record { order = h.order; reads = h.reads } }

pub repeats-more : (a : Reading (List Code)) (cs : List Code) (i j : ℕ) → Repeats a cs i → i < j → j ≤ length cs → Spans a cs i j → Repeats a cs j
repeats-more a cs i j h l w s = by_times h.times refl
  where
    by_times : (n : ℕ) → h.times ≡ n → Repeats a cs j
    by_times zero e = absurd (omega (arith, e, h.enough, l, w))
    by_times (suc n) e = record {
      times = n;
      enough = omega (arith, e, h.enough, l);
      goes = λ k t. h.goes k (subst (λ (m : ℕ). Spans (repeated m a) cs i k) (sym e) (record {
        order = omega (arith, l, t.order);
        reads = repeat-more n a (drop i cs) (take (j - i) (drop i cs)) (drop j cs) (take (k - j) (drop j cs)) (drop k cs) s.reads t.reads ∙ ap (λ (x : List Code). Some (x, drop k cs)) (between cs i j k s.order t.order);
      }));
    }

pub repeats-end : (a : Reading (List Code)) (cs : List Code) (i : ℕ) → Repeats a cs i → a (drop i cs) ≡ None → repeatedly a cs ≡ Some (take i cs, drop i cs)
repeats-end a cs i h e =
    let z : i - i ≡ 0 = omega arith in
    spans-whole (repeatedly a) cs i (h.goes i (record { order = omega arith; reads = repeat-none h.times a (drop i cs) e ∙ ap (λ n. Some (take n (drop i cs), drop i cs)) (sym z) }))

-- Names, values and attributes.

pub name-is : (first more : Class) → name first more ≡ (one (λ (c : Code). in_class first c.value) then_ any_number (λ (c : Code). in_class more c.value))
unfolding name
name-is first more = refl

pub tag-name-is : name Letter TagName ≡ tag_name
unfolding name tag_name
tag-name-is = refl

pub name-none : (first more : Class) (cs : List Code) → next_is (λ (c : Code). in_class first c.value) cs ≡ false → name first more cs ≡ None
name-none first more cs h =
    ap (λ (r : Reading (List Code)). r cs) (name-is first more)
    ∙ then-none (one (λ (c : Code). in_class first c.value)) (any_number (λ (c : Code). in_class more c.value)) cs (one-not (λ (c : Code). in_class first c.value) cs h)

pub name-reads : (first more : Class) (cs : List Code) (ns : List ℕ) (n : ℕ) → next_is (λ (c : Code). in_class first c.value) cs ≡ true → values_of (drop 1 cs) ≡ ns → n ≡ front (in_class more) ns
    → name first more cs ≡ Some (take (1 + n) cs, drop (1 + n) cs)
name-reads first more cs ns n h v e =
    spans-whole (name first more) cs (1 + n)
    (spans-as _ (name first more) cs 0 (1 + n)
    (spans-then (one (λ (c : Code). in_class first c.value)) (any_number (λ (c : Code). in_class more c.value)) cs 0 1 (1 + n)
    (spans-one (λ (c : Code). in_class first c.value) cs 0 h) (spans-any (in_class more) cs ns 1 n v e))
    (sym (name-is first more)))

-- A value in quotes.

abbrev quoted_codes : ℕ → Reading (List Code)
quoted_codes q = any_number (λ c. not (is_value q c))

quoted-is : (q : ℕ) → (one (is_value q) then_ quoted_codes q then_ one (is_value q)) ≡ quoted_value q
unfolding quoted_value
quoted-is q = refl

pub quoted-none : (q : ℕ) (cs : List Code) → next_is (is_value q) cs ≡ false → quoted_value q cs ≡ None
quoted-none q cs h =
    ap (λ (r : Reading (List Code)). r cs) (sym (quoted-is q)) ∙ then-none (one (is_value q)) (quoted_codes q then_ one (is_value q)) cs (one-not (is_value q) cs h)

pub quoted-open : (q : ℕ) (cs : List Code) (ns : List ℕ) (n : ℕ) → next_is (is_value q) cs ≡ true → values_of (drop 1 cs) ≡ ns → n ≡ front (λ v. not (v == q)) ns → next_is (is_value q) (drop (1 + n) cs) ≡ false
    → quoted_value q cs ≡ None
quoted-open q cs ns n h v e l =
    ap (λ (r : Reading (List Code)). r cs) (sym (quoted-is q))
    ∙ none-then (one (is_value q)) (quoted_codes q then_ one (is_value q)) cs 0 1 (spans-one (is_value q) cs 0 h)
    (none-then (quoted_codes q) (one (is_value q)) cs 1 (1 + n) (spans-any (λ v. not (v == q)) cs ns 1 n v e) (one-not (is_value q) (drop (1 + n) cs) l))

pub quoted-reads : (q : ℕ) (cs : List Code) (ns : List ℕ) (n : ℕ) → next_is (is_value q) cs ≡ true → values_of (drop 1 cs) ≡ ns → n ≡ front (λ v. not (v == q)) ns → next_is (is_value q) (drop (1 + n) cs) ≡ true
    → quoted_value q cs ≡ Some (take (1 + n + 1) cs, drop (1 + n + 1) cs)
quoted-reads q cs ns n h v e l =
    spans-whole (quoted_value q) cs (1 + n + 1)
    (spans-as _ (quoted_value q) cs 0 (1 + n + 1)
    (spans-then (one (is_value q)) (quoted_codes q then_ one (is_value q)) cs 0 1 (1 + n + 1) (spans-one (is_value q) cs 0 h)
    (spans-then (quoted_codes q) (one (is_value q)) cs 1 (1 + n) (1 + n + 1) (spans-any (λ v. not (v == q)) cs ns 1 n v e) (spans-one (is_value q) cs (1 + n) l)))
    (quoted-is q))

-- A value without quotes.

unquoted-is : before (name ValueStart Unquoted) (next_is (λ (c : Code). in_class ValueEnd c.value)) ≡ unquoted_value true
unfolding name unquoted_value
unquoted-is = refl

pub unquoted-none : (cs : List Code) → name ValueStart Unquoted cs ≡ None → unquoted_value true cs ≡ None
unquoted-none cs h = ap (λ (r : Reading (List Code)). r cs) (sym unquoted-is) ∙ before-none (name ValueStart Unquoted) (next_is (λ (c : Code). in_class ValueEnd c.value)) cs h

pub unquoted-not : (cs : List Code) (k : ℕ) → name ValueStart Unquoted cs ≡ Some (take k cs, drop k cs) → next_is (λ (c : Code). in_class ValueEnd c.value) (drop k cs) ≡ false → unquoted_value true cs ≡ None
unquoted-not cs k h e =
    ap (λ (r : Reading (List Code)). r cs) (sym unquoted-is) ∙ before-other (name ValueStart Unquoted) (next_is (λ (c : Code). in_class ValueEnd c.value)) cs (take k cs) (drop k cs) h e

pub unquoted-reads : (cs : List Code) (k : ℕ) → name ValueStart Unquoted cs ≡ Some (take k cs, drop k cs) → next_is (λ (c : Code). in_class ValueEnd c.value) (drop k cs) ≡ true
    → unquoted_value true cs ≡ Some (take k cs, drop k cs)
unquoted-reads cs k h e =
    ap (λ (r : Reading (List Code)). r cs) (sym unquoted-is) ∙ before-some (name ValueStart Unquoted) (next_is (λ (c : Code). in_class ValueEnd c.value)) cs (take k cs) (drop k cs) h e

-- Either.

value-is : either (quoted_value 34) (either (quoted_value 39) (unquoted_value true)) ≡ attribute_value true
unfolding attribute_value
value-is = refl

pub value-double : (cs : List Code) (r : List Code × List Code) → quoted_value 34 cs ≡ Some r → attribute_value true cs ≡ Some r
value-double cs r h = ap (λ (a : Reading (List Code)). a cs) (sym value-is) ∙ either-some (quoted_value 34) (either (quoted_value 39) (unquoted_value true)) cs r h

pub value-single : (cs : List Code) (r : List Code × List Code) → quoted_value 34 cs ≡ None → quoted_value 39 cs ≡ Some r → attribute_value true cs ≡ Some r
value-single cs r h e =
    ap (λ (a : Reading (List Code)). a cs) (sym value-is) ∙ either-second (quoted_value 34) (either (quoted_value 39) (unquoted_value true)) cs h ∙ either-some (quoted_value 39) (unquoted_value true) cs r e

pub value-bare : (cs : List Code) (r : Option (List Code × List Code)) → quoted_value 34 cs ≡ None → quoted_value 39 cs ≡ None → unquoted_value true cs ≡ r → attribute_value true cs ≡ r
value-bare cs r h e u =
    ap (λ (a : Reading (List Code)). a cs) (sym value-is) ∙ either-second (quoted_value 34) (either (quoted_value 39) (unquoted_value true)) cs h ∙ either-second (quoted_value 39) (unquoted_value true) cs e ∙ u

-- A value behind an equals sign.

abbrev blanks : Reading (List Code)
blanks = any_number is_whitespace_code

abbrev equals : Reading (List Code)
equals = one (is_value 61)

assigned-is : (blanks then_ equals then_ blanks then_ attribute_value true) ≡ assigned_value
unfolding assigned_value optional_spaces
assigned-is = refl

pub spans-blanks : (cs : List Code) (ns : List ℕ) (i n : ℕ) → values_of (drop i cs) ≡ ns → n ≡ front (in_class Whitespace) ns → Spans blanks cs i (i + n)
spans-blanks cs ns i n v e = spans-any (in_class Whitespace) cs ns i n v e

pub blanks-first : (cs : List Code) (ns : List ℕ) (n : ℕ) → values_of cs ≡ ns → n ≡ front (in_class Whitespace) ns → Spans blanks cs 0 n
blanks-first cs ns n v e = spans-first blanks cs n (spans-whole blanks cs (0 + n) (spans-blanks cs ns 0 n v e) ∙ ap (λ m. Some (take m cs, drop m cs)) (omega arith))

pub assigned-none : (cs : List Code) (s : ℕ) → Spans blanks cs 0 s → next_is (is_value 61) (drop s cs) ≡ false → assigned_value cs ≡ None
assigned-none cs s h e =
    ap (λ (r : Reading (List Code)). r cs) (sym assigned-is)
    ∙ none-then blanks (equals then_ blanks then_ attribute_value true) cs 0 s h (then-none equals (blanks then_ attribute_value true) (drop s cs) (one-not (is_value 61) (drop s cs) e))

pub assigned-not : (cs : List Code) (s t : ℕ) → Spans blanks cs 0 s → next_is (is_value 61) (drop s cs) ≡ true → Spans blanks cs (s + 1) t → attribute_value true (drop t cs) ≡ None → assigned_value cs ≡ None
assigned-not cs s t h e l n =
    ap (λ (r : Reading (List Code)). r cs) (sym assigned-is)
    ∙ none-then blanks (equals then_ blanks then_ attribute_value true) cs 0 s h
    (none-then equals (blanks then_ attribute_value true) cs s (s + 1) (spans-one (is_value 61) cs s e) (none-then blanks (attribute_value true) cs (s + 1) t l n))

pub assigned-reads : (cs : List Code) (s t k : ℕ) → Spans blanks cs 0 s → next_is (is_value 61) (drop s cs) ≡ true → Spans blanks cs (s + 1) t → Spans (attribute_value true) cs t k → assigned_value cs ≡ Some (take k cs, drop k cs)
assigned-reads cs s t k h e l n =
    spans-whole assigned_value cs k
    (spans-as _ assigned_value cs 0 k
    (spans-then blanks (equals then_ blanks then_ attribute_value true) cs 0 s k h
    (spans-then equals (blanks then_ attribute_value true) cs s (s + 1) k (spans-one (is_value 61) cs s e) (spans-then blanks (attribute_value true) cs (s + 1) t k l n)))
    assigned-is)

-- Attributes.

attribute-is : (name NameStart AttributeName then_ optional assigned_value) ≡ attribute true
unfolding attribute attribute_name name assigned_value
attribute-is = refl

pub attribute-none : (cs : List Code) → name NameStart AttributeName cs ≡ None → attribute true cs ≡ None
attribute-none cs h = ap (λ (r : Reading (List Code)). r cs) (sym attribute-is) ∙ then-none (name NameStart AttributeName) (optional assigned_value) cs h

pub attribute-reads : (cs : List Code) (i k : ℕ) → Spans (name NameStart AttributeName) cs 0 i → Spans (optional assigned_value) cs i k → attribute true cs ≡ Some (take k cs, drop k cs)
attribute-reads cs i k h l = spans-whole (attribute true) cs k (spans-as _ (attribute true) cs 0 k (spans-then (name NameStart AttributeName) (optional assigned_value) cs 0 i k h l) attribute-is)

spaced-is : (some is_whitespace_code then_ attribute true) ≡ spaced_attribute
unfolding spaced_attribute spaces
spaced-is = refl

pub some-none : (cs : List Code) (ns : List ℕ) (n : ℕ) → values_of cs ≡ ns → n ≡ front (in_class Whitespace) ns → n ≡ 0 → some is_whitespace_code cs ≡ None
some-none cs ns n h e z = none-some (in_class Whitespace) cs ns n h e z

pub some-first : (cs : List Code) (ns : List ℕ) (n : ℕ) → values_of cs ≡ ns → n ≡ front (in_class Whitespace) ns → (n ≡ 0 → ⊥) → n ≤ length ns → Spans (some is_whitespace_code) cs 0 n
some-first cs ns n h e z l =
    let m : n ≤ length cs = omega (arith, l, ap length h, values-length cs) in
    spans-first (some is_whitespace_code) cs n (some-front is_whitespace_code cs n (span-front (in_class Whitespace) cs ns n h e) (omega arith) m)

pub spaced-none : (cs : List Code) → some is_whitespace_code cs ≡ None → spaced_attribute cs ≡ None
spaced-none cs h = ap (λ (r : Reading (List Code)). r cs) (sym spaced-is) ∙ then-none (some is_whitespace_code) (attribute true) cs h

pub spaced-not : (cs : List Code) (s : ℕ) → Spans (some is_whitespace_code) cs 0 s → attribute true (drop s cs) ≡ None → spaced_attribute cs ≡ None
spaced-not cs s h e = ap (λ (r : Reading (List Code)). r cs) (sym spaced-is) ∙ none-then (some is_whitespace_code) (attribute true) cs 0 s h e

pub spaced-reads : (cs : List Code) (s k : ℕ) → Spans (some is_whitespace_code) cs 0 s → Spans (attribute true) cs s k → spaced_attribute cs ≡ Some (take k cs, drop k cs)
spaced-reads cs s k h l = spans-whole spaced_attribute cs k (spans-as _ spaced_attribute cs 0 k (spans-then (some is_whitespace_code) (attribute true) cs 0 s k h l) spaced-is)

-- Tags.

pub spans-slash : (cs : List Code) (i n : ℕ) → n ≡ (if next_is (is_value 47) (drop i cs) then 1 else 0) → Spans (optional (word "/")) cs i (i + n)
spans-slash cs i n h = by_bool (next_is (is_value 47) (drop i cs))
    (λ (e : next_is (is_value 47) (drop i cs) ≡ true).
    let m : i + 1 ≡ i + n = ap (λ k. i + k) (sym (h ∙ ap (λ b. if b then 1 else 0) e)) in
    subst (λ (k : ℕ). Spans (optional (word "/")) cs i k) m (spans-optional (word "/") cs i (i + 1) (word-spans 47 (word "/") cs i slash-is e)))
    (λ (e : next_is (is_value 47) (drop i cs) ≡ false).
    let z : n ≡ 0 = h ∙ ap (λ b. if b then 1 else 0) e in
    let m : i ≡ i + n = omega (arith, z) in
    subst (λ (k : ℕ). Spans (optional (word "/")) cs i k) m (spans-nothing (word "/") cs i (word-none 47 (word "/") (drop i cs) slash-is e)))

end-is : (blanks then_ optional (word "/") then_ word ">") ≡ tag_end
unfolding tag_end optional_spaces
end-is = refl

pub end-none : (cs : List Code) (s k : ℕ) → Spans blanks cs 0 s → Spans (optional (word "/")) cs s k → next_is (is_value 62) (drop k cs) ≡ false → tag_end cs ≡ None
end-none cs s k h l e =
    ap (λ (r : Reading (List Code)). r cs) (sym end-is) ∙ none-then blanks (optional (word "/") then_ word ">") cs 0 s h (none-then (optional (word "/")) (word ">") cs s k l (word-none 62 (word ">") (drop k cs) gt-is e))

pub end-reads : (cs : List Code) (s k : ℕ) → Spans blanks cs 0 s → Spans (optional (word "/")) cs s k → next_is (is_value 62) (drop k cs) ≡ true → tag_end cs ≡ Some (take (k + 1) cs, drop (k + 1) cs)
end-reads cs s k h l e =
    spans-whole tag_end cs (k + 1)
    (spans-as _ tag_end cs 0 (k + 1)
    (spans-then blanks (optional (word "/") then_ word ">") cs 0 s (k + 1) h (spans-then (optional (word "/")) (word ">") cs s k (k + 1) l (word-spans 62 (word ">") cs k gt-is e)))
    end-is)

abbrev attributes : Reading (List Code)
attributes = repeatedly spaced_attribute

open-is : (word "<" then_ tag_name then_ attributes then_ tag_end) ≡ open_tag true
unfolding open_tag spaced_attribute tag_end
open-is = refl

pub open-none : (cs : List Code) → next_is (is_value 60) cs ≡ false → open_tag true cs ≡ None
open-none cs h = ap (λ (r : Reading (List Code)). r cs) (sym open-is) ∙ then-none (word "<") (tag_name then_ attributes then_ tag_end) cs (word-none 60 (word "<") cs lt-is h)

pub open-nameless : (cs : List Code) → next_is (is_value 60) cs ≡ true → tag_name (drop 1 cs) ≡ None → open_tag true cs ≡ None
open-nameless cs h e =
    ap (λ (r : Reading (List Code)). r cs) (sym open-is)
    ∙ none-then (word "<") (tag_name then_ attributes then_ tag_end) cs 0 1 (word-spans 60 (word "<") cs 0 lt-is h) (then-none tag_name (attributes then_ tag_end) (drop 1 cs) e)

pub open-unended : (cs : List Code) (i j : ℕ) → next_is (is_value 60) cs ≡ true → Spans tag_name cs 1 i → Spans attributes cs i j → tag_end (drop j cs) ≡ None → open_tag true cs ≡ None
open-unended cs i j h n a e =
    ap (λ (r : Reading (List Code)). r cs) (sym open-is)
    ∙ none-then (word "<") (tag_name then_ attributes then_ tag_end) cs 0 1 (word-spans 60 (word "<") cs 0 lt-is h)
    (none-then tag_name (attributes then_ tag_end) cs 1 i n (none-then attributes tag_end cs i j a e))

pub open-reads : (cs : List Code) (i j k : ℕ) → next_is (is_value 60) cs ≡ true → Spans tag_name cs 1 i → Spans attributes cs i j → Spans tag_end cs j k → open_tag true cs ≡ Some (take k cs, drop k cs)
open-reads cs i j k h n a e =
    spans-whole (open_tag true) cs k
    (spans-as _ (open_tag true) cs 0 k
    (spans-then (word "<") (tag_name then_ attributes then_ tag_end) cs 0 1 k (word-spans 60 (word "<") cs 0 lt-is h)
    (spans-then tag_name (attributes then_ tag_end) cs 1 i k n (spans-then attributes tag_end cs i j k a e)))
    open-is)

closing-is : (word "</" then_ tag_name then_ blanks then_ word ">") ≡ closing_tag
unfolding closing_tag optional_spaces
closing-is = refl

pub closing-none : (cs : List Code) → word "</" cs ≡ None → closing_tag cs ≡ None
closing-none cs h = ap (λ (r : Reading (List Code)). r cs) (sym closing-is) ∙ then-none (word "</") (tag_name then_ blanks then_ word ">") cs h

pub closing-nameless : (cs : List Code) → Spans (word "</") cs 0 2 → tag_name (drop 2 cs) ≡ None → closing_tag cs ≡ None
closing-nameless cs h e =
    ap (λ (r : Reading (List Code)). r cs) (sym closing-is) ∙ none-then (word "</") (tag_name then_ blanks then_ word ">") cs 0 2 h (then-none tag_name (blanks then_ word ">") (drop 2 cs) e)

pub closing-unended : (cs : List Code) (i j : ℕ) → Spans (word "</") cs 0 2 → Spans tag_name cs 2 i → Spans blanks cs i j → next_is (is_value 62) (drop j cs) ≡ false → closing_tag cs ≡ None
closing-unended cs i j h n s e =
    ap (λ (r : Reading (List Code)). r cs) (sym closing-is)
    ∙ none-then (word "</") (tag_name then_ blanks then_ word ">") cs 0 2 h
    (none-then tag_name (blanks then_ word ">") cs 2 i n (none-then blanks (word ">") cs i j s (word-none 62 (word ">") (drop j cs) gt-is e)))

pub closing-reads : (cs : List Code) (i j : ℕ) → Spans (word "</") cs 0 2 → Spans tag_name cs 2 i → Spans blanks cs i j → next_is (is_value 62) (drop j cs) ≡ true → closing_tag cs ≡ Some (take (j + 1) cs, drop (j + 1) cs)
closing-reads cs i j h n s e =
    spans-whole closing_tag cs (j + 1)
    (spans-as _ closing_tag cs 0 (j + 1)
    (spans-then (word "</") (tag_name then_ blanks then_ word ">") cs 0 2 (j + 1) h
    (spans-then tag_name (blanks then_ word ">") cs 2 i (j + 1) n (spans-then blanks (word ">") cs i j (j + 1) s (word-spans 62 (word ">") cs j gt-is e))))
    closing-is)

pub closing-word : (cs : List Code) (vs : List ℕ) (b : Bool) → values_of cs ≡ vs → b ≡ starts_with is_same vs (60 ∷ 47 ∷ []) → word "</" cs ≡ (if b then Some (take 2 cs, drop 2 cs) else None)
unfolding word
closing-word cs vs b h e = word-is (60 ∷ 47 ∷ []) cs ∙ ap (λ v. if v then Some (take 2 cs, drop 2 cs) else None) (ap (λ us. starts_with is_same us (60 ∷ 47 ∷ [])) h ∙ sym e)

pub closing-away : (cs : List Code) (vs : List ℕ) (b : Bool) → values_of cs ≡ vs → b ≡ starts_with is_same vs (60 ∷ 47 ∷ []) → b ≡ false → closing_tag cs ≡ None
closing-away cs vs b h e f = closing-none cs (closing-word cs vs b h e ∙ ap (λ v. if v then Some (take 2 cs, drop 2 cs) else None) f)

pub closing-here : (cs : List Code) (vs : List ℕ) (b : Bool) → values_of cs ≡ vs → b ≡ starts_with is_same vs (60 ∷ 47 ∷ []) → b ≡ true → Spans (word "</") cs 0 2
closing-here cs vs b h e f = spans-first (word "</") cs 2 (closing-word cs vs b h e ∙ ap (λ v. if v then Some (take 2 cs, drop 2 cs) else None) f)

-- what one reading reads another reads
pub reads-same : (a b : Reading (List Code)) (cs : List Code) (o : Option ℕ) → a cs ≡ b cs → Reads b cs o → Reads a cs o
reads-same a b cs None e h = e ∙ h
reads-same a b cs (Some k) e h = e ∙ h

pub value-same : (cs : List Code) → quoted_value 34 cs ≡ None → quoted_value 39 cs ≡ None → attribute_value true cs ≡ unquoted_value true cs
value-same cs h e = value-bare cs (unquoted_value true cs) h e refl
