-- The codes of a line that stand outside of a container, and those on either side of a heading's text.
use Rattle.std.proofs.Common.{◌≡◌, ℕ, zero, suc, ◌+◌, ◌<◌, ◌≤◌, refl, sym, ap, subst, ◌∙◌, List, [], ◌∷◌, ◌++◌, length, take, drop, Bool, true, false, ◌&&◌, ◌||◌, not, ◌==◌, nat_lt, Option, Some, None, if◌then◌else◌, arith, length-append, length-drop, drop-drop}
use Rattle.std.proofs.lemmas.List.{append_assoc, append-nil}
use Rattle.std.proofs.lemmas.List.Folds.{list_all-append}
use Rattle.std.proofs.lemmas.Bool.Decides.{nat_tests}
use Rattle.std.specs.Prelude.{nat_le}
use Rattle.std.specs.Str.{byte}
use Rattle.std.specs.List.{list_all}
use Rattle.markdown_content.specs.Codes.{Code, is_blank, is_line_ending}
use Rattle.markdown_model.specs.CodeTests.{is_value, is_between, next_is, is_digit, is_whitespace_code}
use Rattle.markdown_model.specs.Grammar.{span}
use Rattle.markdown_block_model.specs.LineRests.{indent, trimmed, is_blank_line, past_blank, skip, is_gap, count_first, first_value, onto_end, without_end, trimmed_end, only_if}
use Rattle.markdown_block_model.specs.BlockTree.{no_extensions, Marker, bullet, ordered, Container, quote, item, footnote, Fence, Leaf, blank, thematic_break, heading, underlined, paragraph, indented_code, fenced_code, html, table, front_matter, Tree}
use Rattle.markdown_block_model.specs.LeafStarts.{fence_least, is_break, ends_blank, heading_text, may_be_info, is_closing}
use Rattle.markdown_block_model.specs.HtmlStarts.{html_kind, ends_html}
use Rattle.markdown_block_model.specs.ContainerStarts.{behind_quote, in_quote, quote_at, number_from, bullet_at, ordered_of, ordered_at, or_else, marker_at, padding, may_begin, item_by, item_at}
use Rattle.markdown_block_model.specs.BlockStarts.{Begun, leaf_begins, container_begins, leaf_begun, container_begun, first_of, begun}
use Rattle.markdown_block_model.specs.DocumentBlocks.{is_further_blank, rest_in_item, rest_inside, with_fenced_line, with_indented_line, with_next}
use Rattle.markdown_block_line.specs.LineStarts.{heading_start, fence_start}
use Rattle.markdown_blocks.specs.TextRows.{is_outer, begins_ascii}
use Rattle.markdown_block_line.specs.LineBlocks.{extensions_of}
use Rattle.markdown_block_line.specs.declared.extensions.Extensions.{Extensions}

-- what is left stands behind codes that may stand outside
pub record IsBehind (cs rest : List Code) : Type 0 where
  pub front : List Code
  pub whole : front ++ rest ≡ cs
  pub outer : list_all is_outer front ≡ true

behind-none : (cs : List Code) → IsBehind cs cs
behind-none cs = record { front = []; whole = refl; outer = refl }

and-true : (a b : Bool) → a ≡ true → b ≡ true → (a && b) ≡ true
and-true a b h k = ap (λ v. v && b) h ∙ k

behind-more : (a b c : List Code) → IsBehind a b → IsBehind b c → IsBehind a c
behind-more a b c h k = record {
  front = h.front ++ k.front;
  whole = append_assoc h.front k.front c ∙ ap (λ x. h.front ++ x) k.whole ∙ h.whole;
  outer = list_all-append is_outer h.front k.front ∙ and-true (list_all is_outer h.front) (list_all is_outer k.front) h.outer k.outer;
}

behind-one : (c : Code) (cs : List Code) → is_outer c ≡ true → IsBehind (c ∷ cs) cs
behind-one c cs h = record { front = c ∷ []; whole = refl; outer = and-true (is_outer c) true h refl }

behind-span : (p : Code → Bool) → ((c : Code) → p c ≡ true → is_outer c ≡ true) → (cs : List Code) → IsBehind cs (span p cs).1
behind-span p f [] = behind-none []
behind-span p f (c ∷ cs) = by_case (p c) refl (behind-span p f cs)
  where
    by_case : (b : Bool) → p c ≡ b → IsBehind cs (span p cs).1
        → IsBehind (c ∷ cs) (elim b as (λ _. List Code × List Code) [ true ↦ (c ∷ (span p cs).0, (span p cs).1) | false ↦ ([], c ∷ cs) ]).1
    by_case true e h = behind-more (c ∷ cs) cs (span p cs).1 (behind-one c cs (f c e)) h
    by_case false e h = behind-none (c ∷ cs)

-- the codes that may stand outside

blank-number : (n : ℕ) → (n == 32 || n == 9) ≡ true → (nat_lt n 128 && not (n == 10)) ≡ true
blank-number n h = grind (arith, nat_tests)

same-number : (n m : ℕ) → (n == m) ≡ true → (nat_lt m 128 && not (m == 10)) ≡ true → (nat_lt n 128 && not (n == 10)) ≡ true
same-number n m h k = grind (arith, nat_tests)

digit-number : (n : ℕ) → (nat_le 48 n && nat_le n 57) ≡ true → (nat_lt n 128 && not (n == 10)) ≡ true
digit-number n h = grind (arith, nat_tests)

bullet-number : (n : ℕ) → (n == 45 || (n == 43 || n == 42)) ≡ true → (nat_lt n 128 && not (n == 10)) ≡ true
bullet-number n h = grind (arith, nat_tests)

delimiter-number : (n : ℕ) → (n == 46 || n == 41) ≡ true → (nat_lt n 128 && not (n == 10)) ≡ true
delimiter-number n h = grind (arith, nat_tests)

past-behind : (cs : List Code) → IsBehind cs (past_blank cs)
past-behind [] = behind-none []
past-behind (c ∷ cs) = by_case (is_blank c) refl
  where
    by_case : (b : Bool) → is_blank c ≡ b → IsBehind (c ∷ cs) (if b then cs else c ∷ cs)
    by_case true e = behind-one c cs (blank-number c.value e)
    by_case false e = behind-none (c ∷ cs)

skip-behind : (n : ℕ) (cs : List Code) → IsBehind cs (skip n cs)
skip-behind zero cs = behind-none cs
skip-behind (suc n) cs = behind-more cs (past_blank cs) (skip n (past_blank cs)) (past-behind cs) (skip-behind n (past_blank cs))

trimmed-behind : (cs : List Code) → IsBehind cs (trimmed cs)
trimmed-behind cs = behind-span is_blank (λ c e. blank-number c.value e) cs

-- a first code of this value
first-behind : (n : ℕ) (cs : List Code) → (nat_lt n 128 && not (n == 10)) ≡ true → next_is (is_value n) cs ≡ true → IsBehind cs (drop 1 cs)
first-behind n [] h k = behind-none []
first-behind n (c ∷ cs) h k = behind-one c cs (same-number c.value n k h)

-- Containers.

abbrev RestOuter : List Code → Option (List Code) → Type 0
RestOuter cs None = Unit {0}
RestOuter cs (Some rest) = IsBehind cs rest

abbrev InsideOuter : List Code → Option (Container × List Code) → Type 0
InsideOuter cs None = Unit {0}
InsideOuter cs (Some r) = IsBehind cs r.1

abbrev HasMarker : List Code → Option (Marker × ℕ) → Type 0
HasMarker cs None = Unit {0}
HasMarker cs (Some m) = IsBehind cs (drop m.1 cs)

second-true : (a b : Bool) → (a && b) ≡ true → b ≡ true
second-true true b h = h
second-true false b h = absurd (cc)

quote-behind : (cs : List Code) → RestOuter cs (behind_quote cs)
quote-behind cs = by_case (nat_lt (indent cs) 4 && next_is (is_value (byte ">")) (trimmed cs)) refl
  where
    by_case : (b : Bool) → (nat_lt (indent cs) 4 && next_is (is_value (byte ">")) (trimmed cs)) ≡ b → RestOuter cs (only_if b (skip 1 (drop 1 (trimmed cs))))
    by_case true e =
        behind-more cs (trimmed cs) (skip 1 (drop 1 (trimmed cs))) (trimmed-behind cs)
        (behind-more (trimmed cs) (drop 1 (trimmed cs)) (skip 1 (drop 1 (trimmed cs))) (first-behind (byte ">") (trimmed cs) refl (second-true (nat_lt (indent cs) 4) (next_is (is_value (byte ">")) (trimmed cs)) e))
        (skip-behind 1 (drop 1 (trimmed cs))))
    by_case false e = tt

bullet-behind : (cs : List Code) → HasMarker cs (bullet_at cs)
bullet-behind [] = tt
bullet-behind (c ∷ cs) = by_case (c.value == byte "-" || (c.value == byte "+" || c.value == byte "*")) refl
  where
    by_case : (b : Bool) → (c.value == byte "-" || (c.value == byte "+" || c.value == byte "*")) ≡ b → HasMarker (c ∷ cs) (only_if b (bullet c.value, 1))
    by_case true e = behind-one c cs (bullet-number c.value e)
    by_case false e = tt

drop-past : (xs ds : List Code) (d : Code) → drop (length xs + 1) (xs ++ d ∷ ds) ≡ ds
drop-past [] ds d = refl
drop-past (x ∷ xs) ds d = let e : length (x ∷ xs) + 1 ≡ suc (length xs + 1) = omega arith in rw e (drop-past xs ds d)

ordered-behind-by : (digits more cs : List Code) → digits ++ more ≡ cs → list_all is_outer digits ≡ true → HasMarker cs (ordered_of digits (first_value more))
ordered-behind-by digits [] cs h k = by_test (is_between 1 9 (length digits))
  where
    by_test : (b : Bool) → HasMarker cs (only_if (b && false) (ordered 0 (number_from 0 digits), length digits + 1))
    by_test true = tt
    by_test false = tt
ordered-behind-by digits (d ∷ ds) cs h k = by_case (is_between 1 9 (length digits) && (d.value == byte "." || d.value == byte ")")) refl
  where
    by_case : (b : Bool) → (is_between 1 9 (length digits) && (d.value == byte "." || d.value == byte ")")) ≡ b
        → HasMarker cs (only_if b (ordered d.value (number_from 0 digits), length digits + 1))
    by_case true e =
        let past : ds ≡ drop (length digits + 1) cs = sym (drop-past digits ds d) ∙ ap (drop (length digits + 1)) h in
        let outer : is_outer d ≡ true = delimiter-number d.value (second-true (is_between 1 9 (length digits)) (d.value == byte "." || d.value == byte ")") e) in
        subst (λ (r : List Code). IsBehind cs r) past
        (behind-more cs (d ∷ ds) ds (record { front = digits; whole = h; outer = k }) (behind-one d ds outer))
    by_case false e = tt

ordered-behind : (cs : List Code) → HasMarker cs (ordered_at cs)
ordered-behind cs = ordered-behind-by (span is_digit cs).0 (span is_digit cs).1 cs (whole cs) (digits cs)
  where
    whole : (cs : List Code) → (span is_digit cs).0 ++ (span is_digit cs).1 ≡ cs
    whole [] = refl
    whole (c ∷ cs) = by_test (is_digit c) (whole cs)
      where
        by_test : (b : Bool) → (span is_digit cs).0 ++ (span is_digit cs).1 ≡ cs
            → (elim b as (λ _. List Code × List Code) [ true ↦ (c ∷ (span is_digit cs).0, (span is_digit cs).1) | false ↦ ([], c ∷ cs) ]).0
            ++ (elim b as (λ _. List Code × List Code) [ true ↦ (c ∷ (span is_digit cs).0, (span is_digit cs).1) | false ↦ ([], c ∷ cs) ]).1 ≡ c ∷ cs
        by_test true h = ap (λ x. c ∷ x) h
        by_test false h = refl

    digits : (cs : List Code) → list_all is_outer (span is_digit cs).0 ≡ true
    digits [] = refl
    digits (c ∷ cs) = by_case (is_digit c) refl (digits cs)
      where
        by_case : (b : Bool) → is_digit c ≡ b → list_all is_outer (span is_digit cs).0 ≡ true
            → list_all is_outer (elim b as (λ _. List Code × List Code) [ true ↦ (c ∷ (span is_digit cs).0, (span is_digit cs).1) | false ↦ ([], c ∷ cs) ]).0 ≡ true
        by_case true e h = and-true (is_outer c) (list_all is_outer (span is_digit cs).0) (digit-number c.value e) h
        by_case false e h = refl

marker-behind : (cs : List Code) (o k : Option (Marker × ℕ)) → HasMarker cs o → HasMarker cs k → HasMarker cs (or_else o k)
marker-behind cs None k h g = g
marker-behind cs (Some m) k h g = h

item-behind : (in_paragraph : Bool) (columns : ℕ) (cs : List Code) (o : Option (Marker × ℕ)) → HasMarker cs o → InsideOuter cs (item_by in_paragraph columns cs o)
item-behind in_paragraph columns cs None h = tt
item-behind in_paragraph columns cs (Some m) h = by_test (may_begin in_paragraph m.0 (drop m.1 cs))
  where
    by_test : (b : Bool) → InsideOuter cs (only_if b (item m.0 (columns + m.1 + padding (drop m.1 cs)), skip (padding (drop m.1 cs)) (drop m.1 cs)))
    by_test true = behind-more cs (drop m.1 cs) (skip (padding (drop m.1 cs)) (drop m.1 cs)) h (skip-behind (padding (drop m.1 cs)) (drop m.1 cs))
    by_test false = tt

-- inside a container that the line continues
inside-item : (b : Bool) (columns : ℕ) (cs : List Code) → RestOuter cs (rest_in_item b columns cs)
inside-item true columns cs = skip-behind columns cs
inside-item false columns cs = by_test (is_blank_line cs)
  where
    by_test : (b : Bool) → RestOuter cs (only_if b (trimmed cs))
    by_test true = trimmed-behind cs
    by_test false = tt

inside-behind : (c : Container) (inside : Tree) (cs : List Code) → RestOuter cs (rest_inside c inside cs)
inside-behind quote inside cs = quote-behind cs
inside-behind (footnote label) inside cs = inside-item (nat_le 4 (indent cs)) 4 cs
inside-behind (item m columns) inside cs = by_test (is_further_blank inside cs)
  where
    by_test : (b : Bool) → RestOuter cs (if b then None else rest_in_item (nat_le columns (indent cs)) columns cs)
    by_test true = tt
    by_test false = inside-item (nat_le columns (indent cs)) columns cs

-- Headings.

abbrev is_ascii : Code → Bool
is_ascii c = nat_lt c.value 128

-- a text, with codes behind it that are ASCII
record IsBefore (cs text : List Code) : Type 0 where
  back : List Code
  whole : text ++ back ≡ cs
  ascii : list_all is_ascii back ≡ true

before-none : (cs : List Code) → IsBefore cs cs
before-none cs = record { back = []; whole = append-nil cs; ascii = refl }

before-more : (a b c : List Code) → IsBefore a b → IsBefore b c → IsBefore a c
before-more a b c h k = record {
  back = k.back ++ h.back;
  whole = sym (append_assoc c k.back h.back) ∙ ap (λ x. x ++ h.back) k.whole ∙ h.whole;
  ascii = list_all-append is_ascii k.back h.back ∙ and-true (list_all is_ascii k.back) (list_all is_ascii h.back) k.ascii h.ascii;
}

on-end-before : (p : Code → Bool) → ((c : Code) → p c ≡ true → is_ascii c ≡ true) → (c : Code) (r cs : List Code) → IsBefore cs r → IsBefore (c ∷ cs) (onto_end p c r)
on-end-before p f c [] cs h = by_case (p c) refl
  where
    by_case : (b : Bool) → p c ≡ b → IsBefore (c ∷ cs) (if b then [] else c ∷ [])
    by_case true e = record { back = c ∷ h.back; whole = ap (λ x. c ∷ x) h.whole; ascii = and-true (is_ascii c) (list_all is_ascii h.back) (f c e) h.ascii }
    by_case false e = record { back = h.back; whole = ap (λ x. c ∷ x) h.whole; ascii = h.ascii }
on-end-before p f c (d ∷ ds) cs h = record { back = h.back; whole = ap (λ x. c ∷ x) h.whole; ascii = h.ascii }

end-before : (p : Code → Bool) → ((c : Code) → p c ≡ true → is_ascii c ≡ true) → (cs : List Code) → IsBefore cs (without_end p cs)
end-before p f [] = before-none []
end-before p f (c ∷ cs) = on-end-before p f c (without_end p cs) cs (end-before p f cs)

space-ascii : (n : ℕ) → ((n == 32 || n == 9) || n == 10) ≡ true → nat_lt n 128 ≡ true
space-ascii n h = grind (arith, nat_tests)

sign-ascii : (n : ℕ) → (n == 35) ≡ true → nat_lt n 128 ≡ true
sign-ascii n h = grind (arith, nat_tests)

trimmed-before : (cs : List Code) → IsBefore cs (trimmed_end cs)
trimmed-before cs = end-before is_whitespace_code (λ c e. space-ascii c.value e) cs

closed-before : (cs : List Code) → IsBefore cs (heading_text cs)
closed-before cs = by_test (ends_blank open_part)
  where
    open_part : List Code
    open_part = without_end (is_value (byte "#")) cs

    by_test : (b : Bool) → IsBefore cs (if b then trimmed_end open_part else cs)
    by_test true = before-more cs open_part (trimmed_end open_part) (end-before (is_value (byte "#")) (λ c e. sign-ascii c.value e) cs) (trimmed-before open_part)
    by_test false = before-none cs

text-before : (cs : List Code) → IsBefore cs (heading_text (trimmed_end cs))
text-before cs = before-more cs (trimmed_end cs) (heading_text (trimmed_end cs)) (trimmed-before cs) (closed-before (trimmed_end cs))

span-drop : (p : Code → Bool) (cs : List Code) → (span p cs).1 ≡ drop (length (span p cs).0) cs
span-drop p [] = refl
span-drop p (c ∷ cs) = by_test (p c) (span-drop p cs)
  where
    by_test : (b : Bool) → (span p cs).1 ≡ drop (length (span p cs).0) cs
        → (elim b as (λ _. List Code × List Code) [ true ↦ (c ∷ (span p cs).0, (span p cs).1) | false ↦ ([], c ∷ cs) ]).1
        ≡ drop (length (elim b as (λ _. List Code × List Code) [ true ↦ (c ∷ (span p cs).0, (span p cs).1) | false ↦ ([], c ∷ cs) ]).0) (c ∷ cs)
    by_test true h = h
    by_test false h = refl

-- What begins: the rest inside a container, the text of a heading, the info string of fenced code, and a line of indented code.

-- the value of a fence may stand outside, and behind an info string stand codes that are ASCII
record IsFenceLine (cs info : List Code) : Type 0 where
  value : (nat_lt (first_value (trimmed cs)) 128 && not (first_value (trimmed cs) == 10)) ≡ true
  text : IsBefore (trimmed (drop (count_first (first_value (trimmed cs)) (trimmed cs)) (trimmed cs))) info

abbrev FirstBehind : List Code → List (List Code) → Type 0
FirstBehind cs [] = Unit {0}
FirstBehind cs (l ∷ ls) = IsBehind cs l

abbrev BegunOuter : List Code → Option Begun → Type 0
BegunOuter cs None = Unit {0}
BegunOuter cs (Some (container_begins c rest)) = IsBehind cs rest
BegunOuter cs (Some (leaf_begins (heading n text))) = IsBefore (trimmed (drop (count_first (byte "#") (trimmed cs)) (trimmed cs))) text
BegunOuter cs (Some (leaf_begins blank)) = Unit {0}
BegunOuter cs (Some (leaf_begins thematic_break)) = Unit {0}
BegunOuter cs (Some (leaf_begins (underlined n text))) = Unit {0}
BegunOuter cs (Some (leaf_begins (paragraph text))) = Unit {0}
BegunOuter cs (Some (leaf_begins (indented_code ls))) = FirstBehind cs ls
BegunOuter cs (Some (leaf_begins (fenced_code f info ls ended))) = IsFenceLine cs info
BegunOuter cs (Some (leaf_begins (html k text ended))) = Unit {0}
BegunOuter cs (Some (leaf_begins (table columns rows))) = Unit {0}
BegunOuter cs (Some (leaf_begins (front_matter ls))) = Unit {0}

of-container : (t cs : List Code) (o : Option (Container × List Code)) → IsBehind cs t → InsideOuter t o → BegunOuter cs (container_begun o)
of-container t cs None p h = tt
of-container t cs (Some r) p h = behind-more cs t r.1 p h

in-quote : (cs : List Code) (o : Option (List Code)) → RestOuter cs o → InsideOuter cs (in_quote o)
in-quote cs None h = tt
in-quote cs (Some rest) h = h

of-first : (cs : List Code) (o : Option Begun) (os : List (Option Begun)) → BegunOuter cs o → BegunOuter cs (first_of os) → BegunOuter cs (first_of (o ∷ os))
of-first cs None os h k = k
of-first cs (Some b) os h k = h

of-either : (cs : List Code) (b : Bool) (o p : Option Begun) → BegunOuter cs o → BegunOuter cs p → BegunOuter cs (if b then o else p)
of-either cs true o p h k = h
of-either cs false o p h k = k

heading-begun : (cs : List Code) (b : Bool) (n : ℕ) (text : List Code) → IsBefore (trimmed (drop (count_first (byte "#") (trimmed cs)) (trimmed cs))) text → BegunOuter cs (leaf_begun (only_if b (heading n text)))
heading-begun cs true n text h = h
heading-begun cs false n text h = tt

leaf-begun : (cs : List Code) (b : Bool) (l : Leaf) → (b ≡ true → BegunOuter cs (Some (leaf_begins l))) → BegunOuter cs (leaf_begun (only_if b l))
leaf-begun cs true l h = h refl
leaf-begun cs false l h = tt

fence-number : (n : ℕ) (m b : Bool) → (n == 126 || ((n == 96 || (m && n == 36)) && b)) ≡ true → (nat_lt n 128 && not (n == 10)) ≡ true
fence-number n m b h = grind (arith, nat_tests)

begun-has : (ext : Extensions) (in_paragraph after_text : Bool) (cs : List Code) → BegunOuter cs (begun (extensions_of ext) in_paragraph after_text cs)
begun-has ext in_paragraph after_text cs =
    let t = trimmed cs in
    let n = count_first (byte "#") t in
    let v = first_value t in
    let k = html_kind (trimmed cs) in
    of-either cs (nat_lt (indent cs) 4) _ _
    (of-first cs _ _ (of-container cs cs (quote_at cs) (behind-none cs) (in-quote cs (behind_quote cs) (quote-behind cs)))
    (of-first cs _ _ (heading-begun cs (is_between 1 6 n && is_gap (drop n t)) n (heading_text (trimmed_end (trimmed (drop n t)))) (text-before (trimmed (drop n t))))
    (of-first cs _ _ (leaf-begun cs (nat_le (fence_least v) (count_first v t) && may_be_info (extensions_of ext) v (drop (count_first v t) t)) (fenced_code (record { value = v; count = count_first v t; columns = indent cs }) (trimmed_end (trimmed (drop (count_first v t) t))) [] false)
    (λ e. record {
      value = fence-number v ext.math _ (second-true (nat_le (fence_least v) (count_first v t)) (may_be_info (extensions_of ext) v (drop (count_first v t) t)) e);
      text = trimmed-before (trimmed (drop (count_first v t) t));
    }))
    (of-first cs _ _ (leaf-begun cs (not (k == 0 || (k == 7 && after_text))) (html k cs (ends_html k cs)) (λ e. tt))
    (of-first cs _ _ (leaf-begun cs (is_break t) thematic_break (λ e. tt))
    (of-first cs None (container_begun (item_at in_paragraph (indent cs) t) ∷ []) tt
    (of-first cs _ [] (of-container t cs (item_at in_paragraph (indent cs) t) (trimmed-behind cs) (item-behind in_paragraph (indent cs) t (marker_at t) (marker-behind t (bullet_at t) (ordered_at t) (bullet-behind t) (ordered-behind t)))) tt)))))))
    (of-either cs (after_text || is_blank_line cs) None (Some (leaf_begins (indented_code (skip 4 cs ∷ [])))) tt (skip-behind 4 cs))

-- Counted.

take-front : (xs ys : List Code) → take (length xs) (xs ++ ys) ≡ xs
take-front [] ys = refl
take-front (x ∷ xs) ys = ap (λ l. x ∷ l) (take-front xs ys)

drop-front : (xs ys : List Code) → drop (length xs) (xs ++ ys) ≡ ys
drop-front [] ys = refl
drop-front (x ∷ xs) ys = drop-front xs ys

outer-taken : (cs rest : List Code) (k : ℕ) → k ≤ length cs → rest ≡ drop k cs → IsBehind cs rest → list_all is_outer (take k cs) ≡ true
outer-taken cs rest k l e h =
    let n : length h.front ≡ k = omega (arith, ap length h.whole, length-append h.front rest, ap length e, length-drop k cs, l) in
    ap (λ x. list_all is_outer x) (ap (λ j. take j cs) (sym n) ∙ ap (take (length h.front)) (sym h.whole) ∙ take-front h.front rest) ∙ h.outer

some-same : {A : Type 0} (P : Option A → Type 0) (a b : Option A) → a ≡ b → P a → P b
some-same P a b e h = subst P e h

-- the codes outside of a container that the line continues
pub outside-continued : (c : Container) (inside : Tree) (cs : List Code) (k : ℕ) → k ≤ length cs → rest_inside c inside cs ≡ Some (drop k cs) → list_all is_outer (take k cs) ≡ true
outside-continued c inside cs k l e = outer-taken cs (drop k cs) k l refl (some-same (RestOuter cs) (rest_inside c inside cs) (Some (drop k cs)) e (inside-behind c inside cs))

-- and of one that begins
pub outside-begun : (ext : Extensions) (p a : Bool) (c : Container) (cs : List Code) (k : ℕ) → k ≤ length cs → begun (extensions_of ext) p a cs ≡ Some (container_begins c (drop k cs)) → list_all is_outer (take k cs) ≡ true
outside-begun ext p a c cs k l e = outer-taken cs (drop k cs) k l refl (some-same (BegunOuter cs) (begun (extensions_of ext) p a cs) (Some (container_begins c (drop k cs))) e (begun-has ext p a cs))

indent-behind : (cs : List Code) → IsBehind cs (drop (indent cs) cs)
indent-behind cs = subst (λ r. IsBehind cs r) (span-drop is_blank cs) (trimmed-behind cs)

pub outside-trimmed : (cs : List Code) → indent cs ≤ length cs → list_all is_outer (take (indent cs) cs) ≡ true
outside-trimmed cs l = outer-taken cs (drop (indent cs) cs) (indent cs) l refl (indent-behind cs)

-- behind a row of one value, and blanks
row-rest : (v : ℕ) (cs : List Code)
    → drop (indent cs + (count_first v (trimmed cs) + indent (drop (count_first v (trimmed cs)) (trimmed cs)))) cs ≡ trimmed (drop (count_first v (trimmed cs)) (trimmed cs))
row-rest v cs =
    let t = trimmed cs in
    let n = count_first v t in
    let m = n + indent (drop n t) in
    sym (drop-drop m (indent cs) cs ∙ ap (λ k. drop k cs) (omega arith))
    ∙ ap (drop m) (sym (span-drop is_blank cs))
    ∙ sym (drop-drop (indent (drop n t)) n t ∙ ap (λ k. drop k t) (omega arith))
    ∙ sym (span-drop is_blank (drop n t))

outside-row : (v : ℕ) (cs : List Code) (k : ℕ) → (nat_lt v 128 && not (v == 10)) ≡ true → k ≤ length cs
    → k ≡ indent cs + (count_first v (trimmed cs) + indent (drop (count_first v (trimmed cs)) (trimmed cs))) → list_all is_outer (take k cs) ≡ true
outside-row v cs k o l e =
    let t = trimmed cs in
    let n = count_first v t in
    let row : IsBehind t (drop n t) = subst (λ r. IsBehind t r) (span-drop (is_value v) t) (behind-span (is_value v) (λ c h. same-number c.value v h o) t) in
    outer-taken cs (trimmed (drop n t)) k l (sym (ap (λ j. drop j cs) e ∙ row-rest v cs))
    (behind-more cs t (trimmed (drop n t)) (trimmed-behind cs) (behind-more t (drop n t) (trimmed (drop n t)) row (trimmed-behind (drop n t))))

-- before the text of a heading
pub outside-heading : (cs : List Code) (k : ℕ) → k ≤ length cs → k ≡ indent cs + heading_start (trimmed cs) → list_all is_outer (take k cs) ≡ true
outside-heading cs k l e = outside-row 35 cs k refl l e

-- before an info string
fence-line : (ext : Extensions) (p a : Bool) (cs : List Code) (f : Fence) (info : List Code) → begun (extensions_of ext) p a cs ≡ Some (leaf_begins (fenced_code f info [] false)) → IsFenceLine cs info
fence-line ext p a cs f info b = some-same (BegunOuter cs) (begun (extensions_of ext) p a cs) (Some (leaf_begins (fenced_code f info [] false))) b (begun-has ext p a cs)

pub outside-info : (ext : Extensions) (p a : Bool) (cs : List Code) (f : Fence) (info : List Code) (k : ℕ) → k ≤ length cs → k ≡ indent cs + fence_start (trimmed cs)
    → begun (extensions_of ext) p a cs ≡ Some (leaf_begins (fenced_code f info [] false)) → list_all is_outer (take k cs) ≡ true
outside-info ext p a cs f info k l e b = outside-row (first_value (trimmed cs)) cs k (fence-line ext p a cs f info b).value l e

-- before a line of code
pub outside-indented : (ext : Extensions) (p a : Bool) (cs : List Code) → 4 ≤ length cs → begun (extensions_of ext) p a cs ≡ Some (leaf_begins (indented_code (drop 4 cs ∷ []))) → list_all is_outer (take 4 cs) ≡ true
outside-indented ext p a cs l b = outer-taken cs (drop 4 cs) 4 l refl (some-same (BegunOuter cs) (begun (extensions_of ext) p a cs) (Some (leaf_begins (indented_code (drop 4 cs ∷ [])))) b (begun-has ext p a cs))

pub outside-fenced : (f : Fence) (cs : List Code) (k : ℕ) → k ≤ length cs → with_next no_extensions (fenced_code f [] [] false) cs ≡ Some (fenced_code f [] (drop k cs ∷ []) false) → list_all is_outer (take k cs) ≡ true
outside-fenced f cs k l e = by_case (is_closing f cs) e
  where
    by_case : (b : Bool) → ◌≡◌ {A = Option Leaf} (Some (with_fenced_line b f [] [] cs)) (Some (fenced_code f [] (drop k cs ∷ []) false)) → list_all is_outer (take k cs) ≡ true
    by_case true h = absurd (cc)
    by_case false h = outer-taken cs (skip f.columns cs) k l (cc) (skip-behind f.columns cs)

pub outside-further : (cs : List Code) (k : ℕ) → k ≤ length cs → with_next no_extensions (indented_code []) cs ≡ Some (indented_code (drop k cs ∷ [])) → list_all is_outer (take k cs) ≡ true
outside-further cs k l e = by_case (nat_le 4 (indent cs)) e
  where
    by_blank : (b : Bool) → ◌≡◌ {A = Option Leaf} (only_if b (indented_code (trimmed cs ∷ []))) (Some (indented_code (drop k cs ∷ []))) → list_all is_outer (take k cs) ≡ true
    by_blank true h = outer-taken cs (trimmed cs) k l (cc) (trimmed-behind cs)
    by_blank false h = absurd (cc)

    by_case : (b : Bool) → ◌≡◌ {A = Option Leaf} (with_indented_line b [] cs) (Some (indented_code (drop k cs ∷ []))) → list_all is_outer (take k cs) ≡ true
    by_case true h = outer-taken cs (skip 4 cs) k l (cc) (skip-behind 4 cs)
    by_case false h = by_blank (is_blank_line cs) h

first-ascii : (cs : List Code) → list_all is_ascii cs ≡ true → begins_ascii cs ≡ true
first-ascii [] h = refl
first-ascii (c ∷ cs) h = by_test (is_ascii c) h
  where
    by_test : (b : Bool) → (b && list_all is_ascii cs) ≡ true → b ≡ true
    by_test true k = refl
    by_test false k = k

length-taken : (j : ℕ) (xs : List Code) → j ≤ length xs → length (take j xs) ≡ j
length-taken zero xs h = refl
length-taken (suc j) [] h = absurd (omega arith)
length-taken (suc j) (x ∷ xs) h = ap suc (length-taken j xs (omega arith))

behind-row : (v : ℕ) (cs : List Code) (k len : ℕ) → k + len ≤ length cs → k ≡ indent cs + (count_first v (trimmed cs) + indent (drop (count_first v (trimmed cs)) (trimmed cs)))
    → IsBefore (trimmed (drop (count_first v (trimmed cs)) (trimmed cs))) (take len (drop k cs)) → begins_ascii (drop (k + len) cs) ≡ true
behind-row v cs k len l e before =
    let same : drop k cs ≡ trimmed (drop (count_first v (trimmed cs)) (trimmed cs)) = ap (λ j. drop j cs) e ∙ row-rest v cs in
    let m : length (take len (drop k cs)) ≡ len = length-taken len (drop k cs) (omega (arith, l, length-drop k cs)) in
    ap begins_ascii (sym (drop-drop len k cs) ∙ ap (drop len) same ∙ ap (drop len) (sym before.whole) ∙ ap (λ j. drop j (take len (drop k cs) ++ before.back)) (sym m) ∙ drop-front (take len (drop k cs)) before.back)
    ∙ first-ascii before.back before.ascii

-- behind them
pub behind-heading : (ext : Extensions) (p a : Bool) (cs : List Code) (n k len : ℕ) → k + len ≤ length cs → k ≡ indent cs + heading_start (trimmed cs) → begun (extensions_of ext) p a cs ≡ Some (leaf_begins (heading n (take len (drop k cs))))
    → begins_ascii (drop (k + len) cs) ≡ true
behind-heading ext p a cs n k len l e b =
    behind-row 35 cs k len l e (some-same (BegunOuter cs) (begun (extensions_of ext) p a cs) (Some (leaf_begins (heading n (take len (drop k cs))))) b (begun-has ext p a cs))

pub behind-info : (ext : Extensions) (p a : Bool) (cs : List Code) (f : Fence) (k len : ℕ) → k + len ≤ length cs → k ≡ indent cs + fence_start (trimmed cs)
    → begun (extensions_of ext) p a cs ≡ Some (leaf_begins (fenced_code f (take len (drop k cs)) [] false)) → begins_ascii (drop (k + len) cs) ≡ true
behind-info ext p a cs f k len l e b = behind-row (first_value (trimmed cs)) cs k len l e (fence-line ext p a cs f (take len (drop k cs)) b).text

-- a line that is not blank has more than its indent
pub filled-indent : (cs : List Code) → is_blank_line cs ≡ false → indent cs < length cs
filled-indent [] h = absurd (cc)
filled-indent (c ∷ cs) h = by_case (is_blank c) refl (filled-indent cs)
  where
    by_case : (b : Bool) → is_blank c ≡ b → (is_blank_line cs ≡ false → indent cs < length cs)
        → length (elim b as (λ _. List Code × List Code) [ true ↦ (c ∷ (span is_blank cs).0, (span is_blank cs).1) | false ↦ ([], c ∷ cs) ]).0 < suc (length cs)
    by_case true e f = omega (arith, f (sym (ap (λ v. (v || is_line_ending c) && is_blank_line cs) e) ∙ h))
    by_case false e f = omega arith
