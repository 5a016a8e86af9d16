-- The codes of a text that is escaped: codes that mean themselves, and escapes.
use Rattle.std.proofs.Common.{◌≡◌, ℕ, zero, suc, ◌+◌, ◌-◌, ◌==◌, Bool, true, false, not, List, [], ◌∷◌, ◌++◌, length, drop, map, if◌then◌else◌, refl, sym, ap, subst, ◌∙◌, arith, inl, inr, append-nil, rules}
use Rattle.std.specs.Prelude.{slice_range}
use Rattle.markdown_engine.proofs.SolidTrees.{stop_of-append}
use Rattle.std.proofs.Math.Bool.{and-false}
use Rattle.std.specs.List.{list_any, list_all}
use Rattle.std.proofs.lemmas.List.{drop-drop}
use Rattle.std.proofs.lemmas.Bool.{or_cases, or_parts, and_parts, eqb-true, both_ways, lt-ltb, not-true}
use Rattle.markdown_event.specs.declared.event.Point.{Point}
use Rattle.markdown_content.specs.Codes.{Code, codes_from, codes_of_tab, tab_width, next_column, stop_of, document_start, is_line_ending_byte, tab_value, line_feed, carriage_return}
use Rattle.markdown_content.specs.Slices.{byte_from}
use Rattle.markdown_model.specs.CodeTests.{is_ascii_punctuation}
use Rattle.markdown_model_laws.specs.EscapedText.{punctuation, is_punctuation, escaped, has_one_line}
use Rattle.markdown_model_laws.proofs.LentSlices.{codes_bytes, codes_bytes-append, slice-none}

pub data Item : Type 0 where
  itself : Code → Item
  escape_of : Code → Code → Item

abbrev pub item_codes : List Item → List Code
item_codes [] = []
item_codes (itself c ∷ is) = c ∷ item_codes is
item_codes (escape_of slash c ∷ is) = slash ∷ c ∷ item_codes is

-- without the backslashes
abbrev pub kept_codes : List Item → List Code
kept_codes [] = []
kept_codes (itself c ∷ is) = c ∷ kept_codes is
kept_codes (escape_of slash c ∷ is) = c ∷ kept_codes is

-- no line ending, no `&` and no backslash
abbrev pub IsOrdinary : ℕ → Type 0
IsOrdinary n = (n == 10 ≡ false) × (n == 38 ≡ false) × (n == 92 ≡ false)

abbrev pub IsItem : Item → Type 0
IsItem (itself c) = IsOrdinary c.value
IsItem (escape_of slash c) = (slash.value == 92 ≡ true) × (is_ascii_punctuation c ≡ true)

abbrev pub AreEscapedItems : List Item → Type 0
AreEscapedItems [] = Unit {0}
AreEscapedItems (i ∷ is) = IsItem i × AreEscapedItems is

-- Codes that mean themselves.

abbrev selves : List Code → List Item
selves cs = map itself cs

selves-codes : (cs : List Code) (is : List Item) → item_codes (selves cs ++ is) ≡ cs ++ item_codes is
selves-codes [] is = refl
selves-codes (c ∷ cs) is = ap (λ x. c ∷ x) (selves-codes cs is)

selves-kept : (cs : List Code) (is : List Item) → kept_codes (selves cs ++ is) ≡ cs ++ kept_codes is
selves-kept [] is = refl
selves-kept (c ∷ cs) is = ap (λ x. c ∷ x) (selves-kept cs is)

tab-items : (v n : ℕ) (p : Point) (is : List Item) → IsOrdinary v → AreEscapedItems is →
    AreEscapedItems (selves (codes_of_tab v n p) ++ is)
tab-items v zero p is h k = (h, k)
tab-items v (suc n) p is h k = (h, tab-items 32 n (next_column p p.index (p.vs + 1)) is (refl, refl, refl) k)

tab-bytes : (all : List ℕ) (v n : ℕ) (p : Point) →
    codes_bytes all (codes_of_tab v n p) ≡ slice_range all (byte_from p) (p.index + 1)
tab-bytes all v zero p = append-nil (slice_range all (byte_from p) (p.index + 1))
tab-bytes all v (suc n) p = grind (arith, tab-bytes all 32 n (next_column p p.index (p.vs + 1)), slice-none, append-nil, lt-ltb)

-- the place after these codes, by its index
pub record StandsAtIndex (p : Point) (i : ℕ) : Type 0 where
  pub index : p.index ≡ i
  pub vs : p.vs ≡ 0

tab-end : (v n : ℕ) (p q : Point) → StandsAtIndex (stop_of q (codes_of_tab v n p)) (p.index + 1)
tab-end v zero p q = record { index = refl; vs = refl }
tab-end v (suc n) p q =
    let r : Point = next_column p p.index (p.vs + 1) in
    tab-end 32 n r r

-- Bytes by their kind.

of-list : (p : ℕ → Bool) (ns : List ℕ) (b : ℕ) → list_all p ns ≡ true → list_any (λ n. b == n) ns ≡ true → p b ≡ true
of-list p [] b h k = cc
of-list p (n ∷ ns) b h k =
    let parts = and_parts (p n) (list_all p ns) h in
    elim (or_cases (b == n) (list_any (λ m. b == m) ns) k) [
      | inl e ↦ subst (λ m. p m ≡ true) (sym (eqb-true b n e)) parts.0
      | inr more ↦ of-list p ns b parts.1 more
    ]

not-of-list : (b m : ℕ) → is_punctuation b ≡ false → is_punctuation m ≡ true → b == m ≡ false
not-of-list b m h k = grind (arith, both_ways, eqb-true)

is-punctuation : (b : ℕ) (p q : Point) → is_punctuation b ≡ true →
    is_ascii_punctuation (record { value = b; start = p; stop = q }) ≡ true
is-punctuation b p q h =
    of-list (λ n. is_ascii_punctuation (record { value = n; start = document_start; stop = document_start })) punctuation b refl h

-- it is neither a line ending nor a tab
abbrev IsOneColumn : ℕ → Type 0
IsOneColumn b = ((b == line_feed) ≡ false) × ((b == carriage_return) ≡ false) × ((b == tab_value) ≡ false)

plain-punctuation : (b : ℕ) → is_punctuation b ≡ true → IsOneColumn b
plain-punctuation b h = (not-true (b == 10) (test 10 refl), not-true (b == 13) (test 13 refl), not-true (b == 9) (test 9 refl))
  where
    test : (m : ℕ) → list_all (λ n. not (n == m)) punctuation ≡ true → not (b == m) ≡ true
    test m k = of-list (λ n. not (n == m)) punctuation b k h

-- A text, byte by byte.

-- codes that begin here, and what they spell of a text in the end
pub record SpellsText (all : List ℕ) (p : Point) (cs : List Code) (text : List ℕ) : Type 0 where
  pub items : List Item
  pub are : AreEscapedItems items
  pub codes : item_codes items ≡ cs
  pub bytes : codes_bytes all (kept_codes items) ≡ text
  pub ends : StandsAtIndex (stop_of p cs) (length all)

-- the rest of the text begins at this place
pub record TextIsHere (all : List ℕ) (p : Point) (rest : List ℕ) : Type 0 where
  pub vs : p.vs ≡ 0
  pub bytes : drop p.index all ≡ rest
  pub size : p.index + length rest ≡ length all

here-next : (all : List ℕ) (p q : Point) (b : ℕ) (rest : List ℕ) → TextIsHere all p (b ∷ rest) → StandsAtIndex q (p.index + 1) →
    TextIsHere all q rest
here-next all p q b rest h e = record {
  vs = e.vs;
  bytes = ap (λ n. drop n all) e.index ∙ sym (drop-drop 1 p.index all) ∙ ap (λ xs. drop 1 xs) h.bytes;
  size = omega (arith, e.index, h.size);
}

here-byte : (all : List ℕ) (p : Point) (b : ℕ) (rest : List ℕ) → TextIsHere all p (b ∷ rest) →
    slice_range all (byte_from p) (p.index + 1) ≡ b ∷ []
here-byte all p b rest h = grind arith

-- the codes of a byte that is no line ending
abbrev codes_here : ℕ → Point → List Code
codes_here b p =
    if b == tab_value then codes_of_tab tab_value (tab_width p - 1) p else record { value = b; start = p; stop = next_column p (p.index + 1) 0 } ∷ []

first-codes : (before : ℕ) (p : Point) (b : ℕ) (rest : List ℕ) → b == line_feed ≡ false → b == carriage_return ≡ false
    → codes_from before p (b ∷ rest) ≡ codes_here b p ++ codes_from b (stop_of p (codes_here b p)) rest
first-codes before p b rest h k = grind (arith, and-false)

here-end : (b : ℕ) (p q : Point) → StandsAtIndex (stop_of q (codes_here b p)) (p.index + 1)
here-end b p q = grind (arith, tab-end)

here-bytes : (all : List ℕ) (b : ℕ) (p : Point) →
    codes_bytes all (codes_here b p) ≡ slice_range all (byte_from p) (p.index + 1)
here-bytes all b p = grind (arith, tab-bytes, append-nil)

here-items : (b : ℕ) (p : Point) (is : List Item) → IsOrdinary b → AreEscapedItems is →
    AreEscapedItems (selves (codes_here b p) ++ is)
here-items b p is h k = grind (arith, tab-items)

-- a byte that means itself, and the rest
with-byte : (all : List ℕ) (before : ℕ) (p : Point) (b : ℕ) (rest text : List ℕ) → IsOrdinary b → b == carriage_return ≡ false → TextIsHere all p (b ∷ rest)
    → SpellsText all (stop_of p (codes_here b p)) (codes_from b (stop_of p (codes_here b p)) rest) text →
    SpellsText all p (codes_from before p (b ∷ rest)) (b ∷ text)
with-byte all before p b rest text o cr h r = record {
  items = selves (codes_here b p) ++ r.items;
  are = here-items b p r.items o r.are;
  codes = selves-codes (codes_here b p) r.items ∙ ap (λ x. codes_here b p ++ x) r.codes ∙ sym first;
  bytes = ap (codes_bytes all) (selves-kept (codes_here b p) r.items) ∙ codes_bytes-append all (codes_here b p) (kept_codes r.items) ∙ (λ i. (here-bytes all b p ∙ here-byte all p b rest h) i ++ r.bytes i);
  ends = subst (λ q. StandsAtIndex q (length all)) (sym (ap (stop_of p) first ∙ stop_of-append p (codes_here b p) (codes_from b (stop_of p (codes_here b p)) rest))) r.ends;
}
  where
    first : codes_from before p (b ∷ rest) ≡ codes_here b p ++ codes_from b (stop_of p (codes_here b p)) rest
    first = first-codes before p b rest o.0 cr

-- an escape, and the rest
with-escape : (all : List ℕ) (before : ℕ) (p q : Point) (b : ℕ) (rest text : List ℕ) → q ≡ next_column p (p.index + 1) 0 → is_punctuation b ≡ true → TextIsHere all q (b ∷ rest)
    → SpellsText all (next_column q (q.index + 1) 0) (codes_from b (next_column q (q.index + 1) 0) rest) text → SpellsText all p (codes_from before p (92 ∷ b ∷ rest)) (b ∷ text)
with-escape all before p q b rest text e punct h r = record {
  items = escape_of slash value ∷ r.items;
  are = ((refl, is-punctuation b q (next_column q (q.index + 1) 0) punct), r.are);
  codes = ap (λ x. slash ∷ value ∷ x) r.codes ∙ sym first;
  bytes = λ i. here-byte all q b rest h i ++ r.bytes i;
  ends = subst (λ z. StandsAtIndex z (length all)) (sym (ap (stop_of p) first)) r.ends;
}
  where
    slash : Code
    slash = record { value = 92; start = p; stop = q }

    value : Code
    value = record { value = b; start = q; stop = next_column q (q.index + 1) 0 }

    plain : IsOneColumn b
    plain = plain-punctuation b punct

    alone : codes_here b q ≡ value ∷ []
    alone = ap (λ t. if t then codes_of_tab tab_value (tab_width q - 1) q else value ∷ []) plain.2

    first : codes_from before p (92 ∷ b ∷ rest) ≡ slash ∷ value ∷ codes_from b (next_column q (q.index + 1) 0) rest
    first = grind (arith, first-codes, plain, alone)

one-line : (b : ℕ) (bs : List ℕ) → has_one_line (b ∷ bs) ≡ true →
    ((b == line_feed) ≡ false) × ((b == carriage_return) ≡ false) × (has_one_line bs ≡ true)
one-line b bs h = grind (arith, and_parts (not (is_line_ending_byte b)) (has_one_line bs) h, or_parts, not-true)

pub read : (all : List ℕ) (text : List ℕ) (before : ℕ) (p : Point) → has_one_line text ≡ true →
    TextIsHere all p (escaped text) → SpellsText all p (codes_from before p (escaped text)) text
read all [] before p one h = search (rules)
read all (b ∷ bs) before p one h = by_test (is_punctuation b) refl h (λ c q k. read all bs c q line.2 k)
  where
    line : ((b == line_feed) ≡ false) × ((b == carriage_return) ≡ false) × (has_one_line bs ≡ true)
    line = one-line b bs one

    by_test : (t : Bool) → is_punctuation b ≡ t → TextIsHere all p ((if t then 92 ∷ b ∷ [] else b ∷ []) ++ escaped bs)
        → ((c : ℕ) (q : Point) → TextIsHere all q (escaped bs) → SpellsText all q (codes_from c q (escaped bs)) bs)
        → SpellsText all p (codes_from before p ((if t then 92 ∷ b ∷ [] else b ∷ []) ++ escaped bs)) (b ∷ bs)
    by_test true e k more =
        let q : Point = next_column p (p.index + 1) 0 in
        let r : Point = next_column q (q.index + 1) 0 in
        let there : TextIsHere all q (b ∷ escaped bs) = here-next all p q 92 (b ∷ escaped bs) k (record { index = refl; vs = refl }) in
        with-escape all before p q b (escaped bs) bs refl e there (more b r (here-next all q r b (escaped bs) there (record { index = refl; vs = refl })))
    by_test false e k more =
        let q : Point = stop_of p (codes_here b p) in
        with-byte all before p b (escaped bs) bs (line.0, not-of-list b 38 e refl, not-of-list b 92 e refl) line.1 k (more b q (here-next all p q b (escaped bs) k (here-end b p p)))
