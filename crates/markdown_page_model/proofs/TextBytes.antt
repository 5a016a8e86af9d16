-- The text of the codes of some bytes is these bytes, where no line ending is among them.
use Rattle.std.proofs.Common.{◌≡◌, ◌∙◌, refl, sym, ap, subst, ℕ, zero, suc, ◌+◌, ◌-◌, Bool, true, false, ◌&&◌, ◌||◌, ◌==◌, not, nat_lt, if◌then◌else◌, List, [], ◌∷◌, ◌++◌, arith}
use Rattle.std.specs.List.{filter, list_any}
use Rattle.std.specs.Prelude.{cond}
use Rattle.std.proofs.lemmas.Bool.{eqb-true}
use Rattle.std.proofs.lemmas.Bool.Decides.{nat_tests}
use Rattle.std.proofs.lemmas.List.Elements.{filter-append}
use Rattle.markdown_event.specs.declared.event.Point.{Point}
use Rattle.markdown_content.specs.Codes.{Code, tab_value, line_feed, carriage_return, space_value, line_start, line_ending_len, next_column, tab_width, codes_of_tab, codes_of_byte, codes_from, is_line_ending_byte, stop_of}
use Rattle.markdown_model.specs.CodeTests.{values_of}
use Rattle.markdown_model.specs.Grammar.{span}
use Rattle.markdown_page_model.specs.PageTexts.{is_later_column, text_of}
use Rattle.markdown_page_model.specs.PageLaws.{TextsAreBytes}

abbrev pub kept : List Code → List Code
kept cs = filter (λ c. not (is_later_column c)) cs

keeps : (c : Code) (cs : List Code) → c.start.vs ≡ 0 → kept (c ∷ cs) ≡ c ∷ kept cs
keeps c cs e = ap (λ n. cond (not (nat_lt 0 n)) (c ∷ kept cs) (kept cs)) e

drops : (c : Code) (cs : List Code) → nat_lt 0 c.start.vs ≡ true → kept (c ∷ cs) ≡ kept cs
drops c cs e = ap (λ b. cond (not b) (c ∷ kept cs) (kept cs)) e

one-more : (n : ℕ) → nat_lt 0 (n + 1) ≡ true
one-more n = grind (arith, nat_tests)

-- Tabs.

later-none : (n v : ℕ) (q : Point) → nat_lt 0 q.vs ≡ true → kept (codes_of_tab v n q) ≡ []
later-none zero v q e = drops _ [] e
later-none (suc n) v q e =
    let next = next_column q q.index (q.vs + 1) in
    drops (record { value = v; start = q; stop = next }) (codes_of_tab space_value n next) e ∙ later-none n space_value next (one-more q.vs)

tab-once : (n v : ℕ) (p : Point) → p.vs ≡ 0 → values_of (kept (codes_of_tab v n p)) ≡ v ∷ []
tab-once zero v p e = ap values_of (keeps _ [] e)
tab-once (suc n) v p e =
    let next = next_column p p.index (p.vs + 1) in
    ap values_of (keeps (record { value = v; start = p; stop = next }) (codes_of_tab space_value n next) e)
    ∙ ap (λ cs. v ∷ values_of cs) (later-none n space_value next (one-more p.vs))

tab-stop : (n v : ℕ) (p r : Point) → (stop_of r (codes_of_tab v n p)).vs ≡ 0
tab-stop zero v p r = refl
tab-stop (suc n) v p r = tab-stop n space_value (next_column p p.index (p.vs + 1)) (next_column p p.index (p.vs + 1))

-- the first code is whole
abbrev pub BeginsWhole : List Code → Type 0
BeginsWhole [] = ⊥
BeginsWhole (c ∷ cs) = c.start.vs ≡ 0

tab-begins : (n v : ℕ) (p : Point) → p.vs ≡ 0 → BeginsWhole (codes_of_tab v n p)
tab-begins zero v p e = e
tab-begins (suc n) v p e = e

append-begins : (cs ds : List Code) → BeginsWhole cs → BeginsWhole (cs ++ ds)
append-begins [] ds h = absurd h
append-begins (c ∷ cs) ds h = h

-- Bytes.

-- the codes say this byte, and the place behind them is in no tab
abbrev pub SayByte : Point → ℕ → List Code → Type 0
SayByte p b cs = (values_of (kept cs) ≡ b ∷ []) × ((stop_of p cs).vs ≡ 0) × BeginsWhole cs

by-tab : (p : Point) (b : ℕ) (d : Bool) → (b == tab_value) ≡ d → p.vs ≡ 0
    → SayByte p b (if d then codes_of_tab tab_value (tab_width p - 1) p else record { value = b; start = p; stop = next_column p (p.index + 1) 0 } ∷ [])
by-tab p b true h e =
    (tab-once (tab_width p - 1) tab_value p e ∙ ap (λ v. v ∷ []) (sym (eqb-true b tab_value h)), tab-stop (tab_width p - 1) tab_value p p, tab-begins (tab_width p - 1) tab_value p e)
by-tab p b false h e = (ap values_of (keeps _ [] e), refl, e)

byte : (p : Point) (b : ℕ) (rest : List ℕ) → p.vs ≡ 0 → is_line_ending_byte b ≡ false → SayByte p b (codes_of_byte p b rest)
byte p b rest e h =
    subst (λ c. SayByte p b (if c then record { value = line_feed; start = p; stop = line_start (p.line + 1) (p.index + line_ending_len b rest) } ∷ []
    else (if b == tab_value then codes_of_tab tab_value (tab_width p - 1) p else record { value = b; start = p; stop = next_column p (p.index + 1) 0 } ∷ [])))
    (sym h) (by-tab p b (b == tab_value) refl e)

first-false : (x y : Bool) → (x || y) ≡ false → x ≡ false
first-false false y h = refl
first-false true y h = h

second-false : (x y : Bool) → (x || y) ≡ false → y ≡ false
second-false false y h = h
second-false true y h = grind arith

both-false : (x y : Bool) → y ≡ false → (x && y) ≡ false
both-false true y h = h
both-false false y h = refl

values-append : (xs ys : List Code) → values_of (xs ++ ys) ≡ values_of xs ++ values_of ys
values-append [] ys = refl
values-append (x ∷ xs) ys = ap (λ vs. x.value ∷ vs) (values-append xs ys)

-- the codes say these bytes, and begin with a whole one
abbrev pub Say : List ℕ → List Code → Type 0
Say [] cs = cs ≡ []
Say (b ∷ bs) cs = (values_of (kept cs) ≡ b ∷ bs) × BeginsWhole cs

said : (bytes : List ℕ) (cs : List Code) → Say bytes cs → values_of (kept cs) ≡ bytes
said [] cs h = ap (λ cs. values_of (kept cs)) h
said (b ∷ bs) cs h = h.0

say : (bytes : List ℕ) (before : ℕ) (p : Point) → p.vs ≡ 0 → list_any is_line_ending_byte bytes ≡ false → Say bytes (codes_from before p bytes)
say [] before p e h = refl
say (b ∷ rest) before p e h =
    let here = codes_of_byte p b rest in
    let more = codes_from b (stop_of p here) rest in
    let none = first-false (is_line_ending_byte b) (list_any is_line_ending_byte rest) h in
    let first = byte p b rest e none in
    let later = said rest more (say rest b (stop_of p here) first.1 (second-false (is_line_ending_byte b) (list_any is_line_ending_byte rest) h)) in
    subst (λ c. Say (b ∷ rest) (elim c [ true ↦ codes_from b p rest | false ↦ here ++ more ]))
    (sym (both-false (before == carriage_return) (b == line_feed) (first-false (b == line_feed) (b == carriage_return) none))) (
      ap values_of (filter-append (λ (c : Code). not (is_later_column c)) here more) ∙ values-append (kept here) (kept more)
          ∙ ap (λ vs. vs ++ values_of (kept more)) first.0 ∙ ap (λ vs. b ∷ vs) later,
      append-begins here more first.2,
    )

whole : (cs : List Code) → BeginsWhole cs → text_of cs ≡ values_of (kept cs)
whole [] h = refl
whole (c ∷ cs) h =
    ap (λ n. let s : List Code × List Code = elim (nat_lt 0 n) [ true ↦ let s = span is_later_column cs in (c ∷ s.0, s.1) | false ↦ ([], c ∷ cs) ] in values_of s.0 ++ values_of (kept s.1)) h

text : (bytes : List ℕ) (cs : List Code) → Say bytes cs → text_of cs ≡ bytes
text [] cs h = ap text_of h
text (b ∷ bs) cs h = whole cs h.1 ∙ h.0

pub texts-are-bytes : TextsAreBytes
texts-are-bytes before p bytes e h = text bytes (codes_from before p bytes) (say bytes before p e h)
