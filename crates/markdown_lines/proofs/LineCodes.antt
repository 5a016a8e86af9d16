-- The codes of a line that is not blank.
use Rattle.std.proofs.Common.{◌≡◌, ℕ, ◌+◌, ◌<◌, ◌≤◌, inl, inr, Bool, true, false, ◌==◌, ◌&&◌, nat_lt, if◌then◌else◌, ap, refl, sym, ◌∙◌, subst, List, [], ◌∷◌, ◌++◌, drop, get_or, arith, append_assoc}
use Rattle.std.specs.List.{list_any}
use Rattle.std.proofs.lemmas.Bool.{cases_lt, or_parts}
use Rattle.std.proofs.lemmas.Bool.Decides.{nat_tests}
use Rattle.markdown_event.specs.declared.event.Point.{Point}
use Rattle.markdown_content.specs.Codes.{Code, tab_value, is_blank, is_line_ending, is_line_ending_byte, line_ending_len, next_column, place_of}
use Rattle.markdown_content.specs.Content.{ends_line, has_no_blank_line}
use Rattle.markdown_content.specs.DocumentWalk.{IsPoint}
use Rattle.markdown_content.proofs.PlaceOrder.{is_before}
use Rattle.markdown_content.proofs.AdjacentCodes.{head_same, tail_same, cons≢nil}
use Rattle.markdown_content.proofs.DocumentCodes.{code_here, len-bounds, stop_at, tab_left}
use Rattle.markdown_content.proofs.DocumentWalkLemmas.{stop-ending, value-ending}
use Rattle.markdown_content.proofs.DocumentPlaces.{stands-point}
use Rattle.markdown_content.proofs.ContentCodes.{none-before}
use Rattle.markdown_content.proofs.CodesBetween.{IsFirstTo, codes_to, shape, to-cases}
use Rattle.markdown_lines.specs.PiecesOfLines.{is_blank_byte}

-- One code.

other-by : (b : ℕ) (t : Bool) → is_line_ending_byte b ≡ false → (if t then 32 else b) == 10 ≡ false
other-by b t h = grind (arith, nat_tests)

-- no line ending begins where no byte of one stands
other-code : (bytes : List ℕ) (p : Point) → is_line_ending_byte (get_or bytes p.index 0) ≡ false → is_line_ending (code_here bytes p) ≡ false
other-code bytes p h = rw h (other-by (get_or bytes p.index 0) (get_or bytes p.index 0 == tab_value && nat_lt 0 p.vs) h)

near-by : (p : Point) (t : Bool) → (if t then next_column p p.index (p.vs + 1) else next_column p (p.index + 1) 0).index ≤ p.index + 1
near-by p t = grind arith

-- and it is not longer than a byte
pub near-code : (bytes : List ℕ) (p : Point) → is_line_ending_byte (get_or bytes p.index 0) ≡ false → (stop_at bytes p).index ≤ p.index + 1
near-code bytes p h = rw h (near-by p (get_or bytes p.index 0 == tab_value && nat_lt 0 (tab_left p)))

ending-code : (bytes : List ℕ) (p : Point) → is_line_ending_byte (get_or bytes p.index 0) ≡ true → is_line_ending (code_here bytes p) ≡ true
ending-code bytes p h = ap (λ (n : ℕ). n == 10) (sym (value-ending bytes p h))

ink-by : (b : ℕ) (t : Bool) → is_blank_byte b ≡ false → (b == tab_value && t) ≡ false
ink-by b t h = grind (arith, nat_tests)

-- a code that is neither blank nor a line ending
ink-code : (bytes : List ℕ) (p : Point) → is_line_ending_byte (get_or bytes p.index 0) ≡ false → is_blank_byte (get_or bytes p.index 0) ≡ false → is_blank (code_here bytes p) ≡ false
ink-code bytes p h k = rw (h, ink-by (get_or bytes p.index 0) (nat_lt 0 p.vs) k) k

-- Codes from one place to another.

order-indexes : (a b c d : ℕ) → a < c → is_before (c, d) (a, b) ≡ false
order-indexes a b c d h = grind (arith, nat_tests)

later-indexes : (a b c d : ℕ) → is_before (c, d) (a, b) ≡ false → a ≤ c
later-indexes a b c d h = grind (arith, nat_tests)

inside-indexes : (a b c d : ℕ) → is_before (c, d) (a, b) ≡ false → d ≡ 0 → 0 < b → a < c
inside-indexes a b c d h e k = grind (arith, nat_tests)

not-earlier : (a b c d : ℕ) → c ≤ a → d ≡ 0 → is_before (a, b) (c, d) ≡ false
not-earlier a b c d h e = grind (arith, nat_tests)

-- where there is a code on the way to the start of a byte, its own byte stands before
low-index : (bytes : List ℕ) (p q : Point) → IsPoint bytes p → IsFirstTo bytes p q → q.vs ≡ 0 → p.index < q.index
low-index bytes p q h f e = grind (arith, later-indexes, shape, stands-point, inside-indexes)

pub next-index : (bytes : List ℕ) (p : Point) → IsPoint bytes p → p.index ≤ (stop_at bytes p).index
next-index bytes p h = grind (arith, shape, stands-point)

any-other : (c : Code) (cs : List Code) → is_line_ending c ≡ false → list_any is_line_ending cs ≡ false → list_any is_line_ending (c ∷ cs) ≡ false
any-other c cs h k = rw (h, k) refl

-- between two places with no byte of a line ending there is no line ending
pub plain-codes : (bytes : List ℕ) (p q : Point) (cs : List Code) → codes_to bytes p q ≡ cs → IsPoint bytes p → IsPoint bytes q → is_before (place_of q) (place_of p) ≡ false → q.vs ≡ 0
    → ((k : ℕ) → p.index ≤ k → k < q.index → is_line_ending_byte (get_or bytes k 0) ≡ false) → list_any is_line_ending cs ≡ false
plain-codes bytes p q [] e h k l vs free = refl
plain-codes bytes p q (c ∷ cs) e h k l vs free =
    elim (to-cases bytes p q h k l) [
      | inl f ↦
          let s : Point = stop_at bytes p in
          let is : c ≡ code_here bytes p = head_same c (code_here bytes p) cs (codes_to bytes s q) (sym e ∙ f.codes) in
          let rest : codes_to bytes s q ≡ cs = sym (tail_same c (code_here bytes p) cs (codes_to bytes s q) (sym e ∙ f.codes)) in
          let other : is_line_ending c ≡ false = ap is_line_ending is ∙ other-code bytes p (free p.index (omega arith) (low-index bytes p q h f vs)) in
          any-other c cs other (plain-codes bytes s q cs rest f.point k f.reached vs (λ j low high. free j (omega (arith, low, next-index bytes p h)) high))
      | inr a ↦ absurd (cons≢nil c cs (sym e ∙ a.none))
    ]

-- codes up to a line ending
pub record IsWholeLine (cs : List Code) : Type 0 where
  pub front : List Code
  pub last : Code
  pub parts : cs ≡ front ++ last ∷ []
  pub plain : list_any is_line_ending front ≡ false
  pub ending : is_line_ending last ≡ true

-- a line ending, and the place just behind it
pub record IsEnding (bytes : List ℕ) (stop : ℕ) (q : Point) : Type 0 where
  pub ending : is_line_ending_byte (get_or bytes stop 0) ≡ true
  pub index : q.index ≡ stop + line_ending_len (get_or bytes stop 0) (drop (stop + 1) bytes)
  pub vs : q.vs ≡ 0
  pub point : IsPoint bytes q

behind-ending : (bytes : List ℕ) (stop : ℕ) (q : Point) → IsEnding bytes stop q → stop < q.index
behind-ending bytes stop q e = omega (arith, e.index, (len-bounds (get_or bytes stop 0) (drop (stop + 1) bytes)).0)

-- at the line ending there is one code left
one-left : (bytes : List ℕ) (p q : Point) → IsPoint bytes p → IsFirstTo bytes p q → IsEnding bytes p.index q → codes_to bytes (stop_at bytes p) q ≡ []
one-left bytes p q h f e = grind (arith, stop-ending, none-before, not-earlier)

pub line-codes : (bytes : List ℕ) (stop : ℕ) (p q : Point) (cs : List Code) → codes_to bytes p q ≡ cs → IsPoint bytes p → IsEnding bytes stop q → p.index ≤ stop
    → ((k : ℕ) → p.index ≤ k → k < stop → is_line_ending_byte (get_or bytes k 0) ≡ false) → IsWholeLine cs
line-codes bytes stop p q [] e h z le free = grind (arith, behind-ending, to-cases, order-indexes, cons≢nil)
line-codes bytes stop p q (c ∷ cs) e h z le free =
    let lt : p.index < q.index = omega (arith, le, behind-ending bytes stop q z) in
    elim (to-cases bytes p q h z.point (order-indexes p.index p.vs q.index q.vs lt)) [
      | inl f ↦
          let s : Point = stop_at bytes p in
          let is : c ≡ code_here bytes p = head_same c (code_here bytes p) cs (codes_to bytes s q) (sym e ∙ f.codes) in
          let rest : codes_to bytes s q ≡ cs = sym (tail_same c (code_here bytes p) cs (codes_to bytes s q) (sym e ∙ f.codes)) in
          elim (cases_lt p.index stop) [
            | inl k ↦
                let plain : is_line_ending_byte (get_or bytes p.index 0) ≡ false = free p.index (omega arith) k in
                let more : IsWholeLine cs = line-codes bytes stop s q cs rest f.point z (omega (arith, k, near-code bytes p plain)) (λ j low high. free j (omega (arith, low, next-index bytes p h)) high) in
                record {
                  front = c ∷ more.front;
                  last = more.last;
                  parts = ap (λ (xs : List Code). c ∷ xs) more.parts;
                  plain = any-other c more.front (ap is_line_ending is ∙ other-code bytes p plain) more.plain;
                  ending = more.ending;
                }
            | inr k ↦
                let same : stop ≡ p.index = omega (arith, k, le) in
                let here : IsEnding bytes p.index q = subst (λ (n : ℕ). IsEnding bytes n q) same z in
                record {
                  front = [];
                  last = c;
                  parts = ap (λ (xs : List Code). c ∷ xs) (sym rest ∙ one-left bytes p q h f here);
                  plain = refl;
                  ending = ap is_line_ending is ∙ ending-code bytes p here.ending;
                }
          ]
      | inr a ↦ absurd (cons≢nil c cs (sym e ∙ a.none))
    ]

-- What rests on this.

pub ends-push : (xs : List Code) (c : Code) → ends_line (xs ++ c ∷ []) ≡ is_line_ending c
ends-push [] c = refl
ends-push (x ∷ []) c = refl
ends-push (x ∷ y ∷ ys) c = ends-push (y ∷ ys) c

pub whole-ends : (cs : List Code) → IsWholeLine cs → ends_line cs ≡ true
whole-ends cs w = ap ends_line w.parts ∙ ends-push w.front w.last ∙ w.ending

filled-one : (c : Code) (cs : List Code) → is_line_ending c ≡ false → has_no_blank_line true (c ∷ cs) ≡ has_no_blank_line true cs
filled-one c cs h = rw (h, has_no_blank_line) refl

-- past codes without a line ending, on a line that is filled
pub filled-plain : (cs rest : List Code) → list_any is_line_ending cs ≡ false → has_no_blank_line true (cs ++ rest) ≡ has_no_blank_line true rest
filled-plain [] rest h = refl
filled-plain (c ∷ cs) rest h = grind (arith, or_parts, filled-one, filled-plain cs rest)

ended-one : (c : Code) (cs : List Code) → is_line_ending c ≡ true → has_no_blank_line true (c ∷ cs) ≡ has_no_blank_line false cs
ended-one c cs h = rw (h, has_no_blank_line) refl

-- past the rest of a line that is filled
pub filled-whole : (cs rest : List Code) → IsWholeLine cs → has_no_blank_line true (cs ++ rest) ≡ has_no_blank_line false rest
filled-whole cs rest w =
    ap (λ (xs : List Code). has_no_blank_line true (xs ++ rest)) w.parts
    ∙ ap (has_no_blank_line true) (append_assoc w.front (w.last ∷ []) rest)
    ∙ filled-plain w.front (w.last ∷ rest) w.plain
    ∙ ended-one w.last rest w.ending

pub ink-fills : (bytes : List ℕ) (p : Point) (cs : List Code) → is_line_ending_byte (get_or bytes p.index 0) ≡ false → is_blank_byte (get_or bytes p.index 0) ≡ false
    → has_no_blank_line false (code_here bytes p ∷ cs) ≡ has_no_blank_line true cs
ink-fills bytes p cs h k = grind (arith, other-code, ink-code)
